-- `settling::suffer` meets its contract. The loop's invariant: the units passed have suffered.
-- Assumes nothing.
use Rattle.field.proofs.Making.{Making}
use Rattle.results.specs.Results.{suffers}
use Rattle.results.proofs.settling.suffer.Given as goal

abbrev pub invariant-loop-u : goal.invariant-loop-u
invariant-loop-u l = Making (suffers l.fate) l.initial.p l.v l.us l.u-index l.p
