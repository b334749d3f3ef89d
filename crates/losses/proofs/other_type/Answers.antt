-- `losses::other_type` meets its contract: whether the list names the unit is asked first, then its type.
-- Assumes nothing.
use Prim.Native.Nat.{ℕ}
use mathlib.Core.Bool.{not}
use mathlib.Core.Path.{ap, sym, ◌∙◌}
use native.Mathlib.Omega.{arith}
use lib.Dec.{eqb}
use lib.ListN.{length}
use Rattle.aftermath.proofs.Losing.{named_whole, other_named, other_unnamed}
use Rattle.losses.proofs.other_type.Goals as goal

pub returns-then-not-named : goal.returns-then-not-named
returns-then-not-named c =
    let a = c.args in
    sym (other_unnamed _ _ _ (sym (named_whole a.units.now a.u (length a.units.now) c.named.ensures (omega arith)) ∙ c.if-not-named.true))

pub returns : goal.returns
returns c =
    let a = c.args in
    ap (λ (k : ℕ). not (eqb k 4)) c.kind.ensures.is
    ∙ sym (other_named _ _ _ (sym (named_whole a.units.now a.u (length a.units.now) c.named.ensures (omega arith)) ∙ c.if-not-named.false))
