-- `layout::players_named` meets its contract: the entry's length is that of a desk with players, or it is not.
-- Assumes nothing.
use Prim.Native.Nat.{◌+◌}
use native.Mathlib.Omega.{arith}
use borrow.Author.Tests.{eq-eqb, ne_eqb}
use Rattle.position.specs.Layout.{desk_body, players_field, forces, extent, players_named}
use Rattle.position.proofs.layout.players_named.Goals as goal

pub returns-then-word : goal.returns-then-word
unfolding players_named extent
returns-then-word c = simp (eq-eqb (extent c.args.p.now desk_body) (players_field + forces) (omega (arith, c.if-word.true, c.word.ensures.is)))

pub returns : goal.returns
unfolding players_named extent
returns c =
    simp (ne_eqb (extent c.args.p.now desk_body) (players_field + forces) (λ e. c.if-word.false (omega (arith, e, c.word.ensures.is))))
