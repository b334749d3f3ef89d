-- A close goes on: it is accepted in stage 3, and the battle is over.
-- Assumes nothing.
use Prim.Native.Nat.{ℕ, ◌≤◌, ◌<◌}
use mathlib.Core.Path.{◌≡◌, refl, ap}
use mathlib.Core.Bool.{not}
use mathlib.Core.List.{List, []}
use native.Mathlib.Omega.{arith}
use borrow.Author.Tests.{eq-eqb}
use Rattle.position.specs.Board.{Board, board, nowhere}
use Rattle.position.specs.Effect.{changes}
use Rattle.position.specs.Stage as Stage
use Rattle.position.proofs.Shapes.{hexes_most}
use Rattle.acceptance.specs.Accepted.{Accepted, Lawful}
use Rattle.ruling.proofs.Meets.{pass, ruled}
use Rattle.aftermath.specs.Advance.{close_changes, close_rule}
use Rattle.aftermath.specs.Stage.{then_on}
use Rattle.aftermath.proofs.Closed.{closed_none}
use Rattle.aftermath.proofs.KeepAdvance.{closed}
use Rattle.aftermath.proofs.KeepStage.{lessened_owing}
use Rattle.rules.specs.Order.{rule_of}
use Rattle.rules.specs.Order.Order.{close}
use Rattle.rules.specs.Onward.{left}
use Rattle.rules.proofs.OnwardCall.{Goes, goes_met}
use Rattle.rules.proofs.OnwardStage.{falls_then_on, left_advances}

close_falls :
    {b : Board} → Lawful b → b.map.hexes ≤ nowhere → b.desk.battle.stage ≡ Stage.advances → left (changes b (then_on b (close_changes b))) < left b
close_falls {b} l most e =
    let o = closed l most in
    falls_then_on (close_changes b) o.since (omega (arith, left_advances b e))
    (λ n. absurd (n (closed_none b l most)))
    (λ n. absurd (n (lessened_owing o (l.stage.during.advances e).owing)))

pub close_goes : {p : List ℕ} → Accepted p → (board p).desk.battle.stage ≡ Stage.advances → Goes p (record { order = close; lent = [] })
unfolding rule_of close_rule
close_goes {p} a e =
    let b = board p in
    goes_met a (record { order = close; lent = [] }) (then_on b (close_changes b))
    (pass (ap not (eq-eqb b.desk.battle.stage Stage.advances e)) (ruled refl))
    (close_falls a.lawful (omega (arith, hexes_most a.shaped)) e)
