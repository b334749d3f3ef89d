-- Losses go on: the loss of all that owe is accepted in stage 2, and the stage passes on.
-- Assumes nothing.
use Prim.Native.Nat.{ℕ, ◌≤◌, ◌<◌}
use mathlib.Core.Path.{◌≡◌, refl}
use mathlib.Core.List.{List, []}
use native.Mathlib.Omega.{arith}
use Rattle.position.specs.Board.{Board, board, nowhere}
use Rattle.position.specs.Effect.{changes}
use Rattle.position.specs.Stage as Stage
use Rattle.position.proofs.Shapes.{hexes_most}
use Rattle.acceptance.specs.Accepted.{Accepted, Lawful}
use Rattle.ruling.proofs.Meets.{ruled}
use Rattle.aftermath.specs.Losses.{loss_changes, losses_rule}
use Rattle.aftermath.specs.Stage.{then_on}
use Rattle.aftermath.proofs.AllLost.{all_pass}
use Rattle.aftermath.proofs.KeepLosses.{losses_owing, since_losses}
use Rattle.rules.specs.Order.{rule_of}
use Rattle.rules.specs.Order.Order.{losses}
use Rattle.rules.specs.Onward.{all_owing, left}
use Rattle.rules.proofs.OnwardCall.{Goes, goes_met}
use Rattle.rules.proofs.OnwardStage.{falls_then_on, left_losses}

losses_fall :
    {b : Board} → Lawful b → b.map.hexes ≤ nowhere → b.desk.battle.stage ≡ Stage.losses → (units : List ℕ)
    → left (changes b (then_on b (loss_changes b units))) < left b
losses_fall {b} l most e units =
    falls_then_on (loss_changes b units) (since_losses l most e units) (omega (arith, left_losses b e))
    (λ _. omega (arith, left_losses b e))
    (λ n. absurd (n (losses_owing l most e units)))

pub losses_go : {p : List ℕ} → Accepted p → (board p).desk.battle.stage ≡ Stage.losses → Goes p (record { order = losses (all_owing (board p)); lent = [] })
unfolding rule_of losses_rule all_owing
losses_go {p} a e =
    let b = board p in
    let k = (a.lawful.stage.during.losses e).owing in
    let units = all_owing b in
    goes_met a (record { order = losses units; lent = [] }) (then_on b (loss_changes b units))
    (all_pass b p e k.low k.high [] _ _ _ _ (ruled refl))
    (losses_fall a.lawful (omega (arith, hexes_most a.shaped)) e units)
