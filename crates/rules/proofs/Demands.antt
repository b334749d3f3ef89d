-- The demands on all calls hold.
-- Assumes nothing.
use Prim.Native.Nat.{ℕ, ◌≤◌}
use mathlib.Core.Path.{◌≡◌, refl, sym, ap}
use mathlib.Core.Bool.{Bool, true, false, not, cond}
use mathlib.Core.List.{List, []}
use mathlib.Core.Logic.{◌↔◌, inl, inr}
use native.Mathlib.Omega.{arith}
use lib.ListN.{length}
use lib.Dec.{ltb, eqb}
use borrow.Author.Tests.{eq-eqb, le-ltb}
use Rattle.position.specs.Board.{board}
use Rattle.position.specs.Change.{makes}
use Rattle.acceptance.specs.Accepted.{Accepted}
use Rattle.position.specs.Effect.{changes}
use Rattle.position.proofs.Players.{old_enemy, old_neutral}
use Rattle.ruling.specs.Values.{accepting}
use Rattle.ruling.specs.Verdict.{Met}
use Rattle.ruling.specs.Verdict.Ruling.{accepted}
use Rattle.ruling.proofs.Meets.{pass, ruled, only, untouched}
use Rattle.ruling.proofs.Checks.{checked}
use Rattle.ruling.proofs.Kept.{Kept, kept_checked, kept_past, kept_ruled}
use Rattle.ruling.proofs.Bounded.{Bounded, bounded_checked}
use Rattle.ruling.proofs.Packs.{packs}
use Rattle.ruling.proofs.Secrets.{secret_runs}
use Rattle.ruling.proofs.OldDesks.{old_desks}
use Rattle.field.specs.Scene.{scene}
use Rattle.walk.specs.Chain.{OneIf}
use Rattle.walk.proofs.Marks.{tab_at}
use Rattle.supply.specs.Supply.{supplied, supply_map, supply_rule}
use Rattle.supply.proofs.Supplies.{supplied_right}
use Rattle.supply.proofs.Bounds.{supply_bounded}
use Rattle.march.proofs.Bounds.{move_bounded, end_bounded}
use Rattle.march.proofs.KeepMove.{move_keeps}
use Rattle.march.proofs.KeepEnd.{end_keeps}
use Rattle.battle.proofs.Bounds.{attack_bounded}
use Rattle.battle.proofs.KeepAttack.{attack_keeps}
use Rattle.aftermath.proofs.Bounds.{losses_bounded, advance_bounded, close_bounded}
use Rattle.aftermath.proofs.KeepLosses.{losses_keeps}
use Rattle.aftermath.proofs.KeepAdvance.{advance_keeps, close_keeps}
use Rattle.retreat.proofs.Bounds.{retreat_bounded}
use Rattle.retreat.proofs.KeepRetreat.{retreat_keeps}
use Rattle.rules.specs.Order.{Order, rule_of, replies_of, verdict, step}
use Rattle.rules.specs.Order.Order.{supply, move, end_phase, attack, retreat, losses, advance, close}
use Rattle.rules.specs.Demands.{Total, NumbersRight, SupplyRight, StaysAccepted, OldDesksRight, Secrecy, OneResult, RefusalsLeaveAll}

pub total : Total
total p c = (step p c, record { answers = refl; leaves = refl; lends = refl })

-- what an accepted supply call hands back
supply_lends :
    (p l : List ℕ) (n : ℕ) → Accepted p → length l ≡ (board p).map.hexes → n ≤ 4
    → Met p l (verdict p (supply n) l) (accepted accepting) p (supply_map (scene (board p)) n)
unfolding rule_of supply_rule makes
supply_lends p l n a e le =
    checked a
    (pass (ap not (eq-eqb (length l) (board p).map.hexes e)) (pass (le-ltb 4 n le) (ruled refl)))

-- a byte of the supply map, by the test
one_if : {A : Type 0} (t : Bool) → (t ≡ true) ↔ A → OneIf A (cond t 1 0)
one_if true i = inl (refl, i.0 refl)
one_if false i = inr (refl, λ x. let z : ◌≡◌ {A = ℕ} 0 1 = let y = i.1 x in cc in absurd (omega arith))

pub supply_right : SupplyRight
unfolding supply_map
supply_right p l n h a e le there =
    rw (sym (supply_lends p l n a e le).lends, tab_at (board p).map.hexes (λ k. cond (supplied (scene (board p)) n k) 1 0) h there)
    (one_if (supplied (scene (board p)) n h) (supplied_right (scene (board p)) n h))

-- the supply call leaves the position as it was
supply_keeps : (p l : List ℕ) (n : ℕ) → Accepted p → Kept p l (supply_rule (board p) n (length l))
unfolding supply_rule changes
supply_keeps p l n a =
    kept_past a (not (eqb (length l) (board p).map.hexes)) (λ _. kept_past a (ltb 4 n) (λ _. kept_ruled a [] a.lawful))

order_keeps : (p l : List ℕ) (o : Order) → Accepted p → Kept p l (rule_of (board p) o (length l))
unfolding rule_of
order_keeps p l (supply n) a = supply_keeps p l n a
order_keeps p l (move u path) a = move_keeps a u path
order_keeps p l end_phase a = end_keeps l a
order_keeps p l (attack target units die) a = attack_keeps a target units die (length l)
order_keeps p l (retreat hex route pushes) a = retreat_keeps a hex route pushes
order_keeps p l (losses units) a = losses_keeps a units
order_keeps p l (advance unit hex) a = advance_keeps a unit hex
order_keeps p l close a = close_keeps a

pub stays_accepted : StaysAccepted
stays_accepted p c a = (kept_checked a (order_keeps p c.lent c.order a)).ok

-- every answer has room in a number
order_bounded : (p l : List ℕ) (o : Order) → Accepted p → Bounded (replies_of o) p l (rule_of (board p) o (length l))
unfolding rule_of replies_of
order_bounded p l (supply n) a = supply_bounded (board p) n (length l)
order_bounded p l (move u path) a = move_bounded (board p) u path
order_bounded p l end_phase a = end_bounded (board p) (length l)
order_bounded p l (attack target units die) a = attack_bounded a target units die (length l)
order_bounded p l (retreat hex route pushes) a = retreat_bounded a hex route pushes
order_bounded p l (losses units) a = losses_bounded (board p) units
order_bounded p l (advance unit hex) a = advance_bounded (board p) unit hex
order_bounded p l close a = close_bounded (board p)

pub numbers_right : NumbersRight
numbers_right p c = packs (replies_of c.order) (step p c).answer (bounded_checked (order_bounded p c.lent c.order)).ok

pub old_desks_right : OldDesksRight
old_desks_right = record { enemies = old_enemy; neutrals = old_neutral; rulings = old_desks rule_of }

pub secrecy : Secrecy
secrecy = secret_runs rule_of stays_accepted

pub one_result : OneResult
one_result p l o a a' q q' m m' g h = let r = only g h in (r.answer, r.position, r.lent)

pub refusals_leave_all : RefusalsLeaveAll
refusals_leave_all p c n k e = untouched p c.lent _ e
