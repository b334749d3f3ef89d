-- Never stuck: the order for each stage is accepted, what is left falls, and so every accepted position can be played to the end.
-- Assumes nothing.
use Prim.Native.Nat.{ℕ, zero, suc, ◌≤◌}
use mathlib.Core.Path.{◌≡◌, refl, sym, ap₂, subst}
use mathlib.Core.Bool.{true, false}
use mathlib.Core.List.{List, [], ◌∷◌}
use native.Mathlib.Omega.{arith}
use lib.ListN.{length, replicate}
use borrow.Author.Tests.{eq-eqb}
use Rattle.position.specs.Board.{Board, board}
use Rattle.position.specs.Stage as Stage
use Rattle.position.proofs.Tallies.{either, same_or}
use Rattle.acceptance.specs.Accepted.{Accepted}
use Rattle.ruling.specs.Secret.{Sent}
use Rattle.ruling.specs.Values.{Values}
use Rattle.ruling.specs.Answers.{IsAccepted}
use Rattle.ruling.specs.Verdict.{Ruling}
use Rattle.ruling.specs.Verdict.Ruling.{accepted}
use Rattle.clock.specs.Clock.{is_last}
use Rattle.rules.specs.Order.{Order, step}
use Rattle.rules.specs.Order.Order.{close, end_phase, losses}
use Rattle.rules.specs.Onward.{
  AllAccepted,
  Falls,
  NeverStuck,
  OnwardAccepted,
  PlayedOut,
  after_all,
  all_owing,
  left,
  lent_onward,
  onward,
  onward_call,
  over,
  retreat_onward,
}
use Rattle.rules.proofs.Demands.{stays_accepted}
use Rattle.rules.proofs.OnwardCall.{Goes}
use Rattle.rules.proofs.OnwardClose.{close_goes}
use Rattle.rules.proofs.OnwardEnd.{end_goes}
use Rattle.rules.proofs.OnwardLosses.{losses_go}
use Rattle.rules.proofs.OnwardRetreat.{retreat_goes}

-- the order for each stage, and what is lent with it
module _ (b : Board) where
  order_quiet : b.desk.battle.stage ≡ Stage.quiet → (onward b ≡ end_phase) × (lent_onward b ≡ replicate b.map.hexes 0)
  unfolding onward lent_onward
  order_quiet e = (rw e refl, rw e refl)

  order_retreats : b.desk.battle.stage ≡ Stage.retreats → (onward b ≡ retreat_onward b) × (lent_onward b ≡ [])
  unfolding onward lent_onward
  order_retreats e = (rw e refl, rw e refl)

  order_losses : b.desk.battle.stage ≡ Stage.losses → (onward b ≡ losses (all_owing b)) × (lent_onward b ≡ [])
  unfolding onward lent_onward
  order_losses e = (rw e refl, rw e refl)

  order_advances : b.desk.battle.stage ≡ Stage.advances → (onward b ≡ close) × (lent_onward b ≡ [])
  unfolding onward lent_onward
  order_advances e = (rw e refl, rw e refl)

  not_last : over b ≡ false → b.desk.battle.stage ≡ Stage.quiet → is_last b.desk.clock b.desk.last_turn ≡ false
  unfolding over
  not_last o e = simp (eq-eqb b.desk.battle.stage Stage.quiet e) at o

goes_as :
    {p : List ℕ} {o : Order} {l : List ℕ} → (onward (board p) ≡ o) × (lent_onward (board p) ≡ l)
    → Goes p (record { order = o; lent = l }) → Goes p (onward_call p)
unfolding onward_call
goes_as {p} e g = subst (Goes p) (sym (ap₂ (λ (o : Order) (l : List ℕ). record { order = o; lent = l }) e.0 e.1)) g

goes : (p : List ℕ) → Accepted p → over (board p) ≡ false → Goes p (onward_call p)
goes p a o =
    let b = board p in
    let k = a.lawful.clock.stage in
    same_or b.desk.battle.stage Stage.quiet
    (λ e. goes_as (order_quiet b e) (end_goes a e (not_last b o e)))
    (λ n.
    same_or b.desk.battle.stage Stage.retreats
    (λ e. goes_as (order_retreats b e) (retreat_goes a e))
    (λ m.
    same_or b.desk.battle.stage Stage.losses
    (λ e. goes_as (order_losses b e) (losses_go a e))
    (λ i.
    let e : b.desk.battle.stage ≡ Stage.advances = omega arith in
    goes_as (order_advances b e) (close_goes a e))))

is_accepted : {a : Ruling} {vs : Values} → a ≡ accepted vs → IsAccepted a
is_accepted e = subst IsAccepted (sym e) tt

pub onward_accepted : OnwardAccepted
onward_accepted p a o = is_accepted (goes p a o).answers

pub falls : Falls
falls p a o = (goes p a o).falls

-- as many calls as are left bring the game to its end
abbrev Played : ℕ → List ℕ → Type 0
Played n p = (cs : List (Sent Order)) × (length cs ≤ n) × AllAccepted p cs × (over (board (after_all p cs)) ≡ true)

play : (n : ℕ) (p : List ℕ) → Accepted p → left (board p) ≤ n → Played n p
play zero p a l =
    either (over (board p))
    (λ e. ([], omega arith, tt, e))
    (λ o. absurd (omega (arith, falls p a o)))
play (suc n) p a l =
    either (over (board p))
    (λ e. ([], omega arith, tt, e))
    (λ o.
    let c = onward_call p in
    let r = play n (step p c).position (stays_accepted p c a) (omega (arith, falls p a o)) in
    (c ∷ r.0, omega (arith, r.1), (onward_accepted p a o, r.2), r.3))

pub played_out : PlayedOut
played_out p a = play (left (board p)) p a (omega arith)

pub never_stuck : NeverStuck
never_stuck = (onward_accepted, falls, played_out)
