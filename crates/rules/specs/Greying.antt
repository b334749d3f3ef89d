-- "Readings to reject: .. Refusing an attack by odds, which shows hidden strength." The referee that greys out a hopeless attack: demand 2
-- shuts it out, and so does demand 3, which is broken by what it answers alone. Proved in proofs/Greying.antt.
-- Assumes nothing.
use Rattle.std.specs.Prelude.{ℕ, ◌*◌, ◌<◌, ◌≡◌, Bool, false, not, cond, List, map}
use Rattle.position.specs.Bits.{has, tried}
use Rattle.position.specs.Layout.{count, marks, strength}
use Rattle.position.specs.Board.{board}
use Rattle.acceptance.specs.Alike.{Alike}
use Rattle.ruling.specs.Verdict.{Ruling, Outcome}
use Rattle.ruling.specs.Verdict.Ruling.{refused, accepted}
use Rattle.ruling.specs.Secret.{Sent, Referee}
use Rattle.line.specs.Line.{fighting_total}
use Rattle.odds.specs.Odds.{reached, multiple_at}
use Rattle.results.specs.Participants.{participants}
use Rattle.battle.specs.Line.{attack_line, defence_line}
use Rattle.rules.specs.Order.{Order, step}
use Rattle.rules.specs.Order.Order.{supply, move, end_phase, attack, retreat, losses, advance, close}
use Rattle.rules.specs.Referee.{Meets}

-- the odds of an attack lie below the first column: "A x d >= a x D" does not hold of it, by the strengths under the counters
unfoldable pub hopeless : List ℕ → Order → Bool
hopeless p (attack target units die) =
    let b = board p in
    let ss = map (strength p) (participants b target units) in
    not
    (reached b.results (fighting_total (attack_line b units ss))
    (fighting_total (defence_line b target units ss) * multiple_at b target units) 0)
hopeless p (supply n) = false
hopeless p (move u path) = false
hopeless p end_phase = false
hopeless p (retreat h route pushes) = false
hopeless p (losses units) = false
hopeless p (advance u h) = false
hopeless p close = false

-- an outcome in place of another that is accepted; what is refused stays so
abbrev pub in_place_of : Ruling → Outcome → Outcome → Outcome
in_place_of (refused n k) o other = o
in_place_of (accepted vs) o other = other

-- it refuses a hopeless attack that the rules let through, by whatever number and place it likes, and rules as they do on everything else
unfoldable pub greys_out : (Sent Order → ℕ) → (Sent Order → ℕ) → Referee Order
greys_out number place p c =
    let o = step p c in
    cond (hopeless p c.order) (in_place_of o.answer o (record { answer = refused (number c) (place c); position = p; lent = c.lent })) o

-- A referee that tells what lies under a counter: two accepted positions that differ in one strength, which is face down; a call on the
-- first turns nothing over, and yet the answers differ.
pub record Tells (r : Referee Order) : Type 0 where
  pub first : List ℕ
  pub second : List ℕ
  pub call : Sent Order
  pub alike : Alike first second
  pub unit : ℕ
  pub counted : unit < count first
  pub down : has tried (marks first unit) ≡ false
  pub differs : strength first unit ≡ strength second unit → ⊥
  pub others : (u : ℕ) → (u ≡ unit → ⊥) → strength first u ≡ strength second u
  pub still : (r first call).position ≡ first
  pub answers : (r first call).answer ≡ (r second call).answer → ⊥

-- "demand 2 shuts each out", and this one demand 3 too
pub record GreyingOut : Type 0 where
  pub promises : (number place : Sent Order → ℕ) → Meets (greys_out number place) → ⊥
  pub tells : (number place : Sent Order → ℕ) → Tells (greys_out number place)
