-- "Four useless referees are tried." Three of them keep two runs alike, so secrecy alone would let them pass; demand 2 shuts out all four.
-- Proved in proofs/Useless.antt.
-- Assumes nothing.
use Rattle.std.specs.Prelude.{ℕ, cond, List, [], ◌∷◌, map, leb}
use Rattle.position.specs.Role as Role
use Rattle.position.specs.Board.{board}
use Rattle.position.specs.Crowd.{routes}
use Rattle.position.specs.Change.{makes}
use Rattle.position.specs.Change.Change.{assigned}
use Rattle.acceptance.specs.Alike.{Alike}
use Rattle.ruling.specs.Verdict.{Ruling, Outcome}
use Rattle.ruling.specs.Verdict.Ruling.{refused, accepted}
use Rattle.ruling.specs.Secret.{Sent, Referee, OneStrength, RunsAlike}
use Rattle.aftermath.specs.Stage.{then_on}
use Rattle.shoves.specs.Group.{group}
use Rattle.rules.specs.Order.{Order, verdict, step}
use Rattle.rules.specs.Order.Order.{supply, move, end_phase, attack, retreat, losses, advance, close}
use Rattle.rules.specs.Referee.{Meets}

-- "One that refuses everything", by whatever number and place it likes for each call
unfoldable pub refuses_all : (Sent Order → ℕ) → (Sent Order → ℕ) → Referee Order
refuses_all number place p c = record { answer = refused (number c) (place c); position = p; lent = c.lent }

-- "one that always rules the same"
unfoldable pub always_rules : Ruling → Referee Order
always_rules a p c = record { answer = a; position = p; lent = c.lent }

-- "one that leaves the position untouched": its answers and the bytes that it hands back are right
unfoldable pub leaves_untouched : Referee Order
leaves_untouched p c = record { answer = (step p c).answer; position = p; lent = (step p c).lent }

-- the group in hex h owes no more, and that is all, if the answer lets it go
abbrev pub struck_off : List ℕ → ℕ → Ruling → List ℕ
struck_off p h (refused n k) = p
struck_off p h (accepted vs) = makes p (then_on (board p) (map (λ u. assigned u Role.none) (group (board p) h)))

-- a retreat's outcome, if no route is written yet; else the group is struck off
abbrev pub first_only : List ℕ → Order → Outcome → Outcome
first_only p (retreat h route pushes) o =
    cond (leb 1 (routes (board p))) (record { answer = o.answer; position = struck_off p h o.answer; lent = o.lent }) o
first_only p (supply n) o = o
first_only p (move u path) o = o
first_only p end_phase o = o
first_only p (attack target units die) o = o
first_only p (losses units) o = o
first_only p (advance u h) o = o
first_only p close o = o

-- "One that retreats the first stack and merely strikes the others off the list": its answers are right, and so is the first stack
unfoldable pub strikes_off : Referee Order
strikes_off p c = first_only p c.order (step p c)

-- "all keep two runs alike": demand 3's conclusion holds of the first three, whatever is turned over for the first two
abbrev pub RefusingAlike : Type 0
RefusingAlike =
    (number place : Sent Order → ℕ) (p q : List ℕ) (cs : List (Sent Order)) → Alike p q → RunsAlike (refuses_all number place) p q cs

abbrev pub SameAlike : Type 0
SameAlike = (a : Ruling) (p q : List ℕ) (cs : List (Sent Order)) → Alike p q → RunsAlike (always_rules a) p q cs

-- every call of a list, made on these two positions, turns over equal strengths
abbrev pub EachShown : List ℕ → List ℕ → List (Sent Order) → Type 0
EachShown p q [] = Unit {0}
EachShown p q (c ∷ cs) = OneStrength p q (verdict p c.order c.lent) × EachShown p q cs

abbrev pub UntouchedAlike : Type 0
UntouchedAlike = (p q : List ℕ) (cs : List (Sent Order)) → Alike p q → EachShown p q cs → RunsAlike leaves_untouched p q cs

-- "and demand 2 shuts each out"
pub record ShutOut : Type 0 where
  pub refusing : (number place : Sent Order → ℕ) → Meets (refuses_all number place) → ⊥
  pub same : (a : Ruling) → Meets (always_rules a) → ⊥
  pub untouched : Meets leaves_untouched → ⊥
  pub striking : Meets strikes_off → ⊥

-- the three keep runs alike, and none of the four keeps its promises
pub record FourUseless : Type 0 where
  pub refusing : RefusingAlike
  pub same : SameAlike
  pub untouched : UntouchedAlike
  pub out : ShutOut
