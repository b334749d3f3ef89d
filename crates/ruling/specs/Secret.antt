-- Secrecy, over the language: what two positions that look alike have in common after one verdict, and after a run of calls.
-- Assumes nothing.
use Rattle.std.specs.Prelude.{ℕ, ◌≡◌, List, [], ◌∷◌, length}
use Rattle.position.specs.Layout.{strength}
use Rattle.position.specs.Board.{Board, board}
use Rattle.acceptance.specs.Accepted.{Accepted}
use Rattle.acceptance.specs.Alike.{Same, Alike}
use Rattle.ruling.specs.Verdict.{Verdict, Outcome, after_check, outcome, revealed}

-- P holds of each number of a list
abbrev pub Each : (ℕ → Type 0) → List ℕ → Type 0
Each P [] = Unit {0}
Each P (u ∷ us) = P u × Each P us

-- every unit that the verdict turns over has one strength in both positions
abbrev pub OneStrength : List ℕ → List ℕ → Verdict → Type 0
OneStrength p q v = Each (λ u. strength p u ≡ strength q u) (revealed p v)

-- "same rulings, same bytes but for the strengths still face down"
pub record SameOutcome (o o' : Outcome) : Type 0 where
  pub answers : o.answer ≡ o'.answer
  pub lent : o.lent ≡ o'.lent
  pub positions : Same o.position o'.position

-- a call as it is sent: the order, and the bytes lent with it
pub record Sent (Order : Type 0) : Type 0 where
  pub order : Order
  pub lent : List ℕ

-- a referee, good or bad: what it answers to a call on a position, and what it leaves of the position and of the bytes lent
abbrev pub Referee : Type 0 → Type 0
Referee Order = List ℕ → Sent Order → Outcome

-- The rules: a verdict for each order on a board, given how many bytes are lent. What they hold is not looked at.
abbrev pub Rules : Type 0 → Type 0
Rules Order = Board → Order → ℕ → Verdict

-- the ruling on a call as it is sent
abbrev pub verdict_on : {Order : Type 0} → Rules Order → List ℕ → Sent Order → Verdict
verdict_on rules p c = after_check p (rules (board p) c.order (length c.lent))

-- the referee that rules by them
abbrev pub after_call : {Order : Type 0} → Rules Order → Referee Order
after_call rules p c = outcome p c.lent (verdict_on rules p c)

-- an accepted position stays accepted
abbrev pub Keeping : {Order : Type 0} → Rules Order → Type 0
Keeping {Order} rules = (p : List ℕ) (c : Sent Order) → Accepted p → Accepted (after_call rules p c).position

-- at each call of the run from p, what is turned over there has one strength in the run from q
abbrev pub ShownAlike : {Order : Type 0} → Rules Order → List ℕ → List ℕ → List (Sent Order) → Type 0
ShownAlike rules p q [] = Unit {0}
ShownAlike rules p q (c ∷ cs) =
    OneStrength p q (verdict_on rules p c) × ShownAlike rules (after_call rules p c).position (after_call rules q c).position cs

-- after each call of two runs of a referee answers and buffers are equal, and the positions look alike
abbrev pub RunsAlike : {Order : Type 0} → Referee Order → List ℕ → List ℕ → List (Sent Order) → Type 0
RunsAlike r p q [] = Unit {0}
RunsAlike r p q (c ∷ cs) =
    ((r p c).answer ≡ (r q c).answer)
    × ((r p c).lent ≡ (r q c).lent)
    × Alike (r p c).position (r q c).position
    × RunsAlike r (r p c).position (r q c).position cs

-- "Two accepted positions that differ only in face-down strengths, the same calls: same rulings, same bytes but for the strengths
-- still face down, as long as what was turned over was equal."
abbrev pub SecretRuns : {Order : Type 0} → Rules Order → Type 0
SecretRuns {Order} rules =
    (p q : List ℕ) (cs : List (Sent Order)) → Alike p q → ShownAlike rules p q cs → RunsAlike (after_call rules) p q cs
