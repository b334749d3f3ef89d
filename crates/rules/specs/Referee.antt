-- Referees, good and bad: what it is to keep every promise, and that this leaves a referee no freedom.
-- Assumes nothing.
use Rattle.std.specs.Prelude.{ℕ, ◌≡◌, List, [], ◌∷◌}
use Rattle.ruling.specs.Verdict.{Outcome, Met}
use Rattle.ruling.specs.Secret.{Sent, Referee}
use Rattle.rules.specs.Order.{Order, verdict}

-- demand 2: "Each public call states every answer and each lent byte afterwards, refused calls too", and each statement is kept
abbrev pub Meets : Referee Order → Type 0
Meets r =
    (p : List ℕ) (c : Sent Order)
    → Met p c.lent (verdict p c.order c.lent) (r p c).answer (r p c).position (r p c).lent

-- what a referee answers and leaves, call after call
unfoldable pub run_of : Referee Order → List ℕ → List (Sent Order) → List Outcome
run_of r p [] = []
run_of r p (c ∷ cs) = r p c ∷ run_of r (r p c).position cs

-- Two referees that keep every promise agree on every run. Proved in proofs/Referees.antt.
abbrev pub Agree : Type 0
Agree = (r r' : Referee Order) → Meets r → Meets r' → (p : List ℕ) (cs : List (Sent Order)) → run_of r p cs ≡ run_of r' p cs
