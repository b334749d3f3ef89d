-- Demand 3, said of the marks that are seen: "as long as what was turned over was equal". Proved in proofs/Turned.antt.
-- Assumes nothing.
use Rattle.std.specs.Prelude.{ℕ, ◌≡◌, true, false, List, [], ◌∷◌}
use Rattle.position.specs.Bits.{has, tried}
use Rattle.position.specs.Layout.{marks, strength}
use Rattle.acceptance.specs.Alike.{Alike}
use Rattle.ruling.specs.Secret.{Sent, RunsAlike}
use Rattle.rules.specs.Order.{Order, step}

-- a counter that lies face down in p lies face up in q
abbrev pub TurnsOver : List ℕ → List ℕ → ℕ → Type 0
TurnsOver p q u = (has tried (marks p u) ≡ false) × (has tried (marks q u) ≡ true)

-- each unit that lies face down before a call of the run from r, and face up after it, began with one strength in p and in q
abbrev pub BeganAlike : List ℕ → List ℕ → List ℕ → List (Sent Order) → Type 0
BeganAlike p q r [] = Unit {0}
BeganAlike p q r (c ∷ cs) =
    ((u : ℕ) → TurnsOver r (step r c).position u → strength p u ≡ strength q u) × BeganAlike p q (step r c).position cs

-- "Two accepted positions that differ only in face-down strengths, the same calls: same rulings, same bytes but for the strengths still
-- face down": nothing is asked of the second run, nor of the moment at which a counter is turned
abbrev pub SecrecyByMarks : Type 0
SecrecyByMarks = (p q : List ℕ) (cs : List (Sent Order)) → Alike p q → BeganAlike p q p cs → RunsAlike step p q cs

-- It speaks of something: two positions that look alike and are not equal, and a call that turns a counter over, which began with one
-- strength in both.
pub record Exhibited : Type 0 where
  pub first : List ℕ
  pub second : List ℕ
  pub call : Sent Order
  pub alike : Alike first second
  pub apart : first ≡ second → ⊥
  pub unit : ℕ
  pub turned : TurnsOver first (step first call).position unit
  pub began : BeganAlike first second first (call ∷ [])
