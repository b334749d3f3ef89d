-- The test of a route is true exactly of the legal ones.
-- Assumes nothing.
use Prim.Native.Nat.{ℕ, suc, ◌+◌, ◌≤◌, ◌<◌}
use mathlib.Core.Path.{◌≡◌, refl, ◌∙◌}
use mathlib.Core.List.{List, [], ◌∷◌}
use mathlib.Core.Bool.{Bool, true, false, ◌&&◌}
use native.Mathlib.Numerals.{add-one}
use lib.Dec.{eqb}
use lib.ListN.{length, get_or, drop, drop_of_length-le}
use lib.Seq.{drop-cons}
use borrow.Author.Tests.{eqb-true, eq-eqb, ne_eqb}
use Rattle.position.specs.Board.{Board}
use Rattle.position.proofs.Tallies.{both_yes}
use Rattle.routes.specs.Run.{Run, stay, go}
use Rattle.routes.specs.Legal.{steps_to, run_along, legal, LegalRight}
use Rattle.routes.proofs.Steps.{steps_step, step_steps}

module _ (b : Board) (f start n : ℕ) (route : List ℕ) where
  pub wrong_length : (length route ≡ n → ⊥) → legal b f start n route ≡ false
  unfolding legal
  wrong_length h = simp (ne_eqb (length route) n h)

  pub right_length : length route ≡ n → legal b f start n route ≡ run_along b f start 0 start route
  unfolding legal
  right_length h = simp (eq-eqb (length route) n h)

-- a test under way: it is the test of what is left of the route
pub record Still (t : Bool) (b : Board) (f start i a : ℕ) (route : List ℕ) : Type 0 where
  pub is : t ≡ run_along b f start i a (drop i route)

module _ {t : Bool} {b : Board} {f start i a : ℕ} {route : List ℕ} (s : Still t b f start i a route) where
  pub all_passed : length route ≤ i → t ≡ true
  unfolding run_along
  all_passed l = s.is ∙ rw (drop_of_length-le route l) refl

  module _ {x : ℕ} {r : Bool} (l : i < length route) (e : x ≡ get_or route i 0) (q : r ≡ steps_to b f start i a x) where
    next : t ≡ (r && run_along b f start (i + 1) x (drop (i + 1) route))
    unfolding run_along
    next = s.is ∙ rw (drop-cons route i 0 l, ← e, ← q, add-one) refl

    pub stopped : r ≡ false → t ≡ false
    stopped h = rw h at next

    pub passed : r ≡ true → Still t b f start (i + 1) x route
    passed h = record { is = rw h at next }

-- a run by its test
record Runs (b : Board) (f start i a : ℕ) (route : List ℕ) : Type 0 where
  pub last : ℕ
  pub run : Run b f start i a route last

module _ (b : Board) (f start : ℕ) where
  along_run : (i a : ℕ) (route : List ℕ) → run_along b f start i a route ≡ true → Runs b f start i a route
  unfolding run_along
  along_run i a [] e = record { last = a; run = stay }
  along_run i a (x ∷ route) e =
      let s = both_yes (steps_to b f start i a x) (run_along b f start (suc i) x route) e in
      let k = steps_step b f start i a x s.0 in
      let r = along_run (suc i) x route s.1 in
      record { last = r.last; run = go k.0 k.1 r.run }

  run_along_lem : {i a last : ℕ} {route : List ℕ} → Run b f start i a route last → run_along b f start i a route ≡ true
  unfolding run_along
  run_along_lem stay = refl
  run_along_lem (go {i} {a} d s k) = simp (step_steps b f start i a s) (run_along_lem k)

pub legal_right : LegalRight
unfolding legal
legal_right b f start n route = (
  λ e.
      let s = both_yes (eqb (length route) n) (run_along b f start 0 start route) e in
      let r = along_run b f start 0 start route s.1 in
      record { long = eqb-true (length route) n s.0; last = r.last; run = r.run },
  λ l. simp (eq-eqb (length route) n l.long) (run_along_lem b f start l.run),
)
