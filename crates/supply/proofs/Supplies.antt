-- The test for supply is right: it is true exactly if a chain leads to a source; and what the walk leaves is its answers.
-- Assumes nothing.
use Rattle.std.specs.Prelude.{Option}
use Prim.Native.Nat.{ℕ, ◌≤◌, ◌<◌}
use mathlib.Core.Path.{◌≡◌, refl, sym, ap, ◌∙◌}
use mathlib.Core.Bool.{Bool, true, false, not, cond, ◌&&◌}
use mathlib.Core.List.{List, []}
use mathlib.Core.Logic.{◌↔◌, ◌⊎◌, inl, inr}
use native.Mathlib.Omega.{arith}
use lib.Dec.{leb, ltb, eqb}
use borrow.Author.Tests.{ltb-true, lt-ltb, le-leb, lt-leb, eq-eqb, ne_eqb}
use Rattle.position.specs.declared.View.{View}
use Rattle.position.specs.Ground.{next}
use Rattle.position.proofs.Tallies.{either}
use Rattle.position.specs.Change.{makes}
use Rattle.ruling.specs.Values.{accepting}
use Rattle.ruling.specs.Verdict.{judged, outcome, Met}
use Rattle.ruling.specs.Verdict.Judge.{rule}
use Rattle.ruling.specs.Verdict.Verdict.{judge}
use Rattle.ruling.specs.Verdict.Ruling.{accepted}
use Rattle.walk.specs.Chain.{mark, Chain, Reached, Graded}
use Rattle.walk.specs.Chain.Chain.{source as ends, beside as goes}
use Rattle.walk.specs.Swept.{Walked}
use Rattle.walk.specs.Sweep.{chained, tab, reach}
use Rattle.walk.proofs.Marks.{le_or, tab_length, tab_mark, tab_only}
use Rattle.walk.proofs.Steps.{next_six}
use Rattle.walk.proofs.Sweeps.{board_iff, chain_same, reached_tab}
use Rattle.field.specs.Scene.{Scene}
use Rattle.paint.proofs.Bytes.{byte_past}
use Rattle.supply.specs.Open.{open_to, source, grade}
use Rattle.supply.specs.Graded.{Grades}
use Rattle.supply.specs.Traced.{Traced}
use Rattle.supply.specs.Supply.{Supplied, grades, supplied, supply_map}

-- off the map every hex is closed
closed : (t o : Bool) (x : ℕ) → t ≡ false → 0 < cond (t && o) x 0 → ⊥
closed true o x e l = let z : ◌≡◌ {A = ℕ} 0 1 = cc in omega arith
closed false o x e l = omega arith

graded_in : (s : Scene) (n k : ℕ) → 0 < grade s n k → k < s.map.hexes
unfolding grade
graded_in s n k l =
    either (ltb k s.map.hexes) (λ e. ltb-true k s.map.hexes e)
    (λ e. absurd (closed (ltb k s.map.hexes) (open_to s n k) (cond (source s n k) 2 1) e l))

-- "It is supplied if a chain of open hexes over unblocked sides .. leads from it to a source"
pub supplied_right : (s : Scene) (n h : ℕ) → (supplied s n h ≡ true) ↔ Supplied s n h
unfolding supplied grades
supplied_right s n h = board_iff (next s.map) (next_six s.map) s.map.hexes (grade s n) (graded_in s n) h

-- the walk over the grades leaves the supply map
pub walked_map : (s : Scene) (n : ℕ) {l out : List ℕ} → l ≡ grades s n → Reached (next s.map) l out → out ≡ supply_map s n
unfolding supply_map supplied grades reach
walked_map s n {l} {out} e t =
    reached_tab (next s.map) (next_six s.map) t
    ∙ ap (λ (x : List ℕ). reach (next s.map) x) e
    ∙ ap (λ (k : ℕ). tab k (λ h. cond (chained (next s.map) (tab s.map.hexes (grade s n)) h) 1 0)) (tab_length s.map.hexes (grade s n))

-- a graded buffer is the list of grades, and none is above 2
pub graded_list : {s : Scene} {n : ℕ} {l : List ℕ} → Grades s n l → l ≡ grades s n
unfolding grades
graded_list {s} {n} {l} g = tab_only s.map.hexes (grade s n) l g.long g.each

two_most : (t u : Bool) → cond t (cond u 2 1) 0 ≤ 2
two_most true true = omega arith
two_most true false = omega arith
two_most false u = omega arith

grade_most : (s : Scene) (n h : ℕ) → grade s n h ≤ 2
unfolding grade
grade_most s n h = two_most (ltb h s.map.hexes && open_to s n h) (source s n h)

pub graded : {s : Scene} {n : ℕ} {l : List ℕ} {v : View} → s.map.hexes ≡ v.hexes → Grades s n l → Graded l v
unfolding mark
graded {s} {n} {l} {v} e g =
    record {
      size = g.long ∙ e;
      grades =
          λ k. le_or s.map.hexes k (λ q. omega (arith, byte_past l k (omega (arith, g.long)))) (λ q. rw (g.each k q) (grade_most s n k));
    }

-- an open hex is graded above 0, and so is each on a chain
open_grade : (o u : Bool) → o ≡ ltb 0 (cond o (cond u 2 1) 0)
open_grade true true = refl
open_grade true false = refl
open_grade false u = refl

chain_open : {next : ℕ → ℕ → Option ℕ} {f : ℕ → ℕ} {a : ℕ} → Chain next f a → 0 < f a
chain_open (ends e) = omega arith
chain_open (goes d o x c) = o

-- the walk over the grades, before it is settled
module _ (s : Scene) (n : ℕ) {l : List ℕ} (g : Grades s n l) where
  graded_mark : (k : ℕ) → mark l k ≡ grade s n k
  unfolding grades
  graded_mark k = ap (λ (x : List ℕ). mark x k) (graded_list g) ∙ tab_mark s.map.hexes (grade s n) (graded_in s n) k

  open_mark : (h : ℕ) → h < s.map.hexes → open_to s n h ≡ ltb 0 (mark l h)
  unfolding grade
  open_mark h p = rw (graded_mark h, lt-ltb h s.map.hexes p) (open_grade (open_to s n h) (source s n h))

  pub traced : {out : List ℕ} → Walked (next s.map) l out → Traced s n out
  traced {out} w =
      record {
        long = w.same ∙ g.long;
        free = λ h p. open_mark h p ∙ still h (w.each h);
        tells = λ h p. tells h (w.each h);
      }
    where
      still :
          (h : ℕ)
          → ((2 ≤ mark out h) × Chain (next s.map) (mark l) h) ⊎ ((mark out h < 2) × (Chain (next s.map) (mark l) h → ⊥))
          → ltb 0 (mark l h) ≡ ltb 0 (mark out h)
      still h (inl c) = let x = c.0 in lt-ltb 0 (mark l h) (chain_open c.1) ∙ sym (lt-ltb 0 (mark out h) (omega arith))
      still h (inr c) = ap (ltb 0) (sym (w.kept h c.0))

      tells :
          (h : ℕ)
          → ((2 ≤ mark out h) × Chain (next s.map) (mark l) h) ⊎ ((mark out h < 2) × (Chain (next s.map) (mark l) h → ⊥))
          → supplied s n h ≡ leb 2 (mark out h)
      tells h (inl c) = (supplied_right s n h).1 (chain_same graded_mark c.1) ∙ sym (le-leb 2 (mark out h) c.0)
      tells h (inr c) =
          either (supplied s n h)
          (λ e. absurd (c.1 (chain_same (λ k. sym (graded_mark k)) ((supplied_right s n h).0 e))))
          (λ e. e ∙ sym (lt-leb 2 (mark out h) c.0))

-- the buffer's length, as refusal 3 asks it
pub other_length : {n k : ℕ} → (n ≡ k → ⊥) → not (eqb n k) ≡ true
other_length {n} {k} d = ap not (ne_eqb n k d)

pub own_length : {n k : ℕ} → n ≡ k → not (eqb n k) ≡ false
own_length {n} {k} e = ap not (eq-eqb n k e)

-- the supply map handed back, and the position as it was
pub filled : {p l m r : List ℕ} → m ≡ r → Met p l (judge (rule accepting [] r)) (accepted accepting) p m
unfolding outcome judged makes
filled e = record { answers = refl; leaves = refl; lends = e }
