-- Laws of the totals of a line: one fighter more, and what the library's `sum` comes to over fighters of whom `map` reads a byte each: their total, and at most 21 bytes of it.
-- Assumes nothing.
use Rattle.std.specs.Prelude.{ℕ, zero, suc, ◌+◌, ◌≤◌, ◌<◌, ◌≡◌, List, [], ◌∷◌, length, get_or, take, ⊤}
use mathlib.Core.Path.{refl, sym, ap, ◌∙◌}
use native.Mathlib.Nat.{not-suc-le-zero, le_of_suc-le-suc, add_assoc, add-zero, zero-add}
use native.Mathlib.Omega.{arith}
use denote.Bor.{Bor}
use denote.Param.Members.{Mut}
use Rattle.std.specs.Fn.{Called}
use Rattle.std.specs.Iterator.{Drains}
use Rattle.std.specs.Iterator.Adapters.{map_source, map_callee, map_steps}
use Rattle.std.specs.Iterator.Runs.{EachRunFrom, WholeRun}
use Rattle.std.specs.List.{fold, sum_by}
use Rattle.std.specs.Slice.Iter.{iter_rest}
use Rattle.std.specs.declared.slice.Iter.{Iter}
use Rattle.std.specs.declared.iter.Map.{Map}
use Rattle.std.proofs.iter.Yields.{fronts}
use Rattle.std.proofs.lemmas.Iterator.{YieldsList-from_slice, YieldsList-from_map}
use Rattle.std.proofs.lemmas.Iterator.Adapters.{fits_from_length, at_most_from_yields_List}
use Rattle.std.proofs.lemmas.Iterator.Consumers.{sum_by_from_yields_List}
use Rattle.std.proofs.lemmas.List.Sums.{sum_by-cons}
use Rattle.line.specs.Line.{total_by, Comes, places, most}
use Rattle.line.specs.declared.Fighter.{Fighter}

-- one fighter more
pub sum_next : (f : Fighter → ℕ) (ys : List Fighter) (i : ℕ) (d : Fighter) → i < length ys → total_by f (take (suc i) ys) ≡ total_by f (take i ys) + f (get_or ys i d)
unfolding total_by
sum_next f [] i d l = absurd (not-suc-le-zero l)
sum_next f (y ∷ ys) zero d l = add-zero (f y) ∙ sym (zero-add (f y))
sum_next f (y ∷ ys) (suc i) d l = ap (λ (k : ℕ). f y + k) (sum_next f ys i d (le_of_suc-le-suc l)) ∙ sym (add_assoc (f y) (total_by f (take i ys)) (f (get_or ys i d)))

total_is : (f : Fighter → ℕ) (xs : List Fighter) → sum_by f xs ≡ total_by f xs
unfolding total_by
total_is f [] = refl
total_is f (x ∷ xs) = sum_by-cons f x xs ∙ ap (λ (k : ℕ). f x + k) (total_is f xs)

module _ {F : Type 0} {g : Mut F (Bor Fighter × Unit {0}) ℕ} {f : F} {s : Map (Iter Fighter) F} (h : Fighter → ℕ) (xs : List Fighter) (few : length xs ≤ places)
    (source : iter_rest (map_source s) ≡ xs) (callee : map_callee s ≡ f) (calls : (x : Bor Fighter) (r : ℕ) (q : F) → Called g f (x, tt) r q → (q ≡ f) × (r ≡ h x.now) × (r ≤ 255)) where
  -- no run of the chain comes to more
  fits : EachRunFrom (map_steps fronts g) s (λ p. fold (λ a x. a + x) 0 p.items < most + 1)
  fits =
      fits_from_length g f places (most + 1) (at_most_from_yields_List (YieldsList-from_slice xs source) few) callee (omega arith)
      (λ x r q k. ((calls x r q k).0, omega (arith, (calls x r q k).2)))

  -- and the whole run to the total
  pub comes :
      {r : ℕ} → (all : List ℕ) × (⊤ → Drains (map_steps fronts g) s all) × (r ≡ fold (λ a x. a + x) 0 all)
      → WholeRun (map_steps fronts g) s (λ p. r ≡ fold (λ a x. a + x) 0 p.items) → Comes (total_by h xs) r
  comes {r} ran (p, from, whole, sum) =
      record {
        is = sum_by_from_yields_List h xs s r ran (YieldsList-from_map g h (YieldsList-from_slice xs source) callee (λ x r q k. ((calls x r q k).0, (calls x r q k).1))) ∙ total_is h xs;
        small = omega (arith, sum, fits p p.seen from);
      }
