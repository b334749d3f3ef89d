-- Laws of a line that is filled place by place.
-- Assumes nothing.
use Prim.Native.Nat.{ℕ, zero, suc, ◌+◌, ◌<◌, ◌≤◌}
use native.Mathlib.Omega.{arith}
use mathlib.Core.Path.{◌≡◌, refl, sym, ◌∙◌}
use mathlib.Core.List.{List, [], ◌∷◌, map}
use borrow.Author.Count.{below_more}
use lib.ListN.{get_or, length, length-map, length-set, set, take}
use lib.Seq.{ext_get_or, get_or-set_other, get_or-set_same, get_or-take, length-take-le}
use Rattle.line.specs.Line.{Filled, fighter_at, fighter_of, places}
use Rattle.line.specs.declared.Fighter.{Fighter}

-- what stands at place j of a list that f makes of another
at_place : {A : Type 0} (f : ℕ → A) (xs : List ℕ) (j : ℕ) (d : A) → j < length xs → get_or (map f xs) j d ≡ f (get_or xs j 0)
at_place f [] j d l = absurd (omega arith)
at_place f (x ∷ xs) zero d l = refl
at_place f (x ∷ xs) (suc j) d l = at_place f xs j d (omega arith)

module _ {g : ℕ → Fighter} where
  -- one place more
  pub filled_more : {i : ℕ} {l m : List Fighter} {x : Fighter} → i < places → Filled g i l → x ≡ g i → m ≡ set l i x → Filled g (i + 1) m
  filled_more {i} {l} {m} {x} k o e f =
      rw f
      (record {
        size = length-set l i x ∙ o.size;
        each =
            below_more (λ j. fighter_at (set l i x) j ≡ g j) i
            (λ j h. get_or-set_other l i j x (fighter_of 0 0 0) (λ d. omega arith) ∙ o.each j h)
            (get_or-set_same l i x (fighter_of 0 0 0) (omega (arith, o.size)) ∙ e);
      })

  -- the line of a list, if each place has the fighter of its unit
  pub filled_list :
      {n : ℕ} {l : List Fighter} (h : ℕ → Fighter) (us : List ℕ) → n ≤ places → Filled g n l → length us ≡ n
      → ((i : ℕ) → i < n → g i ≡ h (get_or us i 0)) → take n l ≡ map h us
  filled_list {n} {l} h us k o e f =
      let long : length (take n l) ≡ n = length-take-le n l (omega (arith, o.size)) in
      ext_get_or (fighter_of 0 0 0) (take n l) (map h us) (long ∙ sym (length-map us h ∙ e))
      (λ i m.
      let j : i < n = omega arith in
      get_or-take n l i (fighter_of 0 0 0) j ∙ o.each i j ∙ f i j ∙ sym (at_place h us i (fighter_of 0 0 0) (omega arith)))
