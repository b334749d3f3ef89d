-- Laws of who is named in a list, of the numbers that pass a test, and of lists that name each number once.
-- Assumes nothing.
use Prim.Native.Nat.{ℕ, zero, suc, ◌≤◌, ◌<◌}
use mathlib.Core.Path.{◌≡◌, refl, sym, ap, subst, ◌∙◌}
use mathlib.Core.Bool.{Bool, true, false, ◌||◌, cond, or-true}
use mathlib.Core.List.{List, [], ◌∷◌, ◌++◌, map}
use native.Mathlib.Omega.{arith}
use lib.ListN.{length}
use lib.Dec.{eqb}
use borrow.Author.Tests.{eq-eqb, ne_eqb, eqb-false}
use Rattle.position.specs.Tally.{tally}
use Rattle.position.proofs.Tallies.{not_both, neither, same_or, either, tally_le, tally_most, tally_but_hit, but, but_other, but_self}
use Rattle.ruling.specs.Secret.{Each}
use Rattle.ruling.proofs.Secrets.{each_by}
use Rattle.acceptance.proofs.Counts.{tally_nought, tally_one_off}
use Rattle.field.specs.Listed.{named, sieve}
use Rattle.field.proofs.Lists.{named_nil}

-- what holds of each number of a list
pub each_then : (P : ℕ → Type 0) (xs ys : List ℕ) → Each P xs → Each P ys → Each P (xs ++ ys)
each_then P [] ys h g = g
each_then P (x ∷ xs) ys h g = (h.0, each_then P xs ys h.1 g)

pub each_map : (P : ℕ → Type 0) (f : ℕ → ℕ) (xs : List ℕ) → Each (λ x. P (f x)) xs → Each P (map f xs)
each_map P f [] h = tt
each_map P f (x ∷ xs) h = (h.0, each_map P f xs h.1)

-- who is named
module _ (x : ℕ) (xs : List ℕ) (w : ℕ) where
  pub named_here : x ≡ w → named (x ∷ xs) w ≡ true
  unfolding named
  named_here e = simp (eq-eqb x w e)

  pub named_past : (x ≡ w → ⊥) → named (x ∷ xs) w ≡ named xs w
  unfolding named
  named_past n = simp (ne_eqb x w n)

  pub named_more : named xs w ≡ true → named (x ∷ xs) w ≡ true
  unfolding named
  named_more e = simp (e, or-true)

  pub unnamed_parts : named (x ∷ xs) w ≡ false → (x ≡ w → ⊥) × (named xs w ≡ false)
  unfolding named
  unnamed_parts e = let n = neither (eqb x w) (named xs w) e in (eqb-false x w n.0, n.1)

pub named_each : (P : ℕ → Type 0) (xs : List ℕ) → Each P xs → (w : ℕ) → named xs w ≡ true → P w
named_each P [] h w e = not_both (named [] w) e (named_nil w)
named_each P (x ∷ xs) h w e =
    same_or x w (λ q. subst P q h.0) (λ n. named_each P xs h.1 w (sym (named_past x xs w n) ∙ e))

pub each_named : (xs : List ℕ) → Each (λ w. named xs w ≡ true) xs
each_named [] = tt
each_named (x ∷ xs) = (named_here x xs x refl, each_by (λ w e. named_more x xs w e) xs (each_named xs))

pub named_then : (xs ys : List ℕ) (w : ℕ) → named (xs ++ ys) w ≡ (named xs w || named ys w)
unfolding named
named_then [] ys w = refl
named_then (x ∷ xs) ys w = either (eqb x w) (λ e. simp e) (λ e. simp e (named_then xs ys w))

-- no more numbers are named than the list is long
pub tally_named : (xs : List ℕ) (n : ℕ) → tally (named xs) n ≤ length xs
tally_named [] n = let e = tally_nought (named []) n (λ k _. named_nil k) in omega arith
tally_named (x ∷ xs) n =
    let t = named (x ∷ xs) in
    let h =
    tally_le (but t x) (named xs) n
    (λ k l e.
    same_or k x
    (λ q. not_both (but t x k) e (but_self t x k q))
    (λ d. sym (named_past x xs k (λ z. d (sym z))) ∙ sym (but_other t x k d) ∙ e))
    in
    omega (arith, tally_one_off t x n, tally_named xs n)

-- the numbers that pass a test
module _ (t : ℕ → Bool) where
  pub sieve_each : (n : ℕ) → Each (λ w. (w < n) × (t w ≡ true)) (sieve t n)
  unfolding sieve
  sieve_each zero = tt
  sieve_each (suc n) =
      each_then (λ w. (w < suc n) × (t w ≡ true)) (sieve t n) (cond (t n) (n ∷ []) [])
      (each_by (λ w h. (omega (arith, h.0), h.1)) (sieve t n) (sieve_each n))
      (either (t n) (λ e. simp e ((omega arith, refl), tt)) (λ e. simp e tt))

  pub sieve_names : (n w : ℕ) → w < n → t w ≡ true → named (sieve t n) w ≡ true
  unfolding sieve
  sieve_names zero w l e = absurd (omega arith)
  sieve_names (suc n) w l e =
      named_then (sieve t n) (cond (t n) (n ∷ []) []) w
      ∙ same_or w n
      (λ q. simp (ap t (sym q) ∙ e, named_here n [] w (sym q), or-true))
      (λ d. simp (sieve_names n w (omega arith) e))

-- a list that names each number once
abbrev pub Once : List ℕ → Type 0
Once [] = Unit {0}
Once (x ∷ xs) = (named xs x ≡ false) × Once xs

pub once_last : (xs : List ℕ) (x : ℕ) → Once xs → named xs x ≡ false → Once (xs ++ (x ∷ []))
once_last [] x o e = (named_nil x, tt)
once_last (y ∷ ys) x o e =
    let n = unnamed_parts y ys x e in
    (named_then ys (x ∷ []) y ∙ simp o.0 (named_past x [] y (λ z. n.0 (sym z)) ∙ named_nil y), once_last ys x o.1 n.1)

-- where g takes no two numbers of which P holds to one, and all below k, a list of such numbers once each is at most k long
module _
    {P : ℕ → Type 0}
    (g : ℕ → ℕ)
    (k : ℕ)
    (small : (x : ℕ) → P x → g x < k)
    (one : (x y : ℕ) → P x → P y → g x ≡ g y → x ≡ y) where
  unmapped : (xs : List ℕ) (x : ℕ) → P x → Each P xs → named xs x ≡ false → named (map g xs) (g x) ≡ false
  unmapped [] x p h e = named_nil (g x)
  unmapped (y ∷ ys) x p h e =
      let n = unnamed_parts y ys x e in
      named_past (g y) (map g ys) (g x) (λ q. n.0 (one y x h.0 p q)) ∙ unmapped ys x p h.1 n.1

  images : (xs : List ℕ) → Each P xs → Once xs → length xs ≤ tally (named (map g xs)) k
  images [] h o = omega arith
  images (x ∷ xs) h o =
      let t = named (g x ∷ map g xs) in
      let i = images xs h.1 o.1 in
      let e = tally_but_hit t (g x) k (small x h.0) (named_here (g x) (map g xs) (g x) refl) in
      let m = unmapped xs x h.0 h.1 o.0 in
      let j =
      tally_le (named (map g xs)) (but t (g x)) k
      (λ y l q.
      but_other t (g x) y (λ z. not_both (named (map g xs) y) q (ap (named (map g xs)) z ∙ m))
      ∙ named_more (g x) (map g xs) y q)
      in
      omega arith

  pub once_most : (xs : List ℕ) → Each P xs → Once xs → length xs ≤ k
  once_most xs h o = omega (arith, images xs h o, tally_most (named (map g xs)) k)
