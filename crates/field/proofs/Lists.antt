-- Laws of lists: refusal 3 along them, who is named, and the numbers that pass a test.
-- Assumes nothing.
use Prim.Native.Nat.{◌+◌, ◌<◌, ◌≤◌, suc, zero, ℕ}
use mathlib.Core.Bool.{Bool, ◌&&◌, and-false, cond, false, not, or-false, or-true, true}
use mathlib.Core.List.{List, [], ◌++◌, ◌∷◌, append-nil, map}
use mathlib.Core.Path.{◌∙◌, ◌≡◌, ap, ap₂, refl, subst, sym}
use native.Mathlib.Numerals.{add-one}
use native.Mathlib.Omega.{arith}
use borrow.Author.Count.{below_more}
use borrow.Author.Tests.{eq-eqb, eqb-true, le-leb, leb-true, lt-leb, not-false}
use denote.Bor.{Bor}
use denote.Param.Members.{Mut}
use lib.Dec.{eqb, leb}
use lib.ListN.{get_or-append, get_or, length, length-append, take}
use lib.Seq.{get_or-append_seam, take-suc}
use Rattle.std.specs.Fn.{Called}
use Rattle.std.specs.Iterator.{ChecksAny}
use Rattle.std.specs.List.{IsAnyAnswer}
use Rattle.std.specs.Slice.Iter.{iter_rest}
use Rattle.std.specs.declared.slice.Iter.{Iter}
use Rattle.std.proofs.iter.Yields.{fronts}
use Rattle.std.proofs.lemmas.Iterator.{YieldsList-from_slice, cases_from_any}
use Rattle.position.proofs.Tallies.{both_yes, either, neither, same_or}
use Rattle.position.specs.Board.{Board, board}
use Rattle.position.specs.Shape.{In}
use Rattle.position.specs.Tally.{tally}
use Rattle.ruling.proofs.Going.{Gone, GoneFrom, gone_end, gone_more, gone_none, gone_stop}
use Rattle.ruling.proofs.Meets.{pass, stop}
use Rattle.ruling.specs.Judged.{Passes, Stops}
use Rattle.field.specs.Listed.{Charted, list_length, named, no_unit, off_map, on_map_from, sieve}

module _ (units : List ℕ) where
  pub list_short : length units < 1 → list_length units ≡ false
  unfolding list_length
  list_short l = simp (lt-leb 1 (length units) l)

  pub list_long : 18 < length units → list_length units ≡ false
  unfolding list_length
  list_long l = simp (lt-leb (length units) 18 l, and-false)

  pub list_fits : 1 ≤ length units → length units ≤ 18 → list_length units ≡ true
  unfolding list_length
  list_fits l m = simp (le-leb 1 (length units) l, le-leb (length units) 18 m)

  pub list_in : not (list_length units) ≡ false → In 1 (length units) 18
  unfolding list_length
  list_in e =
      let n = length units in
      let h = both_yes (leb 1 n) (leb n 18) (not-false (leb 1 n && leb n 18) e) in
      record { low = leb-true 1 n h.0; high = leb-true n 18 h.1 }

-- who is named in a list
pub named_nil : (u : ℕ) → named [] u ≡ false
unfolding named
named_nil u = refl

pub named_last : (xs : List ℕ) (x u : ℕ) → named xs u ≡ false → named (xs ++ (x ∷ [])) u ≡ eqb x u
unfolding named
named_last [] x u e = simp or-false
named_last (y ∷ ys) x u e =
    let n = neither (eqb y u) (named ys u) e in
    simp n.0 (named_last ys x u n.1)

pub named_at : (xs : List ℕ) (j u : ℕ) → j < length xs → get_or xs j 0 ≡ u → named xs u ≡ true
unfolding named
named_at [] j u l e = absurd (omega arith)
named_at (x ∷ xs) zero u l e = simp (eq-eqb x u e)
named_at (x ∷ xs) (suc j) u l e = simp (named_at xs j u (omega arith) e, or-true)

-- an element more, and mapped
pub take_more : (us : List ℕ) (j : ℕ) → j < length us → take (j + 1) us ≡ take j us ++ (get_or us j 0 ∷ [])
take_more us j l = rw (add-one j) (take-suc us j 0 l)

pub map_last : {A : Type 0} (f : ℕ → A) (xs : List ℕ) (x : ℕ) → map f (xs ++ (x ∷ [])) ≡ map f xs ++ (f x ∷ [])
map_last f [] x = refl
map_last f (y ∷ ys) x = ap (λ (l : List _). f y ∷ l) (map_last f ys x)

pub map_at_lem : (f : ℕ → ℕ) (xs : List ℕ) (j : ℕ) → j < length xs → get_or (map f xs) j 0 ≡ f (get_or xs j 0)
map_at_lem f [] j l = absurd (omega arith)
map_at_lem f (x ∷ xs) zero l = refl
map_at_lem f (x ∷ xs) (suc j) l = map_at_lem f xs j (omega arith)

pub map_long : {A : Type 0} (f : ℕ → A) (xs : List ℕ) → length (map f xs) ≡ length xs
map_long f [] = refl
map_long f (x ∷ xs) = ap suc (map_long f xs)

-- x is none of the list, as f takes it
module _ (f : ℕ → ℕ) (x : ℕ) where
  named_never : (xs : List ℕ) → ((j : ℕ) → j < length xs → eqb (f (get_or xs j 0)) x ≡ false) → named (map f xs) x ≡ false
  unfolding named
  named_never [] h = refl
  named_never (y ∷ ys) h = simp (h 0 (omega arith)) (named_never ys (λ j l. h (suc j) (omega arith)))

  answered : (xs : List ℕ) (r : Bool) → IsAnyAnswer (λ y b. eqb (f y) x ≡ b) xs r → r ≡ named (map f xs) x
  answered xs true h =
      sym (named_at (map f xs) h.0 x (omega (arith, h.1, map_long f xs)) (map_at_lem f xs h.0 h.1 ∙ eqb-true (f (get_or xs h.0 0)) x (h.2 0)))
  answered xs false h = sym (named_never xs (λ j l. h j 0 (omega arith) l))

  -- `any` over the list, where each call of the closure answers whether f takes the item to x
  pub named_any :
      {F : Type 0} {g : Mut F (Bor ℕ × Unit {0}) Bool} {s u : Iter ℕ} {q : F} (xs : List ℕ) {r : Bool} → iter_rest s ≡ xs → ChecksAny fronts g s q r u
      → ((y : Bor ℕ) (b : Bool) (o : F) → Called g q (y, tt) b o → (o ≡ q) × (b ≡ eqb (f y.now) x)) → r ≡ named (map f xs) x
  named_any {q = q} xs {r} e ran c =
      answered xs r
      (cases_from_any _ q r (λ y. eqb (f y) x ≡ true) (λ y. eqb (f y) x ≡ false) ran (YieldsList-from_slice xs e)
      (λ y o h. sym (c y true o h).1) (λ y o h. ((c y false o h).0, sym (c y false o h).1)))

pub map_self : (xs : List ℕ) → map (λ x. x) xs ≡ xs
map_self [] = refl
map_self (x ∷ xs) = ap (λ (l : List ℕ). x ∷ l) (map_self xs)

-- a unit of the list, and a number that is none
module _ (p : List ℕ) (b : Board) (s x k : ℕ) where
  pub is_unit : x < b.units.count → Passes p (no_unit b s x k)
  unfolding no_unit
  is_unit m l v a q r g = pass (lt-leb b.units.count x m) g

  pub is_none : b.units.count ≤ x → Stops p (no_unit b s x k) 3 k
  unfolding no_unit
  is_none m l v = stop (le-leb b.units.count x m)

-- refusal 3 along the list, passed up to place i
pub record There (p units : List ℕ) (i : ℕ) : Type 0 where
  pub gone : Gone p (no_unit (board p)) (λ s x. s) 0 units i 0
  pub counted : (j : ℕ) → j < i → get_or units j 0 < (board p).units.count

pub there_more :
    {p units : List ℕ} {i : ℕ} → There p units i → i < length units → get_or units i 0 < (board p).units.count → There p units (i + 1)
there_more {p} {units} {i} o l t =
    record {
      gone = gone_more o.gone l (is_unit p (board p) 0 (get_or units i 0) (i + 1) t);
      counted = below_more (λ j. get_or units j 0 < (board p).units.count) i o.counted t;
    }

-- a hex of the map, and one that is not
module _ (p : List ℕ) (b : Board) (s x k : ℕ) where
  pub on_map_lem : x < b.map.hexes → Passes p (off_map b s x k)
  unfolding off_map
  on_map_lem m l v a q r g = pass (lt-leb b.map.hexes x m) g

  pub off_map_lem : b.map.hexes ≤ x → Stops p (off_map b s x k) 3 k
  unfolding off_map
  off_map_lem m l v = stop (le-leb b.map.hexes x m)

-- refusal 3 along the path, whose places are counted from k on, passed before element i
pub record OnMap (k : ℕ) (p path : List ℕ) (i : ℕ) : Type 0 where
  pub gone : GoneFrom k p (off_map (board p)) (λ s x. s) 0 path i 0
  pub charted : (j : ℕ) → j < i → get_or path j 0 < (board p).map.hexes

pub map_none : {k : ℕ} {p path : List ℕ} → OnMap k p path 0
map_none = record { gone = gone_none; charted = λ j l. absurd (omega arith) }

pub map_more :
    {k : ℕ} {p path : List ℕ} {i : ℕ} → OnMap k p path i → i < length path → get_or path i 0 < (board p).map.hexes
    → OnMap k p path (i + 1)
map_more {k} {p} {path} {i} o l t =
    record {
      gone = gone_more o.gone l (on_map_lem p (board p) 0 (get_or path i 0) (i + k) t);
      charted = below_more (λ j. get_or path j 0 < (board p).map.hexes) i o.charted t;
    }

-- at a number that is no hex, and past the last
module _ {k : ℕ} {p path : List ℕ} {i : ℕ} (o : OnMap k p path i) where
  pub map_stop : i < length path → (board p).map.hexes ≤ get_or path i 0 → Stops p (on_map_from (board p) path k) 3 (i + k)
  unfolding on_map_from
  map_stop l t v = λ w. gone_stop o.gone l (off_map_lem p (board p) 0 (get_or path i 0) (i + k) t) v (λ s. w)

  pub map_end : length path ≤ i → Passes p (on_map_from (board p) path k)
  unfolding on_map_from
  map_end m l v a q r w = gone_end o.gone m l (λ s. v) a q r w

-- a list of hexes of the map passes
map_reaches : (k : ℕ) (p path : List ℕ) → Charted (board p) path → (i : ℕ) → i ≤ length path → OnMap k p path i
map_reaches k p path c zero l = map_none
map_reaches k p path c (suc i) l =
    subst (OnMap k p path) (add-one i) (map_more (map_reaches k p path c i (omega arith)) (omega arith) (c i (omega arith)))

pub map_all : (k : ℕ) (p path : List ℕ) → Charted (board p) path → Passes p (on_map_from (board p) path k)
map_all k p path c = map_end (map_reaches k p path c (length path) (omega arith)) (omega arith)

-- the numbers that pass, of one number more
module _ (t : ℕ → Bool) where
  pub sieve_hit : (n : ℕ) → t n ≡ true → sieve t (n + 1) ≡ sieve t n ++ (n ∷ [])
  unfolding sieve
  sieve_hit n e = rw (add-one n) (simp e)

  pub sieve_miss : (n : ℕ) → t n ≡ false → sieve t (n + 1) ≡ sieve t n
  unfolding sieve
  sieve_miss n e = rw (add-one n) (simp (e, append-nil))

  -- they are as many as the tally counts
  pub sieve_long : (n : ℕ) → length (sieve t n) ≡ tally t n
  unfolding sieve tally
  sieve_long zero = refl
  sieve_long (suc n) =
      either (t n)
      (λ e. simp (e, length-append) (omega (arith, sieve_long n)))
      (λ e. simp (e, append-nil) (sieve_long n))

  pub sieve_grows : (k n : ℕ) → k ≤ n → length (sieve t k) ≤ length (sieve t n)
  unfolding sieve
  sieve_grows k zero l = let e : k ≡ 0 = omega arith in rw e (omega arith)
  sieve_grows k (suc n) l =
      same_or k (suc n)
      (λ e. rw e (omega arith))
      (λ d. omega (arith, sieve_grows k n (omega arith), length-append (sieve t n) (cond (t n) (n ∷ []) [])))

-- tests that agree let the same numbers pass
pub sieve_same : (t s : ℕ → Bool) (n : ℕ) → ((k : ℕ) → k < n → t k ≡ s k) → sieve t n ≡ sieve s n
unfolding sieve
sieve_same t s zero f = refl
sieve_same t s (suc n) f =
    ap₂ (λ (xs : List ℕ) (b : Bool). xs ++ cond b (n ∷ []) []) (sieve_same t s n (λ k l. f k (omega arith))) (f n (omega arith))

-- the numbers that pass are below the limit, and pass
pub record Passing (t : ℕ → Bool) (n x : ℕ) : Type 0 where
  pub below : x < n
  pub passes : t x ≡ true

pub sieve_at : (t : ℕ → Bool) (n i : ℕ) → i < length (sieve t n) → Passing t n (get_or (sieve t n) i 0)
unfolding sieve
sieve_at t zero i l = absurd (omega arith)
sieve_at t (suc n) i l =
    either (t n)
    (λ e.
    let xs = sieve t n in
    let z : sieve t n ++ cond (t n) (n ∷ []) [] ≡ xs ++ (n ∷ []) = simp e in
    let k : i < length xs + 1 = omega (arith, ap length z ∙ length-append xs (n ∷ [])) in
    rw z
    (same_or i (length xs)
    (λ d. rw (d, get_or-append_seam xs n [] 0) (record { below = omega arith; passes = e }))
    (λ d.
    let o = sieve_at t n i (omega arith) in
    rw (get_or-append xs (n ∷ []) 0 i (omega arith)) (record { below = omega (arith, o.below); passes = o.passes }))))
    (λ e.
    let z : sieve t n ++ cond (t n) (n ∷ []) [] ≡ sieve t n = simp (e, append-nil) in
    let o = sieve_at t n i (omega (arith, ap length z)) in
    rw z (record { below = omega (arith, o.below); passes = o.passes }))
