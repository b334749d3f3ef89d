-- Laws of plots: what a byte says of its place, where its steps lead, and what a chain that is done changes.
-- Assumes nothing.
use Rattle.std.specs.Prelude.{Some, None}
use Prim.Native.Nat.{ℕ, zero, suc, ◌+◌, ◌/◌, ◌%◌, ◌≤◌, ◌<◌}
use mathlib.Core.Path.{◌≡◌, ap, ap₂, fun_ext, ◌∙◌}
use mathlib.Core.Bool.{Bool, true, false, cond}
use mathlib.Core.List.{List}
use native.Mathlib.Omega.{arith}
use lib.Dec.{eqb}
use lib.ListN.{length, set, length-set}
use lib.Seq.{get_or-set_same, get_or-set_other, set-set, set_comm, set-get_or}
use borrow.Author.Tests.{eq-eqb, ne_eqb}
use Rattle.grid.specs.Map.{neighbour_of}
use Rattle.grid.specs.Walk.{depth, distance_of}
use Rattle.grid.proofs.Step.{aside, down, ways, stepped}
use Rattle.grid.proofs.Tests.{under}
use Rattle.position.specs.Bits.{has}
use Rattle.position.specs.Layout.{byte}
use Rattle.position.proofs.Tallies.{same_or}
use Rattle.chains.specs.declared.Stand.{Stand}
use Rattle.chains.specs.declared.Stand.TheVariants.{Shut, Free, Loose}
use Rattle.chains.specs.Chain.{Ways, after}
use Rattle.plot.specs.Plot.{places, wide, high, stand_of, stand_in, side_bit, next_in, land_in, restood, shifted}

-- what the low part of a byte says of its place
module _ (m : ℕ) where
  pub stand_free : m % 4 ≡ 1 → stand_of m ≡ Free
  unfolding stand_of
  stand_free e = simp (eq-eqb (m % 4) 1 e)

  pub stand_loose : m % 4 ≡ 2 → stand_of m ≡ Loose
  unfolding stand_of
  stand_loose e = simp (ne_eqb (m % 4) 1 (λ z. omega arith), eq-eqb (m % 4) 2 e)

  pub stand_shut : (m % 4 ≡ 1 → ⊥) → (m % 4 ≡ 2 → ⊥) → stand_of m ≡ Shut
  unfolding stand_of
  stand_shut f g = simp (ne_eqb (m % 4) 1 f, ne_eqb (m % 4) 2 g)

-- another stand: the low part is the new one, and no bit of a direction changes
module _ (m k : ℕ) (l : k < 4) where
  pub restood_low : restood m k % 4 ≡ k
  unfolding restood
  restood_low = omega arith

  bit : (n : ℕ) → restood m k / n ≡ m / n → has n (restood m k) ≡ has n m
  unfolding has
  bit n e = ap (λ (q : ℕ). eqb (q % 2) 1) e

  pub restood_has : (d : ℕ) → has (side_bit d) (restood m k) ≡ has (side_bit d) m
  unfolding restood
  restood_has zero = bit 4 (omega arith)
  restood_has (suc zero) = bit 8 (omega arith)
  restood_has (suc (suc zero)) = bit 16 (omega arith)
  restood_has (suc (suc (suc zero))) = bit 32 (omega arith)
  restood_has (suc (suc (suc (suc zero)))) = bit 64 (omega arith)
  restood_has (suc (suc (suc (suc (suc zero))))) = bit 128 (omega arith)
  restood_has (suc (suc (suc (suc (suc (suc d)))))) = bit 256 (omega arith)

-- a column and a row further at most, fourteen to a row
near_rows : (c r u v c1 r1 : ℕ) → u ≤ 2 → v ≤ 4 → c1 + 1 ≡ c + u → depth c1 r1 + 2 ≡ depth c r + v → (c1 ≤ c + 1) × (c ≤ c1 + 1) × (r1 ≤ r + 1) × (r ≤ r1 + 1)
near_rows c r u v c1 r1 p q e f = (omega arith, omega arith, omega arith, omega arith)

-- the last direction
pub five : (d : ℕ) → 5 ≤ d → d < 6 → 128 ≡ side_bit d
five d p q = let e : d ≡ 5 = omega arith in rw e

-- a step leads where its bit is there
module _ (l : List ℕ) (i d : ℕ) where
  pub next_open : has (side_bit d) (byte l i) ≡ true → next_in l i d ≡ neighbour_of wide high i d
  unfolding next_in
  next_open e = simp e

  pub next_shut : has (side_bit d) (byte l i) ≡ false → next_in l i d ≡ None
  unfolding next_in
  next_shut e = simp e

-- a step leads to a place of the plot, at most fifteen off
module _ (l : List ℕ) (i d z : ℕ) (e : next_in l i d ≡ Some z) where
  next_beside : neighbour_of wide high i d ≡ Some z
  unfolding next_in
  next_beside = (under (has (side_bit d) (byte l i)) (neighbour_of wide high i d) e).1

  pub next_below : z < places
  next_below = omega (arith, (stepped wide high i d z next_beside).to.below)

  pub next_near : (z ≤ i + 15) × (i ≤ z + 15)
  next_near =
      let g = (stepped wide high i d z next_beside).goes in
      let k = ways d g.dir in
      let n = near_rows (i % wide) (i / wide) (aside d) (down d) (z % wide) (z / wide) k.most (omega (arith, k.low, k.left)) g.over g.deeper in
      fifteen n.0 n.1 n.2 n.3
    where
      fifteen : z % wide ≤ i % wide + 1 → i % wide ≤ z % wide + 1 → z / wide ≤ i / wide + 1 → i / wide ≤ z / wide + 1 → (z ≤ i + 15) × (i ≤ z + 15)
      fifteen p q r s = (omega arith, omega arith)

-- a byte is given another stand
module _ (l : List ℕ) (x k : ℕ) (s : k < 4) (b : x < length l) where
  restand_here : byte (set l x (restood (byte l x) k)) x ≡ restood (byte l x) k
  restand_here = get_or-set_same l x (restood (byte l x) k) 0 b

  restand_else : (i : ℕ) → (i ≡ x → ⊥) → byte (set l x (restood (byte l x) k)) i ≡ byte l i
  restand_else i n = get_or-set_other l x i (restood (byte l x) k) 0 n

  restand_has : (i d : ℕ) → has (side_bit d) (byte (set l x (restood (byte l x) k)) i) ≡ has (side_bit d) (byte l i)
  restand_has i d =
      same_or i x
      (λ e. rw e (ap (has (side_bit d)) restand_here ∙ restood_has (byte l x) k s d))
      (λ n. ap (has (side_bit d)) (restand_else i n))

  restand_stand : (i : ℕ) → stand_of (byte (set l x (restood (byte l x) k)) i) ≡ cond (eqb i x) (stand_of (restood (byte l x) k)) (stand_of (byte l i))
  restand_stand i =
      same_or i x
      (λ e. simp (eq-eqb i x e) (rw e (ap stand_of restand_here)))
      (λ n. simp (ne_eqb i x n) (ap stand_of (restand_else i n)))

-- a chain is done: two stores
pub shift_is :
    (l : List ℕ) (x y a b : ℕ) → a ≡ restood (byte l x) 1 → b ≡ restood (byte (set l x a) y) 2 → set (set l x a) y b ≡ shifted l x y
unfolding shifted
shift_is l x y a b e f = rw (f, e)

module _ (l : List ℕ) (x y : ℕ) where
  pub shifted_long : length (shifted l x y) ≡ length l
  unfolding shifted
  shifted_long = simp length-set

  -- the bytes that it changed, put back
  pub shifted_back : set (set (shifted l x y) y (byte l y)) x (byte l x) ≡ l
  unfolding shifted
  shifted_back =
      same_or x y
      (λ e. rw e (simp set-set (set-get_or l y 0)))
      (λ n. simp set-set (rw (set_comm l x y) (simp set-set (rw (set-get_or l y 0) (set-get_or l x 0)))))

module _ (l : List ℕ) (x y : ℕ) (long : length l ≡ places) (p : x < places) (q : y < places) where
  pub shifted_stands : stand_in (shifted l x y) ≡ after (stand_in l) x y
  unfolding stand_in after shifted
  shifted_stands =
      fun_ext
      (λ i.
      restand_stand (set l x (restood (byte l x) 1)) y 2 (omega arith) (omega (arith, length-set l x (restood (byte l x) 1))) i
      ∙ ap₂ (λ (s t : Stand). cond (eqb i y) s t)
      (stand_loose _ (restood_low (byte (set l x (restood (byte l x) 1)) y) 2 (omega arith)))
      (restand_stand l x 1 (omega arith) (omega arith) i
      ∙ ap (λ (s : Stand). cond (eqb i x) s (stand_of (byte l i))) (stand_free _ (restood_low (byte l x) 1 (omega arith)))))

  pub shifted_ways : next_in (shifted l x y) ≡ next_in l
  unfolding next_in shifted
  shifted_ways =
      fun_ext
      (λ i.
      fun_ext
      (λ d.
      ap (λ (t : Bool). cond t (neighbour_of wide high i d) None)
      (restand_has (set l x (restood (byte l x) 1)) y 2 (omega arith) (omega (arith, length-set l x (restood (byte l x) 1))) i d
      ∙ restand_has l x 1 (omega arith) (omega arith) i d)))

  pub shifted_land : (home : ℕ) → land_in home (shifted l x y) ≡ land_in home l
  unfolding land_in
  shifted_land home = ap (λ (n : Ways). record { hexes = places; next = n; far = distance_of wide home }) shifted_ways
