-- What callers want of neighbours and distances.
-- Assumes nothing.
use Rattle.std.specs.Prelude.{Some}
use mathlib.Core.Path.{◌≡◌, refl, ◌∙◌, ap, subst}
use Prim.Native.Nat.{ℕ, ◌+◌, ◌/◌, ◌%◌, ◌≤◌, ◌<◌}
use native.Mathlib.Nat.{le_antisymm, zero-add, suc-add}
use native.Mathlib.Omega.{arith}
use Rattle.grid.specs.Map.{On, neighbour_of}
use Rattle.grid.specs.Walk.{Adjacent, Walk, here, step, Distance, depth, distance_of}
use Rattle.grid.proofs.Arith.{column, row, number}
use Rattle.grid.proofs.Step.{ways, goes_back, one_way, stepped, steps}
pub use Rattle.grid.proofs.Tests.{on_facts, on_test}
pub use Rattle.grid.proofs.Walks.{distance_is, zero_same, same_zero, symmetric}

module _ (w h a d b : ℕ) (e : neighbour_of w h a d ≡ Some b) where
  -- a hex that has a neighbour is on the map, so is the neighbour, and only six directions lead to one
  pub from_map : On w h a
  from_map = (stepped w h a d b e).from

  pub on_map_lem : On w h b
  on_map_lem = (stepped w h a d b e).to

  pub direction : d < 6
  direction = (stepped w h a d b e).goes.dir

  -- a neighbour's neighbour in the opposite direction is the hex itself
  pub opposite : neighbour_of w h b ((d + 3) % 6) ≡ Some a
  opposite =
      let s = stepped w h a d b e in
      steps w h b ((d + 3) % 6) (a % w) (a / w) s.to (column s.from) (row s.from) (goes_back s.goes) ∙ ap Some (number w a)

  -- a neighbour is another hex
  pub other : a ≡ b → ⊥
  other p =
      let g = (stepped w h a d b e).goes in
      let k = ways d g.dir in
      omega (arith, ap (λ (n : ℕ). depth (n % w) (n / w)) p)

-- two directions lead to two neighbours
pub distinct : (w h a d d' b : ℕ) → neighbour_of w h a d ≡ Some b → neighbour_of w h a d' ≡ Some b → d ≡ d'
distinct w h a d d' b p q = one_way (stepped w h a d b p).goes (stepped w h a d' b q).goes

-- a walk begins and ends on the map
pub begins : {w h a b n : ℕ} → Walk w h a b n → On w h a
begins (here o) = o
begins {w} {h} (step {a} {b} dir e k) = from_map w h a dir b e

pub ends : {w h a b n : ℕ} → Walk w h a b n → On w h b
ends (here o) = o
ends (step dir e k) = ends k

-- walks one after the other
pub then : {w h a b c m n : ℕ} → Walk w h a b m → Walk w h b c n → Walk w h a c (m + n)
then (here o) k = rw zero-add k
then (step dir e j) k = rw suc-add (step dir e (then j k))

-- the distance is one number, the closed form
pub unique : {w h a b m n : ℕ} → Distance w h a b m → Distance w h a b n → m ≡ n
unique p q = le_antisymm (p.least _ q.reached) (q.least _ p.reached)

pub closed : {w h a b n : ℕ} → Distance w h a b n → distance_of w a b ≡ n
closed p = unique (distance_is _ _ _ _ (begins p.reached) (ends p.reached)) p

pub measured : {w h a b n : ℕ} → On w h a → On w h b → distance_of w a b ≡ n → Distance w h a b n
measured {w} {h} {a} {b} o q e = subst (λ (m : ℕ). Distance w h a b m) e (distance_is w h a b o q)

-- distance 0 exactly for the same hex
pub distance_zero : {w h a b : ℕ} → Distance w h a b 0 → a ≡ b
distance_zero {w} {h} {a} {b} p = zero_same w a b (closed p)

pub distance_same : {w h a : ℕ} → On w h a → Distance w h a a 0
distance_same {w} {h} {a} o = measured o o (same_zero w a)

-- distance 1 exactly for neighbours
some_step : {w h a b m : ℕ} → Walk w h a b m → (a ≡ b → ⊥) → 1 ≤ m
some_step (here o) f = absurd (f refl)
some_step (step dir e k) f = omega arith

pub distance_beside : (w h a d b : ℕ) → neighbour_of w h a d ≡ Some b → Distance w h a b 1
distance_beside w h a d b e = record { reached = step d e (here (on_map_lem w h a d b e)); least = λ m k. some_step k (other w h a d b e) }

pub beside_one : (w h a d b : ℕ) → neighbour_of w h a d ≡ Some b → distance_of w a b ≡ 1
beside_one w h a d b e = closed (distance_beside w h a d b e)

first_step : {w h a b : ℕ} → Walk w h a b 1 → Adjacent w h a b
first_step (step dir e (here o)) = record { dir = dir; leads = e }

pub distance_one : {w h a b : ℕ} → Distance w h a b 1 → Adjacent w h a b
distance_one p = first_step p.reached

pub one_beside : {w h a b : ℕ} → On w h a → On w h b → distance_of w a b ≡ 1 → Adjacent w h a b
one_beside o q e = distance_one (measured o q e)

-- the way back is as far
pub distance_back : {w h a b n : ℕ} → Distance w h a b n → Distance w h b a n
distance_back {w} {h} {a} {b} p = measured (ends p.reached) (begins p.reached) (symmetric w b a ∙ closed p)

-- a third hex is no shorter way
pub distance_triangle : {w h a b c l m n : ℕ} → Distance w h a b l → Distance w h b c m → Distance w h a c n → n ≤ l + m
distance_triangle p q r = r.least _ (then p.reached q.reached)

pub triangle : {w h a b c : ℕ} → On w h a → On w h b → On w h c → distance_of w a c ≤ distance_of w a b + distance_of w b c
triangle o q r = distance_triangle (distance_is _ _ _ _ o q) (distance_is _ _ _ _ q r) (distance_is _ _ _ _ o r)

-- a walk as long as the distance of its ends is in each part as long as the distance of that part's ends
module _ {w h a b c i j : ℕ} (k : Walk w h a b i) (l : Walk w h b c j) (p : Distance w h a c (i + j)) where
  pub first_part : Distance w h a b i
  first_part = record { reached = k; least = λ m k'. omega (arith, p.least (m + j) (then k' l)) }
