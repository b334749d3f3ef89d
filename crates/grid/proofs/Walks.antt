-- The closed formula is the distance: no walk has fewer steps, and one has as many.
-- Assumes nothing.
use mathlib.Core.Path.{◌≡◌, refl, sym, ◌∙◌, ap₂, subst}
use Prim.Native.Nat.{ℕ, zero, suc, ◌+◌, ◌*◌, ◌/◌, ◌%◌, ◌≤◌}
use native.Mathlib.Omega.{arith}
use Rattle.grid.specs.Map.{On}
use Rattle.grid.specs.Walk.{Walk, here, step, Distance, depth, distance_of}
use Rattle.grid.proofs.Arith.{column, row, number, column_of_lem, row_of, inside}
use Rattle.grid.proofs.Step.{stepped, steps}
use Rattle.grid.proofs.Far.{Within, within_far, one_more, none, no_gap, back, closer}

-- no farther than n steps, on hexes
abbrev Reach : ℕ → ℕ → ℕ → ℕ → Type 0
Reach w a b n = Within (a % w) (depth (a % w) (a / w)) (b % w) (depth (b % w) (b / w)) n

walked : {w h a b n : ℕ} → Walk w h a b n → Reach w a b n
walked (here o) = omega arith
walked {w} {h} (step {a} {b} dir e k) = one_more (stepped w h a dir b e).goes (walked k)

-- so no walk is shorter than the closed form
not_less : {w h a b n : ℕ} → Walk w h a b n → distance_of w a b ≤ n
unfolding distance_of
not_less {w} {h} {a} {b} {n} k = within_far _ _ _ _ n (walked k)

-- distance 0 exactly for the same hex
pub zero_same : (w a b : ℕ) → distance_of w a b ≡ 0 → a ≡ b
unfolding distance_of
zero_same w a b e =
    let p = no_gap (a % w) (a / w) (b % w) (b / w) e in
    sym (number w a) ∙ ap₂ (λ (r c : ℕ). r * w + c) p.1 p.0 ∙ number w b

pub same_zero : (w a : ℕ) → distance_of w a a ≡ 0
unfolding distance_of
same_zero w a = none (a % w) (depth (a % w) (a / w))

-- the distance there is the distance back
pub symmetric : (w a b : ℕ) → distance_of w a b ≡ distance_of w b a
unfolding distance_of
symmetric w a b = back _ _ _ _

-- and a walk is as short: each step leaves one less
walk_of : (w h n a b : ℕ) → On w h a → On w h b → distance_of w a b ≡ n → Walk w h a b n
unfolding distance_of
walk_of w h zero a b o q e = subst (λ (x : ℕ). Walk w h a x zero) (zero_same w a b e) (here o)
walk_of w h (suc n) a b o q e =
    let k = closer w h (a % w) (a / w) (b % w) (b / w) n (column o) (row o) (column q) (row q) e in
    let c = k.r1 * w + k.c1 in
    let ec : c % w ≡ k.c1 = column_of_lem k.r1 k.inw in
    let er : c / w ≡ k.r1 = row_of k.r1 k.inw in
    step k.dir (steps w h a k.dir k.c1 k.r1 o k.inw k.inh k.goes)
    (walk_of w h n c b (inside o k.inw k.inh) q (rw (ec, er) k.left))

-- the distance of two hexes of a map is what the closed form says
pub distance_is : (w h a b : ℕ) → On w h a → On w h b → Distance w h a b (distance_of w a b)
distance_is w h a b o q = record { reached = walk_of w h (distance_of w a b) a b o q refl; least = λ m k. not_less k }
