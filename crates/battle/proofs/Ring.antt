-- The hexes beside a hex: a step leads from each of them in a direction of its own, so there are at most six.
-- Assumes nothing.
use Rattle.std.specs.Prelude.{Some, None}
use Prim.Native.Nat.{ℕ, ◌+◌, ◌%◌}
use mathlib.Core.Path.{◌≡◌}
use mathlib.Core.Bool.{true}
use native.Mathlib.Omega.{arith}
use lib.Dec.{eqb}
use Rattle.grid.proofs.Laws.{opposite, other}
use Rattle.position.specs.Board.{Map}
use Rattle.position.specs.Ground.{beside, side, blocked_side, next, is_at, joined}
use Rattle.position.proofs.Tallies.{either}
use Rattle.position.proofs.Sides.{reaches, is-at}
use Rattle.position.specs.Ground.{bearing}
use Rattle.position.proofs.Bearings.{bearing_reaches}

module _ (m : Map) where
  reaches_beside : (h x d : ℕ) → reaches m h x d ≡ true → beside m h d ≡ Some x
  unfolding reaches next
  reaches_beside h x d e =
      either (eqb (side m h d) blocked_side)
      (λ q. off (simp q at e))
      (λ q. is-at (beside m h d) x (simp q at e))
    where
      off : is_at None x ≡ true → beside m h d ≡ Some x
      off e = let z = is-at None x e in let n : ◌≡◌ {A = ℕ} 0 1 = cc in absurd (omega arith)

  module _ (x h : ℕ) (e : joined m h x ≡ true) where
    joined_beside : beside m h (bearing m h x) ≡ Some x
    joined_beside = reaches_beside h x (bearing m h x) (bearing_reaches m h x e)

    -- it is another hex
    pub joined_other : h ≡ x → ⊥
    joined_other = other m.width m.height h (bearing m h x) x joined_beside

    joined_back : beside m x ((bearing m h x + 3) % 6) ≡ Some h
    joined_back = opposite m.width m.height h (bearing m h x) x joined_beside

  -- one direction, one hex
  pub joined_one : (x h k : ℕ) → joined m h x ≡ true → joined m k x ≡ true → bearing m h x ≡ bearing m k x → h ≡ k
  joined_one x h k e f q =
      let a = joined_back x h e in
      let b : beside m x ((bearing m h x + 3) % 6) ≡ Some k = rw q (joined_back x k f) in
      cc
