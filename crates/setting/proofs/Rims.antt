-- Laws of the way round the rim: where it begins, and what it passes over has no stored side at the map's edge.
-- Assumes nothing.
use Prim.Native.Nat.{ℕ, zero, suc, ◌*◌, ◌<◌}
use mathlib.Core.Path.{◌≡◌, sym, subst, ap₂, ◌∙◌}
use mathlib.Core.List.{List}
use native.Mathlib.Omega.{arith}
use native.Mathlib.Decide.{dec_lt, ℕ_discrete}
use Rattle.grid.specs.Rim.{RimHex, RimNext}
use Rattle.position.specs.declared.View.{View}
use Rattle.position.specs.Layout.{hexes}
use Rattle.position.specs.Board.{Map, ground}
use Rattle.position.specs.Ground.{stored}
use Rattle.position.specs.Laid.{Laid}
use Rattle.position.proofs.Answers.{Passed}
use Rattle.position.proofs.Sides.{beside_view}
use Rattle.setting.specs.Rim.{EdgesOk}

-- a hex with nothing at any of its sides has nothing at the map's edge
pub all_plain : (m : Map) (h : ℕ) → m.sides h ≡ 0 → EdgesOk m h
all_plain m h e d l = record { plain = λ o. none d }
  where
    none : (d : ℕ) → stored m h d ≡ 0
    none zero = unfold stored in omega arith
    none (suc zero) = unfold stored in omega arith
    none (suc (suc d)) = unfold stored in omega arith

-- every hex before h has passed, and h is a hex of the rim if it is one at all
pub record Round (p : List ℕ) (v : View) (h : ℕ) : Type 0 where
  pub passed : Passed (EdgesOk (ground p)) h v.hexes
  pub rim : h < v.hexes → RimHex v.width v.height h

module _ {p : List ℕ} {v : View} (l : Laid p v) where
  area : v.hexes ≡ v.width * v.height
  unfolding hexes
  area = l.view.hexes ∙ sym (ap₂ ◌*◌ l.view.width l.view.height)

  pub round_goes_on : {x r : ℕ} → Round p v x → EdgesOk (ground p) x → RimNext v.width v.height x r → Round p v r
  round_goes_on {x} {r} s e n =
      record {
        passed = record { most = omega (arith, area, n.most); held = λ y k. at y k (dec_lt y x) (ℕ_discrete y x) };
        rim = λ k. n.rim (omega (arith, area));
      }
    where
      at : (y : ℕ) → y < r → Dec (y < x) → Dec (y ≡ x) → EdgesOk (ground p) y
      at y k (yes b) q = s.passed.held y b
      at y k (no b) (yes q) = subst (EdgesOk (ground p)) (sym q) e
      at y k (no b) (no q) =
          λ d a. record { plain = λ o. absurd (n.between y d (omega arith) k a (beside_view l.view y d ∙ o)) }
