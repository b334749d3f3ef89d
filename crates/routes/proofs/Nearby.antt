-- Laws of friends near a start: what marks say of them, and that the window shows them all.
-- Assumes nothing.
use Prim.Native.Nat.{ℕ, ◌<◌}
use mathlib.Core.Path.{◌≡◌, refl, sym, ap, ◌∙◌}
use mathlib.Core.Bool.{false}
use mathlib.Core.List.{List}
use native.Mathlib.Omega.{arith}
use lib.ListN.{length, set}
use Rattle.grid.specs.declared.region.Region.{Region}
use Rattle.grid.specs.Region.{Inside, place_of}
use Rattle.grid.proofs.Walks.{same_zero}
use Rattle.grid.proofs.Regions.{place-in, place_one}
use Rattle.position.specs.declared.View.{View}
use Rattle.position.specs.Laid.{Laid}
use Rattle.position.specs.Board.{Board, board}
use Rattle.position.specs.Tally.{any}
use Rattle.position.proofs.Sides.{on_view}
use Rattle.position.proofs.Tallies.{any_false}
use Rattle.field.specs.Scene.{scene}
use Rattle.paint.specs.Paint.{Marked}
use Rattle.paint.proofs.Bytes.{byte_other}
use Rattle.paint.proofs.Units.{marked_depot, marked_own, marked_zone}
use Rattle.routes.specs.Window.{Window}
use Rattle.routes.specs.Outlook.{Nobody, friendly, friendly_at, friends}
use Rattle.routes.proofs.Windows.{window_marked}

-- a hex's marks say whether it has friends
pub friendly_marked : (b : Board) (f x : ℕ) {m : ℕ} → Marked (scene b) f x m → friendly m ≡ friends b f x
unfolding friendly friends
friendly_marked b f x k = simp (marked_own k, marked_depot k, marked_zone k)

-- if no place shows any but the start's, which is blotted out, there are none near
module _ {p : List ℕ} {v : View} {f start : ℕ} {at : Region} {l : List ℕ} (d : Laid p v) (k : Window p v f start at l) where
  start_inside : start < v.hexes → Inside v.width v.height at start
  start_inside s = k.round.near start (on_view d start s) (omega (arith, same_zero v.width start))

  pub nobody_near :
      start < v.hexes → length l ≡ 56 → {home : ℕ} → home ≡ place_of v.width at start → any (friendly_at (set l home 0)) 56 ≡ false
      → Nobody (board p) f start
  unfolding friendly_at
  nobody_near s n {home} h e =
      record {
        near = λ x o q other.
            let w = d.view.width in
            let i = k.round.near x (rw w (rw d.view.height o)) (rw w q) in
            let z : place_of v.width at x < 56 = omega (arith, place-in i, k.room.long, n) in
            let y = byte_other l home 0 (place_of v.width at x) (λ j. other (place_one i (start_inside s) (j ∙ h))) in
            sym (friendly_marked (board p) f x (window_marked d k x i refl refl))
            ∙ ap friendly (sym y)
            ∙ any_false (friendly_at (set l home 0)) 56 (place_of v.width at x) e z;
      }
