-- Laws of the window of a search: which hexes it has, and what its marks say of a refuge.
-- Assumes nothing.
use Prim.Native.Nat.{ℕ, ◌*◌}
use mathlib.Core.Path.{◌≡◌, sym, ap, ap₂, subst, ◌∙◌}
use mathlib.Core.Bool.{true, false, and-false, not-not}
use mathlib.Core.List.{List}
use native.Mathlib.Omega.{arith}
use lib.ListN.{length}
use Rattle.grid.specs.declared.region.Region.{Region}
use Rattle.grid.specs.Region.{Inside, place_of, Round}
use Rattle.position.specs.declared.View.{View}
use Rattle.position.specs.Layout.{byte, width}
use Rattle.position.specs.Laid.{Laid}
use Rattle.position.specs.Board.{Board, board}
use Rattle.position.specs.Ground.{standable}
use Rattle.field.specs.Scene.{scene}
use Rattle.paint.specs.Room.{Room}
use Rattle.paint.specs.Paint.{Marked, Shows}
use Rattle.paint.proofs.Units.{marked_zone, marked_held}
use Rattle.routes.specs.Bears.{bears, refuge}
use Rattle.routes.specs.Window.{free, most, Window}

-- a refuge is where a unit may stand, and free
module _ (b : Board) (f h : ℕ) where
  pub refuge_barred : standable b h ≡ false → refuge b f h ≡ false
  unfolding refuge bears
  refuge_barred e = simp (e, and-false)

  pub refuge_free : {m : ℕ} → Marked (scene b) f h m → standable b h ≡ true → free m ≡ refuge b f h
  unfolding refuge bears free
  refuge_free k e = simp (e, marked_held k, marked_zone k, not-not)

-- it has room in 56 bytes
pub round_room : {w h start : ℕ} {at : Region} {l : List ℕ} → Round w h start most at → length l ≡ 56 → Room at l
round_room {at = at} a e = record { region = a.ok; long = omega (arith, e, ap₂ (λ (x y : ℕ). x * y) a.wide a.high) }

-- painted round the start's spot it is the window
pub window_is :
    {p : List ℕ} {v : View} {f start x : ℕ} {at : Region} {l : List ℕ} → Round v.width v.height x most at → x ≡ start → length l ≡ 56
    → Shows (scene (board p)) f at l → Window p v f start at l
window_is {v = v} {at = at} a e n s =
    let k = subst (λ (y : ℕ). Round v.width v.height y most at) e a in
    record { round = k; room = round_room k n; shows = s }

-- the byte at a hex's place has the hex's marks
pub window_marked :
    {p : List ℕ} {v : View} {f start : ℕ} {at : Region} {l : List ℕ} → Laid p v → Window p v f start at l → (x : ℕ) → Inside v.width v.height at x
    → {i m : ℕ} → i ≡ place_of v.width at x → m ≡ byte l i → Marked (scene (board p)) f x m
window_marked {p} {v} {f} {start} {at} {l} d k x j {i} {m} e q =
    let w = d.view.width in
    let o = k.shows.each x (rw (w, d.view.height) at j) in
    let z : m ≡ byte l (place_of (width p) at x) = q ∙ ap (λ (n : ℕ). byte l n) (e ∙ ap (λ (n : ℕ). place_of n at x) w) in
    subst (Marked (scene (board p)) f x) (sym z) o
