-- Beside what is certain: vocabulary of contracts and proofs.
-- The window of the search: the hexes round its start, shown in a buffer.
-- Assumes nothing.
use Rattle.std.specs.Prelude.{ℕ, Bool, not, ◌&&◌, List}
use Rattle.grid.specs.declared.region.Region.{Region}
use Rattle.grid.specs.Region.{Round}
use Rattle.position.specs.declared.View.{View}
use Rattle.position.specs.Bits.{has}
use Rattle.position.specs.Board.{board}
use Rattle.field.specs.Scene.{scene}
use Rattle.paint.specs.Room.{Room}
use Rattle.paint.specs.Paint.{zone_mark, held_mark, Shows}

-- a hex with the marks m is vacant and outside Enemy zones
unfoldable pub free : ℕ → Bool
free m = not (has held_mark m) && not (has zone_mark m)

-- no route has more hexes, and so no hex of one lies further from its start
abbrev pub most : ℕ
most = 3

-- the buffer l shows the hexes round hex `start` to force f
pub record Window (p : List ℕ) (v : View) (f start : ℕ) (at : Region) (l : List ℕ) : Type 0 where
  pub round : Round v.width v.height start most at
  pub room : Room at l
  pub shows : Shows (scene (board p)) f at l
