-- Beside what is certain: vocabulary of contracts and proofs.
-- What a buffer shows of a part of the map: who stands where, and where the Enemy zones lie.
-- Assumes nothing.
use Rattle.std.specs.Prelude.{ℕ, ◌+◌, ◌≡◌, Bool, false, not, cond, ◌&&◌, ◌||◌, List, ltb, eqb, length}
use Rattle.grid.specs.declared.region.Region.{Region}
use Rattle.grid.specs.Region.{Inside, place_of}
use Rattle.position.specs.Tally.{any}
use Rattle.position.specs.Bits.{has}
use Rattle.position.specs.Layout.{byte, forces}
use Rattle.position.specs.Board.{Map}
use Rattle.position.specs.Kind.{casts_zone}
use Rattle.position.specs.Ground.{beside, side, is_at}
use Rattle.field.specs.Scene.{Scene, force_in}
use Rattle.field.specs.Zone.{stands_on, vacant, own_on, holds, supply_unit_on, enemy_on, holds_enemy, enemy_zone}

-- what a hex may be marked with: in an Enemy zone, held by an Enemy, by a unit of the force, by a supply unit of it, by any unit; and one mark
-- that painting leaves to its caller
pub data Mark : Type 0 where
  in_zone : Mark
  by_enemy : Mark
  by_own : Mark
  by_depot : Mark
  by_any : Mark
  spare : Mark

abbrev pub zone_mark : ℕ
zone_mark = 1

abbrev pub enemy_mark : ℕ
enemy_mark = 2

abbrev pub own_mark : ℕ
own_mark = 4

abbrev pub depot_mark : ℕ
depot_mark = 8

abbrev pub held_mark : ℕ
held_mark = 16

abbrev pub spare_mark : ℕ
spare_mark = 32

abbrev pub bit : Mark → ℕ
bit in_zone = zone_mark
bit by_enemy = enemy_mark
bit by_own = own_mark
bit by_depot = depot_mark
bit by_any = held_mark
bit spare = spare_mark

-- what each mark says of hex h for force f
unfoldable pub mark_holds : Scene → ℕ → Mark → ℕ → Bool
mark_holds s f in_zone h = enemy_zone s f h
mark_holds s f by_enemy h = holds_enemy s f h
mark_holds s f by_own h = holds s f h
mark_holds s f by_depot h = any (supply_unit_on s f h) s.count
mark_holds s f by_any h = not (vacant s h)
mark_holds s f spare h = false

-- the byte m has the marks of hex h
pub record Marked (s : Scene) (f h m : ℕ) : Type 0 where
  pub each : (k : Mark) → has (bit k) m ≡ mark_holds s f k h

-- the buffer l shows the region to force f
pub record Shows (s : Scene) (f : ℕ) (at : Region) (l : List ℕ) : Type 0 where
  pub each : (h : ℕ) → Inside s.map.width s.map.height at h → Marked s f h (byte l (place_of s.map.width at h))

-- unit u casts a zone against force f
unfoldable pub casts_against : Scene → ℕ → ℕ → Bool
casts_against s f u = ltb (force_in s u) forces && (s.enemy f (force_in s u) && casts_zone (s.kind u))

-- "A zone covers the adjacent hexes, but not across blocked or major river sides nor into all-sea": that of a caster on hex n covers
-- hex h in direction d
unfoldable pub covers : Map → ℕ → ℕ → ℕ → Bool
covers m n h d = is_at (beside m n d) h && (ltb (side m n d) 2 && not (eqb (m.surface h) 2))

unfoldable pub zone_by : Scene → ℕ → ℕ → ℕ → Bool
zone_by s f h u = casts_against s f u && any (covers s.map (s.hex u) h) 6

-- what unit u marks hex h with
unfoldable pub mark_by : Scene → ℕ → Mark → ℕ → ℕ → Bool
mark_by s f in_zone h u = zone_by s f h u
mark_by s f by_enemy h u = enemy_on s f h u
mark_by s f by_own h u = own_on s f h u
mark_by s f by_depot h u = supply_unit_on s f h u
mark_by s f by_any h u = stands_on s h u
mark_by s f spare h u = false

-- m with the mark b
unfoldable pub inked : ℕ → ℕ → ℕ
inked b m = cond (has b m) m (m + b)

-- b is a mark
pub record Stamp (b : ℕ) : Type 0 where
  pub mark : Mark
  pub is : bit mark ≡ b

-- hexes are marked where t says so, and no other mark changes
pub record Adds (w tall : ℕ) (at : Region) (t : Mark → ℕ → Bool) (l m : List ℕ) : Type 0 where
  pub long : length m ≡ length l
  pub each : (k : Mark) (h : ℕ) → Inside w tall at h → has (bit k) (byte m (place_of w at h)) ≡ (t k h || has (bit k) (byte l (place_of w at h)))

-- where t says so: mark b on hex n;
unfoldable pub only : ℕ → ℕ → Mark → ℕ → Bool
only b n k h = eqb (bit k) b && eqb n h

-- a zone that reaches from hex n over direction d, and over those before it;
unfoldable pub cast_to : Map → ℕ → ℕ → Mark → ℕ → Bool
cast_to m n d k h = eqb (bit k) zone_mark && covers m n h d

unfoldable pub reaches : Map → ℕ → ℕ → Mark → ℕ → Bool
reaches m n d k h = eqb (bit k) zone_mark && any (covers m n h) d

-- what unit u says by the mark j, by all but its zone, and by all; what the units before it say
unfoldable pub part : Scene → ℕ → Mark → ℕ → Mark → ℕ → Bool
part s f j u k h = eqb (bit k) (bit j) && mark_by s f j h u

unfoldable pub stands : Scene → ℕ → ℕ → Mark → ℕ → Bool
stands s f u k h = not (eqb (bit k) zone_mark) && mark_by s f k h u

unfoldable pub says : Scene → ℕ → ℕ → Mark → ℕ → Bool
says s f u k h = mark_by s f k h u

unfoldable pub says_below : Scene → ℕ → ℕ → Mark → ℕ → Bool
says_below s f u k h = any (mark_by s f k h) u
