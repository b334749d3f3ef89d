-- Who stands where, and zones of control.
-- Assumes nothing.
use Rattle.std.specs.Prelude.{ℕ, Bool, false, not, ◌&&◌, ltb, eqb, Option, Some, None}
use Rattle.position.specs.Layout.{forces}
use Rattle.position.specs.Tally.{any}
use Rattle.position.specs.Kind.{casts_zone, supply_kind}
use Rattle.position.specs.Ground.{beside, side}
use Rattle.position.specs.declared.Relation.{Relation}
use Rattle.position.specs.declared.Relation.TheVariants.{Enemy, Neutral}
use Rattle.field.specs.Scene.{Scene, force_in}

-- unit u stands on hex h
unfoldable pub stands_on : Scene → ℕ → ℕ → Bool
stands_on s h u = eqb (s.hex u) h

-- no unit at all stands on hex h
unfoldable pub vacant : Scene → ℕ → Bool
vacant s h = not (any (stands_on s h) s.count)

-- unit u is of force f, and stands on hex h
unfoldable pub own_on : Scene → ℕ → ℕ → ℕ → Bool
own_on s f h u = stands_on s h u && eqb (force_in s u) f

-- hex h holds a unit of force f, of any type
unfoldable pub holds : Scene → ℕ → ℕ → Bool
holds s f h = any (own_on s f h) s.count

-- unit u is a supply unit of force f, and stands on hex h
unfoldable pub supply_unit_on : Scene → ℕ → ℕ → ℕ → Bool
supply_unit_on s f h u = own_on s f h u && eqb (s.kind u) supply_kind

-- unit u is Enemy to force f, and stands on hex h
unfoldable pub enemy_on : Scene → ℕ → ℕ → ℕ → Bool
enemy_on s f h u = stands_on s h u && s.enemy f (force_in s u)

-- hex h holds an Enemy of force f
unfoldable pub holds_enemy : Scene → ℕ → ℕ → Bool
holds_enemy s f h = any (enemy_on s f h) s.count

-- the same for a neutral force
unfoldable pub neutral_on : Scene → ℕ → ℕ → ℕ → Bool
neutral_on s f h u = stands_on s h u && s.neutral f (force_in s u)

unfoldable pub holds_neutral : Scene → ℕ → ℕ → Bool
holds_neutral s f h = any (neutral_on s f h) s.count

-- and for either of the two
abbrev pub related_on : Scene → Relation → ℕ → ℕ → ℕ → Bool
related_on s Enemy = enemy_on s
related_on s Neutral = neutral_on s

abbrev pub holds_related : Scene → Relation → ℕ → ℕ → Bool
holds_related s Enemy = holds_enemy s
holds_related s Neutral = holds_neutral s

-- unit u is of force f, casts a zone, and stands on hex h
unfoldable pub caster_on : Scene → ℕ → ℕ → ℕ → Bool
caster_on s f h u = own_on s f h u && casts_zone (s.kind u)

unfoldable pub holds_caster : Scene → ℕ → ℕ → Bool
holds_caster s f h = any (caster_on s f h) s.count

unfoldable pub caster_at : Scene → ℕ → Option ℕ → Bool
caster_at s f (Some n) = holds_caster s f n
caster_at s f None = false

-- "but not across blocked or major river sides": a plain side or a river lets a zone through
unfoldable pub casts_over : Scene → ℕ → ℕ → ℕ → Bool
casts_over s f h d = ltb (side s.map h d) 2 && caster_at s f (beside s.map h d)

-- "A zone covers the adjacent hexes, but not .. nor into all-sea (11.16)": force f casts a zone over hex h
unfoldable pub casts : Scene → ℕ → ℕ → Bool
casts s f h = not (eqb (s.map.surface h) 2) && any (casts_over s f h) 6

-- force g is Enemy to force f, and casts a zone over hex h
unfoldable pub enemy_casts : Scene → ℕ → ℕ → ℕ → Bool
enemy_casts s f h g = s.enemy f g && casts s g h

-- hex h lies in an Enemy zone of force f
unfoldable pub enemy_zone : Scene → ℕ → ℕ → Bool
enemy_zone s f h = any (enemy_casts s f h) forces
