-- Beside what is certain: vocabulary of contracts and proofs.
-- A map that tells which hexes are open besides which are supplied, so that one painting serves both nationalities of a force.
-- Assumes nothing.
use Rattle.std.specs.Prelude.{ℕ, ◌<◌, ◌≡◌, cond, List, leb, ltb, length}
use Rattle.walk.specs.Chain.{mark}
use Rattle.field.specs.Scene.{Scene}
use Rattle.supply.specs.Open.{open_to, home_source}
use Rattle.supply.specs.Supply.{supplied}

-- the buffer l has 0 at each hex that is closed for nationality n, 2 or more at each that is supplied, and 1 at each other
pub record Traced (s : Scene) (n : ℕ) (l : List ℕ) : Type 0 where
  pub long : length l ≡ s.map.hexes
  pub free : (h : ℕ) → h < s.map.hexes → open_to s n h ≡ ltb 0 (mark l h)
  pub tells : (h : ℕ) → h < s.map.hexes → supplied s n h ≡ leb 2 (mark l h)

-- the grade for Canada, 2 by its number as a country, of a hex that is traced m for the US
unfoldable pub regrade_by : Scene → ℕ → ℕ → ℕ
regrade_by s h m = cond (ltb 0 m) (cond (home_source s 2 h) 2 1) 0
