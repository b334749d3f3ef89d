-- Supply: the chain to a source, as a statement and as a test; and the ruling of the supply call.
-- Assumes nothing.
use Rattle.std.specs.Prelude.{ℕ, Bool, not, cond, List, [], ltb, eqb}
use Rattle.position.specs.Board.{Board}
use Rattle.position.specs.Ground.{next}
use Rattle.position.specs.Kind.{canada}
use Rattle.ruling.specs.Values.{accepting}
use Rattle.ruling.specs.Verdict.{Verdict}
use Rattle.ruling.specs.Verdict.Judge.{rule}
use Rattle.ruling.specs.Verdict.Verdict.{refuse_if, judge}
use Rattle.walk.specs.Chain.{Chain}
use Rattle.walk.specs.Sweep.{chained, tab}
use Rattle.field.specs.Scene.{Scene, scene}
use Rattle.supply.specs.Open.{grade}

-- "It is supplied if a chain of open hexes over unblocked sides, both ends included, leads from it to a source; a chain of one hex counts."
abbrev pub Supplied : Scene → ℕ → ℕ → Type 0
Supplied s n h = Chain (next s.map) (grade s n) h

-- the grade of each hex of the map
unfoldable pub grades : Scene → ℕ → List ℕ
grades s n = tab s.map.hexes (grade s n)

-- the same as a test, which computes by sweeps over the map: true exactly if the chain exists (`supplied_right`)
unfoldable pub supplied : Scene → ℕ → ℕ → Bool
supplied s n h = chained (next s.map) (grades s n) h

-- "writes 1 or 0 per hex"
unfoldable pub supply_map : Scene → ℕ → List ℕ
supply_map s n = tab s.map.hexes (λ h. cond (supplied s n h) 1 0)

-- "The supply call, allowed in any phase and stage, takes a nationality and writes 1 or 0 per hex into a buffer of exactly
-- width x height bytes." Refusal 3 looks at the length first, then at the nationality.
unfoldable pub supply_rule : Board → ℕ → ℕ → Verdict
supply_rule b n long =
    refuse_if (not (eqb long b.map.hexes)) 3 0
    (refuse_if (ltb canada n) 3 0
    (judge (rule accepting [] (supply_map (scene b) n))))
