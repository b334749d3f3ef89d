-- `supply::grades` meets its contract: what is painted is graded.
-- Assumes nothing.
use native.Mathlib.Omega.{arith}
use Rattle.position.proofs.Sides.{area_view, on_view}
use Rattle.supply.proofs.Grading.{map_shows}
use Rattle.supply.proofs.grades.Goals as goal

pub paint-requires : goal.paint-requires
paint-requires c =
    let k = c.whole-at.ensures in
    (c.requires.0, record { region = k.ok; long = omega (arith, k.size, area_view c.requires.0.view, c.requires.1) })

pub grade-requires : goal.grade-requires
grade-requires c =
    let l = c.requires.0 in
    let view = l.view in
    let k = rw (view.width, view.height) at c.whole-at.ensures in (
      l,
      map_shows k (λ h e. rw (view.width, view.height) at (on_view l h (omega (arith, e, view.hexes))))
          (omega (arith, c.requires.1, view.hexes)) (rw c.force.ensures at c.paint.ensures),
    )
