-- `cast::over` meets its contract: the zone covers the neighbour, or nothing.
-- Assumes nothing.
use mathlib.Core.Path.{sym, ◌∙◌}
use native.Mathlib.Omega.{arith}
use Rattle.position.specs.Board.{ground}
use Rattle.position.proofs.Sides.{beside_view}
use Rattle.paint.proofs.Adding.{adds_none, adds_as}
use Rattle.paint.proofs.Units.{zone_stamp}
use Rattle.paint.proofs.Casting.{near_off, near_at, covers_edge, covers_stopped, covers_sea, covers_land, cast_none, cast_only}
use Rattle.paint.proofs.cast.over.Goals as goal

pub returns-in_default : goal.returns-in_default
returns-in_default c =
    let a = c.args in
    let m = ground a.p.now in
    let n = a.s.hex in
    let e = sym (beside_view c.requires.0.view n a.d) ∙ near_off a.v.width a.v.height n a.d c.near.result c.near.ensures c.in_default.is in
    adds_none (λ k h i. cast_none m n a.d k h (covers_edge m n a.d h e))

pub between-requires : goal.between-requires
between-requires c =
    let a = c.args in
    let m = ground a.p.now in
    let n = a.s.hex in
    let t = near_at c.args.v.width c.args.v.height c.args.s.hex c.args.d c.near.result c.near.ensures c.in-Some.is in
    let e = sym (beside_view c.requires.0.view n a.d) ∙ t.0 in
    (c.requires.0, c.requires.3, e)

pub returns-then-between-ge-MAJOR_RIVER : goal.returns-then-between-ge-MAJOR_RIVER
returns-then-between-ge-MAJOR_RIVER c =
    let a = c.args in
    let m = ground a.p.now in
    let n = a.s.hex in
    adds_none (λ k h i. cast_none m n a.d k h (covers_stopped m n a.d h (omega (arith, c.between.ensures.is))))

pub returns-then-surface-eq-ALL_SEA : goal.returns-then-surface-eq-ALL_SEA
returns-then-surface-eq-ALL_SEA c =
    let a = c.args in
    let m = ground a.p.now in
    let n = a.s.hex in
    let t = near_at c.args.v.width c.args.v.height c.args.s.hex c.args.d c.near.result c.near.ensures c.in-Some.is in
    let e = sym (beside_view c.requires.0.view n a.d) ∙ t.0 in
    adds_none (λ k h i. cast_none m n a.d k h (covers_sea m n a.d _ e h (omega (arith, c.surface.ensures.is))))

pub stamp-requires : goal.stamp-requires
stamp-requires c =
    ((near_at c.args.v.width c.args.v.height c.args.s.hex c.args.d c.near.result c.near.ensures c.in-Some.is).1, c.requires.1, zone_stamp)

pub returns : goal.returns
returns c =
    let a = c.args in
    let m = ground a.p.now in
    let n = a.s.hex in
    let t = near_at c.args.v.width c.args.v.height c.args.s.hex c.args.d c.near.result c.near.ensures c.in-Some.is in
    let e = sym (beside_view c.requires.0.view n a.d) ∙ t.0 in
    adds_as c.stamp.ensures
    (λ k h i. cast_only m n a.d k h _ (covers_land m n a.d _ e h (omega (arith, c.between.ensures.is)) (λ z. omega (arith, c.surface.ensures.is, z))))
