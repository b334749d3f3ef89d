-- `flood` meets its contract. The invariant: what steps keep is kept, and a walk is under way at spot `s`. The measure is the work that the
-- marks leave to do.
-- Assumes nothing.
use mathlib.Core.Path.{◌∙◌}
use lib.ListN.{length-set}
use Rattle.grid.specs.Spot.{SpotOf}
use Rattle.position.specs.Board.{ground}
use Rattle.walk.specs.Trail.{Step, Last}
use Rattle.walk.proofs.Steps.{two_way}
use Rattle.walk.proofs.Runs.{kept_refl, kept_trans, step_kept, step_way, step_falls, way_ready, start_in, start_way, flooded}
use Rattle.walking.proofs.flood.Goals as goal

pub bounds-buf-at : goal.bounds-buf-at
bounds-buf-at c =
    let g = two_way (ground c.args.p.now) in
    start_in g c.args.buf.now c.args.start.hex c.requires.hex_value.0

pub loop-t-init : goal.loop-t-init
loop-t-init c =
    let g = two_way (ground c.args.p.now) in (
      kept_refl _,
      start_way g c.args.buf.now c.args.start.hex c.requires.hex_value.0 c.requires.rest,
      c.requires.laid.1,
    )

pub step-requires : goal.step-requires
step-requires c =
    let g = two_way (ground c.args.p.now) in
    let a = c.loop-t in
    let size = a.invariant.0.same ∙ (length-set c.args.buf.now c.args.start.hex 56 ∙ c.requires.buf_len) in
    record { laid = (c.requires.laid.0, a.invariant.2); buf_len = size; ready = way_ready g a.buf a.s.hex a.from a.invariant.1 }

pub returns-in_default : goal.returns-in_default
returns-in_default c =
    let g = two_way (ground c.args.p.now) in
    let a = c.loop-t in
    let t : Last _ _ _ _ _ _ = rw c.in_default.is at c.step.ensures in
    flooded g c.args.buf.now c.args.start.hex c.requires.hex_value.0 c.requires.hex_value.1 a.invariant.0 a.invariant.1 t

pub shape_of-buf-in_default : goal.shape_of-buf-in_default
shape_of-buf-in_default c = (returns-in_default c).kept.same

pub loop-t-smaller : goal.loop-t-smaller
loop-t-smaller c =
    let g = two_way (ground c.args.p.now) in
    let a = c.loop-t in
    let t : Step _ _ _ _ _ _ _ _ × SpotOf _ _ _ = rw c.in-Some.is at c.step.ensures in
    step_falls g a.buf a.s.hex a.from a.invariant.1 t.0

pub loop-t-preserved : goal.loop-t-preserved
loop-t-preserved c =
    let g = two_way (ground c.args.p.now) in
    let a = c.loop-t in
    let t : Step _ _ _ _ _ _ _ _ × SpotOf _ _ _ = rw c.in-Some.is at c.step.ensures in (
      kept_trans a.invariant.0 (step_kept g a.buf a.s.hex a.from a.invariant.1 t.0),
      step_way g a.buf a.s.hex a.from a.invariant.1 t.0,
      t.1,
    )
