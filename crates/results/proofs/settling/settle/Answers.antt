-- `settling::settle` meets its contract: all that is written, one after the other.
-- Assumes nothing.
use Prim.Native.Nat.{ℕ}
use mathlib.Core.List.{List, map}
use mathlib.Core.Path.{◌∙◌, ap}
use native.Mathlib.Omega.{arith}
use Rattle.position.specs.Change.{makes}
use Rattle.position.specs.Laid.{Laid}
use Rattle.position.proofs.Changes.{laid_makes}
use Rattle.results.proofs.Settles.{all_behind, all_long, all_settled, likened_refl, turned_over}
use Rattle.results.specs.Results.{suffers}
use Rattle.results.proofs.settling.settle.Goals as goal

-- the layout stays, from one part to the next

pub mark_all-requires : goal.mark_all-requires
mark_all-requires c = rw c.turn_all.ensures (turned_over c.requires.0 c.args.all.now).laid

pub write_routes-requires : goal.write_routes-requires
write_routes-requires c =
    let turned : Laid c.turn_all.new.p c.args.v = rw c.turn_all.ensures (turned_over c.requires.0 c.args.all.now).laid in
    (laid_makes _ turned (c.mark_all.ensures.made _ (likened_refl _)), c.requires.1, c.requires.2)

pub suffer-requires : goal.suffer-requires
suffer-requires c =
    let turned : Laid c.turn_all.new.p c.args.v = rw c.turn_all.ensures (turned_over c.requires.0 c.args.all.now).laid in
    let marked = laid_makes _ turned (c.mark_all.ensures.made _ (likened_refl _)) in
    (laid_makes _ marked c.write_routes.ensures, c.requires.4.attackers)

pub slice_bounds-suffer-count : goal.slice_bounds-suffer-count
slice_bounds-suffer-count c = omega (arith, all_long _ _ _ _ c.requires.3)

pub suffer-requires-2 : goal.suffer-requires-2
suffer-requires-2 c =
    let turned : Laid c.turn_all.new.p c.args.v = rw c.turn_all.ensures (turned_over c.requires.0 c.args.all.now).laid in
    let marked = laid_makes _ turned (c.mark_all.ensures.made _ (likened_refl _)) in
    let routed = laid_makes _ marked c.write_routes.ensures in
    (laid_makes _ routed c.suffer.ensures, c.requires.4.defenders)

pub set_stage-requires : goal.set_stage-requires
set_stage-requires c =
    let turned : Laid c.turn_all.new.p c.args.v = rw c.turn_all.ensures (turned_over c.requires.0 c.args.all.now).laid in
    let marked = laid_makes _ turned (c.mark_all.ensures.made _ (likened_refl _)) in
    let routed = laid_makes _ marked c.write_routes.ensures in
    let struck = laid_makes _ routed c.suffer.ensures in
    (laid_makes _ struck c.suffer-2.ensures, c.requires.4.stage, c.requires.4.owed, c.requires.5)

pub returns : goal.returns
returns c =
    let a = c.args in
    all_settled c.requires.0 a.target a.units.now a.all.now a.o a.need c.requires.3
    (record {
      turning = c.turn_all.ensures;
      marking = c.mark_all.ensures;
      routing = c.write_routes.ensures;
      striking = c.suffer.ensures;
      standing = c.suffer-2.ensures ∙ ap (λ (x : List ℕ). makes c.suffer.new.p (map (suffers a.o.defenders) x)) (all_behind a.units.now a.all.now);
      staging = c.set_stage.ensures;
    })

pub slice_bounds-suffer-start : goal.slice_bounds-suffer-start
slice_bounds-suffer-start c = omega (arith, all_long _ _ _ _ c.requires.3)
