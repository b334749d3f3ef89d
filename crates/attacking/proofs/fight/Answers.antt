-- `attacking::fight` meets its contract: the line is drawn up, the odds are found in the table, and the result is carried out.
-- Assumes nothing.
use Prim.Native.Nat.{ℕ}
use mathlib.Core.List.{List, map}
use mathlib.Core.Path.{◌∙◌, ap, ap₂, sym}
use native.Mathlib.Omega.{arith}
use Rattle.position.proofs.Shapes.{hexes_most}
use Rattle.position.specs.Board.{board}
use Rattle.position.specs.Change.{makes}
use Rattle.position.specs.Layout.{strength}
use Rattle.position.proofs.Cells.{all_clear}
use Rattle.ruling.specs.Verdict.{turned_all}
use Rattle.line.specs.Line.{fighting_total, printed_total}
use Rattle.battle.proofs.Asks.{all_adjacent}
use Rattle.battle.proofs.Fights.{all_standing, battled, decides, few_defend, lent_all, need_fits, ranked, sides}
use Rattle.results.proofs.Upshots.{upshot_fits}
use Rattle.results.specs.Participants.{participants}
use Rattle.results.specs.Results.{battle_changes, need_of}
use Rattle.results.specs.declared.Upshot.{Upshot}
use Rattle.attacking.proofs.fight.Goals as goal

pub muster-n-requires : goal.muster-n-requires
muster-n-requires c = (c.requires.0, c.requires.2.range.most, few_defend c.requires.1.lawful (hexes_most c.requires.0.shaped) c.args.target c.requires.2.range.aimed)

pub arm_all-requires : goal.arm_all-requires
arm_all-requires c = (c.requires.0, all_standing c.requires.1.lawful (hexes_most c.requires.0.shaped) c.requires.2 c.muster-n.ensures, c.requires.2.range.scratch ∙ sym c.requires.0.view.hexes)

pub multiple_at-requires : goal.multiple_at-requires
multiple_at-requires c = (c.requires.0, c.requires.2.range.some, all_adjacent c.requires.2)

pub settle-requires : goal.settle-requires
settle-requires c =
    let w = ranked c.muster-n.ensures c.muster-n.array_long c.arm_all.ensures in
    let a = c.sum_up-attackers.ensures in
    let d = c.sum_up-defenders.ensures in (
      c.requires.0,
      c.requires.2.range.most,
      omega (arith, (hexes_most c.requires.0.shaped), c.requires.2.range.aimed),
      lent_all c.units_of.new.who w c.units_of.ensures,
      rw c.upshot-o.ensures (upshot_fits c.code-code.result c.code-code.ensures.small),
      rw c.need_of-need.ensures (need_fits c.upshot-o.result _ _ (omega (arith, a.printed.small, a.fighting.small)) (omega (arith, d.printed.small, d.fighting.small))),
    )

pub returns : goal.returns
returns c =
    let a = c.args in
    let p = a.p.now in
    let b = board p in
    let w = ranked c.muster-n.ensures c.muster-n.array_long c.arm_all.ensures in
    let s = sides w in
    let f = c.sum_up-attackers.ensures in
    let g = c.sum_up-defenders.ensures in
    battled c.requires.0.shaped
    (decides b a.target a.units.now a.die (map (strength p) (participants b a.target a.units.now))
    (f.fighting.is ∙ ap fighting_total s.attackers) (g.fighting.is ∙ ap fighting_total s.defenders) c.multiple_at.ensures.is c.column-column.ensures.is c.code-code.ensures.is
    (f.printed.is ∙ ap printed_total s.attackers) (g.printed.is ∙ ap printed_total s.defenders)
    (c.need_of-need.ensures ∙ ap (λ (o : Upshot). need_of o c.sum_up-attackers.result.printed c.sum_up-defenders.result.printed) c.upshot-o.ensures))
    (c.settle.ensures
    ∙ ap₂ (λ (x : List ℕ) (o : Upshot). makes (turned_all p x) (battle_changes b a.target a.units.now o c.need_of-need.result))
    (lent_all c.units_of.new.who w c.units_of.ensures) c.upshot-o.ensures)
    (all_clear c.arm_all.new.scratch b.map.hexes c.clear.ensures (omega (arith, c.requires.2.range.scratch, c.arm_all.auto.scratch)))
