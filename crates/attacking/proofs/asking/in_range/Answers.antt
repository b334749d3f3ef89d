-- `asking::in_range` meets its contract: each test of a length or a number, and then the tests along the list.
-- Assumes nothing.
use mathlib.Core.Bool.{not}
use mathlib.Core.Path.{◌∙◌, ap, sym}
use native.Mathlib.Omega.{arith}
use borrow.Author.Tests.{le-leb, lt-leb}
use Rattle.position.specs.Board.{board}
use Rattle.ruling.proofs.Going.{tested_through}
use Rattle.ruling.proofs.Meets.{pass, stop}
use Rattle.supply.proofs.Supplies.{other_length, own_length}
use Rattle.field.proofs.Lists.{list_fits, list_long, list_short}
use Rattle.battle.proofs.Asks.{die_fits_lem, die_high, die_low}
use Rattle.battle.specs.Attack.{in_range}
use Rattle.attacking.proofs.asking.in_range.Goals as goal

pub returns-then-units-lt1 : goal.returns-then-units-lt1
unfolding in_range
returns-then-units-lt1 c = λ l v. stop (ap not (list_short _ c.if-units-lt1.true))

pub returns-then-units-gt18 : goal.returns-then-units-gt18
unfolding in_range
returns-then-units-gt18 c = λ l v. stop (ap not (list_long _ c.if-units-gt18.true))

pub returns-then-long-hexes : goal.returns-then-long-hexes
unfolding in_range
returns-then-long-hexes c = λ l v. pass (ap not (list_fits _ (omega arith) (omega arith))) (stop (other_length (λ e. c.if-long-hexes.true (e ∙ sym c.requires.view.hexes))))

pub returns-then-hexes-target : goal.returns-then-hexes-target
unfolding in_range
returns-then-hexes-target c =
    let a = c.args in
    λ l v. pass (ap not (list_fits _ (omega arith) (omega arith))) (pass (own_length (c.if-long-hexes.false ∙ c.requires.view.hexes)) (stop (le-leb (board a.p.now).map.hexes a.target (omega arith))))

pub returns-then-die-lt1 : goal.returns-then-die-lt1
unfolding in_range
returns-then-die-lt1 c = λ l v. pass (ap not (list_fits _ (omega arith) (omega arith))) (pass (own_length (c.if-long-hexes.false ∙ c.requires.view.hexes)) (pass (lt-leb (board c.args.p.now).map.hexes c.args.target (omega arith)) (stop (ap not (die_low _ c.if-die-lt1.true)))))

pub returns-then-die-gt-DIE_FACES : goal.returns-then-die-gt-DIE_FACES
unfolding in_range
returns-then-die-gt-DIE_FACES c =
    λ l v. pass (ap not (list_fits _ (omega arith) (omega arith))) (pass (own_length (c.if-long-hexes.false ∙ c.requires.view.hexes)) (pass (lt-leb (board c.args.p.now).map.hexes c.args.target (omega arith)) (stop (ap not (die_high _ c.if-die-gt-DIE_FACES.true)))))

pub all_there-requires : goal.all_there-requires
all_there-requires c = (c.requires, omega arith)

pub returns : goal.returns
unfolding in_range
returns c =
    let e = c.requires.view.hexes in
    tested_through
    (λ l v a q m w. pass (ap not (list_fits _ (omega arith) (omega arith))) (pass (own_length (c.if-long-hexes.false ∙ c.requires.view.hexes)) (pass (lt-leb (board c.args.p.now).map.hexes c.args.target (omega arith)) (pass (ap not (die_fits_lem _ (omega arith) (omega arith))) w))))
    (λ n. record { some = omega arith; most = omega arith; scratch = omega arith; aimed = omega arith; counted = n })
    c.all_there.result
    c.all_there.ensures
