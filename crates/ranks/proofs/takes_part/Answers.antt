-- `ranks::takes_part` meets its contract: what the library's `any` says over the line.
-- Assumes nothing.
use native.Mathlib.Omega.{arith}
use borrow.Author.Tests.{tests}
use lib.Dec.{eqb}
use lib.ListN.{length}
use lib.Seq.{take_all}
use mathlib.Core.Path.{◌∙◌, sym}
use Rattle.std.proofs.Common.{rules}
use Rattle.line.specs.Line.{fighter_of}
use Rattle.position.specs.Board.{board}
use Rattle.position.proofs.Listed.{any_listed}
use Rattle.battle.specs.Mustered.{nation_at, nation_of}
use Rattle.ranks.proofs.takes_part.Goals as goal

pub returns : goal.returns
unfolding nation_at
returns c =
    let a = c.args in
    let l = a.line.now in
    any_listed (λ f. eqb (nation_of (board a.p.now) f) a.nation) l (fighter_of 0 0 0) (omega arith) (c.iter.ensures.rest ∙ sym (take_all (length l) l (omega arith))) c.any.ensures.ran (λ x b q k. search (rules, tests))
