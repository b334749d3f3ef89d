-- `clear::chain_end` meets its contract: what the library's `find` says of the pushes.
-- Assumes nothing.
use mathlib.Core.Path.{sym, subst}
use borrow.Author.Tests.{tests}
use Rattle.std.specs.Prelude.{◌≡◌, true, false}
use Rattle.std.proofs.Common.{rules}
use Rattle.std.proofs.lemmas.Iterator.{first_from_Range}
use Rattle.position.specs.Board.{board}
use Rattle.field.specs.Scene.{scene}
use Rattle.field.specs.Zone.{vacant}
use Rattle.shoves.specs.Shoves.{ChainEnds, out_of}
use Rattle.shoves.proofs.Clearing.{chain_first}
use Rattle.shoves.proofs.clear.chain_end.Goals as goal

pub returns : goal.returns
returns c =
    let a = c.args in
    let ps = a.pushes.now in
    let s = scene (board a.p.now) in
    subst (ChainEnds (board a.p.now) a.h ps a.k) (sym c.unwrap_or.ensures)
    (chain_first c.find.result c.requires.1 (first_from_Range _ _ _ _ (λ j. vacant s (out_of a.h ps a.k j) ≡ true) (λ j. vacant s (out_of a.h ps a.k j) ≡ false) c.find.ensures.ran (λ x q k. search (rules, tests)) (λ x q k. search (rules, tests))))
