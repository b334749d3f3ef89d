-- `layout::word` meets its contract.
-- Assumes nothing.
use borrow.Author.Rules.{rules}
use Rattle.position.specs.Layout.{word}
use Rattle.position.proofs.layout.word.Goals as goal

pub returns : goal.returns
unfolding word
returns c = search rules
