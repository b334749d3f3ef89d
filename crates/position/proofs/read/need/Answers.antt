-- `read::need` meets its contract: two bytes of the desk.
-- Assumes nothing.
use borrow.Author.Rules.{rules}
use Rattle.position.specs.Layout.{need}
use Rattle.position.proofs.read.need.Goals as goal

pub returns : goal.returns
unfolding need
returns c = search rules
