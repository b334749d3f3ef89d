-- `line::fighting_total` meets its contract: what the library's `sum` says over the fighters.
-- Assumes nothing.
use borrow.Author.Tests.{tests}
use Rattle.std.proofs.Common.{rules}
use Rattle.line.specs.Line.{fighting_of}
use Rattle.line.proofs.Sums.{comes}
use Rattle.line.proofs.fighting_total.Goals as goal

pub returns : goal.returns
returns c = comes fighting_of c.args.line.now c.requires (cc) c.map.ensures.closure (λ x r q k. search (rules, tests)) c.sum.ensures.ran (c.sum.ensures.runs tt)
