-- `advance::held_along` meets its contract: what the library's `any` says over the numbers of the route.
-- Assumes nothing.
use mathlib.Core.Path.{refl}
use borrow.Author.Tests.{tests}
use Rattle.std.proofs.Common.{rules}
use Rattle.position.specs.Board.{board}
use Rattle.position.proofs.Ranges.{any_over}
use Rattle.aftermath.specs.Advance.{held_at}
use Rattle.advance.proofs.held_along.Goals as goal

pub returns : goal.returns
returns c = any_over (held_at (board c.args.p.now) c.args.u c.args.r) c.args.n refl c.any.ensures.ran (λ x b q k. search (rules, tests))
