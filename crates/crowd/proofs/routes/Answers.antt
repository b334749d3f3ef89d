-- `crowd::routes` meets its contract: what the library's `count` says over the routes.
-- Assumes nothing.
use mathlib.Core.Path.{refl}
use borrow.Author.Tests.{tests}
use native.Mathlib.Omega.{arith}
use Rattle.std.proofs.Common.{rules}
use Rattle.crowd.proofs.Counting.{counted}
use Rattle.position.specs.Board.{board}
use Rattle.position.specs.Crowd.{filled, routes}
use Rattle.crowd.proofs.routes.Goals as goal

pub returns : goal.returns
unfolding routes
returns c = counted (filled (board c.args.p.now)) refl (omega arith) c.filter.ensures.source c.filter.ensures.closure c.count.ensures.ran (λ x b q k. search (rules, tests))
