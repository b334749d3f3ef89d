-- `advance::no_route` meets its contract: what the library's `any` says over the routes.
-- Assumes nothing.
use mathlib.Core.Bool.{not}
use mathlib.Core.Path.{refl, ap}
use borrow.Author.Tests.{tests}
use Rattle.std.proofs.Common.{rules}
use Rattle.position.specs.Board.{board}
use Rattle.position.specs.Layout.{route_count}
use Rattle.position.proofs.Ranges.{any_over}
use Rattle.aftermath.specs.Advance.{can_follow, no_route}
use Rattle.advance.proofs.no_route.Goals as goal

pub returns : goal.returns
unfolding no_route
returns c =
    ap not (any_over (can_follow (board c.args.p.now) c.args.u c.args.hex) route_count refl c.any.ensures.ran (λ x b q k. search (rules, tests)))
