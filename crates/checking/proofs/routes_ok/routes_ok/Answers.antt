-- `routes_ok::routes_ok` meets its contract: what the library's `all` says over the numbers.
-- Assumes nothing.
use mathlib.Core.Path.{refl}
use borrow.Author.Tests.{tests}
use Rattle.std.proofs.Common.{rules}
use Rattle.position.specs.Board.{board}
use Rattle.position.specs.Layout.{route_count}
use Rattle.position.proofs.Ranges.{all_over}
use Rattle.acceptance.specs.Accepted.{RouteOk}
use Rattle.checking.proofs.routes_ok.routes_ok.Goals as goal

pub returns : goal.returns
returns c = all_over (RouteOk (board c.args.p.now)) route_count refl c.all.ensures.ran (λ x b q k. search (rules, tests))
