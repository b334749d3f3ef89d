-- `advance::leads_to` meets its contract: what the library's `any` says over the numbers of the route.
-- Assumes nothing.
use mathlib.Core.Path.{refl}
use borrow.Author.Tests.{tests}
use Rattle.std.proofs.Common.{rules}
use Rattle.position.specs.Board.{board}
use Rattle.position.specs.Layout.{route_hexes}
use Rattle.position.proofs.Ranges.{any_over}
use Rattle.aftermath.specs.Advance.{clear_to}
use Rattle.advance.proofs.leads_to.Goals as goal

pub returns : goal.returns
returns c = any_over (clear_to (board c.args.p.now) c.args.u c.args.hex c.args.r) route_hexes refl c.any.ensures.ran (λ x b q k. search (rules, tests))
