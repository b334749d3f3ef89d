-- `stands::any_bars` meets its contract: what the library's `any` says over the units.
-- Assumes nothing.
use mathlib.Core.Path.{refl, ap, ◌∙◌}
use borrow.Author.Tests.{tests}
use Rattle.std.proofs.Common.{rules}
use Rattle.position.specs.Board.{board}
use Rattle.position.specs.Tally.{any}
use Rattle.position.proofs.Ranges.{any_over}
use Rattle.chains.specs.Stand.{bars}
use Rattle.pushes.proofs.stands.any_bars.Goals as goal

pub returns : goal.returns
returns c =
    let t = bars (board c.args.p.now) c.args.f c.args.a c.args.h in
    any_over t c.args.v.count refl c.any.ensures.ran (λ x b q k. search (rules, tests)) ∙ ap (any t) c.requires.view.count
