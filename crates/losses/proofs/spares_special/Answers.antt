-- `losses::spares_special` meets its contract: what the library's `any` says over the units.
-- Assumes nothing.
use mathlib.Core.Path.{refl, ap, ◌∙◌}
use borrow.Author.Tests.{tests}
use Rattle.std.proofs.Common.{rules}
use Rattle.position.specs.Board.{board}
use Rattle.position.specs.Tally.{any}
use Rattle.position.proofs.Ranges.{any_over}
use Rattle.aftermath.specs.Losses.{spared_special}
use Rattle.losses.proofs.spares_special.Goals as goal

pub returns : goal.returns
returns c =
    let t = spared_special (board c.args.p.now) c.args.units.now in
    any_over t c.args.v.count refl c.any.ensures.ran (λ x b q k. search (rules, tests)) ∙ ap (any t) c.requires.view.count
