-- `clear::is_vacant` meets its contract: what the library's `any` says over the units.
-- Assumes nothing.
use mathlib.Core.Bool.{not}
use mathlib.Core.Path.{refl, ap, ◌∙◌}
use borrow.Author.Tests.{tests}
use Rattle.std.proofs.Common.{rules}
use Rattle.position.specs.Board.{board}
use Rattle.position.specs.Tally.{any}
use Rattle.position.proofs.Ranges.{any_over}
use Rattle.field.specs.Scene.{scene}
use Rattle.field.specs.Zone.{stands_on, vacant}
use Rattle.shoves.proofs.clear.is_vacant.Goals as goal

pub returns : goal.returns
unfolding vacant stands_on
returns c =
    let t = stands_on (scene (board c.args.p.now)) c.args.h in
    ap not (any_over t c.args.v.count refl c.any.ensures.ran (λ x b q k. search (rules, tests)) ∙ ap (any t) c.requires.view.count)
