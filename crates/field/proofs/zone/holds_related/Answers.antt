-- `zone::holds_related` meets its contract: what the library's `any` says over the units.
-- Assumes nothing.
use mathlib.Core.Path.{refl, sym, ap, ◌∙◌}
use borrow.Author.Tests.{tests}
use Rattle.std.proofs.Common.{rules}
use Rattle.position.specs.Board.{board}
use Rattle.position.specs.Tally.{any}
use Rattle.position.proofs.Ranges.{any_over}
use Rattle.field.specs.Scene.{scene}
use Rattle.field.specs.Zone.{related_on}
use Rattle.field.proofs.Zones.{holds_any}
use Rattle.field.proofs.zone.holds_related.Goals as goal

pub returns : goal.returns
returns c =
    let a = c.args in
    let t = related_on (scene (board a.p.now)) a.w a.f a.h in
    any_over t a.v.count refl c.any.ensures.ran (λ x b q k. search (rules, tests)) ∙ ap (any t) c.requires.view.count ∙ sym (holds_any _ a.w _ _)
