-- `roles::all_of` meets its contract: what the library's `all` says over the units.
-- Assumes nothing.
use mathlib.Core.Path.{◌≡◌, refl}
use borrow.Author.Tests.{tests}
use Rattle.std.proofs.Common.{rules}
use Rattle.position.specs.Board.{board, force_of}
use Rattle.position.specs.Layout.{role}
use Rattle.position.proofs.Ranges.{all_named}
use Rattle.roles.proofs.all_of.Goals as goal

pub returns : goal.returns
returns c =
    let a = c.args in
    all_named (λ u. role a.p.now u ≡ a.r → force_of (board a.p.now) u ≡ a.f) c.requires.view.count refl c.all.ensures.ran (λ x b q k. search (rules, tests))
