-- `counters::strengths_ok` meets its contract: what the library's `all` says over the units.
-- Assumes nothing.
use mathlib.Core.Path.{refl}
use borrow.Author.Tests.{tests}
use Rattle.std.proofs.Common.{rules}
use Rattle.position.specs.Layout.{strength}
use Rattle.position.specs.Shape.{In}
use Rattle.position.proofs.Ranges.{all_named}
use Rattle.counters.proofs.strengths_ok.Goals as goal

pub returns : goal.returns
returns c = all_named (λ u. In 1 (strength c.args.p.now u) 60) c.requires.view.count refl c.all.ensures.ran (λ x b q k. search (rules, tests))
