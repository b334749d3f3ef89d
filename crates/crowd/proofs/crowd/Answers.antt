-- `crowd::crowd` meets its contract: what the library's `count` says over the units.
-- Assumes nothing.
use borrow.Author.Tests.{tests}
use native.Mathlib.Omega.{arith}
use Rattle.std.specs.Prelude.{eqb}
use Rattle.std.proofs.Common.{rules}
use Rattle.crowd.proofs.Counting.{counted}
use Rattle.position.specs.Crowd.{crowd}
use Rattle.position.specs.Layout.{hex}
use Rattle.crowd.proofs.crowd.Goals as goal

pub returns : goal.returns
unfolding crowd
returns c = counted (λ u. eqb (hex c.args.p.now u) c.args.h) c.requires.view.count (omega arith) c.filter.ensures.source c.filter.ensures.closure c.count.ensures.ran (λ x b q k. search (rules, tests))
