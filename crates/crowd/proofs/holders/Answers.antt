-- `crowd::holders` meets its contract: what the library's `count` says over the units.
-- Assumes nothing.
use borrow.Author.Tests.{tests}
use native.Mathlib.Omega.{arith}
use Rattle.std.specs.Prelude.{eqb}
use Rattle.std.proofs.Common.{rules}
use Rattle.crowd.proofs.Counting.{counted}
use Rattle.position.specs.Crowd.{holders}
use Rattle.position.specs.Layout.{role}
use Rattle.crowd.proofs.holders.Goals as goal

pub returns : goal.returns
unfolding holders
returns c = counted (λ u. eqb (role c.args.p.now u) c.args.r) c.requires.view.count (omega arith) c.filter.ensures.source c.filter.ensures.closure c.count.ensures.ran (λ x b q k. search (rules, tests))
