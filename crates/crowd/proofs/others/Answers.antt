-- `crowd::others` meets its contract: what the library's `count` says over the units.
-- Assumes nothing.
use borrow.Author.Tests.{tests}
use native.Mathlib.Omega.{arith}
use Rattle.std.specs.Prelude.{◌&&◌, not, eqb}
use Rattle.std.proofs.Common.{rules}
use Rattle.crowd.proofs.Counting.{counted}
use Rattle.position.specs.Crowd.{others}
use Rattle.position.specs.Layout.{hex}
use Rattle.crowd.proofs.others.Goals as goal

pub returns : goal.returns
unfolding others
returns c = counted (λ u. eqb (hex c.args.p.now u) c.args.h && not (eqb u c.args.w)) c.requires.view.count (omega arith) c.filter.ensures.source c.filter.ensures.closure c.count.ensures.ran (λ x b q k. search (rules, tests))
