-- `ground::bearing` meets its contract: what the library's `find` says over the six directions.
-- Assumes nothing.
use mathlib.Core.Path.{refl}
use borrow.Author.Tests.{tests}
use Rattle.std.proofs.Common.{rules}
use Rattle.position.specs.Board.{ground}
use Rattle.position.specs.Ground.{bearing, is_at, next}
use Rattle.position.proofs.Ranges.{find_over}
use Rattle.position.proofs.Options.{led}
use Rattle.ground.proofs.bearing.Goals as goal

pub returns : goal.returns
unfolding bearing
returns c = find_over _ (λ d. is_at (next (ground c.args.p.now) c.args.h d) c.args.x) 6 c.find.result refl c.find.ensures.ran (λ x b q k. search (rules, tests, led))
