-- `counters::each_ok` meets its contract: what the library's `all` says over the units.
-- Assumes nothing.
use mathlib.Core.Path.{refl}
use borrow.Author.Tests.{tests}
use Rattle.std.proofs.Common.{rules}
use Rattle.acceptance.specs.Asked.{AloneOk}
use Rattle.position.specs.Board.{board}
use Rattle.position.proofs.Ranges.{all_named}
use Rattle.counters.proofs.each_ok.Goals as goal

pub returns : goal.returns
returns c = all_named (AloneOk (board c.args.p.now)) c.requires.view.count refl c.all.ensures.ran (λ x b q k. search (rules, tests))
