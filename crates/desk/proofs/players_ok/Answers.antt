-- `desk::players_ok` meets its contract: what the library's `all` says over the forces.
-- Assumes nothing.
use mathlib.Core.Path.{refl}
use borrow.Author.Tests.{tests}
use Rattle.std.proofs.Common.{rules}
use Rattle.acceptance.specs.Accepted.{PlayerOk}
use Rattle.position.specs.Board.{desk}
use Rattle.position.specs.Layout.{forces}
use Rattle.position.proofs.Ranges.{all_over}
use Rattle.desk.proofs.players_ok.Goals as goal

pub returns : goal.returns
returns c = all_over (PlayerOk (desk c.args.p.now)) forces refl c.all.ensures.ran (λ x b q k. search (rules, tests))
