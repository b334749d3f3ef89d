-- `chart_ok::columns_ok` meets its contract: what the library's `all` says over the columns.
-- Assumes nothing.
use mathlib.Core.Path.{refl}
use borrow.Author.Tests.{tests}
use Rattle.std.proofs.Common.{rules}
use Rattle.position.specs.Board.{results}
use Rattle.position.proofs.Ranges.{all_named}
use Rattle.setting.specs.Setting.{ColumnOk}
use Rattle.setting.proofs.chart_ok.columns_ok.Goals as goal

pub returns : goal.returns
returns c = all_named (ColumnOk (results c.args.p.now)) c.requires.view.columns refl c.all.ensures.ran (λ x b q k. search (rules, tests))
