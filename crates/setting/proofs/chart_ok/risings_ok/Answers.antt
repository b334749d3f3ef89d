-- `chart_ok::risings_ok` meets its contract: what the library's `all` says over the columns before the last.
-- Assumes nothing.
use mathlib.Core.Path.{refl}
use native.Mathlib.Omega.{arith}
use borrow.Author.Tests.{tests}
use Rattle.std.proofs.Common.{rules}
use Rattle.position.specs.Board.{results}
use Rattle.position.proofs.Answers.{told}
use Rattle.position.proofs.Ranges.{all_over}
use Rattle.setting.specs.Setting.{RisingOk}
use Rattle.setting.proofs.chart_ok.risings_ok.Goals as goal

pub returns : goal.returns
returns c =
    told c.all.result (λ f k l. f k (omega (arith, c.saturating_sub.ensures, c.requires.view.columns))) (λ f k l. f k (omega (arith, c.saturating_sub.ensures, c.requires.view.columns)))
    (all_over (RisingOk (results c.args.p.now)) c.saturating_sub.result refl c.all.ensures.ran (λ x b q k. search (rules, tests)))
