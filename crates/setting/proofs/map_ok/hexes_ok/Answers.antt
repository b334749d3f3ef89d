-- `map_ok::hexes_ok` meets its contract: what the library's `all` says over the blocks of sixteen hexes, and over the rest.
-- Assumes nothing.
use mathlib.Core.Path.{refl}
use native.Mathlib.Omega.{arith}
use borrow.Author.Tests.{tests}
use Rattle.std.proofs.Common.{rules, ℕ, ◌+◌, ◌*◌, ◌<◌, ◌/◌}
use Rattle.position.specs.Board.{ground}
use Rattle.position.proofs.Answers.{said, told}
use Rattle.position.proofs.Ranges.{all_over}
use Rattle.setting.specs.Setting.{HexOk}
use Rattle.setting.proofs.Spans.{all_from, whole}
use Rattle.setting.proofs.map_ok.hexes_ok.Goals as goal

pub returns-then-all : goal.returns-then-all
returns-then-all c =
    let hexes = c.args.v.hexes in
    let Fit = HexOk (ground c.args.p.now) in
    let blocks : (k : ℕ) → k < hexes / 16 → (j : ℕ) → j < 16 → Fit (16 * k + j) = said c.all.result c.if-all.true
    (all_over (λ k. (j : ℕ) → j < 16 → Fit (16 * k + j)) (hexes / 16) refl c.all.ensures.ran (λ x b q k. search (rules, tests))) in
    told c.all-then-all.result (λ rest h l. whole blocks rest h (omega (arith, c.requires.view.hexes))) (λ f h m l. f h (omega (arith, c.requires.view.hexes)))
    (all_from Fit (16 * (hexes / 16)) hexes refl c.all-then-all.ensures.ran (λ x b q k. search (rules, tests)))
