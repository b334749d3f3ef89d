-- `stacks::stacks_ok` meets its contract: what the library's `all` says over the blocks.
-- Assumes nothing.
use Prim.Native.Nat.{ℕ, ◌+◌, ◌*◌, ◌/◌, ◌<◌, ◌^◌}
use mathlib.Core.Path.{refl}
use native.Mathlib.Omega.{arith}
use borrow.Author.Tests.{tests}
use Rattle.std.proofs.Common.{rules}
use Rattle.std.proofs.lemmas.Iterator.{serves_from_Range}
use Rattle.position.specs.Board.{board, force_of}
use Rattle.position.specs.Layout.{count, forces, hex}
use Rattle.position.proofs.Answers.{told}
use Rattle.position.proofs.Ranges.{all_over}
use Rattle.acceptance.specs.Asked.{StacksIn}
use Rattle.acceptance.specs.Seats.{block}
use Rattle.acceptance.proofs.Seating.{block_of}
use Rattle.acceptance.proofs.Asking.{alone_force, alone_hex}
use Rattle.stacks.proofs.stacks_ok.Goals as goal

pub all-requires-clause-callable : goal.all-requires-clause-callable
all-requires-clause-callable c =
    serves_from_Range (λ x q k. search rules)
    (λ x l h.
    let few : (u : ℕ) → u < count c.args.p.now → force_of (board c.args.p.now) u < forces = λ u m. alone_force (c.requires.1 u m) in
    let room : block * x < 2 ^ 64 = omega (arith, c.div_ceil.ensures, c.requires.0.fits.hexes) in
    search rules)

pub returns : goal.returns
returns c =
    let p = c.args.p.now in
    told c.all.result
    (λ f u l low high. f (hex p u / block) (omega (arith, c.div_ceil.ensures, c.requires.0.view.hexes)) u l (omega arith) (omega arith))
    (λ o k h. block_of _ _ (λ u l m. alone_hex (c.requires.1 u l) (λ e. absurd (omega (arith, c.requires.0.view.hexes, c.requires.0.fits.hexes)))) o)
    (all_over (λ k. StacksIn (board p) (block * k) (block * k + block)) c.div_ceil.result refl c.all.ensures.ran (λ x b q k. search (rules, tests)))
