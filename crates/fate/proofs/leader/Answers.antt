-- `fate::leader` meets its contract: the first that `find` finds is the first of the group, and where it finds none the group is empty.
-- Assumes nothing.
use Rattle.std.specs.Prelude.{ℕ, ◌<◌, ◌≤◌, ◌≡◌, true, false, Option, None, Some, get_or}
use Rattle.std.specs.Option.{MatchOption, unwrap_or}
use mathlib.Core.Path.{◌∙◌}
use native.Mathlib.Omega.{arith}
use borrow.Author.Tests.{tests}
use Rattle.std.proofs.Common.{rules}
use Rattle.std.proofs.lemmas.Iterator.{first_from_Range}
use Rattle.position.specs.Board.{Board, board}
use Rattle.position.specs.Crowd.{owes_at}
use Rattle.position.proofs.Tallies.{any_never}
use Rattle.shoves.specs.Group.{group}
use Rattle.retreat.proofs.Groups.{first_owing_lem, none_owing}
use Rattle.fate.proofs.leader.Goals as goal

first : (b : Board) (h n : ℕ) (r : Option ℕ) → n ≡ b.units.count → MatchOption r ((k : ℕ) → 0 ≤ k → k < n → owes_at b h k ≡ false) (λ i. (0 ≤ i) × (i < n) × (owes_at b h i ≡ true) × ((k : ℕ) → 0 ≤ k → k < i → owes_at b h k ≡ false)) → unwrap_or r 0 ≡ get_or (group b h) 0 0
first b h n None e f = none_owing b h (any_never (owes_at b h) b.units.count (λ k l. f k (omega arith) (omega (arith, e, l))))
first b h n (Some i) e f = first_owing_lem b h i (any_never (owes_at b h) i (λ k l. f.3 k (omega arith) l)) (omega (arith, e, f.1)) f.2

pub returns : goal.returns
returns c =
    let b = board c.args.p.now in
    let h = c.args.h in
    c.unwrap_or.ensures ∙ first b h c.args.v.count c.find.result c.requires.view.count (first_from_Range _ _ _ _ (λ k. owes_at b h k ≡ true) (λ k. owes_at b h k ≡ false) c.find.ensures.ran (λ x q k. search (rules, tests)) (λ x q k. search (rules, tests)))
