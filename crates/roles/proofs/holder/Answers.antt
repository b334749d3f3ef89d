-- `roles::holder` meets its contract: what the library's `find` says over the units.
-- Assumes nothing.
use borrow.Author.Tests.{tests}
use Prim.Native.Nat.{ℕ}
use native.Mathlib.Omega.{arith}
use Rattle.std.proofs.Common.{rules, ◌≡◌, ◌<◌, ◌≤◌, Option, None, Some}
use Rattle.std.specs.Option.{MatchOption}
use Rattle.std.proofs.lemmas.Iterator.{first_from_Range}
use Rattle.position.specs.Board.{Board, board}
use Rattle.position.specs.Layout.{role}
use Rattle.acceptance.specs.Holder.{HolderOf}
use Rattle.roles.proofs.holder.Goals as goal

first_of : (b : Board) (r n : ℕ) → n ≡ b.units.count → (o : Option ℕ) → MatchOption o ((k : ℕ) → 0 ≤ k → k < n → b.units.state.role k ≡ r → ⊥) (λ i. (0 ≤ i) × (i < n) × (b.units.state.role i ≡ r) × ((k : ℕ) → 0 ≤ k → k < i → b.units.state.role k ≡ r → ⊥)) → HolderOf b r o
first_of b r n e None h = λ k l. h k (omega arith) (omega arith)
first_of b r n e (Some i) h = record { below = omega (arith, h.1); holds = h.2; none = λ k l. h.3 k (omega arith) l }

pub returns : goal.returns
returns c =
    let r = c.args.r in
    first_of (board c.args.p.now) r c.args.v.count c.requires.view.count c.find.result
    (first_from_Range _ _ _ c.find.result (λ u. role c.args.p.now u ≡ r) (λ u. role c.args.p.now u ≡ r → ⊥) c.find.ensures.ran (λ x q k. search (rules, tests)) (λ x q k. search (rules, tests)))
