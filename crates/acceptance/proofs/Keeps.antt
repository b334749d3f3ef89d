-- An accepted position stays accepted where the board afterwards is lawful: layout and strengths stay by themselves.
-- Assumes nothing.
use Prim.Native.Nat.{ℕ}
use mathlib.Core.Path.{◌≡◌}
use mathlib.Core.List.{List, [], ◌∷◌}
use native.Mathlib.Omega.{arith}
use Rattle.position.specs.Layout.{strength}
use Rattle.position.specs.Board.{board}
use Rattle.position.specs.Shape.{Shaped}
use Rattle.acceptance.specs.Accepted.{Lawful, StrengthsOk, Accepted}
use Rattle.position.specs.Change.{Change, make, makes, turned}
use Rattle.position.specs.Effect.{changes, turned_up}
use Rattle.position.proofs.Front.{Front, shaped_kept, count_kept}
use Rattle.position.proofs.Changes.{made, turned_made, front_makes, board_makes}

-- strengths in range stay so
strengths_kept : {p q : List ℕ} → Front p q → ((w : ℕ) → strength q w ≡ strength p w) → StrengthsOk p → StrengthsOk q
strengths_kept f e s w l = rw (e w) (s w (omega (arith, count_kept f)))

strengths_makes : {p : List ℕ} → Shaped p → (xs : List Change) → StrengthsOk p → StrengthsOk (makes p xs)
unfolding makes
strengths_makes a [] s = s
strengths_makes {p = p} a (x ∷ xs) s = let m = made a x in strengths_makes {p = make p x} (shaped_kept m.front a) xs (strengths_kept m.front m.strengths s)

pub accepted_makes : {p : List ℕ} → Accepted p → (xs : List Change) → Lawful (changes (board p) xs) → Accepted (makes p xs)
accepted_makes a xs l =
    record {
      shaped = shaped_kept (front_makes a.shaped xs) a.shaped;
      strengths = strengths_makes a.shaped xs a.strengths;
      lawful = rw (board_makes a.shaped xs) l;
    }

pub accepted_turned : {p : List ℕ} → Accepted p → (u : ℕ) → Lawful (turned_up (board p) u (strength p u)) → Accepted (turned p u)
accepted_turned a u l =
    let m = turned_made a.shaped u in
    record {
      shaped = shaped_kept m.front a.shaped;
      strengths = strengths_kept m.front m.strengths a.strengths;
      lawful = rw m.board l;
    }
