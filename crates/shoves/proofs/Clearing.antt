-- Laws of how a hex is cleared: no push is left or it is vacant, and nothing is done; or the first push is carried out after the others. So
-- a chain is carried out from its last push to its first.
-- Assumes nothing.
use Prim.Native.Nat.{ℕ, ◌+◌, ◌-◌, ◌≤◌, ◌<◌}
use mathlib.Core.Path.{◌≡◌, refl, sym, ap, ap₂, subst, ◌∙◌}
use mathlib.Core.Bool.{true, false}
use mathlib.Core.List.{List, [], ◌∷◌, ◌++◌}
use native.Mathlib.Decide.{dec_lt}
use native.Mathlib.Numerals.{add-one}
use native.Mathlib.Omega.{arith}
use borrow.Author.Tests.{le-leb, lt-leb}
use lib.ListN.{length, get_or, drop, drop_of_length-le}
use lib.Seq.{drop-cons}
use Rattle.std.specs.Prelude.{Option, None, Some}
use Rattle.std.specs.Option.{MatchOption, unwrap_or}
use Rattle.position.specs.Board.{Board, board}
use Rattle.position.specs.Change.{makes}
use Rattle.position.specs.Effect.{changes}
use Rattle.position.specs.Laid.{Laid}
use Rattle.position.specs.Shape.{Shaped}
use Rattle.position.specs.declared.View.{View}
use Rattle.position.proofs.Changes.{board_makes, laid_makes, makes_then}
use Rattle.field.specs.Scene.{scene}
use Rattle.field.specs.Zone.{vacant}
use Rattle.shoves.specs.Shoves.{ChainEnds, Cleared, clears, out_of, stack_to}

-- the numbers from k on, of which there is one
pub drop_next : (xs : List ℕ) (k : ℕ) → k < length xs → drop k xs ≡ get_or xs k 0 ∷ drop (k + 1) xs
drop_next xs k l = rw (add-one k) (drop-cons xs k 0 l)

-- hex h of position p is cleared by the pushes from number k on: those from number r on are left over, and the position is q then
abbrev pub Clear : List ℕ → ℕ → List ℕ → ℕ → ℕ → List ℕ → Type 0
Clear p h pushes k r q =
    (r ≤ length pushes)
    × (drop r pushes ≡ (clears (board p) h (drop k pushes)).left)
    × (q ≡ makes p (clears (board p) h (drop k pushes)).done)

-- nothing is done, and no push is taken
abbrev still : List ℕ → Cleared
still ps = record { done = []; left = ps }

-- the first push is z: that hex is cleared by the others, and then the stack goes there
abbrev pushed : Board → ℕ → ℕ → List ℕ → Cleared
pushed b h z ps =
    record {
      done = (clears b z ps).done ++ stack_to (changes b (clears b z ps).done) h z;
      left = (clears b z ps).left;
    }

module _ (b : Board) (h : ℕ) where
  clears_vacant : (ps : List ℕ) → vacant (scene b) h ≡ true → clears b h ps ≡ still ps
  unfolding clears
  clears_vacant [] e = refl
  clears_vacant (z ∷ ps) e = simp e

  clears_held : (z : ℕ) (ps : List ℕ) → vacant (scene b) h ≡ false → clears b h (z ∷ ps) ≡ pushed b h z ps
  unfolding clears
  clears_held z ps e = simp e

module _ (p : List ℕ) (h : ℕ) (pushes : List ℕ) (k : ℕ) where
  done_still : k ≤ length pushes → clears (board p) h (drop k pushes) ≡ still (drop k pushes) → Clear p h pushes k k p
  unfolding makes
  done_still l e = (l, sym (ap (λ (c : Cleared). c.left) e), sym (ap (λ (c : Cleared). makes p c.done) e))

  -- no push is left
  pub clear_none : k ≤ length pushes → length pushes ≤ k → Clear p h pushes k k p
  unfolding clears
  clear_none l m =
      let e : drop k pushes ≡ [] = drop_of_length-le pushes {i = k} m in
      done_still l (ap (clears (board p) h) e ∙ ap still (sym e))

  -- nobody stands there
  pub clear_vacant : k ≤ length pushes → vacant (scene (board p)) h ≡ true → Clear p h pushes k k p
  clear_vacant l e = done_still l (clears_vacant (board p) h (drop k pushes) e)

  -- a push is left, and somebody stands there
  pub clear_held :
      Shaped p → k < length pushes → vacant (scene (board p)) h ≡ false → {r : ℕ} {q m : List ℕ}
      → Clear p (get_or pushes k 0) pushes (k + 1) r q → m ≡ makes q (stack_to (board q) h (get_or pushes k 0)) → Clear p h pushes k r m
  clear_held s l e {r} {q} c f =
      let b = board p in
      let z = get_or pushes k 0 in
      let xs = (clears b z (drop (k + 1) pushes)).done in
      let y : clears b h (drop k pushes) ≡ pushed b h z (drop (k + 1) pushes) =
      ap (clears b h) (drop_next pushes k l) ∙ clears_held b h z (drop (k + 1) pushes) e
      in
      let a : board q ≡ changes b xs = ap board c.2 ∙ board_makes s xs in (
        c.0,
        c.1 ∙ sym (ap (λ (x : Cleared). x.left) y),
        f
            ∙ ap₂ (λ (l : List ℕ) (d : Board). makes l (stack_to d h z)) c.2 a
            ∙ sym (makes_then xs (stack_to (changes b xs) h z) p)
            ∙ ap (λ (x : Cleared). makes p x.done) (sym y),
      )

module _ (h : ℕ) (ps : List ℕ) (k : ℕ) where
  -- the first push takes the stack of the hex that is cleared
  pub out_first : (j : ℕ) → j ≤ k → out_of h ps k j ≡ h
  unfolding out_of
  out_first j l = simp (le-leb j k l)

  -- each other takes that of the hex before it
  pub out_later : (j : ℕ) → k < j → out_of h ps k j ≡ get_or ps (j - 1) 0
  unfolding out_of
  out_later j l = simp (lt-leb j k l)

module _ {b : Board} {h : ℕ} {ps : List ℕ} {k : ℕ} where
  -- the chain ends before the first push whose hex is vacant, behind all if there is none
  pub chain_first :
      (r : Option ℕ) → k ≤ length ps
      → MatchOption r ((j : ℕ) → k ≤ j → j < length ps → vacant (scene b) (out_of h ps k j) ≡ false)
      (λ e. (k ≤ e) × (e < length ps) × (vacant (scene b) (out_of h ps k e) ≡ true) × ((j : ℕ) → k ≤ j → j < e → vacant (scene b) (out_of h ps k j) ≡ false))
      → ChainEnds b h ps k (unwrap_or r (length ps))
  chain_first None l f = record { chained = record { first = l; few = omega arith; held = f }; ends = λ m. absurd (omega (arith, m)) }
  chain_first (Some e) l f =
      record { chained = record { first = f.0; few = omega (arith, f.1); held = f.3 }; ends = λ m. f.2 }

-- the pushes of the chain from number j on are carried out; number e is the first behind it
pub record DoneFrom (p₀ : List ℕ) (v : View) (h : ℕ) (ps : List ℕ) (k e : ℕ) (p : List ℕ) (j : ℕ) : Type 0 where
  pub first : k ≤ j
  pub most : j ≤ e
  pub laid : Laid p v
  pub cleared : Clear p₀ (out_of h ps k j) ps j e p

module _ {p₀ : List ℕ} {v : View} {h : ℕ} {ps : List ℕ} {k e : ℕ} where
  pub done_none : Laid p₀ v → ChainEnds (board p₀) h ps k e → DoneFrom p₀ v h ps k e p₀ e
  done_none l c = record { first = c.chained.first; most = omega arith; laid = l; cleared = still_at (dec_lt e (length ps)) }
    where
      still_at : Dec (e < length ps) → Clear p₀ (out_of h ps k e) ps e e p₀
      still_at (yes x) = clear_vacant p₀ (out_of h ps k e) ps e c.chained.few (c.ends x)
      still_at (no x) = clear_none p₀ (out_of h ps k e) ps e c.chained.few (omega (arith, x))

  pub done_more :
      {p q : List ℕ} {j : ℕ} → Laid p₀ v → ChainEnds (board p₀) h ps k e → DoneFrom p₀ v h ps k e p j → k < j
      → q ≡ makes p (stack_to (board p) (out_of h ps k (j - 1)) (get_or ps (j - 1) 0)) → DoneFrom p₀ v h ps k e q (j - 1)
  done_more {p} {q} {j} l c u i f =
      let x : j ≡ j - 1 + 1 = omega arith in
      record {
        first = omega arith;
        most = omega (arith, u.most);
        laid = laid_makes _ u.laid f;
        cleared =
            clear_held p₀ (out_of h ps k (j - 1)) ps (j - 1) l.shaped (omega (arith, u.most, c.chained.few))
            (c.chained.held (j - 1) (omega arith) (omega (arith, u.most)))
            (subst (λ (m : ℕ). Clear p₀ (get_or ps (j - 1) 0) ps m e p) x (subst (λ (m : ℕ). Clear p₀ m ps j e p) (out_later h ps k j i) u.cleared))
            f;
      }

  pub done_all : {p : List ℕ} {j : ℕ} → DoneFrom p₀ v h ps k e p j → j ≤ k → Clear p₀ h ps k e p
  done_all {p} {j} u l =
      subst (λ (m : ℕ). Clear p₀ m ps k e p) (out_first h ps k k (omega arith))
      (subst (λ (m : ℕ). Clear p₀ (out_of h ps k m) ps m e p) (omega (arith, u.first)) u.cleared)
