-- Laws of a march along a route: what is still to come, done to the position as it is, makes what the whole march makes.
-- Assumes nothing.
use Prim.Native.Nat.{ℕ, ◌+◌, ◌≤◌, ◌<◌}
use mathlib.Core.Path.{◌≡◌, refl, sym, ap, ap₂, ◌∙◌}
use mathlib.Core.List.{List, ◌∷◌, ◌++◌}
use native.Mathlib.Omega.{arith}
use lib.ListN.{length, get_or, drop, drop_of_length-le}
use Rattle.position.specs.Board.{Board, board}
use Rattle.position.specs.Change.{makes}
use Rattle.position.specs.Effect.{changes}
use Rattle.position.specs.Laid.{Laid}
use Rattle.position.specs.Shape.{Shaped}
use Rattle.position.specs.declared.View.{View}
use Rattle.position.proofs.Changes.{board_makes, laid_makes, makes_then}
use Rattle.shoves.specs.Group.{gather, group}
use Rattle.shoves.specs.Shoves.{clears, frees, group_to, marches}
use Rattle.shoves.proofs.Clearing.{Clear, drop_next}

-- a step: hex x is cleared, the group goes there from hex a, and the march goes on from hex x
march_step :
    {p q r : List ℕ} → Shaped p → Shaped q → (a x : ℕ) (route ps : List ℕ) → q ≡ makes p (clears (board p) x ps).done
    → r ≡ makes q (group_to (board q) a x)
    → makes p (marches (board p) a (x ∷ route) ps) ≡ makes r (marches (board r) x route (clears (board p) x ps).left)
unfolding marches
march_step {p} {q} {r} s t a x route ps e f =
    let b = board p in
    let xs = (clears b x ps).done in
    let c = changes b xs in
    let ys = group_to c a x in
    let rest = marches (changes c ys) x route (clears b x ps).left in
    let y : board q ≡ c = ap board e ∙ board_makes s xs in
    let z : board r ≡ changes c ys = ap board f ∙ board_makes t (group_to (board q) a x) ∙ ap (λ (d : Board). changes d (group_to d a x)) y in
    makes_then xs (ys ++ rest) p
    ∙ ap (λ (l : List ℕ). makes l (ys ++ rest)) (sym e)
    ∙ makes_then ys rest q
    ∙ ap (λ (d : Board). makes (makes q (group_to d a x)) rest) (sym y)
    ∙ ap₂ (λ (l : List ℕ) (d : Board). makes l (marches d x route (clears b x ps).left)) (sym f) (sym z)

-- the group stands in hex a of position p, i steps of the march are done and k pushes are used up
pub record March (p₀ : List ℕ) (v : View) (h : ℕ) (route pushes p : List ℕ) (a k i : ℕ) : Type 0 where
  pub most : i ≤ length route
  pub used : k ≤ length pushes
  pub laid : Laid p v
  pub ahead :
      makes p₀ (marches (board p₀) h route pushes) ≡ makes p (marches (board p) a (drop i route) (drop k pushes))

module _ {p₀ : List ℕ} {v : View} {h : ℕ} {route pushes : List ℕ} where
  module _ {p : List ℕ} {a k i : ℕ} (o : March p₀ v h route pushes p a k i) where
    -- one step more
    pub march_more :
        i < length route → {n : ℕ} {q r : List ℕ} → Clear p (get_or route i 0) pushes k n q
        → r ≡ makes q (group_to (board q) a (get_or route i 0)) → March p₀ v h route pushes r (get_or route i 0) n (i + 1)
    march_more l {n} {q} {r} c f =
        let x = get_or route i 0 in
        let y = laid_makes _ o.laid c.2 in
        record {
          most = omega arith;
          used = c.0;
          laid = laid_makes _ y f;
          ahead =
              o.ahead
              ∙ ap (λ (xs : List ℕ). makes p (marches (board p) a xs (drop k pushes))) (drop_next route i l)
              ∙ march_step o.laid.shaped y.shaped a x (drop (i + 1) route) (drop k pushes) c.2 f
              ∙ ap (λ (xs : List ℕ). makes r (marches (board r) x (drop (i + 1) route) xs)) (sym c.1);
        }

    -- no step is left
    pub march_all :
        length route ≤ i → {q : List ℕ} → q ≡ makes p (gather frees (group (board p) a))
        → q ≡ makes p₀ (marches (board p₀) h route pushes)
    unfolding marches
    march_all l f =
        f ∙ sym (o.ahead ∙ ap (λ (xs : List ℕ). makes p (marches (board p) a xs (drop k pushes))) (drop_of_length-le route {i = i} l))
