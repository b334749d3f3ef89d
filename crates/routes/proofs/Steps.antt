-- Laws of one step of a run: as a fact, as a test, and by its direction.
-- Assumes nothing.
use Rattle.std.specs.Prelude.{Option, Some, None}
use Prim.Native.Nat.{ℕ, ◌+◌, ◌<◌}
use mathlib.Core.Path.{◌≡◌, refl, sym, ap, ◌∙◌}
use mathlib.Core.List.{List}
use mathlib.Core.Bool.{Bool, true, false, cond}
use lib.Dec.{eqb}
use borrow.Author.Tests.{eqb-true, eq-eqb}
use Rattle.grid.specs.Walk.{distance_of}
use Rattle.position.specs.declared.View.{View}
use Rattle.position.specs.Layout.{width}
use Rattle.position.specs.Laid.{Laid}
use Rattle.position.specs.Board.{Board, Map, ground}
use Rattle.position.specs.Ground.{joined, next}
use Rattle.position.proofs.Tallies.{any_some, any_true, both_yes}
use Rattle.position.proofs.Sides.{joined_is, next_dir, next_in_lem, off_at, reaches, is-at, at_is}
use Rattle.routes.specs.Bears.{refuge}
use Rattle.routes.specs.Run.{Step}
use Rattle.routes.specs.Legal.{enters, steps_to}
use Rattle.routes.specs.Search.{entered, step_of}

-- the distance by the view's width
pub far_view : {p : List ℕ} {v : View} → Laid p v → (start x : ℕ) → distance_of v.width start x ≡ distance_of (width p) start x
far_view l start x = ap (λ (w : ℕ). distance_of w start x) l.view.width

-- hexes are joined exactly if some step leads from one to the other
module _ (m : Map) (a x : ℕ) where
  pub joined_next : joined m a x ≡ true → (d : ℕ) × (next m a d ≡ Some x)
  unfolding reaches
  joined_next e =
      let s = any_some (reaches m a x) 6 (sym (joined_is m a x) ∙ e) in
      (s.at, is-at (next m a s.at) x s.passes)

  pub next_joined : (d : ℕ) → next m a d ≡ Some x → joined m a x ≡ true
  unfolding reaches
  next_joined d e = joined_is m a x ∙ any_true (reaches m a x) 6 d (next_dir m a d x e) (at_is e)

pub joined_in : {p : List ℕ} {v : View} → Laid p v → (a x : ℕ) → joined (ground p) a x ≡ true → x < v.hexes
joined_in {p} l a x e = let s = joined_next (ground p) a x e in next_in_lem l.view a s.0 x s.1

-- the test of the hex entered
module _ (b : Board) (f start i x : ℕ) where
  enters_away : distance_of b.map.width start x ≡ i + 1 → enters b f start i x ≡ refuge b f x
  unfolding enters
  enters_away e = simp (eq-eqb (distance_of b.map.width start x) (i + 1) e)

  enters_is : enters b f start i x ≡ true → (distance_of b.map.width start x ≡ i + 1) × (refuge b f x ≡ true)
  unfolding enters
  enters_is e =
      let s = both_yes (eqb (distance_of b.map.width start x) (i + 1)) (refuge b f x) e in
      (eqb-true (distance_of b.map.width start x) (i + 1) s.0, s.1)

module _ (b : Board) (f start i a : ℕ) where
  -- a step by its test
  pub steps_step : (x : ℕ) → steps_to b f start i a x ≡ true → (d : ℕ) × Step b f start i a d x
  unfolding steps_to
  steps_step x e =
      let s = both_yes (joined b.map a x) (enters b f start i x) e in
      let j = joined_next b.map a x s.0 in
      let k = enters_is b f start i x s.1 in
      (j.0, record { leads = j.1; into = k.1; away = k.0 })

  pub step_steps : {d x : ℕ} → Step b f start i a d x → steps_to b f start i a x ≡ true
  unfolding steps_to
  step_steps {d} {x} s =
      simp (next_joined b.map a x d s.leads, enters_away b f start i x s.away, s.into)

  -- and by its direction
  module _ (d x : ℕ) where
    lands : (y : ℕ) (t : Bool) → next b.map a d ≡ Some y → enters b f start i y ≡ t → cond t (Some y) None ≡ Some x
        → Step b f start i a d x
    lands y true e g q =
        let yx : y ≡ x = cc in
        let k = enters_is b f start i x (rw yx at g) in
        record { leads = rw yx at e; into = k.1; away = k.0 }
    lands y false e g q = off_at refl q

    leads : (r : Option ℕ) → next b.map a d ≡ r → entered b f start i r ≡ Some x → Step b f start i a d x
    unfolding entered
    leads (Some y) e q = lands y (enters b f start i y) e refl q
    leads None e q = off_at refl q

    pub step_is : step_of b f start i a d ≡ Some x → Step b f start i a d x
    unfolding step_of
    step_is q = leads (next b.map a d) refl q

    pub is_step : Step b f start i a d x → step_of b f start i a d ≡ Some x
    unfolding step_of entered
    is_step s = simp (s.leads, enters_away b f start i x s.away, s.into)
