-- The search finds a series of pushes exactly if there is one, and the series found is at hand.
-- Assumes nothing.
use Rattle.std.specs.Prelude.{Some}
use Prim.Native.Nat.{ℕ, zero, suc, ◌<◌}
use mathlib.Core.Path.{◌≡◌, refl, ap, subst}
use mathlib.Core.Bool.{Bool, true, false, cond, ◌&&◌}
use mathlib.Core.List.{List, [], ◌∷◌, ◌++◌}
use lib.Dec.{eqb}
use lib.ListN.{length}
use borrow.Author.Tests.{eqb-true, eq-eqb}
use Rattle.position.specs.Tally.{any}
use Rattle.position.specs.Board.{Board}
use Rattle.position.proofs.Tallies.{not_both, both_yes, any_some, any_true}
use Rattle.position.proofs.Sides.{next_on}
use Rattle.chains.specs.declared.Stand.{Stand}
use Rattle.chains.specs.declared.Stand.TheVariants.{Shut, Free, Loose}
use Rattle.chains.specs.Stand.{stand}
use Rattle.chains.specs.Chain.{Ways, Stands, rests, yields, leads_to, leads, has_rest, Chain, rest, push, most, after}
use Rattle.chains.specs.Series.{Land, land_of, Onto, Series, stay, walk, shove, SeriesFrom, Bounded}
use Rattle.chains.specs.Follows.{by_stand}
use Rattle.chains.specs.Serves.{ends_in, on_with, on_over, serves, pushes_serve, SearchRight, ServesRight}
use Rattle.chains.proofs.Chains.{leads_steps, steps_leads, some_reaches, reaches_some, has_rest_lem}

-- a chain from the stack in hex h on that ends in hex y
pub record ChainTo (next : Ways) (s : Stands) (used : List ℕ) (left h y : ℕ) : Type 0 where
  pub taken : List ℕ
  pub chain : Chain next s used left h taken y

module _ (next : Ways) (s : Stands) where
  module _ (used : List ℕ) (left h y : ℕ) where
    -- the next stack of the chain, by whether this one has a vacant hex
    one : ((z : ℕ) → ends_in next s (h ∷ used) left z y ≡ true → ChainTo next s (h ∷ used) left z y) → (n : Bool)
        → has_rest next s (h ∷ used) h ≡ n
        → cond n (leads next h y && rests s (h ∷ used) y)
        (any (λ d. leads_to (λ z. yields s (h ∷ used) z && ends_in next s (h ∷ used) left z y) (next h d)) 6)
        ≡ true
        → ChainTo next s used (suc left) h y
    one more true n e =
        let b = both_yes (leads next h y) (rests s (h ∷ used) y) e in
        let k = leads_steps next h y b.0 in
        record { taken = y ∷ []; chain = rest k.dir k.low k.way b.1 }
    one more false n e =
        let r = some_reaches (λ z. yields s (h ∷ used) z && ends_in next s (h ∷ used) left z y) next h e in
        let b = both_yes (yields s (h ∷ used) r.hex) (ends_in next s (h ∷ used) left r.hex y) r.passes in
        let c = more r.hex b.1 in
        record { taken = r.hex ∷ c.taken; chain = push r.step.dir r.step.low r.step.way n b.0 c.chain }

  pub ends_chain : (used : List ℕ) (left h y : ℕ) → ends_in next s used left h y ≡ true → ChainTo next s used left h y
  unfolding ends_in
  ends_chain used zero h y e = not_both false e refl
  ends_chain used (suc left) h y e =
      one used left h y (λ z. ends_chain (h ∷ used) left z y) (has_rest next s (h ∷ used) h) refl e

  pub chain_ends : {used zs : List ℕ} {left h y : ℕ} → Chain next s used left h zs y → ends_in next s used left h y ≡ true
  unfolding ends_in
  chain_ends (rest {used} {left} {h} {z} d l e r) =
      simp (has_rest_lem next s (h ∷ used) h z d l e r, steps_leads next h z d l e, r)
  chain_ends (push {used} {left} {h} {z} {last} d l e n i c) =
      simp n
      (reaches_some (λ x. yields s (h ∷ used) x && ends_in next s (h ∷ used) left x last) next h d l e (simp i (chain_ends c)))

  -- the last hex of a chain is one that a step leads to
  pub chain_last : (P : ℕ → Type 0) → ((h d z : ℕ) → next h d ≡ Some z → P z) → {used zs : List ℕ} {left h y : ℕ}
      → Chain next s used left h zs y → P y
  chain_last P f (rest {h = h} {z} d l e r) = f h d z e
  chain_last P f (push d l e n i c) = chain_last P f c

module _ (g : Land) where
  module _ (s : Stands) (k i a x d : ℕ) (o : Onto g (suc i) a d x)
      (on : (t : Stands) → serves g t k (suc i) x ≡ true → SeriesFrom g t k (suc i) x) where
    -- the first step, by what the hex entered is
    entered : (w : Stand) → s x ≡ w
        → by_stand (serves g s k (suc i) x) (any (on_with g (λ t z. serves g t k (suc i) z) s a x) g.hexes) w ≡ true
        → SeriesFrom g s (suc k) i a
    unfolding on_with
    entered Shut q e = not_both false e refl
    entered Free q e =
        let r = on s e in
        record { route = x ∷ r.route; pushes = r.pushes; long = ap suc r.long; series = walk d o q r.series }
    entered Loose q e =
        let y = any_some (on_with g (λ t z. serves g t k (suc i) z) s a x) g.hexes e in
        let b = both_yes (ends_in g.next s (a ∷ []) most x y.at) _ y.passes in
        let c = ends_chain g.next s (a ∷ []) most x y.at b.0 in
        let r = on (after s x y.at) b.1 in
        record {
          route = x ∷ r.route;
          pushes = c.taken ++ r.pushes;
          long = ap suc r.long;
          series = shove d o q c.chain r.series;
        }

  -- the series that the search finds
  pub serves_series : (s : Stands) (k i a : ℕ) → serves g s k i a ≡ true → SeriesFrom g s k i a
  unfolding serves on_over
  serves_series s zero i a e = record { route = []; pushes = []; long = refl; series = stay }
  serves_series s (suc k) i a e =
      let r = some_reaches (on_over g (λ t x. serves g t k (suc i) x) s i a) g.next a e in
      let x = r.hex in
      let b = both_yes (eqb (g.far x) (suc i)) _ r.passes in
      entered s k i a x r.step.dir
      (record { dir = r.step.low; leads = r.step.way; away = eqb-true (g.far x) (suc i) b.0 })
      (λ t. serves_series t k (suc i) x) (s x) refl b.1

  -- and it finds any
  pub series_serves : Bounded g → {s : Stands} {i a : ℕ} {route ps : List ℕ} → Series g s i a route ps
      → serves g s (length route) i a ≡ true
  unfolding serves on_over on_with
  series_serves u stay = refl
  series_serves u (walk {s} {i} {a} {x} {route} d o f k) =
      reaches_some (on_over g (λ t z. serves g t (length route) (suc i) z) s i a) g.next a d o.dir o.leads
      (simp (eq-eqb (g.far x) (suc i) o.away, f) (series_serves u k))
  series_serves u (shove {s} {i} {a} {x} {y} {route} d o f c k) =
      reaches_some (on_over g (λ t z. serves g t (length route) (suc i) z) s i a) g.next a d o.dir o.leads
      (simp (eq-eqb (g.far x) (suc i) o.away, f)
      (any_true (on_with g (λ t z. serves g t (length route) (suc i) z) s a x) g.hexes y
      (chain_last g.next s (λ z. z < g.hexes) u.below c)
      (simp (chain_ends g.next s c) (series_serves u k))))

pub search_right : SearchRight
search_right g u s k i a = (
  serves_series g s k i a,
  λ r. subst (λ (n : ℕ). serves g s n i a ≡ true) r.long (series_serves g u r.series),
)

-- a board is bounded land
pub board_bounded : (b : Board) (start : ℕ) → Bounded (land_of b start)
unfolding land_of
board_bounded b start = record { below = λ h d z e. (next_on b.map h d z e).below }

pub serves_right : ServesRight
unfolding pushes_serve
serves_right b f start n =
    let r = search_right (land_of b start) (board_bounded b start) (stand b f start) n 0 start in (
      λ e. let k = r.0 e in record { route = k.route; pushes = k.pushes; legal = record { long = k.long; series = k.series } },
      λ k. r.1 (record { route = k.route; pushes = k.pushes; long = k.legal.long; series = k.legal.series }),
    )
