-- The test of a route with its pushes is true exactly of the legal ones.
-- Assumes nothing.
use Prim.Native.Nat.{ℕ, suc}
use mathlib.Core.Path.{◌≡◌, refl, sym, subst}
use mathlib.Core.Bool.{true, false}
use mathlib.Core.List.{List, [], ◌∷◌}
use lib.Dec.{eqb}
use lib.ListN.{length}
use borrow.Author.Tests.{eqb-true, eq-eqb}
use Rattle.position.proofs.Tallies.{not_both, both_yes}
use Rattle.chains.specs.declared.Stand.{Stand}
use Rattle.chains.specs.declared.Stand.TheVariants.{Shut, Free, Loose}
use Rattle.chains.specs.Stand.{stand}
use Rattle.chains.specs.Chain.{Stands, leads, most, after}
use Rattle.chains.specs.Series.{Land, land_of, Onto, Series, stay, walk, shove}
use Rattle.chains.specs.Follows.{Taken, up_to, wrong, takes, by_stand, by_taken, follows, legal_pushes, LegalPushesRight}
use Rattle.chains.proofs.Chains.{leads_steps, steps_leads, takes_chain, chain_takes}

module _ (g : Land) where
  -- the first step, by what the hex entered is and by what its chain takes
  module _ (s : Stands) (i a x : ℕ) (route ps : List ℕ) (d : ℕ) (o : Onto g (suc i) a d x)
      (on : (t : Stands) (qs : List ℕ) → follows g t (suc i) x route qs ≡ true → Series g t (suc i) x route qs) where
    chained : s x ≡ Loose → (t : Taken) → takes g.next s (a ∷ []) most x ps ≡ t
        → by_taken (λ y qs. follows g (after s x y) (suc i) x route qs) t ≡ true → Series g s i a (x ∷ route) ps
    chained w wrong q e = not_both false e refl
    chained w (up_to y qs) q e =
        let k = takes_chain g.next s (a ∷ []) most x ps q in
        subst (λ (l : List ℕ). Series g s i a (x ∷ route) l) (sym k.parts) (shove d o w k.chain (on (after s x y) qs e))

    entered : (w : Stand) → s x ≡ w
        → by_stand (follows g s (suc i) x route ps)
        (by_taken (λ y qs. follows g (after s x y) (suc i) x route qs) (takes g.next s (a ∷ []) most x ps))
        w
        ≡ true
        → Series g s i a (x ∷ route) ps
    entered Shut q e = not_both false e refl
    entered Free q e = walk d o q (on s ps e)
    entered Loose q e = chained q (takes g.next s (a ∷ []) most x ps) refl e

  pub follows_series : (s : Stands) (i a : ℕ) (route ps : List ℕ) → follows g s i a route ps ≡ true → Series g s i a route ps
  unfolding follows
  follows_series s i a [] [] e = stay
  follows_series s i a [] (p ∷ ps) e = not_both false e refl
  follows_series s i a (x ∷ route) ps e =
      let h = both_yes (leads g.next a x) _ e in
      let k = both_yes (eqb (g.far x) (suc i)) _ h.1 in
      let w = leads_steps g.next a x h.0 in
      entered s i a x route ps w.dir (record { dir = w.low; leads = w.way; away = eqb-true (g.far x) (suc i) k.0 })
      (λ t qs. follows_series t (suc i) x route qs) (s x) refl k.1

  pub series_follows : {s : Stands} {i a : ℕ} {route ps : List ℕ} → Series g s i a route ps → follows g s i a route ps ≡ true
  unfolding follows
  series_follows stay = refl
  series_follows (walk {s} {i} {a} {x} d o f k) =
      simp (steps_leads g.next a x d o.dir o.leads, eq-eqb (g.far x) (suc i) o.away, f) (series_follows k)
  series_follows (shove {s} {i} {a} {x} {y} {route} {chain} {pushes} d o f c k) =
      simp (steps_leads g.next a x d o.dir o.leads, eq-eqb (g.far x) (suc i) o.away, f, chain_takes g.next s c pushes)
      (series_follows k)

pub legal_pushes_right : LegalPushesRight
unfolding legal_pushes
legal_pushes_right b f start n route pushes = (
  λ e.
      let s = both_yes (eqb (length route) n) _ e in
      record {
        long = eqb-true (length route) n s.0;
        series = follows_series (land_of b start) (stand b f start) 0 start route pushes s.1;
      },
  λ l. simp (eq-eqb (length route) n l.long) (series_follows (land_of b start) l.series),
)
