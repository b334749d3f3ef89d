-- Laws of steps and of chains: a chain by the test of its pushes.
-- Assumes nothing.
use Rattle.std.specs.Prelude.{Option, Some, None}
use Prim.Native.Nat.{ℕ, zero, suc, ◌<◌}
use mathlib.Core.Path.{◌≡◌, refl, ap}
use mathlib.Core.Bool.{Bool, true, false, cond}
use mathlib.Core.List.{List, [], ◌∷◌, ◌++◌}
use native.Mathlib.Omega.{arith}
use Rattle.position.specs.Tally.{any}
use Rattle.position.specs.Ground.{is_at}
use Rattle.position.proofs.Tallies.{not_both, either, any_some, any_true}
use Rattle.position.proofs.Sides.{is-at, at_is}
use Rattle.chains.specs.Chain.{Ways, Stands, rests, yields, leads_to, leads, has_rest, Chain, rest, push}
use Rattle.chains.specs.Follows.{Taken, up_to, wrong, takes}

-- a step leads from hex h to hex z
pub record Steps (next : Ways) (h z : ℕ) : Type 0 where
  pub dir : ℕ
  pub low : dir < 6
  pub way : next h dir ≡ Some z

-- hexes are next to one another exactly if some step leads from one to the other
module _ (next : Ways) (h z : ℕ) where
  pub leads_steps : leads next h z ≡ true → Steps next h z
  unfolding leads
  leads_steps e =
      let s = any_some (λ d. is_at (next h d) z) 6 e in
      record { dir = s.at; low = s.below; way = is-at (next h s.at) z s.passes }

  pub steps_leads : (d : ℕ) → d < 6 → next h d ≡ Some z → leads next h z ≡ true
  unfolding leads
  steps_leads d l e = any_true (λ k. is_at (next h k) z) 6 d l (at_is e)

-- some step from hex h leads to a hex that passes the test
pub record Reaches (next : Ways) (t : ℕ → Bool) (h : ℕ) : Type 0 where
  pub hex : ℕ
  pub step : Steps next h hex
  pub passes : t hex ≡ true

module _ (t : ℕ → Bool) where
  leads_to_lem : (r : Option ℕ) → leads_to t r ≡ true → (z : ℕ) × (r ≡ Some z) × (t z ≡ true)
  unfolding leads_to
  leads_to_lem (Some z) e = (z, refl, e)
  leads_to_lem None e = not_both false e refl

  to_leads : {r : Option ℕ} {z : ℕ} → r ≡ Some z → t z ≡ true → leads_to t r ≡ true
  unfolding leads_to
  to_leads e p = rw e p

  module _ (next : Ways) (h : ℕ) where
    pub some_reaches : any (λ d. leads_to t (next h d)) 6 ≡ true → Reaches next t h
    some_reaches e =
        let s = any_some (λ d. leads_to t (next h d)) 6 e in
        let r = leads_to_lem (next h s.at) s.passes in
        record { hex = r.0; step = record { dir = s.at; low = s.below; way = r.1 }; passes = r.2 }

    pub reaches_some : {z : ℕ} (d : ℕ) → d < 6 → next h d ≡ Some z → t z ≡ true → any (λ k. leads_to t (next h k)) 6 ≡ true
    reaches_some d l e p = any_true (λ k. leads_to t (next h k)) 6 d l (to_leads e p)

-- the pushes that a chain takes, and the rest of them
pub record Split (next : Ways) (s : Stands) (used : List ℕ) (left h : ℕ) (ps : List ℕ) (y : ℕ) (others : List ℕ) : Type 0 where
  pub taken : List ℕ
  pub parts : ps ≡ taken ++ others
  pub chain : Chain next s used left h taken y

no_taken : {A : Type 0} {t : Taken} {y : ℕ} {others : List ℕ} → t ≡ wrong → t ≡ up_to y others → A
no_taken p q = let z : ◌≡◌ {A = ℕ} 0 1 = cc in absurd (omega arith)

module _ (next : Ways) (s : Stands) where
  -- a stack that has a vacant hex beside it has one, and one that has none finds none
  module _ (used : List ℕ) (h z d : ℕ) (l : d < 6) (e : next h d ≡ Some z) where
    pub has_rest_lem : rests s used z ≡ true → has_rest next s used h ≡ true
    unfolding has_rest
    has_rest_lem r = reaches_some (rests s used) next h d l e r

    pub no_rest : has_rest next s used h ≡ false → rests s used z ≡ false
    no_rest n = either (rests s used z) (λ r. not_both (has_rest next s used h) (has_rest_lem r) n) (λ r. r)

  module _ (used : List ℕ) (left h z : ℕ) (zs : List ℕ) (y : ℕ) (others : List ℕ) where
    -- one push, by the answers of its four tests
    one : ((takes next s (h ∷ used) left z zs ≡ up_to y others) → Split next s (h ∷ used) left z zs y others)
        → (l r n i : Bool) → leads next h z ≡ l → rests s (h ∷ used) z ≡ r → has_rest next s (h ∷ used) h ≡ n → yields s (h ∷ used) z ≡ i
        → cond l (cond r (up_to z zs) (cond n wrong (cond i (takes next s (h ∷ used) left z zs) wrong))) wrong ≡ up_to y others
        → Split next s used (suc left) h (z ∷ zs) y others
    one more false r n i el er en ei e = no_taken refl e
    one more true true n i el er en ei e =
        let k = leads_steps next h z el in
        let zy : z ≡ y = cc in
        record {
          taken = z ∷ [];
          parts = ap (λ (l : List ℕ). z ∷ l) (cc);
          chain = rw (← zy) (rest k.dir k.low k.way er);
        }
    one more true false true i el er en ei e = no_taken refl e
    one more true false false false el er en ei e = no_taken refl e
    one more true false false true el er en ei e =
        let k = leads_steps next h z el in
        let m = more e in
        record {
          taken = z ∷ m.taken;
          parts = ap (λ (l : List ℕ). z ∷ l) m.parts;
          chain = push k.dir k.low k.way en ei m.chain;
        }

  -- what the test takes is a chain,
  pub takes_chain : (used : List ℕ) (left h : ℕ) (ps : List ℕ) {y : ℕ} {others : List ℕ}
      → takes next s used left h ps ≡ up_to y others → Split next s used left h ps y others
  unfolding takes
  takes_chain used left h [] e = no_taken refl e
  takes_chain used zero h (z ∷ zs) e = no_taken refl e
  takes_chain used (suc left) h (z ∷ zs) {y} {others} e =
      one used left h z zs y others (takes_chain (h ∷ used) left z zs) (leads next h z) (rests s (h ∷ used) z)
      (has_rest next s (h ∷ used) h)
      (yields s (h ∷ used) z)
      refl
      refl
      refl
      refl
      e

  -- and every chain is taken, whatever follows it
  pub chain_takes : {used : List ℕ} {left h y : ℕ} {zs : List ℕ} → Chain next s used left h zs y → (others : List ℕ)
      → takes next s used left h (zs ++ others) ≡ up_to y others
  unfolding takes
  chain_takes (rest {used} {left} {h} {z} d l e r) others = simp (steps_leads next h z d l e, r)
  chain_takes (push {used} {left} {h} {z} d l e n i c) others =
      simp (steps_leads next h z d l e, no_rest (h ∷ used) h z d l e n, n, i) (chain_takes c others)
