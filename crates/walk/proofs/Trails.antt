-- Laws of a walk under way, over marks as a function of the hex and any rules of steps that go together: what each step makes of the way
-- home, and that at the end every supplied hex was entered.
-- Assumes nothing.
use Rattle.std.specs.Prelude.{Option, Some, None}
use Prim.Native.Nat.{ℕ, ◌+◌, ◌-◌, ◌/◌, ◌%◌, ◌≤◌, ◌<◌}
use mathlib.Core.Path.{◌≡◌, refl, sym, ◌∙◌, ap, subst}
use mathlib.Core.List.{List, [], ◌∷◌}
use native.Mathlib.Omega.{arith}
use Rattle.position.proofs.Tallies.{same_or}
use Rattle.walk.specs.Chain.{Chain}
use Rattle.walk.specs.Chain.Chain.{source, beside}
use Rattle.walk.specs.Trail.{entered_by, after_home, Shut, First, Faith, Looked, Rest, Apart}
use Rattle.walk.proofs.Marks.{le_or, Upd}
use Rattle.position.proofs.Sides.{off_at}
use Rattle.walk.proofs.Steps.{at_at, TwoWay}

-- a hex is one of a list
pub data Mem (a : ℕ) : List ℕ → Type 0 where
  here : {b : ℕ} {s : List ℕ} → a ≡ b → Mem a (b ∷ s)
  there : {b : ℕ} {s : List ℕ} → Mem a s → Mem a (b ∷ s)

none : {A : Type 0} {a : ℕ} → Mem a [] → A
none m = elim m [ ]

-- the walk is done with the directions of hex a that are below c: no step in one of them enters a hex
abbrev pub Below : (ℕ → ℕ → Option ℕ) → (ℕ → ℕ) → ℕ → ℕ → Type 0
Below next f a c = (d : ℕ) → d < c → Shut next f 1 a d

-- with those below c and with those from c on it is done with all of them
pub all_shut :
    {next home : ℕ → ℕ → Option ℕ} {f : ℕ → ℕ} {m a c : ℕ}
    → TwoWay next home
    → ((d : ℕ) → d < c → Shut next f m a d)
    → First next f m a c 0 6
    → (d : ℕ) → Shut next f m a d
all_shut {a = a} {c = c} g y o d =
    le_or (d + 1) c
    (λ p. y d (omega arith))
    (λ p. le_or 6 d (λ q n e. off_at (g.six a d q) e) (λ q. o.past d (omega arith) (omega arith) q))

-- one mark is written, which is then that of an entered hex
module _ (next : ℕ → ℕ → Option ℕ) {f f' : ℕ → ℕ} {i v : ℕ} (u : Upd f i v f') (big : 8 ≤ v) where
  shut_upd : (a d : ℕ) → Shut next f 1 a d → Shut next f' 1 a d
  shut_upd a d s n e p =
      same_or n i
      (λ c. let z = ap f' c ∙ u.at in absurd (omega arith))
      (λ c. s n e (sym (u.off n c) ∙ p))

  pub faith_upd : {f₀ : ℕ → ℕ} → Faith next f₀ f → Chain next f₀ i → Faith next f₀ f'
  faith_upd {f₀} t s =
      record {
        kept = λ k q. same_or k i
            (λ e. let z = ap f' e ∙ u.at in absurd (omega arith))
            (λ n. let z = u.off k n in z ∙ t.kept k (omega arith));
        sound = λ k q. same_or k i
            (λ e. subst (Chain next f₀) (sym e) s)
            (λ n. let z = u.off k n in t.sound k (omega arith));
      }

  looked_upd : Looked next f → (v % 8 ≡ 7 → (d : ℕ) → Shut next f 1 i d) → Looked next f'
  looked_upd l new k d q r =
      shut_upd k d
      (same_or k i
      (λ c. let z = ap f' c ∙ u.at in subst (λ (n : ℕ). Shut next f 1 n d) (sym c) (new (omega arith) d))
      (λ n. let z = u.off k n in l k d (omega arith) (omega arith)))

module _ (next home : ℕ → ℕ → Option ℕ) where
  -- s is the way home from hex a, from hex to hex: no hex is on it twice, and each is one that the walk will come back to, done with the
  -- directions up to the one in which it went on
  pub data Trail (f : ℕ → ℕ) : ℕ → List ℕ → Type 0 where
    first : {a : ℕ} → home a (f a / 8 - 1) ≡ None → Trail f a []
    from :
        {a b : ℕ} {s : List ℕ}
        → home a (f a / 8 - 1) ≡ Some b
        → (Mem a (b ∷ s) → ⊥)
        → 8 ≤ f b
        → f b % 8 ≡ 0
        → Below next f b (after_home (f a / 8 - 1))
        → Trail f b s
        → Trail f a (b ∷ s)

  -- a walk is under way, and stands at hex a, where it is done with the directions below c: the hexes that it has entered and not left are
  -- a and those on the way home from a
  pub record Way (f : ℕ → ℕ) (a c : ℕ) : Type 0 where
    pub looked : Looked next f
    pub entered : 8 ≤ f a
    pub still : f a % 8 ≡ 0
    pub below : Below next f a c
    pub homeward : List ℕ
    pub trail : Trail f a homeward
    pub under : (k : ℕ) → 8 ≤ f k → f k % 8 < 7 → Mem k (a ∷ homeward)

  trail_kept :
      {f f' : ℕ → ℕ} {a : ℕ} {s : List ℕ}
      → Trail f a s
      → f' a / 8 ≡ f a / 8
      → ((k : ℕ) → Mem k s → f' k ≡ f k)
      → ((k d : ℕ) → Shut next f 1 k d → Shut next f' 1 k d)
      → Trail f' a s
  trail_kept (first {a = a} e) q m t = first (ap (λ (n : ℕ). home a (n - 1)) q ∙ e)
  trail_kept {f' = f'} (from {a = a} {b = b} e n p o w r) q m t =
      let z = m b (here refl) in
      from (ap (λ (n : ℕ). home a (n - 1)) q ∙ e) n (omega arith) (omega arith)
      (subst (λ (n : ℕ). Below next f' b (after_home (n - 1))) (sym q) (λ d l. t b d (w d l)))
      (trail_kept r (ap (λ (n : ℕ). n / 8) z) (λ k x. m k (there x)) t)

  trail_in : {f : ℕ → ℕ} {a : ℕ} {s : List ℕ} → Trail f a s → (k : ℕ) → Mem k s → 8 ≤ f k
  trail_in {f = f} (first {a = a} _) k x5 = elim x5 [ ]
  trail_in {f} (from e n p o w r) k (here q) = subst (λ (x : ℕ). 8 ≤ f x) (sym q) p
  trail_in (from e n p o w r) k (there m) = trail_in r k m

  -- the walk leaves hex a
  module _ {f f' : ℕ → ℕ} {a c : ℕ} (y : Way f a c) (u : Upd f a (f a + 7) f') (shut : (d : ℕ) → Shut next f 1 a d) where
    entered : 8 ≤ f a
    entered = y.entered

    still : f a % 8 ≡ 0
    still = y.still

    big : 8 ≤ f a + 7
    big = let e = entered in omega arith

    now_looked : Looked next f'
    now_looked = looked_upd next u big y.looked (λ p. shut)

    -- what was under way and is not a is on the way home from a
    left : (k : ℕ) → 8 ≤ f' k → f' k % 8 < 7 → Mem k y.homeward
    left k q r =
        let s = still in
        same_or k a
        (λ e. let z = ap f' e ∙ u.at in absurd (omega arith))
        (λ n. let z = u.off k n in other n (y.under k (omega arith) (omega arith)))
      where
        other : {s : List ℕ} → (k ≡ a → ⊥) → Mem k (a ∷ s) → Mem k s
        other n (here e) = absurd (n e)
        other n (there m) = m

    -- it goes home to hex b
    pub way_back : (b : ℕ) → home a (f a / 8 - 1) ≡ Some b → Way f' b (after_home (f a / 8 - 1))
    way_back b e = go y.trail left
      where
        go : {s : List ℕ} → Trail f a s → ((k : ℕ) → 8 ≤ f' k → f' k % 8 < 7 → Mem k s) → Way f' b (after_home (f a / 8 - 1))
        go (first q) un = off_at q e
        go (from {b = b'} {s = s} q n m l w r) un =
            let keep : (k : ℕ) → Mem k (b' ∷ s) → f' k ≡ f k = λ k m. u.off k (λ e. n (subst (λ (x : ℕ). Mem x (b' ∷ s)) e m)) in
            let z = keep b' (here refl) in
            subst (λ (x : ℕ). Way f' x (after_home (f a / 8 - 1))) (at_at q e)
            (record {
              looked = now_looked;
              entered = omega arith;
              still = omega arith;
              below = λ d p. shut_upd next u big b' d (w d p);
              homeward = s;
              trail = trail_kept r (ap (λ (n : ℕ). n / 8) z) (λ k m. keep k (there m)) (shut_upd next u big);
              under = un;
            })

    -- it is over
    pub way_over : home a (f a / 8 - 1) ≡ None → Rest next f'
    way_over e = go y.trail left
      where
        go : {s : List ℕ} → Trail f a s → ((k : ℕ) → 8 ≤ f' k → f' k % 8 < 7 → Mem k s) → Rest next f'
        go (first q) un = record { looked = now_looked; over = λ k g. le_or 7 (f' k % 8) (λ p. omega arith) (λ p. none (un k g p)) }
        go (from q n m l w r) un = off_at e q

  -- the walk enters hex v from hex a, in the first direction d in which there is one to enter
  pub way_down :
      {f f' : ℕ → ℕ} {a c v : ℕ} (d : ℕ)
      → Way f a c
      → Upd f v (entered_by d) f'
      → First next f 1 a c 0 d
      → next a d ≡ Some v
      → d < 6
      → f v ≡ 1
      → home v ((d + 3) % 6) ≡ Some a
      → Way f' v 0
  way_down {f} {f'} {a} {c} {v} d y u p x six q e =
      let i : f' v ≡ entered_by d = u.at in
      let o : 8 ≤ f a = y.entered in
      let still : f a % 8 ≡ 0 = y.still in
      let big : 8 ≤ entered_by d = omega arith in
      let n : v ≡ a → ⊥ = λ c. let x = ap f c in absurd (omega arith) in
      let m : f' a ≡ f a = u.off a (λ c. n (sym c)) in
      let t : (k : ℕ) → Mem k y.homeward → k ≡ v → ⊥ = λ k m c. let x = ap f c in absurd (omega (arith, trail_in y.trail k m)) in
      let w : f' v / 8 - 1 ≡ (d + 3) % 6 = omega arith in
      let done : Below next f' a (after_home (f' v / 8 - 1)) =
      λ j l. le_or (j + 1) d (λ r. shut_upd next u big a j (before j (omega arith))) (λ r. here_seen j (omega arith) i) in
      record {
        looked = looked_upd next u big y.looked (λ r. absurd (omega arith));
        entered = omega arith;
        still = omega arith;
        below = λ j r. absurd (omega arith);
        homeward = a ∷ y.homeward;
        trail = from (ap (home v) w ∙ e)
            (not_back n (λ m. t v m refl))
            (omega arith)
            (omega arith)
            done
            (trail_kept y.trail (ap (λ (n : ℕ). n / 8) m) (λ k m. u.off k (t k m)) (shut_upd next u big));
        under = λ k q r. same_or k v here (λ n. let z = u.off k n in there (y.under k (omega arith) (omega arith)));
      }
    where
      not_back : {s : List ℕ} → (v ≡ a → ⊥) → (Mem v s → ⊥) → Mem v (a ∷ s) → ⊥
      not_back n m (here e) = n e
      not_back n m (there t) = m t

      -- the directions before d are done with, and in d lies v, which is entered now
      before : (j : ℕ) → j < d → Shut next f 1 a j
      before j l = le_or (j + 1) c (λ r. y.below j (omega arith)) (λ r. p.past j (omega arith) (omega arith) l)

      here_seen : (j : ℕ) → j ≡ d → f' v ≡ entered_by d → Shut next f' 1 a j
      here_seen j r i k z s = let g = ap f' (at_at x (ap (next a) (sym r) ∙ z)) in absurd (omega arith)

module _ {next home : ℕ → ℕ → Option ℕ} (g : TwoWay next home) where
  -- a walk starts at hex a
  pub way_start : {f f' : ℕ → ℕ} {a : ℕ} → Rest next f → Upd f a 56 f' → Way next home f' a 0
  way_start {f} {f'} {a} y u =
      let i : f' a ≡ 56 = u.at in
      record {
        looked = looked_upd next u (omega arith) y.looked (λ r. absurd (omega arith));
        entered = omega arith;
        still = omega arith;
        below = λ d r. absurd (omega arith);
        homeward = [];
        trail = first (ap (λ (n : ℕ). home a (n / 8 - 1)) i ∙ g.edge a);
        under = λ k q r. same_or k a here (λ n. let x = u.off k n in absurd (omega (arith, y.over k (omega arith))));
      }

  -- where no walk is under way and no open hex has a source beside it, every supplied hex is a source or was entered
  pub complete :
      {f₀ f : ℕ → ℕ}
      → ((k : ℕ) → f₀ k ≤ 2)
      → Faith next f₀ f
      → Rest next f
      → ((k : ℕ) → Apart next f k)
      → {a : ℕ} → Chain next f₀ a → 2 ≤ f a
  complete {f = f} most t y none (source {a = a} e) = le_or 8 (f a) (λ p. omega arith) (λ p. omega (arith, t.kept a p))
  complete {f = f} most t y none (beside {a = a} {b = b} d p e s) =
      le_or 2 (f a) (λ q. q)
      (λ q.
      let z = t.kept a (omega arith) in
      let one : f a ≡ 1 = omega arith in
      le_or 8 (f b)
      (λ r. absurd (y.looked b ((d + 3) % 6) r (y.over b r) a (g.turn a d b e) one))
      (λ r.
      let x = t.kept b r in
      let m = most b in
      let ih : 2 ≤ f b = complete most t y none s in
      absurd (none a one d b e (omega arith))))
