-- The test `chained` is true exactly of the hexes from which a chain leads to a source; so supply is decided, and what the walk leaves in a
-- buffer is known.
-- Assumes nothing.
use Rattle.std.specs.Prelude.{Option, Some, None}
use Prim.Native.Nat.{ℕ, zero, suc, ◌-◌, ◌+◌, ◌≤◌, ◌<◌}
use mathlib.Core.Path.{◌≡◌, refl, sym, ◌∙◌, ap, subst}
use mathlib.Core.Bool.{Bool, true, false, cond}
use mathlib.Core.List.{List}
use mathlib.Core.Logic.{inl, inr, ◌↔◌}
use native.Mathlib.Omega.{arith}
use lib.ListN.{length, set, length-set}
use borrow.Author.Tests.{ltb-true, lt-ltb, eq-eqb, ne_eqb, eqb-true, eqb-false, not-true}
use Rattle.position.proofs.Tallies.{both_yes, same_or, either, not_both, any_some, any_true}
use Rattle.walk.specs.Chain.{mark, Chain, OneIf, Reached}
use Rattle.walk.specs.Chain.Chain.{source, beside}
use Rattle.walk.specs.Sweep.{source_at, joins, touch, sweep, sweeps, chained, tab, reach}
use Rattle.position.proofs.Sides.{off_at}
use Rattle.walk.proofs.Marks.{le_or, mark_set, mark_in_lem, tab_mark, tab_only, weigh, weigh_less, weigh_most}

record Found (l : List ℕ) (r : Option ℕ) : Type 0 where
  hex : ℕ
  there : r ≡ Some hex
  from : mark l hex ≡ 2

found : (l : List ℕ) (r : Option ℕ) → source_at l r ≡ true → Found l r
unfolding source_at
found l (Some b) e = record { hex = b; there = refl; from = eqb-true (mark l b) 2 e }
found l None e = not_both false e refl

-- chains under other grades
pub chain_by :
    {next : ℕ → ℕ → Option ℕ} {f g : ℕ → ℕ}
    → ((k : ℕ) → 0 < f k → 0 < g k)
    → ((k : ℕ) → f k ≡ 2 → Chain next g k)
    → {a : ℕ} → Chain next f a → Chain next g a
chain_by p q (source {a = a} e) = q a e
chain_by p q (beside {a = a} d o n s) = beside d (p a o) n (chain_by p q s)

pub chain_same : {next : ℕ → ℕ → Option ℕ} {f g : ℕ → ℕ} → ((k : ℕ) → f k ≡ g k) → {a : ℕ} → Chain next f a → Chain next g a
chain_same e = chain_by (λ k p. omega (arith, e k)) (λ k p. source (sym (e k) ∙ p))

-- 1 for a hex that is no source
unfoldable dull : ℕ → ℕ
dull m = 1 - (1 - ((2 - m) + (m - 2)))

dull_most : (m : ℕ) → dull m ≤ 1
unfolding dull
dull_most m = omega arith

dull_less : (m : ℕ) → (m ≡ 2 → ⊥) → dull 2 < dull m
unfolding dull
dull_less m n = omega arith

module _ (next : ℕ → ℕ → Option ℕ) where
  -- hex a is to be made a source; no hex below n is
  record Joins (l : List ℕ) (a : ℕ) : Type 0 where
    some : 0 < mark l a
    new : mark l a ≡ 2 → ⊥
    dir : ℕ
    six : dir < 6
    hex : ℕ
    there : next a dir ≡ Some hex
    from : mark l hex ≡ 2

  abbrev Still : List ℕ → ℕ → Type 0
  Still l n = (k : ℕ) → k < n → Joins l k → ⊥

  joins_true : (l : List ℕ) (a : ℕ) → joins next l a ≡ true → Joins l a
  unfolding joins
  joins_true l a e =
      let p = both_yes _ _ e in
      let q = both_yes _ _ p.1 in
      let s = any_some (λ d. source_at l (next a d)) 6 q.1 in
      let f = found l (next a s.at) s.passes in
      record {
        some = ltb-true 0 (mark l a) p.0;
        new = eqb-false (mark l a) 2 (not-true _ q.0);
        dir = s.at;
        six = s.below;
        hex = f.hex;
        there = f.there;
        from = f.from;
      }

  joins_made : (l : List ℕ) (a : ℕ) → Joins l a → joins next l a ≡ true
  unfolding joins source_at
  joins_made l a j =
      let s : source_at l (next a j.dir) ≡ true = rw j.there (eq-eqb (mark l j.hex) 2 j.from) in
      simp (lt-ltb 0 (mark l a) j.some, ne_eqb (mark l a) 2 j.new, any_true (λ d. source_at l (next a d)) 6 j.dir j.six s)

  -- the grades m supply the same hexes as the grades l
  record Alike (l m : List ℕ) : Type 0 where
    same : length m ≡ length l
    to : {k : ℕ} → Chain next (mark l) k → Chain next (mark m) k
    back : {k : ℕ} → Chain next (mark m) k → Chain next (mark l) k

  alike_refl : (l : List ℕ) → Alike l l
  alike_refl l = record { same = refl; to = λ s. s; back = λ s. s }

  alike_trans : {l m n : List ℕ} → Alike l m → Alike m n → Alike l n
  alike_trans p q = record { same = q.same ∙ p.same; to = λ s. q.to (p.to s); back = λ s. p.back (q.back s) }

  -- to make such a hex a source changes the supply of none, and leaves fewer to make
  join_alike : (l : List ℕ) (a : ℕ) → Joins l a → Alike l (set l a 2)
  join_alike l a j =
      let u = mark_set l a 2 refl (mark_in_lem l a j.some) in
      record {
        same = length-set l a 2;
        to = chain_by
            (λ k p. same_or k a (λ c. let z = ap (mark (set l a 2)) c ∙ u.at in omega arith) (λ n. omega (arith, u.off k n)))
            (λ k e. source (same_or k a (λ c. ap (mark (set l a 2)) c ∙ u.at) (λ n. u.off k n ∙ e)));
        back = chain_by
            (λ k p. same_or k a (λ c. let z = ap (mark l) c in omega (arith, j.some)) (λ n. omega (arith, u.off k n)))
            (λ k e. same_or k a
            (λ c. subst (Chain next (mark l)) (sym c) (beside j.dir j.some j.there (source j.from)))
            (λ n. source (sym (u.off k n) ∙ e)));
      }

  join_less : (l : List ℕ) (a : ℕ) → Joins l a → weigh dull (set l a 2) < weigh dull l
  join_less l a j = weigh_less dull l a 2 refl (mark_in_lem l a j.some) (dull_less (mark l a) j.new)

  -- one hex, one sweep: nothing is changed and there was nothing to change, or there is less to do
  data Went (l : List ℕ) (n : ℕ) (m : List ℕ) : Type 0 where
    stood : m ≡ l → Still l n → Went l n m
    less : weigh dull m < weigh dull l → Went l n m

  touch_alike : (l : List ℕ) (a : ℕ) → Alike l (touch next l a)
  unfolding touch
  touch_alike l a = go (joins next l a) refl
    where
      go : (b : Bool) → joins next l a ≡ b → Alike l (cond b (set l a 2) l)
      go true e = join_alike l a (joins_true l a e)
      go false e = alike_refl l

  touch_went : (l m : List ℕ) (n : ℕ) → Went l n m → Went l (suc n) (touch next m n)
  unfolding touch
  touch_went l m n = go (joins next m n) refl
    where
      go : (b : Bool) → joins next m n ≡ b → Went l n m → Went l (suc n) (cond b (set m n 2) m)
      go true e (stood c t) = less (let y = ap (weigh dull) c in omega (arith, join_less m n (joins_true m n e)))
      go true e (less c) = less (omega (arith, join_less m n (joins_true m n e)))
      go false e (stood c t) =
          stood c
          (λ k p j. same_or k n
          (λ x. not_both _ (joins_made l n (subst (Joins l) x j)) (ap (λ (o : List ℕ). joins next o n) (sym c) ∙ e))
          (λ x. t k (omega arith) j))
      go false e (less c) = less c

  sweep_alike : (l : List ℕ) (n : ℕ) → Alike l (sweep next l n)
  unfolding sweep
  sweep_alike l zero = alike_refl l
  sweep_alike l (suc n) = alike_trans (sweep_alike l n) (touch_alike (sweep next l n) n)

  sweep_went : (l : List ℕ) (n : ℕ) → Went l n (sweep next l n)
  unfolding sweep
  sweep_went l zero = stood refl (λ k p j. absurd (omega arith))
  sweep_went l (suc n) = touch_went l (sweep next l n) n (sweep_went l n)

  sweeps_alike : (k : ℕ) (l : List ℕ) → Alike l (sweeps next k l)
  unfolding sweeps
  sweeps_alike zero l = alike_refl l
  sweeps_alike (suc k) l = alike_trans (sweep_alike l (length l)) (sweeps_alike k (sweep next l (length l)))

  sweeps_stood : (k : ℕ) (l : List ℕ) → sweep next l (length l) ≡ l → sweeps next k l ≡ l
  unfolding sweeps
  sweeps_stood zero l e = refl
  sweeps_stood (suc k) l e = ap (sweeps next k) e ∙ sweeps_stood k l e

  abbrev Ended : List ℕ → Type 0
  Ended l = Still l (length l)

  sweeps_end : (k : ℕ) (l : List ℕ) → weigh dull l < k → Ended (sweeps next k l)
  unfolding sweeps
  sweeps_end zero l p = absurd (omega arith)
  sweeps_end (suc k) l p = go (sweep_went l (length l)) (sweeps_end k (sweep next l (length l)))
    where
      m : List ℕ
      m = sweep next l (length l)

      go : Went l (length l) m → (weigh dull m < k → Ended (sweeps next k m)) → Ended (sweeps next k m)
      go (stood e t) f = subst Ended (sym (ap (sweeps next k) e ∙ sweeps_stood k l e)) t
      go (less c) f = f (omega arith)

  -- the test is right
  pub true_chain : (l : List ℕ) (a : ℕ) → chained next l a ≡ true → Chain next (mark l) a
  unfolding chained
  true_chain l a e = (sweeps_alike (suc (length l)) l).back (source (eqb-true (mark (sweeps next (suc (length l)) l) a) 2 e))

  module _ (six : (a d : ℕ) → 6 ≤ d → next a d ≡ None) where
    -- where nothing is left to change, the sources are what is supplied
    still_source : (l : List ℕ) → Ended l → {a : ℕ} → Chain next (mark l) a → mark l a ≡ 2
    still_source l t (source e) = e
    still_source l t (beside {a = a} {b = b} d p n s) =
        let q : d < 6 = le_or 6 d (λ r. off_at (six a d r) n) (λ r. r) in
        same_or (mark l a) 2 (λ e. e)
        (λ o. absurd (t a (mark_in_lem l a p) (record { some = p; new = o; dir = d; six = q; hex = b; there = n; from = still_source l t s })))

    pub chain_true : (l : List ℕ) (a : ℕ) → Chain next (mark l) a → chained next l a ≡ true
    unfolding chained
    chain_true l a s =
        let n = suc (length l) in
        let t = sweeps_end n l (omega (arith, weigh_most dull dull_most l)) in
        eq-eqb (mark (sweeps next n l) a) 2 (still_source (sweeps next n l) t ((sweeps_alike n l).to s))

    pub chain_false : (l : List ℕ) (a : ℕ) → (Chain next (mark l) a → ⊥) → chained next l a ≡ false
    chain_false l a n = either (chained next l a) (λ e. absurd (n (true_chain l a e))) (λ e. e)

    -- the same for grades that are a function of the hex, 0 past the map
    pub board_iff : (n : ℕ) (f : ℕ → ℕ) → ((k : ℕ) → 0 < f k → k < n) → (a : ℕ) → (chained next (tab n f) a ≡ true) ↔ Chain next f a
    board_iff n f p a =
        let e = tab_mark n f p in
        (λ t. chain_same e (true_chain (tab n f) a t), λ s. chain_true (tab n f) a (chain_same (λ k. sym (e k)) s))

    -- what is left in a buffer is the test's answers, and so is one list
    module _ {l out : List ℕ} (t : Reached next l out) where
      told : (k : ℕ) → k < length l → mark out k ≡ cond (chained next l k) 1 0
      told k p = go (t.each k p)
        where
          go : OneIf (Chain next (mark l) k) (mark out k) → mark out k ≡ cond (chained next l k) 1 0
          go (inl x) = rw (chain_true l k x.1) x.0
          go (inr x) = rw (chain_false l k x.1) x.0

      pub reached_tab : out ≡ reach next l
      unfolding reach
      reached_tab = tab_only (length l) (λ k. cond (chained next l k) 1 0) out t.same told
