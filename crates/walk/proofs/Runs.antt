-- Laws of the functions of the walk, over the list of the marks: what a step keeps and that it leaves less to do, the walk from one hex,
-- the walks from all, the last pass, and the whole.
-- Assumes nothing.
use Rattle.std.specs.Prelude.{Option}
use Rattle.std.specs.declared.option.Option.TheVariants as O
use Prim.Native.Nat.{ℕ, ◌+◌, ◌-◌, ◌%◌, ◌≤◌, ◌<◌}
use mathlib.Core.Path.{◌≡◌, refl, sym, ◌∙◌, ap, subst}
use mathlib.Core.Bool.{cond}
use mathlib.Core.List.{List}
use mathlib.Core.Logic.{◌⊎◌, inl, inr}
use native.Mathlib.Omega.{arith}
use lib.ListN.{length, set, length-set}
use lib.Dec.{ltb}
use borrow.Author.Tests.{lt-ltb, le-ltb}
use Rattle.position.proofs.Tallies.{same_or}
use Rattle.walk.specs.Chain.{mark, Chain, OneIf, Reached}
use Rattle.walk.specs.Chain.Chain.{source, beside}
use Rattle.walk.specs.Trail.{entered_by, Ready, Step, Last, Faith, Rest, Kept, Flooded, Apart, Sown, Seeded, Done, Settled}
use Rattle.walk.specs.Swept.{None, Joined, Swept, Walked}
use Rattle.walk.specs.Trail.Step.{down, back}
use Rattle.walk.proofs.Marks.{le_or, mark_set, mark_in_lem, weigh, weigh_less}
use Rattle.position.proofs.Sides.{off_at}
use Rattle.walk.proofs.Steps.{TwoWay}
use Rattle.walk.proofs.Joins.{swept_grades, swept_kept, swept_on, swept_back}
use Rattle.walk.proofs.Trails.{all_shut, faith_upd, Way, way_start, way_down, way_back, way_over, complete}

-- what is left to do at a hex, by its mark: to enter it, and to leave it
unfoldable pub work : ℕ → ℕ
work m = cond (ltb m 8) 2 (1 - m % 8)

work_new : (m : ℕ) → m < 8 → work m ≡ 2
unfolding work
work_new m p = simp (lt-ltb m 8 p)

work_entered : (m : ℕ) → 8 ≤ m → work m ≡ 1 - m % 8
unfolding work
work_entered m p = simp (le-ltb m 8 p)

-- what is kept where nothing is done, where two runs of steps follow on each other, and where a hex is entered or a mark of one changed
module _ {next : ℕ → ℕ → Option ℕ} where
  pub kept_refl : (l : List ℕ) → Kept next l l
  kept_refl l = record { same = refl; grown = λ k q. refl; faith = λ f₀ t. t }

  pub kept_trans : {l m n : List ℕ} → Kept next l m → Kept next m n → Kept next l n
  kept_trans p q =
      record {
        same = q.same ∙ p.same;
        grown = λ k r. let z = q.grown k r in z ∙ p.grown k (omega arith);
        faith = λ f₀ t. q.faith f₀ (p.faith f₀ t);
      }

  kept_set :
      (l : List ℕ) {out : List ℕ} (i v : ℕ)
      → out ≡ set l i v
      → i < length l
      → 8 ≤ v
      → ((f₀ : ℕ → ℕ) → Faith next f₀ (mark l) → Chain next f₀ i)
      → Kept next l out
  kept_set l {out} i v e p b s =
      let u = mark_set l i v e p in
      record {
        same = ap length e ∙ length-set l i v;
        grown = λ k q. same_or k i (λ c. let z = ap (mark out) c ∙ u.at in absurd (omega arith)) (λ n. u.off k n);
        faith = λ f₀ t. faith_upd next u b t (s f₀ t);
      }

-- a step, over the list of the marks
module _ {next home : ℕ → ℕ → Option ℕ} (g : TwoWay next home) (l : List ℕ) (a c : ℕ) (y : Way next home (mark l) a c) where
  way_in : a < length l
  way_in = let e : 8 ≤ mark l a = y.entered in mark_in_lem l a (omega arith)

  pub way_ready : Ready l a
  way_ready = record { inside = way_in; entered = y.entered; still = y.still }

  left_kept : {out : List ℕ} → out ≡ set l a (mark l a + 7) → Kept next l out
  left_kept e = let o : 8 ≤ mark l a = y.entered in kept_set l a (mark l a + 7) e way_in (omega arith) (λ f₀ t. t.sound a o)

  pub step_kept : {out : List ℕ} {b e : ℕ} → Step next home l a c out b e → Kept next l out
  step_kept {b = b} (down d p w z e) =
      let o = w.marked in
      kept_set l b (entered_by d) e (mark_in_lem l b (omega arith)) (omega arith)
      (λ f₀ t.
      let k : mark l b ≡ f₀ b = t.kept b (omega arith) in
      beside ((d + 3) % 6) (omega arith) (g.turn a d b w.there) (t.sound a y.entered))
  step_kept (back p h z e) = left_kept e

  pub step_way : {out : List ℕ} {b e : ℕ} → Step next home l a c out b e → Way next home (mark out) b e
  step_way {out} {b} (down d p w z e) =
      let o = w.marked in
      subst (Way next home (mark out) b) (sym z)
      (way_down next home d y (mark_set l b (entered_by d) e (mark_in_lem l b (omega arith))) p w.there (under_six b d w.there) w.marked
      (g.over b ((d + 3) % 6) a (g.turn a d b w.there)))
    where
      under_six : (b d : ℕ) → next a d ≡ O.Some b → d < 6
      under_six b d e = le_or 6 d (λ q. off_at (g.six a d q) e) (λ q. q)
  step_way {out} {b} (back p h z e) =
      subst (Way next home (mark out) b) (sym z)
      (way_back next home y (mark_set l a (mark l a + 7) e way_in) (all_shut g y.below p) b h)

  pub last_kept : {out : List ℕ} → Last next home l a c out → Kept next l out
  last_kept s = left_kept s.left

  pub last_rest : {out : List ℕ} → Last next home l a c out → Rest next (mark out)
  last_rest s = way_over next home y (mark_set l a (mark l a + 7) s.left way_in) (all_shut g y.below s.none) s.nowhere

  pub step_falls : {out : List ℕ} {b e : ℕ} → Step next home l a c out b e → weigh work out < weigh work l
  step_falls {b = b} (down d p w z e) =
      let o = w.marked in
      weigh_less work l b (entered_by d) e (mark_in_lem l b (omega arith))
      (omega (arith, work_new (mark l b) (omega arith), work_entered (entered_by d) (omega arith)))
  step_falls (back p h z e) =
      let o : 8 ≤ mark l a = y.entered in
      let s : mark l a % 8 ≡ 0 = y.still in
      weigh_less work l a (mark l a + 7) e way_in
      (omega (arith, work_entered (mark l a) o, work_entered (mark l a + 7) (omega arith)))

-- a walk from an open hex that has a source beside it
module _ {next home : ℕ → ℕ → Option ℕ} (g : TwoWay next home) (l : List ℕ) (i : ℕ) (one : mark l i ≡ 1) where
  pub start_in : i < length l
  start_in = mark_in_lem l i (omega arith)

  pub start_way : Rest next (mark l) → Way next home (mark (set l i 56)) i 0
  start_way y = way_start g y (mark_set l i 56 refl start_in)

  pub flooded :
      {buf out : List ℕ} {a c : ℕ}
      → Joined next (mark l) i
      → Kept next (set l i 56) buf
      → Way next home (mark buf) a c
      → Last next home buf a c out
      → Flooded next l i out
  flooded {buf} {out} {a} {c} j k y s =
      let u = mark_set l i 56 refl start_in in
      let k' = kept_trans k (last_kept g buf a c y s) in
      let o = j.opens.leads in
      let two = o.marked in
      let b = j.opens.hex in
      let start : Kept next l (set l i 56) =
      kept_set l i 56 refl start_in (omega arith)
      (λ f₀ t.
      let z : mark l i ≡ f₀ i = t.kept i (omega arith) in
      let x : mark l b ≡ f₀ b = t.kept b (omega arith) in
      beside j.dir (omega arith) o.there (source (omega arith))) in
      record {
        kept = kept_trans start k';
        rest = last_rest g buf a c y s;
        start = le_or 8 (mark out i) (λ p. p) (λ p. let z = u.at in absurd (omega (arith, k'.grown i p)));
      }

-- the walks from the hexes from a up to b
module _ {next : ℕ → ℕ → Option ℕ} where
  -- marks that a run of steps leaves below 8 are those that were
  apart_kept : {l out : List ℕ} → Kept next l out → (k : ℕ) → Apart next (mark l) k → Apart next (mark out) k
  apart_kept {l} {out} t k n e d b x y = n (sym (t.grown k (omega arith)) ∙ e) d b x (sym (t.grown b (omega arith)) ∙ y)

  pub sown_none : {l : List ℕ} {a b : ℕ} → Rest next (mark l) → ((k : ℕ) → a ≤ k → k < b → Apart next (mark l) k) → Sown next l a b l
  sown_none {l} y n = record { kept = kept_refl l; rest = y; none = n }

  pub sown_one : {l : List ℕ} {a : ℕ} → Rest next (mark l) → Apart next (mark l) a → Sown next l a (a + 1) l
  sown_one {l} {a} y n = sown_none y (λ k p q. subst (Apart next (mark l)) (omega arith) n)

  pub sown_flood : {l out : List ℕ} {a : ℕ} → Flooded next l a out → Sown next l a (a + 1) out
  sown_flood {out = out} {a = a} f =
      record {
        kept = f.kept;
        rest = f.rest;
        none = λ k p q e. let z : k ≡ a = omega arith in absurd (omega (arith, ap (mark out) z, f.start));
      }

  pub sown_on :
      {l buf out : List ℕ} {a b b' c c' : ℕ}
      → b' ≤ b
      → c ≤ c'
      → Sown next l a b buf
      → Sown next buf b' c' out
      → Sown next l a c out
  sown_on {b = b} p q s t =
      record {
        kept = kept_trans s.kept t.kept;
        rest = t.rest;
        none = λ k x y. le_or b k (λ z. t.none k (omega arith) (omega arith)) (λ z. apart_kept t.kept k (s.none k x z));
      }

  pub sown_less : {l out : List ℕ} {a b c : ℕ} → c ≤ b → Sown next l a b out → Sown next l a c out
  sown_less p s = record { kept = s.kept; rest = s.rest; none = λ k x y. s.none k x (omega arith) }

  pub sown_all : {l out : List ℕ} (n : ℕ) → length l ≤ n → Sown next l 0 n out → Seeded next l out
  sown_all {out = out} n p s =
      record {
        kept = s.kept;
        rest = s.rest;
        none = λ k e. s.none k (omega arith) (omega (arith, s.kept.same, mark_in_lem out k (omega arith))) e;
      }

  -- where there is no source, and where there is no open hex but sources, there is nothing to walk from
  pub seeded_sourceless : {l : List ℕ} {n : ℕ} → Rest next (mark l) → length l ≡ n → None (mark l) 0 n 2 → Seeded next l l
  seeded_sourceless {l} y e s =
      record {
        kept = kept_refl l;
        rest = y;
        none = λ k o d b x t. s b (omega arith) (omega (arith, mark_in_lem l b (omega arith))) t;
      }

  pub seeded_full : {l : List ℕ} {n : ℕ} → Rest next (mark l) → length l ≡ n → None (mark l) 0 n 1 → Seeded next l l
  seeded_full {l} y e s =
      record {
        kept = kept_refl l;
        rest = y;
        none = λ k o. absurd (s k (omega arith) (omega (arith, mark_in_lem l k (omega arith))) o);
      }

-- the last pass, up to hex i
pub record Settling (l : List ℕ) (i : ℕ) (out : List ℕ) : Type 0 where
  pub same : length out ≡ length l
  pub done : (k : ℕ) → k < i → Done (mark l k) (mark out k)
  pub left : (k : ℕ) → i ≤ k → mark out k ≡ mark l k
  pub most : i ≤ length out

pub settle_turn :
    {l out out' : List ℕ} {i : ℕ} (v : ℕ)
    → out' ≡ set out i v
    → i < length out
    → Settling l i out
    → Done (mark out i) v
    → Settling l (i + 1) out'
settle_turn {l} {out} {out'} {i} v e p s d =
    let u = mark_set out i v e p in
    let z : length out' ≡ length out = ap length e ∙ length-set out i v in
    record {
      same = z ∙ s.same;
      done = λ k q. same_or k i
          (λ c. rw (c, u.at, ← s.left i (omega arith)) d)
          (λ n. rw (u.off k n) (s.done k (omega arith)));
      left = λ k q. u.off k (omega arith) ∙ s.left k (omega arith);
      most = omega arith;
    }

-- the whole, from grades
pub graded_rest : {next : ℕ → ℕ → Option ℕ} (l : List ℕ) → ((k : ℕ) → mark l k ≤ 2) → Rest next (mark l)
graded_rest l grades =
    record {
      looked = λ k d p q. absurd (omega (arith, grades k));
      over = λ k p. absurd (omega (arith, grades k));
    }

module _ {next home : ℕ → ℕ → Option ℕ} (g : TwoWay next home) {l mid : List ℕ} (grades : (k : ℕ) → mark l k ≤ 2) (w : Swept next l mid) where
  -- sweeps, and then walks
  pub walked : {out : List ℕ} → Seeded next mid out → Walked next l out
  walked {out} s =
      record {
        same = s.kept.same ∙ w.same;
        each = λ k. le_or 2 (mark out k)
            (λ p. inl (p, sound k p))
            (λ p. inr (p, λ y. absurd (omega (arith, complete g (swept_grades w grades) faith s.rest s.none (swept_on w y)))));
        kept = λ k p. s.kept.grown k (omega arith) ∙ swept_kept w k (omega (arith, s.kept.grown k (omega arith)));
      }
    where
      faith : Faith next (mark mid) (mark out)
      faith =
          s.kept.faith (mark mid)
          (record { kept = λ k p. refl; sound = λ k p. absurd (omega (arith, swept_grades w grades k)) })

      sound : (k : ℕ) → 2 ≤ mark out k → Chain next (mark l) k
      sound k p =
          le_or 8 (mark out k)
          (λ q. swept_back w (faith.sound k q))
          (λ q. w.sound k (omega (arith, faith.kept k q, swept_grades w grades k)))

-- and the marks settled
pub reached : {next : ℕ → ℕ → Option ℕ} {l mid out : List ℕ} → Walked next l mid → Settled mid out → Reached next l out
reached {next} {l} {mid} {out} w t =
    record { same = t.same ∙ w.same; each = λ k p. each k (w.each k) (t.each k (omega (arith, w.same))) }
  where
    each :
        (k : ℕ)
        → ((2 ≤ mark mid k) × Chain next (mark l) k) ⊎ ((mark mid k < 2) × (Chain next (mark l) k → ⊥))
        → Done (mark mid k) (mark out k)
        → OneIf (Chain next (mark l) k) (mark out k)
    each k (inl c) (inl d) = inl (d.1, c.1)
    each k (inl c) (inr d) = let x = c.0 in let y = d.0 in absurd (omega arith)
    each k (inr c) (inl d) = let x = c.0 in let y = d.0 in absurd (omega arith)
    each k (inr c) (inr d) = inr (d.1, c.1)
