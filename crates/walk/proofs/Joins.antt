-- Laws of sweeps: a hex with a source beside it becomes one, and which hexes a chain joins to a source stays as it was. And laws of rows:
-- where the neighbours of a row's hexes lie.
-- Assumes nothing.
use Rattle.std.specs.Prelude.{Option}
use Rattle.std.specs.declared.option.Option.TheVariants as O
use Prim.Native.Nat.{ℕ, suc, ◌+◌, ◌-◌, ◌*◌, ◌/◌, ◌%◌, ◌≤◌, ◌<◌}
use mathlib.Core.Path.{◌≡◌, refl, sym, ◌∙◌, ap, subst}
use mathlib.Core.Bool.{Bool, true, false}
use mathlib.Core.List.{List}
use mathlib.Core.Logic.{inl, inr, ⊎_elim}
use native.Mathlib.Nat.{mul-le-mul, mul-le-mul_right, suc-mul, mul_comm}
use native.Mathlib.Omega.{arith}
use lib.ListN.{length, set, length-set}
use Rattle.grid.specs.declared.Spot.{Spot}
use Rattle.grid.specs.Map.{On, neighbour_of}
use Rattle.grid.specs.Spot.{SpotOf}
use Rattle.grid.proofs.Arith.{number, column, row_of}
use Rattle.grid.proofs.Laws.{on_map_lem}
use Rattle.grid.proofs.Close.{beside_close}
use Rattle.position.specs.declared.View.{View}
use Rattle.position.specs.Layout.{ViewOf}
use Rattle.position.specs.Laid.{Laid}
use Rattle.position.specs.Board.{ground}
use Rattle.position.specs.Ground.{next}
use Rattle.position.proofs.Shapes.{sizes}
use Rattle.position.proofs.Sides.{area_view, beside_view, next_over}
use Rattle.position.proofs.Tallies.{same_or}
use Rattle.walk.specs.Chain.{mark, Chain}
use Rattle.walk.specs.Chain.Chain.{source, beside}
use Rattle.walk.specs.Trail.{Opens, Apart}
use Rattle.walk.specs.Swept.{None, RowApart, Joined, Swept}
use Rattle.walk.proofs.Marks.{le_or, mark_set, mark_in_lem}
use Rattle.walk.proofs.Sweeps.{chain_by}

module _ {next : ℕ → ℕ → Option ℕ} where
  -- what a look tells
  pub joined : {f : ℕ → ℕ} {a d : ℕ} → Opens next f 2 a d → Joined next f a
  joined {d = d} o = record { dir = d; opens = o }

  pub swept_none : (l : List ℕ) → Swept next l l
  swept_none l = record { same = refl; each = λ k. inl refl; sound = λ k e. source e }

  -- one hex becomes a source
  pub swept_join : (l : List ℕ) (i : ℕ) → mark l i ≡ 1 → Joined next (mark l) i → Swept next l (set l i 2)
  swept_join l i e j =
      let u = mark_set l i 2 refl (mark_in_lem l i (omega arith)) in
      let o = j.opens.leads in
      record {
        same = length-set l i 2;
        each = λ k. same_or k i
            (λ c. inr (ap (mark l) c ∙ e, ap (mark (set l i 2)) c ∙ u.at))
            (λ n. inl (u.off k n));
        sound = λ k q. same_or k i
            (λ c. subst (Chain next (mark l)) (sym c) (beside j.dir (omega arith) o.there (source o.marked)))
            (λ n. source (sym (u.off k n) ∙ q));
      }

  module _ {l out : List ℕ} (w : Swept next l out) where
    pub swept_grades : ((k : ℕ) → mark l k ≤ 2) → (k : ℕ) → mark out k ≤ 2
    swept_grades p k = ⊎_elim (λ e. omega (arith, p k)) (λ e. let x = e.1 in omega arith) (w.each k)

    -- what is below 2 is the grade that it was
    pub swept_kept : (k : ℕ) → mark out k < 2 → mark out k ≡ mark l k
    swept_kept k p = ⊎_elim (λ e. e) (λ e. let x = e.1 in absurd (omega arith)) (w.each k)

    -- chains before are chains after, and the other way round
    pub swept_on : {a : ℕ} → Chain next (mark l) a → Chain next (mark out) a
    swept_on =
        chain_by
        (λ k p. ⊎_elim (λ e. omega arith) (λ e. let x = e.1 in omega arith) (w.each k))
        (λ k p. ⊎_elim (λ e. source (e ∙ p)) (λ e. source e.1) (w.each k))

    pub swept_back : {a : ℕ} → Chain next (mark out) a → Chain next (mark l) a
    swept_back =
        chain_by
        (λ k p. ⊎_elim (λ e. omega arith) (λ e. let x = e.0 in omega arith) (w.each k))
        w.sound

  pub swept_trans : {l mid out : List ℕ} → Swept next l mid → Swept next mid out → Swept next l out
  swept_trans {l} {mid} {out} p q =
      record {
        same = q.same ∙ p.same;
        each = λ k. ⊎_elim
            (λ e. ⊎_elim (λ d. inl (e ∙ d)) (λ d. inr (d.0, e ∙ d.1)) (p.each k))
            (λ e. ⊎_elim
            (λ d. inr (sym d ∙ e.0, e.1))
            (λ d. let x = e.0 in let y = d.1 in absurd (omega arith))
            (p.each k))
            (q.each k);
        sound = λ k e. swept_back p (q.sound k e);
      }

-- a search for a mark goes on past a hex that has another
pub none_more : (f : ℕ → ℕ) (a : ℕ) {i m : ℕ} → None f a i m → (f i ≡ m → ⊥) → None f a (i + 1) m
none_more f a {i} s n k p q e = same_or k i (λ c. n (ap f (sym c) ∙ e)) (λ c. s k p (omega arith) e)

-- what is found is not missing
pub found_one : {A : Type 0} → ◌≡◌ {A = Bool} true false → A
found_one e = let z : ◌≡◌ {A = ℕ} 0 1 = cc in absurd (omega arith)

-- a map has hexes, and a spot's hex has its byte
pub map_on : {p : List ℕ} {v : View} → Laid p v → On v.width v.height 0
map_on l =
    let s = sizes l in
    record {
      wide = s.width.low;
      wide64 = s.width.high;
      high = s.height.low;
      high64 = s.height.high;
      below = mul-le-mul s.width.low s.height.low;
    }

pub spot_in :
    (l : List ℕ) {p : List ℕ} {v : View} {s : Spot} → ViewOf p v → SpotOf v.width v.height s → length l ≡ v.hexes → s.hex < length l
spot_in l o s e = omega (arith, s.on.below, area_view o)

-- where rows begin and end
pub row_next : (r w : ℕ) → (r + 1) * w ≡ r * w + w
row_next r w = ap (λ (n : ℕ). n * w) (omega arith) ∙ suc-mul r w

pub row_past : {h r : ℕ} (w : ℕ) → h ≤ r → w * h ≤ r * w
row_past {h} {r} w p = omega (arith, mul-le-mul_right w p, mul_comm w h)

-- a step over an unblocked side leads to a neighbour
pub apart_next : {p : List ℕ} {v : View} {f : ℕ → ℕ} → ViewOf p v → (k : ℕ) → Apart (neighbour_of v.width v.height) f k → Apart (next (ground p)) f k
apart_next {p} o k n e d b x = n e d b (beside_view o k d ∙ next_over (ground p) k d b x)

-- the neighbours of a hex of row r lie in row r and in those before and after it
module _ {w h : ℕ} (o : On w h 0) (r : ℕ) where
  record Around (b : ℕ) : Type 0 where
    low : r * w ≤ b + w
    high : b < r * w + w + w

  around : (k d b : ℕ) → r * w ≤ k → k < r * w + w → neighbour_of w h k d ≡ O.Some b → Around b
  around k d b p q e =
      let c = beside_close w h k d b e in
      let z : r * w + (k - r * w) ≡ k = omega arith in
      let row : k / w ≡ r = ap (λ (n : ℕ). n / w) (sym z) ∙ row_of r (omega arith) in
      let up : r ≤ suc (b / w) = omega (arith, c.north) in
      let down : b / w ≤ suc r = omega (arith, c.south) in
      let n = number w b in
      let m : b % w < w = column (on_map_lem w h k d b e) in
      record {
        low = omega (arith, mul-le-mul_right w up, suc-mul (b / w) w);
        high = omega (arith, mul-le-mul_right w down, suc-mul r w);
      }

  pub row_apart :
      {f : ℕ → ℕ}
      → None f (r * w - w) (r * w) 2
      → None f (r * w) (r * w + w) 2
      → None f (r * w + w) (r * w + w + w) 2
      → RowApart w h f r
  row_apart x y z k p q e d b a t =
      let i = around k d b p q a in
      le_or (r * w) b
      (λ s. le_or (r * w + w) b (λ v. z b v i.high t) (λ v. y b s v t))
      (λ s. x b (omega (arith, i.low)) s t)
