-- What a march does to each unit: the group arrives, its supply units are eliminated, and everybody else is where the pushes bring him.
-- Assumes nothing.
use Prim.Native.Nat.{ℕ, ◌≤◌, ◌<◌}
use mathlib.Core.Path.{◌≡◌, refl, sym, ap, subst, ◌∙◌}
use mathlib.Core.Bool.{true, false}
use mathlib.Core.List.{List, [], ◌∷◌, ◌++◌}
use native.Mathlib.Omega.{arith}
use borrow.Author.Tests.{eq-eqb, ne_eqb}
use lib.ListN.{get_or, length}
use Rattle.position.specs.Board.{Board, nowhere}
use Rattle.position.specs.Crowd.{owes_at}
use Rattle.position.specs.Kind.{supply_kind}
use Rattle.position.specs.Effect.{changes}
use Rattle.position.proofs.Tallies.{either}
use Rattle.acceptance.proofs.Carries.{kind_by}
use Rattle.acceptance.proofs.Fates.{Freed, Same, assigned_none, same_trans}
use Rattle.acceptance.proofs.Owings.{owes_hex, owes_role}
use Rattle.acceptance.proofs.Since.{Since}
use Rattle.acceptance.proofs.Stills.{fixed_refl}
use Rattle.field.specs.Scene.{scene}
use Rattle.field.specs.Zone.{vacant}
use Rattle.field.proofs.Named.{named_here, sieve_names}
use Rattle.routes.specs.Bears.{bears}
use Rattle.chains.specs.declared.Stand.TheVariants.{Free, Loose}
use Rattle.chains.specs.Stand.{stand}
use Rattle.chains.specs.Chain.{Stands, Chain, most, after}
use Rattle.chains.specs.Series.{Land, Series, stay, walk, shove}
use Rattle.shoves.specs.Group.{gather, group}
use Rattle.shoves.specs.Played.{once_cleared, once_entered}
use Rattle.shoves.specs.Shoves.{Cleared, clears, frees, goes_to, group_to, marches}
use Rattle.shoves.proofs.KeepChain.{Pushes, bears_stands, chain_clears, chain_other, clears_vacant, real_hex}
use Rattle.shoves.proofs.KeepSeries.{emptied, pushes_owes, march_on, pushes_own}
use Rattle.shoves.proofs.KeepStep.{OwnGroup, Stepped, stepped, went}
use Rattle.shoves.proofs.Standing.{free_is, free_vacant}
use Rattle.shoves.proofs.Sweeps.{own_frees, own_goes}
use Rattle.retreat.specs.Units.{Arrived, Eliminated, brought_to}
use Rattle.retreat.proofs.Carried.{Shoved, chain_shoved, shoved_vacant}
use Rattle.retreat.proofs.Dealt.{
  Lasts,
  dealt,
  destroyed_eliminated,
  eliminated_same,
  lasts_eliminated,
  missed,
  same_eliminated,
  sieve_not,
}

-- board d, once the group of hex a has gone along its route from board b; whoever is in the box is as he was
pub record Marched (b : Board) (a : ℕ) (route ps : List ℕ) (d : Board) : Type 0 where
  pub walkers :
      (u : ℕ) → u < b.units.count → owes_at b a u ≡ true → (b.units.counter.kind u ≡ supply_kind → ⊥)
      → Arrived d u (get_or (a ∷ route) (length route) nowhere)
  pub supplies :
      (u : ℕ) → u < b.units.count → owes_at b a u ≡ true → b.units.counter.kind u ≡ supply_kind → 0 < length route → Eliminated b d u
  pub others :
      (w : ℕ) → w < b.units.count → owes_at b a w ≡ false
      → d.units.state.hex w ≡ brought_to b a route ps (b.units.state.hex w)
  pub boxed : (w : ℕ) → w < b.units.count → b.units.state.hex w ≡ nowhere → Same b.units d.units w

-- nobody in the box owes in a hex
boxed_not : (b : Board) (a w : ℕ) → (a ≡ nowhere → ⊥) → b.units.state.hex w ≡ nowhere → owes_at b a w ≡ false
boxed_not b a w real e = either (owes_at b a w) (λ i. absurd (real (sym (owes_hex b w a i) ∙ e))) (λ i. i)

-- the march is over: who was of the group has no role any more
lasts_freed : (w : ℕ) → Lasts w (λ b c. Freed b.units c.units w)
lasts_freed w =
    record {
      before = λ s x. record { hex = x.hex ∙ s.hex; marks = x.marks ∙ s.marks; role = x.role };
      after = λ x s. record { hex = s.hex ∙ x.hex; marks = s.marks ∙ x.marks; role = s.role ∙ x.role };
      again = λ x y. record { hex = y.hex ∙ x.hex; marks = y.marks ∙ x.marks; role = y.role };
    }

module _ (b : Board) (a : ℕ) where
  frees_one : (c : Board) (u : ℕ) → u < c.units.count → Freed c.units (changes c (frees u)).units u
  unfolding changes frees
  frees_one c u l = assigned_none c u l

  frees_group :
      (u : ℕ) → u < b.units.count → owes_at b a u ≡ true → Freed b.units (changes b (gather frees (group b a))).units u
  unfolding group
  frees_group u l e =
      dealt frees own_frees u (lasts_freed u) (λ c f. frees_one c u (omega (arith, f.count))) (group b a) b (fixed_refl b)
      (sieve_names (owes_at b a) b.units.count u l e)

  frees_others : (w : ℕ) → owes_at b a w ≡ false → Same b.units (changes b (gather frees (group b a))).units w
  unfolding group
  frees_others w e = missed frees own_frees w (group b a) b (sieve_not (owes_at b a) b.units.count w e)

  halted : (a ≡ nowhere → ⊥) → (ps : List ℕ) → Marched b a [] ps (changes b (marches b a [] ps))
  unfolding marches brought_to
  halted real ps =
      record {
        walkers = λ u l e k. let y = frees_group u l e in record { there = y.hex ∙ owes_hex b u a e; role = y.role };
        supplies = λ u l e k n. absurd (omega arith);
        others = λ w l e. (frees_others w e).hex;
        boxed = λ w l e. frees_others w (boxed_not b a w real e);
      }

-- a supply unit of a group that goes is eliminated
module _ (b : Board) (a x u : ℕ) (k : b.units.counter.kind u ≡ supply_kind) where
  goes_one : (c : Board) → u < c.units.count → Eliminated c (changes c (goes_to b x u)) u
  unfolding changes goes_to
  goes_one c l = simp (eq-eqb (b.units.counter.kind u) supply_kind k) (destroyed_eliminated c u l)

  goes_supply : u < b.units.count → owes_at b a u ≡ true → Eliminated b (once_entered b a x) u
  unfolding group_to group
  goes_supply l e =
      dealt (goes_to b x) (own_goes b x) u (lasts_eliminated u) (λ c f. goes_one c (omega (arith, f.count))) (group b a) b (fixed_refl b)
      (sieve_names (owes_at b a) b.units.count u l e)

-- no push at all
pushes_none : {o b : Board} {f : ℕ} → Since o b → Pushes o b f b
pushes_none {b = b} s =
    record { since = s; fixed = fixed_refl b; desk = refl; roles = λ w l. refl; still = λ w l e. refl; others = λ w l n. refl }

-- a step: hex x is cleared, which gives board c, the group enters it, and the march goes on
module _
    {o b c : Board}
    (small : o.map.hexes ≤ nowhere)
    (f a x : ℕ)
    (real : a ≡ nowhere → ⊥)
    (y : Pushes o b f c)
    (mine : OwnGroup c f a)
    (v : vacant (scene c) x ≡ true)
    (q : bears c f x ≡ true) where
  abbrev entered : Board
  entered = once_entered c a x

  step : Stepped o c f a x entered
  step = stepped y.since small f a x real mine v q

  -- unit w on the boards between
  module _ (w : ℕ) (l : w < b.units.count) where
    on : w < c.units.count
    on = omega (arith, y.fixed.count)

    later : w < entered.units.count
    later = omega (arith, on, step.fixed.count)

    kind_then : c.units.counter.kind w ≡ b.units.counter.kind w
    kind_then = ap (λ (k : ℕ → ℕ). k w) (kind_by y.fixed)

    kind_later : entered.units.counter.kind w ≡ b.units.counter.kind w
    kind_later = ap (λ (k : ℕ → ℕ). k w) (kind_by step.fixed) ∙ kind_then

  module _ {ps left : List ℕ} (s : Shoved b x ps c) (ec : once_cleared b x ps ≡ c) (el : (clears b x ps).left ≡ left) where
    same_owing : (w : ℕ) → w < b.units.count → owes_at b a w ≡ true → Same b.units c.units w
    same_owing w l e = record { hex = y.still w l (owes_role b w a e); marks = s.marks w l; role = y.roles w l }

    same_boxed : (w : ℕ) → w < b.units.count → b.units.state.hex w ≡ nowhere → Same b.units entered.units w
    same_boxed w l e =
        let i = s.boxed w l e in
        let k : Same b.units c.units w = record { hex = i ∙ sym e; marks = s.marks w l; role = y.roles w l } in
        same_trans k (step.kept w (boxed_not c a w real i))

    goes_on_lem : {route : List ℕ} {d : Board} → Marched entered x route left d → Marched b a (x ∷ route) ps d
    unfolding brought_to
    goes_on_lem {route} m =
        record {
          walkers =
              λ u l e k.
              m.walkers u (later u l)
              (went y.since small f a x real mine v q u (on u l) (pushes_owes y a u l ∙ e)
              (ne_eqb (c.units.counter.kind u) supply_kind (λ z. k (sym (kind_then u l) ∙ z))))
              (λ z. k (sym (kind_later u l) ∙ z));
          supplies =
              λ u l e k n.
              let z = goes_supply c a x u (kind_then u l ∙ k) (on u l) (pushes_owes y a u l ∙ e) in
              eliminated_same (same_eliminated (same_owing u l e) z) (m.boxed u (later u l) z.off);
          others =
              λ w l e.
              let i = pushes_owes y a w l ∙ e in
              rw (ec, el)
              (m.others w (later w l) (step.left w (on w l) i)
              ∙ ap (brought_to entered x route left) ((step.kept w i).hex ∙ s.hex w l));
          boxed =
              λ w l e.
              let i = same_boxed w l e in
              same_trans i (m.boxed w (later w l) (i.hex ∙ e));
        }

    marched_on :
        {route : List ℕ} → Marched entered x route left (changes entered (marches entered x route left))
        → Marched b a (x ∷ route) ps (changes b (marches b a (x ∷ route) ps))
    marched_on {route} m = rw (march_on b a x route ps, ec, el) (goes_on_lem m)

-- a vacant hex is as it was once it is cleared
once_vacant : (b : Board) (x : ℕ) → vacant (scene b) x ≡ true → (ps : List ℕ) → (once_cleared b x ps ≡ b) × ((clears b x ps).left ≡ ps)
unfolding changes
once_vacant b x v ps =
    let e = clears_vacant b x v ps in
    (ap (λ (r : Cleared). changes b r.done) e, ap (λ (r : Cleared). r.left) e)

-- a legal series
pub series_marched :
    {o : Board} {g : Land} {b : Board} {s : Stands} {i a : ℕ} {route pushes : List ℕ} (f : ℕ) → o.map.hexes ≤ nowhere → Since o b
    → (a ≡ nowhere → ⊥) → OwnGroup b f a → g.far a ≡ i → Series g s i a route pushes → stand b f a ≡ s
    → Marched b a route pushes (changes b (marches b a route pushes))
series_marched {b = b} {a = a} f small k real mine z stay e = halted b a real []
series_marched {o} {g} {b} {s} {i} {a} f small k real mine z (walk {x = x} {route = route} {pushes = ps} d t y n) e =
    let here : stand b f a x ≡ Free = ap (λ (q : Stands). q x) e ∙ y in
    let free = free_is b f a x here in
    let v = free_vacant b f a x (λ q. omega (arith, t.away, z, ap g.far q)) free in
    let c = stepped k small f a x real mine v free.bear in
    let u = once_vacant b x v ps in
    marched_on small f a x real (pushes_none k) mine v free.bear (shoved_vacant b x v ps) u.0 u.1
    (series_marched {b = changes b (group_to b a x)} f small c.since (real_hex k small f a x (bears_stands b f x free.bear)) c.own t.away n (c.stands ∙ e))
series_marched {o} {g} {b} {s} {i} {a} f small k real mine z (shove {x = x} {y = y} {route = route} {chain = zs} {pushes = ps} d t l h n) e =
    let here : stand b f a x ≡ Loose = ap (λ (q : Stands). q x) e ∙ l in
    let off : x ≡ a → ⊥ = λ q. omega (arith, t.away, z, ap g.far q) in
    let h' = subst (λ (p : Stands). Chain g.next p (a ∷ []) most x zs y) (sym e) h in
    let first = named_here a [] a refl in
    let q = chain_clears k small f a h' first off here ps in
    let u = q.shifted.pushes in
    let b' = once_cleared b x (zs ++ ps) in
    let free : stand b' f a x ≡ Free = ap (λ (p : Stands). p x) q.shifted.stands ∙ emptied (stand b f a) x y (chain_other h' here) in
    let bear = (free_is b' f a x free).bear in
    let own = pushes_own a u mine in
    let c = stepped u.since small f a x real own q.shifted.empty bear in
    let w = chain_shoved b (rw k.fixed.map small) f a h' first here ps in
    marched_on small f a x real u own q.shifted.empty bear w refl q.left_over
    (series_marched {b = changes b' (group_to b' a x)} f small c.since (real_hex u.since small f a x (bears_stands b' f x bear)) c.own t.away n
    (c.stands ∙ q.shifted.stands ∙ ap (λ (p : Stands). after p x y) e))
