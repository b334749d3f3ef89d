-- Laws of the list in which the hexes of units that owe are noted.
-- Assumes nothing.
use Prim.Native.Nat.{ℕ, ◌+◌, ◌≤◌, ◌<◌}
use mathlib.Core.Path.{◌≡◌, refl, sym, ap, ◌∙◌}
use mathlib.Core.Bool.{Bool, true, false, ◌||◌, and-false}
use mathlib.Core.List.{List}
use native.Mathlib.Omega.{arith}
use lib.ListN.{length, get_or, set, take, length-set}
use Rattle.std.specs.List.{IsAnyAnswer}
use Rattle.position.proofs.Listed.{asked}
use lib.Seq.{get_or-set_same, get_or-set_other}
use lib.Dec.{eqb}
use borrow.Author.Tests.{eq-eqb, ne_eqb, eqb-true}
use Rattle.position.specs.Tally.{tally, any}
use Rattle.position.specs.Layout.{route_count}
use Rattle.position.specs.Board.{Board}
use Rattle.position.specs.Crowd.{owes_at, owing_hexes}
use Rattle.position.specs.Role as Role
use Rattle.position.proofs.Tallies.{not_both, either, tally_zero, tally_hit, tally_miss, tally_grows, any_zero, any_miss, any_step, any_same}
use Rattle.acceptance.specs.Holder.{UpToSeven}
use Rattle.acceptance.specs.Noted.{among, NoteOf, heads, Noted}

module _ (s : List ℕ) (h : ℕ) where
  among_none : among s 0 h ≡ false
  unfolding among
  among_none = any_zero _

  -- the library's answer for the first k
  pub among_first : {k : ℕ} → k ≤ length s → (r : Bool) → IsAnyAnswer (λ y b. eqb y h ≡ b) (take k s) r → r ≡ among s k h
  unfolding among
  among_first l r a = asked (λ y. eqb y h) s 0 l r a

  -- one hex more at the end of those noted
  among_set : (k : ℕ) → k < length s → (x : ℕ) → among (set s k h) (k + 1) x ≡ (eqb h x || among s k x)
  unfolding among
  among_set k l x =
      any_step _ k
      ∙ ap (λ (y : ℕ). eqb y x || any (λ j. eqb (get_or (set s k h) j 0) x) k) (get_or-set_same s k h 0 l)
      ∙ ap (λ (y : Bool). eqb h x || y)
      (any_same _ _ k (λ j m. ap (λ (y : ℕ). eqb y x) (get_or-set_other s k j h 0 (λ e. omega arith))))

  -- a hex that is noted already is none more
  among_known : (k : ℕ) → among s k h ≡ true → (x : ℕ) → among s k x ≡ (eqb h x || among s k x)
  among_known k e x = either (eqb h x) (λ p. ap (among s k) (sym (eqb-true h x p)) ∙ e ∙ sym (simp p)) (λ p. sym (simp p))

  module _ (k : ℕ) where
    pub note_known : among s k h ≡ true → NoteOf s s k h k
    note_known e = record { long = refl; known = λ p. refl; fresh = λ p. not_both _ e p; here = λ l. among_known k e }

    pub note_fresh : among s k h ≡ false → k < length s → NoteOf s (set s k h) k h (k + 1)
    note_fresh e l = record { long = length-set s k h; known = λ p. not_both _ p e; fresh = λ p. refl; here = λ m. among_set k l }

    pub note_full : among s k h ≡ false → k ≡ route_count → NoteOf s s k h (route_count + 1)
    note_full e l = record { long = refl; known = λ p. not_both _ p e; fresh = λ p. omega arith; here = λ m. absurd (omega arith) }

module _ (b : Board) (u : ℕ) where
  owes_hex : (h : ℕ) → b.units.state.role u ≡ Role.owes → b.units.state.hex u ≡ h → (x : ℕ) → owes_at b x u ≡ eqb h x
  unfolding owes_at
  owes_hex h e i x = simp (eq-eqb (b.units.state.role u) Role.owes e, i)

  owes_no : (b.units.state.role u ≡ Role.owes → ⊥) → (x : ℕ) → owes_at b x u ≡ false
  unfolding owes_at
  owes_no e x = simp (ne_eqb (b.units.state.role u) Role.owes e)

  heads_yes : b.units.state.role u ≡ Role.owes → any (owes_at b (b.units.state.hex u)) u ≡ false → heads b u ≡ true
  unfolding heads
  heads_yes e f = simp (eq-eqb (b.units.state.role u) Role.owes e, f)

  heads_late : any (owes_at b (b.units.state.hex u)) u ≡ true → heads b u ≡ false
  unfolding heads
  heads_late e = simp (e, and-false)

  heads_no : (b.units.state.role u ≡ Role.owes → ⊥) → heads b u ≡ false
  unfolding heads
  heads_no e = simp (ne_eqb (b.units.state.role u) Role.owes e)

pub owing_hexes_is : (b : Board) → owing_hexes b ≡ tally (heads b) b.units.count
unfolding owing_hexes heads
owing_hexes_is b = refl

module _ {b : Board} where
  pub noted_none : (s : List ℕ) → length s ≡ route_count → Noted b 0 0 s
  noted_none s l = record { long = l; many = sym (tally_zero _); here = λ h. among_none s h ∙ sym (any_zero _) }

  module _ {u k : ℕ} {s : List ℕ} (o : Noted b u k s) where
    -- past a unit that does not owe
    pub noted_past : (b.units.state.role u ≡ Role.owes → ⊥) → Noted b (u + 1) k s
    noted_past n =
        record {
          long = o.long;
          many = o.many ∙ sym (tally_miss _ u (heads_no b u n));
          here = λ h. o.here h ∙ sym (any_miss _ u (owes_no b u n h));
        }

    module _ {t : List ℕ} {h r : ℕ} (e : b.units.state.role u ≡ Role.owes) (i : b.units.state.hex u ≡ h) (n : NoteOf s t k h r) where
      -- past one that does, whose hex is noted
      many_more : r ≡ tally (heads b) (u + 1)
      many_more =
          let q = ap (λ (y : ℕ). any (owes_at b y) u) i ∙ sym (o.here h) in
          either (among s k h)
          (λ p. n.known p ∙ o.many ∙ sym (tally_miss _ u (heads_late b u (q ∙ p))))
          (λ p. omega (arith, n.fresh p, tally_hit (heads b) u (heads_yes b u e (q ∙ p))))

      pub noted_more : r ≤ route_count → Noted b (u + 1) r t
      noted_more l =
          record {
            long = n.long ∙ o.long;
            many = many_more;
            here = λ x. n.here l x ∙ rw (o.here x, ← owes_hex b u h e i x) (sym (any_step _ u));
          }

      -- a seventh hex
      pub noted_over : route_count < r → u < b.units.count → UpToSeven (owing_hexes b) 7
      noted_over q l =
          let g = tally_grows (heads b) (u + 1) b.units.count (omega arith) in
          record {
            small = omega arith;
            exact = λ m. absurd (omega arith);
            over = λ m. omega (arith, many_more, owing_hexes_is b);
          }

    pub noted_all : u ≡ b.units.count → k ≤ route_count → UpToSeven (owing_hexes b) k
    noted_all e l =
        record {
          small = omega arith;
          exact = λ m. o.many ∙ ap (tally (heads b)) e ∙ sym (owing_hexes_is b);
          over = λ m. absurd (omega arith);
        }
