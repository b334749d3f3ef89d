-- How many hexes owe, and how many units have a role.
-- Assumes nothing.
use Prim.Native.Nat.{ℕ, zero, suc, ◌+◌, ◌≤◌, ◌<◌}
use mathlib.Core.Path.{◌≡◌, refl, sym, ap, ◌∙◌}
use mathlib.Core.Bool.{true, false, not}
use native.Mathlib.Omega.{arith}
use native.Mathlib.Decide.{dec_lt}
use lib.Dec.{eqb}
use borrow.Author.Tests.{eq-eqb, eqb-true}
use Rattle.position.specs.Tally.{tally, any}
use Rattle.position.specs.Board.{Board}
use Rattle.position.specs.Crowd.{holders, owes_at, owing_hexes}
use Rattle.position.specs.Role as Role
use Rattle.position.proofs.Tallies.{
  not_both,
  both_yes,
  same_or,
  either,
  tally_pos,
  any_some,
  any_true,
  any_never,
  tally_le,
  equals,
  equals_yes,
  equals_no,
  but,
  but_other,
  tally_but_hit,
}
use Rattle.position.proofs.Crowds.{holders_is}
use Rattle.acceptance.specs.Noted.{heads}
use Rattle.acceptance.proofs.Notes.{owing_hexes_is}
use Rattle.acceptance.proofs.Counts.{tally_nought, tally_injects}

module _ (b : Board) where
  pub owes : (u h : ℕ) → b.units.state.role u ≡ Role.owes → b.units.state.hex u ≡ h → owes_at b h u ≡ true
  unfolding owes_at
  owes u h e f = simp (eq-eqb (b.units.state.role u) Role.owes e, eq-eqb (b.units.state.hex u) h f)

  pub owes_role : (u h : ℕ) → owes_at b h u ≡ true → b.units.state.role u ≡ Role.owes
  unfolding owes_at
  owes_role u h e = eqb-true (b.units.state.role u) Role.owes (both_yes (eqb (b.units.state.role u) Role.owes) (eqb (b.units.state.hex u) h) e).0

  pub owes_hex : (u h : ℕ) → owes_at b h u ≡ true → b.units.state.hex u ≡ h
  unfolding owes_at
  owes_hex u h e = eqb-true (b.units.state.hex u) h (both_yes (eqb (b.units.state.role u) Role.owes) (eqb (b.units.state.hex u) h) e).1

  first_role : (u : ℕ) → heads b u ≡ true → b.units.state.role u ≡ Role.owes
  unfolding heads
  first_role u e =
      eqb-true (b.units.state.role u) Role.owes (both_yes (eqb (b.units.state.role u) Role.owes) (not (any (owes_at b (b.units.state.hex u)) u)) e).0

  first_not : (u w : ℕ) → w < u → b.units.state.role w ≡ Role.owes → b.units.state.hex w ≡ b.units.state.hex u → heads b u ≡ true → ⊥
  unfolding heads
  first_not u w l r h e =
      let t = any (owes_at b (b.units.state.hex u)) u in
      let a = any_true (owes_at b (b.units.state.hex u)) u w l (owes w (b.units.state.hex u) r h) in
      not_both (not t) (both_yes (eqb (b.units.state.role u) Role.owes) (not t) e).1 (ap not a)

  -- of the units that owe in one hex, one is the first
  first_one : (u w : ℕ) → heads b u ≡ true → heads b w ≡ true → b.units.state.hex u ≡ b.units.state.hex w → u ≡ w
  first_one u w e f h = same_or u w (λ z. z) (λ d. at d (dec_lt u w))
    where
      at : (u ≡ w → ⊥) → Dec (u < w) → u ≡ w
      at d (yes l) = absurd (first_not w u l (first_role u e) h f)
      at d (no n) = absurd (first_not u w (omega arith) (first_role w f) (sym h) e)

  -- hexes that g numbers below k are at most k
  pub owing_most :
      (g : ℕ → ℕ) (k : ℕ) → ((u : ℕ) → u < b.units.count → b.units.state.role u ≡ Role.owes → g (b.units.state.hex u) < k)
      → ((u w : ℕ) → u < b.units.count → w < b.units.count → b.units.state.role u ≡ Role.owes → b.units.state.role w ≡ Role.owes
      → g (b.units.state.hex u) ≡ g (b.units.state.hex w) → b.units.state.hex u ≡ b.units.state.hex w)
      → owing_hexes b ≤ k
  owing_most g k small one =
      rw (owing_hexes_is b)
      (tally_injects (λ u. g (b.units.state.hex u)) b.units.count k (heads b) (λ u l e. small u l (first_role u e))
      (λ u w l m e f q. first_one u w e f (one u w l m (first_role u e) (first_role w f) q)))

  first_is : (u : ℕ) → b.units.state.role u ≡ Role.owes → any (owes_at b (b.units.state.hex u)) u ≡ false → heads b u ≡ true
  unfolding heads
  first_is u e a = simp (eq-eqb (b.units.state.role u) Role.owes e, a)

  -- the first unit that owes in the hex of one that does
  record First (u : ℕ) : Type 0 where
    at : ℕ
    below : at < b.units.count
    first : heads b at ≡ true
    here : b.units.state.hex at ≡ b.units.state.hex u

  first_in : (n u : ℕ) → u < n → n ≤ b.units.count → b.units.state.role u ≡ Role.owes → First u
  first_in zero u l m e = absurd (omega arith)
  first_in (suc n) u l m e =
      let t = owes_at b (b.units.state.hex u) in
      either (any t u)
      (λ a.
      let s = any_some t u a in
      let q = owes_hex s.at (b.units.state.hex u) s.passes in
      let r = first_in n s.at (omega (arith, s.below)) (omega arith) (owes_role s.at (b.units.state.hex u) s.passes) in
      record { at = r.at; below = r.below; first = r.first; here = r.here ∙ q })
      (λ a. record { at = u; below = omega arith; first = first_is u e a; here = refl })

  -- where a unit owes, a hex does
  pub owing_some : (u : ℕ) → u < b.units.count → b.units.state.role u ≡ Role.owes → 1 ≤ owing_hexes b
  owing_some u l e =
      let s = first_in b.units.count u l (omega arith) e in
      rw (owing_hexes_is b) (tally_pos (heads b) b.units.count s.at s.below s.first)

  -- a role that nobody has, and one that somebody has
  pub holders_nought : (r : ℕ) → ((w : ℕ) → w < b.units.count → b.units.state.role w ≡ r → ⊥) → holders b r ≡ 0
  holders_nought r f =
      holders_is b r
      ∙ tally_nought (equals b.units.state.role r) b.units.count (λ w l. equals_no b.units.state.role r w (f w l))

  pub holders_pos : (r w : ℕ) → w < b.units.count → b.units.state.role w ≡ r → 1 ≤ holders b r
  holders_pos r w l e =
      rw (holders_is b r) (tally_pos (equals b.units.state.role r) b.units.count w l (equals_yes b.units.state.role r w e))

  pub holders_none : (r w : ℕ) → holders b r ≡ 0 → w < b.units.count → b.units.state.role w ≡ r → ⊥
  holders_none r w z l e = omega (arith, holders_pos r w l e)

-- Where those that owed in hex h owe no more and the others owe where they did, a hex less owes.
module _
    (b c : Board)
    (h : ℕ)
    (count : c.units.count ≡ b.units.count)
    (stay : (w : ℕ) → w < b.units.count → b.units.state.role w ≡ Role.owes → (b.units.state.hex w ≡ h → ⊥)
    → (c.units.state.role w ≡ Role.owes) × (c.units.state.hex w ≡ b.units.state.hex w))
    (owed : (w : ℕ) → w < b.units.count → c.units.state.role w ≡ Role.owes
    → (b.units.state.role w ≡ Role.owes) × (c.units.state.hex w ≡ b.units.state.hex w) × (b.units.state.hex w ≡ h → ⊥)) where
  -- the first that owe elsewhere are the same
  first_still : (w : ℕ) → w < b.units.count → heads c w ≡ true → heads b w ≡ true
  first_still w l e =
      let x = owed w l (first_role c w e) in
      let t = owes_at b (b.units.state.hex w) in
      first_is b w x.0
      (any_never t w
      (λ v m.
      either (t v)
      (λ q.
      let r = owes_role b v (b.units.state.hex w) q in
      let at = owes_hex b v (b.units.state.hex w) q in
      let y = stay v (omega arith) r (λ z. x.2 (sym at ∙ z)) in
      absurd (first_not c w v m y.0 (y.1 ∙ at ∙ sym x.1) e))
      (λ q. q)))

  pub owing_less : (u : ℕ) → u < b.units.count → b.units.state.role u ≡ Role.owes → b.units.state.hex u ≡ h → owing_hexes c + 1 ≤ owing_hexes b
  owing_less u l r e =
      let s = first_in b b.units.count u l (omega arith) r in
      let v = s.at in
      let k = tally_but_hit (heads b) v b.units.count s.below s.first in
      let m =
      tally_le (heads c) (but (heads b) v) b.units.count
      (λ w n q.
      but_other (heads b) v w (λ z. (owed w n (first_role c w q)).2 (ap b.units.state.hex z ∙ s.here ∙ e)) ∙ first_still w n q)
      in
      omega (arith, owing_hexes_is b, owing_hexes_is c, ap (tally (heads c)) count)
