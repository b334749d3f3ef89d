-- What each byte that a call may write leaves true of two positions, every change leaves true of them.
-- Assumes nothing.
use Prim.Native.Nat.{ℕ, zero, suc, ◌+◌, ◌/◌, ◌%◌, ◌<◌}
use mathlib.Core.Path.{◌≡◌, refl, sym, ap, ◌∙◌}
use mathlib.Core.List.{List, [], ◌∷◌}
use mathlib.Core.Bool.{Bool, true, false, cond}
use native.Mathlib.Omega.{arith}
use lib.Dec.{ltb}
use borrow.Author.Tests.{ltb-true}
use Rattle.position.specs.Bits.{has, tried, faced}
use Rattle.position.specs.Layout.{unit_size, hex_field, marks_field, role_field, route_count, route_hexes, players_field, hexes, marks, set_unit, set_desk, set_hex, set_marks, set_role, set_clock, set_stage, set_route_hex, set_route, clear_routes}
use Rattle.position.specs.Board.{nowhere}
use Rattle.position.specs.Change.{Change, make, makes}
use Rattle.position.specs.Change.Change.{placed, destroyed, marked, assigned, timed, staged, routed, unrouted}
use Rattle.position.proofs.Writes.{unit_unit}
use Rattle.position.proofs.Effects.{faced_face}

-- R is kept by the bytes that calls write to both: a unit's but its marks, marks that show the face that it shows, and the desk's
-- before the players
pub record Twin (R : List ℕ → List ℕ → Type 0) : Type 0 where
  pub area : {p q : List ℕ} → R p q → hexes q ≡ hexes p
  pub shows : {p q : List ℕ} → R p q → (u : ℕ) → marks q u ≡ marks p u
  pub field : {p q : List ℕ} → R p q → (u f x : ℕ) → f < unit_size → (f ≡ marks_field → ⊥) → R (set_unit p u f x) (set_unit q u f x)
  pub face : {p q : List ℕ} → R p q → (u m : ℕ) → has tried m ≡ has tried (marks p u) → R (set_marks p u m) (set_marks q u m)
  pub desk : {p q : List ℕ} → R p q → (f x : ℕ) → f < players_field → R (set_desk p f x) (set_desk q f x)

hex_marks : (p : List ℕ) (u h w : ℕ) → marks (set_hex p u h) w ≡ marks p w
unfolding set_hex
hex_marks p u h w =
    unit_unit (set_unit p u hex_field (h % 256)) u (hex_field + 1) (h / 256) (omega arith) w marks_field (omega arith) (λ e g. omega arith)
    ∙ unit_unit p u hex_field (h % 256) (omega arith) w marks_field (omega arith) (λ e g. omega arith)

module _ {R : List ℕ → List ℕ → Type 0} (t : Twin R) where
  twin_role : {p q : List ℕ} → R p q → (u r : ℕ) → R (set_role p u r) (set_role q u r)
  unfolding set_role
  twin_role s u r = t.field s u role_field r (omega arith) (omega arith)

  twin_hex : {p q : List ℕ} → R p q → (u h : ℕ) → R (set_hex p u h) (set_hex q u h)
  unfolding set_hex
  twin_hex s u h = t.field (t.field s u hex_field (h % 256) (omega arith) (omega arith)) u (hex_field + 1) (h / 256) (omega arith) (omega arith)

  twin_route_hex : {p q : List ℕ} → R p q → (r j h : ℕ) → r < route_count → j < route_hexes → R (set_route_hex p r j h) (set_route_hex q r j h)
  unfolding set_route_hex
  twin_route_hex s r j h l m = t.desk (t.desk s _ _ (omega arith)) _ _ (omega arith)

  twin_route : {p q : List ℕ} → R p q → (r a b c d : ℕ) → R (set_route p r a b c d) (set_route q r a b c d)
  unfolding set_route
  twin_route {p} {q} s r a b c d = at (ltb r route_count) (λ e. ltb-true r route_count e)
    where
      at : (y : Bool) → (y ≡ true → r < route_count) → R (cond y (set_route_hex (set_route_hex (set_route_hex (set_route_hex p r 0 a) r 1 b) r 2 c) r 3 d) p) (cond y (set_route_hex (set_route_hex (set_route_hex (set_route_hex q r 0 a) r 1 b) r 2 c) r 3 d) q)
      at true l =
          twin_route_hex
          (twin_route_hex (twin_route_hex (twin_route_hex s r 0 a (l refl) (omega arith)) r 1 b (l refl) (omega arith)) r 2 c (l refl) (omega arith))
          r
          3
          d
          (l refl)
          (omega arith)
      at false l = s

  twin_cleared : {p q : List ℕ} → R p q → (n : ℕ) → R (clear_routes p n) (clear_routes q n)
  unfolding clear_routes
  twin_cleared s zero = s
  twin_cleared s (suc n) = twin_route (twin_cleared s n) n nowhere nowhere nowhere nowhere

  pub twin_make : {p q : List ℕ} → R p q → (x : Change) → R (make p x) (make q x)
  unfolding make
  twin_make {p} {q} s (placed u h) = rw (t.area s) (at (ltb h (hexes p)))
    where
      at : (y : Bool) → R (cond y (set_hex p u h) p) (cond y (set_hex q u h) q)
      at true = twin_hex s u h
      at false = s
  twin_make {p} s (destroyed u) =
      rw (t.shows s u)
      (twin_role
      (t.face (twin_hex s u nowhere) u (faced (marks p u) 0) (faced_face (marks p u) 0 ∙ ap (has tried) (sym (hex_marks p u nowhere u))))
      u
      0)
  twin_make {p} s (marked u m) = rw (t.shows s u) (t.face s u (faced (marks p u) m) (faced_face (marks p u) m))
  twin_make s (assigned u r) = twin_role s u r
  twin_make s (timed x f ph) =
      unfold set_clock in t.desk (t.desk (t.desk s _ _ (omega arith)) _ _ (omega arith)) _ _ (omega arith)
  twin_make s (staged st n x) =
      unfold set_stage in
      t.desk (t.desk (t.desk (t.desk s _ _ (omega arith)) _ _ (omega arith)) _ _ (omega arith)) _ _ (omega arith)
  twin_make s (routed r w x y z) = twin_route s r w x y z
  twin_make s unrouted = twin_cleared s route_count

  pub twin_makes : {p q : List ℕ} → R p q → (xs : List Change) → R (makes p xs) (makes q xs)
  unfolding makes
  twin_makes s [] = s
  twin_makes {p = p} {q = q} s (x ∷ xs) = twin_makes {p = make p x} {q = make q x} (twin_make s x) xs
