-- Laws of looking round: whether a step in one direction enters a hex, and the first direction in which one does.
-- Assumes nothing.
use Rattle.std.specs.Prelude.{Option, Some, None}
use Prim.Native.Nat.{ℕ, suc, ◌≤◌, ◌<◌}
use mathlib.Core.Path.{◌≡◌, sym, ◌∙◌, subst}
use mathlib.Core.List.{List}
use native.Mathlib.Omega.{arith}
use Rattle.grid.specs.declared.Spot.{Spot}
use Rattle.grid.specs.Spot.{NearOf}
use Rattle.position.specs.declared.View.{View}
use Rattle.position.specs.Layout.{ViewOf}
use Rattle.position.specs.Board.{Map, ground}
use Rattle.position.specs.Ground as Ground
use Rattle.position.specs.Ground.{blocked_side}
use Rattle.position.proofs.Sides.{off_at, next_over, next_blocked, next_beside, beside_view, area_view}
use Rattle.walk.specs.Trail.{Opens, Shut, First}
use Rattle.position.proofs.Tallies.{same_or}
use Rattle.walk.proofs.Steps.{at_at}

-- in direction d of hex a: off the map, over a blocked side, at a hex that is marked otherwise, and else
module _ (m : Map) (f : ℕ → ℕ) (x a d : ℕ) where
  pub shut_off : Ground.beside m a d ≡ None → Shut (Ground.next m) f x a d
  shut_off e n q = off_at e (next_over m a d n q)

  pub shut_blocked : Ground.side m a d ≡ blocked_side → Shut (Ground.next m) f x a d
  shut_blocked e n q = off_at (next_blocked m a d e) q

  module _ (b : ℕ) (e : Ground.beside m a d ≡ Some b) where
    pub shut_other : (f b ≡ x → ⊥) → Shut (Ground.next m) f x a d
    shut_other s n q = subst (λ (k : ℕ). f k ≡ x → ⊥) (at_at e (next_over m a d n q)) s

    pub opens : (Ground.side m a d ≡ blocked_side → ⊥) → f b ≡ x → Opens (Ground.next m) f x a d
    opens u n = record { hex = b; leads = record { there = next_beside m a d u ∙ e; marked = n } }

-- the first direction, from the last to the first
module _ {next : ℕ → ℕ → Option ℕ} {f : ℕ → ℕ} {m a c : ℕ} where
  pub first_none : First next f m a c 6 6
  first_none = record { most = omega arith; past = λ e p q r. absurd (omega arith); found = λ p. absurd (omega arith) }

  pub first_here : (k : ℕ) → k < 6 → Opens next f m a k → First next f m a c k k
  first_here k l o = record { most = omega arith; past = λ e p q r. absurd (omega arith); found = λ p. o }

  pub first_on : (k : ℕ) {r : ℕ} → (c ≤ k → Shut next f m a k) → First next f m a c (suc k) r → First next f m a c k r
  first_on k s o =
      record {
        most = o.most;
        past = λ e p q l. same_or e k
            (λ z. subst (Shut next f m a) (sym z) (s (omega arith)))
            (λ n. o.past e p (omega arith) l);
        found = o.found;
      }

-- what lies near, on the ground
module _ {p : List ℕ} {v : View} (o : ViewOf p v) (a d : ℕ) {b : Option Spot} (n : NearOf v.width v.height a d b) where
  pub near_beside : {t : Spot} → b ≡ Some t → Ground.beside (ground p) a d ≡ Some t.hex
  near_beside {t} e = let q : NearOf v.width v.height a d (Some t) = subst (NearOf v.width v.height a d) e n in sym (beside_view o a d) ∙ q.0

  pub near_none : b ≡ None → Ground.beside (ground p) a d ≡ None
  near_none e = let q : NearOf v.width v.height a d None = subst (NearOf v.width v.height a d) e n in sym (beside_view o a d) ∙ q

  pub near_inside : {t : Spot} → b ≡ Some t → t.hex < v.hexes
  near_inside {t} e =
      let q : NearOf v.width v.height a d (Some t) = subst (NearOf v.width v.height a d) e n in
      omega (arith, q.1.on.below, area_view o)
