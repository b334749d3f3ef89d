-- The group has no role any more, since it has retreated or is destroyed: who owes elsewhere still does.
-- Assumes nothing.
use Prim.Native.Nat.{ℕ, ◌≤◌, ◌<◌}
use mathlib.Core.Path.{◌≡◌, refl, sym, ap, ◌∙◌}
use mathlib.Core.Bool.{true, false}
use mathlib.Core.List.{List, [], ◌∷◌}
use native.Mathlib.Omega.{arith}
use Rattle.position.specs.Board.{Board, nowhere}
use Rattle.position.specs.Crowd.{owes_at}
use Rattle.position.specs.Change.{Change}
use Rattle.position.specs.Change.Change.{assigned, destroyed}
use Rattle.position.specs.Effect.{change, changes}
use Rattle.position.specs.Role as Role
use Rattle.position.proofs.Tallies.{not_both, same_or}
use Rattle.acceptance.proofs.Carries.{Fixed, fixed_change}
use Rattle.acceptance.proofs.Fates.{Same, assigned_else, assigned_none, destroyed_else, destroyed_here, same_trans}
use Rattle.acceptance.proofs.Since.{Since, since_destroyed, since_freed}
use Rattle.acceptance.proofs.Stills.{fixed_refl, fixed_trans}
use Rattle.ruling.specs.Secret.{Each}
use Rattle.field.specs.Listed.{named}
use Rattle.field.proofs.Lists.{named_nil}
use Rattle.field.proofs.Named.{named_past, sieve_each, sieve_names}
use Rattle.shoves.specs.Group.{group, gather}
use Rattle.shoves.specs.Shoves.{frees}
use Rattle.shoves.proofs.KeepMove.{destroyed_desk, freed_desk}

-- board c, once the group of hex a is gone from board b
pub record Left (o b : Board) (a : ℕ) (c : Board) : Type 0 where
  pub since : Since o c
  pub fixed : Fixed b c
  pub desk : c.desk ≡ b.desk
  pub gone : (w : ℕ) → w < b.units.count → owes_at b a w ≡ true → c.units.state.role w ≡ Role.none
  pub roles : (w : ℕ) → w < b.units.count → owes_at b a w ≡ false → c.units.state.role w ≡ b.units.state.role w
  pub still : (w : ℕ) → w < b.units.count → owes_at b a w ≡ false → b.units.state.role w ≡ Role.owes → c.units.state.hex w ≡ b.units.state.hex w

-- a change of one unit after which it has no role
record Ending (g : ℕ → Change) : Type 0 where
  pub since : {o c : Board} → o.map.hexes ≤ nowhere → Since o c → (u : ℕ) → Since o (change c (g u))
  pub desk : (c : Board) (u : ℕ) → (change c (g u)).desk ≡ c.desk
  pub else : (c : Board) (u w : ℕ) → (w ≡ u → ⊥) → Same c.units (change c (g u)).units w
  pub none : (c : Board) (u : ℕ) → u < c.units.count → (change c (g u)).units.state.role u ≡ Role.none

freeing : Ending (λ u. assigned u Role.none)
freeing =
    record {
      since = λ m s u. since_freed m s u;
      desk = freed_desk;
      else = λ c u w n. assigned_else c u 0 w n;
      none = λ c u l. (assigned_none c u l).role;
    }

falling : Ending destroyed
falling =
    record {
      since = λ m s u. since_destroyed m s u;
      desk = destroyed_desk;
      else = λ c u w n. destroyed_else c u w n;
      none = λ c u l. (destroyed_here c u l).role;
    }

-- of those that owed in hex a only the units us have still to go
record Leaving (o b : Board) (a : ℕ) (us : List ℕ) (c : Board) : Type 0 where
  pub since : Since o c
  pub fixed : Fixed b c
  pub desk : c.desk ≡ b.desk
  pub gone : (w : ℕ) → w < b.units.count → owes_at b a w ≡ true → named us w ≡ false → c.units.state.role w ≡ Role.none
  pub kept : (w : ℕ) → owes_at b a w ≡ false → Same b.units c.units w

module _ {o b : Board} (most : o.map.hexes ≤ nowhere) (a : ℕ) where
  module _ (g : ℕ → Change) (y : Ending g) where
    leaving_one :
        {us : List ℕ} {c : Board} (u : ℕ) → u < b.units.count → owes_at b a u ≡ true → Leaving o b a (u ∷ us) c
        → Leaving o b a us (change c (g u))
    leaving_one {us} {c} u m e x =
        record {
          since = y.since most x.since u;
          fixed = fixed_trans x.fixed (fixed_change c (g u));
          desk = y.desk c u ∙ x.desk;
          gone =
              λ w l q f.
              same_or w u
              (λ z. ap (change c (g u)).units.state.role z ∙ y.none c u (omega (arith, x.fixed.count)))
              (λ z. (y.else c u w z).role ∙ x.gone w l q (named_past u us w (λ r. z (sym r)) ∙ f));
          kept = λ w q. same_trans (x.kept w q) (y.else c u w (λ z. not_both (owes_at b a u) e (ap (owes_at b a) (sym z) ∙ q)));
        }

    leaving_all :
        (us : List ℕ) {c : Board} → Each (λ u. (u < b.units.count) × (owes_at b a u ≡ true)) us → Leaving o b a us c
        → Leaving o b a [] (changes c (gather (λ u. g u ∷ []) us))
    unfolding gather changes
    leaving_all [] m x = x
    leaving_all (u ∷ us) m x = leaving_all us m.1 (leaving_one u m.0.0 m.0.1 x)

    all_left : Since o b → Left o b a (changes b (gather (λ u. g u ∷ []) (group b a)))
    unfolding group
    all_left s =
        let t = owes_at b a in
        let x =
        leaving_all (group b a) (sieve_each t b.units.count)
        (record {
          since = s;
          fixed = fixed_refl b;
          desk = refl;
          gone = λ w l e f. not_both (named (group b a) w) (sieve_names t b.units.count w l e) f;
          kept = λ w e. record { hex = refl; marks = refl; role = refl };
        })
        in
        record {
          since = x.since;
          fixed = x.fixed;
          desk = x.desk;
          gone = λ w l e. x.gone w l e (named_nil w);
          roles = λ w l e. (x.kept w e).role;
          still = λ w l e _. (x.kept w e).hex;
        }

  -- it is where it has come to, or destroyed
  pub all_freed : Since o b → Left o b a (changes b (gather frees (group b a)))
  unfolding frees
  all_freed s = all_left (λ u. assigned u Role.none) freeing s

  pub all_doomed : Since o b → Left o b a (changes b (gather (λ u. destroyed u ∷ []) (group b a)))
  all_doomed s = all_left destroyed falling s
