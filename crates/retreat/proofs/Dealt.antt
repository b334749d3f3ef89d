-- What is done to one unit after another, told of one of them: it is as it was if it is not named, and dealt with if it is.
-- Assumes nothing.
use Prim.Native.Nat.{ℕ, ◌<◌}
use mathlib.Core.Path.{◌≡◌, refl, sym, ap, subst, ◌∙◌}
use mathlib.Core.Bool.{Bool, true, false}
use mathlib.Core.List.{List, [], ◌∷◌}
use native.Mathlib.Omega.{arith}
use Rattle.position.specs.Bits.{faced}
use Rattle.position.specs.Board.{Board, Units, nowhere}
use Rattle.position.specs.Change.{Change}
use Rattle.position.specs.Change.Change.{destroyed}
use Rattle.position.specs.Effect.{change, changes}
use Rattle.position.specs.Role as Role
use Rattle.position.proofs.Effects.{upd_there}
use Rattle.position.proofs.Tallies.{either, not_both, same_or}
use Rattle.acceptance.proofs.Carries.{Fixed, changes_then}
use Rattle.acceptance.proofs.Fates.{Same, same_trans}
use Rattle.acceptance.proofs.Stills.{fixed_changes, fixed_trans}
use Rattle.field.specs.Listed.{named, sieve}
use Rattle.field.proofs.Lists.{named_nil}
use Rattle.field.proofs.Named.{named_each, named_past, sieve_each, unnamed_parts}
use Rattle.shoves.specs.Group.{gather}
use Rattle.shoves.proofs.Sweeps.{Own}
use Rattle.retreat.specs.Units.{Arrived, Eliminated}

pub same_refl : (s : Units) (w : ℕ) → Same s s w
same_refl s w = record { hex = refl; marks = refl; role = refl }

-- who does not pass a test is not among those who do
pub sieve_not : (t : ℕ → Bool) (n w : ℕ) → t w ≡ false → named (sieve t n) w ≡ false
sieve_not t n w e =
    either (named (sieve t n) w)
    (λ i. not_both (t w) (named_each (λ u. (u < n) × (t u ≡ true)) (sieve t n) (sieve_each t n) w i).1 e)
    (λ i. i)

-- what became of unit w from one board to another: it may have been as it was before or after, or the same became of it again
pub record Lasts (w : ℕ) (R : Board → Board → Type 0) : Type 0 where
  pub before : {b c d : Board} → Same b.units c.units w → R c d → R b d
  pub after : {b c d : Board} → R b c → Same c.units d.units w → R b d
  pub again : {b c d : Board} → R b c → R c d → R b d

module _ (g : ℕ → List Change) (y : Own g) (w : ℕ) where
  pub missed : (us : List ℕ) (b : Board) → named us w ≡ false → Same b.units (changes b (gather g us)).units w
  unfolding gather changes
  missed [] b e = same_refl b.units w
  missed (u ∷ us) b e =
      let n = unnamed_parts u us w e in
      rw (changes_then (g u) (gather g us) b)
      (same_trans (y.off b u w (λ z. n.0 (sym z))) (missed us (changes b (g u)) n.1))

  pub dealt :
      {R : Board → Board → Type 0} {o : Board} → Lasts w R → ((c : Board) → Fixed o c → R c (changes c (g w))) → (us : List ℕ) (b : Board)
      → Fixed o b → named us w ≡ true → R b (changes b (gather g us))
  unfolding gather
  dealt l one [] b f e = not_both (named [] w) e (named_nil w)
  dealt {R} l one (u ∷ us) b f e =
      let c = changes b (g u) in
      let k = fixed_trans f (fixed_changes (g u) b) in
      rw (changes_then (g u) (gather g us) b)
      (same_or u w
      (λ q.
      let here : R b c = subst (λ (v : ℕ). R b (changes b (g v))) (sym q) (one b f) in
      either (named us w) (λ i. l.again here (dealt l one us c k i)) (λ i. l.after here (missed us c i)))
      (λ n. l.before (y.off b u w (λ z. n (sym z))) (dealt l one us c k (sym (named_past u us w n) ∙ e))))

-- a unit that is eliminated, and one that arrives
faced_twice : (m : ℕ) → faced (faced m 0) 0 ≡ faced m 0
unfolding faced
faced_twice m = omega arith

module _ {b c d : Board} {w : ℕ} where
  pub same_eliminated : Same b.units c.units w → Eliminated c d w → Eliminated b d w
  same_eliminated s x = record { off = x.off; role = x.role; marks = x.marks ∙ ap (λ (m : ℕ). faced m 0) s.marks }

  pub eliminated_same : Eliminated b c w → Same c.units d.units w → Eliminated b d w
  eliminated_same x s = record { off = s.hex ∙ x.off; role = s.role ∙ x.role; marks = s.marks ∙ x.marks }

  eliminated_twice : Eliminated b c w → Eliminated c d w → Eliminated b d w
  eliminated_twice x z =
      record {
        off = z.off;
        role = z.role;
        marks = z.marks ∙ ap (λ (m : ℕ). faced m 0) x.marks ∙ faced_twice (b.units.state.marks w);
      }

pub arrived_same : {c d : Board} {w x : ℕ} → Arrived c w x → Same c.units d.units w → Arrived d w x
arrived_same x s = record { there = s.hex ∙ x.there; role = s.role ∙ x.role }

pub lasts_eliminated : (w : ℕ) → Lasts w (λ b c. Eliminated b c w)
lasts_eliminated w = record { before = same_eliminated; after = eliminated_same; again = eliminated_twice }

pub lasts_arrived : (w x : ℕ) → Lasts w (λ b c. Arrived c w x)
lasts_arrived w x = record { before = λ s y. y; after = arrived_same; again = λ y z. z }

pub destroyed_eliminated : (b : Board) (u : ℕ) → u < b.units.count → Eliminated b (change b (destroyed u)) u
unfolding change
destroyed_eliminated b u l =
    let n = b.units.count in
    record {
      off = upd_there n b.units.state.hex u nowhere l;
      role = upd_there n b.units.state.role u Role.none l;
      marks = upd_there n b.units.state.marks u (faced (b.units.state.marks u) 0) l;
    }
