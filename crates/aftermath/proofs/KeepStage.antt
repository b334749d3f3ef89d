-- A lawful board stays lawful when its stage passes on: roles and units that a call only takes, and then the stage that follows.
-- Assumes nothing.
use Prim.Native.Nat.{ℕ, ◌≤◌}
use mathlib.Core.Path.{◌≡◌, refl, sym, ◌∙◌}
use mathlib.Core.List.{List, [], ◌∷◌, map}
use native.Mathlib.Omega.{arith}
use borrow.Author.Tests.{eq-eqb, ne_eqb}
use Rattle.position.specs.Board.{Board, nowhere}
use Rattle.position.specs.Crowd.{holders}
use Rattle.position.specs.Change.{Change}
use Rattle.position.specs.Change.Change.{assigned, destroyed, staged, unrouted}
use Rattle.position.specs.Effect.{change, changes}
use Rattle.position.specs.Role as Role
use Rattle.position.specs.Stage as Stage
use Rattle.position.proofs.Effects.{upd_case}
use Rattle.position.proofs.Tallies.{same_or}
use Rattle.acceptance.specs.Accepted.{Lawful}
use Rattle.acceptance.proofs.Carries.{changes_then}
use Rattle.acceptance.proofs.Owings.{holders_none, holders_nought}
use Rattle.acceptance.proofs.Routings.{routes_none}
use Rattle.acceptance.proofs.Since.{Since, lawful_since, since_destroyed, since_freed, since_lawful, since_staged, since_unrouted}
use Rattle.acceptance.proofs.Stages.{stage_advances, stage_quiet}
use Rattle.aftermath.specs.Stage.{passes_on, then_on}

-- board c since board b, where a unit that has a role had it
pub record Lessened (b c : Board) : Type 0 where
  pub since : Since b c
  pub had : (w : ℕ) → (c.units.state.role w ≡ Role.none → ⊥) → c.units.state.role w ≡ b.units.state.role w

pub lessened_none : {b : Board} → Lawful b → Lessened b b
lessened_none l = record { since = since_lawful l; had = λ w n. refl }

module _ {b : Board} (most : b.map.hexes ≤ nowhere) where
  -- a unit that is destroyed, and a role that is taken
  lessened_destroyed : {c : Board} → Lessened b c → (u : ℕ) → Lessened b (change c (destroyed u))
  unfolding change
  lessened_destroyed {c} o u =
      record {
        since = since_destroyed most o.since u;
        had =
            λ w.
            upd_case (λ k. (k ≡ 0 → ⊥) → k ≡ b.units.state.role w) c.units.count c.units.state.role u 0 w (λ _ _ n. absurd (n refl)) (o.had w);
      }

  pub lessened_freed : {c : Board} → Lessened b c → (u : ℕ) → Lessened b (change c (assigned u Role.none))
  unfolding change
  lessened_freed {c} o u =
      record {
        since = since_freed most o.since u;
        had =
            λ w.
            upd_case (λ k. (k ≡ 0 → ⊥) → k ≡ b.units.state.role w) c.units.count c.units.state.role u 0 w (λ _ _ n. absurd (n refl)) (o.had w);
      }

  -- units destroyed, and roles taken, one after another
  pub all_destroyed : (us : List ℕ) {c : Board} → Lessened b c → Lessened b (changes c (map destroyed us))
  unfolding changes
  all_destroyed [] o = o
  all_destroyed (u ∷ us) o = all_destroyed us (lessened_destroyed o u)

  pub all_freed : (us : List ℕ) {c : Board} → Lessened b c → Lessened b (changes c (map (λ u. assigned u Role.none) us))
  unfolding changes
  all_freed [] o = o
  all_freed (u ∷ us) o = all_freed us (lessened_freed o u)

-- where nobody owed, nobody owes
pub lessened_owing : {b c : Board} → Lessened b c → holders b Role.owes ≡ 0 → holders c Role.owes ≡ 0
lessened_owing {b} {c} o e =
    holders_nought c Role.owes
    (λ w l z.
    holders_none b Role.owes w e (omega (arith, o.since.fixed.count)) (sym (o.had w (λ n. omega arith)) ∙ z))

-- the stage that follows: quiet, or advances, where nobody owes any more, and else as it is
pub passed_by :
    (P : Board → Type 0) (c : Board) → (holders c Role.owes ≡ 0 → holders c Role.advances ≡ 0 → P (change (change c (staged Stage.quiet 0 0)) unrouted))
    → (holders c Role.owes ≡ 0 → (holders c Role.advances ≡ 0 → ⊥) → P (change c (staged Stage.advances 0 0))) → ((holders c Role.owes ≡ 0 → ⊥) → P c)
    → P (changes c (passes_on c))
unfolding passes_on changes
passed_by P c quiet advances later =
    same_or (holders c Role.owes) 0
    (λ none.
    same_or (holders c Role.advances) 0
    (λ e. simp (eq-eqb (holders c Role.owes) 0 none, eq-eqb (holders c Role.advances) 0 e) (quiet none e))
    (λ n. simp (eq-eqb (holders c Role.owes) 0 none, ne_eqb (holders c Role.advances) 0 n) (advances none n)))
    (λ some. simp (ne_eqb (holders c Role.owes) 0 some) (later some))

module _ {b c : Board} (l : Lawful b) (most : b.map.hexes ≤ nowhere) (combat : b.desk.battle.stage ≡ Stage.quiet → ⊥) (s : Since b c) where
  passed_quiet : holders c Role.owes ≡ 0 → holders c Role.advances ≡ 0 → Lawful (change (change c (staged Stage.quiet 0 0)) unrouted)
  unfolding change holders
  passed_quiet none e =
      lawful_since l (since_unrouted most (since_staged most s 0 0 0)) (omega arith) (λ n. absurd (n refl))
      (stage_quiet refl refl refl (record { owing = none; advancing = e; routes = routes_none (change c (staged Stage.quiet 0 0)) }))

  passed_advances : holders c Role.owes ≡ 0 → (holders c Role.advances ≡ 0 → ⊥) → Lawful (change c (staged Stage.advances 0 0))
  unfolding change holders
  passed_advances none n =
      lawful_since l (since_staged most s 3 0 0) (omega arith) (λ _. l.clock.combat combat)
      (stage_advances refl refl refl (record { advancing = omega arith; owing = none }))

  pub lawful_passed : ((holders c Role.owes ≡ 0 → ⊥) → Lawful c) → Lawful (changes c (passes_on c))
  lawful_passed later = passed_by Lawful c passed_quiet passed_advances later

-- a call's own changes, and then the stage that follows
pub lawful_then_on :
    {b : Board} → Lawful b → b.map.hexes ≤ nowhere → (b.desk.battle.stage ≡ Stage.quiet → ⊥) → (xs : List Change) → Since b (changes b xs)
    → ((holders (changes b xs) Role.owes ≡ 0 → ⊥) → Lawful (changes b xs)) → Lawful (changes b (then_on b xs))
unfolding then_on
lawful_then_on {b} l most combat xs s later =
    rw (changes_then xs (passes_on (changes b xs)) b) (lawful_passed l most combat s later)
