-- After a close nobody may advance.
-- Assumes nothing.
use Prim.Native.Nat.{ℕ, ◌≤◌, ◌<◌}
use mathlib.Core.Path.{◌≡◌, refl, sym, ap, ◌∙◌}
use mathlib.Core.Bool.{cond}
use mathlib.Core.List.{List, [], ◌∷◌, map}
use native.Mathlib.Omega.{arith}
use borrow.Author.Tests.{eq-eqb, ne_eqb}
use Rattle.position.specs.Board.{Board, nowhere}
use Rattle.position.specs.Crowd.{holders}
use Rattle.position.specs.Change.Change.{assigned}
use Rattle.position.specs.Effect.{change, changes}
use Rattle.position.specs.Role as Role
use Rattle.position.proofs.Tallies.{either, same_or}
use Rattle.acceptance.specs.Accepted.{Lawful}
use Rattle.acceptance.proofs.Carries.{fixed_change}
use Rattle.acceptance.proofs.Fates.{assigned_else, assigned_none}
use Rattle.acceptance.proofs.Owings.{holders_nought}
use Rattle.field.specs.Listed.{named, sieve}
use Rattle.field.proofs.Named.{sieve_names}
use Rattle.aftermath.specs.Advance.{close_changes, may_advance}
use Rattle.aftermath.proofs.Advancing.{advance_may}
use Rattle.aftermath.proofs.KeepAdvance.{closed}

-- the units of a list have no role any more, all others have theirs
freed_role :
    (us : List ℕ) (c : Board) (w : ℕ) → w < c.units.count
    → (changes c (map (λ u. assigned u Role.none) us)).units.state.role w ≡ cond (named us w) Role.none (c.units.state.role w)
unfolding changes named
freed_role [] c w l = refl
freed_role (u ∷ us) c w l =
    let d = change c (assigned u Role.none) in
    let none : ◌≡◌ {A = ℕ} (cond (named us w) Role.none 0) 0 = either (named us w) (λ e. simp e) (λ e. simp e) in
    freed_role us d w (omega (arith, (fixed_change c (assigned u Role.none)).count))
    ∙ same_or w u
    (λ e.
    ap (λ (x : ℕ). cond (named us w) Role.none x) (ap d.units.state.role e ∙ (assigned_none c u (omega arith)).role)
    ∙ none
    ∙ sym (simp (eq-eqb u w (sym e))))
    (λ n.
    ap (λ (x : ℕ). cond (named us w) Role.none x) (assigned_else c u Role.none w n).role ∙ sym (simp (ne_eqb u w (λ e. n (sym e)))))

module _ (b : Board) where
  freed_all : (w : ℕ) → w < b.units.count → b.units.state.role w ≡ Role.advances → (changes b (close_changes b)).units.state.role w ≡ Role.none
  unfolding close_changes
  freed_all w l e =
      freed_role (sieve (may_advance b) b.units.count) b w l
      ∙ simp (sieve_names (may_advance b) b.units.count w l (advance_may b w e))

  pub closed_none : Lawful b → b.map.hexes ≤ nowhere → holders (changes b (close_changes b)) Role.advances ≡ 0
  closed_none l most =
      let o = closed l most in
      holders_nought (changes b (close_changes b)) Role.advances
      (λ w m e.
      let k : w < b.units.count = omega (arith, o.since.fixed.count) in
      let had : b.units.state.role w ≡ Role.advances = sym (o.had w (λ z. omega arith)) ∙ e in
      omega (arith, freed_all w k had))
