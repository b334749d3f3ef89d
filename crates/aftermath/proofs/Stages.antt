-- Laws of how stages pass on: roles given anew unit by unit, the stage that follows, and both behind a call's own changes.
-- Assumes nothing.
use Prim.Native.Nat.{◌+◌, ◌<◌, ◌≤◌, ℕ}
use mathlib.Core.Bool.{Bool, cond, false, true}
use mathlib.Core.List.{List, [], ◌∷◌, map}
use mathlib.Core.Path.{◌∙◌, ◌≡◌, ap, refl, sym}
use native.Mathlib.Omega.{arith}
use borrow.Author.Tests.{eq-eqb, ne_eqb}
use lib.Dec.{eqb}
use Rattle.position.proofs.Changes.{board_make, board_makes, laid_make, makes_snoc, makes_then}
use Rattle.position.proofs.Tallies.{either}
use Rattle.position.specs.Board.{Board, board}
use Rattle.position.specs.Change.{Change, make, makes}
use Rattle.position.specs.Change.Change.{assigned, staged, unrouted}
use Rattle.position.specs.Crowd.{holders}
use Rattle.position.specs.Effect.{changes}
use Rattle.position.specs.Laid.{Laid}
use Rattle.position.specs.Shape.{Shaped}
use Rattle.position.specs.declared.View.{View}
use Rattle.position.specs.Role as Role
use Rattle.position.specs.Stage as Stage
use Rattle.acceptance.proofs.Fates.{assigned_else}
use Rattle.field.proofs.Lists.{map_last, sieve_hit, sieve_miss}
use Rattle.field.specs.Listed.{sieve}
use Rattle.aftermath.specs.Stage.{passes_on, reassigned, then_on}

-- one unit with its role, and one with another
module _ (p : List ℕ) (u from to : ℕ) where
  abbrev renewed : List Change
  renewed = cond (eqb ((board p).units.state.role u) from) (assigned u to ∷ []) []

  pub renew_other : ((board p).units.state.role u ≡ from → ⊥) → p ≡ makes p renewed
  unfolding makes
  renew_other n = simp (ne_eqb ((board p).units.state.role u) from n)

  pub renew_own : {q : List ℕ} → (board p).units.state.role u ≡ from → q ≡ make p (assigned u to) → q ≡ makes p renewed
  unfolding makes
  renew_own e f = simp (eq-eqb ((board p).units.state.role u) from e) f

-- the units below u that had the role have the other, the units from u on are as they were
pub record Renewing (p : List ℕ) (v : View) (from to u : ℕ) (q : List ℕ) : Type 0 where
  pub most : u ≤ v.count
  pub laid : Laid q v
  pub made : q ≡ makes p (map (λ w. assigned w to) (sieve (λ w. eqb ((board p).units.state.role w) from) u))
  pub ahead : (w : ℕ) → u ≤ w → (board q).units.state.role w ≡ (board p).units.state.role w

module _ {p : List ℕ} {v : View} {from to : ℕ} where
  pub renewing_none : Laid p v → Renewing p v from to 0 p
  unfolding sieve makes
  renewing_none l = record { most = omega arith; laid = l; made = refl; ahead = λ w m. refl }

  module _ {u : ℕ} {q r : List ℕ} (o : Renewing p v from to u q) (k : u < v.count) where
    hit : eqb ((board p).units.state.role u) from ≡ true → r ≡ make q (assigned u to) → Renewing p v from to (u + 1) r
    hit e f =
        let t : ℕ → Bool = λ w. eqb ((board p).units.state.role w) from in
        let g : ℕ → Change = λ w. assigned w to in
        let n : r ≡ make (makes p (map g (sieve t u))) (assigned u to) = f ∙ ap (λ (l : List ℕ). make l (assigned u to)) o.made in
        record {
          most = omega arith;
          laid = rw f (laid_make o.laid (assigned u to));
          made =
              n
              ∙ sym (makes_snoc (map g (sieve t u)) (assigned u to) p)
              ∙ ap (makes p) (sym (map_last g (sieve t u) u) ∙ ap (map g) (sym (sieve_hit t u e)));
          ahead =
              λ w m.
              let i = (assigned_else (board q) u to w (λ z. omega arith)).role in
              ap (λ (l : List ℕ). (board l).units.state.role w) f
              ∙ ap (λ (b : Board). b.units.state.role w) (board_make o.laid.shaped (assigned u to))
              ∙ i
              ∙ o.ahead w (omega arith);
        }

    miss : eqb ((board p).units.state.role u) from ≡ false → r ≡ q → Renewing p v from to (u + 1) r
    miss e f =
        let t : ℕ → Bool = λ w. eqb ((board p).units.state.role w) from in
        let g : ℕ → Change = λ w. assigned w to in
        rw f
        (record {
          most = omega arith;
          laid = o.laid;
          made = o.made ∙ ap (λ (l : List ℕ). makes p (map g l)) (sym (sieve_miss t u e));
          ahead = λ w m. o.ahead w (omega arith);
        })

    pub renewing_more :
        r ≡ makes q (cond (eqb ((board q).units.state.role u) from) (assigned u to ∷ []) []) → Renewing p v from to (u + 1) r
    unfolding makes
    renewing_more f =
        let z = ap (λ (k : ℕ). eqb k from) (o.ahead u (omega arith)) in
        either (eqb ((board p).units.state.role u) from)
        (λ e. hit e (simp (z ∙ e) at f))
        (λ e. miss e (simp (z ∙ e) at f))

  pub renewing_all :
      {u : ℕ} {q : List ℕ} → Renewing p v from to u q → v.count ≤ u → v.count ≡ (board p).units.count
      → q ≡ makes p (reassigned (board p) from to)
  unfolding reassigned
  renewing_all {u} o l e =
      let z : u ≡ (board p).units.count = omega (arith, o.most) in
      o.made
      ∙ ap (λ (n : ℕ). makes p (map (λ w. assigned w to) (sieve (λ w. eqb ((board p).units.state.role w) from) n))) z

-- the stage that follows: none, advances, or quiet
module _ (p : List ℕ) where
  pub on_later : (holders (board p) Role.owes ≡ 0 → ⊥) → p ≡ makes p (passes_on (board p))
  unfolding passes_on makes
  on_later n = simp (ne_eqb (holders (board p) Role.owes) 0 n)

  pub on_advances :
      {q : List ℕ} → holders (board p) Role.owes ≡ 0 → (holders (board p) Role.advances ≡ 0 → ⊥) → q ≡ make p (staged Stage.advances 0 0)
      → q ≡ makes p (passes_on (board p))
  unfolding passes_on makes
  on_advances e n f = simp (eq-eqb (holders (board p) Role.owes) 0 e, ne_eqb (holders (board p) Role.advances) 0 n) f

  pub on_quiet :
      {q r : List ℕ} → holders (board p) Role.owes ≡ 0 → holders (board p) Role.advances ≡ 0 → q ≡ make p (staged Stage.quiet 0 0) → r ≡ make q unrouted
      → r ≡ makes p (passes_on (board p))
  unfolding passes_on makes
  on_quiet e g f h =
      simp (eq-eqb (holders (board p) Role.owes) 0 e, eq-eqb (holders (board p) Role.advances) 0 g)
      (h ∙ ap (λ (l : List ℕ). make l unrouted) f)

-- a call's own changes, and then the stage that follows
pub then_on_lem :
    {p q r : List ℕ} → Shaped p → (xs : List Change) → q ≡ makes p xs → r ≡ makes q (passes_on (board q))
    → r ≡ makes p (then_on (board p) xs)
unfolding then_on
then_on_lem {p} s xs e f =
    f
    ∙ ap (λ (l : List ℕ). makes l (passes_on (board l))) e
    ∙ ap (λ (b : Board). makes (makes p xs) (passes_on b)) (board_makes s xs)
    ∙ sym (makes_then xs (passes_on (changes (board p) xs)) p)
