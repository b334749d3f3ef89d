-- Laws of a sweep: one unit after another is asked, and each that passes is dealt with, as it was when the sweep began.
-- Assumes nothing.
use Prim.Native.Nat.{ℕ, ◌+◌, ◌≤◌, ◌<◌}
use mathlib.Core.Path.{◌≡◌, refl, sym, ap, ◌∙◌}
use mathlib.Core.Bool.{Bool, true, false, cond}
use mathlib.Core.List.{List, [], ◌∷◌, ◌++◌, append_assoc, append-nil}
use native.Mathlib.Omega.{arith}
use lib.Dec.{eqb, ltb}
use Rattle.position.specs.Board.{Board, board}
use Rattle.position.specs.Crowd.{owes_at}
use Rattle.position.specs.Change.{Change, makes}
use Rattle.position.specs.Change.Change.{placed}
use Rattle.position.specs.Effect.{change, changes}
use Rattle.position.specs.Laid.{Laid}
use Rattle.position.specs.declared.View.{View}
use Rattle.position.proofs.Changes.{board_makes, laid_makes, makes_then}
use Rattle.position.proofs.Effects.{upd_else}
use Rattle.position.proofs.Tallies.{either}
use Rattle.acceptance.proofs.Fates.{Same, assigned_else, destroyed_else}
use Rattle.acceptance.proofs.Carries.{kind_by}
use Rattle.acceptance.proofs.Stills.{fixed_changes}
use Rattle.field.specs.Listed.{sieve}
use Rattle.field.specs.Scene.{scene}
use Rattle.field.specs.Zone.{stands_on}
use Rattle.field.proofs.Lists.{sieve_hit, sieve_miss}
use Rattle.shoves.specs.Group.{gather}
use Rattle.shoves.specs.Shoves.{frees, goes_to, shifts}

-- the changes of one unit more come last
pub gather_last : (g : ℕ → List Change) (us : List ℕ) (u : ℕ) → gather g (us ++ (u ∷ [])) ≡ gather g us ++ g u
unfolding gather
gather_last g [] u = append-nil (g u)
gather_last g (w ∷ us) u = ap (λ (l : List Change). g w ++ l) (gather_last g us u) ∙ sym (append_assoc (g w) (gather g us) (g u))

-- a test that looks at nothing but the unit: one that is as it was passes as it did
pub record Alike (t : Board → ℕ → Bool) : Type 0 where
  pub same : (b c : Board) (w : ℕ) → Same b.units c.units w → t c w ≡ t b w

-- changes of unit u leave every other unit as it was
pub record Own (g : ℕ → List Change) : Type 0 where
  pub off : (b : Board) (u w : ℕ) → (w ≡ u → ⊥) → Same b.units (changes b (g u)).units w

-- how far a sweep over p has come with q: the units below u that passed have been dealt with, those from u on pass as they did, and all
-- kinds are the same
pub record Sweep (t : Board → ℕ → Bool) (g : ℕ → List Change) (p : List ℕ) (v : View) (u : ℕ) (q : List ℕ) : Type 0 where
  pub most : u ≤ v.count
  pub laid : Laid q v
  pub made : q ≡ makes p (gather g (sieve (t (board p)) u))
  pub ahead : (w : ℕ) → u ≤ w → t (board q) w ≡ t (board p) w
  pub kinds : (board q).units.counter.kind ≡ (board p).units.counter.kind

module _ {t : Board → ℕ → Bool} {g : ℕ → List Change} {p : List ℕ} {v : View} where
  -- at its beginning
  pub sweep_none : Laid p v → Sweep t g p v 0 p
  unfolding sieve makes gather
  sweep_none l = record { most = omega arith; laid = l; made = refl; ahead = λ w m. refl; kinds = refl }

  module _ {u : ℕ} {q r : List ℕ} (a : Alike t) (i : Own g) (o : Sweep t g p v u q) (k : u < v.count) where
    hit : t (board p) u ≡ true → r ≡ makes q (g u) → Sweep t g p v (u + 1) r
    hit e f =
        let us = sieve (t (board p)) u in
        let z : board r ≡ changes (board q) (g u) = ap board f ∙ board_makes o.laid.shaped (g u) in
        record {
          most = omega arith;
          laid = laid_makes (g u) o.laid f;
          made =
              f
              ∙ ap (λ (l : List ℕ). makes l (g u)) o.made
              ∙ sym (makes_then (gather g us) (g u) p)
              ∙ ap (makes p) (sym (gather_last g us u) ∙ ap (gather g) (sym (sieve_hit (t (board p)) u e)));
          ahead =
              λ w m.
              ap (λ (b : Board). t b w) z
              ∙ a.same (board q) (changes (board q) (g u)) w (i.off (board q) u w (λ y. omega arith))
              ∙ o.ahead w (omega arith);
          kinds = ap (λ (b : Board). b.units.counter.kind) z ∙ kind_by (fixed_changes (g u) (board q)) ∙ o.kinds;
        }

    miss : t (board p) u ≡ false → r ≡ q → Sweep t g p v (u + 1) r
    miss e f =
        rw f
        (record {
          most = omega arith;
          laid = o.laid;
          made = o.made ∙ ap (λ (l : List ℕ). makes p (gather g l)) (sym (sieve_miss (t (board p)) u e));
          ahead = λ w m. o.ahead w (omega arith);
          kinds = o.kinds;
        })

    -- one unit more: it is asked on the board as it is now, and its changes are those of the beginning
    pub sweep_more : (xs : List Change) → xs ≡ g u → r ≡ makes q (cond (t (board q) u) xs []) → Sweep t g p v (u + 1) r
    unfolding makes
    sweep_more xs d f =
        let z = o.ahead u (omega arith) in
        either (t (board p) u)
        (λ e. hit e (simp (z ∙ e, d) at f))
        (λ e. miss e (simp (z ∙ e) at f))

  -- at its end
  pub sweep_all :
      {u : ℕ} {q : List ℕ} → Sweep t g p v u q → v.count ≤ u → v.count ≡ (board p).units.count
      → q ≡ makes p (gather g (sieve (t (board p)) (board p).units.count))
  sweep_all {u} o l e =
      let z : u ≡ (board p).units.count = omega (arith, o.most) in
      o.made ∙ ap (λ (n : ℕ). makes p (gather g (sieve (t (board p)) n))) z

-- who owes in hex h, and who stands there
abbrev pub owing : ℕ → Board → ℕ → Bool
owing h b u = owes_at b h u

abbrev pub standing : ℕ → Board → ℕ → Bool
standing h b u = stands_on (scene b) h u

pub alike_owing : (h : ℕ) → Alike (owing h)
unfolding owes_at
alike_owing h = record { same = λ b c w s. simp (s.role, s.hex) }

pub alike_standing : (h : ℕ) → Alike (standing h)
unfolding stands_on
alike_standing h = record { same = λ b c w s. ap (λ (k : ℕ). eqb k h) s.hex }

-- a unit that goes to a hex, one that goes with the group, and one that has no role any more leave the others as they were
pub placed_else : (b : Board) (u h w : ℕ) → (w ≡ u → ⊥) → Same b.units (change b (placed u h)).units w
unfolding change
placed_else b u h w n =
    either (ltb h b.map.hexes)
    (λ e. rw e (record { hex = upd_else b.units.count b.units.state.hex u h w (λ _ z. n z); marks = refl; role = refl }))
    (λ e. rw e (record { hex = refl; marks = refl; role = refl }))

pub own_shifts : (z : ℕ) → Own (shifts z)
unfolding changes shifts
own_shifts z = record { off = λ b u w n. placed_else b u z w n }

pub own_goes : (c : Board) (x : ℕ) → Own (goes_to c x)
unfolding changes goes_to
own_goes c x =
    record {
      off =
          λ b u w n.
          either (eqb (c.units.counter.kind u) 5)
          (λ e. rw e (destroyed_else b u w n))
          (λ e. rw e (placed_else b u x w n));
    }

pub own_frees : Own frees
unfolding changes frees
own_frees = record { off = λ b u w n. assigned_else b u 0 w n }
