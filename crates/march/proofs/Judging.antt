-- How the judging functions' promises come together: one test, the tests of a step, and the tests along a path, from place to place.
-- Assumes nothing.
use Prim.Native.Nat.{ℕ, ◌+◌, ◌≤◌, ◌<◌}
use mathlib.Core.Path.{◌≡◌, sym, subst}
use mathlib.Core.Bool.{Bool, true, false}
use mathlib.Core.List.{List}
use Rattle.std.specs.Prelude.{Result, Ok, Err}
use lib.ListN.{length, get_or}
use borrow.Author.Tests.{lt-ltb, le-ltb}
use Rattle.position.specs.Board.{Board, force_of}
use Rattle.ruling.specs.Verdict.{Verdict, Ruling, Met}
use Rattle.ruling.specs.Verdict.Ruling.{refused}
use Rattle.ruling.specs.Judged.{Passes, Stops}
use Rattle.ruling.proofs.Meets.{pass, stop}
use Rattle.ruling.proofs.Going.{Gone, gone_more}
use Rattle.field.specs.Scene.{scene}
use Rattle.field.specs.Zone.{holds_enemy, holds_neutral}
use Rattle.march.specs.Move.{Leg, leg, after_step, allowed, leaves_zone, no_step, step}
use Rattle.march.specs.Judged.{Onward, PathOf}
use Rattle.ruling.specs.Refused.{refused_as}
use Rattle.ruling.specs.declared.refusal.Refusal.{Refusal}

-- the tests of a step, in their order
module _ (p : List ℕ) (b : Board) (u : ℕ) (l : Leg) (x k : ℕ) where
  pub stops_zone : leaves_zone b u l k ≡ true → Stops p (step b u l x k) 9 k
  unfolding step
  stops_zone e m v = stop e

  pub stops_ground : leaves_zone b u l k ≡ false → no_step b l.at x ≡ true → Stops p (step b u l x k) 7 k
  unfolding step
  stops_ground e f m v = pass e (stop f)

  pub stops_enemy :
      leaves_zone b u l k ≡ false → no_step b l.at x ≡ false → holds_enemy (scene b) (force_of b u) x ≡ true
      → Stops p (step b u l x k) 8 k
  unfolding step
  stops_enemy e f g m v = pass e (pass f (stop g))

  pub stops_neutral :
      leaves_zone b u l k ≡ false → no_step b l.at x ≡ false → holds_enemy (scene b) (force_of b u) x ≡ false
      → holds_neutral (scene b) (force_of b u) x ≡ true
      → Stops p (step b u l x k) 18 k
  unfolding step
  stops_neutral e f g n m v = pass e (pass f (pass g (stop n)))

  -- the tests before the last, passed
  pub record Open : Type 0 where
    pub zone : leaves_zone b u l k ≡ false
    pub ground : no_step b l.at x ≡ false
    pub foe : holds_enemy (scene b) (force_of b u) x ≡ false
    pub neutral : holds_neutral (scene b) (force_of b u) x ≡ false

  pub stops_spent : Open → allowed b u < (after_step b l x).spent → Stops p (step b u l x k) 10 k
  unfolding step
  stops_spent o h m v =
      pass o.zone (pass o.ground (pass o.foe (pass o.neutral (stop (lt-ltb (allowed b u) (after_step b l x).spent h)))))

  pub passes_step : Open → (after_step b l x).spent ≤ allowed b u → Passes p (step b u l x k)
  unfolding step
  passes_step o h m v a q r w =
      pass o.zone (pass o.ground (pass o.foe (pass o.neutral (pass (le-ltb (allowed b u) (after_step b l x).spent h) w))))

-- past a step, to where it leads and what it comes to
pub gone_step :
    (b : Board) (u : ℕ) {p path : List ℕ} {i at spent total : ℕ} {there zone : Bool} {first : Leg}
    → Gone p (step b u) (after_step b) first path i (leg at spent) → i < length path
    → Onward p (step b u (leg at spent) (get_or path i 0) (i + 1)) (after_step b (leg at spent) (get_or path i 0)).spent there total zone
    → Gone p (step b u) (after_step b) first path (i + 1) (leg (get_or path i 0) total)
unfolding after_step
gone_step b u {p} {path} {i} {first = first} o l w =
    subst (λ (n : ℕ). Gone p (step b u) (after_step b) first path (i + 1) (leg (get_or path i 0) n)) (sym w.is)
    (gone_more o l w.passes)

-- the answer for the tests of a path, handed on past tests before them
pub path_through :
    {p : List ℕ} {f g : (Leg → Verdict) → Verdict}
    → ((l : List ℕ) (v : Leg → Verdict) (a : Ruling) (q m : List ℕ) → Met p l (f v) a q m → Met p l (g v) a q m)
    → (r : Result ℕ Refusal) → PathOf p f r → PathOf p g r
path_through t (Ok h) o = record { leg = o.leg; at = o.at; passes = λ l v a q m w. t l v a q m (o.passes l v a q m w) }
path_through {p} t (Err r) o = λ l v. t l v (refused_as r) p l (o l v)
