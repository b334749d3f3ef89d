-- What a result's upshot comes to: the rows of the table, the need, and that the two sides fare differently, as the next stage asks.
-- Assumes nothing.
use Prim.Native.Nat.{ℕ, ◌+◌, ◌-◌, ◌≤◌, ◌<◌}
use mathlib.Core.Path.{◌≡◌, refl}
use native.Mathlib.Omega.{arith}
use lib.Dec.{eqb, leb}
use borrow.Author.Tests.{eq-eqb, le-leb, leb-false, leb-true, lt-leb, ne_eqb}
use Rattle.position.specs.Shape.{In}
use Rattle.position.specs.Stage as Stage
use Rattle.position.proofs.Tallies.{either, same_or}
use Rattle.results.specs.declared.Upshot.{Upshot}
use Rattle.results.specs.Results.{comes_to, lost, need_of, upshot}
use Rattle.results.specs.Settled.{Fitting}

-- the rows of the table of codes
module _ (code : ℕ) where
  pub upshot_d : code ≤ 3 → upshot code ≡ comes_to 2 1 1 code
  unfolding upshot
  upshot_d l = simp (le-leb code 3 l)

  module _ (k : 3 < code) where
    pub upshot_a : code ≤ 6 → upshot code ≡ comes_to 1 2 1 (code - 3)
    unfolding upshot
    upshot_a l = simp (lt-leb code 3 k, le-leb code 6 l)

    module _ (m : 6 < code) where
      pub upshot_ae : code ≡ 7 → upshot code ≡ comes_to lost 2 3 0
      unfolding upshot
      upshot_ae e = simp (lt-leb code 3 k, lt-leb code 6 m, eq-eqb code 7 e)

      module _ (d : code ≡ 7 → ⊥) where
        pub upshot_de : code ≡ 8 → upshot code ≡ comes_to 2 lost 3 0
        unfolding upshot
        upshot_de e = simp (lt-leb code 3 k, lt-leb code 6 m, ne_eqb code 7 d, eq-eqb code 8 e)

        module _ (f : code ≡ 8 → ⊥) where
          pub upshot_dx : code ≡ 9 → upshot code ≡ comes_to 1 lost 2 0
          unfolding upshot
          upshot_dx e = simp (lt-leb code 3 k, lt-leb code 6 m, ne_eqb code 7 d, ne_eqb code 8 f, eq-eqb code 9 e)

          pub upshot_ax : (code ≡ 9 → ⊥) → upshot code ≡ comes_to lost 1 2 0
          unfolding upshot
          upshot_ax g = simp (lt-leb code 3 k, lt-leb code 6 m, ne_eqb code 7 d, ne_eqb code 8 f, ne_eqb code 9 g)

-- a table of six rows, gone through
pub each_row :
    (P : Upshot → Type 0) (code : ℕ)
    → (code ≤ 3 → P (comes_to 2 1 1 code))
    → (3 < code → code ≤ 6 → P (comes_to 1 2 1 (code - 3)))
    → P (comes_to lost 2 3 0) → P (comes_to 2 lost 3 0)
    → P (comes_to 1 lost 2 0) → P (comes_to lost 1 2 0)
    → P (upshot code)
unfolding upshot
each_row P code d a ae de dx ax =
    either (leb code 3)
    (λ e. simp e (d (leb-true code 3 e)))
    (λ e.
    either (leb code 6)
    (λ f. simp (e, f) (a (leb-false code 3 e) (leb-true code 6 f)))
    (λ f.
    either (eqb code 7)
    (λ g. simp (e, f, g) ae)
    (λ g.
    either (eqb code 8)
    (λ h. simp (e, f, g, h) de)
    (λ h. either (eqb code 9) (λ i. simp (e, f, g, h, i) dx) (λ i. simp (e, f, g, h, i) ax)))))

pub upshot_fits : (code : ℕ) → code < 256 → Fitting (upshot code)
upshot_fits code l =
    each_row Fitting code
    (λ k. record { attackers = omega arith; defenders = omega arith; stage = omega arith; owed = l })
    (λ k m. record { attackers = omega arith; defenders = omega arith; stage = omega arith; owed = omega arith })
    (record { attackers = omega arith; defenders = omega arith; stage = omega arith; owed = omega arith })
    (record { attackers = omega arith; defenders = omega arith; stage = omega arith; owed = omega arith })
    (record { attackers = omega arith; defenders = omega arith; stage = omega arith; owed = omega arith })
    (record { attackers = omega arith; defenders = omega arith; stage = omega arith; owed = omega arith })

-- no exchange, the attackers destroyed, the defenders destroyed
module _ (o : Upshot) (attack defence : ℕ) where
  pub need_none : (o.stage ≡ Stage.losses → ⊥) → need_of o attack defence ≡ 0
  unfolding need_of
  need_none d = simp (ne_eqb o.stage Stage.losses d)

  module _ (e : o.stage ≡ Stage.losses) where
    pub need_attackers : o.attackers ≡ lost → need_of o attack defence ≡ attack
    unfolding need_of
    need_attackers f = simp (eq-eqb o.stage Stage.losses e, eq-eqb o.attackers lost f)

    pub need_defenders : (o.attackers ≡ lost → ⊥) → need_of o attack defence ≡ defence
    unfolding need_of
    need_defenders d = simp (eq-eqb o.stage Stage.losses e, ne_eqb o.attackers lost d)

-- Of roles 0 to 2 the sides have two: 1 and 2 where the losers retreat, 0 and 1 in an exchange, 0 and 2 where one side is gone.
pub record Sensible (o : Upshot) : Type 0 where
  pub attackers : o.attackers ≤ 2
  pub defenders : o.defenders ≤ 2
  pub apart : o.attackers ≡ o.defenders → ⊥
  pub stage : In 1 o.stage 3
  pub retreats : o.stage ≡ Stage.retreats → o.attackers + o.defenders ≡ 3
  pub losses : o.stage ≡ Stage.losses → o.attackers + o.defenders ≡ 1
  pub advances : o.stage ≡ Stage.advances → o.attackers + o.defenders ≡ 2
  pub owed : o.stage ≡ Stage.retreats → In 1 o.owed 3
  pub free : (o.stage ≡ Stage.retreats → ⊥) → o.owed ≡ 0

retreating : (a d n : ℕ) → a ≤ 2 → d ≤ 2 → a + d ≡ 3 → In 1 n 3 → Sensible (comes_to a d 1 n)
retreating a d n i j e k =
    record {
      attackers = i;
      defenders = j;
      apart = λ q. omega arith;
      stage = record { low = omega arith; high = omega arith };
      retreats = λ _. e;
      losses = λ q. absurd (omega arith);
      advances = λ q. absurd (omega arith);
      owed = λ _. k;
      free = λ q. absurd (q refl);
    }

exchanging : (a d : ℕ) → a + d ≡ 1 → Sensible (comes_to a d 2 0)
exchanging a d e =
    record {
      attackers = omega arith;
      defenders = omega arith;
      apart = λ q. omega arith;
      stage = record { low = omega arith; high = omega arith };
      retreats = λ q. absurd (omega arith);
      losses = λ _. e;
      advances = λ q. absurd (omega arith);
      owed = λ q. absurd (omega arith);
      free = λ q. refl;
    }

advancing : (a d : ℕ) → a + d ≡ 2 → (a ≡ d → ⊥) → Sensible (comes_to a d 3 0)
advancing a d e n =
    record {
      attackers = omega arith;
      defenders = omega arith;
      apart = n;
      stage = record { low = omega arith; high = omega arith };
      retreats = λ q. absurd (omega arith);
      losses = λ q. absurd (omega arith);
      advances = λ _. e;
      owed = λ q. absurd (omega arith);
      free = λ q. refl;
    }

pub sensible : (code : ℕ) → In 1 code 10 → Sensible (upshot code)
sensible code i =
    each_row Sensible code
    (λ l. retreating 2 1 code (omega arith) (omega arith) refl (record { low = i.low; high = l }))
    (λ l k. retreating 1 2 (code - 3) (omega arith) (omega arith) refl (record { low = omega arith; high = omega arith }))
    (advancing 0 2 refl (λ q. omega arith))
    (advancing 2 0 refl (λ q. omega arith))
    (exchanging 1 0 refl)
    (exchanging 0 1 refl)

-- "Stage 2: need is 1..1080", "Elsewhere .. need [is] 0"
pub record NeedOk (o : Upshot) (need : ℕ) : Type 0 where
  pub exact : o.stage ≡ Stage.losses → In 1 need 1080
  pub none : (o.stage ≡ Stage.losses → ⊥) → need ≡ 0

-- the destroyed side's total is there
module _ (o : Upshot) (attack defence : ℕ) where
  pub need_ok : In 1 attack 1080 → In 1 defence 1080 → NeedOk o (need_of o attack defence)
  need_ok a d =
      record {
        exact = λ e. same_or o.attackers 0 (λ z. rw (need_attackers o attack defence e z) a) (λ n. rw (need_defenders o attack defence e n) d);
        none = need_none o attack defence;
      }
