-- Tests along a list, from place to place: past an element, at a refusal there, and at the end.
-- Assumes nothing.
use Prim.Native.Nat.{ℕ, ◌+◌, ◌≤◌, ◌<◌}
use mathlib.Core.List.{List}
use Rattle.std.specs.Prelude.{Result, Ok, Err}
use mathlib.Core.Path.{◌≡◌, subst}
use native.Mathlib.Omega.{arith}
use lib.ListN.{length, get_or, drop, drop_of_length-le}
use Rattle.ruling.specs.Verdict.{Verdict, Ruling, Met, along}
use Rattle.ruling.specs.Verdict.Ruling.{refused}
use Rattle.ruling.specs.Judged.{Passes, Stops, TestedOf}
use Rattle.ruling.specs.Refused.{refused_as}
use Rattle.ruling.specs.declared.refusal.Refusal.{Refusal}
use Rattle.ruling.proofs.Meets.{along_at}

-- The tests along a path whose places are counted from k on are passed before element i, where they have come to s: what meets the tests
-- from there on meets them all.
pub record GoneFrom {S : Type 0} (k : ℕ) (p : List ℕ) (test : S → ℕ → ℕ → Verdict → Verdict) (next : S → ℕ → S) (first : S) (path : List ℕ) (i : ℕ) (s : S) : Type 0 where
  pub most : i ≤ length path
  pub ahead :
      (l : List ℕ) (v : S → Verdict) (a : Ruling) (q m : List ℕ)
      → Met p l (along test next s (drop i path) (i + k) v) a q m
      → Met p l (along test next first path k v) a q m

-- the same for a path whose first place is 1
abbrev pub Gone : {S : Type 0} → List ℕ → (S → ℕ → ℕ → Verdict → Verdict) → (S → ℕ → S) → S → List ℕ → ℕ → S → Type 0
Gone p test next first path i s = GoneFrom 1 p test next first path i s

module _ {S : Type 0} {k : ℕ} {p : List ℕ} {test : S → ℕ → ℕ → Verdict → Verdict} {next : S → ℕ → S} {first : S} {path : List ℕ} where
  pub gone_none : GoneFrom k p test next first path 0 first
  gone_none =
      let e : 0 + k ≡ k = omega arith in
      record {
        most = omega arith;
        ahead = λ l v a q m g. subst (λ (j : ℕ). Met p l (along test next first path j v) a q m) e g;
      }

  module _ {i : ℕ} {s : S} (o : GoneFrom k p test next first path i s) where
    -- past the next element, at a refusal there, and at the end
    pub gone_more :
        i < length path → Passes p (test s (get_or path i 0) (i + k))
        → GoneFrom k p test next first path (i + 1) (next s (get_or path i 0))
    gone_more b t =
        let x = get_or path i 0 in
        let e : i + 1 + k ≡ i + k + 1 = omega arith in
        record {
          most = omega arith;
          ahead =
              λ l v a q m g.
              o.ahead l v a q m
              (rw (along_at test next s path i (i + k) v b)
              (t l _ a q m (subst (λ (j : ℕ). Met p l (along test next (next s x) (drop (i + 1) path) j v) a q m) e g)));
        }

    pub gone_stop :
        {n j : ℕ} → i < length path → Stops p (test s (get_or path i 0) (i + k)) n j
        → Stops p (along test next first path k) n j
    gone_stop {n} {j} b t l v = o.ahead l v (refused n j) p l (rw (along_at test next s path i (i + k) v b) (t l _))

    pub gone_end :
        length path ≤ i → (l : List ℕ) (v : S → Verdict) (a : Ruling) (q m : List ℕ) → Met p l (v s) a q m
        → Met p l (along test next first path k v) a q m
    unfolding along
    gone_end b l v a q m g = o.ahead l v a q m (rw (drop_of_length-le path {i = i} b) g)

-- the answer of a row of tests, handed on past tests before them
pub tested_through :
    {p : List ℕ} {f g : Verdict → Verdict} {P Q : Type 0}
    → ((l : List ℕ) (v : Verdict) (a : Ruling) (q m : List ℕ) → Met p l (f v) a q m → Met p l (g v) a q m) → (P → Q)
    → (r : Result (Unit {0}) Refusal) → TestedOf p f P r → TestedOf p g Q r
tested_through t h (Ok u) o = (λ l v a q m w. t l v a q m (o.0 l v a q m w), h o.1)
tested_through {p} t h (Err r) o = λ l v. t l v (refused_as r) p l (o l v)
