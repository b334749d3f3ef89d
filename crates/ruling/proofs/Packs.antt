-- A number that has room for a ruling gives it back.
-- Assumes nothing.
use Prim.Native.Nat.{ℕ, ◌+◌, ◌*◌, ◌/◌, ◌%◌, ◌≤◌, ◌<◌}
use mathlib.Core.Path.{◌≡◌, refl, sym, ap, ap₂, ◌∙◌}
use mathlib.Core.Bool.{cond}
use mathlib.Core.Logic.{inl, inr}
use native.Mathlib.Omega.{arith}
use lib.Dec.{eqb}
use borrow.Author.Tests.{ne_eqb}
use Rattle.ruling.specs.Values.{Values, fought_with, retreated_to, eliminated}
use Rattle.ruling.specs.Verdict.{Ruling}
use Rattle.ruling.specs.Verdict.Ruling.{refused, accepted}
use Rattle.ruling.specs.Packed.{Replies, Packable, Packs, packed, read_back, refusal_of, values_from, values_of}
use Rattle.ruling.specs.Packed.Replies.{plainly, of_battle, of_retreat}
use Rattle.ruling.proofs.Meets.{no_refusal}

-- a refusal's number and place, read off
refusal_low : (n place : ℕ) → n ≤ 18 → refusal_of n place % 256 ≡ n
unfolding refusal_of
refusal_low n place i = omega arith

refusal_high : (n place : ℕ) → n ≤ 18 → place < 65536 → refusal_of n place / 256 ≡ place
unfolding refusal_of
refusal_high n place i j = omega arith

-- column and code, read off
pair_low : (c d : ℕ) → (256 * (c % 256) + 65536 * (d % 65536)) % 256 ≡ 0
pair_low c d = omega arith

pair_first : (c d : ℕ) → c < 256 → (256 * (c % 256) + 65536 * (d % 65536)) / 256 % 256 ≡ c
pair_first c d i = omega arith

pair_second : (c d : ℕ) → d < 65536 → (256 * (c % 256) + 65536 * (d % 65536)) / 256 / 256 ≡ d
pair_second c d j = omega arith

-- a refusal, and what is accepted, read back from their number
back_refused : (k : Replies) (r n place : ℕ) → r % 256 ≡ n → r / 256 ≡ place → 1 ≤ n → read_back k r ≡ refused n place
unfolding read_back
back_refused k r n place e i l = rw (e, i, ne_eqb n 0 (λ z. omega arith)) refl

back_accepted : (k : Replies) (r : ℕ) → r % 256 ≡ 0 → read_back k r ≡ accepted (values_from k (r / 256))
unfolding read_back
back_accepted k r e = rw e refl

low_accepted : (k : Replies) (vs : Values) → Packable k (accepted vs) → packed (accepted vs) % 256 ≡ 0
unfolding packed values_of
low_accepted plainly vs h = rw h refl
low_accepted of_battle vs h = rw h.0 (pair_low vs.column vs.code)
low_accepted of_retreat vs (inl h) = rw h refl
low_accepted of_retreat vs (inr h) = rw h.0 (omega arith)

-- the values read back
values_back : (k : Replies) (vs : Values) → Packable k (accepted vs) → values_from k (packed (accepted vs) / 256) ≡ vs
unfolding packed values_of values_from
values_back plainly vs h = sym h
values_back of_battle vs h =
    ap (λ (w : Values). fought_with (values_of w.manner w / 256 % 256) (values_of w.manner w / 256 / 256)) h.0
    ∙ ap₂ fought_with (pair_first vs.column vs.code h.1) (pair_second vs.column vs.code h.2)
    ∙ sym h.0
values_back of_retreat vs (inl h) = rw h refl
values_back of_retreat vs (inr h) =
    ap (λ (w : Values). cond (eqb (values_of w.manner w / 256 % 256) 2) eliminated (retreated_to (values_of w.manner w / 256 / 256))) h.0
    ∙ ap₂ (λ (a b : ℕ). cond (eqb a 2) eliminated (retreated_to b)) (pair_first 1 vs.hex (omega arith)) (pair_second 1 vs.hex h.1)
    ∙ sym h.0

-- a refusal is its number and its place
abbrev number : Ruling → ℕ
number (refused n place) = n
number (accepted vs) = 0

pub packs : (k : Replies) (r : Ruling) → Packable k r → Packs k r
unfolding packed
packs k (refused n place) h =
    let low = refusal_low n place h.1 in
    record {
      back = back_refused k (refusal_of n place) n place low (refusal_high n place h.1 h.2) h.0;
      low = (λ e. absurd (let l = h.0 in omega (arith, low)), λ z. absurd z);
      refusals = λ m at e. let q : n ≡ m = ap number e in (low ∙ q, omega (arith, h.0), omega (arith, h.1));
    }
packs k (accepted vs) h =
    let e = low_accepted k vs h in
    record {
      back = back_accepted k (packed (accepted vs)) e ∙ ap accepted (values_back k vs h);
      low = (λ _. tt, λ _. e);
      refusals = λ m at z. absurd (no_refusal z);
    }
