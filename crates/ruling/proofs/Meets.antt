-- How a promise is met: along the refusals, along a list, and through what is turned over; and that it leaves nothing free.
-- Assumes nothing.
use Prim.Native.Nat.{ℕ, ◌+◌, ◌<◌}
use mathlib.Core.Path.{◌≡◌, refl, sym, ap, ap₂, ◌∙◌}
use mathlib.Core.Bool.{Bool, true, false}
use mathlib.Core.List.{List, [], ◌∷◌, map}
use native.Mathlib.Omega.{arith}
use native.Mathlib.Numerals.{add-one}
use lib.ListN.{length, get_or, drop}
use lib.Seq.{drop-cons}
use Rattle.position.specs.Layout.{strength}
use Rattle.position.specs.Shape.{Shaped}
use Rattle.position.specs.Change.{Change, makes, turned}
use Rattle.position.proofs.Front.{shaped_kept}
use Rattle.position.proofs.Changes.{turned_made}
use Rattle.ruling.specs.Values.{Values}
use Rattle.ruling.specs.Verdict.{Judge, Verdict, Ruling, reveal_all, turned_all, along, judged, outcome, Met}
use Rattle.ruling.specs.Verdict.Judge.{reveal, rule}
use Rattle.ruling.specs.Verdict.Verdict.{refuse_if, judge}
use Rattle.ruling.specs.Verdict.Ruling.{refused, accepted}

-- the same function on each number of a list
pub map_same : {f g : ℕ → ℕ} → ((k : ℕ) → f k ≡ g k) → (xs : List ℕ) → map f xs ≡ map g xs
map_same h [] = refl
map_same h (x ∷ xs) = ap₂ (λ (a : ℕ) (bs : List ℕ). a ∷ bs) (h x) (map_same h xs)

-- past a test that does not hold
pub pass : {p l : List ℕ} {v : Verdict} {a : Ruling} {q m : List ℕ} {t : Bool} {n k : ℕ} → t ≡ false → Met p l v a q m → Met p l (refuse_if t n k v) a q m
unfolding outcome
pass {t = true} e g = absurd (let z : ◌≡◌ {A = ℕ} 0 1 = cc in omega arith)
pass {t = false} e g = record { answers = g.answers; leaves = g.leaves; lends = g.lends }

-- at a test that holds
pub stop : {p l : List ℕ} {v : Verdict} {t : Bool} {n k : ℕ} → t ≡ true → Met p l (refuse_if t n k v) (refused n k) p l
unfolding outcome
stop {t = true} e = record { answers = refl; leaves = refl; lends = refl }
stop {t = false} e = absurd (let z : ◌≡◌ {A = ℕ} 0 1 = cc in omega arith)

-- the tests of the list's element i, and then those from i + 1 on
pub along_at :
    {S : Type 0} (test : S → ℕ → ℕ → Verdict → Verdict) (next : S → ℕ → S) (s : S) (xs : List ℕ) (i k : ℕ) (v : S → Verdict)
    → i < length xs
    → along test next s (drop i xs) k v
    ≡ test s (get_or xs i 0) k (along test next (next s (get_or xs i 0)) (drop (i + 1) xs) (k + 1) v)
unfolding along
along_at test next s xs i k v l = rw (add-one, drop-cons xs i 0 l)

-- at the end of the judgement
pub ruled : {p l : List ℕ} {vs : Values} {xs : List Change} {m q : List ℕ} → q ≡ makes p xs → Met p l (judge (rule vs xs m)) (accepted vs) q m
unfolding outcome judged
ruled e = record { answers = refl; leaves = e; lends = refl }

-- through one unit that is turned over, and through many
pub seen : {p l : List ℕ} {u : ℕ} {k : ℕ → Judge} {a : Ruling} {q m : List ℕ} → Met (turned p u) l (judge (k (strength p u))) a q m → Met p l (judge (reveal u k)) a q m
unfolding outcome judged
seen g = record { answers = g.answers; leaves = g.leaves; lends = g.lends }

-- two results that meet one promise are one
pub record One (a a' : Ruling) (q q' m m' : List ℕ) : Type 0 where
  pub answer : a ≡ a'
  pub position : q ≡ q'
  pub lent : m ≡ m'

pub only : {p l : List ℕ} {v : Verdict} {a a' : Ruling} {q q' m m' : List ℕ} → Met p l v a q m → Met p l v a' q' m' → One a a' q q' m m'
only g h =
    record {
      answer = g.answers ∙ sym h.answers;
      position = g.leaves ∙ sym h.leaves;
      lent = g.lends ∙ sym h.lends;
    }

-- what is accepted is not refused
pub no_refusal : {vs : Values} {n k : ℕ} → accepted vs ≡ refused n k → ⊥
no_refusal e = let z : ◌≡◌ {A = ℕ} 0 1 = cc in omega arith

-- a judgement is no refusal, and a refusal changes no byte
pub rules : (p : List ℕ) (j : Judge) {n k : ℕ} → (judged p j).answer ≡ refused n k → ⊥
unfolding judged
rules p (reveal u f) e = rules (turned p u) (f (strength p u)) e
rules p (rule vs xs l) e = no_refusal e

pub untouched : (p l : List ℕ) (v : Verdict) {n k : ℕ} → (outcome p l v).answer ≡ refused n k → ((outcome p l v).position ≡ p) × ((outcome p l v).lent ≡ l)
unfolding outcome
untouched p l (refuse_if true n k v) e = (refl, refl)
untouched p l (refuse_if false n k v) e = untouched p l v e
untouched p l (judge j) e = absurd (rules p j e)

-- units turned over one after another
pub seen_all :
    {p : List ℕ} → Shaped p → (us : List ℕ) (k : List ℕ → Judge)
    → judged p (reveal_all us k) ≡ judged (turned_all p us) (k (map (strength p) us))
unfolding judged reveal_all turned_all
seen_all s [] k = refl
seen_all {p} s (u ∷ us) k =
    let t = turned_made s u in
    seen_all {p = turned p u} (shaped_kept t.front s) us (λ ss. k (strength p u ∷ ss))
    ∙ ap (λ (ss : List ℕ). judged (turned_all (turned p u) us) (k (strength p u ∷ ss))) (map_same t.strengths us)
