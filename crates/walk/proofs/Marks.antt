-- Laws of marks: one written, those of a table, and numbers that they add up to.
-- Assumes nothing.
use Prim.Native.Nat.{ℕ, zero, suc, ◌+◌, ◌≤◌, ◌<◌}
use mathlib.Core.Path.{◌≡◌, refl, sym, ◌∙◌, ap, subst}
use mathlib.Core.List.{List, [], ◌∷◌}
use native.Mathlib.Omega.{arith}
use native.Mathlib.Decide.{dec_le}
use lib.ListN.{length, set, get_or-eq_default}
use lib.Seq.{get_or-set_same, get_or-set_other, ext_get_or}
use Rattle.walk.specs.Chain.{mark}
use Rattle.walk.specs.Sweep.{tab}

-- one number is at most the other or above it
pub le_or : {A : Type 0} (m n : ℕ) → (m ≤ n → A) → (n < m → A) → A
le_or {A} m n f g = go (dec_le m n)
  where
    go : Dec (m ≤ n) → A
    go (yes l) = f l
    go (no h) = g (omega arith)

-- f' is f with v at i
pub record Upd (f : ℕ → ℕ) (i v : ℕ) (f' : ℕ → ℕ) : Type 0 where
  pub at : f' i ≡ v
  pub off : (k : ℕ) → (k ≡ i → ⊥) → f' k ≡ f k

pub mark_set : (l : List ℕ) {out : List ℕ} (i v : ℕ) → out ≡ set l i v → i < length l → Upd (mark l) i v (mark out)
unfolding mark
mark_set l i v e p =
    subst (λ (o : List ℕ). Upd (mark l) i v (mark o)) (sym e)
    (record { at = get_or-set_same l i v 0 p; off = λ k n. get_or-set_other l i k v 0 n })

mark_out : (l : List ℕ) (k : ℕ) → length l ≤ k → mark l k ≡ 0
unfolding mark
mark_out l k p = get_or-eq_default l 0 p

pub mark_in_lem : (l : List ℕ) (k : ℕ) → 0 < mark l k → k < length l
mark_in_lem l k p = le_or (length l) k (λ q. absurd (omega (arith, mark_out l k q))) (λ q. q)

-- a table's marks are its function's
pub tab_length : (n : ℕ) (f : ℕ → ℕ) → length (tab n f) ≡ n
unfolding tab
tab_length zero f = refl
tab_length (suc n) f = ap suc (tab_length n (λ i. f (suc i)))

pub tab_at : (n : ℕ) (f : ℕ → ℕ) (k : ℕ) → k < n → mark (tab n f) k ≡ f k
unfolding tab mark
tab_at zero f k p = absurd (omega arith)
tab_at (suc n) f zero p = refl
tab_at (suc n) f (suc k) p = tab_at n (λ i. f (suc i)) k (omega arith)

pub tab_mark : (n : ℕ) (f : ℕ → ℕ) → ((k : ℕ) → 0 < f k → k < n) → (k : ℕ) → mark (tab n f) k ≡ f k
tab_mark n f p k =
    le_or (suc k) n (tab_at n f k)
    (λ q.
    let z = mark_out (tab n f) k (omega (arith, tab_length n f)) in
    le_or (f k) 0 (λ r. omega arith) (λ r. absurd (omega (arith, p k r))))

-- a list that holds them is the table: what code that fills a buffer has to show
pub tab_only : (n : ℕ) (f : ℕ → ℕ) (l : List ℕ) → length l ≡ n → ((k : ℕ) → k < n → mark l k ≡ f k) → l ≡ tab n f
unfolding mark
tab_only n f l e p =
    ext_get_or 0 l (tab n f) (e ∙ sym (tab_length n f)) (λ k q. p k (omega arith) ∙ sym (tab_at n f k (omega arith)))

-- what the marks weigh, by a weight for each
unfoldable pub weigh : (ℕ → ℕ) → List ℕ → ℕ
weigh g [] = 0
weigh g (m ∷ l) = g m + weigh g l

module _ (g : ℕ → ℕ) where
  weigh_set : (l : List ℕ) (i v : ℕ) → i < length l → weigh g (set l i v) + g (mark l i) ≡ weigh g l + g v
  unfolding weigh mark
  weigh_set [] i v p = absurd (omega arith)
  weigh_set (m ∷ l) zero v p = omega arith
  weigh_set (m ∷ l) (suc i) v p = omega (arith, weigh_set l i v (omega arith))

  pub weigh_less : (l : List ℕ) {out : List ℕ} (i v : ℕ) → out ≡ set l i v → i < length l → g v < g (mark l i) → weigh g out < weigh g l
  weigh_less l i v e p q = rw e (omega (arith, weigh_set l i v p))

  pub weigh_most : ((m : ℕ) → g m ≤ 1) → (l : List ℕ) → weigh g l ≤ length l
  unfolding weigh
  weigh_most p [] = omega arith
  weigh_most p (m ∷ l) = omega (arith, p m, weigh_most p l)
