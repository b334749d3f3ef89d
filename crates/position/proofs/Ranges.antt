-- Asking and counting over the numbers below n: what `any`, `all` and `count` of the library come to there.
-- Assumes nothing.
use Rattle.std.specs.Prelude.{ℕ, zero, suc, ◌+◌, ◌≤◌, ◌<◌, ◌≡◌, Bool, true, false, cond, MatchBool, List, length, get_or, filter, Option, Some, None, IsSome}
use mathlib.Core.Path.{sym, ap, ◌∙◌, subst, refl}
use native.Mathlib.Omega.{arith}
use denote.Bor.{Bor}
use denote.Param.Members.{Mut}
use Rattle.std.specs.Fn.{Called, CalledAt}
use Rattle.std.specs.Iterator.{Drains, ChecksAny, ChecksAll, YieldsThen}
use Rattle.std.specs.Iterator.Adapters.{filter_source, filter_callee, filter_steps}
use Rattle.std.specs.List.{AllWithin, HoldsAt, range_with_len, FoldsTo}
use Rattle.std.specs.declared.ops.Range.{Range}
use Rattle.std.specs.declared.iter.Filter.{Filter}
use Rattle.std.proofs.iter.Yields.{nat_range_steps}
use Rattle.std.proofs.lemmas.Iterator.{YieldsList-from_range, cases_from_any, cases_from_all, first_from_Range}
use Rattle.std.proofs.lemmas.Iterator.Consumers.{YieldsList-from_filter, count_from_yields_List}
use Rattle.std.proofs.lemmas.List.FromFn.{length-range_with_len, get_or-range_with_len}
use Rattle.std.specs.Bool.{⊤}
use Rattle.std.specs.Option.{MatchOption}
use Rattle.position.specs.Ground.{least}
use Rattle.position.specs.Laid.{Says, Sought}
use Rattle.position.specs.Tally.{any, tally}
use Rattle.position.proofs.Tallies.{any_true, any_never, tally_hit, tally_miss, tally_zero, tally_same, either}
use Rattle.position.proofs.Bearings.{least_at, least_none}

-- a number of the range stands in its own place
item : (n k : ℕ) → k < n → k ≡ get_or (range_with_len 0 n) k 0
item n k l = sym (get_or-range_with_len 0 n k 0 l ∙ omega arith)

-- a yes that some number gives, a no that all give
known : (t : ℕ → Bool) (n : ℕ) (r : Bool) → MatchBool r ((k : ℕ) × (k < length (range_with_len 0 n)) × HoldsAt (λ x. t x ≡ true) (range_with_len 0 n) k) (AllWithin (λ x. t x ≡ false) (range_with_len 0 n) 0 (length (range_with_len 0 n))) → r ≡ any t n
known t n true h =
    let l : h.0 < n = omega (arith, h.1, length-range_with_len 0 n) in
    sym (any_true t n h.0 l (ap t (item n h.0 l) ∙ h.2 0))
known t n false h =
    sym (any_never t n (λ k l. ap t (item n k l) ∙ h k 0 (omega arith) (omega (arith, length-range_with_len 0 n))))

-- `any`, where each call of the closure answers by the test
pub any_over : {F : Type 0} {g : Mut F (ℕ × Unit {0}) Bool} {s u : Range ℕ} {f : F} (t : ℕ → Bool) (n : ℕ) {r : Bool} → s ≡ record { start = 0; end = n } → ChecksAny nat_range_steps g s f r u → ((x : ℕ) (b : Bool) (q : F) → Called g f (x, tt) b q → (q ≡ f) × (b ≡ t x)) → r ≡ any t n
any_over t n {r} e ran c =
    known t n r
    (cases_from_any _ _ r (λ x. t x ≡ true) (λ x. t x ≡ false) ran (YieldsList-from_range 0 n n e (omega arith))
    (λ x q k. sym (c x true q k).1) (λ x q k. ((c x false q k).0, sym (c x false q k).1)))

-- the first number by itself, and then the others
front : (t : ℕ → Bool) (n : ℕ) → tally t (n + 1) ≡ cond (t 0) 1 0 + tally (λ k. t (k + 1)) n
front t zero = either (t 0) (λ e. rw e (omega (arith, tally_hit t 0 e, tally_zero t, tally_zero (λ k. t (k + 1))))) (λ e. rw e (omega (arith, tally_miss t 0 e, tally_zero t, tally_zero (λ k. t (k + 1)))))
front t (suc n) =
    let s : ℕ → Bool = λ k. t (k + 1) in
    let up : tally s (suc n) ≡ tally s (n + 1) = ap (tally s) (omega arith) in
    let low : tally t (suc n) ≡ tally t (n + 1) = ap (tally t) (omega arith) in
    let eq : t (suc n) ≡ t (n + 1) = ap t (omega arith) in
    either (t (suc n))
    (λ e. omega (arith, tally_hit t (suc n) e, tally_hit s n (sym eq ∙ e), front t n, up, low))
    (λ e. omega (arith, tally_miss t (suc n) e, tally_miss s n (sym eq ∙ e), front t n, up, low))

-- how many numbers of a range pass
counted : (t : ℕ → Bool) (a n : ℕ) → length (filter t (range_with_len a n)) ≡ tally (λ k. t (a + k)) n
counted t a zero = sym (tally_zero _)
counted t a (suc n) =
    let u : ℕ → Bool = λ k. t (a + k) in
    let up : tally u (suc n) ≡ tally u (n + 1) = ap (tally u) (omega arith) in
    let rest : length (filter t (range_with_len (a + 1) n)) ≡ tally (λ k. u (k + 1)) n = counted t (a + 1) n ∙ tally_same _ _ n (λ k l. ap t (omega arith)) in
    let eq : u 0 ≡ t a = ap t (omega arith) in
    either (t a)
    (λ e. rw e (omega (arith, rest, up, front u n, ap {B = ℕ} (λ (b : Bool). cond b 1 0) (eq ∙ e))))
    (λ e. rw e (omega (arith, rest, up, front u n, ap {B = ℕ} (λ (b : Bool). cond b 1 0) (eq ∙ e))))

-- `count` behind a `filter`
pub count_over : {F : Type 0} {g : Mut F (Bor ℕ × Unit {0}) Bool} {s : Filter (Range ℕ) F} {f : F} (t : ℕ → Bool) (n : ℕ) {r : ℕ} → filter_source s ≡ record { start = 0; end = n } → filter_callee s ≡ f → ((xs : List ℕ) × Drains (filter_steps nat_range_steps g) s xs × (r ≡ length xs)) → ((x : ℕ) (b : Bool) (q : F) → CalledAt g f x b q → (q ≡ f) × (b ≡ t x)) → r ≡ tally t n
count_over t n {r} e h ran c = count_from_yields_List _ r ran (YieldsList-from_filter _ t (YieldsList-from_range 0 n n e (omega arith)) h c) ∙ counted t 0 n ∙ tally_same _ _ n (λ k l. ap t (omega arith))

-- what all say of each
settled : (P : ℕ → Type 0) (n : ℕ) (r : Bool) → MatchBool r (AllWithin P (range_with_len 0 n) 0 (length (range_with_len 0 n))) ((k : ℕ) × (k < length (range_with_len 0 n)) × HoldsAt (λ x. P x → ⊥) (range_with_len 0 n) k) → Says r ((k : ℕ) → k < n → P k)
settled P n true h = λ k l. subst P {x = get_or (range_with_len 0 n) k 0} {y = k} (sym (item n k l)) (h k 0 (omega arith) (omega (arith, length-range_with_len 0 n)))
settled P n false h = λ each.
    let l : h.0 < n = omega (arith, h.1, length-range_with_len 0 n) in
    h.2 0 (subst P {x = h.0} {y = get_or (range_with_len 0 n) h.0 0} (item n h.0 l) (each h.0 l))

-- `all`, where each call of the closure says whether the fact holds
pub all_over : {F : Type 0} {g : Mut F (ℕ × Unit {0}) Bool} {s u : Range ℕ} {f : F} (P : ℕ → Type 0) (n : ℕ) {r : Bool} → s ≡ record { start = 0; end = n } → ChecksAll nat_range_steps g s f r u → ((x : ℕ) (b : Bool) (q : F) → Called g f (x, tt) b q → (q ≡ f) × Says b (P x)) → Says r ((k : ℕ) → k < n → P k)
all_over P n {r} e ran c =
    settled P n r
    (cases_from_all _ _ r P (λ x. P x → ⊥) ran (YieldsList-from_range 0 n n e (omega arith))
    (λ x q k. c x true q k) (λ x q k. (c x false q k).1))

-- the same, where the range ends at another name of n
pub all_named : {F : Type 0} {g : Mut F (ℕ × Unit {0}) Bool} {s u : Range ℕ} {f : F} (P : ℕ → Type 0) {m n : ℕ} {r : Bool} → m ≡ n → s ≡ record { start = 0; end = m } → ChecksAll nat_range_steps g s f r u → ((x : ℕ) (b : Bool) (q : F) → Called g f (x, tt) b q → (q ≡ f) × Says b (P x)) → Says r ((k : ℕ) → k < n → P k)
all_named P {m} {n} {r} i e ran c = subst (λ (x : ℕ). Says r ((k : ℕ) → k < x → P k)) i (all_over P m e ran c)

-- the first that passes is the least
firsts : (t : ℕ → Bool) (n : ℕ) (r : Option ℕ) → MatchOption r ((k : ℕ) → 0 ≤ k → k < n → t k ≡ false) (λ i. (0 ≤ i) × (i < n) × (t i ≡ true) × ((k : ℕ) → 0 ≤ k → k < i → t k ≡ false)) → Sought (least t n) n r
firsts t n (Some i) h = (sym (least_at t n i h.1 (any_never t i (λ k l. h.3 k (omega arith) l)) h.2), h.1)
firsts t n None h = least_none t n (any_never t n (λ k l. h k (omega arith) l))

-- `find`, where each call of the closure answers by the test
pub find_over : {F : Type 0} {g : Mut F (Bor ℕ × Unit {0}) Bool} {s : Range ℕ} (u : Range ℕ) {f : F} (t : ℕ → Bool) (n : ℕ) (r : Option ℕ) → s ≡ record { start = 0; end = n } → (xs : List ℕ) × (j : F) × YieldsThen nat_range_steps s xs r u × FoldsTo (λ p x q. CalledAt g p x false q) f xs j × MatchOption r ⊤ (λ x. (h : F) × CalledAt g j x true h) → ((x : ℕ) (b : Bool) (q : F) → CalledAt g f x b q → (q ≡ f) × (b ≡ t x)) → Sought (least t n) n r
find_over u t n r e ran c =
    firsts t n r
    (subst (λ (s : Range ℕ). MatchOption r ((k : ℕ) → s.start ≤ k → k < s.end → t k ≡ false) (λ i. (s.start ≤ i) × (i < s.end) × (t i ≡ true) × ((k : ℕ) → s.start ≤ k → k < i → t k ≡ false))) e
    (first_from_Range _ _ _ r (λ x. t x ≡ true) (λ x. t x ≡ false) ran (λ x q k. sym (c x true q k).1) (λ x q k. ((c x false q k).0, sym (c x false q k).1))))

-- where a number below the limit passes, one is found, and it is the least
pub sought_some : (want limit : ℕ) (r : Option ℕ) → Sought want limit r → want < limit → IsSome r
sought_some want limit (Some r) h l = refl
sought_some want limit None h l = absurd (omega arith)

pub sought_at : (want limit : ℕ) (r : Option ℕ) {d : ℕ} → Sought want limit r → r ≡ Some d → (d ≡ want) × (d < limit)
sought_at want limit r h e = subst (Sought want limit) e h

-- and where none is found, none passes
pub sought_none : (want limit : ℕ) (r : Option ℕ) → Sought want limit r → r ≡ None → want ≡ limit
sought_none want limit r h e = subst (Sought want limit) e h
