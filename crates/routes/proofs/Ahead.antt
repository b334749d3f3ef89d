-- A search that is under way: its answer is what is still ahead, in the direction at hand or a later one, or else in what the outer loops
-- have left.
-- Assumes nothing.
use Rattle.std.specs.Prelude.{Option, Some, None}
use Prim.Native.Nat.{ℕ, zero, suc, ◌+◌, ◌-◌, ◌≤◌, ◌<◌}
use mathlib.Core.Path.{◌≡◌, refl, sym, ap, ◌∙◌}
use mathlib.Core.List.{List, [], ◌∷◌, ◌++◌}
use native.Mathlib.Numerals.{add-one}
use native.Mathlib.Omega.{arith}
use Rattle.position.specs.Board.{Board}
use Rattle.routes.specs.Search.{or_else, search_beyond, step_of, first_of, route_of, go_on, first_route}

-- where a search stands: for which group, how many steps it has made, how many are left after the next, the hexes passed, and where it is
pub record Stand : Type 0 where
  pub board : Board
  pub force : ℕ
  pub start : ℕ
  pub made : ℕ
  pub left : ℕ
  pub past : List ℕ
  pub here : ℕ

abbrev pub from : Board → ℕ → ℕ → ℕ → Stand
from b f start n = record { board = b; force = f; start = start; made = 0; left = n - 1; past = []; here = start }

-- one step further, on hex x
abbrev pub further : Stand → ℕ → Stand
further k x =
    record {
      board = k.board;
      force = k.force;
      start = k.start;
      made = suc k.made;
      left = k.left - 1;
      past = k.past ++ (x ∷ []);
      here = x;
    }

abbrev pub step_from : Stand → ℕ → Option ℕ
step_from k d = step_of k.board k.force k.start k.made k.here d

abbrev pub on_from : Stand → ℕ → Option (ℕ × ℕ × ℕ)
on_from k x = go_on k.board k.force k.start (suc k.made) k.left (k.past ++ (x ∷ [])) x

-- what one direction has
abbrev pub tries : Stand → ℕ → Option (ℕ × ℕ × ℕ)
tries k d = search_beyond (on_from k) (step_from k d)

-- what is left after a direction: the later ones, and then what the outer loops have left
abbrev pub rest : Stand → ℕ → Option (ℕ × ℕ × ℕ) → Option (ℕ × ℕ × ℕ)
rest k d outer = or_else (first_of (6 - (d + 1)) (d + 1) (tries k)) outer

-- in a loop over directions: nothing is found yet, and r, the answer, is what is found from direction d on, or else what the outer loops
-- have left
pub record Ahead (found r : Option (ℕ × ℕ × ℕ)) (k : Stand) (d : ℕ) (outer : Option (ℕ × ℕ × ℕ)) : Type 0 where
  pub yet : found ≡ None
  pub is : r ≡ or_else (first_of (6 - d) d (tries k)) outer

turn : (d : ℕ) (t : ℕ → Option (ℕ × ℕ × ℕ)) → d < 6 → first_of (6 - d) d t ≡ or_else (t d) (first_of (6 - (d + 1)) (d + 1) t)
unfolding first_of
turn d t l =
    let e : 6 - d ≡ suc (6 - (d + 1)) = omega arith in
    ap (λ (k : ℕ). first_of k d t) e ∙ ap (λ (m : ℕ). or_else (t d) (first_of (6 - (d + 1)) m t)) (sym (add-one d))

assoc : (x y z : Option (ℕ × ℕ × ℕ)) → or_else (or_else x y) z ≡ or_else x (or_else y z)
assoc (Some (a, b, c)) y z = refl
assoc None y z = refl

nothing_more : (y : Option (ℕ × ℕ × ℕ)) → y ≡ or_else y None
nothing_more (Some (a, b, c)) = refl
nothing_more None = refl

-- a search of one step or more looks in six directions
opened : (b : Board) (f start i left : ℕ) (past : List ℕ) (a : ℕ) → 1 ≤ left
    → go_on b f start i left past a
    ≡ first_of 6 0 (tries (record { board = b; force = f; start = start; made = i; left = left - 1; past = past; here = a }))
unfolding go_on
opened b f start i zero past a l = absurd (omega arith)
opened b f start i (suc k) past a l = let e : suc k - 1 ≡ k = omega arith in rw e refl

pub begins : (b : Board) (f start n : ℕ) → 1 ≤ n → Ahead None (first_route b f start n) (from b f start n) 0 None
unfolding first_route
begins b f start n l = record { yet = refl; is = opened b f start 0 n [] start l ∙ nothing_more _ }

module _ {found r : Option (ℕ × ℕ × ℕ)} {k : Stand} {d : ℕ} {outer : Option (ℕ × ℕ × ℕ)} (p : Ahead found r k d outer) where
  -- after the last direction
  over : 6 ≤ d → r ≡ outer
  unfolding first_of
  over l = let e : 6 - d ≡ 0 = omega arith in p.is ∙ ap (λ (m : ℕ). or_else (first_of m d (tries k)) outer) e

  module _ (l : d < 6) where
    is_now : {y : Option (ℕ × ℕ × ℕ)} → tries k d ≡ y → r ≡ or_else y (rest k d outer)
    is_now {y} e =
        p.is
        ∙ ap (λ (z : Option (ℕ × ℕ × ℕ)). or_else z outer) (turn d (tries k) l ∙ ap (λ (z : Option (ℕ × ℕ × ℕ)). or_else z (first_of (6 - (d + 1)) (d + 1) (tries k))) e)
        ∙ assoc y _ outer

    module _ {s : Option ℕ} (q : s ≡ step_from k d) where
      -- no step there
      pub none : s ≡ None → Ahead found r k (d + 1) outer
      none e = record { yet = p.yet; is = is_now (ap (search_beyond (on_from k)) (sym q ∙ e)) }

      module _ {x : ℕ} (e : s ≡ Some x) where
        -- the last step
        pub reached : k.left ≡ 0 → route_of (k.past ++ (x ∷ [])) ≡ r
        unfolding go_on
        reached z = sym (is_now {y = route_of (k.past ++ (x ∷ []))} (ap (search_beyond (on_from k)) (sym q ∙ e) ∙ rw z refl))

        -- one loop further in
        pub inward : 1 ≤ k.left → Ahead found r (further k x) 0 (rest k d outer)
        inward m = record { yet = p.yet; is = is_now (ap (search_beyond (on_from k)) (sym q ∙ e) ∙ opened _ _ _ _ k.left _ x m) }

-- out of a loop again: what it has left is what is left outside
pub outward : (d : ℕ) {e : ℕ} {found r : Option (ℕ × ℕ × ℕ)} {k m : Stand} {outer : Option (ℕ × ℕ × ℕ)} → Ahead found r m e (rest k d outer) → 6 ≤ e
    → Ahead found r k (d + 1) outer
outward d p l = record { yet = p.yet; is = over p l }

-- out of all
pub done : {found r : Option (ℕ × ℕ × ℕ)} {k : Stand} {d : ℕ} → Ahead found r k d None → 6 ≤ d → found ≡ r
done p l = p.yet ∙ sym (over p l)
