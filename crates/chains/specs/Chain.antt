-- A chain of pushes: the group enters a hex, the stack there goes on to another, and so on to a vacant one.
-- Assumes nothing.
use Rattle.std.specs.Prelude.{ℕ, suc, ◌<◌, ◌≡◌, Bool, true, false, not, cond, ◌&&◌, List, [], ◌∷◌, eqb, Option, Some, None}
use Rattle.position.specs.Tally.{any}
use Rattle.position.specs.Ground.{is_at}
use Rattle.field.specs.Listed.{named}
use Rattle.chains.specs.declared.Stand.{Stand}
use Rattle.chains.specs.declared.Stand.TheVariants.{Free, Loose}
use Rattle.chains.specs.Stand.{is_free, is_loose}

-- where a step over an unblocked side leads, from a hex in a direction
abbrev pub Ways : Type 0
Ways = ℕ → ℕ → Option ℕ

-- what each hex is to those who move
abbrev pub Stands : Type 0
Stands = ℕ → Stand

-- "no hex comes twice in one chain": a stack may go into hex z, which is vacant and not of the chain yet
unfoldable pub rests : Stands → List ℕ → ℕ → Bool
rests s used z = is_free (s z) && not (named used z)

-- or a stack there, not of the chain yet, can be pushed
unfoldable pub yields : Stands → List ℕ → ℕ → Bool
yields s used z = is_loose (s z) && not (named used z)

-- the test t holds of a hex that a step leads to
unfoldable pub leads_to : (ℕ → Bool) → Option ℕ → Bool
leads_to t (Some z) = t z
leads_to t None = false

-- hex z is next to hex h over an unblocked side
unfoldable pub leads : Ways → ℕ → ℕ → Bool
leads next h z = any (λ d. is_at (next h d) z) 6

-- "A pushed stack uses a vacant hex if it has one": the stack in hex h has one
unfoldable pub has_rest : Ways → Stands → List ℕ → ℕ → Bool
has_rest next s used h = any (λ d. leads_to (rests s used) (next h d)) 6

-- the hexes that pushed stacks go to, from the stack in hex h on, and the last of them, which is vacant. `used` are the hexes of the chain
-- before h, "which begins with the group's own hex"; `left` is how many stacks may still be pushed: "at most three"
pub data Chain (next : Ways) (s : Stands) : List ℕ → ℕ → ℕ → List ℕ → ℕ → Type 0 where
  -- "uses a vacant hex if it has one"
  rest :
      {used : List ℕ} {left h z : ℕ} (d : ℕ) → d < 6 → next h d ≡ Some z → rests s (h ∷ used) z ≡ true
      → Chain next s used (suc left) h (z ∷ []) z
  -- "else pushes in its turn"
  push :
      {used : List ℕ} {left h z last : ℕ} {zs : List ℕ} (d : ℕ) → d < 6 → next h d ≡ Some z → has_rest next s (h ∷ used) h ≡ false
      → yields s (h ∷ used) z ≡ true → Chain next s (h ∷ used) left z zs last → Chain next s used (suc left) h (z ∷ zs) last

-- "A chain .. pushes at most three stacks"
abbrev pub most : ℕ
most = 3

-- when a chain is done and the group stands in hex x, a stack that can be pushed stands in its last hex y, and whoever was in x is gone;
-- in between a stack has taken the place of a stack
unfoldable pub after : Stands → ℕ → ℕ → Stands
after s x y h = cond (eqb h y) Loose (cond (eqb h x) Free (s h))
