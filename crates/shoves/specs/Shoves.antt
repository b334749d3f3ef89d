-- How route and pushes are carried out, step by step.
-- Assumes nothing.
use Rattle.std.specs.Prelude.{ℕ, ◌-◌, ◌≤◌, ◌<◌, ◌≡◌, cond, true, false, List, [], ◌∷◌, ◌++◌, leb, eqb, length, get_or}
use Rattle.position.specs.Role as Role
use Rattle.position.specs.Kind.{supply_kind}
use Rattle.position.specs.Board.{Board}
use Rattle.position.specs.Change.{Change}
use Rattle.position.specs.Change.Change.{placed, destroyed, assigned}
use Rattle.position.specs.Effect.{changes}
use Rattle.field.specs.Scene.{scene}
use Rattle.field.specs.Zone.{vacant}
use Rattle.shoves.specs.Group.{group, stack, gather}

-- unit u goes to hex z: "Pushed units change their hex and nothing else"
unfoldable pub shifts : ℕ → ℕ → List Change
shifts z u = placed u z ∷ []

-- the whole stack of hex h goes to hex z
unfoldable pub stack_to : Board → ℕ → ℕ → List Change
stack_to b h z = gather (shifts z) (stack b h)

-- what was done to clear a hex, and the pushes that are left over
pub record Cleared : Type 0 where
  pub done : List Change
  pub left : List ℕ

-- hex h is cleared. A vacant one takes no push. Else the first push is where its stack goes, and that hex is cleared before: "the next one
-- is where that stack goes, and so on, until a hex is vacant"
unfoldable pub clears : Board → ℕ → List ℕ → Cleared
clears b h [] = record { done = []; left = [] }
clears b h (z ∷ ps) =
    cond (vacant (scene b) h) (record { done = []; left = z ∷ ps })
    (let r = clears b z ps in record { done = r.done ++ stack_to (changes b r.done) h z; left = r.left })

-- out of which hex push j takes a stack, where hex h is cleared by the pushes from number k on: the first out of h, each other out of the hex
-- that the push before it names
unfoldable pub out_of : ℕ → List ℕ → ℕ → ℕ → ℕ
out_of h ps k j = cond (leb j k) h (get_or ps (j - 1) 0)

-- the chain that clears hex h has the pushes from number k up to number e: each hex on the way is held
pub record Chained (b : Board) (h : ℕ) (ps : List ℕ) (k e : ℕ) : Type 0 where
  pub first : k ≤ e
  pub few : e ≤ length ps
  pub held : (j : ℕ) → k ≤ j → j < e → vacant (scene b) (out_of h ps k j) ≡ false

-- and it ends there, before push e: "until a hex is vacant"
pub record ChainEnds (b : Board) (h : ℕ) (ps : List ℕ) (k e : ℕ) : Type 0 where
  pub chained : Chained b h ps k e
  pub ends : e < length ps → vacant (scene b) (out_of h ps k e) ≡ true

-- "supply units among them are destroyed", as the group leaves; the others go to hex x
unfoldable pub goes_to : Board → ℕ → ℕ → List Change
goes_to b x u = cond (eqb (b.units.counter.kind u) supply_kind) (destroyed u ∷ []) (placed u x ∷ [])

-- the group of hex a goes to hex x
unfoldable pub group_to : Board → ℕ → ℕ → List Change
group_to b a x = gather (goes_to b x) (group b a)

-- "role now 0"
unfoldable pub frees : ℕ → List Change
frees u = assigned u Role.none ∷ []

-- "Each step's chain is done before the next step": hex x is cleared, the group goes there, and so on
unfoldable pub marches : Board → ℕ → List ℕ → List ℕ → List Change
marches b a [] ps = gather frees (group b a)
marches b a (x ∷ route) ps =
    let r = clears b x ps in
    let c = changes b r.done in
    let xs = group_to c a x in
    r.done ++ (xs ++ marches (changes c xs) x route r.left)
