-- A series of pushes, where the search says that one exists.
-- Assumes nothing.
use Rattle.std.specs.Prelude.{ℕ, zero, suc, ◌≡◌, Bool, true, cond, ◌&&◌, List, [], ◌∷◌, ◌++◌, length, Option, Some, None}
use Rattle.position.specs.Board.{Board}
use Rattle.chains.specs.declared.Stand.{Stand}
use Rattle.chains.specs.declared.Stand.TheVariants.{Shut, Free, Loose}
use Rattle.chains.specs.Stand.{stand}
use Rattle.chains.specs.Chain.{Ways, Stands, yields, leads_to, has_rest, most, after}
use Rattle.chains.specs.Series.{Land, land_of, Series, LegalSeries}
use Rattle.chains.specs.Serves.{ends_in, on_with, on_over, serves, pushes_serve}

-- a number below n that passes the test, if one does
unfoldable pub pick : (ℕ → Bool) → ℕ → ℕ
pick t zero = 0
pick t (suc n) = cond (t n) n (pick t n)

-- where a step from hex h leads to a hex that passes the test, if one does
unfoldable pub step_for : (ℕ → Bool) → Ways → ℕ → Option ℕ
step_for t next h = next h (pick (λ d. leads_to t (next h d)) 6)

-- a stack is pushed to where a step leads, and `on` says what is pushed from there
unfoldable pub push_on : (ℕ → List ℕ) → Option ℕ → List ℕ
push_on on (Some z) = z ∷ on z
push_on on None = []

-- the pushes of a chain from the stack in hex h to hex y, if it may end there
unfoldable pub chain_to : Ways → Stands → List ℕ → ℕ → ℕ → ℕ → List ℕ
chain_to next s used zero h y = []
chain_to next s used (suc left) h y =
    cond (has_rest next s (h ∷ used) h)
    (y ∷ [])
    (push_on (λ z. chain_to next s (h ∷ used) left z y)
    (step_for (λ z. yields s (h ∷ used) z && ends_in next s (h ∷ used) left z y) next h))

-- what the search comes to: the hexes that the group enters, and those that pushed stacks go to
pub record Sought : Type 0 where
  pub route : List ℕ
  pub pushes : List ℕ

-- nothing more is done,
unfoldable pub still : Sought
still = record { route = []; pushes = [] }

-- or the group enters hex x with this chain, and then the rest is done
unfoldable pub entering : ℕ → List ℕ → Sought → Sought
entering x chain rest = record { route = x ∷ rest.route; pushes = chain ++ rest.pushes }

-- the group, gone from hex a into hex x, is brought further: `on` says whether it can be from there, and `then` how. With the chain that
-- ends in hex y,
unfoldable pub seek_with : Land → (Stands → ℕ → Sought) → Stands → ℕ → ℕ → ℕ → Sought
seek_with g then s a x y = entering x (chain_to g.next s (a ∷ []) most x y) (then (after s x y) x)

-- or, by what hex x is, with no chain or with one that serves
unfoldable pub seek_over : Land → (Stands → ℕ → Bool) → (Stands → ℕ → Sought) → Stands → ℕ → ℕ → Stand → Sought
seek_over g on then s a x Shut = still
seek_over g on then s a x Free = entering x [] (then s x)
seek_over g on then s a x Loose = seek_with g then s a x (pick (on_with g on s a x) g.hexes)

-- the same from where a step leads
unfoldable pub seek_at : Land → (Stands → ℕ → Bool) → (Stands → ℕ → Sought) → Stands → ℕ → Option ℕ → Sought
seek_at g on then s a (Some x) = seek_over g on then s a x (s x)
seek_at g on then s a None = still

-- a series of k more steps from hex a after i steps, if one goes on from there
unfoldable pub series_of : Land → Stands → ℕ → ℕ → ℕ → Sought
series_of g s zero i a = still
series_of g s (suc k) i a =
    seek_at g (λ t x. serves g t k (suc i) x) (λ t x. series_of g t k (suc i) x) s a
    (step_for (on_over g (λ t x. serves g t k (suc i) x) s i a) g.next a)

-- a series of n steps for a group of force f in hex `start`, if one exists
unfoldable pub series_for : Board → ℕ → ℕ → ℕ → Sought
series_for b f start n = series_of (land_of b start) (stand b f start) n 0 start

-- what was found is a series of k more steps
pub record Finds (g : Land) (s : Stands) (k i a : ℕ) (r : Sought) : Type 0 where
  pub long : length r.route ≡ k
  pub series : Series g s i a r.route r.pushes

-- Where the search says that there is one, one is found. Proved in proofs/Find.antt, and so is the next.
abbrev pub SeriesFound : Type 0
SeriesFound = (g : Land) (s : Stands) (k i a : ℕ) → serves g s k i a ≡ true → Finds g s k i a (series_of g s k i a)

-- It is a legal one.
abbrev pub FindRight : Type 0
FindRight =
    (b : Board) (f start n : ℕ) → pushes_serve b f start n ≡ true
    → LegalSeries b f start n (series_for b f start n).route (series_for b f start n).pushes
