-- Supply as a test: sweep the map, hex by hex, and make a source of each open hex that has a source beside it. So many sweeps are made
-- that the last changes nothing; then the sources are the supplied hexes (proofs/Sweeps.antt: `chained-iff`).
-- Assumes nothing.
use Rattle.std.specs.Prelude.{ℕ, zero, suc, Bool, false, not, cond, ◌&&◌, List, [], ◌∷◌, length, set, ltb, eqb, Option, Some, None}
use Rattle.position.specs.Tally.{any}
use Rattle.walk.specs.Chain.{mark}

-- a source lies there
unfoldable pub source_at : List ℕ → Option ℕ → Bool
source_at l (Some b) = eqb (mark l b) 2
source_at l None = false

-- hex a is open and no source, and a source lies beside it
unfoldable pub joins : (ℕ → ℕ → Option ℕ) → List ℕ → ℕ → Bool
joins next l a = ltb 0 (mark l a) && (not (eqb (mark l a) 2) && any (λ d. source_at l (next a d)) 6)

unfoldable pub touch : (ℕ → ℕ → Option ℕ) → List ℕ → ℕ → List ℕ
touch next l a = cond (joins next l a) (set l a 2) l

-- hexes 0 to n - 1 in their order
unfoldable pub sweep : (ℕ → ℕ → Option ℕ) → List ℕ → ℕ → List ℕ
sweep next l zero = l
sweep next l (suc n) = touch next (sweep next l n) n

unfoldable pub sweeps : (ℕ → ℕ → Option ℕ) → ℕ → List ℕ → List ℕ
sweeps next zero l = l
sweeps next (suc k) l = sweeps next k (sweep next l (length l))

-- a chain leads from hex a to a source, by the grades l
unfoldable pub chained : (ℕ → ℕ → Option ℕ) → List ℕ → ℕ → Bool
chained next l a = eqb (mark (sweeps next (suc (length l)) l) a) 2

-- the numbers f of hexes 0 to n - 1
unfoldable pub tab : ℕ → (ℕ → ℕ) → List ℕ
tab zero f = []
tab (suc n) f = f 0 ∷ tab n (λ k. f (suc k))

-- what the walk makes of the grades l
unfoldable pub reach : (ℕ → ℕ → Option ℕ) → List ℕ → List ℕ
reach next l = tab (length l) (λ k. cond (chained next l k) 1 0)
