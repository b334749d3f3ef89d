-- Lists of units and of hexes that are sent to a call, and the units that pass a test.
-- Assumes nothing.
use Rattle.std.specs.Prelude.{ℕ, zero, suc, ◌<◌, Bool, false, cond, ◌&&◌, ◌||◌, List, [], ◌∷◌, ◌++◌, length, get_or, leb, eqb}
use Rattle.position.specs.Board.{Board}
use Rattle.ruling.specs.Verdict.{Verdict, along}
use Rattle.ruling.specs.Verdict.Verdict.{refuse_if}

-- "list of 1..18 units"
unfoldable pub list_length : List ℕ → Bool
list_length units = leb 1 (length units) && leb (length units) 18

-- "number .. out of range": the unit x at place k is none
unfoldable pub no_unit : Board → ℕ → ℕ → ℕ → Verdict → Verdict
no_unit b s x k rest = refuse_if (leb b.units.count x) 3 k rest

unfoldable pub all_there : Board → List ℕ → Verdict → Verdict
all_there b units rest = along (no_unit b) (λ s x. s) 0 units 1 (λ s. rest)

-- every number of the list is a unit's
abbrev pub Counted : Board → List ℕ → Type 0
Counted b units = (i : ℕ) → i < length units → get_or units i 0 < b.units.count

-- "a hex not below width x height": the hex x at place k is none
unfoldable pub off_map : Board → ℕ → ℕ → ℕ → Verdict → Verdict
off_map b s x k rest = refuse_if (leb b.map.hexes x) 3 k rest

unfoldable pub on_map_all : Board → List ℕ → Verdict → Verdict
on_map_all b path rest = along (off_map b) (λ s x. s) 0 path 1 (λ s. rest)

-- the same for a list whose places are counted from k on
unfoldable pub on_map_from : Board → List ℕ → ℕ → Verdict → Verdict
on_map_from b path k rest = along (off_map b) (λ s x. s) 0 path k (λ s. rest)

-- every number of the path is a hex of the map
abbrev pub Charted : Board → List ℕ → Type 0
Charted b path = (i : ℕ) → i < length path → get_or path i 0 < b.map.hexes

-- x stands in the list
unfoldable pub named : List ℕ → ℕ → Bool
named [] x = false
named (y ∷ ys) x = eqb y x || named ys x

-- the list with one unit more behind it
unfoldable pub and_then : List ℕ → ℕ → List ℕ
and_then before u = before ++ (u ∷ [])

-- the numbers below n that pass the test, in order
unfoldable pub sieve : (ℕ → Bool) → ℕ → List ℕ
sieve t zero = []
sieve t (suc n) = sieve t n ++ cond (t n) (n ∷ []) []
