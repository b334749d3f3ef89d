-- The search for a legal route.
-- Assumes nothing.
use Rattle.std.specs.Prelude.{ℕ, zero, suc, ◌<◌, ◌≡◌, List, [], ◌∷◌, ◌++◌, Bool, true, false, cond, ◌↔◌, get_or, Option, Some, None}
use Rattle.position.specs.Board.{Board, nowhere}
use Rattle.position.specs.Ground.{next}
use Rattle.routes.specs.Legal.{enters}
use Rattle.routes.specs.Run.{Run, stay, go, LegalRoute, RouteExists}

-- the hex that a step leads to, if a run may enter it after i steps
unfoldable pub entered : Board → ℕ → ℕ → ℕ → Option ℕ → Option ℕ
entered b f start i (Some x) = cond (enters b f start i x) (Some x) None
entered b f start i None = None

-- the hex that a run goes on to from hex a in direction d after i steps
unfoldable pub step_of : Board → ℕ → ℕ → ℕ → ℕ → ℕ → Option ℕ
step_of b f start i a d = entered b f start i (next b.map a d)

-- what is found first, or else what is found later
abbrev pub or_else : Option (ℕ × ℕ × ℕ) → Option (ℕ × ℕ × ℕ) → Option (ℕ × ℕ × ℕ)
or_else (Some (x, y, z)) r = Some (x, y, z)
or_else None r = r

-- the first that is found in k directions, clockwise from direction d on
unfoldable pub first_of : ℕ → ℕ → (ℕ → Option (ℕ × ℕ × ℕ)) → Option (ℕ × ℕ × ℕ)
first_of zero d tries = None
first_of (suc k) d tries = or_else (tries d) (first_of k (suc d) tries)

-- what is found from the hex that a step leads to
abbrev pub search_beyond : (ℕ → Option (ℕ × ℕ × ℕ)) → Option ℕ → Option (ℕ × ℕ × ℕ)
search_beyond search (Some x) = search x
search_beyond search None = None

-- a route in the three places of an answer, 65535 where it has no more hexes
abbrev pub route_of : List ℕ → Option (ℕ × ℕ × ℕ)
route_of route = Some ((get_or route 0 nowhere), (get_or route 1 nowhere), (get_or route 2 nowhere))

-- the first run of `left` more hexes that goes on from hex a after i steps, behind the hexes that it has passed. It goes on only from
-- hexes that a run may enter, and looks at all six neighbours of each
unfoldable pub go_on : Board → ℕ → ℕ → ℕ → ℕ → List ℕ → ℕ → Option (ℕ × ℕ × ℕ)
go_on b f start i zero past a = route_of past
go_on b f start i (suc left) past a =
    first_of 6 0 (λ d. search_beyond (λ x. go_on b f start (suc i) left (past ++ (x ∷ [])) x) (step_of b f start i a d))

-- "The search tries directions in clockwise order and stops at the first legal route found."
unfoldable pub first_route : Board → ℕ → ℕ → ℕ → Option (ℕ × ℕ × ℕ)
first_route b f start n = go_on b f start 0 n [] start

-- a run's directions, and "clockwise order": the first direction in which two runs differ decides
abbrev pub headings : {b : Board} {f start i a last : ℕ} {route : List ℕ} → Run b f start i a route last → List ℕ
headings stay = []
headings (go d s k) = d ∷ headings k

pub data NotAfter : List ℕ → List ℕ → Type 0 where
  same : NotAfter [] []
  sooner : {d e : ℕ} {ds es : List ℕ} → d < e → NotAfter (d ∷ ds) (e ∷ es)
  later : {d : ℕ} {ds es : List ℕ} → NotAfter ds es → NotAfter (d ∷ ds) (d ∷ es)

-- a legal route that no other comes before
pub record FirstRoute (b : Board) (f start n : ℕ) (route : List ℕ) : Type 0 where
  pub legal : LegalRoute b f start n route
  pub first : (other : List ℕ) (l : LegalRoute b f start n other) → NotAfter (headings legal.run) (headings l.run)

-- what an answer says: this is the first legal route, or there is none
abbrev pub Searched : Board → ℕ → ℕ → ℕ → Option (ℕ × ℕ × ℕ) → Type 0
Searched b f start n (Some (x, y, z)) = (route : List ℕ) × FirstRoute b f start n route × (route_of route ≡ Some (x, y, z))
Searched b f start n None = RouteExists b f start n → ⊥

abbrev pub found : Option (ℕ × ℕ × ℕ) → Bool
found (Some (x, y, z)) = true
found None = false

-- The search finds the first legal route, and one exactly if one exists. Proved in proofs/First.antt.
abbrev pub FirstRight : Type 0
FirstRight = (b : Board) (f start n : ℕ) → Searched b f start n (first_route b f start n)

abbrev pub FoundRight : Type 0
FoundRight = (b : Board) (f start n : ℕ) → (found (first_route b f start n) ≡ true) ↔ RouteExists b f start n
