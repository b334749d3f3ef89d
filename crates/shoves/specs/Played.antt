-- A legal series of pushes, told on the board: each step's chain is carried out, and the group's step too, before the next step looks at
-- the map. What chains/specs/Series.antt says by an overlay of the first board is the same.
-- Assumes nothing.
use Rattle.std.specs.Prelude.{ℕ, suc, ◌≤◌, ◌<◌, ◌≡◌, true, false, List, [], ◌∷◌, ◌++◌, ◌↔◌, length, Some}
use Rattle.position.specs.Role as Role
use Rattle.position.specs.Kind.{supply_kind}
use Rattle.position.specs.Board.{Board, force_of, nowhere}
use Rattle.position.specs.Ground.{next}
use Rattle.position.specs.Crowd.{owes_at}
use Rattle.position.specs.Effect.{changes}
use Rattle.acceptance.specs.Accepted.{UnitsOk, RoutesOk}
use Rattle.field.specs.Listed.{named}
use Rattle.routes.specs.Bears.{bears, refuge}
use Rattle.chains.specs.Stand.{stand}
use Rattle.chains.specs.Chain.{most}
use Rattle.chains.specs.Series.{land_of, Onto, Series, LegalSeries}
use Rattle.shoves.specs.Shoves.{clears, group_to}

-- "It can be pushed if none of them is a supply unit and none owes (role 1)": the stack of force f in hex z, which bears
pub record CanBePushed (b : Board) (f z : ℕ) : Type 0 where
  pub bear : bears b f z ≡ true
  pub unit : ℕ
  pub counted : unit < b.units.count
  pub there : b.units.state.hex unit ≡ z
  -- "held by the force"
  pub own : (w : ℕ) → w < b.units.count → b.units.state.hex w ≡ z → force_of b w ≡ f
  pub kind : (w : ℕ) → w < b.units.count → b.units.state.hex w ≡ z → b.units.counter.kind w ≡ supply_kind → ⊥
  pub role : (w : ℕ) → w < b.units.count → b.units.state.hex w ≡ z → b.units.state.role w ≡ Role.owes → ⊥

-- "if any bearing vacant hex lies beside it over an unblocked side": none does beside hex h
abbrev pub NoRefuge : Board → ℕ → ℕ → Type 0
NoRefuge b f h = (d z : ℕ) → d < 6 → next b.map h d ≡ Some z → refuge b f z ≡ true → ⊥

-- the hexes that pushed stacks go to, from the stack in hex h on, and the last of them; `used` are the hexes of the chain before h: "the
-- hex in which the group stands before the step, the hex that it enters, and the hexes that pushed stacks go to; no hex comes twice; at
-- most three stacks are pushed in it". "Vacant is asked of the map as it is before this step's chain moves anything"
pub data ChainOn (b : Board) (f : ℕ) : List ℕ → ℕ → ℕ → List ℕ → ℕ → Type 0 where
  -- "it goes into one of these, whichever the owner names"
  settles :
      {used : List ℕ} {left h z : ℕ} (d : ℕ) → d < 6 → next b.map h d ≡ Some z → refuge b f z ≡ true → named (h ∷ used) z ≡ false
      → ChainOn b f used (suc left) h (z ∷ []) z
  -- "only if none does may it push, and then any stack that can be pushed"
  displaces :
      {used : List ℕ} {left h z last : ℕ} {zs : List ℕ} (d : ℕ) → d < 6 → next b.map h d ≡ Some z → NoRefuge b f h
      → CanBePushed b f z → named (h ∷ used) z ≡ false → ChainOn b f (h ∷ used) left z zs last
      → ChainOn b f used (suc left) h (z ∷ zs) last

-- the board once hex x is cleared by these pushes, and once the group of hex a has entered it
abbrev pub once_cleared : Board → ℕ → List ℕ → Board
once_cleared b x ps = changes b (clears b x ps).done

abbrev pub once_entered : Board → ℕ → ℕ → Board
once_entered b a x = changes b (group_to b a x)

-- the hexes that the group of force f enters from hex a on, after i steps, and the hexes that pushed stacks go to: "Each step's chain is
-- done, the stacks moved and the group moved, before the next step looks at the map"
pub data Played (f start : ℕ) : Board → ℕ → ℕ → List ℕ → List ℕ → Type 0 where
  halts : {b : Board} {i a : ℕ} → Played f start b i a [] []
  -- "A step into a vacant hex takes none"
  enters :
      {b : Board} {i a x : ℕ} {route pushes : List ℕ} (d : ℕ) → Onto (land_of b start) (suc i) a d x → refuge b f x ≡ true
      → Played f start (once_entered b a x) (suc i) x route pushes → Played f start b i a (x ∷ route) pushes
  -- "A step into a hex that holds the group's own force takes the hex that the stack there goes to", and so on
  clears_in :
      {b : Board} {i a x y : ℕ} {route zs pushes : List ℕ} (d : ℕ) → Onto (land_of b start) (suc i) a d x → CanBePushed b f x
      → ChainOn b f (a ∷ []) most x zs y
      → Played f start (once_entered (once_cleared b x (zs ++ pushes)) a x) (suc i) x route pushes
      → Played f start b i a (x ∷ route) (zs ++ pushes)

-- unit u is of a group of force f in hex a that retreats: it is no supply unit, for where "only supply units owe, the group is destroyed"
pub record Retreats (b : Board) (f a u : ℕ) : Type 0 where
  pub counted : u < b.units.count
  pub owes : owes_at b a u ≡ true
  pub own : force_of b u ≡ f
  pub kind : b.units.counter.kind u ≡ supply_kind → ⊥

-- The two say the same. Proved in proofs/Played.antt, and so is the next.
abbrev pub PlayedRight : Type 0
PlayedRight =
    (b : Board) → UnitsOk b → RoutesOk b → b.map.hexes ≤ nowhere → (f start i a u : ℕ) → Retreats b f a u → (land_of b start).far a ≡ i
    → (route pushes : List ℕ)
    → Series (land_of b start) (stand b f a) i a route pushes ↔ Played f start b i a route pushes

-- route and pushes are legal for a group of force f in hex `start` that owes n hexes
pub record PlayedLegal (b : Board) (f start n : ℕ) (route pushes : List ℕ) : Type 0 where
  pub long : length route ≡ n
  pub played : Played f start b 0 start route pushes

-- So the legal ones are those that can be played.
abbrev pub LegalPlayedRight : Type 0
LegalPlayedRight =
    (b : Board) → UnitsOk b → RoutesOk b → b.map.hexes ≤ nowhere → (f start n u : ℕ) → Retreats b f start u → (route pushes : List ℕ)
    → LegalSeries b f start n route pushes ↔ PlayedLegal b f start n route pushes
