-- What is certain of all calls together, each as one statement. Proved in proofs/Demands.antt.
-- Assumes nothing.
use Rattle.std.specs.Prelude.{ℕ, ◌≤◌, ◌<◌, ◌≡◌, not, false, List, length, eqb}
use Rattle.grid.specs.Map.{On}
use Rattle.grid.specs.Walk.{Distance, distance_of}
use Rattle.position.specs.Kind.{canada}
use Rattle.position.specs.Board.{board, enemy, neutral}
use Rattle.acceptance.specs.Accepted.{Accepted}
use Rattle.ruling.specs.Verdict.{Ruling, Outcome, Met}
use Rattle.ruling.specs.Verdict.Ruling.{refused}
use Rattle.ruling.specs.Packed.{Packs}
use Rattle.ruling.specs.Secret.{Sent, Keeping, SecretRuns}
use Rattle.ruling.specs.OldDesk.{OldDesk, OldDesks}
use Rattle.field.specs.Scene.{scene}
use Rattle.walk.specs.Chain.{mark, OneIf}
use Rattle.supply.specs.Supply.{Supplied}
use Rattle.rules.specs.Order.{Order, rule_of, replies_of, verdict, step}
use Rattle.rules.specs.Order.Order.{supply}

-- demand 1: "Every call takes every position, order, list and roll, bad ones included, ends, and answers with a ruling or a refusal by
-- number.": for all bytes, orders and buffers there is an outcome that meets the call's promise. This holds of any rules, by the shape of
-- a verdict; that the code ends, and answers so, is what the contracts of the eight calls in src/lib.rt say, which ask for nothing
abbrev pub Total : Type 0
Total =
    (p : List ℕ) (c : Sent Order)
    → (o : Outcome) × Met p c.lent (verdict p c.order c.lent) o.answer o.position o.lent

-- and the number that the C library answers with is read back: it and the order give the ruling, its low byte is 0 exactly if the call is
-- accepted, and refusals are 1 to 18
abbrev pub NumbersRight : Type 0
NumbersRight = (p : List ℕ) (c : Sent Order) → Packs (replies_of c.order) (step p c).answer

-- "A unit is in supply exactly if an unblocked line of hexes to a source exists.": what an accepted supply call writes for a hex is 1 if
-- the chain exists, and 0 if it does not
abbrev pub SupplyRight : Type 0
SupplyRight =
    (p l : List ℕ) (n h : ℕ) → Accepted p → length l ≡ (board p).map.hexes → n ≤ canada → h < (board p).map.hexes
    → OneIf (Supplied (scene (board p)) n h) (mark (step p (record { order = supply n; lent = l })).lent h)

-- "Distance is the fewest steps over map hexes, terrain ignored.": so is what the closed form says, by which pushes are judged
abbrev pub DistanceRight : Type 0
DistanceRight = (w h a b : ℕ) → On w h a → On w h b → Distance w h a b (distance_of w a b)

-- an accepted position stays accepted after every call
abbrev pub StaysAccepted : Type 0
StaysAccepted = Keeping rule_of

-- demand 3: "Two accepted positions that differ only in face-down strengths, the same calls: same rulings, same bytes but for the
-- strengths still face down, as long as what was turned over was equal." Over lists of orders, each with the bytes lent; what was
-- turned over is asked of the first run alone, at the moment when it is turned over.
abbrev pub Secrecy : Type 0
Secrecy = SecretRuns rule_of

-- request Four: "Positions of the old length are read with four players, so their rulings don't change." On such a desk every other force is
-- Enemy and none is neutral, as it was; and for all orders and buffers the outcome is that on the same position with the players 0, 1, 2, 3
-- named, but for those bytes.
pub record OldDesksRight : Type 0 where
  pub enemies : (p : List ℕ) → OldDesk p → (f g : ℕ) → enemy (board p) f g ≡ not (eqb f g)
  pub neutrals : (p : List ℕ) → OldDesk p → (f g : ℕ) → neutral (board p) f g ≡ false
  pub rulings : OldDesks rule_of

-- "Two results that fit the same promise are proved equal"
abbrev pub OneResult : Type 0
OneResult =
    (p l : List ℕ) (o : Order) (a a' : Ruling) (q q' m m' : List ℕ) → Met p l (verdict p o l) a q m → Met p l (verdict p o l) a' q' m'
    → (a ≡ a') × (q ≡ q') × (m ≡ m')

-- "A refusal changes no byte that was lent."
abbrev pub RefusalsLeaveAll : Type 0
RefusalsLeaveAll =
    (p : List ℕ) (c : Sent Order) (n k : ℕ) → (step p c).answer ≡ refused n k → ((step p c).position ≡ p) × ((step p c).lent ≡ c.lent)
