-- The battle line: one record for each participant, and what a part of it comes to.
-- Assumes nothing.
use Rattle.std.specs.Prelude.{ℕ, ◌+◌, ◌<◌, ◌≤◌, ◌≡◌, List, [], ◌∷◌, get_or, length}
use Rattle.line.specs.declared.Fighter.{Fighter}
use Rattle.line.specs.declared.Totals.{Totals}

-- how many places the line has: "list of 1..18 units" and "at most three in a hex"
abbrev pub places : ℕ
places = 21

-- "one record for each participant, carries unit, printed strength and fighting strength"
abbrev pub fighter_of : ℕ → ℕ → ℕ → Fighter
fighter_of u s f = record { unit = u; printed = s; fighting = f }

-- the fighter at place i, and past the end one of zeros
abbrev pub fighter_at : List Fighter → ℕ → Fighter
fighter_at l i = get_or l i (fighter_of 0 0 0)

-- the first n places of the line l are filled, place i with g i
pub record Filled (g : ℕ → Fighter) (n : ℕ) (l : List Fighter) : Type 0 where
  pub size : length l ≡ places
  pub each : (i : ℕ) → i < n → fighter_at l i ≡ g i

-- what f reads of each, summed
unfoldable pub total_by : (Fighter → ℕ) → List Fighter → ℕ
total_by f [] = 0
total_by f (x ∷ xs) = f x + total_by f xs

abbrev pub fighting_of : Fighter → ℕ
fighting_of x = x.fighting

abbrev pub printed_of : Fighter → ℕ
printed_of x = x.printed

-- what a part of the line comes to in the odds, and in the losses
abbrev pub fighting_total : List Fighter → ℕ
fighting_total l = total_by fighting_of l

abbrev pub printed_total : List Fighter → ℕ
printed_total l = total_by printed_of l

-- the most that 21 strengths of a byte each come to
abbrev pub most : ℕ
most = 5355

-- r is the total x, and within that
pub record Comes (x r : ℕ) : Type 0 where
  pub is : r ≡ x
  pub small : r ≤ most

-- both totals of the fighters l
pub record Sums (l : List Fighter) (r : Totals) : Type 0 where
  pub fighting : Comes (fighting_total l) r.fighting
  pub printed : Comes (printed_total l) r.printed
