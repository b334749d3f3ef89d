-- The losses' lines of the table of small rulings, as rows that one table of the whole document can hold.
-- Assumes nothing.
use Rattle.std.specs.Prelude.{ℕ, cond, List, [], ◌∷◌, eqb}
use Rattle.grid.specs.Rulings.{Row, row}
use Rattle.position.specs.Kind.{force}
use Rattle.position.specs.Board.{Board, nowhere, force_of}
use Rattle.position.specs.Tally.{any}
use Rattle.ruling.specs.Values.{accepting}
use Rattle.ruling.specs.Verdict.{Ruling, along, judged, outcome}
use Rattle.ruling.specs.Verdict.Ruling.{refused, accepted}
use Rattle.field.specs.Listed.{list_length, no_unit, all_there, named, and_then}
use Rattle.aftermath.specs.Losses.{
  owes,
  loss,
  losses,
  shown_total,
  spared,
  enough,
  owes_phasing,
  other_type,
  spared_special,
  passed_over,
  short,
  loss_checks,
  losses_rule,
}

-- 'unfolding aftermath_open' opens the questions of losses, for a row that is to be computed
unfoldable pub aftermath_open : ℕ
unfolding force force_of any along judged outcome list_length no_unit all_there named and_then owes loss losses shown_total spared enough owes_phasing other_type spared_special passed_over short loss_checks losses_rule
aftermath_open = 0

-- the first of two, and the second
abbrev pub first_or : ℕ → ℕ → ℕ → ℕ
first_or x y u = cond (eqb u 0) x y

-- "need 3": two units of the phasing force owe, of these types and strengths
abbrev pub owing : (ℕ → ℕ) → (ℕ → ℕ) → Board
owing kind strength =
    record {
      chart = record { cost = λ t. 1; multiple = λ t. 1 };
      results = record { columns = 1; attack = λ c. 1; defence = λ c. 1; code = λ c die. 9 };
      map =
          record {
            width = 1;
            height = 1;
            hexes = 1;
            terrain = λ h. 0;
            surface = λ h. 0;
            flags = λ h. 0;
            country = λ h. 0;
            sides = λ h. 0;
          };
      units =
          record {
            count = 2;
            counter = record { nationality = λ u. 2; kind = kind; allowance = λ u. 0 };
            state = record { hex = λ u. 0; shown = strength; marks = λ u. 1; role = λ u. 1 };
          };
      desk =
          record {
            clock = record { turn = 1; force = 2; phase = 1 };
            last_turn = 1;
            battle = record { stage = 2; owed = 0; need = 3 };
            route = λ r j. nowhere;
            player = λ f. f;
          };
    }

-- what is answered to a list of losses
abbrev pub answer_to : Board → List ℕ → Ruling
answer_to b units = (outcome [] [] (losses_rule b units)).answer

abbrev pub infantry : ℕ → ℕ
infantry u = 2

-- "Dx need 3, attackers 6 and 4: either alone stands; special infantry 20 and infantry 3, need 3: infantry alone is 15"
abbrev pub aftermath_rows : List Row
aftermath_rows =
    row (answer_to (owing infantry (first_or 6 4)) (0 ∷ [])) (accepted accepting) ∷
    row (answer_to (owing infantry (first_or 6 4)) (1 ∷ [])) (accepted accepting) ∷
    row (answer_to (owing (first_or 4 2) (first_or 20 3)) (1 ∷ [])) (refused 15 0) ∷
    []
