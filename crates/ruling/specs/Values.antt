-- The values of an accepted answer, by name.
-- Assumes nothing.
use Rattle.std.specs.Prelude.{ℕ}

-- how a call is accepted. "Calls with no answer named above answer accepted": plainly. An attack is fought; a group has retreated, or is
-- destroyed
pub data Manner : Type 0 where
  plain : Manner
  fought : Manner
  retreated : Manner
  destroyed : Manner

-- "column, from 1, and result code" of a battle, the end of a retreat; 0 where an answer has no such value
pub record Values : Type 0 where
  pub manner : Manner
  pub column : ℕ
  pub code : ℕ
  pub hex : ℕ

-- the values of each answer
abbrev pub accepting : Values
accepting = record { manner = plain; column = 0; code = 0; hex = 0 }

abbrev pub fought_with : ℕ → ℕ → Values
fought_with column code = record { manner = fought; column = column; code = code; hex = 0 }

abbrev pub retreated_to : ℕ → Values
retreated_to hex = record { manner = retreated; column = 0; code = 0; hex = hex }

abbrev pub eliminated : Values
eliminated = record { manner = destroyed; column = 0; code = 0; hex = 0 }
