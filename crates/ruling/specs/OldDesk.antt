-- Desks of the old length, over the language: what is ruled on one, and on the same desk with the players 0, 1, 2, 3 named.
-- Assumes nothing.
use Rattle.std.specs.Prelude.{ℕ, ◌≡◌, List}
use Rattle.position.specs.Layout.{desk_body, players_field, extent, with_players}
use Rattle.ruling.specs.Verdict.{Outcome}
use Rattle.ruling.specs.Secret.{Sent, Rules, after_call}

-- the contents name a desk of the old length: "Desk, 56 bytes"
abbrev pub OldDesk : List ℕ → Type 0
OldDesk p = extent p desk_body ≡ players_field

-- the same outcome, with the players named in the position that is left
abbrev pub players_in : Outcome → Outcome
players_in o = record { answer = o.answer; position = with_players o.position; lent = o.lent }

-- "Positions of the old length are read with four players, so their rulings don't change."
abbrev pub OldDesks : {Order : Type 0} → Rules Order → Type 0
OldDesks {Order} rules =
    (p : List ℕ) (c : Sent Order) → OldDesk p → after_call rules (with_players p) c ≡ players_in (after_call rules p c)
