-- The clock of a lawful desk may be: force and phase exist, and its turn is not past the last.
-- Assumes nothing.
use Rattle.clock.specs.Clock.{Timely}
use Rattle.position.specs.Board.{Desk}
use Rattle.acceptance.specs.Accepted.{ClockOk}

pub timely : {d : Desk} → ClockOk d → Timely d.last_turn d.clock
timely k = record { turn = k.last_turn.low; force = k.force; phase = k.phase }
