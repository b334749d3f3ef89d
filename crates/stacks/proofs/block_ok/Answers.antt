-- `stacks_ok::block_ok` meets its contract: its table is empty.
-- Assumes nothing.
use Rattle.acceptance.proofs.Seating.{empty_table}
use Rattle.stacks.proofs.block_ok.Goals as goal

pub seat_all-requires : goal.seat_all-requires
seat_all-requires c = (c.requires.0, c.requires.1, empty_table)
