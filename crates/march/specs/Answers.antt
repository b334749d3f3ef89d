-- What the answers of this crate say in document 01's numbers.
-- Assumes nothing.
use Rattle.ruling.specs.Values.{accepting}
use Rattle.ruling.specs.Verdict.{Ruling}
use Rattle.ruling.specs.Verdict.Ruling.{accepted}
use Rattle.ruling.specs.Refused.{refused_as}
use Rattle.march.specs.declared.Moved.{Moved}
use Rattle.march.specs.declared.Moved.TheVariants as M

abbrev pub moved_as : Moved → Ruling
moved_as M.Done = accepted accepting
moved_as (M.Refused r) = refused_as r
