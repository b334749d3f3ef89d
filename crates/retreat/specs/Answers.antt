-- What the answers of this crate say in document 01's numbers: "retreated with its end, destroyed, or refused with the place".
-- Assumes nothing.
use Rattle.ruling.specs.Values.{retreated_to, eliminated}
use Rattle.ruling.specs.Verdict.{Ruling}
use Rattle.ruling.specs.Verdict.Ruling.{accepted}
use Rattle.ruling.specs.Refused.{refused_as}
use Rattle.retreat.specs.declared.Retreated.{Retreated}
use Rattle.retreat.specs.declared.Retreated.TheVariants as R

abbrev pub retreated_as : Retreated → Ruling
retreated_as (R.To end) = accepted (retreated_to end)
retreated_as R.Destroyed = accepted eliminated
retreated_as (R.Refused r) = refused_as r
