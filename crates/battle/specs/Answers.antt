-- What the answers of this crate say in document 01's numbers: "The answer is column, from 1, and result code."
-- Assumes nothing.
use Rattle.ruling.specs.Values.{fought_with}
use Rattle.ruling.specs.Verdict.{Ruling}
use Rattle.ruling.specs.Verdict.Ruling.{accepted}
use Rattle.ruling.specs.Refused.{refused_as}
use Rattle.battle.specs.declared.Fought.{Fought}
use Rattle.battle.specs.declared.Fought.TheVariants as F

abbrev pub fought_as : Fought → Ruling
fought_as (F.Done column code) = accepted (fought_with column code)
fought_as (F.Refused r) = refused_as r
