-- Refusals in document 01's numbers: "Each answers its number with the offending place".
-- Assumes nothing.
use Rattle.std.specs.Prelude.{ℕ}
use Rattle.ruling.specs.Verdict.{Ruling}
use Rattle.ruling.specs.Verdict.Ruling.{refused}
use Rattle.ruling.specs.declared.refusal.Refusal.{Refusal}
use Rattle.ruling.specs.declared.refusal.Refusal.TheVariants.{Unaccepted, Untimely, OutOfRange, WrongUnit, Forbidden, NamedTwice, NoWay, EnemyThere, AfterZone, OverAllowance, Full, NoTarget, NotBeside, WrongRoute, LossesShort, LastPhase, WrongPushes, NeutralThere}

abbrev pub number_of : Refusal → ℕ
number_of Unaccepted = 1
number_of Untimely = 2
number_of (OutOfRange k) = 3
number_of (WrongUnit k) = 4
number_of (Forbidden k) = 5
number_of (NamedTwice k) = 6
number_of (NoWay k) = 7
number_of (EnemyThere k) = 8
number_of (AfterZone k) = 9
number_of (OverAllowance k) = 10
number_of (Full k) = 11
number_of NoTarget = 12
number_of (NotBeside k) = 13
number_of WrongRoute = 14
number_of LossesShort = 15
number_of LastPhase = 16
number_of WrongPushes = 17
number_of (NeutralThere k) = 18

-- the place, 0 where a rule is never broken at one: "0 if there is none, and for 14 and 15"
abbrev pub place_of : Refusal → ℕ
place_of Unaccepted = 0
place_of Untimely = 0
place_of (OutOfRange k) = k
place_of (WrongUnit k) = k
place_of (Forbidden k) = k
place_of (NamedTwice k) = k
place_of (NoWay k) = k
place_of (EnemyThere k) = k
place_of (AfterZone k) = k
place_of (OverAllowance k) = k
place_of (Full k) = k
place_of NoTarget = 0
place_of (NotBeside k) = k
place_of WrongRoute = 0
place_of LossesShort = 0
place_of LastPhase = 0
place_of WrongPushes = 0
place_of (NeutralThere k) = k

abbrev pub refused_as : Refusal → Ruling
refused_as r = refused (number_of r) (place_of r)
