-- "Types: 0 armour, 1 mechanised, 2 infantry, 3 militia (force 3 only), 4 special infantry (P.A.L. only), 5 supply unit (nationality 0..2, allowance 0)."
-- Assumes nothing.
use Rattle.std.specs.Prelude.{ℕ, zero, suc, Bool, true, false, cond, leb, eqb}

-- the types by name, and how many there are
abbrev pub armour : ℕ
armour = 0

abbrev pub mechanised : ℕ
mechanised = 1

abbrev pub infantry : ℕ
infantry = 2

abbrev pub militia : ℕ
militia = 3

abbrev pub special : ℕ
special = 4

abbrev pub supply_kind : ℕ
supply_kind = 5

abbrev pub kinds : ℕ
kinds = 6

-- "Nationalities: 0 S.A.U., 1 E.S.C., 2 P.A.L., 3 US, 4 Canada", and how many there are
abbrev pub sau : ℕ
sau = 0

abbrev pub esc : ℕ
esc = 1

abbrev pub pal : ℕ
pal = 2

abbrev pub us : ℕ
us = 3

abbrev pub canada : ℕ
canada = 4

abbrev pub nationalities : ℕ
nationalities = 5

-- the force of US and Canada
abbrev pub home : ℕ
home = 3

-- what a type's row of the table says; the last for what is no type
abbrev pub by_kind : {A : Type 0} → ℕ → A → A → A → A → A → A → A → A
by_kind zero ar me inf mi sp su none = ar
by_kind (suc zero) ar me inf mi sp su none = me
by_kind (suc (suc zero)) ar me inf mi sp su none = inf
by_kind (suc (suc (suc zero))) ar me inf mi sp su none = mi
by_kind (suc (suc (suc (suc zero)))) ar me inf mi sp su none = sp
by_kind (suc (suc (suc (suc (suc zero))))) ar me inf mi sp su none = su
by_kind (suc (suc (suc (suc (suc (suc k)))))) ar me inf mi sp su none = none

-- "A unit type carries its own fixed answers: whether it casts a zone (0, 1, 2, 4),"
unfoldable pub casts_zone : ℕ → Bool
casts_zone k = by_kind k true true true false true false false

-- "may attack (all but 5),"
unfoldable pub may_attack : ℕ → Bool
may_attack k = by_kind k true true true true true false false

-- "may move by land (all but 5),"
unfoldable pub moves_by_land : ℕ → Bool
moves_by_land k = by_kind k true true true true true false false

-- "and moves in phase 2 (0, 1)."
unfoldable pub moves_in_phase2 : ℕ → Bool
moves_in_phase2 k = by_kind k true true false false false false false

-- "Types 4 and 5 are always tried."
unfoldable pub always_tried : ℕ → Bool
always_tried k = by_kind k false false false false true true false

-- "3 and 4 form force 3": every other nationality is a force of its own
unfoldable pub force : ℕ → ℕ
force n = cond (eqb n canada) home n

-- the nationalities that a type may have: "militia (force 3 only)", "special infantry (P.A.L. only)", "supply unit (nationality 0..2 ..)"
unfoldable pub may_belong : ℕ → ℕ → Bool
may_belong k n =
    by_kind k (leb n canada) (leb n canada) (leb n canada) (eqb (force n) home) (eqb n pal) (leb n pal) false

-- the allowance that a type may have: 0..30, and "supply unit (.. allowance 0)"
unfoldable pub may_allow : ℕ → ℕ → Bool
may_allow k a = by_kind k (leb a 30) (leb a 30) (leb a 30) (leb a 30) (leb a 30) (eqb a 0) false
