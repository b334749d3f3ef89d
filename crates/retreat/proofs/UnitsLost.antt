-- The units of a group that is destroyed are eliminated, and nobody else moves.
-- Assumes nothing.
use Prim.Native.Nat.{ℕ, ◌<◌}
use mathlib.Core.Path.{◌≡◌, refl, sym, ap, ◌∙◌}
use mathlib.Core.Bool.{true, false}
use mathlib.Core.List.{List}
use native.Mathlib.Omega.{arith}
use Rattle.position.specs.Board.{Board, board}
use Rattle.position.specs.Crowd.{owes_at}
use Rattle.position.specs.Effect.{change, changes}
use Rattle.position.proofs.Tallies.{either}
use Rattle.acceptance.proofs.Fates.{Same}
use Rattle.acceptance.proofs.Stills.{fixed_refl}
use Rattle.field.proofs.Named.{sieve_names}
use Rattle.shoves.specs.Group.{gather, group}
use Rattle.aftermath.specs.Stage.{passes_on}
use Rattle.aftermath.proofs.KeepStage.{passed_by}
use Rattle.retreat.specs.Retreat.{doom_changes, note_of}
use Rattle.retreat.specs.Units.{Eliminated, LostRight, Member}
use Rattle.retreat.proofs.Dealt.{
  dealt,
  destroyed_eliminated,
  eliminated_same,
  lasts_eliminated,
  missed,
  same_eliminated,
  same_refl,
  sieve_not,
}
use Rattle.retreat.proofs.Fates.{falls_by}
use Rattle.retreat.proofs.Leaving.{falls, gather_falls, own_falls}
use Rattle.retreat.proofs.Road.{after}
use Rattle.retreat.proofs.Words.{destroyed_right, lost_any, on_due, parts_right}

-- a stage that passes on changes no unit
passed_units : (c : Board) → (changes c (passes_on c)).units ≡ c.units
unfolding change
passed_units c = passed_by (λ d. d.units ≡ c.units) c (λ _ _. refl) (λ _ _. refl) (λ _. refl)

pub passed_same : (c : Board) (w : ℕ) → Same c.units (changes c (passes_on c)).units w
passed_same c w = rw (passed_units c) (same_refl c.units w)

-- who is not of the group does not owe there
pub not_member : (b : Board) (h w : ℕ) → w < b.units.count → (Member b h w → ⊥) → owes_at b h w ≡ false
not_member b h w l n = either (owes_at b h w) (λ y. absurd (n (record { counted = l; owes = y }))) (λ y. y)

-- the route is noted, and the group is destroyed
module _ (b : Board) (h : ℕ) (route : List ℕ) where
  abbrev pub noted : Board
  noted = change b (note_of b h route)

  abbrev fallen : Board
  fallen = changes b (doom_changes b h route)

  -- a note on the desk changes no unit
  pub noted_same : (w : ℕ) → Same b.units noted.units w
  unfolding change note_of
  noted_same w = same_refl b.units w

  pub noted_count : noted.units.count ≡ b.units.count
  unfolding change note_of
  noted_count = refl

  pub noted_map : noted.map ≡ b.map
  unfolding change note_of
  noted_map = refl

  falls_all : fallen ≡ changes noted (gather falls (group b h))
  unfolding doom_changes changes
  falls_all = ap (changes noted) (sym (gather_falls (group b h)))

  falls_group : (u : ℕ) → u < b.units.count → owes_at b h u ≡ true → Eliminated noted fallen u
  unfolding group changes
  falls_group u l e =
      rw falls_all
      (dealt falls own_falls u (lasts_eliminated u)
      (λ c f. destroyed_eliminated c u (omega (arith, f.count, noted_count)))
      (group b h)
      noted
      (fixed_refl noted)
      (sieve_names (owes_at b h) b.units.count u l e))

  falls_others : (w : ℕ) → owes_at b h w ≡ false → Same noted.units fallen.units w
  unfolding group
  falls_others w e = rw falls_all (missed falls own_falls w (group b h) noted (sieve_not (owes_at b h) b.units.count w e))

pub lost_right : LostRight
lost_right p h route pushes d a =
    let b = board p in
    let o = on_due d in
    let q = (destroyed_right p h route pushes d).0 a in
    let e = after d (falls_by b h route pushes (lost_any b h o q.0) ((parts_right b h o route pushes).1 (q.1, q.2))) in
    let c = fallen b h route in
    rw e
    (record {
      group =
          λ u m.
          eliminated_same (same_eliminated (noted_same b h route u) (falls_group b h route u m.counted m.owes)) (passed_same c u);
      others =
          λ w l n.
          (passed_same c w).hex ∙ (falls_others b h route w (not_member b h w l n)).hex ∙ (noted_same b h route w).hex;
    })
