-- A position with a desk of the old length is accepted exactly if it is with the players named.
-- Assumes nothing.
use Prim.Native.Nat.{ℕ}
use mathlib.Core.Path.{◌≡◌, sym, ap, ◌∙◌}
use mathlib.Core.List.{List}
use Rattle.position.specs.Layout.{desk_body, players_field, extent, count, with_players}
use Rattle.position.specs.Board.{Board}
use Rattle.position.proofs.Players.{Old, shaped_with, shaped_without, strength_with, board_with}
use Rattle.acceptance.specs.Accepted.{Accepted}
use Rattle.acceptance.specs.Broken.{accepted?, broken, broken_true, broken_false}

module _ {p : List ℕ} (o : Old p) where
  counts : count (with_players p) ≡ count p
  counts = ap (λ (b : Board). b.units.count) (board_with o)

  accepted_with : Accepted p → Accepted (with_players p)
  accepted_with a =
      record {
        shaped = shaped_with o;
        strengths = λ u l. rw (strength_with o u) (a.strengths u (rw (counts) at l));
        lawful = rw (board_with o) a.lawful;
      }

  accepted_without : Accepted (with_players p) → Accepted p
  accepted_without a =
      record {
        shaped = o.shaped;
        strengths = λ u l. rw (sym (strength_with o u)) (a.strengths u (rw (sym counts) at l));
        lawful = rw (sym (board_with o)) a.lawful;
      }

pub broken_with : (p : List ℕ) → extent p desk_body ≡ players_field → broken (with_players p) ≡ broken p
broken_with p e = at (accepted? p)
  where
    at : Dec (Accepted p) → broken (with_players p) ≡ broken p
    at (yes a) =
        broken_false (accepted_with (record { shaped = a.shaped; short = e }) a) ∙ sym (broken_false a)
    at (no n) =
        broken_true (λ a. n (accepted_without (record { shaped = shaped_without p e a.shaped; short = e }) a)) ∙ sym (broken_true n)
