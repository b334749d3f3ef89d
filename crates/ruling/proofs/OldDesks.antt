-- What is ruled on a desk of the old length is ruled on it with the players named, once for all calls.
-- Assumes nothing.
use Prim.Native.Nat.{ℕ}
use mathlib.Core.Path.{◌≡◌, refl, sym, ap, ap₂, ◌∙◌}
use mathlib.Core.Bool.{Bool, true, false}
use mathlib.Core.List.{List}
use lib.ListN.{length}
use Rattle.position.specs.Layout.{strength, with_players}
use Rattle.position.specs.Board.{Board, board}
use Rattle.position.specs.Change.{turned}
use Rattle.position.proofs.Players.{Old, Lengthened, strength_with, board_with, twin_players, turned_with}
use Rattle.position.proofs.Twins.{twin_makes}
use Rattle.acceptance.specs.Accepted.{Accepted}
use Rattle.acceptance.specs.Broken.{accepted?, broken_true}
use Rattle.acceptance.proofs.OldDesks.{broken_with}
use Rattle.ruling.specs.Verdict.{Judge, Verdict, after_check, judged, outcome}
use Rattle.ruling.specs.Verdict.Judge.{reveal, rule}
use Rattle.ruling.specs.Verdict.Verdict.{refuse_if, judge}
use Rattle.ruling.specs.Verdict.Ruling.{accepted}
use Rattle.ruling.specs.Secret.{Rules, verdict_on, after_call}
use Rattle.ruling.specs.OldDesk.{players_in, OldDesks}

-- one judgement of both
judged_with : (j : Judge) (p q : List ℕ) → Lengthened p q → judged q j ≡ players_in (judged p j)
unfolding judged
judged_with (reveal u k) p q s =
    ap (λ (x : ℕ). judged (turned q u) (k x)) (ap (λ (r : List ℕ). strength r u) s.is ∙ strength_with s.old u)
    ∙ judged_with (k (strength p u)) (turned p u) (turned q u) (turned_with s u)
judged_with (rule vs xs l) p q s =
    ap (λ (r : List ℕ). record { answer = accepted vs; position = r; lent = l }) (twin_makes twin_players s xs).is

-- one verdict
outcome_with : (v : Verdict) (p l : List ℕ) → Old p → outcome (with_players p) l v ≡ players_in (outcome p l v)
unfolding outcome
outcome_with (refuse_if true n k v) p l o = refl
outcome_with (refuse_if false n k v) p l o = outcome_with v p l o
outcome_with (judge j) p l o = judged_with j p (with_players p) (record { old = o; is = refl })

-- one call
module _ {Order : Type 0} (rules : Rules Order) where
  pub old_desks : OldDesks rules
  unfolding after_check outcome
  old_desks p c e = at (accepted? p)
    where
      asked : (t : Bool) → Board → Verdict
      asked t b = refuse_if t 1 0 (rules b c.order (length c.lent))

      at : Dec (Accepted p) → after_call rules (with_players p) c ≡ players_in (after_call rules p c)
      at (yes a) =
          let o : Old p = record { shaped = a.shaped; short = e } in
          ap₂ (λ (t : Bool) (b : Board). outcome (with_players p) c.lent (asked t b)) (broken_with p e) (board_with o)
          ∙ outcome_with (verdict_on rules p c) p c.lent o
      at (no n) =
          ap (λ (t : Bool). outcome (with_players p) c.lent (asked t (board (with_players p)))) (broken_with p e ∙ broken_true n)
          ∙ sym (ap (λ (t : Bool). players_in (outcome p c.lent (asked t (board p)))) (broken_true n))
