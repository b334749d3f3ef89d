-- A call goes on: it is accepted, and less is left afterwards.
-- Assumes nothing.
use Prim.Native.Nat.{ℕ, ◌<◌}
use mathlib.Core.Path.{◌≡◌, sym, ap, subst, ◌∙◌}
use mathlib.Core.List.{List}
use lib.ListN.{length}
use Rattle.position.specs.Board.{Board, board}
use Rattle.position.specs.Change.{Change, makes}
use Rattle.position.specs.Effect.{changes}
use Rattle.position.proofs.Changes.{board_makes}
use Rattle.acceptance.specs.Accepted.{Accepted}
use Rattle.ruling.specs.Secret.{Sent}
use Rattle.ruling.specs.Values.{Values}
use Rattle.ruling.specs.Verdict.{Met}
use Rattle.ruling.specs.Verdict.Ruling.{accepted}
use Rattle.ruling.proofs.Checks.{checked}
use Rattle.rules.specs.Order.{Order, rule_of, step}
use Rattle.rules.specs.Onward.{left}

pub record Goes (p : List ℕ) (c : Sent Order) : Type 0 where
  pub values : Values
  pub answers : (step p c).answer ≡ accepted values
  pub falls : left (board (step p c).position) < left (board p)

-- a rule that is met with an acceptance on an accepted position, where its changes leave less
pub goes_met :
    {p m : List ℕ} {vs : Values} → Accepted p → (c : Sent Order) (xs : List Change)
    → Met p c.lent (rule_of (board p) c.order (length c.lent)) (accepted vs) (makes p xs) m
    → left (changes (board p) xs) < left (board p) → Goes p c
goes_met {p} {vs = vs} a c xs r f =
    let g = checked a r in
    record {
      values = vs;
      answers = sym g.answers;
      falls = subst (λ (d : Board). left d < left (board p)) (sym (ap board (sym g.leaves) ∙ board_makes a.shaped xs)) f;
    }
