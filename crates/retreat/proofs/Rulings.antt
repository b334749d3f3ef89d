-- The rulings on a retreat, one law for each way that it ends.
-- Assumes nothing.
use Prim.Native.Nat.{ℕ}
use mathlib.Core.Bool.{Bool, ◌||◌, cond, false, true}
use mathlib.Core.List.{List, []}
use mathlib.Core.Path.{◌≡◌}
use Rattle.position.proofs.Tallies.{either}
use Rattle.position.specs.Board.{board}
use Rattle.position.specs.Change.{makes}
use Rattle.ruling.proofs.Meets.{pass, ruled, stop}
use Rattle.ruling.specs.Judged.{Passes, Stops}
use Rattle.ruling.specs.Values.{retreated_to, eliminated}
use Rattle.ruling.specs.Verdict.{Met}
use Rattle.ruling.specs.Verdict.Ruling.{accepted, refused}
use Rattle.aftermath.specs.Stage.{then_on}
use Rattle.retreat.specs.Retreat.{
  doom_changes,
  doomed,
  end_of,
  group_checks,
  leave_changes,
  not_part,
  not_pushed,
  not_vacant,
  push_changes,
  retreat_changes,
  retreat_rule,
  retreat_values,
}
use Rattle.retreat.proofs.Fates.{Falls, Goes, doomed_pushed, doomed_vacant, spared_part}

module _ {p : List ℕ} (h : ℕ) (route pushes : List ℕ) where
  -- refused before its route is asked for
  pub stops_group :
      {n k : ℕ} → Stops p (group_checks (board p) h route pushes) n k → Met p [] (retreat_rule (board p) h route pushes) (refused n k) p []
  unfolding retreat_rule
  stops_group s = s [] _

  module _ (o : Passes p (group_checks (board p) h route pushes)) where
    -- destroyed with its part route
    pub ends_doomed :
        {q : List ℕ} → Falls (board p) h route pushes → q ≡ makes p (then_on (board p) (doom_changes (board p) h route))
        → Met p [] (retreat_rule (board p) h route pushes) (accepted eliminated) q []
    unfolding retreat_rule retreat_values leave_changes
    ends_doomed g f =
        o [] _ _ _ _
        (pass g.part
        (pass (doomed_vacant (board p) h route pushes g.lost)
        (pass (doomed_pushed (board p) h route pushes g.lost) (rw g.lost (ruled f)))))

    -- "14 also covers a part route that is too short or not legal"; "pushes sent beside a vacant route are 14", and so is a route that is
    -- none
    pub stops_route :
        (not_part (board p) h route pushes || not_vacant (board p) h route pushes) ≡ true
        → Met p [] (retreat_rule (board p) h route pushes) (refused 14 0) p []
    unfolding retreat_rule
    stops_route g =
        o [] _ _ _ _
        (either (not_part (board p) h route pushes)
        (λ e. stop e)
        (λ e. pass e (stop (simp e at g))))

    -- "17 in place of 14 where only pushes serve and route or pushes are not legal"
    pub stops_pushes :
        doomed (board p) h ≡ false → not_vacant (board p) h route pushes ≡ false → not_pushed (board p) h route pushes ≡ true
        → Met p [] (retreat_rule (board p) h route pushes) (refused 17 0) p []
    unfolding retreat_rule
    stops_pushes e g k = o [] _ _ _ _ (pass (spared_part (board p) h route pushes e) (pass g (stop k)))

    -- retreated with its end, along a vacant route or by pushes
    pub ends_going :
        {r : Bool} {q : List ℕ} {end : ℕ} → Goes (board p) h route pushes r → end ≡ end_of (board p) route
        → q ≡ makes p (then_on (board p) (cond r (retreat_changes (board p) h route) (push_changes (board p) h route pushes)))
        → Met p [] (retreat_rule (board p) h route pushes) (accepted (retreated_to end)) q []
    unfolding retreat_rule retreat_values leave_changes
    ends_going g i f =
        o [] _ _ _ _
        (pass (spared_part (board p) h route pushes g.spared)
        (pass g.vacant (pass g.pushed (rw (i, g.spared, g.way) (ruled f)))))
