-- `routes_ok::route_ok` meets its contract: the numbers are asked for, and the next route where this one is not filled.
-- Assumes nothing.
use mathlib.Core.Path.{sym, ◌∙◌}
use Rattle.position.proofs.Answers.{said, unsaid}
use Rattle.position.proofs.Tallies.{not_both}
use Rattle.checking.proofs.routes_ok.route_ok.Goals as goal

pub returns-then-not-places_ok : goal.returns-then-not-places_ok
returns-then-not-places_ok c = λ t. unsaid c.places_ok.result c.if-not-places_ok.true c.places_ok.ensures t.places

pub returns-then-filled : goal.returns-then-filled
returns-then-filled c =
    record {
      first = λ e. sym c.filled.ensures ∙ c.if-filled.true;
      places = said c.places_ok.result c.if-not-places_ok.false c.places_ok.ensures;
    }

pub returns-then-filled-2 : goal.returns-then-filled-2
returns-then-filled-2 c =
    λ t. not_both _ (t.first (sym c.filled-2.ensures ∙ c.if-filled-2.true))
    (sym c.filled.ensures ∙ c.if-filled.false)

pub returns : goal.returns
returns c =
    record {
      first = λ e. not_both _ e (sym c.filled-2.ensures ∙ c.if-filled-2.false);
      places = said c.places_ok.result c.if-not-places_ok.false c.places_ok.ensures;
    }
