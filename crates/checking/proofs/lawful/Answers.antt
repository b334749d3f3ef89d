-- `lawful` meets its contract: all eight questions are asked.
-- Assumes nothing.
use Rattle.position.proofs.Answers.{said, unsaid}
use Rattle.checking.proofs.lawful.Goals as goal

pub returns-then-not-chart_ok : goal.returns-then-not-chart_ok
returns-then-not-chart_ok c = λ t. unsaid c.chart_ok.result c.if-not-chart_ok.true c.chart_ok.ensures t.chart

pub returns-then-not-results_ok : goal.returns-then-not-results_ok
returns-then-not-results_ok c = λ t. unsaid c.results_ok.result c.if-not-results_ok.true c.results_ok.ensures t.results

pub returns-then-not-map_ok : goal.returns-then-not-map_ok
returns-then-not-map_ok c = λ t. unsaid c.map_ok.result c.if-not-map_ok.true c.map_ok.ensures t.map

pub returns-then-not-clock_ok : goal.returns-then-not-clock_ok
returns-then-not-clock_ok c = λ t. unsaid c.clock_ok.result c.if-not-clock_ok.true c.clock_ok.ensures t.clock

pub returns-then-not-players_ok : goal.returns-then-not-players_ok
returns-then-not-players_ok c = λ t. unsaid c.players_ok.result c.if-not-players_ok.true c.players_ok.ensures t.players

pub returns-then-not-stage_ok : goal.returns-then-not-stage_ok
returns-then-not-stage_ok c = λ t. unsaid c.stage_ok.result c.if-not-stage_ok.true c.stage_ok.ensures t.stage

pub returns-then-not-routes_ok : goal.returns-then-not-routes_ok
returns-then-not-routes_ok c = λ t. unsaid c.routes_ok.result c.if-not-routes_ok.true c.routes_ok.ensures t.routes

pub returns-then-not-units_ok : goal.returns-then-not-units_ok
returns-then-not-units_ok c = λ t. unsaid c.units_ok.result c.if-not-units_ok.true c.units_ok.ensures t.units

pub returns : goal.returns
returns c =
    record {
      chart = said c.chart_ok.result c.if-not-chart_ok.false c.chart_ok.ensures;
      results = said c.results_ok.result c.if-not-results_ok.false c.results_ok.ensures;
      map = said c.map_ok.result c.if-not-map_ok.false c.map_ok.ensures;
      units = said c.units_ok.result c.if-not-units_ok.false c.units_ok.ensures;
      clock = said c.clock_ok.result c.if-not-clock_ok.false c.clock_ok.ensures;
      players = said c.players_ok.result c.if-not-players_ok.false c.players_ok.ensures;
      stage = said c.stage_ok.result c.if-not-stage_ok.false c.stage_ok.ensures;
      routes = said c.routes_ok.result c.if-not-routes_ok.false c.routes_ok.ensures;
    }
