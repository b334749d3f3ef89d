-- `shape::shape` meets its contract: the view says where each body begins and how long it is, and the entries are asked to say the same.
-- Assumes nothing.
use mathlib.Core.Path.{refl, subst}
use native.Mathlib.Omega.{arith}
use Rattle.position.specs.Layout.{map_at}
use Rattle.position.specs.Laid.{SizedOf}
use Rattle.position.proofs.Answers.{said, unsaid}
use Rattle.position.proofs.Shapes.{entry_is}
use Rattle.shape.proofs.shape.Goals as goal

pub returns-in_err-v : goal.returns-in_err-v
returns-in_err-v c = rw c.from_residual.ensures c.in_err-v.ensures

pub entry-requires : goal.entry-requires
entry-requires c = let s = c.in_ok-v.ensures in (omega arith, omega arith)

pub returns-then-not-entry : goal.returns-then-not-entry
returns-then-not-entry c = λ t. unsaid c.entry.result c.if-not-entry.true c.entry.ensures t.chart

pub overflow_mul-v : goal.overflow_mul-v
overflow_mul-v c = let s = c.in_ok-v.ensures in omega arith

pub overflow_add-v : goal.overflow_add-v
overflow_add-v c = let s = c.in_ok-v.ensures in omega arith

pub entry-requires-2 : goal.entry-requires-2
entry-requires-2 c = let s = c.in_ok-v.ensures in (omega arith, omega arith)

pub returns-then-not-entry-2 : goal.returns-then-not-entry-2
returns-then-not-entry-2 c =
    λ t. let s = c.in_ok-v.ensures in unsaid c.entry-2.result c.if-not-entry-2.true c.entry-2.ensures
    (entry_is refl (omega arith) t.results)

pub overflow_mul-v-2 : goal.overflow_mul-v-2
overflow_mul-v-2 c = let s = c.in_ok-v.ensures in omega arith

pub overflow_add-v-2 : goal.overflow_add-v-2
overflow_add-v-2 c = let s = c.in_ok-v.ensures in omega arith

pub overflow_mul-v-3 : goal.overflow_mul-v-3
overflow_mul-v-3 c = let s = c.in_ok-v.ensures in omega arith

pub overflow_add-v-3 : goal.overflow_add-v-3
overflow_add-v-3 c = let s = c.in_ok-v.ensures in omega arith

pub entry-requires-3 : goal.entry-requires-3
entry-requires-3 c =
    let s = c.in_ok-v.ensures in (omega arith, omega arith)

pub returns-then-not-entry-3 : goal.returns-then-not-entry-3
unfolding map_at
returns-then-not-entry-3 c =
    λ t. let s = c.in_ok-v.ensures in unsaid c.entry-3.result c.if-not-entry-3.true c.entry-3.ensures
    (entry_is (omega arith) (omega arith) t.map)

pub overflow_mul-v-4 : goal.overflow_mul-v-4
overflow_mul-v-4 c =
    let s = c.in_ok-v.ensures in omega arith

pub overflow_add-v-4 : goal.overflow_add-v-4
overflow_add-v-4 c =
    let s = c.in_ok-v.ensures in omega arith

pub entry-requires-4 : goal.entry-requires-4
entry-requires-4 c =
    let s = c.in_ok-v.ensures in (omega arith, omega arith)

pub returns-then-not-entry-4 : goal.returns-then-not-entry-4
returns-then-not-entry-4 c =
    λ t. let s = c.in_ok-v.ensures in unsaid c.entry-4.result c.if-not-entry-4.true c.entry-4.ensures
    (entry_is (omega arith) (omega arith) t.units)

pub overflow_add-v-5 : goal.overflow_add-v-5
overflow_add-v-5 c =
    let s = c.in_ok-v.ensures in omega arith

pub entry-requires-5 : goal.entry-requires-5
entry-requires-5 c =
    let s = c.in_ok-v.ensures in (omega arith, omega arith)

pub returns-then-not-entry-5 : goal.returns-then-not-entry-5
returns-then-not-entry-5 c =
    λ t. let s = c.in_ok-v.ensures in unsaid c.entry-5.result c.if-not-entry-5.true c.entry-5.ensures
    (entry_is (omega arith) (omega arith) t.desk)

pub returns : goal.returns
unfolding map_at
returns c =
    let s = c.in_ok-v.ensures in
    record {
      shaped = record {
        chart = said c.entry.result c.if-not-entry.false c.entry.ensures;
        results = entry_is refl (omega arith) (said c.entry-2.result c.if-not-entry-2.false c.entry-2.ensures);
        columns = s.columns;
        map = entry_is (omega arith) (omega arith)
            (said c.entry-3.result c.if-not-entry-3.false c.entry-3.ensures);
        width = s.width;
        height = s.height;
        units = entry_is (omega arith) (omega arith)
            (said c.entry-4.result c.if-not-entry-4.false c.entry-4.ensures);
        count = s.count;
        desk = entry_is (omega arith) (omega arith) (said c.entry-5.result c.if-not-entry-5.false c.entry-5.ensures);
        whole = s.whole;
      };
      view = s.view;
      fits = s.fits;
    }
