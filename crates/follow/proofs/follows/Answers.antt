-- `plot::follow::follows` meets its contract. The loop's invariant: the answer is what comes of the rest of the route and of the pushes.
-- Assumes nothing.
use mathlib.Core.Path.{refl, sym}
use native.Mathlib.Omega.{arith}
use Rattle.plot.proofs.Following.{followed_all, followed_more, followed_none, followed_wrong}
use Rattle.follow.proofs.follows.Goals as goal

pub loop-i-init : goal.loop-i-init
loop-i-init c = followed_none c.requires.0 refl c.requires.2

pub place_in-x-requires : goal.place_in-x-requires
place_in-x-requires c = c.requires.1

pub enter-requires : goal.enter-requires
enter-requires c = let u = c.loop-i.invariant in (
  u.long,
  c.requires.1,
  c.requires.2,
  u.inside,
  u.few,
)

pub returns-in_default : goal.returns-in_default
returns-in_default c = sym (followed_wrong c.loop-i.invariant (omega arith)
    c.place_in-x.ensures c.enter.ensures
    c.in_default.is)

pub loop-i-preserved : goal.loop-i-preserved
loop-i-preserved c = followed_more c.loop-i.invariant (omega arith)
    c.place_in-x.ensures
    c.enter.ensures c.in-Some.is

pub returns : goal.returns
returns c = sym (followed_all c.loop-i.invariant (omega arith))
