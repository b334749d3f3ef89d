-- `leads` meets its contract: off the map, to a hex that is marked otherwise and over a blocked side no step leads to such a hex, and any other does.
-- Assumes nothing.
use Prim.Native.Nat.{ℕ, ◌<◌}
use mathlib.Core.Path.{sym, ◌∙◌, subst}
use Rattle.walk.specs.Chain.{mark}
use Rattle.walk.proofs.Looks.{shut_off, shut_other, shut_blocked, opens, near_beside, near_none, near_inside}
use Rattle.looking.proofs.leads.Goals as goal

pub returns-in_default : goal.returns-in_default
returns-in_default c =
    shut_off _ _ _ _ _ (near_none c.requires.laid.0.view c.args.s.hex c.args.dir c.requires.laid.2 c.in_default.is)

pub bounds-buf-n : goal.bounds-buf-n
bounds-buf-n c =
    let n = near_inside c.requires.laid.0.view c.args.s.hex c.args.dir c.requires.laid.2 c.in-Some.is in
    subst (λ (k : ℕ). c.in-Some.t.hex < k) (sym c.requires.buf_len) n

pub returns-then-buf-n : goal.returns-then-buf-n
unfolding mark
returns-then-buf-n c = shut_other _ _ _ _ _ _ (near_beside c.requires.laid.0.view c.args.s.hex c.args.dir c.requires.laid.2 c.in-Some.is) c.if-buf-n.true

pub between-requires : goal.between-requires
between-requires c =
    (c.requires.laid.0, c.requires.laid.1, (near_beside c.requires.laid.0.view c.args.s.hex c.args.dir c.requires.laid.2 c.in-Some.is))

pub returns-then-between-eq-BLOCKED : goal.returns-then-between-eq-BLOCKED
returns-then-between-eq-BLOCKED c = shut_blocked _ _ _ _ _ (sym c.between.ensures.is ∙ c.if-between-eq-BLOCKED.true)

pub returns : goal.returns
unfolding mark
returns c =
    opens _ _ _ _ _ _ (near_beside c.requires.laid.0.view c.args.s.hex c.args.dir c.requires.laid.2 c.in-Some.is) (λ q. c.if-between-eq-BLOCKED.false (c.between.ensures.is ∙ q)) c.if-buf-n.false
