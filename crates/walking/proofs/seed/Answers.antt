-- `seed` meets its contract: a hex that is not open or has no source beside it stays as it is, and from any other a walk starts.
-- Assumes nothing.
use Rattle.std.specs.Prelude.{ℕ, ◌<◌, Option, Some, None, is_some, MatchBool, not}
use mathlib.Core.Path.{◌≡◌, ap, ◌∙◌}
use native.Mathlib.Omega.{arith}
use Rattle.position.specs.Board.{ground}
use Rattle.position.specs.Ground.{next}
use Rattle.walk.specs.Chain.{mark}
use Rattle.walk.specs.Trail.{First, FirstOf}
use Rattle.walk.proofs.Steps.{two_way}
use Rattle.walk.proofs.Trails.{all_shut}
use Rattle.walk.proofs.Joins.{joined, spot_in}
use Rattle.walk.proofs.Runs.{sown_one, sown_flood}
use Rattle.walking.proofs.seed.Goals as goal

pub bounds-buf-at : goal.bounds-buf-at
bounds-buf-at c = spot_in c.args.buf.now c.requires.laid.0.view c.requires.laid.1 c.requires.buf_len

pub returns-then-buf-at-ne1 : goal.returns-then-buf-at-ne1
unfolding mark
returns-then-buf-at-ne1 c = sown_one c.requires.rest (λ e. absurd (c.if-buf-at-ne1.true e))

-- what was found, or that nothing was
looked :
    (next : ℕ → ℕ → Option ℕ) (f : ℕ → ℕ) (m a c : ℕ) (r : Option ℕ) → FirstOf next f m a c r
    → MatchBool (is_some r) ((d : ℕ) × First next f m a c 0 d × (d < 6)) (First next f m a c 0 6)
looked next f m a c (Some d) o = (d, o.0, o.1)
looked next f m a c None o = o

pub returns-then-is_none : goal.returns-then-is_none
returns-then-is_none c =
    let g = two_way (ground c.args.p.now) in
    let o = looked (next (ground c.args.p.now)) (mark c.args.buf.now) 2 c.args.s.hex 0 c.look.result c.look.ensures in
    let none = rw (c.is_none.ensures ∙ ap not c.if-is_none.true) at o in
    sown_one c.requires.rest (λ e. all_shut g (λ d p. absurd (omega arith)) none)

pub flood-requires : goal.flood-requires
unfolding mark
flood-requires c =
    let o = looked (next (ground c.args.p.now)) (mark c.args.buf.now) 2 c.args.s.hex 0 c.look.result c.look.ensures in
    let f = rw (c.is_none.ensures ∙ ap not c.if-is_none.false) at o in
    record { laid = c.requires.laid; buf_len = c.requires.buf_len; rest = c.requires.rest; hex_value = (c.if-buf-at-ne1.false, joined (f.1.found f.2)) }

pub returns : goal.returns
returns c = sown_flood c.flood.ensures
