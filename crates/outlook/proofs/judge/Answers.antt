-- `outlook::judge` meets its contract: the window is painted and searched, the route is tested, and friends are looked for where no
-- route exists.
-- Assumes nothing.
use mathlib.Core.Path.{sym, ap, ◌∙◌}
use native.Mathlib.Omega.{arith}
use Rattle.std.proofs.Common.{rules}
use Rattle.grid.specs.Region.{place_of}
use Rattle.grid.proofs.Walks.{same_zero}
use Rattle.position.proofs.Sides.{on_view}
use Rattle.routes.proofs.Nearby.{nobody_near}
use Rattle.routes.proofs.Part.{tested_run}
use Rattle.routes.proofs.Windows.{window_is}
use Rattle.outlook.proofs.judge.Goals as goal

pub spot-here-requires : goal.spot-here-requires
spot-here-requires c = on_view c.requires.0 _ c.requires.1

pub place-requires : goal.place-requires
place-requires c =
    let s = c.spot-here.ensures.0 in
    let r = c.round-at.ensures in
    (s, r.ok, r.near _ s.on (omega (arith, same_zero c.args.v.width c.spot-here.result.hex)))

-- no legal route exists, and then the test is that of a run
pub returns-then-near : goal.returns-then-near
returns-then-near c =
    let out = c.if-not-found.true in
    let e = sym c.finds-found.ensures ∙ out in
    (e, c.is_legal-fits.ensures ∙ tested_run _ _ _ _ _ e c.tested.ensures out)

pub returns-then-not-found : goal.returns-then-not-found
returns-then-not-found c =
    let out = c.if-not-found.true in
    let e = sym c.finds-found.ensures ∙ out in
    let here = c.spot-here.ensures.1 in
    let w = window_is c.round-at.ensures here (search rules) c.paint_blank.ensures in
    let home = c.place.ensures.0 ∙ ap (place_of c.args.v.width c.round-at.result) here in (
      e,
      c.is_legal-fits.ensures ∙ tested_run _ _ _ _ _ e c.tested.ensures out,
      nobody_near c.requires.0 w c.requires.1 (search rules) home (sym c.near.ensures ∙ c.if-near.false),
    )
