-- `settling::route_once` meets its contract: a hex that was written before is left out, any other is the next route.
-- Assumes nothing.
use Prim.Native.Nat.{ℕ}
use mathlib.Core.List.{map}
use mathlib.Core.Path.{◌∙◌, ap, sym}
use Rattle.position.specs.Board.{nowhere}
use Rattle.position.specs.Change.{make}
use Rattle.position.specs.Change.Change.{routed}
use Rattle.position.specs.Layout.{hex}
use Rattle.field.specs.Listed.{named}
use Rattle.results.proofs.settling.route_once.Goals as goal

pub returns-then-one_stands : goal.returns-then-one_stands
returns-then-one_stands c =
    let a = c.args in
    let e = sym (c.one_stands.ensures ∙ ap (named (map (hex a.p.now) a.before.now)) c.hex-h.ensures.is) ∙ c.if-one_stands.true in
    record { count = simp e; made = simp e }

pub returns : goal.returns
returns c =
    let a = c.args in
    let e = sym (c.one_stands.ensures ∙ ap (named (map (hex a.p.now) a.before.now)) c.hex-h.ensures.is) ∙ c.if-one_stands.false in
    record {
      count = simp e;
      made = simp e (c.set_route.ensures ∙ ap (λ (h : ℕ). make a.p.now (routed a.r h nowhere nowhere nowhere)) c.hex-h.ensures.is);
    }
