-- `ending::judge_unit` judges one unit: left alone where it is of another nationality or off the map, else marked by what the map says.
-- Assumes nothing.
use mathlib.Core.Path.{sym, ap, ◌∙◌}
use native.Mathlib.Omega.{arith}
use Rattle.position.specs.Bits.{with, without, supplied}
use Rattle.position.specs.Change.{make}
use Rattle.position.specs.Change.Change.{marked}
use Rattle.position.proofs.Changes.{laid_make}
use Rattle.walk.specs.Chain.{mark}
use Rattle.march.proofs.Ends.{with_byte, without_byte, left_other, left_off, judged_in, judged_out}
use Rattle.ending.proofs.judge_unit.Goals as goal

pub returns-then-nationality-n : goal.returns-then-nationality-n
returns-then-nationality-n c = (c.requires.0, left_other (λ e. c.if-nationality-n.true (c.nationality.ensures.is ∙ e)))

pub returns-then-hexes-h : goal.returns-then-hexes-h
returns-then-hexes-h c =
    (c.requires.0, left_off (sym c.nationality.ensures.is ∙ c.if-nationality-n.false) (omega (arith, c.hex-h.ensures.is, c.requires.0.view.hexes)))

pub mark-requires : goal.mark-requires
mark-requires c = (c.requires.0, rw c.with.ensures (with_byte _ c.marks-m.ensures.small))

pub returns-then-map-h-ge2 : goal.returns-then-map-h-ge2
unfolding mark
returns-then-map-h-ge2 c = (
  rw c.mark.ensures (laid_make c.requires.0 _),
  judged_in (sym c.nationality.ensures.is ∙ c.if-nationality-n.false) c.requires.0.shaped (omega (arith, c.hex-h.ensures.is, c.requires.0.view.hexes))
      (rw (sym c.hex-h.ensures.is) c.if-map-h-ge2.true)
      (c.mark.ensures ∙ ap (λ x. make c.args.p.now (marked c.args.u x)) (c.with.ensures ∙ ap (with supplied) c.marks-m.ensures.is)),
)

pub mark-requires-2 : goal.mark-requires-2
mark-requires-2 c = (c.requires.0, rw c.without.ensures (without_byte _ c.marks-m.ensures.small))

pub returns : goal.returns
unfolding mark
returns c = (
  rw c.mark-2.ensures (laid_make c.requires.0 _),
  judged_out (sym c.nationality.ensures.is ∙ c.if-nationality-n.false) c.requires.0.shaped (omega (arith, c.hex-h.ensures.is, c.requires.0.view.hexes))
      (rw (sym c.hex-h.ensures.is) c.if-map-h-ge2.false)
      (c.mark-2.ensures ∙ ap (λ x. make c.args.p.now (marked c.args.u x)) (c.without.ensures ∙ ap (without supplied) c.marks-m.ensures.is)),
)
