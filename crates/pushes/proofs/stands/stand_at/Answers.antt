-- `stands::stand_at` meets its contract: test by test.
-- Assumes nothing.
use Prim.Native.Nat.{ℕ}
use mathlib.Core.Path.{◌≡◌, sym, subst, ◌∙◌}
use mathlib.Core.Bool.{true}
use Rattle.position.specs.Board.{board}
use Rattle.routes.specs.Bears.{bears}
use Rattle.pushes.proofs.Standing.{stand_barred, stand_zone, borne, stand_vacant, other_firm, other_loose}
use Rattle.pushes.proofs.stands.stand_at.Goals as goal

pub returns-then-not-standable : goal.returns-then-not-standable
returns-then-not-standable c =
    let a = c.args in
    sym (stand_barred (board a.p.now) a.f a.a a.h (sym c.standable.ensures ∙ c.if-not-standable.true))

pub returns-then-has : goal.returns-then-has
returns-then-has c =
    let a = c.args in
    sym
    (stand_zone (board a.p.now) a.f a.a a.h c.requires.2 (sym c.standable.ensures ∙ c.if-not-standable.false)
    (sym c.has.ensures ∙ c.if-has.true))

pub returns-then-not-has : goal.returns-then-not-has
returns-then-not-has c =
    let a = c.args in
    sym
    (stand_vacant (board a.p.now) a.f a.a a.h (borne (board c.args.p.now) c.args.f c.args.a c.args.h c.requires.2
    (sym c.standable.ensures ∙ c.if-not-standable.false) (sym c.has.ensures ∙ c.if-has.false)) c.requires.2
    (sym c.has-2.ensures ∙ c.if-not-has.true))

pub own_stand-requires : goal.own_stand-requires
own_stand-requires c =
    let a = c.args in (
      c.requires.0,
      subst (λ (h : ℕ). bears (board a.p.now) a.f h ≡ true) c.if-h-a.true (borne (board c.args.p.now) c.args.f c.args.a c.args.h c.requires.2
          (sym c.standable.ensures ∙ c.if-not-standable.false) (sym c.has.ensures ∙ c.if-has.false)),
    )

pub returns-then-has-2 : goal.returns-then-has-2
returns-then-has-2 c =
    let a = c.args in
    sym
    (other_firm (board a.p.now) a.f a.a a.h (borne (board c.args.p.now) c.args.f c.args.a c.args.h c.requires.2
    (sym c.standable.ensures ∙ c.if-not-standable.false) (sym c.has.ensures ∙ c.if-has.false)) c.if-h-a.false c.requires.2
    (sym c.has-2.ensures ∙ c.if-not-has.false) (sym c.has-3.ensures ∙ c.if-has-2.true))

pub returns : goal.returns
returns c =
    let a = c.args in
    sym
    (other_loose (board a.p.now) a.f a.a a.h (borne (board c.args.p.now) c.args.f c.args.a c.args.h c.requires.2
    (sym c.standable.ensures ∙ c.if-not-standable.false) (sym c.has.ensures ∙ c.if-has.false)) c.if-h-a.false c.requires.2
    (sym c.has-2.ensures ∙ c.if-not-has.false) (sym c.has-3.ensures ∙ c.if-has-2.false))
