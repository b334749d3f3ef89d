-- `fate::decide` meets its contract: whether others than supply units owe is asked first, then what the outlook is.
-- Assumes nothing.
use Rattle.std.proofs.Common.{Bool, ℕ, List}
use mathlib.Core.Path.{◌≡◌, sym, ap, ◌∙◌}
use Rattle.position.specs.Board.{Board, board}
use Rattle.routes.specs.Outlook.{OutlookOf}
use Rattle.routes.specs.declared.Outlook.{Outlook}
use Rattle.shoves.specs.Group.{group_force}
use Rattle.retreat.specs.Fate.{lost_fate}
use Rattle.retreat.proofs.Alone.{alone_series}
use Rattle.retreat.proofs.Fates.{fate_illegal, fate_legal, fate_served, fate_supply, fate_trapped}
use Rattle.retreat.proofs.Groups.{told_alone, told_friends, told_illegal, told_legal}
use Rattle.fate.proofs.decide.Goals as goal

pub returns-then-not-any_walks : goal.returns-then-not-any_walks
returns-then-not-any_walks c =
    let s = c.args in
    let e = sym c.any_walks.ensures ∙ c.if-not-any_walks.true in
    c.by_part.ensures
    ∙ ap (λ (t : Bool). lost_fate t s.pushes.now) c.is_empty.ensures
    ∙ fate_supply (board s.p.now) s.h s.route.now s.pushes.now e

-- what the outlook says
seen :
    (b : Board) (h n : ℕ) (route : List ℕ) (x r : Outlook) → n ≡ b.desk.battle.owed → OutlookOf b (group_force b h) h n route x → x ≡ r
    → OutlookOf b (group_force b h) h b.desk.battle.owed route r
seen b h n route x r i o e = rw e at (rw i at o)

pub by_pushes-requires : goal.by_pushes-requires
by_pushes-requires c =
    let e = told_friends (board c.args.p.now) c.args.h c.args.route.now (seen _ _ _ _ _ _ c.owed.ensures.is c.judge.ensures c.in-Friends.is) in
    (c.requires.0, c.requires.1, c.requires.3, e.0, e.1)

pub is_part-requires : goal.is_part-requires
is_part-requires c =
    let e = told_alone (board c.args.p.now) c.args.h c.args.route.now (seen _ _ _ _ _ _ c.owed.ensures.is c.judge.ensures c.in-Alone.is) in
    (c.requires.0, c.requires.1, c.requires.3, e.0, e.1)

pub returns-in-Legal : goal.returns-in-Legal
returns-in-Legal c =
    let s = c.args in
    let e = told_legal (board s.p.now) s.h s.route.now (seen _ _ _ _ _ _ c.owed.ensures.is c.judge.ensures c.in-Legal.is) in
    c.by_route.ensures
    ∙ fate_legal (board s.p.now) s.h s.route.now s.pushes.now (sym c.any_walks.ensures ∙ c.if-not-any_walks.false) e.0 e.1

pub returns-in-Illegal : goal.returns-in-Illegal
returns-in-Illegal c =
    let s = c.args in
    let e = told_illegal (board s.p.now) s.h s.route.now (seen _ _ _ _ _ _ c.owed.ensures.is c.judge.ensures c.in-Illegal.is) in
    fate_illegal (board s.p.now) s.h s.route.now s.pushes.now (sym c.any_walks.ensures ∙ c.if-not-any_walks.false) e.0 e.1

pub returns-in-Friends : goal.returns-in-Friends
returns-in-Friends c =
    let s = c.args in
    let e = told_friends (board s.p.now) s.h s.route.now (seen _ _ _ _ _ _ c.owed.ensures.is c.judge.ensures c.in-Friends.is) in
    c.by_pushes.ensures ∙ fate_served (board s.p.now) s.h s.route.now s.pushes.now (sym c.any_walks.ensures ∙ c.if-not-any_walks.false) e.0

pub returns-in-Alone : goal.returns-in-Alone
returns-in-Alone c =
    let b = board c.args.p.now in
    let h = c.args.h in
    let e = told_alone b h c.args.route.now (seen _ _ _ _ _ _ c.owed.ensures.is c.judge.ensures c.in-Alone.is) in
    c.by_part-in-Alone.ensures
    ∙ ap (λ (t : Bool). lost_fate t c.args.pushes.now) c.is_part.ensures
    ∙ fate_trapped b h c.args.route.now c.args.pushes.now (sym c.any_walks.ensures ∙ c.if-not-any_walks.false) e.0 (alone_series b h c.requires.3 e.2 e.0)
