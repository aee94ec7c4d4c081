use Rattle.std.proofs.Common.{◌≡◌, ◌<◌, ℕ, List, false, true, set, sym, ap, ◌∙◌, subst, arith}
use Rattle.ps_grid.specs.declared.size.TheConstants.{CELLS}
use Rattle.ps_shown.specs.declared.kept.Kept.{Kept}
use Rattle.ps_shown.specs.Shown.{with_value}
use Rattle.ps_cells.specs.Inside.Steps.{flag_at}
use Rattle.ps_cells.specs.Inside.Screens.{put_back, IsNoted}
use Rattle.ps_cells.proofs.ScreenLemmas.{put_again, put_first, room_more, noted_more}
use Rattle.ps_cells.proofs.screen.note.Goals as goal

pub push_reserved-requires : goal.push_reserved-requires
push_reserved-requires c =
    let off = subst (λ q. flag_at c.args.is_put.now q ≡ false) c.index-place.ensures.index c.if-not-is_put-place.true in
    let below = subst (λ q. q < CELLS) c.index-place.ensures.index c.index-place.ensures.in_grid in
    let few = room_more c.args.olds.now.items c.args.is_put.now c.args.cell c.args.old c.requires.noted below off in
    let room = c.requires.room in
    let len = c.args.olds.now.ok in
    omega (arith, few, room, len)

pub returns-then-not-is_put-place-clause-noted : goal.returns-then-not-is_put-place-clause-noted
returns-then-not-is_put-place-clause-noted c =
    let off = subst (λ q. flag_at c.args.is_put.now q ≡ false) c.index-place.ensures.index c.if-not-is_put-place.true in
    let below = subst (λ q. q < CELLS) c.index-place.ensures.index c.index-place.ensures.in_grid in
    subst (λ q. IsNoted c.push_reserved.new.self.items (set c.args.is_put.now q true)) (sym c.index-place.ensures.index)
    (subst (λ (xs : List (ℕ × Kept)). IsNoted xs (set c.args.is_put.now c.args.cell true))
    (sym c.push_reserved.ensures.items)
    (noted_more c.args.olds.now.items c.args.is_put.now c.args.cell c.args.old c.requires.noted below off))

pub returns-then-not-is_put-place-clause-back : goal.returns-then-not-is_put-place-clause-back
returns-then-not-is_put-place-clause-back c = λ v y was.
    ap (λ (xs : List (ℕ × Kept)). put_back xs (with_value v c.args.cell y)) c.push_reserved.ensures.items
    ∙ put_first c.args.olds.now.items v c.args.cell y c.args.old was

pub returns-else-not-is_put-place-clause-back : goal.returns-else-not-is_put-place-clause-back
returns-else-not-is_put-place-clause-back c = λ v y was.
    put_again c.args.olds.now.items v c.args.cell y
    (c.requires.noted.noted c.args.cell
    (subst (λ q. flag_at c.args.is_put.now q ≡ true) c.index-place.ensures.index c.if-not-is_put-place.false))
