use Rattle.std.proofs.Common.{◌∙◌, Bool, List, sym, ap, subst, arith}
use Rattle.std.proofs.lemmas.List.{with_items_is}
use Rattle.ps_shown.specs.Kept.{value_of as value_kept}
use Rattle.ps_shown.specs.Shown.{shown_at}
use Rattle.ps_cells.specs.Inside.Screens.{put_back, before_of, IsNoted}
use Rattle.ps_cells.proofs.screen.Screen.put.Goals as goal

pub note-requires : goal.note-requires
note-requires c = record {
  noted = subst (λ (xs : List Bool). IsNoted c.self.inside.olds.items xs) (sym c.deref_mut.ensures.value)
      c.self.invariant.0;
  room = c.self.invariant.1;
}

pub invariant_of-self : goal.invariant_of-self
invariant_of-self c =
    let same = c.note.auto.is_put ∙ c.deref_mut.ensures.len in
    let is = with_items_is c.self.inside.is_put c.note.new.is_put same in
    let room = c.self.invariant.1 in
    let more = c.note.ensures.room in (
      subst (λ (xs : List Bool). IsNoted c.note.new.olds.items xs) (sym is) c.note.ensures.noted,
      omega (arith, room, more),
      c.self.invariant.2,
      c.self.invariant.3,
      c.self.invariant.4,
    )

pub returns-clause-before : goal.returns-clause-before
returns-clause-before c =
    ap (put_back c.note.new.olds.items) c.put-old.ensures.shown
    ∙ (c.note.ensures.back (shown_at c.self.inside.shown) (value_kept c.args.kept) c.put-old.ensures.old
    ∙ ap before_of c.self.view_is)
