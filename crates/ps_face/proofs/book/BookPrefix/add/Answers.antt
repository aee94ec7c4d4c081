use Rattle.std.proofs.Common.{sym, ◌∙◌, ap}
use Rattle.ps_face.proofs.Adding.{adds_moves}
use Rattle.ps_face.proofs.book.BookPrefix.add.Goals as goal

pub compare_exchange-found-requires : goal.compare_exchange-found-requires
compare_exchange-found-requires c =
    let h = c.head.invariant in
    let seen = c.again-seen.ensures in
    let told = ap (λ t. t.book) c.self.view_is ∙ sym c.requires.book ∙ sym c.head.view_is in
    let book = ap (λ s. s.book) seen ∙ told in
    let offer = c.plain-offer.ensures in
    let pen = c.no_pen-pen.ensures in
    let moves = adds_moves c.self.inside.seen.log c.args.patch.now c.self.inside.count (sym c.self.invariant) in (
      ap (λ w. w.tracked) h,
      book,
      pen.0 ∙ book,
      offer.0,
      rw (ap (λ w. w.key) h, pen.1, offer.1, offer.3, seen) moves,
    )
