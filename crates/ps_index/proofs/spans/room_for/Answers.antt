use Rattle.std.proofs.Common.{◌≡◌, ℕ, ◌+◌, ◌/◌, ◌<◌, ◌∙◌, sym, ap, arith, length}
use Rattle.ps_index.proofs.PartedLists.{parted_longer}
use Rattle.ps_index.specs.Inside.Parted.{parted}
use Rattle.ps_index.specs.declared.span.Span.{Span}
use Rattle.ps_index.proofs.spans.room_for.Goals as goal

pub returns-clause-same : goal.returns-clause-same
returns-clause-same c =
    let xs = c.args.places.now.items in
    let ys = c.resize.new.self.items in
    let more = c.len-len.result / 8 + 1 in
    let none : c.args.free ≡ 0 = omega (arith, c.if-free-ne0.false) in
    let size : length xs ≡ c.len-len.result = omega (arith, c.len-len.ensures, c.args.places.now.ok) in
    let longer : length ys ≡ length xs + more = omega (arith, size, c.in_ok-resize.ensures.len, c.resize.new.self.ok) in
    ap (λ (m : ℕ). parted ys m more) (sym size)
    ∙ parted_longer xs ys c.args.front more (omega (arith, c.requires)) longer
    (λ (k : ℕ) (d : Span) (lt : k < length xs). c.resize.ensures.by_index.0 k d (omega (arith, size, lt))
    (omega (arith, c.args.places.now.ok, lt)))
    ∙ ap (λ (m : ℕ). parted xs c.args.front m) (sym none)
