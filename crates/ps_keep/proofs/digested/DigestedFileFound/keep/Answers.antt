use Rattle.std.proofs.Common.{◌≡◌, ◌++◌, ◌∙◌, [], List, ℕ, ap, sym, take}
use Rattle.ps_keep.specs.Lines.{text, whole_lines}
use Rattle.ps_keep.specs.Traces.{Given, noted, nothing_given}
use Rattle.ps_keep.proofs.CoverLemmas.{cover_opened}
use Rattle.ps_keep.proofs.MirrorLemmas.{after_keep}
use Rattle.ps_keep.proofs.digested.DigestedFileFound.keep.Goals as goal

-- the bytes up to a place, where it ends the whole lines
up_to : (bytes slice : List ℕ) (count whole : ℕ) → slice ≡ bytes → count ≡ whole
    → take whole slice ≡ text (whole_lines slice) → take count bytes ≡ text (whole_lines bytes)
up_to bytes slice count whole same is ends = rw (is, ← same) ends

-- .. are noted first
noted_first : (bytes slice : List ℕ) (count : ℕ) (before after : Given) → after ≡ noted [] (take count slice) before
    → before ≡ nothing_given → slice ≡ bytes → after.written ≡ take count bytes
noted_first bytes slice count before after is none same =
    ap (λ (g : Given). g.written) is ∙ ap (λ (g : Given). g.written ++ take count slice) none
    ∙ ap (λ (l : List ℕ). take count l) same

pub invariant_of-result : goal.invariant_of-result
invariant_of-result g c =
    let clean = c.self.inside.clean.items in
    let written : c.note.new.self.given.written ≡ take c.args.count clean = noted_first clean c.deref.result.now
    c.args.count c.new-trace.result.given c.note.new.self.given c.note.ensures c.new-trace.ensures
    c.deref.ensures.value in
    let opened : c.note-3.new.self.given.written ≡ take c.args.count clean = noted_first clean c.deref-2.result.now
    c.args.count c.new-opened.result.given c.note-3.new.self.given c.note-3.ensures c.new-opened.ensures
    c.deref-2.ensures.value in (
      after_keep _ _ _ clean c.note.new.self.given.written c.self.inside.whole c.args.count _ c.note-2.new.self.given
          c.self.inside.hasher c.self.invariant
          (up_to clean c.as_slice.result.now c.args.count c.count_whole.result c.as_slice.ensures.value
          c.if-count-count_whole.false c.count_whole.ensures.lines)
          c.in_ok-inner.ensures.kept c.in_ok-inner.ensures.synced c.in_ok-inner.ensures.open c.note-2.ensures written,
      cover_opened _ _ _ _ (opened ∙ sym (ap (λ (g : Given). g.written) c.note-2.ensures ∙ written)),
    )
