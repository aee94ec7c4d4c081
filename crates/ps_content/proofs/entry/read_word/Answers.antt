use Rattle.std.proofs.Common.{sym, refl}
use Rattle.ps_content.proofs.EntryLemmas.{word_of-tally, word_of-choice, word_of-quoted, word_of-text, rest-range}
use Rattle.ps_content.proofs.entry.read_word.Goals as goal

pub returns-then-eq : goal.returns-then-eq
returns-then-eq c = rw (word_of-tally c.args.bytes.now (sym (rw c.as_slice.ensures at c.if-eq.ensures))) refl

pub returns-then-eq-2 : goal.returns-then-eq-2
returns-then-eq-2 c =
    rw (word_of-choice c.args.bytes.now (sym (rw c.as_slice.ensures at c.if-eq.ensures))
    (sym (rw c.as_slice-2.ensures at c.if-eq-2.ensures))) refl

pub returns-then-starts_with : goal.returns-then-starts_with
returns-then-starts_with c =
    rw (word_of-quoted c.args.bytes.now (sym (rw c.as_slice.ensures at c.if-eq.ensures))
    (sym (rw c.as_slice-2.ensures at c.if-eq-2.ensures))
    (sym c.if-starts_with.ensures.value))
    (rw rest-range at c.read_text.ensures)

pub returns : goal.returns
returns c =
    rw (word_of-text c.args.bytes.now (sym (rw c.as_slice.ensures at c.if-eq.ensures))
    (sym (rw c.as_slice-2.ensures at c.if-eq-2.ensures))
    (sym c.if-starts_with.ensures.value))
    c.read_text-2.ensures
