use Rattle.std.proofs.Common.{sym, refl, ap, Ok}
use Rattle.ps_content.specs.declared.content.Content.TheVariants.{Number}
use Rattle.ps_content.proofs.EntryLemmas.{kind_of-too_long, kind_of-empty, kind_of-number, kind_of-formula}
use Rattle.ps_content.proofs.EntryLemmas.{kind_of-word}
use Rattle.ps_content.proofs.NumberLemmas.{is_number-some, is_number-default, kept_number}
use Rattle.ps_content.proofs.entry.read_entry.Goals as goal

pub returns-then-bytes-gt-LONGEST_ENTRY : goal.returns-then-bytes-gt-LONGEST_ENTRY
returns-then-bytes-gt-LONGEST_ENTRY c = rw (kind_of-too_long c.args.bytes.now c.if-bytes-gt-LONGEST_ENTRY.true) refl

pub returns-then-is_empty : goal.returns-then-is_empty
returns-then-is_empty c =
    rw (kind_of-empty c.args.bytes.now c.if-bytes-gt-LONGEST_ENTRY.false (sym c.if-is_empty.ensures)) refl

pub returns-in-Some : goal.returns-in-Some
returns-in-Some c =
    rw (kind_of-number c.args.bytes.now c.if-bytes-gt-LONGEST_ENTRY.false (sym c.if-is_empty.ensures)
    (is_number-some c.args.bytes.now _ c.in-Some.ensures))
    (ap (λ z. Ok (Number z)) (kept_number c.args.bytes.now _ c.in-Some.ensures))

pub returns-then-begins_formula : goal.returns-then-begins_formula
returns-then-begins_formula c =
    rw (kind_of-formula c.args.bytes.now c.if-bytes-gt-LONGEST_ENTRY.false (sym c.if-is_empty.ensures)
    (is_number-default c.args.bytes.now _ c.read_number.ensures c.in_default.not-Some)
    (sym c.if-begins_formula.ensures))
    c.read_formula.ensures

pub returns : goal.returns
returns c =
    rw (kind_of-word c.args.bytes.now c.if-bytes-gt-LONGEST_ENTRY.false (sym c.if-is_empty.ensures)
    (is_number-default c.args.bytes.now _ c.read_number.ensures c.in_default.not-Some)
    (sym c.if-begins_formula.ensures))
    c.read_word.ensures
