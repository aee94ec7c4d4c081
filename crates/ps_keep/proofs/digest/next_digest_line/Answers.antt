use Rattle.std.proofs.Common.{◌≡◌, ◌∙◌, arith, length, rules}
use Rattle.std.proofs.lemmas.List.{length-set}
use Rattle.ps_keep.proofs.DigestLemmas.{end_stays, two_digits, whole_digest_line}
use Rattle.ps_keep.proofs.digest.next_digest_line.Goals as goal

pub bytes-preserved : goal.bytes-preserved
bytes-preserved c =
    let size : length c.finalize_reset-digest.result ≡ 16 = search rules in
    record {
      so_far = two_digits c.bytes.line c.finalize_reset-digest.result c.bytes.i _ _ c.bytes.invariant.size size
          c.bytes-test.true c.bytes.invariant.so_far c.hex_digit.ensures c.hex_digit-in-bytes.ensures;
      last = end_stays c.bytes.line c.bytes.i _ _ c.bytes-test.true c.bytes.invariant.last;
      size = length-set _ _ _ ∙ length-set _ _ _ ∙ c.bytes.invariant.size;
    }

pub returns-clause-line : goal.returns-clause-line
returns-clause-line c = λ held holds.
    let i : c.bytes.i ≡ 8 = let below = c.bytes.auto.i-end in let not = c.bytes-test.false in omega arith in
    whole_digest_line c.bytes.line c.finalize_reset-digest.result held
    (rw i at c.bytes.invariant.so_far) c.bytes.invariant.last (c.finalize_reset-digest.ensures.digest held holds)
