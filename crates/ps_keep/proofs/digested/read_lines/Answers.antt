use Rattle.std.proofs.Common.{◌≡◌, ◌++◌, ◌∷◌, ◌∙◌, [], List, ℕ, ap, arith, drop, length, refl, rules, subst, sym}
use Rattle.md5.specs.declared.Md5.{Md5}
use Rattle.std.proofs.lemmas.List.{length-take-le}
use Rattle.md5.specs.Md5.{Holds}
use Rattle.ps_keep.specs.Digests.{digest_line}
use Rattle.ps_keep.specs.Lines.{whole_lines}
use Rattle.ps_keep.proofs.DamageLemmas.{damaged_after, intact_digest, intact_nothing, intact_other}
use Rattle.ps_keep.proofs.DigestLemmas.{compared_other, compared_same}
use Rattle.ps_keep.proofs.ReadLemmas.{read_all, read_digest, read_no_line, read_nothing, read_numbers, read_other}
use Rattle.ps_keep.proofs.ReadLemmas.{read_wrong}
use Rattle.ps_keep.proofs.digested.read_lines.Goals as goal
use Rattle.ps_keep.proofs.digested.read_lines.Goals.{then-whole-eq0+in_ok-extend_from_slice, else-whole-eq0}

-- what a hasher took in of the slice of a list is that of the list
copied : {slice list : List ℕ} (start : ℕ) → slice ≡ list → (hasher : Md5) (held : List ℕ)
    → Holds hasher (held ++ drop start slice) → Holds hasher (held ++ drop start list)
copied start same hasher held = subst (λ (l : List ℕ). Holds hasher (held ++ drop start l)) same

pub returns-then-ne-clause-fault : goal.returns-then-ne-clause-fault
returns-then-ne-clause-fault c =
    damaged_after c.args.bytes.now c.lines.rest.now c.lines.number c.lines.intact c.lines.invariant.intact_so_far
    (read_wrong c.args.bytes.now c.lines.rest.now c.in-Some.after.now c.lines.clean.items c.in-Some.line.now
    c.lines.before.items c.lines.hasher c.lines.hashed c.lines.number c.lines.others c.lines.invariant.so_far
    c.in-Some.ensures.line (sym c.is_digest_line.ensures ∙ c.if-is_digest_line.true)
    (λ held holds. compared_other c.ne.result c.in-Some.line.now c.next_digest_line-expected.result
    (held ++ drop c.lines.hashed c.lines.clean.items) c.ne.ensures c.if-ne.true
    (c.next_digest_line-expected.ensures.line _ (copied c.lines.hashed c.as_slice.ensures.value
    c.hash_from.new.hasher held
    (c.hash_from.ensures.hashed held holds)))))

pub lines-preserved-in_ok-reserve : goal.lines-preserved-in_ok-reserve
lines-preserved-in_ok-reserve c = record {
  so_far = read_digest c.args.bytes.now c.lines.rest.now c.in-Some.after.now c.lines.clean.items c.in-Some.line.now
      c.lines.before.items c.push_reserved.new.self.items c.lines.hasher c.next_digest_line-expected.new.hasher
      c.lines.hashed c.lines.number c.lines.others c.len-hashed.result c.lines.invariant.so_far c.in-Some.ensures.line
      c.in-Some.ensures.shorter (sym c.is_digest_line.ensures ∙ c.if-is_digest_line.true)
      (c.len-hashed.ensures ∙ sym c.as_slice.ensures.len ∙ ap (λ (l : List ℕ). length l) c.as_slice.ensures.value)
      (λ held holds.
      let hashed = held ++ drop c.lines.hashed c.lines.clean.items in
      let expected = c.next_digest_line-expected.ensures.line hashed (copied c.lines.hashed c.as_slice.ensures.value
      c.hash_from.new.hasher held (c.hash_from.ensures.hashed held holds)) in
      let same : c.in-Some.line.now ≡ digest_line hashed = compared_same c.ne.result c.in-Some.line.now
      c.next_digest_line-expected.result hashed c.ne.ensures c.if-ne.false expected in (
        same,
        subst (Holds c.next_digest_line-expected.new.hasher) (expected ∙ ap (λ (l : List ℕ). l ++ 10 ∷ []) (sym
            same)) c.next_digest_line-expected.ensures.chain,
      )) (c.push_reserved.ensures.items ∙ ap (λ (l : List ℕ). l ++ c.lines.others ∷ []) c.in_ok-reserve.ensures.items);
  fewer = let f = c.lines.invariant.fewer in omega arith;
  intact_so_far = intact_digest c.args.bytes.now c.lines.rest.now c.in-Some.after.now c.in-Some.line.now
      c.lines.number c.lines.intact c.lines.invariant.intact_so_far c.in-Some.ensures.line
      (sym c.is_digest_line.ensures ∙ c.if-is_digest_line.true);
}

pub lines-preserved : goal.lines-preserved
lines-preserved c = record {
  so_far = read_other c.args.bytes.now c.lines.rest.now c.in-Some.after.now c.lines.clean.items
      c.append_line.new.bytes.items c.in-Some.line.now c.lines.before.items c.lines.hasher c.lines.hashed
      c.lines.number c.lines.others c.lines.invariant.so_far c.in-Some.ensures.line c.in-Some.ensures.shorter
      (sym c.is_digest_line.ensures ∙ c.if-is_digest_line.false) c.in_ok-append_line.ensures.added;
  fewer = let f = c.lines.invariant.fewer in omega arith;
  intact_so_far = intact_other c.args.bytes.now c.lines.rest.now c.in-Some.after.now c.in-Some.line.now
      c.lines.number c.lines.intact c.lines.invariant.intact_so_far c.in-Some.ensures.line
      (sym c.is_digest_line.ensures ∙ c.if-is_digest_line.false);
}

pub returns-clause-read : goal.returns-clause-read
returns-clause-read c =
    let none : whole_lines c.lines.rest.now ≡ [] = c.in_default.ensures.none refl in
    elim c.if-whole-eq0.branch [
      | then-whole-eq0+in_ok-extend_from_slice w ↦
          rw (w.clean-is, w.in_ok-extend_from_slice.ensures.items) (read_no_line c.args.bytes.now c.lines.rest.now
          c.lines.clean.items c.lines.before.items c.lines.hasher c.hash_from-2.new.hasher c.lines.hashed c.lines.number
          c.lines.others c.count_whole-whole.result c.lines.invariant.so_far none (λ held
          holds. copied c.lines.hashed c.as_slice-2.ensures.value c.hash_from-2.new.hasher held
          (c.hash_from-2.ensures.hashed held holds)) c.count_whole-whole.ensures.lines w.if-whole-eq0.true)
      | else-whole-eq0 w ↦ rw w.clean-is (read_all c.args.bytes.now c.lines.rest.now c.lines.clean.items
          c.lines.before.items c.lines.hasher c.hash_from-2.new.hasher c.lines.hashed c.lines.number c.lines.others
          c.count_whole-whole.result c.lines.invariant.so_far none (λ held
          holds. copied c.lines.hashed c.as_slice-2.ensures.value c.hash_from-2.new.hasher held
          (c.hash_from-2.ensures.hashed held holds))
          c.count_whole-whole.ensures.lines c.count_whole-whole.ensures.within w.if-whole-eq0.false)
    ]

pub returns-clause-numbers : goal.returns-clause-numbers
returns-clause-numbers c = read_numbers c.args.bytes.now c.lines.rest.now c.lines.clean.items c.lines.before.items
    c.lines.hasher c.lines.hashed c.lines.number c.lines.others c.lines.invariant.so_far
    (c.in_default.ensures.none refl)
    (search rules)

pub lines-init : goal.lines-init
lines-init c = record {
  so_far = rw (c.in_ok-clean.ensures.items, c.new-before.ensures.items)
      (read_nothing c.args.bytes.now c.new-hasher.result
      c.new-hasher.ensures);
  fewer = omega arith;
  intact_so_far = intact_nothing c.args.bytes.now;
}

pub slice_bounds-ne-length : goal.slice_bounds-ne-length
slice_bounds-ne-length c = sym (length-take-le 24 c.next_digest_line-expected.result (search rules))
