use Rattle.std.proofs.Common.{◌≡◌, ◌+◌, ◌-◌, ◌++◌, ℕ, List, take, drop, ap, ◌∙◌, sym, arith, append_assoc}
use Rattle.std.proofs.lemmas.List.{length-drop, length-take}
use Rattle.std.proofs.Math.Seq.{take-add}
use Rattle.ps_keep.proofs.file.KeptFileDevice.append.Goals as goal

more_taken : (bytes : List ℕ) (start count : ℕ) → take start bytes ++ take (start + count - start) (drop start bytes)
    ≡ take (start + count) bytes
more_taken bytes start count =
    let e : start + count - start ≡ count = omega arith in
    ap (λ n. take start bytes ++ take n (drop start bytes)) e ∙ sym (take-add start count bytes)

pub parts-preserved-in-Ok : goal.parts-preserved-in-Ok
parts-preserved-in-Ok c = record {
  within = omega (arith, c.in-Ok.ensures.bound, length-take {A = ℕ}, length-drop {A = ℕ}, c.parts.invariant.within);
  sent =
      ap (λ g. g.written) c.note-in-Ok.ensures
      ∙ ap (λ (l : List ℕ). l ++ take (c.parts.start + c.in-Ok.count - c.parts.start) (drop c.parts.start
      c.args.bytes.now)) c.parts.invariant.sent
      ∙ append_assoc c.args.self.now.trace.given.written (take c.parts.start c.args.bytes.now) _
      ∙ ap (λ (l : List ℕ). c.args.self.now.trace.given.written ++ l) (more_taken c.args.bytes.now c.parts.start
      c.in-Ok.count);
  same = ap (λ g. g.synced) c.note-in-Ok.ensures ∙ c.parts.invariant.same;
  broken = c.parts.invariant.broken;
  stays = c.parts.invariant.stays;
}
