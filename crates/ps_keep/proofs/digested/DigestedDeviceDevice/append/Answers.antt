use Rattle.std.proofs.Common.{[], ◌++◌, ◌∙◌, List, ℕ, ap, drop, length, refl, sym, take, take-append-drop}
use Rattle.std.proofs.lemmas.List.{append-nil}
use Rattle.std.proofs.Math.Seq.{take-length}
use Rattle.ps_keep.proofs.CoverLemmas.{cover_digest, cover_failed, cover_more}
use Rattle.ps_keep.proofs.DigestLemmas.{ends_in_feed}
use Rattle.ps_keep.proofs.JournalLemmas.{on_err}
use Rattle.ps_keep.proofs.MirrorLemmas.{after_bytes, after_digest, after_part}
use Rattle.ps_keep.proofs.digested.DigestedDeviceDevice.append.Goals as goal

-- the device has failed in the bytes
pub invariant_of-self : goal.invariant_of-self
invariant_of-self g c =
    let part = c.in_err-append.ensures.part in (
      after_part _ _ _ _ _ _ c.args.bytes.now _ _ _ _ part.0 _ _ c.self.invariant.0
          (ap (λ v. v.has_failed) c.self.view_is ∙ c.requires.open) part.1 c.in_err-append.ensures.synced
          (ap (λ given. given.written) c.note.ensures) (ap (λ given. given.synced) c.note.ensures)
          c.in_err-append.ensures.failed,
      cover_failed _ _ _ _ c.in_err-append.ensures.failed,
    )

pub returns-in_err-append-clause-part : goal.returns-in_err-append-clause-part
returns-in_err-append-clause-part g c = on_err c.from_residual.result (
  length c.args.bytes.now,
  ap (λ given. given.written) c.note.ensures
      ∙ ap (λ (l : List ℕ). l ++ c.args.bytes.now) (ap (λ v. v.written) c.self.view_is)
      ∙ ap (λ (l : List ℕ). c.args.self.now.written ++ l) (sym (take-length c.args.bytes.now)),
)

-- .. in the digest line
pub invariant_of-self-in_err-append-2 : goal.invariant_of-self-in_err-append-2
invariant_of-self-in_err-append-2 g c =
    let part = c.in_err-append-2.ensures.part in
    let line = c.next_digest_line-line.result in (
      after_digest _ _ _ _ _ _ c.args.bytes.now _ (take part.0 line) line _ _ _ _ _ _ _ c.self.invariant.0
          (ap (λ v. v.has_failed) c.self.view_is ∙ c.requires.open)
          (ends_in_feed c.args.bytes.now (sym c.ends_with.ensures.value ∙ c.if-ends_with.true))
          (part.1 ∙ ap (λ (l : List ℕ). l ++ take part.0 line) c.in_ok-append.ensures.appended)
          (c.in_err-append-2.ensures.synced ∙ c.in_ok-append.ensures.synced)
          (ap (λ given. given.written) c.note.ensures) (ap (λ given. given.synced) c.note.ensures) c.update.ensures
          c.next_digest_line-line.ensures.line c.next_digest_line-line.ensures.chain
          (drop part.0 line, take-append-drop part.0 line) (λ no. absurd
          (let failed = c.in_err-append-2.ensures.failed in cc)),
      cover_failed _ _ _ _ c.in_err-append-2.ensures.failed,
    )

pub returns-in_err-append-2-clause-part : goal.returns-in_err-append-2-clause-part
returns-in_err-append-2-clause-part g c = on_err c.from_residual-in_err-append-2.result (
  length c.args.bytes.now,
  ap (λ given. given.written) c.note.ensures
      ∙ ap (λ (l : List ℕ). l ++ c.args.bytes.now) (ap (λ v. v.written) c.self.view_is)
      ∙ ap (λ (l : List ℕ). c.args.self.now.written ++ l) (sym (take-length c.args.bytes.now)),
)

pub invariant_of-self-in-Continue-branch-2 : goal.invariant_of-self-in-Continue-branch-2
invariant_of-self-in-Continue-branch-2 g c =
    let line = c.next_digest_line-line.result in (
      after_digest _ _ _ _ _ _ c.args.bytes.now _ line line _ _ _ _ _ _ _ c.self.invariant.0
          (ap (λ v. v.has_failed) c.self.view_is ∙ c.requires.open)
          (ends_in_feed c.args.bytes.now (sym c.ends_with.ensures.value ∙ c.if-ends_with.true))
          (c.in_ok-append-2.ensures.appended ∙ ap (λ (l : List ℕ). l ++ line) c.in_ok-append.ensures.appended)
          (c.in_ok-append-2.ensures.synced ∙ c.in_ok-append.ensures.synced)
          (ap (λ given. given.written) c.note.ensures) (ap (λ given. given.synced) c.note.ensures) c.update.ensures
          c.next_digest_line-line.ensures.line c.next_digest_line-line.ensures.chain
          ([], append-nil line) (λ _. refl),
      cover_digest _ _ _ _ _ _ _ c.args.bytes.now line _ _ _ _ c.self.invariant.0 (ap
          (λ v. v.has_failed) c.self.view_is ∙ c.requires.open)
          (c.in_ok-append-2.ensures.appended ∙ ap (λ (l : List ℕ). l ++ line) c.in_ok-append.ensures.appended)
          (ap (λ given. given.written) c.note.ensures) c.update.ensures c.next_digest_line-line.ensures.line,
    )

-- no line has ended
pub invariant_of-self-else-ends_with : goal.invariant_of-self-else-ends_with
invariant_of-self-else-ends_with g c = (
  after_bytes _ _ _ _ _ _ c.args.bytes.now _ _ _ _ _ _ c.self.invariant.0
      (ap (λ v. v.has_failed) c.self.view_is ∙ c.requires.open) c.in_ok-append.ensures.appended
      c.in_ok-append.ensures.synced (ap (λ given. given.written) c.note.ensures) (ap (λ given. given.synced)
      c.note.ensures) c.in_ok-append.ensures.failed c.update.ensures,
  cover_more _ _ _ _ _ _ _ c.args.bytes.now c.self.invariant.1 (ap (λ v. v.has_failed) c.self.view_is
      ∙ c.requires.open) c.in_ok-append.ensures.appended (ap (λ given. given.written) c.note.ensures)
      (sym c.ends_with.ensures.value ∙ c.if-ends_with.false),
)
