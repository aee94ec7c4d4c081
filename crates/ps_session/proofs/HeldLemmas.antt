-- What is put on an output that holds it back.
use Rattle.std.proofs.Common.{◌≡◌, ◌≤◌, ◌++◌, ℕ, List, [], length, take, drop, Option, Some, None, Result, Ok, Err}
use Rattle.std.proofs.Common.{sym, ap, ◌∙◌, append_assoc, append-nil}
use Rattle.std.specs.Io.KnownBytes.{Appends, Keeps, WriteAppends, append_known}
use Rattle.std.proofs.lemmas.List.{drop-append-le}
use Rattle.ps_device.specs.Device.{HoldsBack, Sends}

-- these bytes wait in the buffer, after `sent` others that the sink below has already; that sink is the same
module _ (known : Option (List ℕ)) (below : List ℕ) (sent : ℕ) (old new : List ℕ) (within : sent ≤ length old) where
  more_waits : (taken : List ℕ) → new ≡ old ++ taken → drop sent new ≡ drop sent old ++ taken
  more_waits taken is = ap (drop sent) is ∙ drop-append-le sent old taken within

  held_appends : (taken : List ℕ) → new ≡ old ++ taken
      → Appends (append_known known (drop sent old)) (append_known known (drop sent new)) taken
  held_appends taken is = go known
    where
      go : (k : Option (List ℕ)) → Appends (append_known k (drop sent old)) (append_known k (drop sent new)) taken
      go None = tt
      go (Some x) = ap (λ l. x ++ l) (more_waits taken is) ∙ sym (append_assoc x (drop sent old) taken)

  held_waits : (taken : List ℕ) → new ≡ old ++ taken
      → HoldsBack (append_known known (drop sent old)) (append_known known (drop sent new))
      (below ++ drop sent old) (below ++ drop sent new)
  held_waits taken is = (
    taken,
    held_appends taken is,
    ap (λ l. below ++ l) (more_waits taken is) ∙ sym (append_assoc below (drop sent old) taken),
  )

  same_waits : new ≡ old → Keeps (append_known known (drop sent old)) (append_known known (drop sent new))
  same_waits is = go known
    where
      go : (k : Option (List ℕ)) → Keeps (append_known k (drop sent old)) (append_known k (drop sent new))
      go None = tt
      go (Some x) = ap (λ l. x ++ drop sent l) is

  pub put_held : {E : Type 0} (result : Result ℕ E) (piece : List ℕ)
      → WriteAppends (Some old) (Some new) result piece
      → WriteAppends (append_known known (drop sent old)) (append_known known (drop sent new)) result piece
  put_held (Ok count) piece is = held_appends (take count piece) is
  put_held (Err error) piece is = same_waits is

  pub put_waits : {E : Type 0} (result : Result ℕ E) (piece : List ℕ)
      → WriteAppends (Some old) (Some new) result piece
      → HoldsBack (append_known known (drop sent old)) (append_known known (drop sent new))
      (below ++ drop sent old) (below ++ drop sent new)
  put_waits (Ok count) piece is = held_waits (take count piece) is
  put_waits (Err error) piece is = held_waits [] (is ∙ sym (append-nil old))

  pub sends_held : {E : Type 0} (result : Result (Unit {0}) E) (bytes : List ℕ)
      → Sends (Some old) (Some new) result bytes
      → Sends (append_known known (drop sent old)) (append_known known (drop sent new)) result bytes
  sends_held (Ok done) bytes is = held_appends bytes is
  sends_held (Err error) bytes is = (is.0, is.1, held_appends (take is.0 bytes) is.2)

  pub sends_wait : {E : Type 0} (result : Result (Unit {0}) E) (bytes : List ℕ)
      → Sends (Some old) (Some new) result bytes
      → HoldsBack (append_known known (drop sent old)) (append_known known (drop sent new))
      (below ++ drop sent old) (below ++ drop sent new)
  sends_wait (Ok done) bytes is = held_waits bytes is
  sends_wait (Err error) bytes is = held_waits (take is.0 bytes) is.2
