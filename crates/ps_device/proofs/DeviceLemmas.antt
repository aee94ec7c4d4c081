-- Writes, one after another, over plain values.
use Rattle.std.proofs.Common.{◌≡◌, ◌≢◌, ℕ, zero, suc, ◌+◌, ◌-◌, ◌<◌, ◌≤◌, List, [], ◌++◌, length, take, drop}
use Rattle.std.proofs.Common.{Option, None, Some, Result, Ok, Err, refl, sym, ap, ◌∙◌, arith, append_assoc}
use Rattle.std.proofs.Common.{append-nil, length-append, length-drop}
use Rattle.std.specs.Result.{IsErr}
use Rattle.std.specs.Io.KnownBytes.{Appends, Keeps, append_known}
use Rattle.std.proofs.lemmas.Bool.{false≢true}
use Rattle.std.proofs.lemmas.List.{take-append-le, take-append-drop, drop-drop}
use Rattle.std.proofs.Math.Seq.{take-add, take-length, take-append-add}
use Rattle.ps_device.specs.Device.{failed_put, HoldsBack, Sends}

pub Appends-nil : (old : Option (List ℕ)) → Appends old old []
Appends-nil None = tt
Appends-nil (Some bytes) = sym (append-nil bytes)

pub Appends-append : (old mid new : Option (List ℕ)) (first second : List ℕ) → Appends old mid first
    → Appends mid new second → Appends old new (first ++ second)
Appends-append None mid new first second p q = tt
Appends-append (Some x) None new first second p q = absurd p
Appends-append (Some x) (Some y) None first second p q = absurd q
Appends-append (Some x) (Some y) (Some z) first second p q = q ∙ ap (λ l. l ++ second) p ∙ append_assoc x first second

-- nothing was taken, so nothing more waits
pub HoldsBack-none : (old : Option (List ℕ)) (waiting : List ℕ) → HoldsBack old old waiting waiting
HoldsBack-none old waiting = ([], Appends-nil old, sym (append-nil waiting))

-- one after another
pub HoldsBack-after : (old mid new : Option (List ℕ)) (waited between waiting : List ℕ)
    → HoldsBack old mid waited between → HoldsBack mid new between waiting → HoldsBack old new waited waiting
HoldsBack-after old mid new waited between waiting p q = (
  p.0 ++ q.0,
  Appends-append old mid new p.0 q.0 p.1 q.1,
  q.2 ∙ ap (λ l. l ++ q.0) p.2 ∙ append_assoc waited p.0 q.0,
)

-- the bytes from the start on, as the code takes them
pub rest-range : (bytes : List ℕ) (start : ℕ) → take (length bytes - start) (drop start bytes) ≡ drop start bytes
rest-range bytes start = rw (← length-drop start bytes) (take-length (drop start bytes))

-- a write of the front of what is left
pub Appends-further : (old mid new : Option (List ℕ)) (bytes : List ℕ) (start count : ℕ)
    → Appends old mid (take start bytes)
    → Appends mid new (take count (take (length bytes - start) (drop start bytes))) → Appends old new
    (take (start + count) bytes)
Appends-further old mid new bytes start count p q =
    rw (take-add start count bytes) (Appends-append old mid new _ _ p (rw rest-range at q))

-- a write that took some bytes was no failure
pub calm_put : (E : Type 0) (old mid new count : ℕ) (piece : List ℕ) → count ≢ 0 → new ≡ mid + failed_put
    {E = E} (Ok count) piece → mid ≡ old → new ≡ old
calm_put E old mid new zero piece some counted calm = absurd (some refl)
calm_put E old mid new (suc count) piece some counted calm = omega arith

-- a write that failed before its end, after bytes that were written
pub cut_after : (old mid new : Option (List ℕ)) (first second : List ℕ) → Appends old mid first
    → (count : ℕ) × (count < length second) × Appends mid new (take count second)
    → (count : ℕ) × (count < length (first ++ second)) × Appends old new (take count (first ++ second))
cut_after old mid new first second p q = (
  length first + q.0,
  simp length-append (omega (arith, q.1)),
  rw take-append-add
      (Appends-append old mid new _ _ p q.2),
)

-- a write after bytes that were written
pub Sends-after : (E : Type 0) (old mid new : Option (List ℕ)) (result : Result (Unit {0}) E)
    (first second : List ℕ) → Appends old mid first
    → Sends mid new result second → Sends old new result (first ++ second)
Sends-after E old mid new (Ok done) first second p q = Appends-append old mid new first second p q
Sends-after E old mid new (Err error) first second p q = cut_after old mid new first second p q

-- a write of a front that failed is also a failed write of a longer text
pub Sends-cut : (E : Type 0) (old new : Option (List ℕ)) (result : Result (Unit {0}) E) (whole bytes rest : List ℕ)
    → whole ≡ bytes ++ rest → IsErr result
    → (count : ℕ) × (count < length bytes) × Appends old new (take count bytes) → Sends old new result whole
Sends-cut E old new (Ok done) whole bytes rest e is p = absurd (false≢true is)
Sends-cut E old new (Err error) whole bytes rest e is p =
    let within : p.0 ≤ length bytes = omega (arith, p.1) in
    (p.0, rw (e, length-append) (omega (arith, p.1)), rw (e, take-append-le) p.2)

-- the same, after bytes that were written
pub Sends-cut_after : (E : Type 0) (old mid new : Option (List ℕ)) (result : Result (Unit {0}) E)
    (whole first second rest : List ℕ)
    → whole ≡ first ++ second ++ rest → IsErr result → Appends old mid first
    → (count : ℕ) × (count < length second) × Appends mid new (take count second) → Sends old new result whole
Sends-cut_after E old mid new result whole first second rest e is p q =
    Sends-cut E old new result whole (first ++ second) rest e is (cut_after old mid new first second p q)

-- ---- what waits

-- bytes that a writer was given are no longer among those that wait
pub Keeps-handed : (first old new : Option (List ℕ)) (bytes : List ℕ) (start count : ℕ)
    → Keeps first (append_known old (drop start bytes))
    → Appends old new (take count (take (length bytes - start) (drop start bytes)))
    → Keeps first (append_known new (drop (start + count) bytes))
Keeps-handed None old new bytes start count p q = tt
Keeps-handed (Some x) None new bytes start count p q = absurd p
Keeps-handed (Some x) (Some y) None bytes start count p q = absurd q
Keeps-handed (Some x) (Some y) (Some z) bytes start count p q =
    let given : z ≡ y ++ take count (drop start bytes) = q ∙ ap (λ l. y ++ take count l) (rest-range bytes start) in
    let rest : drop start bytes ≡ take count (drop start bytes) ++ drop (start + count) bytes =
    sym (take-append-drop count (drop start bytes))
    ∙ ap (λ l. take count (drop start bytes) ++ l) (drop-drop count start bytes) in
    ap (λ l. l ++ drop (start + count) bytes) given
    ∙ append_assoc y (take count (drop start bytes)) (drop (start + count) bytes)
    ∙ ap (λ l. y ++ l) (sym rest)
    ∙ p

pub Keeps-keeps : (first old new : Option (List ℕ)) → Keeps first old → Keeps old new → Keeps first new
Keeps-keeps None old new p q = tt
Keeps-keeps (Some x) None new p q = absurd p
Keeps-keeps (Some x) (Some y) None p q = absurd q
Keeps-keeps (Some x) (Some y) (Some z) p q = q ∙ p

-- bytes that were put and are known still
pub Appends-keeps : (old mid new : Option (List ℕ)) (bytes : List ℕ) → Appends old mid bytes → Keeps mid new
    → Appends old new bytes
Appends-keeps None mid new bytes p q = tt
Appends-keeps (Some x) None new bytes p q = absurd p
Appends-keeps (Some x) (Some y) None bytes p q = absurd q
Appends-keeps (Some x) (Some y) (Some z) bytes p q = q ∙ p
