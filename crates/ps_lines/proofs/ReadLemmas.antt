-- What several reads, one after another, take from a source.
use Rattle.std.proofs.Common.{◌≡◌, ◌++◌, List, [], Option, Some, None, refl, sym, ap, ◌∙◌, append_assoc, rules}
use Rattle.std.proofs.Common.{Result, Err, ℕ, ◌+◌, ◌-◌, ◌<◌, ◌≤◌, arith, length, length-drop, take, drop}
use Rattle.std.proofs.Math.Seq.{take-add}
use Rattle.std.proofs.lemmas.List.{take-append-drop}
use Rattle.ps_device.proofs.DeviceLemmas.{rest-range}
use Rattle.std.specs.Io.KnownBytes.{Consumes, Keeps}

pub Consumes-nil : (old : Option (List ℕ)) → Consumes old old []
Consumes-nil None = tt
Consumes-nil (Some bytes) = refl

pub Consumes-append : (old middle new : Option (List ℕ)) (first second : List ℕ) → Consumes old middle first
    → Consumes middle new second
    → Consumes old new (first ++ second)
Consumes-append None middle new first second p q = tt
Consumes-append (Some x) None new first second p q = absurd p
Consumes-append (Some x) (Some y) None first second p q = absurd q
Consumes-append (Some x) (Some y) (Some z) first second p q = p ∙ ap (λ l. first ++ l) q
    ∙ sym (append_assoc first second z)

pub Consumes-keeps : (old middle new : Option (List ℕ)) (read : List ℕ) → Consumes old middle read
    → Keeps middle new → Consumes old new read
Consumes-keeps None middle new read p q = tt
Consumes-keeps (Some x) None new read p q = absurd p
Consumes-keeps (Some x) (Some y) None read p q = absurd q
Consumes-keeps (Some x) (Some y) (Some z) read p q = p ∙ ap (λ l. read ++ l) (sym q)

-- a piece that is taken in part by part: one part more
pub read-more : (read bytes : List ℕ) (start taken : ℕ)
    → (read ++ take start bytes) ++ take taken (take (length bytes - start) (drop start bytes)) ≡ read ++ take (start
    + taken) bytes
read-more read bytes start taken =
    ap (λ r. (read ++ take start bytes) ++ take taken r) (rest-range bytes start)
    ∙ append_assoc read (take start bytes) (take taken (drop start bytes))
    ∙ ap (λ t. read ++ t) (sym (take-add start taken bytes))

-- .. and all that is left
pub read-rest : (read bytes : List ℕ) (start : ℕ)
    → (read ++ take start bytes) ++ take (length bytes - start) (drop start bytes) ≡ read ++ bytes
read-rest read bytes start =
    ap (λ r. (read ++ take start bytes) ++ r) (rest-range bytes start)
    ∙ append_assoc read (take start bytes) (drop start bytes)
    ∙ ap (λ t. read ++ t) (take-append-drop start bytes)

pub turn_within : (bytes : List ℕ) (start taken : ℕ) → start < length bytes
    → taken ≤ length (take (length bytes - start) (drop start bytes))
    → start + taken ≤ length bytes
turn_within bytes start taken lt le =
    let shorter : length (take (length bytes - start) (drop start bytes)) ≡ length bytes - start = ap length
    (rest-range bytes start) ∙ length-drop start bytes in
    omega (arith, shorter, lt, le)

-- a fault that is returned unchanged is the same fault
pub same_fault : {A B E : Type 0} (result : Result B E) (x fault : E) (wanted : E) → result ≡ Err x → x ≡ fault
    → result ≡ Err wanted
    → ◌≡◌ {A = Result A E} (Err fault) (Err wanted)
same_fault {A = A} {B = B} {E = E} result x fault wanted is same asked =
    let e : ◌≡◌ {A = Result B E} (Err x) (Err wanted) = sym is ∙ asked in
    sym (ap Err same) ∙ ap Err (inner x wanted e)
  where
    inner : (y z : E) → ◌≡◌ {A = Result B E} (Err y) (Err z) → y ≡ z
    inner y z e = search (rules, e)
