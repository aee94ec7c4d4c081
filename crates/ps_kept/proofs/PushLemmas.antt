-- The lines of a kept file, read one after another.
use Rattle.std.proofs.Common.{◌≡◌, ◌+◌, ◌<◌, ℕ, true, false, List, [], ◌∷◌, ◌++◌, drop, length, refl}
use Rattle.std.proofs.Common.{sym, ap, ◌∙◌, append_assoc, arith, length-append, subst, inl, inr}
use Rattle.std.proofs.lemmas.Bool.{false≢true}
use Rattle.std.proofs.lemmas.Bool.Decides.{Decides-eqb}
use Rattle.std.proofs.lemmas.Slice.Eq.{starts_is}
use Rattle.std.specs.Prelude.{nat_eq, ◌⊎◌}
use Rattle.std.specs.List.{starts_with}
use mathlib.Core.List.{IsPrefix}
use Rattle.ps_delta.specs.Deltas.{Entries}
use Rattle.ps_keep.specs.Lines.{whole_lines}
use Rattle.ps_kept.specs.Inside.{IsPushFault, ReadSoFar}
use Rattle.ps_lines.specs.PushLine.{Pushes, push_word}
use Rattle.ps_lines.specs.ReplicaLine.{replica_line}
use Rattle.ps_kept.specs.Kept.{PushAll}
use Rattle.ps_kept.specs.Starts.{HasNoFirst, IsFaultOf, IsUnbegun}
use Rattle.ps_kept.specs.declared.fault.KeepFault.{KeepFault}
use Rattle.ps_kept.specs.declared.fault.KeepFault.TheVariants as faults

-- the delta's line that a line pushes is all after the word
pub text_after : (line text : List ℕ) → line ≡ push_word ++ text → drop 5 line ≡ text
text_after line text is = ap (λ l. drop 5 l) is

-- ---- the first line

pub begins : (line piece : List ℕ) → starts_with nat_eq line piece ≡ true → IsPrefix piece line
begins line piece is = let same = (starts_is Decides-eqb line piece _ refl).0 is in (drop (length piece) line, sym same)

pub begins_not : (line piece : List ℕ) → starts_with nat_eq line piece ≡ false → ¬ IsPrefix piece line
begins_not line piece not front = absurd (false≢true (sym not ∙ (starts_is Decides-eqb line piece _ refl).1 front.0 (sym
    front.1)))

pub unbegun : (replica : ℕ) (bytes own : List ℕ) → own ≡ replica_line replica → whole_lines bytes ≡ []
    → starts_with nat_eq own bytes ≡ true → IsUnbegun replica bytes
unbegun replica bytes own same none is = record {
  no_line = none;
  torn = subst (λ l. IsPrefix bytes l) same (begins own bytes is);
}

pub no_beginning : (replica : ℕ) (bytes own : List ℕ) → own ≡ replica_line replica → whole_lines bytes ≡ []
    → starts_with nat_eq own bytes ≡ false → HasNoFirst replica bytes (whole_lines bytes)
no_beginning replica bytes own same none not =
    subst (λ ls. HasNoFirst replica bytes ls) (sym none) (λ front. begins_not own bytes not (subst (λ l. IsPrefix bytes
    l) (sym same) front))

-- ---- the lines after it

pub PushAll-append : (a : List (List ℕ)) (line : List ℕ) (h : List Entries) (d : Entries) → PushAll a h → Pushes line d
    → PushAll (a ++ line ∷ []) (h ++ d ∷ [])
PushAll-append [] line [] d all more = (more, tt)
PushAll-append [] line (e ∷ h) d all more = absurd all
PushAll-append (l ∷ a) line [] d all more = absurd all
PushAll-append (l ∷ a) line (e ∷ h) d all more = (all.0, PushAll-append a line h d all.1 more)

pub one_read : (bytes left rest line : List ℕ) (number : ℕ) (h k : List Entries) (d : Entries)
    → ReadSoFar bytes left number h → whole_lines left ≡ line ∷ whole_lines rest → length rest < length left
    → Pushes line d → k ≡ h ++ d ∷ [] → ReadSoFar bytes rest (number + 1) k
one_read bytes left rest line number h k d so_far first shorter pushes more = record {
  done = so_far.done ++ line ∷ [];
  is = so_far.is ∙ ap (λ ls. so_far.done ++ ls) first ∙ sym (append_assoc so_far.done (line ∷ []) (whole_lines rest));
  told = subst (λ x. PushAll (so_far.done ++ line ∷ []) x) (sym more) (PushAll-append so_far.done line h d so_far.told
      pushes);
  counts = omega (arith, so_far.counts, length-append so_far.done (line ∷ []));
  within = omega (arith, so_far.within, shorter);
}

-- ---- all of them

pub fault_after_first : (replica : ℕ) (bytes rest : List ℕ) (fault : KeepFault)
    → ((rest ≡ []) × IsUnbegun replica bytes) ⊎ (whole_lines bytes ≡ replica_line replica ∷ whole_lines rest)
    → IsPushFault (whole_lines rest) fault → IsFaultOf replica bytes fault
fault_after_first replica bytes rest faults.Memory first why = tt
fault_after_first replica bytes rest faults.Device first why = absurd why
fault_after_first replica bytes rest (faults.Replica other) first why = absurd why
fault_after_first replica bytes rest (faults.Line number) (inl not_yet) why =
    absurd (none why.before (subst (λ r. whole_lines r ≡ why.before ++ why.line ∷ why.after) not_yet.0 why.is))
  where
    none : (before : List (List ℕ)) → [] ≡ before ++ why.line ∷ why.after → ⊥
    none [] e = cc
    none (l ∷ before) e = cc
fault_after_first replica bytes rest (faults.Line number) (inr first) why =
    inr (record {
      before = replica_line replica ∷ why.before;
      line = why.line;
      after = why.after;
      is = first ∙ ap (λ ls. replica_line replica ∷ ls) why.is;
      counts = omega (arith, why.counts);
      history = why.history;
      told = (refl, why.told);
      fresh = why.fresh;
      faulty = why.faulty;
    })
