-- A piece that is taken in part by part, and what is released after each.
use Rattle.std.proofs.Common.{◌≡◌, ◌≢◌, ◌⊎◌, ◌<◌, ◌≤◌, ◌-◌, ℕ, List, [], ◌++◌, Option, Some, None, length, take, drop}
use Rattle.std.proofs.Common.{inl, inr, refl, sym, ap, ◌∙◌, subst, append_assoc}
use Rattle.std.specs.Io.KnownBytes.{Keeps}
use Rattle.std.proofs.lemmas.Bool.{cases_lt}
use Rattle.std.proofs.lemmas.List.{take-append-drop, take_all}
use Rattle.ps_device.specs.Device.{HoldsBack}
use Rattle.ps_session.specs.Transcript.{Answered, Stopped}
use Rattle.ps_lines.specs.Streams.{Answering, Lines}
use Rattle.ps_session.specs.Keeping.{Halted, IsCovered, StaysFit}
use Rattle.ps_session.specs.Inside.Stands.{Breaks, CutsShort, GoesOn, IsUnderWay, Stands}
use Rattle.ps_session.specs.declared.transcript.RunFault.{RunFault}
use Rattle.ps_session.specs.declared.transcript.RunFault.TheVariants as faults
use Rattle.ps_session.proofs.CoveredLemmas.{begins_again, covered_before, covered_cut, covered_here}
use Rattle.ps_session.proofs.CoveredLemmas.{fits_after, halted_ended, stands_halted}
use Rattle.ps_session.proofs.InputReadToEnd.{cut_ended, stands_answered, stands_first, stands_flushed}
use Rattle.ps_lines.proofs.ReadLemmas.{read-rest}

pub keep_or_other : (fault : RunFault) → (fault ≡ faults.Keep) ⊎ (fault ≢ faults.Keep)
keep_or_other faults.Keep = inl refl
keep_or_other _ = inr (λ is. cc)

pub keeps_itself : (known : Option (List ℕ)) → Keeps known known
keeps_itself None = tt
keeps_itself (Some bytes) = refl

-- what was noted is a beginning of what the board has after a part
pub fits_after_part : {Keeper State : Type 0} (Answers : Answering State) (fits : Keeper → State → Type 0)
    → StaysFit Answers fits → (keeper : Keeper) (bytes : List ℕ) (old new : State)
    (held put pending contents : Option (List ℕ)) (count answered : ℕ)
    → IsUnderWay (Lines Answers) old held put count
    → GoesOn (Lines Answers) bytes old held put count new pending contents answered
    → fits keeper old → fits keeper new
fits_after_part Answers fits stays keeper bytes old new held put pending contents count answered way goes is =
    let again = begins_again (Lines Answers) ⊥ way.0 way.1 way.2 way.3 old held put count way.4 in
    let then = goes old put count way.4.rest again in
    fits_after Answers fits stays keeper old new then.lines then.text then.run is

pub under_way_after : {State : Type 0} (Line : Answering State) (bytes : List ℕ) (old new : State)
    (held put pending contents : Option (List ℕ)) (middle answered : ℕ)
    → IsUnderWay Line old held put middle
    → GoesOn Line bytes old held put middle new pending contents answered
    → IsUnderWay Line new pending contents answered
under_way_after Line bytes old new held put pending contents middle answered way goes =
    (way.0, way.1, way.2, way.3 ++ bytes, goes way.0 way.1 way.2 way.3 way.4)

module _ {State : Type 0} (Line : Answering State) (first : State) (written : Option (List ℕ)) (read piece : List ℕ)
    (start : ℕ) where
  abbrev rest : List ℕ
  rest = take (length piece - start) (drop start piece)

  whole : (taken : ℕ) → ((read ++ take start piece) ++ take taken rest) ++ drop taken rest ≡ read ++ piece
  whole taken = append_assoc (read ++ take start piece) (take taken rest) (drop taken rest)
      ∙ ap (λ r. (read ++ take start piece) ++ r) (take-append-drop taken rest) ∙ read-rest read piece start

  -- after a part
  module _ (taken : ℕ) (last : State) (pending put after : Option (List ℕ)) (answered : ℕ) (same : Keeps put after)
      (t : Stands Line first written 0 ((read ++ take start piece) ++ take taken rest) last pending put answered) where
    flushed : Stands Line first written 0 ((read ++ take start piece) ++ take taken rest) last pending after answered
    flushed = stands_flushed Line first written 0 _ last pending put after answered same t

    pub part_halts : Halted Line ⊥ first written (read ++ piece) last after
    part_halts = subst (λ r. Halted Line ⊥ first written r last after) (whole taken)
        (stands_halted Line ⊥ first written 0 _ (drop taken rest) last pending after answered flushed)

    all_read : length rest ≤ taken → (read ++ take start piece) ++ take taken rest ≡ read ++ piece
    all_read le = ap (λ r. (read ++ take start piece) ++ r) (take_all taken rest le) ∙ read-rest read piece start

    pub part_breaks : (holds : Type 0) → (taken < length rest → holds)
        → Breaks Line holds first written (read ++ piece) last after
    part_breaks holds part = elim (cases_lt taken (length rest)) [
      | inl lt ↦ inr (inr (part lt, part_halts))
      | inr le ↦ inr (inl (subst (λ r. Answered Line first written r last after) (all_read le)
          (stands_answered Line first written 0 _ last pending after answered flushed)))
    ]

    -- the keeper covers what the board has
    pub part_covered : (covers : State → Type 0) (waiting : List ℕ) → covers last
        → IsCovered Line covers ⊥ first written (read ++ piece) last after waiting
    part_covered covers waiting covered =
        subst (λ r. IsCovered Line covers ⊥ first written r last after waiting) (whole taken)
        (covered_here Line ⊥ first written covers waiting 0 _ (drop taken rest) last pending after answered covered
        flushed)

  -- the keeper covers what the board had before the part
  module _ (covers : State → Type 0) (middle last : State) (held put contents : Option (List ℕ))
      (waited waiting : List ℕ) (count : ℕ) (covered : covers middle)
      (s : Stands Line first written 0 (read ++ take start piece) middle held put count) (none : waited ≡ [])
      (holds : HoldsBack put contents waited waiting) where
    waits : HoldsBack put contents [] waiting
    waits = subst (λ w. HoldsBack put contents w waiting) none holds

    again : Stands Line middle put count s.rest middle held put count
    again = begins_again Line ⊥ first written 0 (read ++ take start piece) middle held put count s

    pub part_waits : (taken : ℕ) (pending : Option (List ℕ)) (answered : ℕ)
        → GoesOn Line (take taken rest) middle held put count last pending contents answered
        → IsCovered Line covers ⊥ first written (read ++ piece) last contents waiting
    part_waits taken pending answered goes =
        subst (λ r. IsCovered Line covers ⊥ first written r last contents waiting) (whole taken)
        (covered_before Line ⊥ first written covers waiting 0 (read ++ take start piece) middle held put count
        covered s last contents waits count (take taken rest) (drop taken rest) pending answered
        (goes middle put count s.rest again))

    pub part_cut : CutsShort Line rest middle held put count last contents
        → IsCovered Line covers ⊥ first written (read ++ piece) last contents waiting
    part_cut cuts = subst (λ r. IsCovered Line covers ⊥ first written r last contents waiting)
        (read-rest read piece start)
        (covered_cut Line ⊥ first written covers waiting 0 (read ++ take start piece) middle held put count
        covered s last contents waits rest (cuts middle put count s.rest again))

-- with what is known of the end of the input
pub breaks_ended : {State : Type 0} (Line : Answering State) (holds Q : Type 0) (first : State)
    (written : Option (List ℕ)) (read : List ℕ) (last : State) (contents : Option (List ℕ))
    → Breaks Line holds first written read last contents
    → Stopped Line Q first written read last contents ⊎ (holds × Halted Line Q first written read last contents)
breaks_ended Line holds Q first written read last contents (inl cut) =
    inl (inl (cut_ended Line first written 0 read ⊥ Q last contents (λ no_end. absurd no_end) cut))
breaks_ended Line holds Q first written read last contents (inr (inl all)) = inl (inr (inl all))
breaks_ended Line holds Q first written read last contents (inr (inr part)) =
    inr (part.0, halted_ended Line ⊥ Q (λ no_end. absurd no_end) first written read last contents part.1)

-- nothing is read yet; what waited before may have been sent
pub stands_begun : {State : Type 0} (Line : Answering State) (board : State) (pending contents after : Option (List ℕ))
    (answered : ℕ) → pending ≡ Some [] → answered ≡ 0 → Keeps contents after
    → Stands Line board contents 0 [] board pending after answered
stands_begun Line board pending contents after answered none zero_yet same =
    stands_flushed Line board contents 0 [] board pending contents after answered same
    (subst (λ n. Stands Line board contents 0 [] board pending contents n) (sym zero_yet)
    (stands_first Line board contents pending none))
