-- What lines tell, and what beginnings of them do.
use Rattle.std.proofs.Common.{◌≡◌, ◌≢◌, ◌+◌, ◌<◌, ℕ, List, [], ◌∷◌, ◌++◌, length, take, refl, sym, ap, ◌∙◌}
use Rattle.std.proofs.Common.{arith, subst, Some, inr, get_or, length-append}
use Rattle.std.proofs.lemmas.Grind.{common_steps}
use mathlib.Core.List.{IsPrefix}
use Rattle.ps_delta.specs.State.{IsBelow}
use Rattle.ps_delta.specs.Deltas.{Entries, joined_history, state_of}
use Rattle.ps_wire.specs.Line.{IsLine}
use Rattle.ps_wire.specs.Value.{delta_value}
use Rattle.ps_wire.proofs.OneDeltaLemmas.{one_delta}
use Rattle.ps_sheet.specs.Sheet.{IsFresh}
use Rattle.ps_keep.specs.Crash.{SurvivesCrashes}
use Rattle.ps_keep.specs.Lines.{whole_lines}
use Rattle.ps_keep.proofs.CrashLemmas.{prefix_trans}
use Rattle.ps_lines.specs.PushLine.{Pushes}
use Rattle.ps_kept.specs.Kept.{PushAll, TellHistory}
use Rattle.ps_kept.specs.Starts.{Outlives}
use Rattle.ps_kept.proofs.PushLemmas.{text_after}

-- a line pushes one delta

some_same : {A : Type 0} (a b : A) → Some a ≡ Some b → a ≡ b
some_same a b e = cc

pub line_of_one : (text : List ℕ) (d e : Entries) → IsLine text d → IsLine text e → d ≡ e
line_of_one text d e first second =
    let same : delta_value d ≡ delta_value e = some_same _ _ (sym first.read ∙ second.read) in
    one_delta (delta_value d) d e (record { lawful = first.lawful; spelled = refl })
    (record { lawful = second.lawful; spelled = same })

pub pushes_one : (line : List ℕ) (d e : Entries) → Pushes line d → Pushes line e → d ≡ e
pushes_one line d e first second =
    let same : first.0 ≡ second.0 = sym (text_after line first.0 first.1) ∙ text_after line second.0 second.1 in
    line_of_one second.0 d e (subst (λ t. IsLine t d) same first.2) second.2

pub push_the_same : (lines : List (List ℕ)) (h k : List Entries) → PushAll lines h → PushAll lines k → h ≡ k
push_the_same [] [] [] a b = refl
push_the_same [] [] (e ∷ k) a b = absurd b
push_the_same [] (d ∷ h) k a b = absurd a
push_the_same (line ∷ lines) [] k a b = absurd a
push_the_same (line ∷ lines) (d ∷ h) [] a b = absurd b
push_the_same (line ∷ lines) (d ∷ h) (e ∷ k) a b =
    let first = pushes_one line d e a.0 b.0 in
    let others = push_the_same lines h k a.1 b.1 in
    λ i. first i ∷ others i

pub tell_the_same : (replica : ℕ) (lines : List (List ℕ)) (h k : List Entries) → TellHistory replica lines h
    → TellHistory replica lines k → h ≡ k
tell_the_same replica [] h k a b = absurd a
tell_the_same replica (first ∷ others) h k a b = push_the_same others h k a.1 b.1

-- a beginning of lines

no_lines : (line : List ℕ) (lines : List (List ℕ)) → line ∷ lines ≡ [] → ⊥
no_lines line lines e = cc

head_same : (a b : List ℕ) (xs ys : List (List ℕ)) → a ∷ xs ≡ b ∷ ys → a ≡ b
head_same a b xs ys e = cc

tail_same : (a b : List ℕ) (xs ys : List (List ℕ)) → a ∷ xs ≡ b ∷ ys → xs ≡ ys
tail_same a b xs ys e = cc

pub push_front : (front lines : List (List ℕ)) (h : List Entries) → PushAll lines h → IsPrefix front lines
    → (k : List Entries) × PushAll front k × IsPrefix k h
push_front [] lines h all begins = ([], tt, (h, refl))
push_front (f ∷ front) [] h all begins = absurd (no_lines f (front ++ begins.0) begins.1)
push_front (f ∷ front) (line ∷ lines) [] all begins = absurd all
push_front (f ∷ front) (line ∷ lines) (d ∷ h) all begins =
    let same = head_same f line (front ++ begins.0) lines begins.1 in
    let others = push_front front lines h all.1 (begins.0, tail_same f line (front ++ begins.0) lines begins.1) in
    (d ∷ others.0, (subst (λ l. Pushes l d) (sym same) all.0, others.1), (others.2.0, ap (λ ds. d ∷ ds) others.2.1))

pub tell_front : (replica : ℕ) (front lines : List (List ℕ)) (h : List Entries) → TellHistory replica lines h
    → IsPrefix front lines → front ≢ [] → (k : List Entries) × TellHistory replica front k × IsPrefix k h
tell_front replica [] lines h told begins some = absurd (some refl)
tell_front replica (f ∷ front) [] h told begins some = absurd told
tell_front replica (f ∷ front) (line ∷ lines) h told begins some =
    let same = head_same f line (front ++ begins.0) lines begins.1 in
    let others = push_front front lines h told.1 (begins.0, tail_same f line (front ++ begins.0) lines begins.1) in
    (others.0, (same ∙ told.0, others.1), others.2)

pub told_some : (replica : ℕ) (lines : List (List ℕ)) (h : List Entries) → TellHistory replica lines h → lines ≢ []
told_some replica [] h told is = absurd told
told_some replica (first ∷ others) h told is = no_lines first others is

-- where some first lines tell a history, all tell one that begins with it
pub told_begins : (replica : ℕ) (front lines : List (List ℕ)) (h k : List Entries) → TellHistory replica front h
    → TellHistory replica lines k → IsPrefix front lines → IsPrefix h k
told_begins replica front lines h k first all begins =
    let found = tell_front replica front lines k all begins (told_some replica front h first) in
    subst (λ x. IsPrefix x k) (tell_the_same replica front found.0 h found.1 first) found.2

-- a beginning of a history

same_at : (h rest : List Entries) (k : ℕ) → k < length h → get_or (h ++ rest) k [] ≡ get_or h k []
same_at h rest k lt = grind (arith, common_steps)

same_before : (h rest : List Entries) (k : ℕ) → k < length h → take k (h ++ rest) ≡ take k h
same_before h rest k lt = grind (arith, common_steps)

pub fresh_front : (h all : List Entries) → IsPrefix h all → IsFresh all → IsFresh h
fresh_front h all begins fresh k lt below =
    let longer : length h + length begins.0 ≡ length all = sym (length-append h begins.0) ∙ ap length begins.1 in
    let here = ap (λ l. get_or l k []) (sym begins.1) ∙ same_at h begins.0 k lt in
    let before = ap (λ l. take k l) (sym begins.1) ∙ same_before h begins.0 k lt in
    fresh k (omega (arith, lt, longer))
    (subst (λ d. IsBelow (state_of d) (joined_history (take k all))) (sym here)
    (subst (λ l. IsBelow (state_of (get_or h k [])) (joined_history l)) (sym before) below))

-- a start reads the file after any crash

not_none : (kept lines : List (List ℕ)) → kept ≢ [] → IsPrefix kept lines → lines ≢ []
not_none [] lines some begins is = some refl
not_none (l ∷ kept) lines some begins is = no_lines l (kept ++ begins.0) (begins.1 ∙ is)

pub outlives : (replica : ℕ) (kept noted history : List Entries) (kept_lines lines : List (List ℕ)) (written : List ℕ)
    (synced : ℕ) (front : List (List ℕ)) → IsPrefix front kept_lines → TellHistory replica front kept
    → TellHistory replica lines noted → IsPrefix noted history → IsFresh history
    → SurvivesCrashes written synced kept_lines lines → Outlives replica kept history written synced
outlives replica kept noted history kept_lines lines written synced front first told_first told begins fresh survives
    left is =
    let between = survives left is in
    let more = prefix_trans front kept_lines (whole_lines left) first between.all_acknowledged in
    let some = not_none front (whole_lines left) (told_some replica front kept told_first) more in
    let found = tell_front replica (whole_lines left) lines noted told between.nothing_else some in
    let inside = prefix_trans found.0 noted history found.2 begins in (
      found.0,
      inr (record { told = found.1; fresh = fresh_front found.0 history inside fresh }),
      told_begins replica front (whole_lines left) kept found.0 told_first found.1 more,
      inside,
    )
