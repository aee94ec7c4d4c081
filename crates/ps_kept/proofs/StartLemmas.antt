-- A sheet that was read, and the journal that keeps it.
use Rattle.std.proofs.Common.{◌≡◌, ◌<◌, ℕ, List, [], ◌∷◌, length, refl, sym, ap, arith, subst}
use Rattle.std.proofs.Common.{inl, inr}
use Rattle.std.proofs.lemmas.List.{append-nil}
use Rattle.std.specs.Prelude.{decimal}
use Rattle.std.specs.Char.{digit_value}
use Rattle.std.specs.Str.Parse.{AllDigits}
use Rattle.std.proofs.lemmas.Fmt.{decimal_is_IsNumeral}
use Rattle.std.proofs.lemmas.List.Elements.{All-cons, All-nil}
use Rattle.std.specs.List.{All}
use mathlib.Core.List.{IsPrefix}
use Rattle.ps_wire.proofs.ShorterLemmas.{decoded_fit}
use Rattle.ps_lines.specs.PullReplies.{HasLine}
use Rattle.ps_delta.specs.Deltas.{Entries}
use Rattle.ps_keep.specs.Journals.{IsJournal, JournalView}
use Rattle.ps_keep.specs.Lines.{IsLine, whole_lines}
use Rattle.ps_kept.specs.Inside.{IsDue}
use Rattle.ps_lines.specs.ReplicaLine.{replica_line}
use Rattle.ps_kept.specs.Kept.{IsNoted, PushAll, TellHistory, started}
use Rattle.ps_kept.specs.Starts.{Reads}

pub PushAll-length : (lines : List (List ℕ)) (h : List Entries) → PushAll lines h → length lines ≡ length h
PushAll-length [] [] all = refl
PushAll-length [] (d ∷ h) all = absurd all
PushAll-length (l ∷ lines) [] all = absurd all
PushAll-length (l ∷ lines) (d ∷ h) all = omega (arith, PushAll-length lines h all.1)

due_in : (replica : ℕ) (lines : List (List ℕ)) (h : List Entries) → TellHistory replica lines h → IsDue (length h) lines
due_in replica [] h told = absurd told
due_in replica (first ∷ others) h told = sym (PushAll-length others h told.1)

pub due : (replica : ℕ) (bytes : List ℕ) (h : List Entries) → Reads replica bytes h
    → IsDue (length h) (whole_lines bytes)
due replica bytes h (inl (empty, none)) = subst (λ ls. IsDue (length h) ls) (sym empty.no_line) (ap length none)
due replica bytes h (inr is) = due_in replica (whole_lines bytes) h is.told

started_some : (replica : ℕ) (lines : List (List ℕ)) (h : List Entries) → TellHistory replica lines h
    → started replica lines ≡ lines
started_some replica [] h told = absurd told
started_some replica (first ∷ others) h told = refl

-- once a file is kept its lines tell what was read of it
pub told_then : (replica : ℕ) (bytes : List ℕ) (h : List Entries) → Reads replica bytes h
    → TellHistory replica (started replica (whole_lines bytes)) h
told_then replica bytes h (inl (empty, none)) =
    subst (λ ls. TellHistory replica (started replica ls) h) (sym empty.no_line)
    (refl, subst (λ x. PushAll [] x) (sym none) tt)
told_then replica bytes h (inr is) =
    subst (λ ls. TellHistory replica ls h) (sym (started_some replica (whole_lines bytes) h is.told)) is.told

whole : {A : Type 0} (xs : List A) → IsPrefix xs xs
whole xs = ([], append-nil xs)

pub noted_then : (replica : ℕ) (bytes : List ℕ) (h : List Entries) (j : JournalView) → Reads replica bytes h
    → IsJournal j → j.lines ≡ started replica (whole_lines bytes) → IsNoted replica h j
noted_then replica bytes h j read is lines = record {
  journal = is;
  noted = h;
  told = subst (λ ls. TellHistory replica ls h) (sym lines) (told_then replica bytes h read);
  begins = whole h;
}

-- ---- the first line has no line feed

digits_line : (ds : List ℕ) → AllDigits 10 ds → IsLine ds
digits_line [] all = tt
digits_line (c ∷ ds) all = ((λ is. none (subst (λ x. digit_value x < 10) is all.0)), digits_line ds all.1)
  where
    none : digit_value 10 < 10 → ⊥
    none less = omega (arith, less)

pub replica_line-is_line : (n : ℕ) → n < 256 → IsLine (replica_line n)
replica_line-is_line n small =
    let text = digits_line (decimal n) (decimal_is_IsNumeral n (omega (arith, small))).0.1 in
    ((λ e. cc), ((λ e. cc), ((λ e. cc), ((λ e. cc), ((λ e. cc), ((λ e. cc), ((λ e. cc), ((λ e. cc), text))))))))

-- as many as there are in a list that is the history
pub due_of : (replica : ℕ) (bytes found : List ℕ) (h xs : List Entries) → Reads replica bytes h → bytes ≡ found
    → xs ≡ h → IsDue (length xs) (whole_lines found)
due_of replica bytes found h xs read same is =
    subst (λ n. IsDue n (whole_lines found)) (sym (ap length is))
    (due replica found h (subst (λ b. Reads replica b h) same read))

-- ---- the deltas of lines have lines

pub push_have_lines : (lines : List (List ℕ)) (h : List Entries) → PushAll lines h → All HasLine h
push_have_lines [] [] all = All-nil HasLine
push_have_lines [] (d ∷ h) all = absurd all
push_have_lines (line ∷ lines) [] all = absurd all
push_have_lines (line ∷ lines) (d ∷ h) all =
    let is = all.0.2 in
    All-cons HasLine d h (record { lawful = is.lawful; fits = (decoded_fit all.0.0 d is).1 })
    (push_have_lines lines h all.1)

told_have_lines : (replica : ℕ) (lines : List (List ℕ)) (h : List Entries) → TellHistory replica lines h → All HasLine h
told_have_lines replica [] h told = absurd told
told_have_lines replica (first ∷ others) h told = push_have_lines others h told.1

pub have_lines : (replica : ℕ) (bytes : List ℕ) (h : List Entries) → Reads replica bytes h → All HasLine h
have_lines replica bytes h (inl empty) = subst (λ x. All HasLine x) (sym empty.1) (All-nil HasLine)
have_lines replica bytes h (inr begun) = told_have_lines replica (whole_lines bytes) h begun.told
