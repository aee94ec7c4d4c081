-- A journal to which the later changes of a history are added.
use Rattle.std.proofs.Common.{◌≡◌, ◌+◌, ◌-◌, ◌≤◌, ℕ, List, [], ◌∷◌, ◌++◌, length, take, drop, map, sym, ap, ◌∙◌}
use Rattle.std.proofs.Common.{append_assoc, arith, subst, length-append, Bool, false, Result, Ok, Err}
use Rattle.std.specs.Prelude.{OnErr, OnOk, is_err}
use Rattle.std.proofs.lemmas.List.{append-nil, length-drop, take-append-drop, take_all}
use mathlib.Core.List.{IsPrefix}
use Rattle.ps_delta.specs.Deltas.{Entries}
use Rattle.ps_sheet.specs.Sheet.{IsFresh}
use Rattle.ps_keep.specs.Crash.{SurvivesCrashes}
use Rattle.ps_keep.specs.Journals.{IsJournal, JournalView}
use Rattle.ps_keep.proofs.CrashLemmas.{journal_survives}
use Rattle.ps_kept.specs.Inside.{later}
use Rattle.ps_lines.specs.PushLine.{push_line}
use Rattle.ps_kept.specs.Kept.{IsKept, IsNoted, Notes, PushAll, TellHistory}
use Rattle.ps_kept.specs.Starts.{Outlives}
use Rattle.ps_kept.proofs.NoteLemmas.{PushAll-both}
use Rattle.ps_kept.proofs.StartLemmas.{PushAll-length}
use Rattle.ps_kept.proofs.ToldLemmas.{outlives}

-- as many lines as deltas, and the first
pub told_count : (replica : ℕ) (lines : List (List ℕ)) (h : List Entries) → TellHistory replica lines h
    → length lines ≡ length h + 1
told_count replica [] h told = absurd told
told_count replica (first ∷ others) h told = omega (arith, PushAll-length others h told.1)

tells_more : (replica : ℕ) (lines more : List (List ℕ)) (h ds : List Entries) → TellHistory replica lines h
    → PushAll more ds → TellHistory replica (lines ++ more) (h ++ ds)
tells_more replica [] more h ds told all = absurd told
tells_more replica (first ∷ others) more h ds told all = (told.0, PushAll-both others more h ds told.1 all)

front_length : (h history : List Entries) → IsPrefix h history → length h ≤ length history
front_length h history begins = omega (arith, ap length begins.1, length-append h begins.0)

drop_front : (h rest history : List Entries) → h ++ rest ≡ history → drop (length h) history ≡ rest
drop_front [] rest history is = sym is
drop_front (d ∷ h) rest [] is = absurd (none (h ++ rest) is)
  where
    none : (l : List Entries) → d ∷ l ≡ [] → ⊥
    none l e = cc
drop_front (d ∷ h) rest (e ∷ history) is = drop_front h rest history (tail is)
  where
    tail : (d ∷ (h ++ rest)) ≡ (e ∷ history) → h ++ rest ≡ history
    tail f = cc

module _ (replica : ℕ) (history : List Entries) (old : JournalView) (fits : IsNoted replica history old) where
  count : length old.lines ≡ length fits.noted + 1
  count = told_count replica old.lines fits.noted fits.told

  pub lines_within : length old.lines ≤ length history + 1
  lines_within = omega (arith, count, front_length fits.noted history fits.begins)

  -- what isn't noted yet
  rest_is : later old.lines history ≡ fits.begins.0
  rest_is =
      let n : length old.lines - 1 ≡ length fits.noted = omega (arith, count) in
      ap (λ (k : ℕ). drop k history) n ∙ drop_front fits.noted fits.begins.0 history fits.begins.1

  told_with : (ds : List Entries) (mid : JournalView) → Notes old ds mid
      → TellHistory replica mid.lines (fits.noted ++ ds)
  told_with ds mid notes =
      subst (λ ls. TellHistory replica ls (fits.noted ++ ds)) (sym (ap (λ j. j.lines) notes.lines))
      (tells_more replica old.lines (map push_line ds) fits.noted ds fits.told notes.each)

  pub noted_part : (n : ℕ) (mid : JournalView) → Notes old (take n (later old.lines history)) mid
      → IsNoted replica history mid
  noted_part n mid notes =
      let rest = fits.begins.0 in
      record {
        journal = notes.journal fits.journal;
        noted = fits.noted ++ take n (later old.lines history);
        told = told_with (take n (later old.lines history)) mid notes;
        begins = (
          drop n rest,
          ap (λ l. (fits.noted ++ take n l) ++ drop n rest) rest_is
              ∙ append_assoc fits.noted (take n rest) (drop n rest)
              ∙ ap (λ l. fits.noted ++ l) (take-append-drop n rest) ∙ fits.begins.1,
        );
      }

  pub told_all : (mid : JournalView) → Notes old (later old.lines history) mid → TellHistory replica mid.lines history
  told_all mid notes =
      subst (λ h. TellHistory replica mid.lines h) (ap (λ l. fits.noted ++ l) rest_is ∙ fits.begins.1)
      (told_with (later old.lines history) mid notes)

  pub noted_all : (mid : JournalView) → Notes old (later old.lines history) mid → IsNoted replica history mid
  noted_all mid notes = record {
    journal = notes.journal fits.journal;
    noted = history;
    told = told_all mid notes;
    begins = ([], append-nil history);
  }

-- what was durable outlives a crash
pub kept_outlives : (replica : ℕ) (history kept : List Entries) (old mid : JournalView) (written : List ℕ)
    → IsKept replica kept old → IsNoted replica history mid → mid.kept ≡ old.kept → mid.synced ≡ old.synced
    → IsFresh history → SurvivesCrashes written mid.synced mid.kept mid.lines
    → Outlives replica kept history written old.synced
kept_outlives replica history kept old mid written is noted same_lines same_count fresh survives =
    subst (λ n. Outlives replica kept history written n) same_count
    (outlives replica kept noted.noted history mid.kept mid.lines written mid.synced is.all.0
    (subst (λ ls. IsPrefix is.all.0 ls) (sym same_lines) is.all.1) is.all.2 noted.told noted.begins fresh survives)

-- noting calls no device, and what was durable outlives a crash
pub noting_outlives : (replica : ℕ) (history kept : List Entries) (old mid : JournalView) (ds : List Entries)
    → IsKept replica kept old → IsNoted replica history mid → Notes old ds mid → IsFresh history
    → Outlives replica kept history mid.written old.synced
noting_outlives replica history kept old mid ds is noted notes fresh =
    kept_outlives replica history kept old mid mid.written is noted (ap (λ j. j.kept) notes.lines)
    (ap (λ j. j.synced) notes.lines) fresh (journal_survives mid noted.journal)

-- ---- the slice of the history that isn't noted

pub later_is : (lines : List (List ℕ)) (h : List Entries) (n : ℕ) → length lines ≡ n + 1
    → take (length h - n) (drop n h) ≡ later lines h
later_is lines h n is =
    let count : length lines - 1 ≡ n = omega (arith, is) in
    take_all (length h - n) (drop n h) (omega (arith, length-drop n h)) ∙ ap (λ (k : ℕ). drop k h) (sym count)

-- ---- once all is synced

pub kept_all : (replica : ℕ) (history : List Entries) (mid new : JournalView) → IsJournal new → new.kept ≡ mid.lines
    → TellHistory replica mid.lines history → IsKept replica history new
kept_all replica history mid new journal same told = record {
  journal = journal;
  all = (new.kept, ([], append-nil new.kept), subst (λ ls. TellHistory replica ls history) (sym same) told);
}

pub noted_again : (replica : ℕ) (history : List Entries) (mid new : JournalView) → IsJournal new
    → new.lines ≡ mid.lines → TellHistory replica mid.lines history → IsNoted replica history new
noted_again replica history mid new journal same told = record {
  journal = journal;
  noted = history;
  told = subst (λ ls. TellHistory replica ls history) (sym same) told;
  begins = ([], append-nil history);
}

pub on_ok : {T E : Type 0} (r : Result T E) (P Q : Type 0) → (P → Q) → OnOk r P → OnOk r Q
on_ok (Ok x) P Q f p = f p
on_ok (Err x) P Q f p = tt

pub on_err : {T E : Type 0} (r : Result T E) (P Q : Type 0) → (P → Q) → OnErr r P → OnErr r Q
on_err (Ok x) P Q f p = tt
on_err (Err x) P Q f p = f p

pub ok_fits : {T E : Type 0} (r : Result T E) (b : Bool) (P : Type 0) → b ≡ is_err r → P → OnOk r (P × (b ≡ false))
ok_fits (Ok x) b P is p = (p, is)
ok_fits (Err x) b P is p = tt
