-- A record changes: more of the list was seen, noted or synced.
use Rattle.std.proofs.Common.{◌≡◌, ◌+◌, ◌<◌, ◌≤◌, ℕ, List, [], ◌∷◌, ◌++◌, All, length, map, take, drop, ap, sym, ◌∙◌}
use Rattle.std.proofs.Common.{arith, get_or, length-append, subst, Result, Ok, Err}
use Rattle.std.proofs.lemmas.List.{take-append-le, take_all, take_more, length-drop}
use Rattle.std.specs.Prelude.{OnOk, OnErr}
use Rattle.std.proofs.Math.Seq.{take-add}
use mathlib.Core.List.{IsPrefix}
use Rattle.ps_delta.specs.Deltas.{Entries}
use Rattle.ps_face.specs.declared.patch.Note.{Note}
use Rattle.ps_face.specs.Legal.{history_of}
use Rattle.ps_face.proofs.Beginnings.{begins_itself, begins_trans}
use Rattle.ps_desk.proofs.Closes.{history_begins}
use Rattle.ps_keep.specs.Journals.{IsJournal, JournalView}
use Rattle.ps_lines.specs.PushLine.{push_line}
use Rattle.ps_kept.specs.Kept.{Notes, PushAll, TellHistory}
use Rattle.ps_kept_desk.specs.Records.{EndsKept, IsRecord, RecordView}

push_more : (lines news : List (List ℕ)) (a b : List Entries) → PushAll lines a → PushAll news b
    → PushAll (lines ++ news) (a ++ b)
push_more [] news [] b p q = q
push_more [] news (d ∷ a) b p q = absurd p
push_more (line ∷ lines) news [] b p q = absurd p
push_more (line ∷ lines) news (d ∷ a) b p q = (p.0, push_more lines news a b p.1 q)

tells_more : (r : ℕ) (lines news : List (List ℕ)) (a b : List Entries) → TellHistory r lines a → PushAll news b
    → TellHistory r (lines ++ news) (a ++ b)
tells_more r [] news a b t q = absurd t
tells_more r (first ∷ lines) news a b t q = (t.0, push_more lines news a b t.1 q)

module _ (r : ℕ) (h : List Entries) (v : RecordView) (is : IsRecord r h v) where
  -- more of the list was seen
  pub seen_later : (list : List Note) → IsPrefix v.seen list → IsRecord r h (record v { seen = list })
  seen_later list later =
      let begins = history_begins h v.seen list later in
      let same : take v.noted (history_of h v.seen) ≡ take v.noted (history_of h list) =
      sym (take-append-le v.noted (history_of h v.seen) begins.0 is.within) ∙ ap (take v.noted) begins.1 in
      record {
        told = is.told;
        noted = subst (λ (ds : List Entries). TellHistory r v.journal.lines ds) same is.noted;
        within = omega (arith, is.within, ap length begins.1, length-append (history_of h v.seen) begins.0);
        later = begins_trans v.kept v.seen list is.later later;
        journal = is.journal;
      }

  -- k of the deltas that weren't noted yet were noted
  pub more_noted : (j : JournalView) (deltas : List Entries) (k : ℕ) → deltas ≡ drop v.noted (history_of h v.seen)
      → Notes v.journal (take k deltas) j → k ≤ length deltas
      → IsRecord r h (record v { journal = j; noted = v.noted + k })
  more_noted j deltas k rest notes few =
      let seen = history_of h v.seen in
      let lines : j.lines ≡ v.journal.lines ++ map push_line (take k deltas) =
      ap (λ (w : JournalView). w.lines) notes.lines in
      let all : take v.noted seen ++ take k deltas ≡ take (v.noted + k) seen =
      ap (λ (ds : List Entries). take v.noted seen ++ take k ds) rest ∙ sym (take-add v.noted k seen) in
      record {
        told = subst (λ (ls : List (List ℕ)). TellHistory r ls (history_of h v.kept))
            (sym (ap (λ (w : JournalView). w.kept) notes.lines)) is.told;
        noted = subst (λ (ls : List (List ℕ)). TellHistory r ls (take (v.noted + k) seen)) (sym lines)
            (subst (λ (ds : List Entries). TellHistory r (v.journal.lines ++ map push_line (take k deltas)) ds) all
            (tells_more r v.journal.lines (map push_line (take k deltas)) (take v.noted seen) (take k deltas) is.noted
            notes.each));
        within = omega (arith, is.within, few, ap length rest, length-drop v.noted seen);
        later = is.later;
        journal = notes.journal is.journal;
      }

  -- all of them were noted
  all_noted : (j : JournalView) (deltas : List Entries) → deltas ≡ drop v.noted (history_of h v.seen)
      → Notes v.journal deltas j → IsRecord r h (record v { journal = j; noted = v.noted + length deltas })
  all_noted j deltas rest notes =
      more_noted j deltas (length deltas) rest
      (subst (λ (ds : List Entries). Notes v.journal ds j) (sym (take_all (length deltas) deltas (omega arith))) notes)
      (omega arith)

  -- the noted ones are counted, whatever the outcome
  pub noted_some : {A E : Type 0} (result : Result A E) (j : JournalView) (deltas : List Entries) (count : ℕ)
      → deltas ≡ drop v.noted (history_of h v.seen)
      → OnOk result (Notes v.journal deltas j × (count ≡ v.noted + length deltas))
      → OnErr result ((n : ℕ) × (n ≤ length deltas) × (count ≡ v.noted + n) × Notes v.journal (take n deltas) j)
      → IsRecord r h (record v { journal = j; noted = count })
  noted_some (Ok a) j deltas count rest told part =
      subst (λ (n : ℕ). IsRecord r h (record v { journal = j; noted = n })) (sym told.1)
      (all_noted j deltas rest told.0)
  noted_some (Err e) j deltas count rest told part =
      subst (λ (n : ℕ). IsRecord r h (record v { journal = j; noted = n })) (sym part.2)
      (more_noted j deltas part.0 rest part.3 part.1)

  -- .. and the device isn't called
  pub stays_calm : {A E : Type 0} (result : Result A E) (j : JournalView) (deltas : List Entries) (count : ℕ)
      → OnOk result (Notes v.journal deltas j × (count ≡ v.noted + length deltas))
      → OnErr result ((n : ℕ) × (n ≤ length deltas) × (count ≡ v.noted + n) × Notes v.journal (take n deltas) j)
      → j.has_failed ≡ v.journal.has_failed
  stays_calm (Ok a) j deltas count told part = ap (λ (w : JournalView). w.has_failed) told.0.lines
  stays_calm (Err e) j deltas count told part = ap (λ (w : JournalView). w.has_failed) part.3.lines

  -- what was noted is all that was seen, and was synced
  pub synced : (j : JournalView) → v.noted ≡ length (history_of h v.seen) → j.kept ≡ v.journal.lines
      → j.lines ≡ v.journal.lines → IsJournal j → IsRecord r h (record v { journal = j; kept = v.seen })
  synced j all kept lines journal =
      let seen = history_of h v.seen in
      record {
        told = subst (λ (ls : List (List ℕ)). TellHistory r ls seen) (sym kept)
            (subst (λ (ds : List Entries). TellHistory r v.journal.lines ds)
            (take_all v.noted seen (omega (arith, all))) is.noted);
        noted = subst (λ (ls : List (List ℕ)). TellHistory r ls (take v.noted seen)) (sym lines) is.noted;
        within = is.within;
        later = begins_itself v.seen;
        journal = journal;
      }

  -- a sync failed
  pub unsynced : (j : JournalView) → j.kept ≡ v.journal.kept → j.lines ≡ v.journal.lines → IsJournal j
      → IsRecord r h (record v { journal = j })
  unsynced j kept lines journal = record {
    told = subst (λ (ls : List (List ℕ)). TellHistory r ls (history_of h v.kept)) (sym kept) is.told;
    noted = subst (λ (ls : List (List ℕ)). TellHistory r ls (take v.noted (history_of h v.seen))) (sym lines) is.noted;
    within = is.within;
    later = is.later;
    journal = journal;
  }

  -- each list that was reported as durable is a beginning of the durable one
  pub ends_kept : (history : List Entries) (lists : List (List Note)) → history ≡ history_of h v.seen
      → All (λ list. IsPrefix list v.kept) lists → EndsKept r h history lists v.journal.kept
  ends_kept history lists whole all = record {
    part = history_of h v.kept;
    told = is.told;
    begins = subst (λ (ds : List Entries). IsPrefix (history_of h v.kept) ds) (sym whole)
        (history_begins h v.kept v.seen is.later);
    all = λ k d lt. history_begins h _ v.kept (all k d lt);
  }

-- the durable list only grows, whatever the outcome of a sync
pub kept_later : {A E : Type 0} (result : Result A E) (old seen new : List Note) → IsPrefix old seen
    → OnOk result (new ≡ seen) → OnErr result (new ≡ old) → IsPrefix old new
kept_later (Ok a) old seen new later all same = subst (λ (l : List Note). IsPrefix old l) (sym all) later
kept_later (Err e) old seen new later all same =
    subst (λ (l : List Note). IsPrefix old l) (sym same) (begins_itself old)

-- one more list was checked
pub one_more : (lists : List (List Note)) (i : ℕ) (list : List Note) → i < length lists → list ≡ get_or lists i list
    → take i lists ++ list ∷ [] ≡ take (i + 1) lists
one_more lists i list within is = ap (λ d. take i lists ++ d ∷ []) is ∙ sym (take_more lists i list within)
