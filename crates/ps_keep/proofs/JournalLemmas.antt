-- What a journal is made of makes it one.
use Rattle.std.proofs.Common.{◌≡◌, ◌≤◌, ℕ, Bool, false, true, List, [], ◌∷◌, ◌++◌, length, take, drop, refl, sym}
use Rattle.std.proofs.Common.{Result, Ok, Err, OnOk, OnErr}
use Rattle.std.proofs.Common.{◌∙◌, ap, subst, arith, append_assoc, take-append-drop}
use Rattle.std.proofs.lemmas.List.{append-nil}
use Rattle.std.proofs.Math.Seq.{take-append_seam}
use mathlib.Core.List.{IsPrefix}
use Rattle.ps_keep.specs.Lines.{IsLine, text, whole_lines}
use Rattle.ps_keep.specs.Crash.{SurvivesCrashes}
use Rattle.ps_keep.specs.Journals.{Holds, IsJournal, IsWhole, JournalView, found_of}
use Rattle.ps_keep.proofs.CrashLemmas.{prefix_trans, survives}
use Rattle.ps_keep.proofs.LineLemmas.{AreLines-append, text-append, whole_are, whole_of_text, whole_text}

pub whole_is : (bytes : List ℕ) → IsWhole bytes → text (whole_lines bytes) ≡ bytes
whole_is bytes w = ap (λ (bs : List ℕ). text (whole_lines bs)) w.is ∙ ap text (whole_of_text w.lines w.each) ∙ sym w.is

pub whole-append : (a b : List ℕ) → IsWhole a → IsWhole b → IsWhole (a ++ b)
whole-append a b v w = record {
  lines = v.lines ++ w.lines;
  each = AreLines-append v.lines w.lines v.each w.each;
  is = ap (λ (l : List ℕ). l ++ b) v.is ∙ ap (λ (l : List ℕ). text v.lines ++ l) w.is
      ∙ sym (text-append v.lines w.lines);
}

pub whole_one : (line : List ℕ) → IsLine line → IsWhole (line ++ 10 ∷ [])
whole_one line is = record { lines = line ∷ []; each = (is, tt); is = refl }

pub whole_none : IsWhole []
whole_none = record { lines = []; each = tt; is = refl }

-- the lines of two parts are those of the one and then those of the other
pub lines-append : (a b : List ℕ) → IsWhole a → IsWhole b → whole_lines (a ++ b) ≡ whole_lines a ++ whole_lines b
lines-append a b v w =
    ap (λ (l : List ℕ). whole_lines (l ++ b)) v.is ∙ whole_text v.lines b v.each
    ∙ ap (λ (ls : List (List ℕ)). ls ++ whole_lines b) (sym (whole_of_text v.lines v.each) ∙ ap whole_lines (sym v.is))

pub one_line : (line : List ℕ) → IsLine line → whole_lines (line ++ 10 ∷ []) ≡ line ∷ []
one_line line is = whole_of_text (line ∷ []) (is, tt)

-- a line that is noted is the last line
pub noted_last : (durable waiting line : List ℕ) → IsWhole durable → IsWhole waiting → IsLine line
    → whole_lines (durable ++ ((waiting ++ line) ++ 10 ∷ [])) ≡ whole_lines (durable ++ waiting) ++ line ∷ []
noted_last durable waiting line v w is =
    let shape : durable ++ ((waiting ++ line) ++ 10 ∷ []) ≡ (durable ++ waiting) ++ (line ++ 10 ∷ []) =
    ap (λ (l : List ℕ). durable ++ l) (append_assoc waiting line (10 ∷ []))
    ∙ sym (append_assoc durable waiting (line ++ 10 ∷ [])) in
    ap whole_lines shape ∙ lines-append (durable ++ waiting) (line ++ 10 ∷ []) (whole-append durable waiting v w)
    (whole_one line is)
    ∙ ap (λ (ls : List (List ℕ)). whole_lines (durable ++ waiting) ++ ls) (one_line line is)

-- after a cut a file has just what is on the disk
cut_is : (durable written : List ℕ) (safe : ℕ) (is_cut : Bool) → IsPrefix durable written → safe ≡ length durable
    → is_cut ≡ true → found_of written safe is_cut ≡ durable
cut_is durable written safe false p le is = absurd (differ is)
  where
    differ : false ≡ true → ⊥
    differ e = cc
cut_is durable written safe true p le is =
    ap (λ (n : ℕ). take n written) le ∙ ap (λ (l : List ℕ). take (length durable) l) (sym p.1)
    ∙ take-append_seam durable p.0

module _ (durable waiting written : List ℕ) (safe : ℕ) (has_failed is_cut cut_failed : Bool) (h : Holds durable waiting
    written safe has_failed is_cut cut_failed) where
  abbrev pub view : JournalView
  view = record {
    kept = whole_lines durable;
    lines = whole_lines (durable ++ waiting);
    written = written;
    synced = safe;
    has_failed = has_failed;
    found = found_of written safe is_cut;
    cut_failed = cut_failed;
  }

  pub holds_journal : IsJournal view
  holds_journal = record {
    each = whole_are (durable ++ waiting);
    begins = (whole_lines waiting, sym (lines-append durable waiting h.whole h.waits));
    holds = subst (λ (l : List ℕ). IsPrefix l written) (sym (whole_is durable h.whole)) h.kept;
    noted = subst (IsPrefix written) (sym (whole_is (durable ++ waiting) (whole-append durable waiting h.whole
        h.waits))) h.noted;
    synced = subst (λ (l : List ℕ). length l ≤ safe) (sym (whole_is durable h.whole)) (omega (arith, h.synced));
    going = λ calm. (h.uncut calm).1;
    cut = λ failed went. cut_is durable written safe is_cut h.kept h.synced (h.cut failed went)
        ∙ sym (whole_is durable h.whole);
  }

  -- also a file that was given more since is what a crash at any moment leaves something of
  pub holds_moment : (later : List ℕ) → IsPrefix durable later → IsPrefix later (durable ++ waiting)
      → SurvivesCrashes later safe (whole_lines durable) (whole_lines (durable ++ waiting))
  holds_moment later kept noted =
      let j = holds_journal in
      survives (whole_lines durable) (whole_lines (durable ++ waiting)) later safe j.each j.begins
      (subst (λ (l : List ℕ). IsPrefix l later) (sym (whole_is durable h.whole)) kept)
      (subst (IsPrefix later) (sym (whole_is (durable ++ waiting) (whole-append durable waiting h.whole h.waits)))
      noted)
      j.synced

  -- a line more waits
  pub note_holds : (line : List ℕ) → IsLine line → Holds durable ((waiting ++ line) ++ 10 ∷ []) written safe has_failed
      is_cut cut_failed
  note_holds line is = record {
    whole = h.whole;
    waits = subst IsWhole (sym (append_assoc waiting line (10 ∷ []))) (whole-append waiting (line ++ 10 ∷ []) h.waits
        (whole_one line is));
    synced = h.synced;
    kept = h.kept;
    noted = prefix_trans written (durable ++ waiting) (durable ++ ((waiting ++ line) ++ 10 ∷ [])) h.noted (
      line ++ 10 ∷ [],
      append_assoc durable waiting (line ++ 10 ∷ [])
          ∙ ap (λ (l : List ℕ). durable ++ l) (sym (append_assoc waiting line (10 ∷ []))),
    );
    same = h.same;
    uncut = h.uncut;
    cut = h.cut;
  }

  -- a part of what waits was given to the file, which has as many bytes on the disk, and was cut, or couldn't be
  pub part_holds : (later : List ℕ) (count still : ℕ) (cut uncut : Bool) → has_failed ≡ false → later
      ≡ written ++ take count waiting → still ≡ safe → (uncut ≡ false → cut ≡ true)
      → Holds durable waiting later still true cut uncut
  part_holds later count still cut uncut calm is stays ends = record {
    whole = h.whole;
    waits = h.waits;
    synced = stays ∙ h.synced;
    kept = (take count waiting, ap (λ (l : List ℕ). l ++ take count waiting) (sym (h.same calm)) ∙ sym is);
    noted = (
      drop count waiting,
      ap (λ (l : List ℕ). l ++ drop count waiting) (is ∙ ap (λ (l : List ℕ). l ++ take count waiting) (h.same calm))
          ∙ append_assoc durable (take count waiting) (drop count waiting)
          ∙ ap (λ (l : List ℕ). durable ++ l) (take-append-drop count waiting),
    );
    same = λ not. absurd (differ not);
    uncut = λ not. absurd (differ not);
    cut = λ _. ends;
  }
    where
      differ : true ≡ false → ⊥
      differ e = cc

  -- all that waited was given to the file
  pub appended_moment : (later : List ℕ) → has_failed ≡ false → later ≡ written ++ waiting
      → SurvivesCrashes later safe (whole_lines durable) (whole_lines (durable ++ waiting))
  appended_moment later calm is =
      let whole : later ≡ durable ++ waiting = is ∙ ap (λ (l : List ℕ). l ++ waiting) (h.same calm) in
      holds_moment later (waiting, sym whole) ([], append-nil later ∙ whole)

  -- all that waited is on the disk
  pub all_holds : (later : List ℕ) (more : ℕ) (cut uncut : Bool) → has_failed ≡ false → later ≡ written ++ waiting
      → more ≡ length later → cut ≡ is_cut → uncut ≡ cut_failed → Holds later [] later more false cut uncut
  all_holds later more cut uncut calm is le same_cut same_uncut = record {
    whole = subst IsWhole (sym (is
        ∙ ap (λ (l : List ℕ). l ++ waiting) (h.same calm))) (whole-append durable waiting h.whole h.waits);
    waits = whole_none;
    synced = le;
    kept = ([], append-nil later);
    noted = ([], refl);
    same = λ _. refl;
    uncut = λ _. (same_cut ∙ (h.uncut calm).0, same_uncut ∙ (h.uncut calm).1);
    cut = λ not. absurd (differ not);
  }
    where
      differ : false ≡ true → ⊥
      differ e = cc

pub new_holds : (written : List ℕ) (safe : ℕ) (is_cut cut_failed : Bool) → IsWhole written → safe ≡ length written
    → is_cut ≡ false → cut_failed ≡ false → Holds written [] written safe false is_cut cut_failed
new_holds written safe is_cut cut_failed whole le uncut calm = record {
  whole = whole;
  waits = whole_none;
  synced = le;
  kept = ([], append-nil written);
  noted = ([], refl);
  same = λ _. refl;
  uncut = λ _. (uncut, calm);
  cut = λ not. absurd (differ not);
}
  where
    differ : false ≡ true → ⊥
    differ e = cc

pub on_err : {A E X : Type 0} (r : Result A E) → X → OnErr r X
on_err (Ok a) x = tt
on_err (Err e) x = x

-- what a cut says of how it ended
pub ends_of : {A E : Type 0} (X : Type 0) (r : Result A E) (is_cut cut_failed : Bool) → OnOk r ((is_cut ≡ true) × X)
    → OnErr r (cut_failed ≡ true) → cut_failed ≡ false → is_cut ≡ true
ends_of X (Ok a) is_cut cut_failed went failed calm = went.0
ends_of X (Err e) is_cut cut_failed went failed calm = absurd (differ (sym failed ∙ calm))
  where
    differ : true ≡ false → ⊥
    differ e = cc

-- from the fields to what callers see
pub noted_view : (before seen : JournalView) (lines : List (List ℕ)) (line : List ℕ) → before ≡ seen → lines
    ≡ before.lines ++ line ∷ [] → record before { lines = lines } ≡ record seen { lines = seen.lines ++ line ∷ [] }
noted_view before seen lines line is more =
    subst (λ (j : JournalView). record before { lines = lines }
    ≡ record j { lines = j.lines ++ line ∷ [] }) is (ap (λ (ls : List (List ℕ)). record before { lines = ls }) more)
