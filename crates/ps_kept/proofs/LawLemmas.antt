-- Laws of kept sheets.
use Rattle.std.proofs.Common.{◌≡◌, ◌+◌, ◌<◌, ◌≤◌, ℕ, List, [], ◌∷◌, ◌++◌, length, take, refl, sym, ap, ◌∙◌}
use Rattle.std.proofs.Common.{arith, subst, get_or, inl, inr, length-append}
use mathlib.Core.List.{IsPrefix}
use Rattle.ps_grid.specs.declared.parties.TheConstants.{REPLICAS}
use Rattle.ps_delta.specs.State.{IsBelow}
use Rattle.ps_delta.specs.Deltas.{Entries, joined_history, state_of}
use Rattle.ps_sheet.specs.Sheet.{IsFresh}
use Rattle.ps_keep.specs.Lines.{AreLines, text, whole_lines}
use Rattle.ps_keep.proofs.CrashLemmas.{journal_survives, journal_torn, prefix_trans, start_again}
use Rattle.ps_keep.proofs.LineLemmas.{whole_are, whole_of_text}
use Rattle.ps_lines.specs.PushLine.{Pushes}
use Rattle.ps_lines.specs.ReplicaLine.{replica_line}
use Rattle.ps_kept.specs.Kept.{PushAll, TellHistory, started}
use Rattle.ps_kept.specs.Laws.{CrashesKeepSheets, FaultsComeAfter, OneHistory, ReadAgain, ReadFilesOpen, StartsMayCrash}
use Rattle.ps_kept.specs.Laws.{StaysNoted}
use Rattle.ps_kept.specs.Starts.{HasNoFirst, IsFaulty, IsOther, Reads}
use Rattle.ps_kept.specs.declared.fault.KeepFault.TheVariants as faults
use Rattle.ps_kept.proofs.KeeperLemmas.{kept_outlives, told_count}
use Rattle.ps_kept.proofs.StartLemmas.{replica_line-is_line, told_then}
use Rattle.ps_kept.proofs.ToldLemmas.{tell_the_same, told_some}

pub stays_noted : StaysNoted
stays_noted replica history more j is begins = record {
  journal = is.journal;
  noted = is.noted;
  told = is.told;
  begins = prefix_trans is.noted history more is.begins begins;
}

pub crashes_keep : CrashesKeepSheets
crashes_keep replica kept history j is noted fresh =
    kept_outlives replica history kept j j j.written is noted refl refl fresh (journal_survives j noted.journal)

-- ---- one history

not_told : (replica : ℕ) (lines : List (List ℕ)) (h : List Entries) → lines ≡ [] → TellHistory replica lines h → ⊥
not_told replica lines h none told = told_some replica lines h told none

pub one_history : OneHistory
one_history replica bytes h k (inl a) (inl b) = a.1 ∙ sym b.1
one_history replica bytes h k (inl a) (inr b) = absurd (not_told replica (whole_lines bytes) k a.0.no_line b.told)
one_history replica bytes h k (inr a) (inl b) = absurd (not_told replica (whole_lines bytes) h b.0.no_line a.told)
one_history replica bytes h k (inr a) (inr b) = tell_the_same replica (whole_lines bytes) h k a.told b.told

-- the deltas of the lines before one, and its own
record Divided (lines_before : List (List ℕ)) (line : List ℕ) (h : List Entries) : Type 0 where
  before : List Entries
  delta : Entries
  after : List Entries
  is : h ≡ before ++ delta ∷ after
  told : PushAll lines_before before
  pushes : Pushes line delta

divided : (before : List (List ℕ)) (line : List ℕ) (after : List (List ℕ)) (h : List Entries)
    → PushAll (before ++ line ∷ after) h → Divided before line h
divided [] line after [] all = absurd all
divided [] line after (d ∷ h) all = record { before = []; delta = d; after = h; is = refl; told = tt; pushes = all.0 }
divided (b ∷ before) line after [] all = absurd all
divided (b ∷ before) line after (d ∷ h) all =
    let rest = divided before line after h all.1 in
    record {
      before = d ∷ rest.before;
      delta = rest.delta;
      after = rest.after;
      is = ap (λ ds. d ∷ ds) rest.is;
      told = (all.0, rest.told);
      pushes = rest.pushes;
    }

here : (before : List Entries) (d : Entries) (after : List Entries) → get_or (before ++ d ∷ after) (length before) []
    ≡ d
here [] d after = refl
here (b ∷ before) d after = here before d after

front : (before : List Entries) (d : Entries) (after : List Entries) → take (length before) (before ++ d ∷ after) ≡
    before
front [] d after = refl
front (b ∷ before) d after = ap (λ l. b ∷ l) (front before d after)

-- each delta of a fresh history may follow those before it
follows_here : (h before : List Entries) (d : Entries) (after : List Entries) → IsFresh h → h ≡ before ++ d ∷ after
    → ¬ IsBelow (state_of d) (joined_history before)
follows_here h before d after fresh is below =
    let short : length before < length h = omega (arith, ap length is, length-append before (d ∷ after)) in
    let at : get_or h (length before) [] ≡ d = ap (λ l. get_or l (length before) []) is ∙ here before d after in
    let those : take (length before) h ≡ before = ap (λ l. take (length before) l) is ∙ front before d after in
    fresh (length before) short
    (subst (λ l. IsBelow (state_of (get_or h (length before) [])) (joined_history l)) (sym those)
    (subst (λ x. IsBelow (state_of x) (joined_history before)) (sym at) below))

no_empty : (before : List (List ℕ)) (line : List ℕ) (after : List (List ℕ)) → [] ≡ before ++ line ∷ after → ⊥
no_empty [] line after e = cc
no_empty (b ∷ before) line after e = cc

-- no line of those that tell a fresh history is faulty
none_faulty : (replica : ℕ) (lines : List (List ℕ)) (h : List Entries) (number : ℕ) → TellHistory replica lines h
    → IsFresh h → IsFaulty replica lines number → ⊥
none_faulty replica lines h number told fresh fault =
    go fault.before fault.told (subst (λ ls. TellHistory replica ls h) fault.is told)
  where
    go : (before : List (List ℕ)) → TellHistory replica before fault.history
        → TellHistory replica (before ++ fault.line ∷ fault.after) h → ⊥
    go [] first all = first
    go (b ∷ before) first all =
        let d = divided before fault.line fault.after h all.1 in
        let same = tell_the_same replica (b ∷ before) fault.history d.before first (all.0, d.told) in
        fault.faulty d.delta (
          d.pushes,
          λ below. follows_here h d.before d.delta d.after fresh d.is
              (subst (λ l. IsBelow (state_of d.delta) (joined_history l)) same below),
        )

-- a first line that the file has
has_first : (replica : ℕ) (bytes : List ℕ) (h : List Entries) (lines : List (List ℕ)) → 1 ≤ replica → replica ≤ REPLICAS
    → TellHistory replica lines h → HasNoFirst replica bytes lines → ⊥
has_first replica bytes h [] low high told never = told
has_first replica bytes h (first ∷ others) low high told never = never replica low high told.0

not_other : (replica : ℕ) (h : List Entries) (lines : List (List ℕ)) (other : ℕ) → TellHistory replica lines h
    → IsOther replica lines other → ⊥
not_other replica h [] other told is = told
not_other replica h (first ∷ others) other told is = is.1 told.0

none_other : (replica other : ℕ) (lines : List (List ℕ)) → lines ≡ [] → IsOther replica lines other → ⊥
none_other replica other [] none is = is
none_other replica other (first ∷ others) none is = told_some_line first others none
  where
    told_some_line : (l : List ℕ) (ls : List (List ℕ)) → l ∷ ls ≡ [] → ⊥
    told_some_line l ls e = cc

pub read_files_open : ReadFilesOpen
read_files_open replica bytes h faults.Memory low high read why = refl
read_files_open replica bytes h faults.Device low high read why = absurd why
read_files_open replica bytes h (faults.Line number) low high (inl empty) (inl first) =
    absurd (subst (λ ls. HasNoFirst replica bytes ls) empty.0.no_line first.1 empty.0.torn)
read_files_open replica bytes h (faults.Line number) low high (inl empty) (inr fault) =
    absurd (no_empty fault.before fault.line fault.after (sym empty.0.no_line ∙ fault.is))
read_files_open replica bytes h (faults.Line number) low high (inr begun) (inl first) =
    absurd (has_first replica bytes h (whole_lines bytes) low high begun.told first.1)
read_files_open replica bytes h (faults.Line number) low high (inr begun) (inr fault) =
    absurd (none_faulty replica (whole_lines bytes) h number begun.told begun.fresh fault)
read_files_open replica bytes h (faults.Replica other) low high (inl empty) is =
    absurd (none_other replica other (whole_lines bytes) empty.0.no_line is)
read_files_open replica bytes h (faults.Replica other) low high (inr begun) is =
    absurd (not_other replica h (whole_lines bytes) other begun.told is)

-- ---- starts

started_are : (replica : ℕ) (lines : List (List ℕ)) → replica ≤ REPLICAS → AreLines lines → AreLines
    (started replica lines)
started_are replica [] high are = (replica_line-is_line replica (omega (arith, high)), tt)
started_are replica (first ∷ others) high are = are

none_fresh : (h : List Entries) → h ≡ [] → IsFresh h
none_fresh h none k short = absurd (omega (arith, short, ap length none))

fresh_of : (replica : ℕ) (bytes : List ℕ) (h : List Entries) → Reads replica bytes h → IsFresh h
fresh_of replica bytes h (inl empty) = none_fresh h empty.1
fresh_of replica bytes h (inr begun) = begun.fresh

pub read_again : ReadAgain
read_again replica bytes h high read =
    let lines = started replica (whole_lines bytes) in
    let same : whole_lines (text lines) ≡ lines = whole_of_text lines (started_are replica (whole_lines bytes) high
    (whole_are bytes)) in
    inr (record {
      told = subst (λ ls. TellHistory replica ls h) (sym same) (told_then replica bytes h read);
      fresh = fresh_of replica bytes h read;
    })

pub starts_may_crash : StartsMayCrash
starts_may_crash replica bytes left h (inl empty) is = inl (
  record {
    no_line = start_again bytes left is ∙ empty.0.no_line;
    torn = prefix_trans left bytes (replica_line replica) is.front empty.0.torn;
  },
  empty.1,
)
starts_may_crash replica bytes left h (inr begun) is = inr (record {
  told = subst (λ ls. TellHistory replica ls h) (sym (start_again bytes left is)) begun.told;
  fresh = begun.fresh;
})

-- ---- torn ends

-- a line among the first ones
among : (front all before : List (List ℕ)) (line : List ℕ) (after : List (List ℕ)) → IsPrefix front all
    → all ≡ before ++ line ∷ after → length before < length front
    → (rest : List (List ℕ)) × (front ≡ before ++ line ∷ rest)
among [] all before line after begins is short = absurd (omega (arith, short))
among (f ∷ front) all [] line after begins is short = (front, ap (λ l. l ∷ front) (head (begins.1 ∙ is)))
  where
    head : f ∷ (front ++ begins.0) ≡ line ∷ after → f ≡ line
    head e = cc
among (f ∷ front) all (b ∷ before) line after begins is short =
    let both : f ∷ (front ++ begins.0) ≡ b ∷ (before ++ line ∷ after) = begins.1 ∙ is in
    let rest = among front (before ++ line ∷ after) before line after (begins.0, tail both) refl
    (omega (arith, short)) in
    (rest.0, λ i. head both i ∷ rest.1 i)
  where
    head : f ∷ (front ++ begins.0) ≡ b ∷ (before ++ line ∷ after) → f ≡ b
    head e = cc

    tail : f ∷ (front ++ begins.0) ≡ b ∷ (before ++ line ∷ after) → front ++ begins.0 ≡ before ++ line ∷ after
    tail e = cc

faulty_among : (replica : ℕ) (front all : List (List ℕ)) (number : ℕ) → IsPrefix front all
    → (fault : IsFaulty replica all number) → length fault.before < length front → IsFaulty replica front number
faulty_among replica front all number begins fault short =
    let found = among front all fault.before fault.line fault.after begins fault.is short in
    record {
      before = fault.before;
      line = fault.line;
      after = found.0;
      is = found.1;
      counts = fault.counts;
      history = fault.history;
      told = fault.told;
      fresh = fault.fresh;
      faulty = fault.faulty;
    }

pub faults_come_after : FaultsComeAfter
faults_come_after replica kept j left number is fresh torn fault =
    let front = is.all.0 in
    let begins = prefix_trans front j.kept (whole_lines left) is.all.1 (journal_torn j is.journal left torn) in
    let count = told_count replica front kept is.all.2 in
    let never : ¬ (number ≤ length kept + 1) = λ low. none_faulty replica front kept number is.all.2 fresh
    (faulty_among replica front (whole_lines left) number begins fault (omega (arith, low, count, fault.counts))) in
    omega (arith, never)
