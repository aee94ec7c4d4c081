-- What a start reads of a file that was squashed.
use Rattle.std.proofs.Common.{◌≡◌, ◌≢◌, ◌+◌, ◌≤◌, ℕ, List, [], ◌∷◌, ◌++◌, map, refl, sym, ap, ◌∙◌}
use Rattle.std.specs.Prelude.{flat_map}
use Rattle.std.proofs.Common.{Option, None, Some, All, append_assoc, arith, inl, inr, subst, ⊎_elim}
use Rattle.std.proofs.lemmas.Bool.{cases_eq}
use Rattle.std.proofs.lemmas.List.{append-nil}
use Rattle.std.proofs.lemmas.List.Elements.{All-head, All-tail}
use Rattle.ps_grid.specs.declared.parties.TheConstants.{REPLICAS}
use Rattle.ps_delta.specs.State.{IsBelow, empty_cell, empty_state, joined_cell}
use Rattle.ps_delta.specs.CellLaws.{joined_cell-empty}
use Rattle.ps_delta.specs.Deltas.{Entries, IsDelta, cells_of, joined_history, state_of}
use Rattle.ps_delta.specs.Order.{Rising}
use Rattle.ps_delta.proofs.EntryLemmas.{state_of-here, state_of-rising, state_of-there}
use Rattle.ps_delta.proofs.HistoryLemmas.{joined_history-push}
use Rattle.ps_delta.proofs.StateLemmas.{joined_state-at}
use Rattle.ps_sheet.specs.Sheet.{IsFresh}
use Rattle.ps_sheet.proofs.AppendedDeltas.{fresh_push}
use Rattle.ps_wire.specs.Line.{IsLine as IsDeltaLine, delta_text}
use Rattle.ps_lines.specs.Feeding.{HasNoFeed, without_return}
use Rattle.ps_lines.specs.PushLine.{Pushes, push_line}
use Rattle.ps_lines.specs.ReplicaLine.{replica_line}
use Rattle.ps_lines.specs.Streams.{Splits, stream_of, with_last}
use Rattle.ps_keep.specs.Lines.{AreLines, IsLine, text, whole_lines}
use Rattle.ps_keep.proofs.LineLemmas.{Parts, parts_lines, whole_of_text}
use Rattle.ps_squash.specs.Squashed.{IsSquashed, FirstSays, Say, SayAll, Says, after_push, cells_in, push_lines}
use Rattle.ps_squash.specs.Squashed.{told_line}
use Rattle.ps_squash.proofs.CellLemmas.{divided_history, rising_of, rising_right}
use Rattle.ps_squash.proofs.LineLemmas.{after_push-push, silent_pushes_none}
use Rattle.ps_kept.specs.Kept.{PushAll, TellHistory}
use Rattle.ps_kept.specs.Laws.{IsPlain, SquashedFilesRead}
use Rattle.ps_kept.specs.Starts.{IsBegun, Reads}
use Rattle.ps_kept.proofs.NoteLemmas.{push_line-is_line}
use Rattle.ps_kept.proofs.StartLemmas.{replica_line-is_line}
use Rattle.ps_kept.proofs.ToldLemmas.{line_of_one}

-- ---- the lines of the file that is squashed

lines_of : (bytes : List ℕ) → HasNoFeed bytes → IsLine bytes
lines_of [] all = tt
lines_of (b ∷ bs) all = (All-head (λ b. b ≢ 10) b bs all, lines_of bs (All-tail (λ b. b ≢ 10) b bs all))

are_lines : (lines : List (List ℕ)) → All HasNoFeed lines → AreLines lines
are_lines [] all = tt
are_lines (line ∷ lines) all = (
  lines_of line (All-head HasNoFeed line lines all),
  are_lines lines (All-tail HasNoFeed line lines all),
)

stream_text : (lines : List (List ℕ)) (rest : List ℕ) → stream_of lines rest ≡ text lines ++ rest
stream_text [] rest = refl
stream_text (line ∷ lines) rest =
    append_assoc (line ++ 10 ∷ []) (flat_map (λ l. l ++ 10 ∷ []) lines) rest
    ∙ append_assoc line (10 ∷ []) (stream_of lines rest)
    ∙ ap (λ l. line ++ 10 ∷ l) (stream_text lines rest)
    ∙ sym (append_assoc line (10 ∷ text lines) rest)

abbrev split_parts : (bytes : List ℕ) (lines : List (List ℕ)) (rest : List ℕ) → Splits bytes lines rest → Parts bytes
split_parts bytes lines rest split = record {
  lines = lines;
  rest = rest;
  each = are_lines lines split.each;
  open_end = lines_of rest split.partial;
  is = split.whole ∙ stream_text lines rest;
}

no_more : (a rest : List ℕ) → a ≡ a ++ rest → rest ≡ []
no_more [] rest e = sym e
no_more (x ∷ a) rest e = let tail : a ≡ a ++ rest = cc in no_more a rest tail

-- ---- what they say

-- a line that pushes a delta says it
says_pushed : (line : List ℕ) (d : Entries) (here : List Entries) → Pushes line d → Says line here → here ≡ d ∷ []
unfolding Says
says_pushed line d here pushes (inl silent) =
    absurd (silent_pushes_none line silent.0 (pushes.0, pushes.1))
says_pushed line d here pushes (inr says) =
    let same : after_push line ≡ pushes.0 = after_push-push line pushes.0 pushes.1 in
    let one : says.0 ≡ d = line_of_one pushes.0 says.0 d (subst (λ t. IsDeltaLine t says.0) same says.1) pushes.2 in
    says.2 ∙ ap (λ e. e ∷ []) one

say_pushed : (lines : List (List ℕ)) (h said : List Entries) → All (λ l. without_return l ≡ l) lines
    → PushAll lines h → Say lines said → said ≡ h
say_pushed [] [] said plain all say = say
say_pushed [] (d ∷ h) said plain all say = absurd all
say_pushed (line ∷ lines) [] said plain all say = absurd all
say_pushed (line ∷ lines) (d ∷ h) said plain all say =
    let is = All-head (λ l. without_return l ≡ l) line lines plain in
    let first : say.0 ≡ d ∷ [] = says_pushed line d say.0 all.0 (subst (λ l. Says l say.0) is say.2) in
    let others = say_pushed lines h say.1 (All-tail (λ l. without_return l ≡ l) line lines plain) all.1 say.3 in
    say.4 ∙ (λ i. first i ++ others i)

-- the replica of the lines, and their deltas
record Said (replica : ℕ) (history : List Entries) (told : Option ℕ) (deltas : List Entries) : Type 0 where
  same : deltas ≡ history
  line : told_line told ≡ replica_line replica ++ 10 ∷ []

first_says : (replica : ℕ) (first : List ℕ) (told : Option ℕ) (ds : List Entries) → 1 ≤ replica → replica ≤ REPLICAS
    → first ≡ replica_line replica → FirstSays first told ds
    → (ds ≡ []) × (told_line told ≡ replica_line replica ++ 10 ∷ [])
first_says replica first None ds low high is says = absurd (says.0 replica low high is)
first_says replica first (Some n) ds low high is says =
    (says.1, ap (λ l. l ++ 10 ∷ []) (sym says.0.2 ∙ is))

said_told : (replica : ℕ) (lines : List (List ℕ)) (told : Option ℕ) (deltas history : List Entries) → 1 ≤ replica
    → replica ≤ REPLICAS → All (λ l. without_return l ≡ l) lines → TellHistory replica lines history
    → SayAll lines told deltas → Said replica history told deltas
said_told replica [] told deltas history low high plain tells say = absurd tells
said_told replica (first ∷ others) told deltas history low high plain tells say =
    let is = All-head (λ l. without_return l ≡ l) first others plain in
    let begins = first_says replica first told say.0 low high tells.0 (subst (λ l. FirstSays l told say.0) is say.2) in
    let rest = say_pushed others history say.1 (All-tail (λ l. without_return l ≡ l) first others plain) tells.1 say.3
    in
    record { same = say.4 ∙ (λ i. begins.0 i ++ rest i); line = begins.1 }

-- ---- the deltas that are written

nothing : (c : ℕ) → state_of [] c ≡ empty_cell
unfolding state_of
nothing c = refl

-- where cells in order are divided in two parts, no cell of the second part is in the first
apart : (n : ℕ) (xs ys : Entries) (c : ℕ) → Rising n (cells_of (xs ++ ys)) → state_of ys c ≢ empty_cell
    → (state_of xs c ≡ empty_cell) × (state_of (xs ++ ys) c ≡ state_of ys c)
apart n [] ys c r some = (nothing c, refl)
apart n (e ∷ xs) ys c r some = ⊎_elim
    (λ p. absurd (some (state_of-rising (e.0 + 1) ys c (rising_right (e.0 + 1) xs ys r.1) (omega (arith, p)))))
    (λ p. let more = apart (e.0 + 1) xs ys c r.1 some in
    (state_of-there e xs c p ∙ more.0, state_of-there e (xs ++ ys) c p ∙ more.1))
    (cases_eq e.0 c)

-- a state that holds what another has nothing of isn't below it
not_under : (s : ℕ → _) (d : Entries) (c : ℕ) → s c ≡ empty_cell → state_of d c ≢ empty_cell → ¬ IsBelow (state_of d) s
not_under s d c none some below =
    some (sym (joined_cell-empty (state_of d c)) ∙ ap (λ x. joined_cell x (state_of d c)) (sym none)
    ∙ sym (joined_state-at s (state_of d) c) ∙ ap (λ t. t c) below ∙ none)

-- the deltas before have none of the cells that come
abbrev Unseen : List Entries → Entries → Type 0
Unseen done cells = (c : ℕ) → state_of cells c ≢ empty_cell → joined_history done c ≡ empty_cell

-- a delta has a cell
has_cell : (n : ℕ) (d : Entries) (rest : Entries) → IsDelta d → Rising n (cells_of (d ++ rest))
    → (c : ℕ) × (state_of d c ≢ empty_cell) × (state_of (d ++ rest) c ≢ empty_cell)
has_cell n [] rest is r = absurd (omega (arith, is.some))
has_cell n (e ∷ es) rest is r =
    let some = All-head (λ e. e.1 ≢ empty_cell) e es is.none_empty in (
      e.0,
      (λ none. some (sym (state_of-here e es e.0 refl) ∙ none)),
      (λ none. some (sym (state_of-here e (es ++ rest) e.0 refl) ∙ none)),
    )

unseen_more : (n : ℕ) (done : List Entries) (d rest : Entries) → Rising n (cells_of (d ++ rest))
    → Unseen done (d ++ rest) → Unseen (done ++ d ∷ []) rest
unseen_more n done d rest r none c some =
    let two = apart n d rest c r some in
    let before = none c (λ empty. some (sym two.1 ∙ empty)) in
    ap (λ t. t c) (joined_history-push done d) ∙ joined_state-at (joined_history done) (state_of d) c
    ∙ (λ i. joined_cell (before i) (two.0 i)) ∙ joined_cell-empty empty_cell

fresh_on : (n : ℕ) (done ds : List Entries) → Rising n (cells_of (cells_in ds)) → All IsDelta ds
    → Unseen done (cells_in ds) → IsFresh done → IsFresh (done ++ ds)
fresh_on n done [] r each none fresh = subst IsFresh (sym (append-nil done)) fresh
fresh_on n done (d ∷ ds) r each none fresh =
    let rest = cells_in ds in
    let has = has_cell n d rest (All-head IsDelta d ds each) r in
    let new = not_under (joined_history done) d has.0 (none has.0 has.2) has.1 in
    subst IsFresh (append_assoc done (d ∷ []) ds)
    (fresh_on n (done ++ d ∷ []) ds (rising_right n d rest r) (All-tail IsDelta d ds each)
    (unseen_more n done d rest r none) (fresh_push done d fresh new))

none_fresh : IsFresh []
none_fresh k short = absurd (omega (arith, short))

none_joined : (c : ℕ) → joined_history [] c ≡ empty_cell
unfolding joined_history empty_state
none_joined c = refl

pub divided_fresh : (ds : List Entries) → Rising 0 (cells_of (cells_in ds)) → All IsDelta ds → IsFresh ds
divided_fresh ds r each = fresh_on 0 [] ds r each (λ c some. none_joined c) none_fresh

-- if the join of these deltas is empty, there are no deltas
say_nothing : (ds : List Entries) → Rising 0 (cells_of (cells_in ds)) → All IsDelta ds
    → joined_history ds ≡ joined_history [] → ds ≡ []
say_nothing [] r each none = refl
say_nothing (d ∷ ds) r each none =
    let has = has_cell 0 d (cells_in ds) (All-head IsDelta d ds each) r in
    absurd (has.2 (ap (λ t. t has.0) (sym (divided_history 0 (d ∷ ds) r) ∙ none) ∙ none_joined has.0))

-- ---- the text that is written

push_all : (ds : List Entries) → All (λ d. IsDeltaLine (delta_text d) d) ds → PushAll (map push_line ds) ds
push_all [] all = tt
push_all (d ∷ ds) all = (
  (delta_text d, refl, All-head (λ d. IsDeltaLine (delta_text d) d) d ds all),
  push_all ds (All-tail (λ d. IsDeltaLine (delta_text d) d) d ds all),
)

push_text : (ds : List Entries) → push_lines ds ≡ text (map push_line ds)
push_text [] = refl
push_text (d ∷ ds) = append_assoc (push_line d) (10 ∷ []) (push_lines ds)
    ∙ ap (λ l. push_line d ++ 10 ∷ l) (push_text ds)

push_are : (ds : List Entries) → AreLines (map push_line ds)
push_are [] = tt
push_are (d ∷ ds) = (push_line-is_line d, push_are ds)

-- the text of a replica's line and of change lines is a file with these whole lines
begun_of : (replica : ℕ) (ds : List Entries) (bytes : List ℕ) → replica ≤ REPLICAS → IsFresh ds
    → All (λ d. IsDeltaLine (delta_text d) d) ds → bytes ≡ (replica_line replica ++ 10 ∷ []) ++ push_lines ds
    → IsBegun replica bytes ds
begun_of replica ds bytes high fresh each is =
    let lines = replica_line replica ∷ map push_line ds in
    let same : bytes ≡ text lines =
    is ∙ append_assoc (replica_line replica) (10 ∷ []) (push_lines ds)
    ∙ ap (λ l. replica_line replica ++ 10 ∷ l) (push_text ds) in
    let read : whole_lines bytes ≡ lines =
    ap whole_lines same ∙ whole_of_text lines (replica_line-is_line replica (omega (arith, high)), push_are ds) in
    record { told = subst (λ ls. TellHistory replica ls ds) (sym read) (refl, push_all ds each); fresh = fresh }

module _ (replica : ℕ) (bytes squashed : List ℕ) (history : List Entries) (low : 1 ≤ replica)
    (high : replica ≤ REPLICAS) (plain : IsPlain bytes) (is : IsSquashed bytes squashed) where
  abbrev lines : List (List ℕ)
  lines = is.given.lines

  abbrev rest : List ℕ
  rest = is.given.rest

  abbrev p : Parts bytes
  p = split_parts bytes lines rest is.given.split

  those : whole_lines bytes ≡ lines
  those = parts_lines bytes p

  no_rest : rest ≡ []
  no_rest = no_more (text lines) rest (ap text (sym those) ∙ plain.whole ∙ p.is)

  said : SayAll lines is.told is.given.deltas
  said = subst (λ r. SayAll (with_last lines r) is.told is.given.deltas) no_rest is.given.said

  joined : is.given.deltas ≡ history → joined_history is.fewer ≡ joined_history history
  joined same = is.same ∙ is.given.joined ∙ ap joined_history same

  rising : Rising 0 (cells_of (cells_in is.fewer))
  rising = subst (λ es. Rising 0 (cells_of es)) (sym is.divide.whole) (rising_of is.cells is.ordered)

  none_said : (ls : List (List ℕ)) (told : Option ℕ) (ds : List Entries) → ls ≡ [] → SayAll ls told ds
      → (told ≡ None) × (ds ≡ [])
  none_said [] told ds none say = say
  none_said (l ∷ ls) told ds none say = absurd (some l ls none)
    where
      some : (l : List ℕ) (ls : List (List ℕ)) → l ∷ ls ≡ [] → ⊥
      some l ls e = cc

  pub reads_squashed : Reads replica bytes history → (fewer : List Entries) × Reads replica squashed fewer
      × (joined_history fewer ≡ joined_history history)
  reads_squashed (inl empty) =
      let none = none_said lines is.told is.given.deltas (sym those ∙ empty.0.no_line) said in
      let same = none.1 ∙ sym empty.1 in
      let fewer : is.fewer ≡ [] =
      say_nothing is.fewer rising is.divide.lawful (joined same ∙ ap joined_history empty.1) in
      let bare : squashed ≡ [] = is.spelled ∙ (λ i. told_line (none.0 i) ++ push_lines (fewer i)) in (
        [],
        inl (
          record {
            no_line = ap whole_lines bare;
            torn = (replica_line replica, ap (λ l. l ++ replica_line replica) bare);
          },
          refl,
        ),
        ap joined_history (sym empty.1),
      )
  reads_squashed (inr begun) =
      let plain_lines = subst (λ ls. All (λ l. without_return l ≡ l) ls) those plain.no_return in
      let s = said_told replica lines is.told is.given.deltas history low high plain_lines
      (subst (λ ls. TellHistory replica ls history) those begun.told) said in (
        is.fewer,
        inr (begun_of replica is.fewer squashed high (divided_fresh is.fewer rising is.divide.lawful) is.divide.each
            (is.spelled ∙ ap (λ l. l ++ push_lines is.fewer) s.line)),
        joined s.same,
      )

pub squashed_files_read : SquashedFilesRead
squashed_files_read replica bytes squashed history low high read plain is =
    reads_squashed replica bytes squashed history low high plain is read
