-- Lines that are taken in: one line more, a part of a line, the end.
use Rattle.std.proofs.Common.{◌≡◌, ◌≢◌, ℕ, ◌+◌, ◌-◌, ◌^◌, ◌<◌, List, [], ◌∷◌, ◌++◌, length, min}
use Rattle.std.proofs.Common.{take, drop, refl, sym, ap, ◌∙◌, arith, subst, Option, Some, None}
use Rattle.std.proofs.Common.{inl, inr}
use Rattle.std.proofs.Common.{append_assoc, append-nil, length-append}
use Rattle.std.specs.Prelude.{⊤}
use Rattle.std.proofs.lemmas.List.{take-append-drop}
use Rattle.std.proofs.lemmas.List.Elements.{All-append, All-push}
use Rattle.ps_delta.specs.Deltas.{Entries}
use Rattle.ps_lines.specs.declared.line_buffer.Line.{Line}
use Rattle.ps_lines.specs.declared.line_buffer.Line.TheVariants as lines
use Rattle.ps_lines.specs.Feeding.{Ends, EndsLine, Feeds, HasNoFeed, Holds, Reading, kept, kept_after, without_return}
use Rattle.ps_lines.specs.Streams.{IsAfterLine, stream_of, with_last}
use Rattle.ps_lines.specs.ReplicaLine.{TellsNone}
use Rattle.ps_squash.specs.Squashed.{FirstFault, FirstSays, Say, SayAll, Says}
use Rattle.ps_squash.specs.Selected.{SelectedTogether}
use Rattle.ps_squash.specs.Inside.{NextSays, StandsAfter, Sum, sum_after, sum_before}
use Rattle.ps_squash.specs.declared.selection.Selection.{Selection}
use Rattle.ps_squash.proofs.SelectLemmas.{after_more, after_none, selected_state}
use Rattle.ps_lines.proofs.FeedLemmas.{end_held, kept_cut, nothing_kept}
use Rattle.ps_lines.proofs.ReadLemmas.{read-more, read-rest}
use Rattle.ps_lines.proofs.StreamLemmas.{stream-push, stream-rest, with_last-filled}

-- one line more
say_push : (ls : List (List ℕ)) (ds here : List Entries) (line : List ℕ) → Say ls ds
    → Says (without_return line) here → Say (ls ++ line ∷ []) (ds ++ here)
say_push [] ds here line say says = (
  here,
  [],
  says,
  refl,
  ap (λ x. x ++ here) say ∙ sym (append-nil here),
)
say_push (l ∷ ls) ds here line say says = (
  say.0,
  say.1 ++ here,
  say.2,
  say_push ls say.1 here line say.3 says,
  ap (λ x. x ++ here) say.4 ∙ append_assoc say.0 say.1 here,
)

-- whether there are lines before, by their count
none_before : (n count most : ℕ) → count ≡ min n most → n ≡ 0 → count ≡ 0
none_before n count most is none = omega (arith, is, none)

some_before : (n count most : ℕ) → count ≡ min n most → 0 < n → 0 < most → count ≡ 0 → ⊥
some_before n count most is some much none = omega (arith, is, some, much, none)

-- .. where the first may tell a replica
say_next : (ls : List (List ℕ)) (told new : Option ℕ) (ds here : List Entries) (line : List ℕ) (count : ℕ)
    → SayAll ls told ds → count ≡ min (length ls) (2 ^ 64 - 1)
    → NextSays count told (without_return line) new here → SayAll (ls ++ line ∷ []) new (ds ++ here)
say_next [] told new ds here line count said is (inl next) =
    (here, [], next.1, refl, ap (λ x. x ++ here) said.1 ∙ sym (append-nil here))
say_next [] told new ds here line count said is (inr next) =
    absurd (omega (arith, none_before 0 count (2 ^ 64 - 1) is refl, next.0))
say_next (l ∷ ls) told new ds here line count said is (inl next) =
    absurd (some_before (length (l ∷ ls)) count (2 ^ 64 - 1) is (omega arith) (omega arith) next.0)
say_next (l ∷ ls) told new ds here line count said is (inr next) = (
  said.0,
  said.1 ++ here,
  subst (λ t. FirstSays (without_return l) t said.0) (sym next.1) said.2,
  say_push ls said.1 here line said.3 next.2,
  ap (λ x. x ++ here) said.4 ∙ append_assoc said.0 said.1 here,
)

one_more : (ls : List (List ℕ)) (line : List ℕ) (before after : ℕ) → before ≡ min (length ls) (2 ^ 64 - 1)
    → after ≡ min (before + 1) (2 ^ 64 - 1) → after ≡ min (length (ls ++ line ∷ [])) (2 ^ 64 - 1)
one_more ls line before after is next =
    capped (length ls) before after (length (ls ++ line ∷ [])) (2 ^ 64 - 1) is next
    (omega (arith, length-append ls (line ∷ [])))
  where
    capped : (n before after more most : ℕ) → before ≡ min n most → after ≡ min (before + 1) most → more ≡ n + 1
        → after ≡ min more most
    capped n before after more most is next grown = omega arith

-- the number of the line that goes on
number_of : (ls : List (List ℕ)) (before after : ℕ) → before ≡ min (length ls) (2 ^ 64 - 1)
    → after ≡ min (before + 1) (2 ^ 64 - 1) → after ≡ min (length ls + 1) (2 ^ 64 - 1)
number_of ls before after is next = capped (length ls) before after (2 ^ 64 - 1) is next
  where
    capped : (n before after most : ℕ) → before ≡ min n most → after ≡ min (before + 1) most
        → after ≡ min (n + 1) most
    capped n before after most is next = omega arith

-- a line ended: it was joined, and is now among the lines
abbrev Joined : Line → Reading → Option ℕ → Sum → ℕ → Option ℕ → Sum → Type 0
Joined line after told old count tells new = (raw : List ℕ) → Holds line after raw
    → (here : List Entries) × NextSays count told (without_return raw) tells here
    × (new ≡ sum_after old here)

-- .. or the line is faulty: it says no delta, nor does it name a replica as the first line
abbrev Faulty : Line → Reading → ℕ → ℕ → Type 0
Faulty line after count number = (raw : List ℕ) → Holds line after raw
    → ((here : List Entries) → ¬ Says (without_return raw) here) × (count ≡ 0 → TellsNone (without_return raw))
    × (number ≡ min (count + 1) (2 ^ 64 - 1))

module _ (asked : Selection) (read : List ℕ) (before after : Reading) (told : Option ℕ) (old : Sum) (count : ℕ) where
  -- no line ended
  pub part_stands : (bytes : List ℕ) → Feeds before after bytes lines.None
      → StandsAfter asked read before.pending told old count → StandsAfter asked (read ++ bytes) after.pending told old count
  part_stands bytes fed s = record {
    lines = s.lines;
    rest = s.rest ++ bytes;
    split = record {
      whole = ap (λ r. r ++ bytes) s.split.whole ∙ stream-rest s.lines s.rest bytes;
      each = s.split.each;
      partial = All-append (λ b. b ≢ 10) s.rest bytes s.split.partial fed.0;
    };
    held = fed.1 ∙ ap (λ p. kept_after p bytes) s.held ∙ kept_cut s.rest bytes;
    deltas = s.deltas;
    said = s.said;
    joined = s.joined;
    counted = s.counted;
  }

  -- what is kept of the whole line that a part ended
  kept_whole : (bytes rest : List ℕ) (wanted : Option (List ℕ)) → before.pending ≡ kept rest
      → EndsLine bytes (λ part. kept_after before.pending part ≡ wanted)
      → (part : List ℕ) × (bytes ≡ part ++ 10 ∷ []) × HasNoFeed part × (kept (rest ++ part) ≡ wanted)
  kept_whole bytes rest wanted held ends = (
    ends.0,
    ends.1,
    ends.2,
    sym (kept_cut rest ends.0) ∙ ap (λ p. kept_after p ends.0) (sym held) ∙ ends.3,
  )

  ended : (bytes : List ℕ) (line : Line) → line ≢ lines.None → Feeds before after bytes line
      → (s : StandsAfter asked read before.pending told old count)
      → (part : List ℕ) × (bytes ≡ part ++ 10 ∷ []) × HasNoFeed part × Holds line after (s.rest ++ part)
      × (after.pending ≡ Some [])
  ended bytes lines.None some fed s = absurd (some refl)
  ended bytes lines.Full some fed s =
      let whole = kept_whole bytes s.rest (Some after.line) s.held fed.0 in
      (whole.0, whole.1, whole.2, whole.3, fed.1)
  ended bytes lines.TooLong some fed s =
      let whole = kept_whole bytes s.rest None s.held fed.0 in (whole.0, whole.1, whole.2, whole.3, fed.1)

  pub line_stands : (tells : Option ℕ) (new : Sum) (counted : ℕ) (bytes : List ℕ) (line : Line) → line ≢ lines.None
      → Feeds before after bytes line → Joined line after told old count tells new
      → counted ≡ min (count + 1) (2 ^ 64 - 1)
      → StandsAfter asked read before.pending told old count → StandsAfter asked (read ++ bytes) after.pending tells new counted
  line_stands tells new counted bytes line some fed joined rises s =
      let e = ended bytes line some fed s in
      let j = joined (s.rest ++ e.0) e.3 in record {
        lines = s.lines ++ (s.rest ++ e.0) ∷ [];
        rest = [];
        split = record {
          whole = ap (λ b. read ++ b) e.1 ∙ ap (λ r. r ++ (e.0 ++ 10 ∷ [])) s.split.whole
              ∙ stream-rest s.lines s.rest (e.0 ++ 10 ∷ [])
              ∙ ap (stream_of s.lines) (sym (append_assoc s.rest e.0 (10 ∷ []))) ∙ stream-push s.lines (s.rest ++ e.0);
          each = All-push HasNoFeed s.lines (s.rest ++ e.0) s.split.each
              (All-append (λ b. b ≢ 10) s.rest e.0 s.split.partial e.2);
          partial = λ k d lt. absurd (omega (arith, lt));
        };
        held = e.4;
        deltas = s.deltas ++ j.0;
        said = say_next s.lines told tells s.deltas j.0 (s.rest ++ e.0) count s.said s.counted j.1;
        joined = after_more asked old new s.deltas j.0 s.joined j.2;
        counted = one_more s.lines (s.rest ++ e.0) count counted s.counted rises;
      }

  pub line_fails : (number : ℕ) (piece : List ℕ) (taken : ℕ) (line : Line) → line ≢ lines.None
      → Feeds before after (take taken piece) line → Faulty line after count number
      → StandsAfter asked read before.pending told old count → FirstFault ⊥ (read ++ piece) number
  line_fails number piece taken line some fed faulty s =
      let e = ended (take taken piece) line some fed s in
      let f = faulty (s.rest ++ e.0) e.3 in
      let more = 10 ∷ drop taken piece in
      let parts : piece ≡ e.0 ++ more =
      sym (take-append-drop taken piece) ∙ ap (λ t. t ++ drop taken piece) e.1
      ∙ append_assoc e.0 (10 ∷ []) (drop taken piece) in record {
        lines = s.lines;
        line = s.rest ++ e.0;
        after = more;
        whole = ap (λ p. read ++ p) parts ∙ ap (λ r. r ++ (e.0 ++ more)) s.split.whole
            ∙ stream-rest s.lines s.rest (e.0 ++ more)
            ∙ ap (stream_of s.lines) (sym (append_assoc s.rest e.0 more));
        each = s.split.each;
        one = All-append (λ b. b ≢ 10) s.rest e.0 s.split.partial e.2;
        ends = refl;
        told = told;
        deltas = s.deltas;
        said = s.said;
        faulty = f.0;
        untold = λ none. f.1 (none_before (length s.lines) count (2 ^ 64 - 1) s.counted (ap length none));
        counted = number_of s.lines count number s.counted f.2;
      }

  -- the end, where nothing remains
  pub none_remains : Ends before after lines.None → StandsAfter asked read before.pending told old count
      → SelectedTogether asked read told old.state
  none_remains ends s =
      let none : s.rest ≡ [] = nothing_kept s.rest (sym s.held ∙ ends.0) in record {
        lines = s.lines;
        rest = s.rest;
        split = s.split;
        deltas = s.deltas;
        said = subst (λ r. SayAll (with_last s.lines r) told s.deltas) (sym none) s.said;
        joined = selected_state asked old s.deltas s.joined;
      }

  pub last_joins : (tells : Option ℕ) (new : Sum) (line : Line) → line ≢ lines.None → Ends before after line
      → Joined line after told old count tells new → StandsAfter asked read before.pending told old count
      → SelectedTogether asked read tells new.state
  last_joins tells new line some ends joined s =
      let held = end_held before after s.rest line some ends s.held in
      let j = joined s.rest held.0 in record {
        lines = s.lines;
        rest = s.rest;
        split = s.split;
        deltas = s.deltas ++ j.0;
        said = subst (λ ls. SayAll ls tells (s.deltas ++ j.0)) (sym (with_last-filled s.lines s.rest held.1))
            (say_next s.lines told tells s.deltas j.0 s.rest count s.said s.counted j.1);
        joined = selected_state asked new (s.deltas ++ j.0)
            (after_more asked old new s.deltas j.0 s.joined j.2);
      }

  pub last_fails : (number : ℕ) (line : Line) → line ≢ lines.None → Ends before after line
      → Faulty line after count number → StandsAfter asked read before.pending told old count → FirstFault ⊤ read number
  last_fails number line some ends faulty s =
      let held = end_held before after s.rest line some ends s.held in
      let f = faulty s.rest held.0 in record {
        lines = s.lines;
        line = s.rest;
        after = [];
        whole = s.split.whole ∙ ap (stream_of s.lines) (sym (append-nil s.rest));
        each = s.split.each;
        one = s.split.partial;
        ends = tt;
        told = told;
        deltas = s.deltas;
        said = s.said;
        faulty = f.0;
        untold = λ none. f.1 (none_before (length s.lines) count (2 ^ 64 - 1) s.counted (ap length none));
        counted = number_of s.lines count number s.counted f.2;
      }

-- a fault, with what holds at the end of the input
pub fault_ended : (P Q : Type 0) (read : List ℕ) (number : ℕ) → (P → Q) → FirstFault P read number
    → FirstFault Q read number
fault_ended P Q read number known f = record {
  lines = f.lines;
  line = f.line;
  after = f.after;
  whole = f.whole;
  each = f.each;
  one = f.one;
  ends = go f.after f.ends;
  told = f.told;
  deltas = f.deltas;
  said = f.said;
  faulty = f.faulty;
  untold = f.untold;
  counted = f.counted;
}
  where
    go : (after : List ℕ) → IsAfterLine P after → IsAfterLine Q after
    go [] p = known p
    go (b ∷ bs) p = p

-- nothing is read yet
pub none_stand : (asked : Selection) (pending : Option (List ℕ)) (sum : Sum) → pending ≡ Some []
    → sum ≡ sum_before asked → StandsAfter asked [] pending None sum 0
none_stand asked pending sum is empty = record {
  lines = [];
  rest = [];
  split = record {
    whole = refl;
    each = λ k d lt. absurd (omega (arith, lt));
    partial = λ k d lt. absurd (omega (arith, lt));
  };
  held = is;
  deltas = [];
  said = (refl, refl);
  joined = empty ∙ sym (after_none (sum_before asked));
  counted = refl;
}

-- one turn more, as the code takes it, and all that is left
pub stands_more : (asked : Selection) (read bytes : List ℕ) (start taken : ℕ) (pending : Option (List ℕ))
    (told : Option ℕ) (sum : Sum) (count : ℕ)
    → StandsAfter asked ((read ++ take start bytes) ++ take taken (take (length bytes - start) (drop start bytes)))
    pending told sum count
    → StandsAfter asked (read ++ take (start + taken) bytes) pending told sum count
stands_more asked read bytes start taken pending told sum count s =
    subst (λ r. StandsAfter asked r pending told sum count) (read-more read bytes start taken) s

pub fault_rest : (read bytes : List ℕ) (start number : ℕ)
    → FirstFault ⊥ ((read ++ take start bytes) ++ take (length bytes - start) (drop start bytes)) number
    → FirstFault ⊥ (read ++ bytes) number
fault_rest read bytes start number f =
    subst (λ r. FirstFault ⊥ r number) (read-rest read bytes start) f
