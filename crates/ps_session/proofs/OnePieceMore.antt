-- A piece that was fed, and the line that it may have ended.
use Rattle.std.proofs.Common.{◌≡◌, ◌≢◌, ◌^◌, ◌+◌, ◌-◌, ◌<◌, ℕ, min, List, [], ◌∷◌, ◌++◌}
use Rattle.std.proofs.Common.{length, take, drop, refl, sym, ap, ◌∙◌, Option, Some, None}
use Rattle.std.proofs.Common.{subst, append_assoc, rules}
use Rattle.std.specs.Io.KnownBytes.{Appends}
use Rattle.std.proofs.lemmas.List.{take-append-drop}
use Rattle.ps_lines.specs.Feeding.{EndsLine, Feeds, HasNoFeed, Holds, Reading, kept, kept_after, with_line}
use Rattle.ps_lines.specs.Streams.{Answering}
use Rattle.ps_session.specs.Transcript.{Cut, has_reply}
use Rattle.ps_session.specs.Inside.Stands.{Stands}
use Rattle.ps_session.specs.Inside.Holds.{as_one}
use Rattle.ps_lines.specs.declared.line_buffer.Line.{Line}
use Rattle.ps_lines.specs.declared.line_buffer.Line.TheVariants as lines
use Rattle.ps_session.proofs.OneLineMore.{cut_line, stands_line, stands_part}
use Rattle.ps_lines.proofs.FeedLemmas.{kept_cut}

-- the part of a line that ended, and what is kept of the whole line
kept_whole : (before : Reading) (bytes rest : List ℕ) (wanted : Option (List ℕ)) → before.pending ≡ kept rest
    → EndsLine bytes (λ part. kept_after before.pending part ≡ wanted)
    → (part : List ℕ) × (bytes ≡ part ++ 10 ∷ []) × HasNoFeed part × (kept (rest ++ part) ≡ wanted)
kept_whole before bytes rest wanted held ends = (
  ends.0,
  ends.1,
  ends.2,
  sym (kept_cut rest ends.0) ∙ ap (λ p. kept_after p ends.0) (sym held)
      ∙ ends.3,
)

some_line : lines.Full ≢ lines.None
some_line is = search (rules, is)

module _ {State : Type 0} (Handles : Answering State) (first : State) (written : Option (List ℕ)) (base : ℕ)
    (read : List ℕ)
  where
    -- no line ended
    pub part_stands : (board : State) (before after : Reading) (contents : Option (List ℕ)) (answered : ℕ) (bytes :
        List ℕ)
        → Feeds before after bytes lines.None
        → Stands Handles first written base read board before.pending contents answered
        → Stands Handles first written base (read ++ bytes) board after.pending contents answered
    part_stands board before after contents answered bytes fed s =
        subst (λ p. Stands Handles first written base (read ++ bytes) board p contents answered) (sym fed.1)
        (stands_part Handles first written base read board before.pending contents answered bytes s fed.0)

    -- a line ended: which bytes it has, and that the session holds it
    pub ended : (board : State) (before after : Reading) (contents : Option (List ℕ)) (answered : ℕ) (bytes : List ℕ)
        (line : Line)
        → line ≢ lines.None → Feeds before after bytes line
        → (s : Stands Handles first written base read board before.pending contents answered)
        → (part : List ℕ) × (bytes ≡ part ++ 10 ∷ []) × HasNoFeed part × Holds line after (s.rest ++ part)
        × (after.pending ≡ Some [])
    ended board before after contents answered bytes lines.None some fed s = absurd (some refl)
    ended board before after contents answered bytes lines.Full some fed s =
        let whole = kept_whole before bytes s.rest (Some after.line) s.held fed.0 in
        (whole.0, whole.1, whole.2, whole.3, fed.1)
    ended board before after contents answered bytes lines.TooLong some fed s =
        let whole = kept_whole before bytes s.rest None s.held fed.0 in
        (whole.0, whole.1, whole.2, whole.3, fed.1)

    -- .. and it was answered
    pub line_stands : (old new : State) (before after : Reading) (contents more : Option (List ℕ)) (answered counted :
        ℕ) (bytes : List ℕ) (line : Line)
        → line ≢ lines.None → Feeds before after bytes line
        → ((raw : List ℕ) → Holds line after raw → (reply : List ℕ) × Handles old raw reply new
        × Appends contents more reply × (counted ≡ min (answered + as_one (has_reply raw)) (2 ^ 64 - 1)))
        → Stands Handles first written base read old before.pending contents answered
        → Stands Handles first written base (read ++ bytes) new after.pending more counted
    line_stands old new before after contents more answered counted bytes line some fed replied s =
        let e = ended old before after contents answered bytes line some fed s in
        let r = replied (s.rest ++ e.0) e.3 in
        subst (λ b. Stands Handles first written base (read ++ b) new after.pending more counted) (sym e.1)
        (subst (λ p. Stands Handles first written base (read ++ (e.0 ++ 10 ∷ [])) new p more counted) (sym e.4)
        (stands_line Handles first written base read old new before.pending contents more answered counted e.0 r.0 s
        e.2 r.1
        r.2 r.3))

    -- .. or its reply was cut
    pub line_cut : (old new : State) (before after : Reading) (contents more : Option (List ℕ)) (answered : ℕ) (piece :
        List ℕ) (taken : ℕ) (line : Line)
        → line ≢ lines.None → Feeds before after (take taken piece) line
        → ((raw : List ℕ) → Holds line after raw → (reply : List ℕ) × (count : ℕ) × Handles old raw reply new
        × (count < length reply) × Appends contents more (take count reply))
        → Stands Handles first written base read old before.pending contents answered
        → Cut Handles ⊥ first written (read ++ piece) new more
    line_cut old new before after contents more answered piece taken line some fed replied s =
        let e = ended old before after contents answered (take taken piece) line some fed s in
        let r = replied (s.rest ++ e.0) e.3 in
        let whole : e.0 ++ (10 ∷ drop taken piece) ≡ piece =
        sym (append_assoc e.0 (10 ∷ []) (drop taken piece)) ∙ ap (λ t. t ++ drop taken piece) (sym e.1)
        ∙ take-append-drop taken piece in
        subst (λ p. Cut Handles ⊥ first written (read ++ p) new more) whole
        (cut_line Handles first written base read old new before.pending contents more answered e.0 (drop taken piece)
        r.0
        r.1 s e.2 r.2 r.3 r.4)

    -- a line that lies whole in a piece, after nothing that is held, was answered
    pub whole_stands : (old new : State) (before : Reading) (contents more : Option (List ℕ)) (answered counted : ℕ)
        (bytes line : List ℕ)
        → before.pending ≡ Some [] → Feeds before (with_line line) bytes lines.Full
        → ((raw : List ℕ) → kept raw ≡ Some line → (reply : List ℕ) × Handles old raw reply new
        × Appends contents more reply × (counted ≡ min (answered + as_one (has_reply raw)) (2 ^ 64 - 1)))
        → Stands Handles first written base read old before.pending contents answered
        → Stands Handles first written base (read ++ bytes) new before.pending more counted
    whole_stands old new before contents more answered counted bytes line none fed replied s =
        subst (λ p. Stands Handles first written base (read ++ bytes) new p more counted) (sym none)
        (line_stands old new before (with_line line) contents more answered counted bytes lines.Full some_line fed
        replied s)

    -- .. or its reply was cut
    pub whole_cut : (old new : State) (before : Reading) (contents more : Option (List ℕ)) (answered : ℕ)
        (piece : List ℕ) (taken : ℕ) (line : List ℕ)
        → Feeds before (with_line line) (take taken piece) lines.Full
        → ((raw : List ℕ) → kept raw ≡ Some line → (reply : List ℕ) × (count : ℕ) × Handles old raw reply new
        × (count < length reply) × Appends contents more (take count reply))
        → Stands Handles first written base read old before.pending contents answered
        → Cut Handles ⊥ first written (read ++ piece) new more
    whole_cut old new before contents more answered piece taken line fed replied s =
        line_cut old new before (with_line line) contents more answered piece taken lines.Full some_line fed replied s
