-- A session whose input is read on piece by piece, and its end.
use Rattle.std.proofs.Common.{◌≡◌, ◌≢◌, ◌^◌, ◌+◌, ◌-◌, ◌<◌, ℕ, min, List, [], ◌∷◌, ◌++◌}
use Rattle.std.proofs.Common.{length, take, drop, refl, sym, ap, ◌∙◌, arith, Option, Some, None, subst, inl, inr}
use Rattle.std.proofs.Common.{append-nil}
use Rattle.std.specs.Prelude.{⊤}
use Rattle.std.specs.Io.KnownBytes.{Appends, Keeps}
use Rattle.ps_device.proofs.DeviceLemmas.{Appends-append, Appends-keeps, Appends-nil}
use Rattle.ps_lines.specs.Feeding.{Ends, Holds, Reading, kept}
use Rattle.ps_session.specs.Transcript.{Answered, Cut, Stopped, Transcribed}
use Rattle.ps_lines.specs.Streams.{Answering, IsAfterLine, Run, stream_of, with_last}
use Rattle.ps_session.specs.Transcript.{answered_count}
use Rattle.ps_session.specs.Transcript.{has_reply}
use Rattle.ps_session.specs.Inside.Stands.{Stands}
use Rattle.ps_session.specs.Inside.Holds.{as_one}
use Rattle.ps_lines.specs.declared.line_buffer.Line.{Line}
use Rattle.ps_lines.specs.declared.line_buffer.Line.TheVariants as lines
use Rattle.ps_lines.proofs.FeedLemmas.{end_held, nothing_kept}
use Rattle.ps_lines.proofs.ReadLemmas.{read-more, read-rest}
use Rattle.ps_lines.proofs.StreamLemmas.{Run-push, with_last-filled}
use Rattle.ps_session.proofs.OneLineMore.{counted-push, counted_from_none}

-- the rest was answered, if it is a line
pub end_ran : {State : Type 0} (Handles : Answering State) (old new : State) (before after : Reading) (line : Line)
    → line ≢ lines.None → Ends before after line
    → ((raw : List ℕ) → Holds line after raw → (reply : List ℕ) × Handles old raw reply new)
    → (rest : List ℕ) → before.pending ≡ kept rest
    → (text : List ℕ) × Run Handles old (with_last [] rest) text new
end_ran Handles old new before after line some ends replied rest is =
    let held = end_held before after rest line some ends is in
    let r = replied rest held.0 in (
      r.0,
      subst (λ ls. Run Handles old ls r.0 new) (sym (with_last-filled [] rest held.1))
          (r.0, new, [], r.1, sym (append-nil r.0), (refl, refl)),
    )

module _ {State : Type 0} (Handles : Answering State) (first : State) (written : Option (List ℕ)) (base : ℕ)
    (read : List ℕ)
  where
    pub end_none : (board : State) (before after : Reading) (contents : Option (List ℕ)) (answered : ℕ)
        → Ends before after lines.None → Stands Handles first written 0 read board before.pending contents answered
        → Transcribed Handles first written read board contents answered
    end_none board before after contents answered ends s =
        let all : with_last s.lines s.rest ≡ s.lines = ap (with_last s.lines) (nothing_kept s.rest (sym s.held
        ∙ ends.0)) in
        record {
          lines = s.lines;
          rest = s.rest;
          text = s.text;
          split = s.split;
          run = subst (λ ls. Run Handles first ls s.text board) (sym all) s.run;
          sent = s.sent;
          counted = counted_from_none s.lines answered s.counted ∙ ap answered_count (sym all);
        }

    pub end_line : (old new : State) (before after : Reading) (contents more : Option (List ℕ)) (answered counted : ℕ)
        (line : Line)
        → line ≢ lines.None → Ends before after line
        → ((raw : List ℕ) → Holds line after raw → (reply : List ℕ) × Handles old raw reply new
        × Appends contents more reply × (counted ≡ min (answered + as_one (has_reply raw)) (2 ^ 64 - 1)))
        → Stands Handles first written 0 read old before.pending contents answered
        → Transcribed Handles first written read new more counted
    end_line old new before after contents more answered counted line some ends replied s =
        let held = end_held before after s.rest line some ends s.held in
        let r = replied s.rest held.0 in
        let all : with_last s.lines s.rest ≡ s.lines ++ s.rest ∷ [] = with_last-filled s.lines s.rest held.1 in
        record {
          lines = s.lines;
          rest = s.rest;
          text = s.text ++ r.0;
          split = s.split;
          run = subst (λ ls. Run Handles first ls (s.text ++ r.0) new) (sym all) (Run-push Handles s.lines first old
              new s.text r.0 s.rest s.run r.1);
          sent = Appends-append written contents more s.text r.0 s.sent r.2;
          counted = counted_from_none (s.lines ++ s.rest ∷ []) counted
              (counted-push 0 s.lines s.rest answered counted s.counted r.3)
              ∙ ap answered_count (sym all);
        }

    pub end_cut : (old new : State) (before after : Reading) (contents more : Option (List ℕ)) (answered : ℕ) (line :
        Line)
        → line ≢ lines.None → Ends before after line
        → ((raw : List ℕ) → Holds line after raw → (reply : List ℕ) × (count : ℕ) × Handles old raw reply new
        × (count < length reply) × Appends contents more (take count reply))
        → Stands Handles first written 0 read old before.pending contents answered
        → Cut Handles ⊤ first written read new more
    end_cut old new before after contents more answered line some ends replied s =
        let held = end_held before after s.rest line some ends s.held in
        let r = replied s.rest held.0 in
        record {
          lines = s.lines;
          line = s.rest;
          after = [];
          text = s.text;
          middle = old;
          reply = r.0;
          count = r.1;
          whole = s.split.whole ∙ ap (stream_of s.lines) (sym (append-nil s.rest));
          each = s.split.each;
          one = s.split.partial;
          ends = tt;
          run = s.run;
          answers = r.2;
          short = r.3;
          sent = Appends-append written contents more s.text (take r.1 r.0) s.sent r.4;
        }

    -- the source failed: the complete lines were answered
    pub stands_answered : (board : State) (pending contents : Option (List ℕ)) (answered : ℕ)
        → Stands Handles first written base read board pending contents answered
        → Answered Handles first written read board contents
    stands_answered board pending contents answered s =
        record { lines = s.lines; rest = s.rest; text = s.text; split = s.split; run = s.run; sent = s.sent }

    -- what was put was sent
    pub stands_flushed : (board : State) (pending contents after : Option (List ℕ)) (answered : ℕ)
        → Keeps contents after
        → Stands Handles first written base read board pending contents answered
        → Stands Handles first written base read board pending after answered
    stands_flushed board pending contents after answered same s = record {
      lines = s.lines;
      rest = s.rest;
      text = s.text;
      split = s.split;
      run = s.run;
      held = s.held;
      sent = Appends-keeps written contents after s.text s.sent same;
      counted = s.counted;
    }

    pub transcribed_flushed : (board : State) (contents after : Option (List ℕ)) (answered : ℕ) → Keeps contents after
        → Transcribed Handles first written read board contents answered
        → Transcribed Handles first written read board after answered
    transcribed_flushed board contents after answered same s = record {
      lines = s.lines;
      rest = s.rest;
      text = s.text;
      split = s.split;
      run = s.run;
      sent = Appends-keeps written contents after s.text s.sent same;
      counted = s.counted;
    }

    -- a cut reply, with what is known of the end of the input
    pub cut_ended : (P Q : Type 0) (last : State) (contents : Option (List ℕ)) → (P → Q)
        → Cut Handles P first written read last contents
        → Cut Handles Q first written read last contents
    cut_ended P Q last contents known c = record {
      lines = c.lines;
      line = c.line;
      after = c.after;
      text = c.text;
      middle = c.middle;
      reply = c.reply;
      count = c.count;
      whole = c.whole;
      each = c.each;
      one = c.one;
      ends = go c.after c.ends;
      run = c.run;
      answers = c.answers;
      short = c.short;
      sent = c.sent;
    }
      where
        go : (after : List ℕ) → IsAfterLine P after → IsAfterLine Q after
        go [] p = known p
        go (b ∷ bs) p = p

    -- the sink failed, with what is known of the end of the input
    pub stopped_ended : (P Q : Type 0) (last : State) (contents : Option (List ℕ)) → (P → Q)
        → Stopped Handles P first written read last contents
        → Stopped Handles Q first written read last contents
    stopped_ended P Q last contents known (inl cut) = inl (cut_ended P Q last contents known cut)
    stopped_ended P Q last contents known (inr (inl all)) = inr (inl all)
    stopped_ended P Q last contents known (inr (inr end)) = inr (inr (known end.0, end.1, end.2))

    pub stands_more : (bytes : List ℕ) (start taken : ℕ) (board : State) (pending contents : Option (List ℕ)) (answered
        : ℕ)
        → Stands Handles first written base ((read ++ take start bytes) ++ take taken (take (length bytes - start) (drop
        start bytes))) board pending contents answered
        → Stands Handles first written base (read ++ take (start + taken) bytes) board pending contents answered
    stands_more bytes start taken board pending contents answered s =
        subst (λ r. Stands Handles first written base r board pending contents answered)
        (read-more read bytes start taken) s

    pub cut_rest : (bytes : List ℕ) (start : ℕ) (board : State) (contents : Option (List ℕ))
        → Cut Handles ⊥ first written ((read ++ take start bytes) ++ take (length bytes - start) (drop start bytes))
        board contents
        → Cut Handles ⊥ first written (read ++ bytes) board contents
    cut_rest bytes start board contents c = subst (λ r. Cut Handles ⊥ first written r board contents) (read-rest read
        bytes start) c

-- nothing is read yet
pub stands_first : {State : Type 0} (Handles : Answering State) (board : State) (contents pending : Option (List ℕ))
    → pending ≡ Some []
    → Stands Handles board contents 0 [] board pending contents 0
stands_first Handles board contents pending is = record {
  lines = [];
  rest = [];
  text = [];
  split = record {
    whole = refl;
    each = λ k d lt. absurd (omega (arith, lt));
    partial = λ k d lt. absurd (omega
        (arith, lt));
  };
  run = (refl, refl);
  held = is;
  sent = Appends-nil contents;
  counted = refl;
}
