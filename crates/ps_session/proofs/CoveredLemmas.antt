-- What is kept when replies were sent, at each end of a session.
use Rattle.std.proofs.Common.{◌≡◌, ◌⊎◌, ℕ, List, [], ◌∷◌, ◌++◌, Option, Some, None}
use Rattle.std.proofs.Common.{inl, inr, refl, sym, ap, ◌∙◌, subst, arith, append_assoc, append-nil, flat_map}
use Rattle.std.specs.Io.KnownBytes.{Appends, Keeps}
use Rattle.std.proofs.lemmas.Grind.{flat_map-append}
use Rattle.std.proofs.lemmas.List.{append_cancel_right}
use Rattle.std.proofs.lemmas.List.Elements.{All-append, All-push}
use Rattle.ps_device.specs.Device.{HoldsBack}
use Rattle.ps_device.proofs.DeviceLemmas.{Appends-keeps, Appends-nil}
use Rattle.ps_lines.specs.Feeding.{HasNoFeed}
use Rattle.ps_lines.specs.Streams.{Answering, IsAfterLine, Lines, Run, Splits, stream_of, with_last}
use Rattle.ps_session.specs.Transcript.{Cut, Transcribed}
use Rattle.ps_session.specs.Keeping.{AreFirstLines, Halted, SendsOnly, IsCovered, StaysFit}
use Rattle.ps_session.specs.Inside.Stands.{Stands}
use Rattle.ps_lines.proofs.StreamLemmas.{Run-push, stream-push, stream-rest}
use Rattle.ps_session.proofs.Runs.{all_lines}

-- ---- the lines of what was read

stream-append : (lines more : List (List ℕ)) (rest : List ℕ)
    → stream_of lines (stream_of more rest) ≡ stream_of (lines ++ more) rest
stream-append lines more rest =
    sym (append_assoc (flat_map (λ line. line ++ 10 ∷ []) lines) (flat_map (λ line. line ++ 10 ∷ []) more) rest)
    ∙ ap (λ t. t ++ rest) (sym (flat_map-append (λ line. line ++ 10 ∷ []) lines more))

stream-line : (lines : List (List ℕ)) (line rest : List ℕ)
    → stream_of lines (line ++ 10 ∷ rest) ≡ stream_of (lines ++ line ∷ []) rest
stream-line lines line rest =
    ap (stream_of lines) (sym (append_assoc line (10 ∷ []) rest)) ∙ sym (stream-rest lines (line ++ 10 ∷ []) rest)
    ∙ ap (λ t. t ++ rest) (stream-push lines line) ∙ stream-rest (lines ++ line ∷ []) [] rest

splits_after : (read bytes rest after : List ℕ) (lines more : List (List ℕ)) → Splits read lines rest
    → Splits (rest ++ bytes) more after → Splits (read ++ bytes) (lines ++ more) after
splits_after read bytes rest after lines more first then = record {
  whole = ap (λ r. r ++ bytes) first.whole ∙ stream-rest lines rest bytes ∙ ap (stream_of lines) then.whole
      ∙ stream-append lines more after;
  each = All-append HasNoFeed lines more first.each then.each;
  partial = then.partial;
}

first_lines : (ended : Type 0) (read more rest : List ℕ) (lines : List (List ℕ)) → Splits read lines rest
    → AreFirstLines ended (read ++ more) lines
first_lines ended read more rest lines split = record {
  after = rest ++ more;
  whole = inl (ap (λ r. r ++ more) split.whole ∙ stream-rest lines rest more);
  each = split.each;
}

lines_to_end : (ended : Type 0) (read rest : List ℕ) (lines : List (List ℕ)) → ended → Splits read lines rest
    → AreFirstLines ended read (with_last lines rest)
lines_to_end ended read [] lines is split = record {
  after = [];
  whole = inl split.whole;
  each = split.each;
}
lines_to_end ended read (b ∷ bs) lines is split = record {
  after = [];
  whole = inr (
    is,
    ap (λ r. r ++ 10 ∷ []) split.whole ∙ stream-rest lines (b ∷ bs) (10 ∷ []) ∙ stream-push lines (b ∷ bs),
  );
  each = All-push HasNoFeed lines (b ∷ bs) split.each split.partial;
}

with_last-after : (lines : List (List ℕ)) (rest : List ℕ) → with_last lines rest ≡ lines ++ with_last [] rest
with_last-after lines [] = sym (append-nil lines)
with_last-after lines (b ∷ bs) = refl

known_end : (P Q : Type 0) (bytes : List ℕ) (lines : List (List ℕ)) → (P → Q) → AreFirstLines P bytes lines
    → AreFirstLines Q bytes lines
known_end P Q bytes lines known first = record { after = first.after; whole = go first.whole; each = first.each }
  where
    go : (bytes ≡ stream_of lines first.after) ⊎ (P × (bytes ++ 10 ∷ [] ≡ stream_of lines []))
        → (bytes ≡ stream_of lines first.after) ⊎ (Q × (bytes ++ 10 ∷ [] ≡ stream_of lines []))
    go (inl is) = inl is
    go (inr is) = inr (known is.0, is.1)

-- ---- what was sent

-- all of it or a part
delivered_all : (written contents : Option (List ℕ)) (text waiting : List ℕ) → Appends written contents text
    → SendsOnly written text contents waiting
delivered_all written contents text waiting sent before all delivered is_before is_all whole = (
  waiting,
  sym whole ∙ subst (λ c. Appends (Some before) c text) is_all (subst (λ w. Appends w contents text) is_before sent),
)

-- what was put after a flush waits
delivered_before : (written put contents : Option (List ℕ)) (text waiting : List ℕ) → Appends written put text
    → HoldsBack put contents [] waiting → SendsOnly written text contents waiting
delivered_before written put contents text waiting sent held before all delivered is_before is_all whole =
    go put (subst (λ w. Appends w put text) is_before sent) held
  where
    go : (p : Option (List ℕ)) → Appends (Some before) p text → HoldsBack p contents [] waiting
        → (rest : List ℕ) × (delivered ++ rest ≡ before ++ text)
    go None known held = absurd known
    go (Some p) known held =
        let grown : all ≡ p ++ held.0 = subst (λ c. Appends (Some p) c held.0) is_all held.1 in
        let same : delivered ≡ p = append_cancel_right delivered p held.0
        (ap (λ w. delivered ++ w) (sym held.2) ∙ sym whole ∙ grown) in
        ([], append-nil delivered ∙ same ∙ known)

-- ---- at each end

module _ {State : Type 0} (Line : Answering State) (ended : Type 0) (first : State) (written : Option (List ℕ)) where
  -- a session that goes on from here
  pub begins_again : (base : ℕ) (read : List ℕ) (last : State) (pending contents : Option (List ℕ)) (answered : ℕ)
      → (s : Stands Line first written base read last pending contents answered)
      → Stands Line last contents answered s.rest last pending contents answered
  begins_again base read last pending contents answered s = record {
    lines = [];
    rest = s.rest;
    text = [];
    split = record { whole = refl; each = λ k d lt. absurd (omega (arith, lt)); partial = s.split.partial };
    run = (refl, refl);
    held = s.held;
    sent = Appends-nil contents;
    counted = omega (arith, s.counted);
  }

  pub stands_halted : (base : ℕ) (read more : List ℕ) (last : State) (pending contents : Option (List ℕ))
      (answered : ℕ)
      → Stands Line first written base read last pending contents answered
      → Halted Line ended first written (read ++ more) last contents
  stands_halted base read more last pending contents answered s = record {
    lines = s.lines;
    text = s.text;
    front = first_lines ended read more s.rest s.lines s.split;
    run = s.run;
    sent = s.sent;
  }

  pub end_halted : (read : List ℕ) (last : State) (contents after : Option (List ℕ)) (answered : ℕ) → ended
      → Keeps contents after → Transcribed Line first written read last contents answered
      → Halted Line ended first written read last after
  end_halted read last contents after answered is same t = record {
    lines = with_last t.lines t.rest;
    text = t.text;
    front = lines_to_end ended read t.rest t.lines is t.split;
    run = t.run;
    sent = Appends-keeps written contents after t.text t.sent same;
  }

  module _ (covers : State → Type 0) (waiting : List ℕ) where
    -- nothing was answered
    pub covered_none : (contents : Option (List ℕ)) → Keeps written contents
        → IsCovered Line covers ended first written [] first contents waiting
    covered_none contents same = record {
      lines = [];
      others = [];
      state = first;
      text = [];
      due = [];
      front = record { after = []; whole = inl refl; each = λ k d lt. absurd (omega (arith, lt)) };
      run = (refl, refl);
      since = (refl, refl);
      kept = inr refl;
      delivered = delivered_all written contents [] waiting
          (Appends-keeps written written contents [] (Appends-nil written) same);
    }

    -- the keeper covers all
    pub covered_here : (base : ℕ) (read more : List ℕ) (last : State) (pending contents : Option (List ℕ))
        (answered : ℕ) → covers last
        → Stands Line first written base read last pending contents answered
        → IsCovered Line covers ended first written (read ++ more) last contents waiting
    covered_here base read more last pending contents answered covered s = record {
      lines = s.lines;
      others = [];
      state = last;
      text = s.text;
      due = [];
      front = subst (AreFirstLines ended (read ++ more)) (sym (append-nil s.lines))
          (first_lines ended read more s.rest s.lines s.split);
      run = s.run;
      since = (refl, refl);
      kept = inl covered;
      delivered = delivered_all written contents s.text waiting s.sent;
    }

    pub covered_end : (read : List ℕ) (last : State) (contents after : Option (List ℕ)) (answered : ℕ) → ended
        → covers last → Keeps contents after → Transcribed Line first written read last contents answered
        → IsCovered Line covers ended first written read last after waiting
    covered_end read last contents after answered is covered same t = record {
      lines = with_last t.lines t.rest;
      others = [];
      state = last;
      text = t.text;
      due = [];
      front = subst (AreFirstLines ended read) (sym (append-nil (with_last t.lines t.rest)))
          (lines_to_end ended read t.rest t.lines is t.split);
      run = t.run;
      since = (refl, refl);
      kept = inl covered;
      delivered = delivered_all written after t.text waiting (Appends-keeps written contents after t.text t.sent same);
    }

    -- it covers the board as it was at the last sync
    module _ (base : ℕ) (read : List ℕ) (middle : State) (pending put : Option (List ℕ)) (answered : ℕ)
        (covered : covers middle) (s : Stands Line first written base read middle pending put answered)
        (last : State) (contents : Option (List ℕ)) (held : HoldsBack put contents [] waiting) where
      pub covered_before : (later : ℕ) (bytes more : List ℕ) (now : Option (List ℕ)) (counted : ℕ)
          → Stands Line middle put later (s.rest ++ bytes) last now contents counted
          → IsCovered Line covers ended first written ((read ++ bytes) ++ more) last contents waiting
      covered_before later bytes more now counted t = record {
        lines = s.lines;
        others = t.lines;
        state = middle;
        text = s.text;
        due = t.text;
        front = first_lines ended (read ++ bytes) more t.rest (s.lines ++ t.lines)
            (splits_after read bytes s.rest t.rest s.lines t.lines s.split t.split);
        run = s.run;
        since = t.run;
        kept = inl covered;
        delivered = delivered_before written put contents s.text waiting s.sent held;
      }

      pub covered_cut : (bytes : List ℕ) → Cut Line ⊥ middle put (s.rest ++ bytes) last contents
          → IsCovered Line covers ended first written (read ++ bytes) last contents waiting
      covered_cut bytes t = record {
        lines = s.lines;
        others = t.lines ++ t.line ∷ [];
        state = middle;
        text = s.text;
        due = t.text ++ t.reply;
        front = subst (AreFirstLines ended (read ++ bytes)) (append_assoc s.lines t.lines (t.line ∷ []))
            (go t.after t.ends t.whole);
        run = s.run;
        since = Run-push Line t.lines middle t.middle last t.text t.reply t.line t.run t.answers;
        kept = inl covered;
        delivered = delivered_before written put contents s.text waiting s.sent held;
      }
        where
          go : (after : List ℕ) → IsAfterLine ⊥ after → s.rest ++ bytes ≡ stream_of t.lines (t.line ++ after)
              → AreFirstLines ended (read ++ bytes) ((s.lines ++ t.lines) ++ t.line ∷ [])
          go [] ends whole = absurd ends
          go (b ∷ after) ends whole = record {
            after = after;
            whole = inl (ap (λ r. r ++ bytes) s.split.whole ∙ stream-rest s.lines s.rest bytes
                ∙ ap (stream_of s.lines) (whole ∙ ap (λ n. stream_of t.lines (t.line ++ n ∷ after)) ends)
                ∙ stream-append s.lines t.lines (t.line ++ 10 ∷ after)
                ∙ stream-line (s.lines ++ t.lines) t.line after);
            each = All-push HasNoFeed (s.lines ++ t.lines) t.line
                (All-append HasNoFeed s.lines t.lines s.split.each t.each) t.one;
          }

      pub covered_last : ended → (text : List ℕ) × Run Line middle (with_last [] s.rest) text last
          → IsCovered Line covers ended first written read last contents waiting
      covered_last is ran = record {
        lines = s.lines;
        others = with_last [] s.rest;
        state = middle;
        text = s.text;
        due = ran.0;
        front = subst (AreFirstLines ended read) (with_last-after s.lines s.rest)
            (lines_to_end ended read s.rest s.lines is s.split);
        run = s.run;
        since = ran.1;
        kept = inl covered;
        delivered = delivered_before written put contents s.text waiting s.sent held;
      }

-- with what is known of the end of the input
module _ {State : Type 0} (Line : Answering State) (P Q : Type 0) (known : P → Q) (first : State)
    (written : Option (List ℕ)) (read : List ℕ) (last : State) (contents : Option (List ℕ)) where
  pub halted_ended : Halted Line P first written read last contents → Halted Line Q first written read last contents
  halted_ended h = record {
    lines = h.lines;
    text = h.text;
    front = known_end P Q read h.lines known h.front;
    run = h.run;
    sent = h.sent;
  }

  pub covered_ended : (covers : State → Type 0) (waiting : List ℕ)
      → IsCovered Line covers P first written read last contents waiting
      → IsCovered Line covers Q first written read last contents waiting
  covered_ended covers waiting h = record {
    lines = h.lines;
    others = h.others;
    state = h.state;
    text = h.text;
    due = h.due;
    front = known_end P Q read (h.lines ++ h.others) known h.front;
    run = h.run;
    since = h.since;
    kept = h.kept;
    delivered = h.delivered;
  }

-- ---- what was noted

pub fits_after : {Keeper State : Type 0} (Answers : Answering State) (fits : Keeper → State → Type 0)
    → StaysFit Answers fits → (keeper : Keeper) (old new : State) (lines : List (List ℕ)) (text : List ℕ)
    → Run (Lines Answers) old lines text new → fits keeper old → fits keeper new
fits_after Answers fits stays keeper old new lines text run =
    all_lines (λ x y. fits keeper x → fits keeper y) (λ x is. is) (λ x y z one two is. two (one is)) Answers
    (λ x y line reply answers. stays keeper x y line reply answers) old new lines text run
