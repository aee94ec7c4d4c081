-- A session that reads on: one line more, a part of a line, the end.
use Rattle.std.proofs.Common.{◌≡◌, ◌≢◌, ◌+◌, ◌-◌, ◌^◌, ◌<◌, ℕ, List, [], ◌∷◌}
use Rattle.std.proofs.Common.{◌++◌, length, take, min, refl, sym, ap, ◌∙◌, arith, Option, Some}
use Rattle.std.proofs.Common.{append_assoc, count_by, cond}
use Rattle.std.specs.Io.KnownBytes.{Appends}
use Rattle.std.proofs.lemmas.List.Elements.{All-append, All-push}
use Rattle.std.proofs.lemmas.List.Sums.{fold-append}
use Rattle.ps_device.proofs.DeviceLemmas.{Appends-append}
use Rattle.ps_lines.specs.Feeding.{HasNoFeed, kept_after}
use Rattle.ps_lines.specs.Streams.{Answering, Run, stream_of}
use Rattle.ps_session.specs.Transcript.{has_reply, answered_count}
use Rattle.ps_session.specs.Transcript.{Cut}
use Rattle.ps_lines.proofs.FeedLemmas.{kept_cut}
use Rattle.ps_lines.proofs.StreamLemmas.{Run-push, stream-push, stream-rest}
use Rattle.ps_session.specs.Inside.Stands.{Stands, counted_from}

-- a sum that was cut at a bound may be cut again
min-more : (a b bound : ℕ) → min (min a bound + b) bound ≡ min (a + b) bound
min-more a b bound = omega arith

pub counted-push : (base : ℕ) (lines : List (List ℕ)) (line : List ℕ) (before after : ℕ)
    → before ≡ counted_from base lines
    → after ≡ min (before + cond (has_reply line) 1 0) (2 ^ 64 - 1) → after ≡ counted_from base (lines ++ line ∷ [])
counted-push base lines line before after is next =
    let one : ℕ = cond (has_reply line) 1 0 in
    let grows : count_by has_reply (lines ++ line ∷ []) ≡ count_by has_reply lines + one =
    fold-append (λ n l. n + cond (has_reply l) 1 0) 0 lines (line ∷ []) in
    next ∙ ap (λ n. min (n + one) (2 ^ 64 - 1)) is ∙ min-more (base + count_by has_reply lines) one (2 ^ 64 - 1)
    ∙ ap (λ n. min n (2 ^ 64 - 1)) (plus-assoc base (count_by has_reply lines) one ∙ ap (λ n. base + n) (sym grows))
  where
    plus-assoc : (a b c : ℕ) → a + b + c ≡ a + (b + c)
    plus-assoc a b c = omega arith

-- from none on it is the count of the lines
pub counted_from_none : (lines : List (List ℕ)) (answered : ℕ) → answered ≡ counted_from 0 lines
    → answered ≡ answered_count lines
counted_from_none lines answered is = omega (arith, is)

module _ {State : Type 0} (Line : Answering State) (first : State) (written : Option (List ℕ)) (base : ℕ) where
  -- a part of a line
  pub stands_part : (read : List ℕ) (last : State) (pending contents : Option (List ℕ)) (answered : ℕ) (part : List ℕ)
      → Stands Line first written base read last pending contents answered → HasNoFeed part
      → Stands Line first written base (read ++ part) last (kept_after pending part) contents answered
  stands_part read last pending contents answered part s free = record {
    lines = s.lines;
    rest = s.rest ++ part;
    text = s.text;
    split = record {
      whole = ap (λ r. r ++ part) s.split.whole ∙ stream-rest s.lines s.rest part;
      each = s.split.each;
      partial = All-append (λ b. b ≢ 10) s.rest part s.split.partial free;
    };
    run = s.run;
    held = ap (λ p. kept_after p part) s.held ∙ kept_cut s.rest part;
    sent = s.sent;
    counted = s.counted;
  }

  -- the rest of a line, its line feed, and its reply
  pub stands_line : (read : List ℕ) (last new : State) (pending contents after : Option (List ℕ)) (answered counted :
      ℕ) (part reply : List ℕ)
      → (s : Stands Line first written base read last pending contents answered) → HasNoFeed part
      → Line last (s.rest ++ part) reply new → Appends contents after reply
      → counted ≡ min (answered + cond (has_reply (s.rest ++ part)) 1 0) (2 ^ 64 - 1)
      → Stands Line first written base (read ++ (part ++ 10 ∷ [])) new (Some []) after counted
  stands_line read last new pending contents after answered counted part reply s free answers sent rises = record {
    lines = s.lines ++ (s.rest ++ part) ∷ [];
    rest = [];
    text = s.text ++ reply;
    split = record {
      whole = ap (λ r. r ++ (part ++ 10 ∷ [])) s.split.whole ∙ stream-rest s.lines s.rest (part ++ 10 ∷ [])
          ∙ ap (stream_of s.lines) (sym (append_assoc s.rest part (10 ∷ []))) ∙ stream-push s.lines (s.rest ++ part);
      each = All-push HasNoFeed s.lines (s.rest ++ part) s.split.each (All-append (λ b. b ≢ 10) s.rest part
          s.split.partial free);
      partial = λ k d lt. absurd (omega (arith, lt));
    };
    run = Run-push Line s.lines first last new s.text reply (s.rest ++ part) s.run answers;
    held = refl;
    sent = Appends-append written contents after s.text reply s.sent sent;
    counted = counted-push base s.lines (s.rest ++ part) answered counted s.counted rises;
  }

  -- a reply that was cut, with more of the input after its line
  pub cut_line : (read : List ℕ) (last new : State) (pending contents after : Option (List ℕ)) (answered : ℕ) (part
      more reply : List ℕ) (count : ℕ)
      → (s : Stands Line first written base read last pending contents answered) → HasNoFeed part
      → Line last (s.rest ++ part) reply new → count < length reply → Appends contents after (take count reply)
      → Cut Line ⊥ first written (read ++ (part ++ 10 ∷ more)) new after
  cut_line read last new pending contents after answered part more reply count s free answers short sent = record {
    lines = s.lines;
    line = s.rest ++ part;
    after = 10 ∷ more;
    text = s.text;
    middle = last;
    reply = reply;
    count = count;
    whole = ap (λ r. r ++ (part ++ 10 ∷ more)) s.split.whole ∙ stream-rest s.lines s.rest (part ++ 10 ∷ more)
        ∙ ap (stream_of s.lines) (sym (append_assoc s.rest part (10 ∷ more)));
    each = s.split.each;
    one = All-append (λ b. b ≢ 10) s.rest part s.split.partial free;
    ends = refl;
    run = s.run;
    answers = answers;
    short = short;
    sent = Appends-append written contents after s.text (take count reply) s.sent sent;
  }
