-- What the reader of a source's lines takes from the source.
use Rattle.std.proofs.Common.{◌≡◌, ◌≢◌, ◌+◌, ◌-◌, ◌<◌, ◌≤◌, ℕ, List, [], ◌∷◌, ◌++◌, take, drop, Option, Some, None, sym}
use Rattle.std.proofs.Common.{◌∙◌, ap, arith, false, rules, append_assoc, append-nil, inl, inr, refl, subst}
use Rattle.std.specs.Io.KnownBytes.{Consumes, Keeps, prepend_known}
use Rattle.std.proofs.lemmas.List.{drop-drop, drop-take, take-append-drop}
use Rattle.std.proofs.lemmas.List.Elements.{All-append}
use Rattle.ps_device.specs.declared.device.Source.{Ghosts}
use Rattle.ps_lines.specs.declared.incoming.Incoming.{Incoming}
use Rattle.ps_lines.specs.declared.line_buffer.Line.TheVariants as lines
use Rattle.ps_lines.specs.Feeding.{EndsLine, Feeds, HasNoFeed, Reading, kept, kept_after}
use Rattle.ps_lines.specs.Incomings.{IsNextLine, due, lines_left}
use Rattle.ps_lines.specs.Inside.Incomings.{IsReading}
use Rattle.ps_lines.specs.Streams.{TakesLine}
use Rattle.ps_lines.proofs.FeedLemmas.{fits_kept, kept_cut, nothing_kept}
use Rattle.ps_lines.proofs.ReadLemmas.{Consumes-append, Consumes-keeps, Consumes-nil}

-- the first bytes of those that were read are taken in
pub consumes_part : (piece : List ℕ) (start end taken : ℕ) (rest : Option (List ℕ)) → taken ≤ end - start
    → Consumes (prepend_known (take (end - start) (drop start piece)) rest)
    (prepend_known (take (end - (start + taken)) (drop (start + taken) piece)) rest)
    (take taken (take (end - start) (drop start piece)))
consumes_part piece start end taken None within = tt
consumes_part piece start end taken (Some xs) within =
    let bytes : List ℕ = take (end - start) (drop start piece) in
    let sum : end - start ≡ taken + (end - (start + taken)) = omega arith in
    let rest : drop taken bytes ≡ take (end - (start + taken)) (drop (start + taken) piece) =
    ap (λ n. drop taken (take n (drop start piece))) sum
    ∙ drop-take taken (end - (start + taken)) (drop start piece)
    ∙ ap (take (end - (start + taken))) (drop-drop taken start piece) in
    ap (λ b. b ++ xs) (sym (take-append-drop taken bytes) ∙ ap (λ r. take taken bytes ++ r) rest)
    ∙ append_assoc (take taken bytes) _ xs

-- before the first read
pub reading_first : {S : Type 0} {G : Ghosts S} (remaining : S → Option (List ℕ)) (left failures : S → ℕ)
    (incoming : Incoming S G) → incoming.lines.pending ≡ Some [] → IsReading remaining left failures incoming incoming
reading_first remaining left failures incoming ready = record {
  part = [];
  one = λ k d lt. absurd (omega (arith, lt));
  taken = Consumes-nil (due remaining incoming);
  held = ready;
  calm = refl;
  falls = omega arith;
}

module _ {S : Type 0} {G : Ghosts S} (remaining : S → Option (List ℕ)) (left failures : S → ℕ)
    (old mid new : Incoming S G) (r : IsReading remaining left failures old mid) where
  -- more was read, and none of it taken in
  pub reading_kept : Keeps (due remaining mid) (due remaining new) → new.lines ≡ mid.lines
      → failures new.source ≡ failures mid.source → lines_left left new ≤ lines_left left mid
      → IsReading remaining left failures old new
  reading_kept keeps same calm falls = record {
    part = r.part;
    one = r.one;
    taken = Consumes-keeps _ _ _ r.part r.taken keeps;
    held = ap (λ (l : Reading). l.pending) same ∙ r.held;
    calm = calm ∙ r.calm;
    falls = omega (arith, falls, r.falls);
  }

  -- what was read is no more than a line
  pub reading_takes : Keeps (due remaining mid) (due remaining new) → TakesLine (due remaining old) (due remaining new)
  reading_takes keeps = record {
    part = r.part;
    feed = [];
    one = r.one;
    ends = inl refl;
    taken = rw (append-nil r.part) (Consumes-keeps _ _ _ r.part r.taken keeps);
  }

  -- .. and nothing, if the buffer holds nothing
  pub reading_none : Keeps (due remaining mid) (due remaining new) → mid.lines.pending ≡ Some []
      → Consumes (due remaining old) (due remaining new) []
  reading_none keeps none =
      let empty : r.part ≡ [] = nothing_kept r.part (sym r.held ∙ none) in
      subst (Consumes (due remaining old) (due remaining new)) empty (Consumes-keeps _ _ _ r.part r.taken keeps)

  -- a part of a line was taken in
  pub reading_part : (bytes : List ℕ) → Consumes (due remaining mid) (due remaining new) bytes
      → Feeds mid.lines new.lines bytes lines.None → failures new.source ≡ failures mid.source
      → lines_left left new ≤ lines_left left mid → IsReading remaining left failures old new
  reading_part bytes taken fed calm falls = record {
    part = r.part ++ bytes;
    one = All-append (λ b. b ≢ 10) r.part bytes r.one fed.0;
    taken = Consumes-append _ _ _ r.part bytes r.taken taken;
    held = fed.1 ∙ ap (λ p. kept_after p bytes) r.held ∙ kept_cut r.part bytes;
    calm = calm ∙ r.calm;
    falls = omega (arith, falls, r.falls);
  }

  -- the end of a line was taken in: all of it
  whole : (bytes : List ℕ) (wanted : Option (List ℕ)) → Consumes (due remaining mid) (due remaining new) bytes
      → EndsLine bytes (λ part. kept_after mid.lines.pending part ≡ wanted)
      → (line : List ℕ) × HasNoFeed line × (kept line ≡ wanted)
      × Consumes (due remaining old) (due remaining new) (line ++ 10 ∷ [])
  whole bytes wanted taken ends =
      let all : r.part ++ bytes ≡ (r.part ++ ends.0) ++ 10 ∷ [] =
      ap (λ b. r.part ++ b) ends.1 ∙ sym (append_assoc r.part ends.0 (10 ∷ [])) in (
        r.part ++ ends.0,
        All-append (λ b. b ≢ 10) r.part ends.0 r.one ends.2,
        sym (kept_cut r.part ends.0) ∙ ap (λ p. kept_after p ends.0) (sym r.held) ∙ ends.3,
        subst (Consumes (due remaining old) (due remaining new)) all (Consumes-append _ _ _ r.part bytes r.taken taken),
      )

  pub reading_line : (bytes : List ℕ) → Consumes (due remaining mid) (due remaining new) bytes
      → Feeds mid.lines new.lines bytes lines.Full
      → HasNoFeed new.lines.line × Consumes (due remaining old) (due remaining new) (new.lines.line ++ 10 ∷ [])
  reading_line bytes taken fed =
      let w = whole bytes (Some new.lines.line) taken fed.0 in
      let is : w.0 ≡ new.lines.line = (fits_kept w.0 new.lines.line w.2).1 in (
        subst HasNoFeed is w.1,
        subst (λ l. Consumes (due remaining old) (due remaining new) (l ++ 10 ∷ [])) is w.3,
      )

  pub reading_long : (bytes : List ℕ) → Consumes (due remaining mid) (due remaining new) bytes
      → Feeds mid.lines new.lines bytes lines.TooLong → TakesLine (due remaining old) (due remaining new)
  reading_long bytes taken fed =
      let w = whole bytes None taken fed.0 in
      record { part = w.0; feed = 10 ∷ []; one = w.1; ends = inr refl; taken = w.3 }

  -- .. as the next line
  pub reading_next : (bytes : List ℕ) → Consumes (due remaining mid) (due remaining new) bytes
      → Feeds mid.lines new.lines bytes lines.Full
      → IsNextLine (due remaining old) (due remaining new) new.lines.line
      (record { line = lines.Full; is_last = false })
  reading_next bytes taken fed =
      let w = whole bytes (Some new.lines.line) taken fed.0 in
      record { raw = w.0; one = w.1; read = w.3; ended = λ e. search (rules, e); held = w.2 }

  pub reading_next_long : (bytes : List ℕ) → Consumes (due remaining mid) (due remaining new) bytes
      → Feeds mid.lines new.lines bytes lines.TooLong → (line : List ℕ)
      → IsNextLine (due remaining old) (due remaining new) line (record { line = lines.TooLong; is_last = false })
  reading_next_long bytes taken fed line =
      let w = whole bytes None taken fed.0 in
      record { raw = w.0; one = w.1; read = w.3; ended = λ e. search (rules, e); held = w.2 }

-- one turn of the loop: more was read if no byte was left, and some bytes were taken in
module _ {S : Type 0} {G : Ghosts S} (remaining : S → Option (List ℕ)) (left failures : S → ℕ)
    (old mid full new : Incoming S G) (r : IsReading remaining left failures old mid)
    (keeps : Keeps (due remaining mid) (due remaining full)) (same : full.lines ≡ mid.lines)
    (calm : failures full.source ≡ failures mid.source) (falls : lines_left left full ≤ lines_left left mid) where
  pub turn_part : (fed : (bytes : List ℕ) × Consumes (due remaining full) (due remaining new) bytes
      × Feeds full.lines new.lines bytes lines.None) → new.source ≡ full.source
      → lines_left left new < lines_left left full → IsReading remaining left failures old new
  turn_part fed source less =
      reading_part remaining left failures old full new
      (reading_kept remaining left failures old mid full r keeps same calm falls) fed.0 fed.1 fed.2 (ap failures source)
      (omega (arith, less))

  pub turn_line : (fed : (bytes : List ℕ) × Consumes (due remaining full) (due remaining new) bytes
      × Feeds full.lines new.lines bytes lines.Full)
      → HasNoFeed new.lines.line × Consumes (due remaining old) (due remaining new) (new.lines.line ++ 10 ∷ [])
  turn_line fed =
      reading_line remaining left failures old full new
      (reading_kept remaining left failures old mid full r keeps same calm falls) fed.0 fed.1 fed.2

  pub turn_long : (fed : (bytes : List ℕ) × Consumes (due remaining full) (due remaining new) bytes
      × Feeds full.lines new.lines bytes lines.TooLong) → TakesLine (due remaining old) (due remaining new)
  turn_long fed =
      reading_long remaining left failures old full new
      (reading_kept remaining left failures old mid full r keeps same calm falls) fed.0 fed.1 fed.2

  pub turn_next : (fed : (bytes : List ℕ) × Consumes (due remaining full) (due remaining new) bytes
      × Feeds full.lines new.lines bytes lines.Full)
      → IsNextLine (due remaining old) (due remaining new) new.lines.line
      (record { line = lines.Full; is_last = false })
  turn_next fed =
      reading_next remaining left failures old full new
      (reading_kept remaining left failures old mid full r keeps same calm falls) fed.0 fed.1 fed.2

  pub turn_next_long : (fed : (bytes : List ℕ) × Consumes (due remaining full) (due remaining new) bytes
      × Feeds full.lines new.lines bytes lines.TooLong) → (line : List ℕ)
      → IsNextLine (due remaining old) (due remaining new) line (record { line = lines.TooLong; is_last = false })
  turn_next_long fed =
      reading_next_long remaining left failures old full new
      (reading_kept remaining left failures old mid full r keeps same calm falls) fed.0 fed.1 fed.2
