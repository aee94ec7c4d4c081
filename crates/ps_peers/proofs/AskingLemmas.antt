-- One line more of a conversation, and its end.
use Rattle.std.proofs.Common.{◌≡◌, ◌⊎◌, ◌+◌, ℕ, Bool, true, false, Result, Ok, Err, List, [], ◌∷◌, ◌++◌, Option}
use Rattle.std.proofs.Common.{Some, None, flat_map, length}
use Rattle.std.proofs.Common.{◌∙◌, ap, append-nil, arith, inl, inr, length-append, refl, subst, sym}
use Rattle.std.specs.Prelude.{OnErr, OnOk, if◌then◌else◌}
use Rattle.std.specs.Io.KnownBytes.{Appends, Consumes, Keeps}
use Rattle.std.proofs.Math.Seq.{take-append-add, take-length}
use Rattle.std.proofs.lemmas.List.Elements.{All-append, All-push}
use Rattle.std.proofs.lemmas.Grind.{flat_map-append}
use Rattle.ps_device.proofs.DeviceLemmas.{Appends-append, Appends-nil}
use Rattle.ps_lines.specs.declared.incoming.NextLine.{NextLine}
use Rattle.ps_peers.specs.Asking.{Asked, AsksLine, WritesLines, WritesSome, IsAsking, IsBrokenOff, IsConversed}
use Rattle.ps_peers.specs.Asking.{IsInterrupted, ended, lines_due, written_text}
use Rattle.ps_lines.specs.Feeding.{HasNoFeed, without_return}
use Rattle.ps_lines.specs.Incomings.{IsNextLine}
use Rattle.ps_peers.specs.Peers.{IsReplied, PeerView, PutsSome}
use Rattle.ps_lines.specs.Streams.{Run, TakesLine, stream_of, with_last}
use Rattle.ps_peers.proofs.ExchangeLemmas.{takes_none}
use Rattle.ps_lines.proofs.StreamLemmas.{Run-push, stream-push, stream-rest}
use Rattle.ps_lines.proofs.ReadLemmas.{Consumes-append, Consumes-nil}

pub Appends-kept : (old mid new : Option (List ℕ)) (bytes : List ℕ) → Appends old mid bytes → Keeps mid new
    → Appends old new bytes
Appends-kept None mid new bytes sent keeps = tt
Appends-kept (Some x) None new bytes sent keeps = absurd sent
Appends-kept (Some x) (Some y) None bytes sent keeps = absurd keeps
Appends-kept (Some x) (Some y) (Some z) bytes sent keeps = keeps ∙ sent

-- all of it was put
pub puts_all : (old new : Option (List ℕ)) (bytes : List ℕ) → Appends old new bytes → PutsSome old new bytes
puts_all old new bytes sent =
    (length bytes, omega arith, subst (Appends old new) (sym (take-length bytes)) sent)

-- a beginning of it was put, after what was put whole
pub puts_after : (old mid new : Option (List ℕ)) (first second : List ℕ) → Appends old mid first
    → PutsSome mid new second → PutsSome old new (first ++ second)
puts_after old mid new first second sent some = (
  length first + some.0,
  simp length-append (omega (arith, some.1)),
  rw take-append-add (Appends-append old mid new _ _ sent some.2),
)

-- .. and then the sink was flushed
pub puts_kept : (old mid new : Option (List ℕ)) (bytes : List ℕ) → PutsSome old mid bytes → Keeps mid new
    → PutsSome old new bytes
puts_kept old mid new bytes some keeps = (some.0, some.1, Appends-kept old mid new _ some.2 keeps)

-- nothing was put
pub puts_none : (old : Option (List ℕ)) (bytes : List ℕ) → PutsSome old old bytes
puts_none old bytes = (0, omega arith, Appends-nil old)

-- the outcome of a call that flushes
pub flushed_or_failed : (E P Q : Type 0) (result : Result (Unit {0}) E) → OnOk result P → OnErr result Q → P ⊎ Q
flushed_or_failed E P Q (Ok done) p q = inl p
flushed_or_failed E P Q (Err error) p q = inr q

pub stream-append : (first second : List (List ℕ))
    → stream_of first [] ++ stream_of second [] ≡ stream_of (first ++ second) []
stream-append first second =
    let f : List ℕ → List ℕ = λ line. line ++ 10 ∷ [] in
    ap (λ t. t ++ stream_of second []) (append-nil (flat_map f first))
    ∙ ap (λ t. flat_map f first ++ t) (append-nil (flat_map f second))
    ∙ sym (flat_map-append f first second) ∙ sym (append-nil (flat_map f (first ++ second)))

pub written-append : (first second : List (List ℕ))
    → written_text first ++ written_text second ≡ written_text (first ++ second)
written-append first second = sym (flat_map-append (λ l. ended (without_return l)) first second)

pub written-push : (lines : List (List ℕ)) (line : List ℕ)
    → written_text lines ++ ended (without_return line) ≡ written_text (lines ++ line ∷ [])
written-push lines line =
    sym (flat_map-append (λ l. ended (without_return l)) lines (line ∷ [])
    ∙ ap (λ t. written_text lines ++ t) (append-nil (ended (without_return line))))

pub writes_none : (old written : Option (List ℕ)) → WritesLines [] old old written written
writes_none old written = record {
  each = λ k d lt. absurd (omega (arith, lt));
  read = Consumes-nil old;
  sent = Appends-nil written;
}

module _ (lines : List (List ℕ)) (old mid written before : Option (List ℕ))
    (h : WritesLines lines old mid written before) where
  -- one line more came
  read_more : (line : List ℕ) (new : Option (List ℕ)) → Consumes mid new (ended line)
      → Consumes old new (stream_of (lines ++ line ∷ []) [])
  read_more line new read =
      subst (Consumes old new) (stream-rest lines [] (ended line) ∙ stream-push lines line)
      (Consumes-append _ _ _ (stream_of lines []) (ended line) h.read read)

  -- .. and was written
  pub writes_push : (line : List ℕ) (new contents : Option (List ℕ)) → HasNoFeed line → Consumes mid new (ended line)
      → Appends before contents (ended (without_return line))
      → WritesLines (lines ++ line ∷ []) old new written contents
  writes_push line new contents one read sent = record {
    each = All-push HasNoFeed lines line h.each one;
    read = read_more line new read;
    sent = subst (Appends written contents) (written-push lines line)
        (Appends-append _ _ _ (written_text lines) (ended (without_return line)) h.sent sent);
  }

  -- .. and a beginning of it was written
  pub writes_cut : (line : List ℕ) (new contents : Option (List ℕ)) → HasNoFeed line → Consumes mid new (ended line)
      → PutsSome before contents (ended (without_return line)) → WritesSome old new written contents
  writes_cut line new contents one read put = record {
    came = lines ++ line ∷ [];
    each = All-push HasNoFeed lines line h.each one;
    later = new;
    read = read_more line new read;
    more = takes_none new new refl;
    wrote = subst (PutsSome written contents) (written-push lines line)
        (puts_after _ _ _ (written_text lines) (ended (without_return line)) h.sent put);
  }

  -- no more than a line came then, and nothing of it was written
  pub writes_stop : (new : Option (List ℕ)) → TakesLine mid new → WritesSome old new written before
  writes_stop new more = record {
    came = lines;
    each = h.each;
    later = mid;
    read = h.read;
    more = more;
    wrote = puts_all _ _ (written_text lines) h.sent;
  }

  -- .. and then some more came
  pub writes_more : (new contents : Option (List ℕ)) → WritesSome mid new before contents
      → WritesSome old new written contents
  writes_more new contents s = record {
    came = lines ++ s.came;
    each = All-append HasNoFeed lines s.came h.each s.each;
    later = s.later;
    read = subst (Consumes old s.later) (stream-append lines s.came)
        (Consumes-append _ _ _ (stream_of lines []) (stream_of s.came []) h.read s.read);
    more = s.more;
    wrote = subst (PutsSome written contents) (written-append lines s.came)
        (puts_after _ _ _ (written_text lines) (written_text s.came) h.sent s.wrote);
  }

  pub writes_append : (others : List (List ℕ)) (new contents : Option (List ℕ))
      → WritesLines others mid new before contents → WritesLines (lines ++ others) old new written contents
  writes_append others new contents o = record {
    each = All-append HasNoFeed lines others h.each o.each;
    read = subst (Consumes old new) (stream-append lines others)
        (Consumes-append _ _ _ (stream_of lines []) (stream_of others []) h.read o.read);
    sent = subst (Appends written contents) (written-append lines others)
        (Appends-append _ _ _ (written_text lines) (written_text others) h.sent o.sent);
  }

  -- .. and then all was flushed
  pub writes_kept : (contents : Option (List ℕ)) → Keeps before contents → WritesLines lines old mid written contents
  writes_kept contents keeps = record {
    each = h.each;
    read = h.read;
    sent = Appends-kept _ _ _ (written_text lines) h.sent keeps;
  }

pub some_kept : (old new written before contents : Option (List ℕ)) → WritesSome old new written before
    → Keeps before contents → WritesSome old new written contents
some_kept old new written before contents s keeps = record {
  came = s.came;
  each = s.each;
  later = s.later;
  read = s.read;
  more = s.more;
  wrote = puts_kept _ _ _ (written_text s.came) s.wrote keeps;
}

-- the first line of a reply came, and was written
module _ (line : List ℕ) (old mid : PeerView) (written before : Option (List ℕ))
    (r : IsReplied (ended line) old mid) (sent : Appends written before (ended (without_return mid.line))) where
  pub first_writes : WritesLines (mid.line ∷ []) old.to_come mid.to_come written before
  first_writes =
      writes_push [] old.to_come old.to_come written written (writes_none old.to_come written) mid.line mid.to_come
      before r.one r.read sent

  -- .. and then the others
  pub reply_asked : (rest : List (List ℕ)) (new : PeerView) (contents after : Option (List ℕ))
      → WritesLines rest mid.to_come new.to_come before contents → new.asked ≡ mid.asked → Keeps contents after
      → lines_due line (without_return mid.line) ≡ Some (length rest)
      → (text : List ℕ) × Asked old line text new × Appends written after text
  reply_asked rest new contents after writes unasked keeps due =
      let all = writes_append (mid.line ∷ []) old.to_come mid.to_come written before first_writes rest new.to_come
      contents writes in (
        written_text (mid.line ∷ rest),
        record {
          first = mid.line;
          rest = rest;
          asked = subst (λ asked. Appends old.asked asked (ended line)) (sym unasked) r.asked;
          each = all.each;
          read = all.read;
          due = due;
          is = refl;
        },
        Appends-kept _ _ _ _ all.sent keeps,
      )

  -- .. or only some of the others
  pub reply_some : (new contents after : Option (List ℕ)) → WritesSome mid.to_come new before contents
      → Keeps contents after → WritesSome old.to_come new written after
  reply_some new contents after some keeps =
      some_kept _ _ _ contents after
      (writes_more (mid.line ∷ []) old.to_come mid.to_come written before first_writes new contents some) keeps

  -- .. or all others, and the flush failed
  pub reply_unflushed : (rest : List (List ℕ)) (new contents after : Option (List ℕ))
      → WritesLines rest mid.to_come new before contents → Keeps contents after
      → WritesSome old.to_come new written after
  reply_unflushed rest new contents after writes keeps =
      let all = writes_append (mid.line ∷ []) old.to_come mid.to_come written before first_writes rest new contents
      writes in
      some_kept _ _ _ contents after
      (writes_stop (mid.line ∷ rest) old.to_come new written contents all new (takes_none new new refl)) keeps

-- the last line of an input has no line feed
abbrev feed_of : Bool → List ℕ
feed_of is_last = if is_last then [] else 10 ∷ []

-- nothing was asked yet
pub asking_none : (first : PeerView) (written given : Option (List ℕ))
    → IsAsking first first written written given given
asking_none first written given = record {
  lines = [];
  text = [];
  each = λ k d lt. absurd (omega (arith, lt));
  read = Consumes-nil given;
  run = (refl, refl);
  sent = Appends-nil written;
}

module _ (first mid : PeerView) (written before given due : Option (List ℕ))
    (a : IsAsking first mid written before given due) where
  -- no line came then, or a part of one
  pub interrupted_before : (left : Option (List ℕ)) → TakesLine due left
      → IsInterrupted first mid written before given left
  interrupted_before left t = record {
    middle = mid;
    before = before;
    given_then = due;
    asking = a;
    raw = t.part;
    feed = t.feed;
    one = t.one;
    ends = t.ends;
    taken = t.taken;
    broken = inl (
      puts_none mid.asked _,
      writes_stop [] mid.to_come mid.to_come before before (writes_none mid.to_come before) mid.to_come
          (takes_none mid.to_come mid.to_come refl),
    );
  }

  module _ (last : PeerView) (contents left : Option (List ℕ)) (line : List ℕ) (next : NextLine)
      (n : IsNextLine due left line next) where
    -- a line came whose reply broke off
    pub interrupted_amid : IsBrokenOff n.raw mid last before contents
        → IsInterrupted first last written contents given left
    interrupted_amid broken = record {
      middle = mid;
      before = before;
      given_then = due;
      asking = a;
      raw = n.raw;
      feed = feed_of next.is_last;
      one = n.one;
      ends = feed next.is_last;
      taken = n.read;
      broken = broken;
    }
      where
        feed : (b : Bool) → (feed_of b ≡ []) ⊎ (feed_of b ≡ 10 ∷ [])
        feed true = inl refl
        feed false = inr refl

    module _ (reply : List ℕ) (asks : AsksLine mid n.raw reply last) (sent : Appends before contents reply) where
      -- one line more was asked
      pub asking_more : next.is_last ≡ false → IsAsking first last written contents given left
      asking_more inside = record {
        lines = a.lines ++ n.raw ∷ [];
        text = a.text ++ reply;
        each = All-push HasNoFeed a.lines n.raw a.each n.one;
        read = subst (Consumes given left) (stream-rest a.lines [] (ended n.raw) ∙ stream-push a.lines n.raw)
            (Consumes-append _ _ _ (stream_of a.lines []) (ended n.raw) a.read (rw inside at n.read));
        run = Run-push AsksLine a.lines first mid last a.text reply n.raw a.run asks;
        sent = Appends-append _ _ _ a.text reply a.sent sent;
      }

      -- .. and it is the last one, or none
      pub conversed : next.is_last ≡ true → IsConversed first last written contents given left
      conversed at_end = record {
        lines = a.lines;
        rest = n.raw;
        text = a.text ++ reply;
        each = a.each;
        partial = n.one;
        read = subst (Consumes given left) (stream-rest a.lines [] n.raw)
            (Consumes-append _ _ _ (stream_of a.lines []) n.raw a.read
            (subst (Consumes due left) (append-nil n.raw) (rw at_end at n.read)));
        ended = n.ended at_end;
        run = last_run n.raw asks;
        sent = Appends-append _ _ _ a.text reply a.sent sent;
      }
        where
          last_run : (raw : List ℕ) → AsksLine mid raw reply last
              → Run AsksLine first (with_last a.lines raw) (a.text ++ reply) last
          last_run [] none =
              subst (λ text. Run AsksLine first a.lines text last)
              (sym (ap (λ r. a.text ++ r) none.0 ∙ append-nil a.text))
              (subst (Run AsksLine first a.lines a.text) (sym none.1) a.run)
          last_run (b ∷ bs) asked = Run-push AsksLine a.lines first mid last a.text reply (b ∷ bs) a.run asked
