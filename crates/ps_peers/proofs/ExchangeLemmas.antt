-- One more reply of a peer that is followed, and its end.
use Rattle.std.proofs.Common.{◌≡◌, ℕ, List, [], ◌∷◌, ◌++◌, Option, ◌∙◌, arith, inl, inr, refl}
use Rattle.std.proofs.Common.{subst}
use Rattle.std.specs.Io.KnownBytes.{Appends, Consumes}
use Rattle.std.proofs.lemmas.List.Elements.{All-push}
use Rattle.ps_device.proofs.DeviceLemmas.{Appends-append, Appends-nil}
use Rattle.ps_lines.specs.Feeding.{HasNoFeed, without_return}
use Rattle.ps_peers.specs.Peers.{IsReplied, PeerView, PutsSome}
use Rattle.ps_lines.specs.Streams.{TakesLine, stream_of}
use Rattle.ps_peers.specs.Exchange.{Asks, IsFollowed, IsHalted, TellsEnd, TellsNews, WritesPulled, WritesReply}
use Rattle.ps_peers.specs.Exchange.{pull_text, wait_text}
use Rattle.ps_lines.proofs.StreamLemmas.{Run-push, stream-push, stream-rest}
use Rattle.ps_lines.proofs.ReadLemmas.{Consumes-append, Consumes-nil}

-- nothing was read
pub takes_none : (old new : Option (List ℕ)) → old ≡ new → TakesLine old new
takes_none old new same = record {
  part = [];
  feed = [];
  one = λ k d lt. absurd (omega (arith, lt));
  ends = inl refl;
  taken = subst (λ known. Consumes old known []) same (Consumes-nil old);
}

pub replied_takes : (request : List ℕ) (old new : PeerView) → IsReplied request old new
    → TakesLine old.to_come new.to_come
replied_takes request old new r =
    record { part = new.line; feed = 10 ∷ []; one = r.one; ends = inr refl; taken = r.read }

module _ (waits : Type 0) (start : ℕ) (first mid last : PeerView) (written before contents : Option (List ℕ))
    (version : ℕ) (f : IsFollowed waits start first mid written before version) where
  -- one more reply, whose text was written
  pub followed_more : (text : List ℕ) (next : ℕ) → IsReplied (pull_text version) mid last
      → WritesPulled version last.line text next → Appends before contents text
      → IsFollowed waits start first last written contents next
  followed_more text next r writes sent = record {
    replies = f.replies ++ last.line ∷ [];
    each = All-push HasNoFeed f.replies last.line f.each r.one;
    read = subst (Consumes first.to_come last.to_come)
        (stream-rest f.replies [] (last.line ++ 10 ∷ []) ∙ stream-push f.replies last.line)
        (Consumes-append _ _ _ (stream_of f.replies []) (last.line ++ 10 ∷ []) f.read r.read);
    requests = f.requests ++ pull_text version;
    asks = Run-push (Asks waits) f.replies start version next f.requests (pull_text version) last.line f.asks
        (inl (refl, (text, writes)));
    asked = Appends-append _ _ _ f.requests (pull_text version) f.asked r.asked;
    text = f.text ++ text;
    writes = Run-push (WritesReply waits) f.replies start version next f.text text last.line f.writes (inl writes);
    sent = Appends-append _ _ _ f.text text f.sent sent;
  }

  -- for the end no text is written
  pub followed_end : IsReplied (pull_text version) mid last → TellsEnd (without_return last.line) version
      → before ≡ contents → IsFollowed waits start first last written contents version
  followed_end r ended same =
      followed_more [] version r (inr (ended, refl, refl)) (subst (λ known. Appends before known []) same
      (Appends-nil before))

  -- for the reply to a wait no text is written
  pub followed_wait : waits → IsReplied (wait_text version) mid last → TellsNews version (without_return last.line)
      → IsFollowed waits start first last written before version
  followed_wait may r news = record {
    replies = f.replies ++ last.line ∷ [];
    each = All-push HasNoFeed f.replies last.line f.each r.one;
    read = subst (Consumes first.to_come last.to_come)
        (stream-rest f.replies [] (last.line ++ 10 ∷ []) ∙ stream-push f.replies last.line)
        (Consumes-append _ _ _ (stream_of f.replies []) (last.line ++ 10 ∷ []) f.read r.read);
    requests = f.requests ++ wait_text version;
    asks = Run-push (Asks waits) f.replies start version version f.requests (wait_text version) last.line f.asks
        (inr (may, refl, ([], (news, refl, refl))));
    asked = Appends-append _ _ _ f.requests (wait_text version) f.asked r.asked;
    text = f.text ++ [];
    writes = Run-push (WritesReply waits) f.replies start version version f.text [] last.line f.writes
        (inr (may, (news, refl, refl)));
    sent = Appends-append _ _ _ f.text [] f.sent (Appends-nil before);
  }

  -- what came then wasn't written
  pub halted_before : (failed : Type 0) → before ≡ contents → TakesLine mid.to_come last.to_come
      → IsHalted waits failed start first last written contents
  halted_before failed same taken = record {
    middle = mid;
    before = before;
    version = version;
    followed = f;
    taken = taken;
    wrote = inl same;
  }

  -- .. or was written in part
  pub halted_cut : (failed : Type 0) (text : List ℕ) (next : ℕ) → failed → IsReplied (pull_text version) mid last
      → WritesPulled version last.line text next
      → PutsSome before contents text → IsHalted waits failed start first last written contents
  halted_cut failed text next fails r writes cut = record {
    middle = mid;
    before = before;
    version = version;
    followed = f;
    taken = replied_takes (pull_text version) mid last r;
    wrote = inr (
      fails,
      record {
        one = r.one;
        read = r.read;
        text = text;
        next = next;
        writes = writes;
        sent = cut;
      },
    );
  }
