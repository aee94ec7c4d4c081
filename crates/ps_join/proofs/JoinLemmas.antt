-- One exchange more of a join, and where it breaks off.
use Rattle.std.proofs.Common.{◌≡◌, ◌+◌, ◌<◌, ◌≤◌, ℕ, Bool, true, false, List, [], ◌∷◌, ◌++◌, ◌∙◌, ap, append-nil, arith}
use Rattle.std.proofs.Common.{Err, Ok, Result, inl, inr, length, refl, subst, sym}
use Rattle.std.specs.Prelude.{IfErr, OnOk}
use Rattle.std.specs.Io.KnownBytes.{Appends, Consumes}
use Rattle.std.proofs.lemmas.List.Elements.{All-push}
use Rattle.ps_device.proofs.DeviceLemmas.{Appends-append, Appends-nil}
use Rattle.ps_join.specs.declared.carrying.Positions.{Positions}
use Rattle.ps_join.specs.declared.fault.End.{End}
use Rattle.ps_join.specs.declared.fault.End.TheVariants as ends
use Rattle.ps_join.specs.Joins.{AreUnended, AreUnwaited, EndsWait, Exchanges, HasTalked, IsBeside, IsBothWays}
use Rattle.ps_join.specs.Joins.{IsCarried, IsEnded, IsIdle, IsJoined, IsJoining, IsMerged, IsReached, IsStopped}
use Rattle.ps_join.specs.Joins.{IsUnended, IsUnwaited, IsWaited, Later, MayAsk, Side, ended, fresh, gave, merge_text}
use Rattle.ps_join.specs.Joins.{took, turned_end}
use Rattle.ps_lines.proofs.ReadLemmas.{Consumes-append, Consumes-nil}
use Rattle.ps_lines.proofs.StreamLemmas.{Run-push, stream-push, stream-rest}
use Rattle.ps_lines.specs.Feeding.{HasNoFeed, without_return}
use Rattle.ps_lines.specs.Streams.{TakesLine, stream_of}
use Rattle.ps_peers.proofs.AskingLemmas.{puts_after}
use Rattle.ps_peers.proofs.ExchangeLemmas.{takes_none}
use Rattle.ps_peers.specs.Exchange.{IsGroup, TellsEnd, TellsNews, pull_text, wait_text}
use Rattle.ps_peers.specs.Peers.{IsPut, IsReplied, PeerView, PutsSome}

-- nothing was exchanged yet
pub talked_none : (waits : Bool) (peer : PeerView) → HasTalked waits peer peer fresh
talked_none waits peer = record {
  replies = [];
  each = λ k d lt. absurd (omega (arith, lt));
  read = Consumes-nil peer.to_come;
  requests = [];
  run = (refl, refl);
  asked = Appends-nil peer.asked;
}

pub joining_none : (waits : Bool) (from to : PeerView) → IsJoining waits from from to to fresh fresh
joining_none waits from to = record {
  from_talked = talked_none waits from;
  to_talked = talked_none waits to;
  there = refl;
  back = refl;
}

-- one exchange more
pub talked_more : (waits : Bool) (first mid last : PeerView) (side new : Side) (request : List ℕ)
    → HasTalked waits first mid side → IsReplied request mid last → Exchanges waits side last.line request new
    → HasTalked waits first last new
talked_more waits first mid last side new request t r exchange = record {
  replies = t.replies ++ last.line ∷ [];
  each = All-push HasNoFeed t.replies last.line t.each r.one;
  read = subst (Consumes first.to_come last.to_come)
      (stream-rest t.replies [] (last.line ++ 10 ∷ []) ∙ stream-push t.replies last.line)
      (Consumes-append _ _ _ (stream_of t.replies []) (last.line ++ 10 ∷ []) t.read r.read);
  requests = t.requests ++ request;
  run = Run-push (Exchanges waits) t.replies fresh side new t.requests request last.line t.run exchange;
  asked = Appends-append _ _ _ t.requests request t.asked r.asked;
}

-- the same from the other end
pub joining_turned : (waits : Bool) (from0 from1 to0 to1 : PeerView) (from to : Side)
    → IsJoining waits from0 from1 to0 to1 from to → IsJoining waits to0 to1 from0 from1 to from
joining_turned waits from0 from1 to0 to1 from to j = record {
  from_talked = j.to_talked;
  to_talked = j.from_talked;
  there = j.back;
  back = j.there;
}

swap : (a b : List (List ℕ)) → length a + length b ≤ 1 → length b + length a ≤ 1
swap a b one = omega (arith, one)

pub stopped_turned : (waits : Bool) (end : End) (from0 from1 to0 to1 : PeerView)
    → IsStopped waits end from0 from1 to0 to1 → IsStopped waits (turned_end end) to0 to1 from0 from1
stopped_turned waits ends.From from0 from1 to0 to1 s = record {
  from_middle = s.to_middle;
  to_middle = s.from_middle;
  from = s.to;
  to = s.from;
  from_talked = s.to_talked;
  to_talked = s.from_talked;
  ahead = s.behind;
  behind = s.ahead;
  there = s.back;
  back = s.there;
  one = swap s.ahead s.behind s.one;
  broken = s.broken;
}
stopped_turned waits ends.To from0 from1 to0 to1 s = record {
  from_middle = s.to_middle;
  to_middle = s.from_middle;
  from = s.to;
  to = s.from;
  from_talked = s.to_talked;
  to_talked = s.from_talked;
  ahead = s.behind;
  behind = s.ahead;
  there = s.back;
  back = s.there;
  one = swap s.ahead s.behind s.one;
  broken = s.broken;
}

module _ (waits : Bool) (from0 from1 from2 to0 to1 : PeerView) (from to : Side)
    (j : IsJoining waits from0 from1 to0 to1 from to) where
  -- a group that was carried
  pub joining_group : (to2 : PeerView) (delta : List ℕ) (last next : ℕ)
      → IsReplied (pull_text from.position) from1 from2
      → IsGroup from.position (without_return from2.line) last delta → IsReplied (merge_text delta) to1 to2
      → IsMerged to.position (without_return to2.line) next
      → IsJoining waits from0 from2 to0 to2 (gave from delta last) (took to delta next)
  joining_group to2 delta last next pulled group merged is_merged = record {
    from_talked = talked_more waits from0 from1 from2 from (gave from delta last) (pull_text from.position)
        j.from_talked pulled (inl (delta, last, refl, group, refl));
    to_talked = talked_more waits to0 to1 to2 to (took to delta next) (merge_text delta) j.to_talked merged
        (inr (inr (inl (delta, next, refl, is_merged, refl))));
    there = ap (λ deltas. deltas ++ delta ∷ []) j.there;
    back = j.back;
  }

  -- the end of what one has
  pub joining_end : IsReplied (pull_text from.position) from1 from2
      → TellsEnd (without_return from2.line) from.position
      → IsJoining waits from0 from2 to0 to1 (ended from) to
  joining_end pulled is_end = record {
    from_talked = talked_more waits from0 from1 from2 from (ended from) (pull_text from.position) j.from_talked pulled
        (inr (inl (refl, is_end, refl)));
    to_talked = j.to_talked;
    there = j.there;
    back = j.back;
  }

  -- a wait
  pub joining_wait : waits ≡ true → IsWaited from.position from1 from2 → IsJoining waits from0 from2 to0 to1 from to
  joining_wait may w = record {
    from_talked = talked_more waits from0 from1 from2 from from (wait_text from.position ++ w.0) j.from_talked w.2.0
        (inr (inr (inr (may, (w.0, w.1, refl, w.2.1, refl)))));
    to_talked = j.to_talked;
    there = j.there;
    back = j.back;
  }

  -- where the one breaks off, with nothing in hand
  pub stopped_before : (to2 : PeerView) (request : List ℕ) → MayAsk waits from [] request
      → PutsSome from1.asked from2.asked request → TakesLine from1.to_come from2.to_come → IsIdle waits to to1 to2
      → IsStopped waits ends.From from0 from2 to0 to2
  stopped_before to2 request may put taken idle = record {
    from_middle = from1;
    to_middle = to1;
    from = from;
    to = to;
    from_talked = j.from_talked;
    to_talked = j.to_talked;
    ahead = [];
    behind = [];
    there = sym j.there ∙ sym (append-nil to.merged);
    back = sym j.back ∙ sym (append-nil from.merged);
    one = omega arith;
    broken = (record { request = request; may = may; put = put; taken = taken }, idle);
  }

  -- .. where the other one breaks off, with a group in hand
  pub stopped_group : (to2 : PeerView) (delta : List ℕ) (last : ℕ) → IsReplied (pull_text from.position) from1 from2
      → IsGroup from.position (without_return from2.line) last delta
      → PutsSome to1.asked to2.asked (merge_text delta) → TakesLine to1.to_come to2.to_come
      → IsStopped waits ends.To from0 from2 to0 to2
  stopped_group to2 delta last pulled group put taken = record {
    from_middle = from2;
    to_middle = to1;
    from = gave from delta last;
    to = to;
    from_talked = talked_more waits from0 from1 from2 from (gave from delta last) (pull_text from.position)
        j.from_talked pulled (inl (delta, last, refl, group, refl));
    to_talked = j.to_talked;
    ahead = delta ∷ [];
    behind = [];
    there = ap (λ deltas. deltas ++ delta ∷ []) (sym j.there);
    back = sym j.back ∙ sym (append-nil from.merged);
    one = omega arith;
    broken = (
      record {
        request = merge_text delta;
        may = inr (inl (delta, refl, refl));
        put = put;
        taken = taken;
      },
      inl refl,
    );
  }

-- where the one breaks off while both are asked to wait
pub stopped_wait : (waits : Bool) (from0 from1 from2 to0 to1 to2 : PeerView) (from to : Side) → waits ≡ true
    → IsJoining waits from0 from1 to0 to1 from to → IsUnwaited from.position from1 from2
    → IsBeside to.position to1 to2 → IsStopped waits ends.From from0 from2 to0 to2
stopped_wait waits from0 from1 from2 to0 to1 to2 from to may j u (inl same) =
    stopped_before waits from0 from1 from2 to0 to1 from to j to2 (wait_text from.position ++ u.0)
    (inr (inr (may, (u.0, u.1, refl)))) u.2.0 u.2.1 (inl same)
stopped_wait waits from0 from1 from2 to0 to1 to2 from to may j u (inr (inl put)) =
    stopped_before waits from0 from1 from2 to0 to1 from to j to2 (wait_text from.position ++ u.0)
    (inr (inr (may, (u.0, u.1, refl)))) u.2.0 u.2.1 (inr (may, put))
stopped_wait waits from0 from1 from2 to0 to1 to2 from to may j u (inr (inr waited)) =
    stopped_before waits from0 from1 from2 to0 to2 from to
    (joining_turned waits to0 to2 from0 from1 to from (joining_wait waits to0 to1 to2 from0 from1 to from
    (joining_turned waits from0 from1 to0 to1 from to j) may waited)) to2 (wait_text from.position ++ u.0)
    (inr (inr (may, (u.0, u.1, refl)))) u.2.0 u.2.1 (inl refl)

-- .. or either one
pub stopped_waits : (waits : Bool) (at : Positions) (end : End) (from0 from1 from2 to0 to1 to2 : PeerView)
    (from to : Side) → waits ≡ true → IsJoining waits from0 from1 to0 to1 from to → from.position ≡ at.from
    → to.position ≡ at.to → AreUnwaited end at from1 from2 to1 to2 → IsStopped waits end from0 from2 to0 to2
stopped_waits waits at ends.From from0 from1 from2 to0 to1 to2 from to may j from_at to_at u =
    stopped_wait waits from0 from1 from2 to0 to1 to2 from to may j
    (subst (λ p. IsUnwaited p from1 from2) (sym from_at) u.0) (subst (λ p. IsBeside p to1 to2) (sym to_at) u.1)
stopped_waits waits at ends.To from0 from1 from2 to0 to1 to2 from to may j from_at to_at u =
    stopped_turned waits ends.From to0 to2 from0 from2
    (stopped_wait waits to0 to1 to2 from0 from1 from2 to from may (joining_turned waits from0 from1 to0 to1 from to j)
    (subst (λ p. IsUnwaited p to1 to2) (sym to_at) u.0) (subst (λ p. IsBeside p from1 from2) (sym from_at) u.1))

-- both waited
pub joining_waits : (waits : Bool) (from0 from1 from2 to0 to1 to2 : PeerView) (from to : Side) (from_at to_at : ℕ)
    → waits ≡ true → IsJoining waits from0 from1 to0 to1 from to → from.position ≡ from_at → to.position ≡ to_at
    → IsWaited from_at from1 from2 → IsWaited to_at to1 to2 → IsJoining waits from0 from2 to0 to2 from to
joining_waits waits from0 from1 from2 to0 to1 to2 from to from_at to_at may j p q first second =
    joining_turned waits to0 to2 from0 from2 to from (joining_wait waits to0 to1 to2 from0 from2 to from
    (joining_turned waits from0 from2 to0 to1 from to (joining_wait waits from0 from1 from2 to0 to1 from to j may
    (subst (λ n. IsWaited n from1 from2) (sym p) first))) may (subst (λ n. IsWaited n to1 to2) (sym q) second))

-- what was put before, and then the reply
pub put_ended : (position : ℕ) (more : List ℕ) (old mid new : PeerView) → EndsWait more
    → IsPut (wait_text position) old mid → IsEnded more position mid new → IsWaited position old new
put_ended position more old mid new stop p e = (
  more,
  stop,
  (
    record {
      asked = Appends-append _ _ _ (wait_text position) more p.asked e.0.asked;
      one = e.0.one;
      read = subst (λ known. Consumes known new.to_come (new.line ++ 10 ∷ [])) p.unread e.0.read;
      calm = e.0.calm ∙ p.calm;
      falls = subst (λ n. new.left < n) p.left e.0.falls;
    },
    e.1,
  ),
)

-- .. or none
pub put_unended : (position : ℕ) (more : List ℕ) (old mid new : PeerView) → EndsWait more
    → IsPut (wait_text position) old mid → IsUnended more mid new → IsUnwaited position old new
put_unended position more old mid new stop p u = (
  more,
  stop,
  (
    puts_after _ _ _ (wait_text position) more p.asked u.0,
    subst (λ known. TakesLine known new.to_come) p.unread u.1,
  ),
)

-- .. or it couldn't be put whole
pub put_cut : (position : ℕ) (old new : PeerView) → PutsSome old.asked new.asked (wait_text position)
    → new.to_come ≡ old.to_come → IsUnwaited position old new
put_cut position old new put unread = (
  [],
  inl refl,
  (
    subst (PutsSome old.asked new.asked) (sym (append-nil (wait_text position))) put,
    takes_none old.to_come new.to_come (sym unread),
  ),
)

pub puts_unended : (end : End) (at : Positions) (from0 from1 from2 to0 to1 to2 : PeerView)
    → IsPut (wait_text at.from) from0 from1 → IsPut (wait_text at.to) to0 to1
    → AreUnended end at from1 from2 to1 to2 → AreUnwaited end at from0 from2 to0 to2
puts_unended ends.From at from0 from1 from2 to0 to1 to2 first second u = (
  put_unended at.from [] from0 from1 from2 (inl refl) first u.0,
  inr (inl (subst (IsPut (wait_text at.to) to0) (sym u.1) second)),
)
puts_unended ends.To at from0 from1 from2 to0 to1 to2 first second u = (
  put_unended at.to (10 ∷ []) to0 to1 to2 (inr refl) second u.0,
  inr (inr (put_ended at.from [] from0 from1 from2 (inl refl) first u.1)),
)

-- .. from the other end
pub unwaited_turned : (end : End) (at turned : Positions) (from0 from1 to0 to1 : PeerView)
    → turned.from ≡ at.to → turned.to ≡ at.from → AreUnwaited end turned to0 to1 from0 from1
    → AreUnwaited (turned_end end) at from0 from1 to0 to1
unwaited_turned ends.From at turned from0 from1 to0 to1 p q u =
    (subst (λ n. IsUnwaited n to0 to1) p u.0, subst (λ n. IsBeside n from0 from1) q u.1)
unwaited_turned ends.To at turned from0 from1 to0 to1 p q u =
    (subst (λ n. IsUnwaited n from0 from1) q u.0, subst (λ n. IsBeside n to0 to1) p u.1)

-- what holds of a result
pub on_ok : {A E : Type 0} (r : Result A E) (P Q : Type 0) → (P → Q) → OnOk r P → OnOk r Q
on_ok (Ok a) P Q f p = f p
on_ok (Err e) P Q f p = tt

pub if_err : {A E : Type 0} (r : Result A E) (P Q : E → Type 0) → ((e : E) → P e → Q e) → IfErr r P → IfErr r Q
if_err (Ok a) P Q f p = tt
if_err (Err e) P Q f p = f e p

module _ (waits whole : Bool) (at : Positions) (from0 from1 from2 to0 to1 to2 : PeerView)
    (r : IsReached waits whole at from0 from1 to0 to1) where
  -- a group more
  pub reached_group : (next : Positions) (delta : List ℕ) → IsReplied (pull_text at.from) from1 from2
      → IsGroup at.from (without_return from2.line) next.from delta → IsReplied (merge_text delta) to1 to2
      → IsMerged at.to (without_return to2.line) next.to → IsReached waits whole next from0 from2 to0 to2
  reached_group next delta pulled group merged is_merged = record {
    from = gave r.from delta next.from;
    to = took r.to delta next.to;
    joining = joining_group waits from0 from1 from2 to0 to1 r.from r.to r.joining to2 delta next.from next.to
        (subst (λ p. IsReplied (pull_text p) from1 from2) (sym r.from_at) pulled)
        (subst (λ p. IsGroup p (without_return from2.line) next.from delta) (sym r.from_at) group) merged
        (subst (λ p. IsMerged p (without_return to2.line) next.to) (sym r.to_at) is_merged);
    from_at = refl;
    to_at = refl;
    kept = r.kept;
  }

  -- the end
  pub carried_end : IsReplied (pull_text at.from) from1 from2 → TellsEnd (without_return from2.line) at.from
      → IsCarried waits whole at from0 from2 to0 to1
  carried_end pulled is_end = record {
    reached = record {
      from = ended r.from;
      to = r.to;
      joining = joining_end waits from0 from1 from2 to0 to1 r.from r.to r.joining
          (subst (λ p. IsReplied (pull_text p) from1 from2) (sym r.from_at) pulled)
          (subst (λ p. TellsEnd (without_return from2.line) p) (sym r.from_at) is_end);
      from_at = r.from_at;
      to_at = r.to_at;
      kept = r.kept;
    };
    from_whole = refl;
  }

  -- the one that returns breaks off
  pub reached_broken : PutsSome from1.asked from2.asked (pull_text at.from)
      → TakesLine from1.to_come from2.to_come → IsStopped waits ends.From from0 from2 to0 to1
  reached_broken put taken =
      stopped_before waits from0 from1 from2 to0 to1 r.from r.to r.joining to1 (pull_text r.from.position)
      (inl refl) (subst (λ p. PutsSome from1.asked from2.asked (pull_text p)) (sym r.from_at) put) taken (inl refl)

  -- the one that merges breaks off
  pub reached_cut : (delta : List ℕ) (last : ℕ) → IsReplied (pull_text at.from) from1 from2
      → IsGroup at.from (without_return from2.line) last delta
      → PutsSome to1.asked to2.asked (merge_text delta) → TakesLine to1.to_come to2.to_come
      → IsStopped waits ends.To from0 from2 to0 to2
  reached_cut delta last pulled group put taken =
      stopped_group waits from0 from1 from2 to0 to1 r.from r.to r.joining to2 delta last
      (subst (λ p. IsReplied (pull_text p) from1 from2) (sym r.from_at) pulled)
      (subst (λ p. IsGroup p (without_return from2.line) last delta) (sym r.from_at) group) put taken

-- carried there and back
pub carried_both : (start there turned back at : Positions) (from1 from2 from3 to1 to2 to3 : PeerView)
    → Later start from1 to1 (λ waits whole from0 to0. IsCarried waits whole there from0 from2 to0 to2)
    → turned.from ≡ there.to → turned.to ≡ there.from
    → Later turned to2 from2 (λ waits whole to0 from0. IsCarried waits whole back to0 to3 from0 from3)
    → at.from ≡ back.to → at.to ≡ back.from
    → Later start from1 to1 (λ waits whole from0 to0. IsBothWays waits at from0 from3 to0 to3)
carried_both start there turned back at from1 from2 from3 to1 to2 to3 first p q second r s waits from0 to0 from to j
    from_at to_at =
    let one = first waits from0 to0 from to j from_at to_at in
    let two = second waits to0 from0 one.reached.to one.reached.from (joining_turned waits from0 from2 to0 to2
    one.reached.from one.reached.to one.reached.joining) (one.reached.to_at ∙ sym p) (one.reached.from_at ∙ sym q) in
    record {
      from = two.reached.to;
      to = two.reached.from;
      joining = joining_turned waits to0 to3 from0 from3 two.reached.from two.reached.to two.reached.joining;
      from_at = two.reached.to_at ∙ sym r;
      to_at = two.reached.from_at ∙ sym s;
      from_whole = two.reached.kept ∙ one.from_whole;
      to_whole = two.from_whole;
    }

-- .. or broken off on the way back
pub stopped_back : (end : End) (start there turned : Positions) (from1 from2 from3 to1 to2 to3 : PeerView)
    → Later start from1 to1 (λ waits whole from0 to0. IsCarried waits whole there from0 from2 to0 to2)
    → turned.from ≡ there.to → turned.to ≡ there.from
    → Later turned to2 from2 (λ waits whole to0 from0. IsStopped waits end to0 to3 from0 from3)
    → Later start from1 to1 (λ waits whole from0 to0. IsStopped waits (turned_end end) from0 from3 to0 to3)
stopped_back end start there turned from1 from2 from3 to1 to2 to3 first p q second waits from0 to0 from to j
    from_at to_at =
    let one = first waits from0 to0 from to j from_at to_at in
    stopped_turned waits end to0 to3 from0 from3 (second waits to0 from0 one.reached.to one.reached.from
    (joining_turned waits from0 from2 to0 to2 one.reached.from one.reached.to one.reached.joining)
    (one.reached.to_at ∙ sym p) (one.reached.from_at ∙ sym q))

pub joined_once : (at : Positions) (from0 from1 to0 to1 : PeerView) → IsBothWays false at from0 from1 to0 to1
    → TellsEnd (without_return to1.line) at.to → IsJoined from0 from1 to0 to1
joined_once at from0 from1 to0 to1 b last = record {
  from = b.from;
  to = b.to;
  joining = b.joining;
  from_whole = b.from_whole;
  to_whole = b.to_whole;
  last = subst (TellsEnd (without_return to1.line)) (sym b.to_at) last;
}
