-- One exchange more of a relay, and where it breaks off.
use Rattle.std.proofs.Common.{◌≡◌, ◌⊎◌, ◌+◌, ◌-◌, ◌<◌, ◌≤◌, ◌∙◌, ℕ, List, [], ◌∷◌, ◌++◌, Option, None, Some, ap}
use Rattle.std.proofs.Common.{Err, Ok, Result, append-nil, arith, inl, inr, refl, slice_index_or, subst, sym}
use Rattle.std.specs.Prelude.{OnErr}
use Rattle.std.specs.Io.KnownBytes.{Appends, Consumes}
use Rattle.std.specs.List.{All, Contains}
use Rattle.std.proofs.lemmas.List.Elements.{All-push, Contains-push}
use Rattle.ps_device.proofs.DeviceLemmas.{Appends-append, Appends-nil}
use Rattle.ps_join.specs.Joins.{IsUnwaited, IsWaited, merge_text}
use Rattle.ps_join.specs.Relays.{ArePassed, AreOutside, Awaits, Brings, Course, HasAsked, HasRelayed, IsAt, IsCutAt}
use Rattle.ps_join.specs.Relays.{IsHalted, IsOnward, IsTaken, IsThrough, IsUnwritten, IsWritten, MayAskNext, Writes}
use Rattle.ps_join.specs.Relays.{Onward}
use Rattle.ps_join.specs.Relays.{Passes, RelayView, Relays, moved_to, numbers_of, seen, takes, tells, unbegun}
use Rattle.ps_join.specs.declared.bringing.Brought.{Brought}
use Rattle.ps_join.specs.declared.fault.RelayFault.{RelayFault}
use Rattle.ps_join.specs.declared.fault.RelayFault.TheVariants as faults
use Rattle.ps_lines.proofs.ReadLemmas.{Consumes-append, Consumes-nil}
use Rattle.ps_lines.proofs.StreamLemmas.{Run-push, stream-push, stream-rest}
use Rattle.ps_lines.specs.Feeding.{HasNoFeed, without_return}
use Rattle.ps_lines.specs.Streams.{TakesLine, stream_of}
use Rattle.ps_peers.proofs.AskingLemmas.{puts_all}
use Rattle.ps_peers.proofs.ExchangeLemmas.{replied_takes}
use Rattle.ps_peers.specs.Exchange.{pull_most, wait_text}
use Rattle.ps_peers.specs.Peers.{IsReplied, PeerView, PutsSome}
use Rattle.ps_peers.specs.declared.peer_pull.SyncFault.{SyncFault}

pub on_err : {A E : Type 0} (r : Result A E) (P Q : Type 0) → (P → Q) → OnErr r P → OnErr r Q
on_err (Ok a) P Q f p = tt
on_err (Err e) P Q f p = f p

-- nothing was asked yet
asked_none : (view : RelayView) → HasAsked view view unbegun
asked_none view = record {
  replies = [];
  each = λ k d lt. absurd (omega (arith, lt));
  read = Consumes-nil view.server.to_come;
  requests = [];
  run = (refl, refl);
  asked = Appends-nil view.server.asked;
  came = Consumes-nil view.to_come;
  sent = Appends-nil view.contents;
}

pub relayed : (first last : RelayView) (course : Course) → HasAsked first last course → HasRelayed first last course
relayed first last course a = record { before = course; asked = a; passes = inl refl }

pub at_start : (view : RelayView) → IsAt 0 view view
at_start view = record {
  course = unbegun;
  relayed = relayed view view unbegun (asked_none view);
  here = refl;
  passed = λ k d lt. absurd (omega (arith, lt));
}

-- a passed change is neither merged nor written
passes_merged : (old new : Course) → Passes old new → old.merged ≡ new.merged
passes_merged old new (inl p) = ap (λ course. course.merged) (sym p)
passes_merged old new (inr p) = ap (λ course. course.merged) (sym p.1)

passes_written : (old new : Course) → Passes old new → old.written ≡ new.written
passes_written old new (inl p) = ap (λ course. course.written) (sym p)
passes_written old new (inr p) = ap (λ course. course.written) (sym p.1)

module _ (first mid : RelayView) (course : Course) (r : HasRelayed first mid course) where
  -- one exchange more
  asked_more : (last : RelayView) (next : Course) (request merged written : List ℕ)
      → IsReplied request mid.server last.server
      → (Writes course last.server.line request next ⊎ IsThrough course last.server.line request next
      ⊎ Brings course last.server.line request next ⊎ Awaits course last.server.line request next)
      → Consumes mid.to_come last.to_come merged → Appends mid.contents last.contents written
      → next.merged ≡ course.merged ++ merged → next.written ≡ course.written ++ written → HasAsked first last next
  asked_more last next request merged written replied step came sent is_merged is_written = record {
    replies = r.asked.replies ++ last.server.line ∷ [];
    each = All-push HasNoFeed r.asked.replies last.server.line r.asked.each replied.one;
    read = subst (Consumes first.server.to_come last.server.to_come)
        (stream-rest r.asked.replies [] (last.server.line ++ 10 ∷ [])
        ∙ stream-push r.asked.replies last.server.line)
        (Consumes-append _ _ _ (stream_of r.asked.replies []) (last.server.line ++ 10 ∷ []) r.asked.read replied.read);
    requests = r.asked.requests ++ request;
    run = Run-push Relays r.asked.replies unbegun r.before next r.asked.requests request last.server.line r.asked.run
        (course, r.passes, step);
    asked = Appends-append _ _ _ r.asked.requests request r.asked.asked replied.asked;
    came = subst (Consumes first.to_come last.to_come) (sym is_merged)
        (Consumes-append _ _ _ course.merged merged
        (subst (Consumes first.to_come mid.to_come) (passes_merged r.before course r.passes) r.asked.came) came);
    sent = subst (Appends first.contents last.contents) (sym is_written)
        (Appends-append _ _ _ course.written written
        (subst (Appends first.contents mid.contents) (passes_written r.before course r.passes) r.asked.sent) sent);
  }

-- at one position: what is relayed up to it, and is to come there
module _ (first : RelayView) (old new : PeerView) (to_come before contents : Option (List ℕ)) (course : Course)
    (r : HasRelayed first (seen old to_come before) course) where
  -- a group, written
  asked_group : (most last : ℕ) → IsWritten course.position most old new before contents (Some last)
      → AreOutside course.numbers course.position last
      → (next : Course) × HasAsked first (seen new to_come contents) next × (next.position ≡ last)
      × (next.numbers ≡ course.numbers)
  asked_group most last h outside =
      let delta = h.1.0 in (
        tells course delta last,
        asked_more first (seen old to_come before) course r (seen new to_come contents) (tells course delta last)
            (pull_most course.position most) [] (merge_text delta) h.0
            (inl (most, delta, last, refl, h.1.1, outside, refl)) (Consumes-nil to_come) h.1.3
            (sym (append-nil course.merged)) refl,
        refl,
        refl,
      )

  -- the end
  asked_end : (most : ℕ) → IsWritten course.position most old new before contents None
      → HasAsked first (seen new to_come contents) course
  asked_end most h =
      asked_more first (seen old to_come before) course r (seen new to_come contents) course
      (pull_most course.position most) [] [] h.0 (inr (inl (most, refl, h.1, refl))) (Consumes-nil to_come)
      (subst (λ known. Appends before known []) (sym h.2) (Appends-nil before))
      (sym (append-nil course.merged)) (sym (append-nil course.written))

  -- a wait
  asked_wait : IsWaited course.position old new → HasAsked first (seen new to_come before) course
  asked_wait w =
      asked_more first (seen old to_come before) course r (seen new to_come before) course
      (wait_text course.position ++ w.0) [] [] w.2.0
      (inr (inr (inr (w.0, w.1, refl, w.2.1, refl)))) (Consumes-nil to_come) (Appends-nil before)
      (sym (append-nil course.merged)) (sym (append-nil course.written))

  -- a merge
  asked_merge : (left : Option (List ℕ)) (delta : List ℕ) (brought : Brought) → IsReplied (merge_text delta) old new
      → IsTaken course.position (without_return new.line) brought → Consumes to_come left (merge_text delta)
      → HasAsked first (seen new left before) (takes course delta (numbers_of brought))
  asked_merge left delta brought replied taken came =
      asked_more first (seen old to_come before) course r (seen new left before)
      (takes course delta (numbers_of brought)) (merge_text delta) (merge_text delta) [] replied
      (inr (inr (inl (delta, brought, refl, taken, refl)))) came (Appends-nil before) refl
      (sym (append-nil course.written))

  -- .. or where it breaks off
  halted : (fault : RelayFault) (held request : List ℕ) → MayAskNext course held request
      → PutsSome old.asked new.asked request → TakesLine old.to_come new.to_come
      → IsCutAt fault (AreOutside course.numbers course.position) course.position new before contents
      → IsHalted fault held first (seen new to_come contents)
  halted fault held request may put taken cut = record {
    middle = seen old to_come before;
    course = course;
    relayed = r;
    request = request;
    may = may;
    put = put;
    taken = taken;
    unsettled = refl;
    cut = cut;
  }

outside_one : (n first last second limit : ℕ) → (n ≤ first) ⊎ (limit < n) → first ≤ second → last ≤ limit
    → (n ≤ second) ⊎ (last < n)
outside_one n first last second limit (inl below) low high = inl (omega (arith, below, low))
outside_one n first last second limit (inr above) low high = inr (omega (arith, above, high))

-- what is outside stays so nearer to the limit
pub outside_all : (numbers : List ℕ) (first last second limit : ℕ) → AreOutside numbers first limit → first ≤ second
    → last ≤ limit → AreOutside numbers second last
outside_all numbers first last second limit outside low high = λ k d lt.
    outside_one (slice_index_or numbers k d) first last second limit (outside k d lt) low high

passed_outside : (course : Course) (limit : ℕ) → ArePassed course → AreOutside course.numbers course.position limit
passed_outside course limit passed = λ k d lt. inl (passed k d lt)

cut_within : (fault : RelayFault) (P Q : ℕ → Type 0) (position : ℕ) (server : PeerView)
    (before contents : Option (List ℕ)) → ((last : ℕ) → P last → Q last)
    → IsCutAt fault P position server before contents → IsCutAt fault Q position server before contents
cut_within faults.Output P Q position server before contents f cut =
    (cut.0, cut.1, cut.2, f cut.1 cut.3, cut.4)
cut_within (faults.Server fault) P Q position server before contents f cut = cut

module _ (position : ℕ) (numbers : List ℕ) (first : RelayView) (old new : PeerView)
    (to_come before contents : Option (List ℕ)) (o : IsOnward position numbers first (seen old to_come before)) where
  here_relayed : HasRelayed first (seen old to_come before) o.course
  here_relayed = relayed first (seen old to_come before) o.course o.asked

  -- a group more
  pub onward_group : (most last : ℕ) → IsWritten position most old new before contents (Some last)
      → AreOutside numbers position last → IsOnward last numbers first (seen new to_come contents)
  onward_group most last h outside =
      let more = asked_group first old new to_come before contents o.course here_relayed most last
      (subst (λ n. IsWritten n most old new before contents (Some last)) (sym o.here) h)
      (subst (λ n. AreOutside o.course.numbers n last) (sym o.here)
      (subst (λ ns. AreOutside ns position last) (sym o.same) outside)) in
      record { course = more.0; asked = more.1; here = more.2; same = more.3 ∙ o.same }

  -- the end, where there is to be more
  pub onward_end : (most : ℕ) (fault : SyncFault) (held : List ℕ) → IsWritten position most old new before contents None
      → IsHalted (faults.Server fault) held first (seen new to_come contents)
  onward_end most fault held h =
      halted first old new to_come before contents o.course here_relayed (faults.Server fault) held
      (pull_most o.course.position most) (inl (most, refl))
      (subst (λ n. PutsSome old.asked new.asked (pull_most n most)) (sym o.here)
      (puts_all old.asked new.asked (pull_most position most) h.0.asked))
      (replied_takes (pull_most position most) old new h.0) h.2

  -- .. or it broke off
  pub onward_cut : (fault : RelayFault) (most : ℕ) (held : List ℕ)
      → IsUnwritten fault position most old new before contents
      → AreOutside numbers position (position + most) → IsHalted fault held first (seen new to_come contents)
  onward_cut fault most held u outside =
      halted first old new to_come before contents o.course here_relayed fault held
      (pull_most o.course.position most) (inl (most, refl))
      (subst (λ n. PutsSome old.asked new.asked (pull_most n most)) (sym o.here) u.put) u.taken
      (subst (λ n. IsCutAt fault (AreOutside o.course.numbers n) n new before contents) (sym o.here)
      (subst (λ ns. IsCutAt fault (AreOutside ns position) position new before contents) (sym o.same)
      (cut_within fault (λ last. last ≤ position + most) (AreOutside numbers position) position new before contents
      (λ last high. outside_all numbers position last position (position + most) outside (omega arith) high) u.cut)))

module _ (position : ℕ) (first : RelayView) (old new : PeerView) (to_come before contents : Option (List ℕ))
    (a : IsAt position first (seen old to_come before)) where
  -- a group more
  pub at_group : (most last : ℕ) → IsWritten position most old new before contents (Some last)
      → position ≤ last → IsAt last first (seen new to_come contents)
  at_group most last h high =
      let more = asked_group first old new to_come before contents a.course a.relayed most last
      (subst (λ n. IsWritten n most old new before contents (Some last)) (sym a.here) h)
      (passed_outside a.course last a.passed) in
      record {
        course = more.0;
        relayed = relayed first (seen new to_come contents) more.0 more.1;
        here = more.2;
        passed = subst (λ ns. All (λ n. n ≤ more.0.position) ns) (sym more.3)
            (λ k d lt. omega (arith, a.passed k d lt, high, more.2, a.here));
      }

  at_same : HasAsked first (seen new to_come contents) a.course → IsAt position first (seen new to_come contents)
  at_same asked = record {
    course = a.course;
    relayed = relayed first (seen new to_come contents) a.course asked;
    here = a.here;
    passed = a.passed;
  }

  -- the end
  pub at_end : (most : ℕ) → IsWritten position most old new before contents None
      → IsAt position first (seen new to_come contents)
  at_end most h =
      at_same (asked_end first old new to_come before contents a.course a.relayed most
      (subst (λ n. IsWritten n most old new before contents None) (sym a.here) h))

  -- .. or it broke off
  pub at_cut : (fault : RelayFault) (most : ℕ) (held : List ℕ) → IsUnwritten fault position most old new before contents
      → IsHalted fault held first (seen new to_come contents)
  at_cut fault most held u =
      halted first old new to_come before contents a.course a.relayed fault held
      (pull_most a.course.position most) (inl (most, refl))
      (subst (λ n. PutsSome old.asked new.asked (pull_most n most)) (sym a.here) u.put) u.taken
      (cut_within fault (λ last. last ≤ a.course.position + most)
      (AreOutside a.course.numbers a.course.position) a.course.position new before contents
      (λ last high. passed_outside a.course last a.passed)
      (subst (λ n. IsCutAt fault (λ last. last ≤ n + most) n new before contents) (sym a.here) u.cut))

  -- where a merge broke off
  pub at_unmerged : (fault : SyncFault) (held : List ℕ) → PutsSome old.asked new.asked (merge_text held)
      → TakesLine old.to_come new.to_come → IsHalted (faults.Server fault) held first (seen new to_come before)
  at_unmerged fault held put taken =
      halted first old new to_come before before a.course a.relayed (faults.Server fault) held (merge_text held)
      (inr (inl refl)) put taken refl

  -- a wait
  pub at_wait : IsWaited position old new → IsAt position first (seen new to_come before)
  at_wait w = record {
    course = a.course;
    relayed = relayed first (seen new to_come before) a.course
        (asked_wait first old new to_come before before a.course a.relayed
        (subst (λ n. IsWaited n old new) (sym a.here) w));
    here = a.here;
    passed = a.passed;
  }

  -- .. that broke off
  pub at_unwaited : (fault : SyncFault) (held : List ℕ) → IsUnwaited position old new
      → IsHalted (faults.Server fault) held first (seen new to_come before)
  at_unwaited fault held u =
      halted first old new to_come before before a.course a.relayed (faults.Server fault) held
      (wait_text a.course.position ++ u.0) (inr (inr (u.0, u.1, refl)))
      (subst (λ n. PutsSome old.asked new.asked (wait_text n ++ u.0)) (sym a.here) u.2.0) u.2.1 refl

-- a delta that came in and had its reply
module _ (position : ℕ) (first : RelayView) (old mid : PeerView) (to_come left before : Option (List ℕ))
    (a : IsAt position first (seen old to_come before)) (delta : List ℕ) (brought : Brought)
    (replied : IsReplied (merge_text delta) old mid)
    (taken : IsTaken position (without_return mid.line) brought)
    (came : Consumes to_come left (merge_text delta)) where
  abbrev with_it : Course
  with_it = takes a.course delta (numbers_of brought)

  asked_it : HasAsked first (seen mid left before) with_it
  asked_it =
      asked_merge first old mid to_come before before a.course a.relayed left delta brought replied
      (subst (λ n. IsTaken n (without_return mid.line) brought) (sym a.here) taken) came

  -- what follows where nothing that came in lies up to a limit
  pub taken_then : (limit : ℕ) (Then : RelayView → Option (List ℕ) → Course → Type 0)
      → AreOutside (a.course.numbers ++ numbers_of brought) position limit → Onward position limit mid before Then
      → Then first left (takes a.course delta (numbers_of brought))
  taken_then limit Then outside onward = onward first left with_it asked_it a.here outside

  same_numbers : numbers_of brought ≡ [] → a.course.numbers ++ numbers_of brought ≡ a.course.numbers
  same_numbers none = ap (λ ns. a.course.numbers ++ ns) none ∙ append-nil a.course.numbers

  -- it became no change
  pub at_known : numbers_of brought ≡ [] → IsAt position first (seen mid left before)
  at_known none = record {
    course = with_it;
    relayed = relayed first (seen mid left before) with_it asked_it;
    here = a.here;
    passed = subst (λ ns. All (λ n. n ≤ a.course.position) ns) (sym (same_numbers none)) a.passed;
  }

  pub outside_known : (limit : ℕ) → numbers_of brought ≡ []
      → AreOutside (a.course.numbers ++ numbers_of brought) position limit
  outside_known limit none =
      subst (λ ns. AreOutside ns position limit) (sym (same_numbers none))
      (subst (λ n. AreOutside a.course.numbers n limit) a.here (passed_outside a.course limit a.passed))

  -- .. and what others changed was written
  pub at_further : (number : ℕ) (new : PeerView) (contents : Option (List ℕ)) → numbers_of brought ≡ []
      → position ≤ number
      → IsOnward number (a.course.numbers ++ numbers_of brought) first (seen new left contents)
      → IsAt number first (seen new left contents)
  at_further number new contents none high o = record {
    course = o.course;
    relayed = relayed first (seen new left contents) o.course o.asked;
    here = o.here;
    passed = subst (λ ns. All (λ n. n ≤ o.course.position) ns) (sym (o.same ∙ same_numbers none))
        (λ k d lt. omega (arith, a.passed k d lt, a.here, high, o.here));
  }

-- it became the change of this number
module _ (position number : ℕ) (first : RelayView) (view : RelayView) (a : IsAt position first view)
    (above : position < number) where
  pub outside_anew : AreOutside (a.course.numbers ++ number ∷ []) position (number - 1)
  outside_anew =
      All-push (λ n. (n ≤ position) ⊎ (number - 1 < n)) a.course.numbers number
      (subst (λ n. AreOutside a.course.numbers n (number - 1)) a.here
      (passed_outside a.course (number - 1) a.passed)) (inr (omega (arith, above)))

  pub at_anew : (last : RelayView) → IsOnward (number - 1) (a.course.numbers ++ number ∷ []) first last
      → IsAt number first last
  at_anew last o =
      let next : o.course.position + 1 ≡ number = omega (arith, o.here, above) in
      record {
        course = moved_to o.course (o.course.position + 1);
        relayed = record {
          before = o.course;
          asked = o.asked;
          passes = inr (
            subst (λ ns. Contains ns (o.course.position + 1)) (sym o.same)
                (subst (Contains (a.course.numbers ++ number ∷ [])) (sym next)
                (Contains-push a.course.numbers number)),
            refl,
          );
        };
        here = next;
        passed = subst (λ ns. All (λ n. n ≤ o.course.position + 1) ns) (sym o.same)
            (All-push (λ n. n ≤ o.course.position + 1) a.course.numbers number
            (λ k d lt. omega (arith, a.passed k d lt, a.here, above, next)) (omega (arith, next)));
      }

-- where nothing failed, it was flushed
pub flushed_calm : (old new : ℕ) (P : Type 0) → P ⊎ (old < new) → new ≡ old → P
flushed_calm old new P (inl p) calm = p
flushed_calm old new P (inr rises) calm = absurd (omega (arith, rises, calm))
