-- One more group that a peer returns, and what the peer was asked for.
use Rattle.std.proofs.Common.{◌≡◌, ◌∙◌, ℕ, List, [], ◌∷◌, ◌++◌, ap, arith, refl, subst, sym}
use Rattle.std.specs.Io.KnownBytes.{Consumes}
use Rattle.std.proofs.lemmas.List.Elements.{All-nil, All-push}
use Rattle.ps_device.proofs.DeviceLemmas.{Appends-append, Appends-nil}
use Rattle.ps_delta.specs.State.{State, empty_state, joined_state}
use Rattle.ps_delta.specs.Deltas.{Entries, state_of}
use Rattle.ps_delta.proofs.HistoryLemmas.{joined_history-nil, joined_history-push}
use Rattle.ps_wire.specs.Line.{IsLine}
use Rattle.ps_lines.specs.Feeding.{HasNoFeed, without_return}
use Rattle.ps_lines.specs.Streams.{TakesLine, stream_of}
use Rattle.ps_lines.proofs.StreamLemmas.{Run-push, stream-push, stream-rest}
use Rattle.ps_lines.proofs.ReadLemmas.{Consumes-append, Consumes-nil}
use Rattle.ps_peers.specs.Exchange.{IsGroup, pull_text}
use Rattle.ps_peers.specs.Peers.{IsReplied, PeerView, PutsSome}
use Rattle.ps_peers.proofs.ExchangeLemmas.{takes_none}
use Rattle.ps_step.specs.Steps.{Gives, HasGiven, WasAsked, nothing}

-- nothing was asked yet
pub given_none : (peer : PeerView) (state : State) → state ≡ empty_state → HasGiven peer peer 0 state
given_none peer state is = record {
  replies = [];
  each = All-nil HasNoFeed;
  read = Consumes-nil peer.to_come;
  requests = [];
  deltas = [];
  run = (refl, refl);
  asked = Appends-nil peer.asked;
  joined = is ∙ sym joined_history-nil;
}

module _ (first mid last : PeerView) (version : ℕ) (state : State) (given : HasGiven first mid version state) where
  -- one more group, whose line is a delta
  pub given_more : (new : State) (text : List ℕ) (delta : Entries) (next : ℕ) → IsReplied (pull_text version) mid last
      → IsGroup version (without_return last.line) next text → IsLine text delta
      → new ≡ joined_state state (state_of delta) → HasGiven first last next new
  given_more new text delta next r group line is = record {
    replies = given.replies ++ last.line ∷ [];
    each = All-push HasNoFeed given.replies last.line given.each r.one;
    read = subst (Consumes first.to_come last.to_come)
        (stream-rest given.replies [] (last.line ++ 10 ∷ []) ∙ stream-push given.replies last.line)
        (Consumes-append _ _ _ (stream_of given.replies []) (last.line ++ 10 ∷ []) given.read r.read);
    requests = given.requests ++ pull_text version;
    deltas = given.deltas ++ delta ∷ [];
    run = Run-push Gives given.replies nothing (record { version = version; deltas = given.deltas })
        (record { version = next; deltas = given.deltas ++ delta ∷ [] }) given.requests (pull_text version) last.line
        given.run (text, delta, next, refl, group, line, refl);
    asked = Appends-append _ _ _ given.requests (pull_text version) given.asked r.asked;
    joined = is ∙ ap (λ s. joined_state s (state_of delta)) given.joined ∙ sym (joined_history-push given.deltas delta);
  }

  -- whatever the outcome of one more pull
  pub was_asked : PutsSome mid.asked last.asked (pull_text version) → TakesLine mid.to_come last.to_come
      → WasAsked first last
  was_asked put taken = record {
    middle = mid;
    version = version;
    state = state;
    given = given;
    put = put;
    taken = taken;
  }

pub asked_nothing : (peer : PeerView) → WasAsked peer peer
asked_nothing peer =
    was_asked peer peer peer 0 empty_state (given_none peer empty_state refl)
    (0, omega arith, Appends-nil peer.asked) (takes_none peer.to_come peer.to_come refl)
