-- What a refused key opens, that a whole head is answered at once, and pieces that are read one after another.
use Rattle.std.proofs.Common.{◌≡◌, ℕ, List, [], ◌++◌, length, take, drop, Option, Result, Ok, Err, refl, sym, ap, ◌∙◌}
use Rattle.std.proofs.Common.{subst, inl, inr}
use Rattle.std.proofs.Math.Seq.{drop-length}
use Rattle.std.specs.Io.KnownBytes.{Consumes}
use Rattle.tungstenite.proofs.SocketLemmas.{consumes-chain}
use Rattle.httparse.specs.Grammar.{ReadsRequest}
use Rattle.httparse.specs.Spans.{IsRequestOf, span_bytes}
use Rattle.httparse.specs.declared.spans.HeaderSpan.{HeaderSpan}
use Rattle.httparse.specs.declared.spans.RequestSpans.{RequestSpans}
use Rattle.websocket.specs.Handshake.{Answers as AnswersKey}
use Rattle.websocket.specs.Headers.{fields_of}
use Rattle.websocket.specs.declared.handshake.failure.HandshakeError.{HandshakeError}
use Rattle.ps_page.specs.Heads.{Answers, AnswersBytes, AnswersHead, Follows, Opens, Verdict, about, live}
use Rattle.ps_page.specs.Heads.{news, page, refusal}
use Rattle.ps_page.specs.declared.head.Answer.{Answer}
use Rattle.ps_page.specs.declared.head.Refused.TheVariants.{BadRequest}

pub refused_opens : (opened : List ℕ → Answer) (r : Result (List ℕ) HandshakeError) (e : HandshakeError)
    → AnswersKey (Err e) r → Opens opened r (Answer.Refuse BadRequest)
refused_opens opened (Ok key) e a = inr (a.0, refl)
refused_opens opened (Err x) e a = refl

never_more : (v : Verdict) (key : Result (List ℕ) HandshakeError) → ¬ (Follows v key Answer.More)
never_more page key e = cc
never_more about key e = cc
never_more live (Ok key) (inl o) = cc
never_more live (Ok key) (inr o) = cc
never_more live (Err x) e = cc
never_more news (Ok key) (inl o) = cc
never_more news (Ok key) (inr o) = cc
never_more news (Err x) e = cc
never_more (refusal r) key e = cc

-- no head that is whole is answered as if it were half
answered : (buf : List ℕ) (answer : Answer) → Answers buf answer → AnswersBytes buf answer
answered buf Answer.More a = absurd (never_more _ _ a.2)
answered buf Answer.Page a = inl a
answered buf Answer.About a = inl a
answered buf (Answer.Live key) a = inl a
answered buf (Answer.News key) a = inl a
answered buf (Answer.Refuse r) a = inl a

-- the answer to the spans of a whole head is the answer to its bytes
pub whole_answered : (buf : List ℕ) (headers : List HeaderSpan) (r : RequestSpans) (answer : Answer)
    → IsRequestOf buf headers r → r.len ≡ length buf
    → AnswersHead (span_bytes buf r.method) r.version (span_bytes buf r.path)
    (fields_of buf (take r.headers headers)) answer
    → AnswersBytes buf answer
whole_answered buf headers r answer is whole a =
    let reads : ReadsRequest buf is.0 []
    = subst (λ rest. ReadsRequest buf is.0 rest) (ap (λ n. drop n buf) whole ∙ drop-length buf) is.1.reads in
    let method = subst (λ m. AnswersHead m r.version (span_bytes buf r.path)
    (fields_of buf (take r.headers headers)) answer) is.1.method a in
    let version = subst (λ v. AnswersHead is.0.method v (span_bytes buf r.path)
    (fields_of buf (take r.headers headers)) answer) is.1.version method in
    let path = subst (λ p. AnswersHead is.0.method is.0.minor p
    (fields_of buf (take r.headers headers)) answer) is.1.path version in
    let fields = subst (λ fs. AnswersHead is.0.method is.0.minor is.0.target fs answer) is.1.fields path in
    answered buf answer (is.0, reads, fields)

-- a piece after those that were read
pub read_further : (old mid new : Option (List ℕ)) (head piece items : List ℕ) → Consumes old mid head
    → Consumes mid new piece → items ≡ head ++ piece → Consumes old new items
read_further old mid new head piece items first second e =
    subst (λ bs. Consumes old new bs) (sym e) (consumes-chain old mid new head piece first second)
