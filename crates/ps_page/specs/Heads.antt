-- The answer to the head of a request.
use Rattle.std.specs.Prelude.{◌≡◌, ◌≢◌, ◌==◌, ◌⊎◌, ◌<◌, ◌≤◌, ℕ, Bool, false, cond, not, ◌||◌, ◌&&◌, nat_lt, take}
use Rattle.std.specs.Prelude.{drop, List, [], ◌∷◌, map, length, codes, bytes_eq, Option, None, Some, Result, true}
use Rattle.std.specs.Prelude.{Ok, Err}
use Rattle.std.specs.Char.{is_ascii_digit}
use Rattle.std.specs.Io.KnownBytes.{Consumes}
use Rattle.std.specs.List.{list_all}
use Rattle.httparse.specs.Grammar.{RequestHead, ReadsRequest, HasNoRequest, MayBecomeRequest}
use Rattle.httparse.specs.Spans.{name_and_value}
use Rattle.websocket.specs.Headers.{Fields, eq_ignore_case}
use Rattle.websocket.specs.Handshake.{requested_key, IsValidKey, accept_key_of}
use Rattle.websocket.specs.declared.handshake.failure.HandshakeError.{HandshakeError}
use Rattle.ps_page.specs.declared.head.Answer.{Answer}
use Rattle.ps_page.specs.declared.head.TheConstants.{HEAD_LIMIT}
use Rattle.ps_page.specs.declared.head.Refused.{Refused}
use Rattle.ps_page.specs.declared.head.Refused.TheVariants.{BadRequest, Forbidden, NotFound, NotAllowed, TooLarge}
use Rattle.ps_page.specs.declared.head.Refused.TheVariants.{TooLate}

-- whether a field has the name
abbrev pub has_name : Fields → List ℕ → Bool
has_name [] name = false
has_name (h ∷ hs) name = eq_ignore_case h.0 name || has_name hs name

-- the value of the field with a name, where there is one such field and no second
abbrev pub only_value : Fields → List ℕ → Option (List ℕ)
only_value [] name = None
only_value (h ∷ hs) name =
    cond (eq_ignore_case h.0 name) (cond (has_name hs name) None (Some h.1)) (only_value hs name)

-- b':'
abbrev pub colon : ℕ
colon = 58

-- what may follow a name: a colon and a port's digits, or nothing, which means the port of HTTP. A client that uses a
-- forwarded port names that port, so any will do
abbrev pub is_port : List ℕ → Bool
is_port [] = true
is_port (first ∷ digits) = first == colon && list_all is_ascii_digit digits

-- the text is this name, and then a port or nothing
abbrev pub is_named : List ℕ → List ℕ → Bool
is_named text name =
    cond (nat_lt (length text) (length name)) false
    (bytes_eq (take (length name) text) name && is_port (drop (length name) text))

-- a name of this machine
abbrev pub is_own_host : Option (List ℕ) → Bool
is_own_host None = false
is_own_host (Some text) =
    is_named text (codes "127.0.0.1") || is_named text (codes "localhost") || is_named text (codes "[::1]")

-- the text is `first` and then `second`
abbrev pub follows : List ℕ → List ℕ → List ℕ → Bool
follows text first second =
    cond (nat_lt (length text) (length first)) false
    (bytes_eq (take (length first) text) first && bytes_eq (drop (length first) text) second)

-- the origin of the page that this host serves
abbrev pub is_own_origin : Option (List ℕ) → Option (List ℕ) → Bool
is_own_origin None host = false
is_own_origin (Some origin) None = false
is_own_origin (Some origin) (Some host) = follows origin (codes "http://") host

-- what a request of this machine asks for
pub data Verdict : Type 0 where
  page about live news : Verdict
  refusal : Refused → Verdict

-- A foreign host is refused first: a foreign page may have a name of its own that resolves to this machine. A
-- WebSocket, for a session or for the news, is opened only for a page of the same host and port
abbrev pub verdict : List ℕ → List ℕ → Fields → Verdict
verdict method path fields =
    cond (not (is_own_host (only_value fields (codes "Host")))) (refusal Forbidden)
    (cond (not (bytes_eq method (codes "GET"))) (refusal NotAllowed)
    (cond (bytes_eq path (codes "/")) page
    (cond (bytes_eq path (codes "/about")) about
    (cond (not (bytes_eq path (codes "/live")) && not (bytes_eq path (codes "/news"))) (refusal NotFound)
    (cond (not (is_own_origin (only_value fields (codes "Origin")) (only_value fields (codes "Host"))))
    (refusal Forbidden)
    (cond (bytes_eq path (codes "/news")) news live))))))

-- an upgrade with a valid key is answered by `opened`, with the accept key; any other one is refused
abbrev pub Opens : (List ℕ → Answer) → Result (List ℕ) HandshakeError → Answer → Type 0
Opens opened (Err e) answer = answer ≡ Answer.Refuse BadRequest
Opens opened (Ok key) answer =
    (IsValidKey key × (answer ≡ opened (accept_key_of key)))
    ⊎ (¬ (IsValidKey key) × (answer ≡ Answer.Refuse BadRequest))

abbrev pub Follows : Verdict → Result (List ℕ) HandshakeError → Answer → Type 0
Follows page key answer = answer ≡ Answer.Page
Follows about key answer = answer ≡ Answer.About
Follows live key answer = Opens Answer.Live key answer
Follows news key answer = Opens Answer.News key answer
Follows (refusal r) key answer = answer ≡ Answer.Refuse r

-- the answer is what a head asks for
abbrev pub AnswersHead : List ℕ → ℕ → List ℕ → Fields → Answer → Type 0
AnswersHead method version path fields answer =
    Follows (verdict method path fields) (requested_key method version fields) answer

-- the bytes are a head of the grammar and nothing else, and the answer is what it asks for
abbrev pub Answers : List ℕ → Answer → Type 0
Answers buf answer =
    (h : RequestHead) × ReadsRequest buf h []
    × AnswersHead h.method h.minor h.target (map name_and_value h.fields) answer

-- these bytes aren't exactly a head of at most 64 fields
abbrev pub IsNoHead : List ℕ → Type 0
IsNoHead buf = (h : RequestHead) → ReadsRequest buf h [] → 64 < length h.fields

-- the answer to bytes: `More` if they are no head yet and may become one; else what the head asks for
abbrev pub AnswersBytes : List ℕ → Answer → Type 0
AnswersBytes buf Answer.More = HasNoRequest buf × MayBecomeRequest buf
AnswersBytes buf answer = Answers buf answer ⊎ ((answer ≡ Answer.Refuse BadRequest) × IsNoHead buf)

-- the answer to the bytes that were read: `TooLarge` to more than `HEAD_LIMIT`, and to others not `More`
abbrev pub AnswersRead : List ℕ → Answer → Type 0
AnswersRead bytes answer =
    ((HEAD_LIMIT < length bytes) × (answer ≡ Answer.Refuse TooLarge))
    ⊎ ((length bytes ≤ HEAD_LIMIT) × (answer ≢ Answer.More) × AnswersBytes bytes answer)

-- the answer to a reader whose bytes to come were `old`, and are `new` after it: the answer to the bytes that it
-- returned, or `TooLate`
abbrev pub AnswersReader : Option (List ℕ) → Option (List ℕ) → Answer → Type 0
AnswersReader old new answer =
    (answer ≡ Answer.Refuse TooLate) ⊎ ((bytes : List ℕ) × Consumes old new bytes × AnswersRead bytes answer)
