-- What one line says, and that a line too long to be held says nothing.
use Rattle.std.proofs.Common.{◌≡◌, ◌≢◌, ℕ, ◌+◌, ◌-◌, ◌<◌, ◌≤◌, Bool, true, false, List, [], ◌∷◌, length, take, drop}
use Rattle.std.proofs.Common.{◌++◌, ◌∙◌, ap, refl, sym, subst, arith, rules, Some, None, length-append}
use Rattle.std.proofs.Common.{inl, inr, length-drop}
use Rattle.std.proofs.lemmas.Fmt.{length-decimal-le}
use Rattle.std.specs.Prelude.{MatchOption, Option, codes, decimal}
use Rattle.ps_grid.specs.declared.parties.TheConstants.{REPLICAS}
use Rattle.std.proofs.lemmas.List.{length-take-le}
use Rattle.std.proofs.lemmas.Bool.{and_parts, eqb-true, false≢true}
use Rattle.std.proofs.lemmas.Bool.Decides.{nat_tests}
use Rattle.std.specs.Option.{is_some}
use Rattle.std.specs.Prelude.{if◌then◌else◌, nat_eq}
use Rattle.std.specs.List.{ends_with, starts_with}
use Rattle.json.specs.Json.{value}
use Rattle.json.specs.Lex.{lex, punctuate}
use Rattle.json.specs.Word.{after_number, word}
use Rattle.serde_json.specs.Read.{read}
use Rattle.ps_delta.specs.Deltas.{Entries}
use Rattle.ps_wire.specs.Line.{IsLine}
use Rattle.ps_wire.specs.Value.{delta_value}
use Rattle.ps_lines.specs.declared.line_buffer.TheConstants.{LINE_LIMIT}
use Rattle.ps_lines.specs.DigestLine.{is_digest}
use Rattle.ps_lines.specs.Feeding.{kept, without_return}
use Rattle.ps_lines.specs.KeptLines.{LineSays, LineSaysNothing}
use Rattle.ps_lines.specs.declared.kept_line.KeptLine.{KeptLine}
use Rattle.ps_lines.specs.declared.kept_line.KeptLine.TheVariants as kept_lines
use Rattle.ps_lines.specs.PushLine.{IsPush, Pushes, push_word}
use Rattle.ps_lines.specs.ReplicaLine.{Tells, TellsNone, replica_line}
use Rattle.ps_lines.proofs.FeedLemmas.{long_kept}
use Rattle.ps_lines.proofs.KeptLineLemmas.{digest_pushes_none, digest_tells_none, push_tells_none}
use Rattle.ps_squash.specs.Inside.{IsRead}
use Rattle.ps_squash.specs.Squashed.{FirstSays, IsSilent, Says, after_push}

-- a silent line tells no replica, and says nothing
pub silent_says : (line : List ℕ) → IsSilent line → FirstSays line None []
unfolding Says
silent_says line (inl none) = ((λ n low high is. omega (arith, ap length none, ap length is)), inl (inl none, refl))
silent_says line (inr digest) = (digest_tells_none line digest, inl (inr digest, refl))

pub silent_pushes_none : (line : List ℕ) → IsSilent line → ¬ IsPush line
silent_pushes_none line (inl none) push = omega (arith, ap length none, ap length push.1)
silent_pushes_none line (inr digest) push = digest_pushes_none line digest push

silent-length : (line : List ℕ) → IsSilent line → length line ≤ 24
unfolding is_digest
silent-length line (inl none) = omega (arith, ap length none)
silent-length line (inr digest) =
    let digits : length digest.0 ≡ 16 = eqb-true (length digest.0) 16 (and_parts _ _ digest.2).0 in
    omega (arith, ap length digest.1, digits)

pub says_none : (line : List ℕ) → ¬ IsSilent line → ((d : Entries) → ¬ IsLine (after_push line) d)
    → (ds : List Entries) → ¬ Says line ds
unfolding Says
says_none line some never ds (inl silent) = some silent.0
says_none line some never ds (inr one) = never one.0 one.1

split_push : (line : List ℕ) → starts_with nat_eq line push_word ≡ true → line ≡ push_word ++ drop 5 line
split_push line is = search rules

-- a line that doesn't begin with the word stays whole
after_push-other : (line : List ℕ) → ¬ IsPush line → after_push line ≡ line
after_push-other line other = go (starts_with nat_eq line push_word) refl
  where
    go : (b : Bool) → starts_with nat_eq line push_word ≡ b → (if b then drop 5 line else line) ≡ line
    go true is = absurd (other (drop 5 line, split_push line is))
    go false is = refl

-- .. and of a line that begins with the word all after the word is left
pub after_push-push : (line text : List ℕ) → line ≡ push_word ++ text → after_push line ≡ text
after_push-push line text is = ap after_push is

-- what a line with `push ` says
pub push_says : (line : List ℕ) (d : Entries) → Pushes line d → Says line (d ∷ [])
unfolding Says
push_says line d pushes =
    inr (d, subst (λ t. IsLine t d) (sym (after_push-push line pushes.0 pushes.1)) pushes.2, refl)

pub push_says_none : (line : List ℕ) → IsPush line → ((d : Entries) → ¬ Pushes line d) → (ds : List Entries)
    → ¬ Says line ds
push_says_none line push none =
    says_none line (λ silent. silent_pushes_none line silent push)
    (λ d is. none d (push.0, push.1, subst (λ t. IsLine t d) (after_push-push line push.0 push.1) is))

-- .. and what a line says that neither pushes nor is silent
pub other_says : (line : List ℕ) (d : Entries) → ¬ IsPush line → IsLine line d → Says line (d ∷ [])
unfolding Says
other_says line d other is = inr (d, subst (λ t. IsLine t d) (sym (after_push-other line other)) is, refl)

pub other_says_none : (line : List ℕ) → ¬ IsSilent line → ¬ IsPush line → ((d : Entries) → ¬ IsLine line d)
    → (ds : List Entries) → ¬ Says line ds
other_says_none line some other never =
    says_none line some (λ d is. never d (subst (λ t. IsLine t d) (after_push-other line other) is))

-- what a line of a kept file is read as
pub kept_read : (line : List ℕ) (found : Option KeptLine) → found ≢ None
    → MatchOption found (LineSaysNothing line) (LineSays line) → IsRead line found
kept_read line None some says = absurd (some refl)
kept_read line (Some (kept_lines.Replica n)) some says = (says, refl)
kept_read line (Some (kept_lines.Push d)) some says =
    (push_tells_none line (says.0, says.1), push_says line d says)

-- no JSON text is empty, or begins with that word
no_text : read [] ≡ None
unfolding lex punctuate word after_number value
no_text = refl

no_value : (rest : List ℕ) → read (codes "replica " ++ rest) ≡ None
unfolding lex punctuate word after_number value
no_value rest = refl

-- a silent line says nothing
pub silent_says_nothing : (line : List ℕ) (deltas : List Entries) → IsSilent line → Says line deltas → deltas ≡ []
unfolding Says
silent_says_nothing line deltas silent (inl says) = says.1
silent_says_nothing line deltas silent (inr says) =
    absurd (none (delta_value says.0) silent (subst (λ t. IsLine t says.0)
    (after_push-other line (silent_pushes_none line silent)) says.1).read)
  where
    nothing : {A : Type 0} (a : A) → None ≡ Some a → ⊥
    nothing a e = cc

    none : (v : _) → IsSilent line → read line ≡ Some v → ⊥
    none v (inl empty) is = nothing v (sym no_text ∙ ap read (sym empty) ∙ is)
    none v (inr digest) is = nothing v (sym (no_value digest.0) ∙ ap read (sym digest.1) ∙ is)

-- the line of a replica is no delta's
replica_says_none : (line : List ℕ) (n : ℕ) → Tells line n → (ds : List Entries) → ¬ Says line ds
replica_says_none line n tells =
    other_says_none line (λ silent. (silent_says line silent).0 n tells.0 tells.1 tells.2)
    (λ push. push_tells_none line push n tells.0 tells.1 tells.2)
    (λ d is. none (delta_value d) (sym (no_value (decimal n)) ∙ ap read (sym tells.2) ∙ is.read))
  where
    none : {A : Type 0} (a : A) → None ≡ Some a → ⊥
    none a e = cc

pub told_says_none : (line : List ℕ) (told : Option ℕ) (deltas : List Entries) → is_some told ≡ true
    → FirstSays line told deltas → (ds : List Entries) → ¬ Says line ds
told_says_none line None deltas is said = absurd (false≢true is)
told_says_none line (Some n) deltas is said = replica_says_none line n said.0

-- if the buffer stores none of a line's bytes, the line is too long
over_limit : (raw : List ℕ) → kept raw ≡ None → LINE_LIMIT < length raw
over_limit raw is = grind (arith, nat_tests, long_kept raw is)

without_return-length : (raw : List ℕ) → length raw ≤ length (without_return raw) + 1
without_return-length raw = go (ends_with nat_eq raw (13 ∷ []))
  where
    go : (b : Bool) → length raw ≤ length (if b then take (length raw - 1) raw else raw) + 1
    go true = let less = length-take-le (length raw - 1) raw (omega arith) in omega (arith, less)
    go false = omega arith

after_push-length : (line : List ℕ) → length line ≤ length (after_push line) + 5
after_push-length line = go (starts_with nat_eq line push_word)
  where
    go : (b : Bool) → length line ≤ length (if b then drop 5 line else line) + 5
    go true = omega (arith, length-drop 5 line)
    go false = omega arith

pub too_long : (raw : List ℕ) → kept raw ≡ None → (ds : List Entries) → ¬ Says (without_return raw) ds
too_long raw is =
    let all = over_limit raw is in
    let less = without_return-length raw in
    says_none (without_return raw)
    (λ silent. omega (arith, all, less, silent-length (without_return raw) silent))
    (λ d line. omega (arith, all, less, after_push-length (without_return raw), line.fits))

replica_line-short : (n : ℕ) → n ≤ REPLICAS → length (replica_line n) ≤ 11
replica_line-short n high =
    let digits = length-decimal-le 3 n (omega arith) (omega (arith, high)) (omega (arith, high)) in
    omega (arith, length-append (codes "replica ") (decimal n), digits)

pub too_long_tells : (raw : List ℕ) → kept raw ≡ None → TellsNone (without_return raw)
too_long_tells raw is n low high same =
    let all = over_limit raw is in
    let less = without_return-length raw in
    omega (arith, all, less, ap length same, replica_line-short n high)
