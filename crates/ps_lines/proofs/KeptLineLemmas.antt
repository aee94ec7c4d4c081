-- What each line of a kept file says, given how a session reads it. No line both pushes a delta and gives a replica's
-- number, and no line gives two numbers.
use Rattle.std.proofs.Common.{◌≡◌, ◌≢◌, ◌⊎◌, inl, inr, ◌≤◌, ◌==◌, ℕ, Bool, true, false, cond, List, [], ◌∷◌, ◌++◌}
use Rattle.std.proofs.Common.{Some, None, Ok, Err, refl, ap, sym, ◌∙◌, arith, codes, get_or, length, drop, nat_lt}
use Rattle.std.proofs.Common.{subst}
use Rattle.std.proofs.lemmas.Bool.{and_parts, eqb-true, false≢true, le-leb, ltb-true}
use Rattle.std.proofs.lemmas.Fmt.{decimal_injective, length-decimal-le}
use Rattle.std.proofs.lemmas.List.{append_cancel_left}
use Rattle.std.proofs.lemmas.List.Sums.{passes_at_first, split_at_first}
use Rattle.std.proofs.lemmas.Slice.Eq.{bytes_eq-Decides}
use Rattle.std.proofs.lemmas.Grind.{common_steps}
use Rattle.std.specs.Prelude.{MatchOption, Option, bytes_eq, if◌then◌else◌}
use Rattle.std.specs.Fmt.{decimal}
use Rattle.std.specs.List.{position_or_len}
use Rattle.ps_grid.specs.declared.parties.TheConstants.{REPLICAS}
use Rattle.ps_grid.specs.declared.refusal.Refusal.TheVariants as refusals
use Rattle.ps_delta.specs.Deltas.{Entries}
use Rattle.ps_wire.specs.Line.{IsLine}
use Rattle.ps_lines.specs.Commands.{Read, ReadsDelta, ReadsLine, ReadsPush, ReadsReplica, ReadsVerb, read_unnumbered}
use Rattle.ps_lines.specs.Commands.{replica_number, verb_of, with_part, Pushes as PushIsRead}
use Rattle.ps_lines.specs.DigestLine.{IsDigestLine, is_digest}
use Rattle.ps_lines.specs.PushLine.{IsPush, Pushes, push_word}
use Rattle.ps_lines.specs.ReplicaLine.{Tells, TellsNone, replica_line}
use Rattle.ps_lines.specs.KeptLines.{LineSaysNothing}
use Rattle.ps_lines.specs.Words.{after_word, first_word, whole_number, words}
use Rattle.ps_lines.specs.Inside.Kept.{SaysAsked, is_kept_verb}
use Rattle.ps_lines.specs.declared.command.Command.{Command}
use Rattle.ps_lines.specs.declared.command.Command.TheVariants as commands
use Rattle.ps_lines.specs.declared.verb.Verb.{Verb}
use Rattle.ps_lines.specs.declared.verb.Verb.TheVariants.{Push, Replica}
use Rattle.ps_lines.proofs.NamesAreWords.{number_is_word}
use Rattle.ps_lines.proofs.WordLemmas.{one_part, parts_are_some, whole_number-decimal}

-- a text that begins with p isn't one that begins with r
differ : (a b : List ℕ) → 112 ∷ a ≡ 114 ∷ b → ⊥
differ a b e = omega (arith, ap (λ l. get_or l 0 0) e)

-- a line that pushes gives no replica's number
pub push_tells_none : (line : List ℕ) → IsPush line → TellsNone line
push_tells_none line push n low high is = differ _ _ (sym push.1 ∙ is)

pub one_replica : (line : List ℕ) (n m : ℕ) → Tells line n → Tells line m → n ≡ m
one_replica line n m first second =
    decimal_injective n m (omega (arith, first.1)) (omega (arith, second.1))
    (append_cancel_left (codes "replica ") (decimal n) (decimal m) (sym first.2 ∙ second.2))

-- a digest line gives no replica's number, since a digest is longer
pub digest_tells_none : (line : List ℕ) → IsDigestLine line → TellsNone line
unfolding is_digest
digest_tells_none line digest n low high is =
    let same : digest.0 ≡ decimal n =
    append_cancel_left (codes "replica ") digest.0 (decimal n) (sym digest.1 ∙ is) in
    let digits = length-decimal-le 3 n (omega arith) (omega (arith, high)) (omega (arith, high)) in
    let long : length digest.0 ≡ 16 = eqb-true (length digest.0) 16 (and_parts _ _ digest.2).0 in
    omega (arith, ap length same, digits, long)

-- .. and pushes nothing
pub digest_pushes_none : (line : List ℕ) → IsDigestLine line → ¬ IsPush line
digest_pushes_none line digest push = differ _ _ (sym push.1 ∙ digest.1)

-- the verbs of the two lines
push_verb : (line : List ℕ) → IsPush line → verb_of (first_word line) ≡ Some Push
unfolding verb_of
push_verb line push = ap (λ l. verb_of (first_word l)) push.1

replica_verb : (line : List ℕ) (n : ℕ) → line ≡ replica_line n → verb_of (first_word line) ≡ Some Replica
unfolding verb_of
replica_verb line n is = ap (λ l. verb_of (first_word l)) is

-- a line of another verb says nothing
pub other_verb : (line : List ℕ) → is_kept_verb (verb_of (first_word line)) ≡ false → LineSaysNothing line
other_verb line other = (
  λ n low high is. false≢true (sym other ∙ ap is_kept_verb (replica_verb line n is)),
  λ push. false≢true (sym other ∙ ap is_kept_verb (push_verb line push)),
)

-- no word but this one is that verb
push_only : (word : List ℕ) → verb_of word ≡ Some Push → word ≡ codes "push"
unfolding verb_of
push_only word is = by (bytes_eq word (codes "push")) refl
  where
    by : (b : Bool) → bytes_eq word (codes "push") ≡ b → word ≡ codes "push"
    by true same = (bytes_eq-Decides word (codes "push")).0 same
    by false other = grind (arith, common_steps, other, is)

-- a line is one word, or a first word, a space and what stands after it
divided : (line : List ℕ) → (words line ≡ line ∷ []) ⊎ (line ≡ first_word line ++ 32 ∷ after_word line)
divided line = by (nat_lt (position_or_len (λ b. b == 32) line) (length line)) refl
  where
    by : (b : Bool) → nat_lt (position_or_len (λ b. b == 32) line) (length line) ≡ b
        → (words line ≡ line ∷ []) ⊎ (line ≡ first_word line ++ 32 ∷ after_word line)
    by false none = inl (one_part 32 line (ap (λ b. cond b (Some (position_or_len (λ b. b == 32) line)) None) none))
    by true there =
        let within = ltb-true (position_or_len (λ b. b == 32) line) (length line) there in
        inr
        (split_at_first (λ b. b == 32) line 0 within
        ∙ ap (λ b. first_word line ++ b ∷ after_word line)
        (eqb-true _ 32 (passes_at_first (λ b. b == 32) line 0 within)))

-- one word pushes nothing
no_push : (line : List ℕ) → words line ≡ line ∷ [] → ¬ IsPush line
no_push line alone push =
    let some = parts_are_some 32 push.0 in
    let none : [] ≡ some.first ∷ some.others = ap (drop 1) (sym alone ∙ ap words push.1) ∙ some.are in
    cc

-- what is read of a line that pushes
push_read : (line text : List ℕ) (read : Read Command) → line ≡ push_word ++ text → ReadsLine line read
    → PushIsRead text read
unfolding verb_of
push_read line text read is reads =
    by (words text) (parts_are_some 32 text).are (subst (λ l. ReadsLine l read) is reads)
  where
    by : (texts : List (List ℕ)) {first : List ℕ} {others : List (List ℕ)} → texts ≡ first ∷ others
        → ReadsPush texts text read → PushIsRead text read
    by [] same r = cc
    by (word ∷ others) same r = r

-- .. and what the line says then
says_pushed : (line text : List ℕ) (delta : Read Entries) → line ≡ push_word ++ text → ReadsDelta text delta
    → SaysAsked line (with_part (λ d. commands.Push d) delta)
says_pushed line text (Ok d) is reads = (text, is, reads.line)
says_pushed line text (Err e) is reads = by reads.refused
  where
    never : e ≡ refusals.Delta → (d : Entries) → ¬ Pushes line d
    never same d pushes =
        let there : IsLine text d =
        subst (λ t. IsLine t d) (append_cancel_left push_word pushes.0 text (sym pushes.1 ∙ is)) pushes.2 in
        let memory : refusals.Delta ≡ refusals.Memory = sym same ∙ reads.only d there in
        cc

    by : (e ≡ refusals.Delta) ⊎ (e ≡ refusals.Memory) → SaysAsked line (Err e)
    by (inl same) = subst (λ x. SaysAsked line (Err x)) (sym same) ((text, is), never same)
    by (inr same) = subst (λ x. SaysAsked line (Err x)) (sym same) (text, is)

push_says_asked : (line text : List ℕ) (read : Read Command) → line ≡ push_word ++ text → ReadsLine line read
    → SaysAsked line read
push_says_asked line text read is reads =
    let pushed = push_read line text read is reads in
    subst (SaysAsked line) (sym pushed.2) (says_pushed line text pushed.0 is pushed.1)

read_again : (n : ℕ) → 1 ≤ n → n ≤ REPLICAS → replica_number (whole_number (decimal n)) ≡ Some n
read_again n low high = rw (whole_number-decimal n (omega (arith, high)), le-leb 1 n low, le-leb n REPLICAS high) refl

-- what is read of the line of a replica
replica_read : (line : List ℕ) (n : ℕ) (read : Read Command) → Tells line n → ReadsLine line read
    → read ≡ Ok (commands.Replica (Some n))
unfolding verb_of
replica_read line n read tells reads =
    let there : ReadsReplica (words (decimal n)) read = subst (λ l. ReadsLine l read) tells.2 reads in
    let alone : ReadsReplica (decimal n ∷ []) read =
    subst (λ ws. ReadsReplica ws read) (number_is_word n (omega (arith, tells.1))) there in
    subst (λ o. MatchOption o (read ≡ read_unnumbered (decimal n)) (λ k. read ≡ Ok (commands.Replica (Some k))))
    (read_again n tells.0 tells.1) alone

-- a line that is read as anything else gives no replica's number
tells_none : (line : List ℕ) (read : Read Command) → ReadsLine line read
    → ((n : ℕ) → read ≢ Ok (commands.Replica (Some n))) → TellsNone line
tells_none line read reads other n low high is = other n (replica_read line n read (low, high, is) reads)

-- what a line with the verb `replica` says
replica_says_asked : (line : List ℕ) (read : Read Command) → ¬ IsPush line → ReadsLine line read
    → (others : List (List ℕ)) → ReadsReplica others read → SaysAsked line read
replica_says_asked line read other reads [] is =
    subst (SaysAsked line) (sym is)
    (tells_none line (Ok (commands.Replica None)) (subst (ReadsLine line) is reads) (λ n e. cc), other)
replica_says_asked line read other reads (word ∷ []) is = by (replica_number (whole_number word)) is
  where
    unnumbered : (digest : Bool) → read ≡ (if digest then Ok (commands.Replica None) else Err refusals.Replica)
        → SaysAsked line read
    unnumbered true e =
        subst (SaysAsked line) (sym e)
        (tells_none line (Ok (commands.Replica None)) (subst (ReadsLine line) e reads) (λ n same. cc), other)
    unnumbered false e =
        subst (SaysAsked line) (sym e)
        (tells_none line (Err refusals.Replica) (subst (ReadsLine line) e reads) (λ n same. cc), other)

    by : (found : Option ℕ) → MatchOption found (read ≡ read_unnumbered word)
        (λ n. read ≡ Ok (commands.Replica (Some n))) → SaysAsked line read
    by None e = unnumbered (is_digest word) e
    by (Some n) e =
        subst (SaysAsked line) (sym e) (
          other,
          λ m tells.
              let same : ◌≡◌ {A = Read Command} (Ok (commands.Replica (Some m))) (Ok (commands.Replica (Some n))) =
              sym (replica_read line m read tells reads) ∙ e in
              cc,
        )
replica_says_asked line read other reads (word ∷ second ∷ more) is =
    subst (SaysAsked line) (sym is)
    (tells_none line (Err refusals.Command) (subst (ReadsLine line) is reads) (λ n e. cc), other)

-- .. and one with the verb `push`
pushing_says_asked : (line : List ℕ) (read : Read Command) → verb_of (first_word line) ≡ Some Push
    → ReadsLine line read → ReadsPush (drop 1 (words line)) (after_word line) read → SaysAsked line read
pushing_says_asked line read verb reads pushing = by (divided line)
  where
    by : (words line ≡ line ∷ []) ⊎ (line ≡ first_word line ++ 32 ∷ after_word line) → SaysAsked line read
    by (inl alone) =
        let is : read ≡ Err refusals.Command =
        subst (λ ws. ReadsPush (drop 1 ws) (after_word line) read) alone pushing in
        subst (SaysAsked line) (sym is) (
          tells_none line (Err refusals.Command) (subst (ReadsLine line) is reads) (λ n e. cc),
          no_push line alone,
        )
    by (inr more) =
        push_says_asked line (after_word line) read
        (more ∙ ap (λ w. w ++ 32 ∷ after_word line) (push_only (first_word line) verb)) reads

-- what a line with one of a kept file's two verbs says, however it is read
pub says_asked : (line : List ℕ) (read : Read Command) → is_kept_verb (verb_of (first_word line)) ≡ true
    → ReadsLine line read → SaysAsked line read
says_asked line read kept reads = by (verb_of (first_word line)) refl kept reads
  where
    by : (verb : Option Verb) → verb_of (first_word line) ≡ verb → is_kept_verb verb ≡ true
        → ReadsVerb verb (drop 1 (words line)) (after_word line) read → SaysAsked line read
    by (Some Push) is _ r = pushing_says_asked line read is reads r
    by (Some Replica) is _ r =
        replica_says_asked line read (λ push. differs (sym is ∙ push_verb line push)) reads (drop 1 (words line)) r
      where
        differs : Some Replica ≡ Some Push → ⊥
        differs e = cc
    by _ is other r = absurd (false≢true other)

-- a line that can give only the number n, and isn't the line of replica n, gives no number
pub other_replica : (line : List ℕ) (n : ℕ) → ((m : ℕ) → Tells line m → m ≡ n) → line ≢ replica_line n
    → TellsNone line
other_replica line n one other m low high is =
    other (is ∙ ap replica_line (one m (low, high, is)))
