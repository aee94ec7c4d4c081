-- Lines of a kept file, and what a start reads of them.
use Rattle.std.proofs.Common.{◌≡◌, ◌++◌, ◌∷◌, ◌∙◌, ℕ, List, [], ap, sym, subst, refl, append_assoc, inl, inr}
use Rattle.std.proofs.Common.{◌⊎◌, arith, suc}
use Rattle.std.proofs.Common.{All, ◌≤◌, false, true, ◌-◌, ◌+◌, length, Bool, if◌then◌else◌, take}
use Rattle.std.specs.Prelude.{nat_eq}
use Rattle.std.specs.List.{ends_with}
use Rattle.std.proofs.lemmas.List.{append-nil}
use Rattle.std.proofs.lemmas.List.Elements.{All-append, All-cons, All-nil}
use Rattle.ps_grid.specs.declared.parties.TheConstants.{REPLICAS}
use Rattle.ps_delta.specs.Deltas.{Entries}
use Rattle.ps_lines.specs.Feeding.{without_return}
use Rattle.ps_keep.specs.Lines.{text, whole_lines}
use Rattle.ps_keep.proofs.LineLemmas.{text-append}
use Rattle.ps_kept.specs.Kept.{PushAll, TellHistory}
use Rattle.ps_kept.specs.Laws.{IsPlain, SquashedFilesRead}
use Rattle.ps_kept.specs.Starts.{IsBegun, Reads}
use Rattle.ps_squash.specs.Squashed.{IsSquashed}
use Rattle.ps_shorten.specs.Shortened.{IsShortened, TellsTheSame, is_worth}
use Rattle.ps_shorten.specs.declared.in_place.Shortened.{Shortened}
use Rattle.ps_shorten.specs.declared.in_place.Worth.{Worth}

abbrev pub NoReturn : List ℕ → Type 0
NoReturn line = without_return line ≡ line

-- the lines before `left` end in no return, and the bytes are these
pub record PlainSoFar (bytes left plain : List ℕ) : Type 0 where
  pub done : List (List ℕ)
  pub is : whole_lines bytes ≡ done ++ whole_lines left
  pub spelled : plain ≡ text done
  pub each : All NoReturn done

no_return : (line : List ℕ) → ends_with nat_eq line (13 ∷ []) ≡ false → NoReturn line
no_return line ends = ap (λ (b : Bool). if b then take (length line - 1) line else line) ends

pub one_plain : (bytes left rest line plain more : List ℕ) → PlainSoFar bytes left plain
    → whole_lines left ≡ line ∷ whole_lines rest → ends_with nat_eq line (13 ∷ []) ≡ false
    → more ≡ (plain ++ line) ++ 10 ∷ [] → PlainSoFar bytes rest more
one_plain bytes left rest line plain more so_far first ends is = record {
  done = so_far.done ++ line ∷ [];
  is = so_far.is ∙ ap (λ (ls : List (List ℕ)). so_far.done ++ ls) first
      ∙ sym (append_assoc so_far.done (line ∷ []) (whole_lines rest));
  spelled = is ∙ append_assoc plain line (10 ∷ [])
      ∙ ap (λ (bs : List ℕ). bs ++ (line ++ 10 ∷ [])) so_far.spelled
      ∙ sym (text-append so_far.done (line ∷ []));
  each = All-append NoReturn so_far.done (line ∷ []) so_far.each (All-cons NoReturn line [] (no_return line ends)
      (All-nil NoReturn));
}

pub no_more_lines : (bytes left plain : List ℕ) → PlainSoFar bytes left plain → whole_lines left ≡ []
    → plain ≡ text (whole_lines bytes)
no_more_lines bytes left plain so_far none =
    so_far.spelled ∙ ap text (sym (append-nil so_far.done)
    ∙ ap (λ (ls : List (List ℕ)). so_far.done ++ ls) (sym none) ∙ sym so_far.is)

pub all_plain : (bytes left plain : List ℕ) → PlainSoFar bytes left plain → whole_lines left ≡ []
    → All NoReturn (whole_lines bytes)
all_plain bytes left plain so_far none =
    subst (λ (ls : List (List ℕ)). All NoReturn ls) (sym (so_far.is
    ∙ ap (λ (ls : List (List ℕ)). so_far.done ++ ls) none ∙ append-nil so_far.done)) so_far.each

-- whole lines alone are read as the file was
pub reads_lines : (replica : ℕ) (bytes : List ℕ) (history : List Entries)
    → whole_lines (text (whole_lines bytes)) ≡ whole_lines bytes → Reads replica bytes history
    → Reads replica (text (whole_lines bytes)) history
reads_lines replica bytes history twice (inl (empty, none)) =
    let bare : text (whole_lines bytes) ≡ [] = ap text empty.no_line in
    subst (λ (bs : List ℕ). Reads replica bs history) (sym bare) (inl (
      record {
        no_line = refl;
        torn = (_, refl);
      },
      none,
    ))
reads_lines replica bytes history twice (inr begun) = inr (record {
  told = subst (λ (ls : List (List ℕ)). TellHistory replica ls history) (sym twice) begun.told;
  fresh = begun.fresh;
})

pub plain_of : (bytes : List ℕ) → whole_lines (text (whole_lines bytes)) ≡ whole_lines bytes
    → All NoReturn (whole_lines bytes) → IsPlain (text (whole_lines bytes))
plain_of bytes twice each = record {
  whole = ap text twice;
  no_return = subst (λ (ls : List (List ℕ)). All NoReturn ls) (sym twice) each;
}

push_count : (lines : List (List ℕ)) (history : List Entries) → PushAll lines history → length lines ≡ length history
push_count [] [] all = refl
push_count [] (d ∷ ds) all = absurd all
push_count (line ∷ lines) [] all = absurd all
push_count (line ∷ lines) (d ∷ ds) all = ap suc (push_count lines ds all.1)

told_count : (replica : ℕ) (lines : List (List ℕ)) (history : List Entries) → TellHistory replica lines history
    → length lines - 1 ≡ length history
told_count replica [] history told = absurd told
told_count replica (first ∷ others) history told = omega (arith, push_count others history told.1)

-- a history has a change for each line after the first
pub changes_of : (replica : ℕ) (bytes : List ℕ) (history : List Entries) → Reads replica bytes history
    → length (whole_lines bytes) - 1 ≡ length history
changes_of replica bytes history (inl (empty, none)) =
    ap (λ (ls : List (List ℕ)). length ls - 1) empty.no_line ∙ ap length (sym none)
changes_of replica bytes history (inr begun) = told_count replica (whole_lines bytes) history begun.told

-- ---- the file after it

-- what whole lines are squashed to tells the same as the file
abbrev pub tells_the_same : (replica : ℕ) (old made : List ℕ) (history : List Entries) → 1 ≤ replica
    → replica ≤ REPLICAS
    → SquashedFilesRead → whole_lines (text (whole_lines old)) ≡ whole_lines old → All NoReturn (whole_lines old)
    → Reads replica old history → IsSquashed (text (whole_lines old)) made → TellsTheSame replica old made
tells_the_same replica old made history low high law twice each read squashed =
    let r = law replica (text (whole_lines old)) made history low high (reads_lines replica old history twice read)
    (plain_of old twice each) squashed in
    record { history = history; read = read; fewer = r.0; again = r.1; same = r.2 }

-- .. and replaces the file if the gain is worth it
pub is_replaced : (worth : Worth) (replica : ℕ) (old new made : List ℕ) (changes : Shortened)
    → (same : TellsTheSame replica old made) → IsSquashed (text (whole_lines old)) made
    → is_worth worth (length old) (length made) ≡ true → new ≡ made → changes.before ≡ length same.history
    → changes.after ≡ length (whole_lines made) - 1 → IsShortened worth replica old new changes
is_replaced worth replica old new made changes same squashed worthy is before after = record {
  text = made;
  squashed = squashed;
  chosen = is ∙ ap (λ (b : Bool). if b then made else old) (sym worthy);
  same = record {
    history = same.history;
    read = same.read;
    fewer = same.fewer;
    again = subst (λ (bs : List ℕ). Reads replica bs same.fewer) (sym is) same.again;
    same = same.same;
  };
  before = before;
  after = after ∙ changes_of replica made same.fewer same.again;
}

-- .. and doesn't if it isn't
pub is_left : (worth : Worth) (replica : ℕ) (old made : List ℕ) (history : List Entries) (changes : Shortened)
    → Reads replica old history → IsSquashed (text (whole_lines old)) made
    → is_worth worth (length old) (length made) ≡ false → changes.before ≡ length history
    → changes.after ≡ length history → IsShortened worth replica old old changes
is_left worth replica old made history changes read squashed worthless before after = record {
  text = made;
  squashed = squashed;
  chosen = ap (λ (b : Bool). if b then made else old) (sym worthless);
  same = record { history = history; read = read; fewer = history; again = read; same = refl };
  before = before;
  after = after;
}

-- a replacement that failed left the old file or the new one
pub either_way : {F : Type 0} (fault : F) (replica : ℕ) (old new made : List ℕ) → TellsTheSame replica old made
    → (new ≡ old) ⊎ (new ≡ made) → (new ≡ old) ⊎ ((fault ≡ fault) × TellsTheSame replica old new)
either_way fault replica old new made same (inl e) = inl e
either_way fault replica old new made same (inr e) =
    inr (refl, subst (λ (bs : List ℕ). TellsTheSame replica old bs) (sym e) same)
