-- Lines that are handled one after another, and one more line.
use Rattle.std.proofs.Common.{◌≡◌, ◌∙◌, ◌<◌, ℕ, List, [], ◌∷◌, ◌++◌, refl, sym, ap, subst, append_assoc, append-nil}
use Rattle.std.proofs.Common.{flat_map, arith, length}
use Rattle.std.proofs.lemmas.Grind.{flat_map-append}
use Rattle.ps_lines.specs.Streams.{Answering, Run, stream_of, with_last}

-- a run with one more line
pub Run-push : {State : Type 0} (Line : Answering State) (lines : List (List ℕ)) (old middle new : State) (text reply
    : List ℕ) (line : List ℕ)
    → Run Line old lines text middle → Line middle line reply new
    → Run Line old (lines ++ line ∷ []) (text ++ reply) new
Run-push Line [] old middle new text reply line run answers = (
  reply,
  new,
  [],
  subst (λ m. Line m line reply new) run.1 answers,
  ap (λ t. t ++ reply) run.0
      ∙ sym (append-nil reply),
  (refl, refl),
)
Run-push Line (next ∷ lines) old middle new text reply line run answers = (
  run.0,
  run.1,
  run.2 ++ reply,
  run.3,
  ap (λ t. t ++ reply) run.4 ∙ append_assoc run.0 run.2 reply,
  Run-push Line lines run.1 middle new run.2 reply line run.5 answers,
)

pub stream-rest : (lines : List (List ℕ)) (rest part : List ℕ)
    → stream_of lines rest ++ part ≡ stream_of lines (rest ++ part)
stream-rest lines rest part = append_assoc (flat_map (λ line. line ++ 10 ∷ []) lines) rest part

pub stream-push : (lines : List (List ℕ)) (line : List ℕ)
    → stream_of lines (line ++ 10 ∷ []) ≡ stream_of (lines ++ line ∷ []) []
stream-push lines line =
    sym (append-nil (flat_map (λ l. l ++ 10 ∷ []) (lines ++ line ∷ []))
    ∙ flat_map-append (λ l. l ++ 10 ∷ []) lines (line ∷ [])
    ∙ ap (λ t. flat_map (λ l. l ++ 10 ∷ []) lines ++ t) (append-nil (line ++ 10 ∷ [])))

-- a rest that isn't empty is the last line
pub with_last-filled : (lines : List (List ℕ)) (rest : List ℕ) → 0 < length rest
    → with_last lines rest ≡ lines ++ rest ∷ []
with_last-filled lines [] some = absurd (omega (arith, some))
with_last-filled lines (b ∷ bs) some = refl
