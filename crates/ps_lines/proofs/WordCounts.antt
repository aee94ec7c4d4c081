-- Lines with a word too few or too many.
use Rattle.std.proofs.Common.{◌≡◌, ℕ, List, [], ◌∷◌, Some, Err, refl}
use Rattle.ps_grid.specs.declared.refusal.Refusal.{Refusal}
use Rattle.ps_grid.specs.declared.refusal.Refusal.TheVariants as refusals
use Rattle.ps_delta.specs.Deltas.{Entries}
use Rattle.ps_lines.specs.Commands.{verb_of, ReadsCorners, ReadsLine, ReadsOneCell, ReadsPair, ReadsPull}
use Rattle.ps_lines.specs.Commands.{Read, ReadsRectangle, ReadsReplica, ReadsTakingIn, ReadsVerb, ReadsWait, TakesIn}
use Rattle.ps_lines.specs.declared.command.Command.{Command}
use Rattle.ps_lines.specs.Words.{after_word, first_word, parts, words}
use Rattle.ps_lines.specs.declared.verb.Verb.{Verb}
use Rattle.ps_lines.proofs.WordLemmas.{parts_are_some}

pub cell_more : (word rest : List ℕ) → ReadsOneCell (word ∷ words rest) (Err refusals.Command)
cell_more word rest = rw (parts_are_some 32 rest).are refl

pub pair_more : (refusal : Refusal) (word digits rest : List ℕ)
    → ReadsPair refusal (word ∷ digits ∷ words rest) (Err refusals.Command)
pair_more refusal word digits rest = rw (parts_are_some 32 rest).are refl

pub rectangle_more : (word rest : List ℕ) → ReadsRectangle (word ∷ words rest) (Err refusals.Command)
rectangle_more word rest = rw (parts_are_some 32 rest).are refl

-- two colons
pub corners_more : (first last rest : List ℕ) → ReadsCorners (first ∷ last ∷ parts 58 rest) (Err refusals.Cell)
corners_more first last rest = rw (parts_are_some 58 rest).are refl

pub pull_more : (from most rest : List ℕ) → ReadsPull (from ∷ most ∷ words rest) (Err refusals.Command)
pull_more from most rest = rw (parts_are_some 32 rest).are refl

pub taking_in_reads : (asked : Entries → Command) (line : List ℕ) (read : Read Command) → TakesIn asked line read
    → ReadsTakingIn asked (words line) line read
taking_in_reads asked line read reads = rw (parts_are_some 32 line).are reads

pub replica_more : (word rest : List ℕ) → ReadsReplica (word ∷ words rest) (Err refusals.Command)
replica_more word rest = rw (parts_are_some 32 rest).are refl

pub wait_more : (seen rest : List ℕ) → ReadsWait (seen ∷ words rest) (Err refusals.Command)
wait_more seen rest = rw (parts_are_some 32 rest).are refl

-- a verb and no space
pub line_alone : (line word : List ℕ) (verb : Verb) (read : Read Command)
    → ((rest : List ℕ) → ReadsVerb (Some verb) [] rest read) → word ≡ first_word line → Some verb ≡ verb_of word
    → words line ≡ word ∷ [] → ReadsLine line read
line_alone line word verb read reads first is alone = rw (← first, ← is, alone) (reads (after_word line))
