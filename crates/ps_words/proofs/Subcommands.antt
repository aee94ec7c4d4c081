-- What the matches of a subcommand are, by its name and by its rows.
use Rattle.std.proofs.Common.{rules, ◌≡◌, ◌∙◌, Option, Some, None, List, ℕ, false, true≢false}
use Rattle.std.proofs.Common.{ap, refl, sym, option_map}
use Rattle.std.specs.Prelude.{Box, is_some, option_and_then, slice_get}
use Rattle.std.specs.Box.{box_value}
use Rattle.std.specs.Str.Parse.{digits_value, without_leading_plus}
use Rattle.clap.specs.Values.{read_as}
use Rattle.clap.specs.Words.{Row, Text, matched_of, one_of, one_text, rows_of}
use Rattle.clap.specs.declared.parser.matches.Found.{Found}
use Rattle.clap.specs.declared.parser.matches.MatchedArg.{MatchedArg}
use Rattle.clap.proofs.WalkLemmas.{one_text-rows}
use Rattle.ps_words.specs.Words.{GivesNumber}
use Rattle.clap.specs.Simple.{subcommand_rows}
use Rattle.clap.specs.declared.parser.matches.ArgMatches.TheViews.{out-SubCommand}
use Rattle.clap.specs.declared.parser.matches.SubCommand.{SubCommand}

pub subcommand_rows_is : {Z : Type 0} (sub : Option (Box SubCommand Z)) (name : Text) (rows : List Row)
    → Some name ≡ option_map (λ b. (out-SubCommand (box_value b)).name.now) sub
    → Some rows ≡ option_map (λ p. p.1) (subcommand_rows sub)
    → subcommand_rows sub ≡ Some (name, rows)
subcommand_rows_is None name rows is_name are = search rules
subcommand_rows_is (Some b) name rows is_name are = search rules

-- a number that a getter read is in a row
pub gives_number : (found : Found) (id : Text) (n : ℕ)
    → (one_text found id ≡ None → ⊥)
    → ((text : Text) → one_text found id ≡ Some text → digits_value 10 (without_leading_plus text) ≡ n)
    → GivesNumber (rows_of found) id n
gives_number found id n some reads = go (one_text found id) refl
  where
    go : (o : Option Text) → one_text found id ≡ o → GivesNumber (rows_of found) id n
    go None is = absurd (some is)
    go (Some text) is = (text, sym (one_text-rows found id) ∙ is, reads text is)

-- an option without a match has no row
pub gives_none : (found : Found) (id : Text) → is_some (matched_of found id) ≡ false → one_of id (rows_of found) ≡ None
gives_none found id is = sym (one_text-rows found id) ∙ ap
    (option_and_then (λ (a : MatchedArg). option_map (λ s. read_as a.reading s.now) (slice_get a.vals.items 0)))
    (none (matched_of found id) is)
  where
    none : (o : Option MatchedArg) → is_some o ≡ false → o ≡ None
    none None is = refl
    none (Some a) is = absurd (true≢false is)
