use Rattle.std.proofs.Common.{◌≡◌, drop}
use Rattle.std.specs.List.{find}
use Rattle.std.specs.Str.{str_eq_ignore_ascii_case}
use Rattle.ps_tokens.specs.Inside.Lexing.{function_of}
use Rattle.ps_tokens.specs.Names.{function_name}
use Rattle.ps_tokens.specs.declared.token.TheConstants.{FUNCTIONS}
use Rattle.ps_tokens.proofs.front.function.Given as goal

-- the first of the functions left that has the name is the first of all
abbrev pub invariant-loop-function : goal.invariant-loop-function
invariant-loop-function l =
    find (λ f. str_eq_ignore_ascii_case l.name (function_name f)) (drop l.function-index FUNCTIONS) ≡ function_of
    l.name
