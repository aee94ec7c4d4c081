use Rattle.std.proofs.Common.{◌≡◌, ◌+◌, ◌-◌, ◌∷◌, ℕ, List, ◌∙◌, ap, arith, drop, length, sym, take}
use Rattle.std.proofs.lemmas.List.{length-drop, take_all}
use Rattle.ps_keep.specs.Lines.{whole_lines}
use Rattle.ps_keep.proofs.OpenLemmas.{first_of_lines, none_of_lines}
use Rattle.ps_keep.proofs.opening.first_line.Goals as goal

rest_is : (bytes : List ℕ) (n : ℕ) → take (length bytes - n) (drop n bytes) ≡ drop n bytes
rest_is bytes n = take_all (length bytes - n) (drop n bytes) (omega (arith, length-drop n bytes))

pub returns-in-Some-clause-line : goal.returns-in-Some-clause-line
returns-in-Some-clause-line c =
    let found = c.in-Some.ensures in
    let bytes = c.args.bytes.now in
    first_of_lines bytes c.in-Some.place found.0.high found.0.before found.1
    ∙ ap (λ rest. take c.in-Some.place bytes ∷ whole_lines rest) (sym (rest_is bytes (c.in-Some.place + 1)))

pub returns-in-None-clause-none : goal.returns-in-None-clause-none
returns-in-None-clause-none c = λ _. none_of_lines c.args.bytes.now c.in-None.ensures
