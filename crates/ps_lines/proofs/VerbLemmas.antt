-- All verbs.
use Rattle.std.proofs.Common.{◌∷◌, [], refl, arith}
use Rattle.std.specs.Prelude.{Contains}
use Rattle.ps_lines.specs.declared.verb.Verb.{Verb}
use Rattle.ps_lines.specs.declared.verb.Verb.TheVariants.{Add, Choose, Entries, Entry, Get, Merge}
use Rattle.ps_lines.specs.declared.verb.Verb.TheVariants.{Pull, Push, Replica, Rows, Set, Sub, Unchoose, Wait}

pub all_verbs : (verb : Verb)
    → Contains
    (Get ∷ Set ∷ Add ∷ Sub ∷ Choose ∷ Unchoose ∷ Rows ∷ Entry ∷ Entries ∷ Push ∷ Merge ∷ Pull ∷ Replica ∷ Wait
    ∷ [])
    verb
all_verbs Get = (0, omega arith, refl)
all_verbs Set = (1, omega arith, refl)
all_verbs Add = (2, omega arith, refl)
all_verbs Sub = (3, omega arith, refl)
all_verbs Choose = (4, omega arith, refl)
all_verbs Unchoose = (5, omega arith, refl)
all_verbs Rows = (6, omega arith, refl)
all_verbs Entry = (7, omega arith, refl)
all_verbs Entries = (8, omega arith, refl)
all_verbs Push = (9, omega arith, refl)
all_verbs Merge = (10, omega arith, refl)
all_verbs Pull = (11, omega arith, refl)
all_verbs Replica = (12, omega arith, refl)
all_verbs Wait = (13, omega arith, refl)
