use Rattle.std.proofs.Common.{◌≡◌, ◌++◌, ◌∷◌, [], Err, Some, true, false, ap, subst, ◌∙◌}
use Rattle.std.specs.Prelude.{MatchOption}
use Rattle.ps_delta.specs.Deltas.{Entries}
use Rattle.ps_lines.specs.KeptLines.{LineSays, LineSaysNothing}
use Rattle.ps_kept.specs.Starts.{PushesNew}
use Rattle.ps_kept.proofs.TakenLemmas.{not_new, of_answer, taken_new}
use Rattle.ps_kept.proofs.reading.take_in.Goals as goal

pub returns-in-Err-Delta-clause-refused : goal.returns-in-Err-Delta-clause-refused
returns-in-Err-Delta-clause-refused c = λ is d pushes.
    (c.read_kept_line.ensures.no_delta (c.in-Err-Delta.is ∙ ap Err c.in-Err-Delta.field-0-is)).1 d pushes.0

pub returns-clause-taken : goal.returns-clause-taken
returns-clause-taken c =
    let line = c.args.line.now in
    let found = c.in-Ok-Some-Push in
    let x = c.args.arrivals.now in
    let y = c.receive.new.self in
    of_answer c.receive.result _
    (λ is. is ≡ true → (d : Entries) × PushesNew x.deltas line d × (y.deltas ≡ x.deltas ++ d ∷ []))
    (λ is taken. taken_new line found.delta
    (subst (λ f. MatchOption f (LineSaysNothing line) (LineSays line)) (found.field-0-is ∙ ap Some found.field-0-0-is)
    found.ensures.says)
    x y is (taken [] c.requires.follow))
    c.receive.ensures.taken

pub returns-clause-refused : goal.returns-clause-refused
returns-clause-refused c =
    let line = c.args.line.now in
    let found = c.in-Ok-Some-Push in
    let x = c.args.arrivals.now in
    let y = c.receive.new.self in
    of_answer c.receive.result _
    (λ is. is ≡ false → (d : Entries) → ¬ PushesNew x.deltas line d)
    (λ is taken. not_new line found.delta
    (subst (λ f. MatchOption f (LineSaysNothing line) (LineSays line)) (found.field-0-is ∙ ap Some found.field-0-0-is)
    found.ensures.says)
    x y is (taken [] c.requires.follow))
    c.receive.ensures.taken

pub returns-clause-follow : goal.returns-clause-follow
returns-clause-follow c = c.receive.ensures.follow [] c.requires.follow
