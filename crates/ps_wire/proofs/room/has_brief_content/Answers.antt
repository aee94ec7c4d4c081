use Rattle.std.proofs.Common.{◌≤◌, Option, sym, subst}
use Rattle.std.proofs.lemmas.Bool.{OnTrue_at, OnTrue_from}
use Rattle.std.specs.Prelude.{IfSome, IsTrue}
use Rattle.ps_lattice.specs.Register.{is_stamp, looked_at}
use Rattle.ps_lattice.specs.declared.register.Assignment.{Assignment}
use Rattle.ps_content.specs.declared.content.Content.{Content}
use Rattle.ps_wire.specs.Length.{size}
use Rattle.ps_wire.specs.Value.{register_value}
use Rattle.ps_wire.proofs.BriefLemmas.{size-brief_register}
use Rattle.ps_wire.proofs.room.has_brief_content.Goals as goal

pub returns-in-Some : goal.returns-in-Some
returns-in-Some c =
    let held = c.in-Some.ensures.value in
    let InRange = λ (r : Option (Assignment Content)). IfSome r (λ a. IsTrue (is_stamp a.time a.replica)) in
    let stamp = subst InRange (sym held) c.in-Some.ensures.in_range in
    OnTrue_from _ _ (λ brief.
    subst (λ (r : Option (Assignment Content)). size (register_value r) ≤ 44) held
    (size-brief_register (looked_at c.in-Some.assignment) stamp (OnTrue_at brief c.is_brief_content.ensures)))
