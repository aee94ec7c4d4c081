use Rattle.std.proofs.Common.{◌≡◌, ◌+◌, ℕ, suc, List, [], ◌∷◌, ◌++◌, length, vec_len, Option, sym, ap, ◌∙◌, subst}
use Rattle.std.proofs.Common.{arith}
use Rattle.std.specs.Prelude.{IfSome, option_to_list}
use Rattle.std.proofs.lemmas.List.Elements.{All-pop}
use Rattle.ps_face.specs.declared.rule.View.{View}
use Rattle.ps_face.specs.Rules.{newcomer}
use Rattle.ps_desk.specs.Passes.{PassView}
use Rattle.ps_desk.specs.Opening.{new_pass, new_passes}
use Rattle.ps_desk.proofs.open.make_passes.Goals as goal

pub loop-seat-init : goal.loop-seat-init
unfolding new_passes
loop-seat-init g c =
    let len = c.requires.seats in
    let parts = c.requires.parts in (
      omega (arith, len),
      c.requires.readers,
      omega (arith, parts),
      c.requires.amount,
      c.in_ok-passes.ensures.items,
    )

pass_by : View → ℕ → PassView
pass_by v seat = record { list = v.list; enters = v.enters; appended = 0; seat = seat }

pub loop-seat-preserved : goal.loop-seat-preserved
unfolding new_passes pass_by
loop-seat-preserved g c =
    let before = c.loop-seat.invariant in
    let rest : List View = c.pop.new.self.items in
    let found = c.unwrap-reader.ensures in
    let new =
    All-pop (λ (v : View). v ≡ newcomer) c.loop-seat.readers.items rest c.pop.result c.pop.ensures.items before.1 in
    let is : c.unwrap-reader.result ≡ newcomer =
    subst (λ (r : Option View). IfSome r (λ v. v ≡ newcomer)) found new.1 in
    let pass : c.new.result ≡ new_pass c.loop-seat.seat =
    c.new.ensures ∙ ap (λ v. pass_by v c.loop-seat.seat) is in
    let less : vec_len c.pop.new.self + 1 ≡ vec_len c.loop-seat.readers =
    subst (λ (r : Option View). vec_len c.pop.new.self + length (option_to_list r) ≡ vec_len c.loop-seat.readers) found
    c.pop.ensures.len in
    let parts = c.split_off-share.ensures.parts_left in
    let amount = c.split_off-share.ensures.amount_left in
    let len = before.0 in
    let all = before.2 in
    let none = before.3 in
    let next : c.loop-seat.seat + 1 ≡ suc c.loop-seat.seat = omega arith in (
      omega (arith, less, len),
      new.0,
      omega (arith, parts, all),
      omega (arith, amount, none),
      c.in_ok-push.ensures.items ∙ ((λ i. (before.4 i) ++ (pass i) ∷ []) ∙ sym (ap new_passes next)),
    )
