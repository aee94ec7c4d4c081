use Rattle.std.proofs.Common.{◌+◌, ◌∷◌, ◌≡◌, [], arith, drop, get_or, map, take, Some, sym, ap, ◌∙◌, subst}
use Rattle.std.specs.List.{All}
use Rattle.std.proofs.lemmas.List.{drop_more, drop_all, take_more, take_all}
use Rattle.std.proofs.lemmas.List.Elements.{All-push}
use Rattle.std.proofs.lemmas.Result.{on_ok_weaker}
use Rattle.serde.specs.Event.{Logs, seq_begins}
use Rattle.serde_json.specs.Events.{SendsItems}
use Rattle.serde_json.specs.View.{items_of}
use Rattle.ps_wire.proofs.SentLemmas.{items_sent}
use Rattle.ps_wire.proofs.write.send_array.Goals as goal

pub loop-item-init : goal.loop-item-init
loop-item-init g c = record {
  ended = λ end w. w;
  hold = λ i d within. absurd (omega (arith, within));
}

pub loop-item-preserved : goal.loop-item-preserved
loop-item-preserved g c =
    let l = c.loop-item in
    let xs = c.args.items.now in
    let i = l.item-index in
    let x = c.item-item.result in
    let written = g.S.Serializer.written in
    let here : drop i xs ≡ x ∷ drop (i + 1) xs =
    drop_more xs i x (omega arith) ∙ ap (λ y. y ∷ drop (i + 1) xs) (sym c.item-item.is) in
    record {
      ended = λ end rest.
          l.invariant.ended end
          (subst (λ ys. SendsItems (items_of (map g.I.Item.spelled ys)) (written l.out) end) (sym here)
          (written c.send.new.out, c.in_ok-send.ensures.sent, rest));
      hold =
          subst (All g.I.Item.holds) (sym (take_more xs i x (omega arith)))
          (All-push g.I.Item.holds (take i xs) (get_or xs i x) l.invariant.hold
          (subst g.I.Item.holds c.item-item.is c.in_ok-send.ensures.holds));
    }

pub returns-clause-sent : goal.returns-clause-sent
returns-clause-sent g c =
    let l = c.loop-item in
    let xs = c.args.items.now in
    let written = g.S.Serializer.written in
    let begun = written c.begin_seq.new.self in
    let end = written c.end_seq.new.self in
    let none : drop l.item-index xs ≡ [] = drop_all l.item-index xs (omega arith) in
    let opened = subst (λ n. Logs (written c.args.out.now) begun (seq_begins (Some n)))
    (sym (items_sent g.I.Item.spelled xs)) c.in_ok-begin_seq.ensures in
    on_ok_weaker c.end_seq.result (λ e. (
      begun,
      opened,
      l.invariant.ended end
          (subst (λ ys. SendsItems (items_of (map g.I.Item.spelled ys)) (written l.out) end) (sym none) e),
    ))
    c.end_seq.ensures

pub returns-clause-hold : goal.returns-clause-hold
returns-clause-hold g c =
    on_ok_weaker c.end_seq.result (λ e.
    subst (All g.I.Item.holds) (take_all c.loop-item.item-index c.args.items.now (omega arith))
    c.loop-item.invariant.hold) c.end_seq.ensures
