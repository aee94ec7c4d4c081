use Rattle.std.proofs.Common.{map, rules}
use Rattle.std.specs.FinMap as maps
use Rattle.std.proofs.lemmas.Result.{on_ok_weaker}
use Rattle.serde_json.specs.Events.{SendsValue}
use Rattle.ps_wire.specs.Value.{array_of, cell_value, count_value, pair_value, register_value}
use Rattle.ps_wire.proofs.write.Tuple2CellCellStateItem.send.Goals as goal

pub returns-clause-sent : goal.returns-clause-sent
unfolding cell_value
returns-clause-sent g c =
    let state = c.args.self.now.1 in
    let written = g.S.Serializer.written in
    let t = written c.begin_seq.new.self in
    let u = written c.send_name.new.out in
    let v = written c.send_register.new.out in
    let w = written c.send_array.new.out in
    let x = written c.send_array-2.new.out in
    let register : SendsValue (register_value state.register) u v = search rules in
    let counts : SendsValue (array_of (map count_value (maps.entries state.tally))) v w = search rules in
    let pairs : SendsValue (array_of (map pair_value (maps.entries state.choice))) w x = search rules in
    on_ok_weaker c.end_seq.result (λ e.
    (t, c.in_ok-begin_seq.ensures, (u, c.in_ok-send_name.ensures, (v, register, (w, counts, (x, pairs, e))))))
    c.end_seq.ensures
