use Rattle.std.proofs.Common.{◌≡◌, ◌∙◌, ap, sym, length, min, vec_len}
use Rattle.ps_desk.specs.Opening.{new_passes}
use Rattle.ps_server.specs.Sessions.{AreBack}
use Rattle.ps_server.proofs.Backs.{new_passes-length}
use Rattle.ps_server.proofs.server.serve_parts.Goals as goal

pub close-requires : goal.close-requires
close-requires g c =
    let given : vec_len c.in-Ok.opened.1 ≡ c.args.parts.seats =
    c.in-Ok.opened.1.ok.0 ∙ ap length c.in-Ok.ensures.passes ∙ new_passes-length c.args.parts.seats in
    record { passes = c.in-Ok-serve_all.ensures.len ∙ given ∙ sym c.in-Ok.ensures.seats }

pub returns-in-Ok-close-clause-served : goal.returns-in-Ok-close-clause-served
returns-in-Ok-close-clause-served g c =
    let closed = c.in-Ok-close.ensures in
    let given : vec_len c.in-Ok.opened.1 ≡ c.args.parts.seats =
    c.in-Ok.opened.1.ok.0 ∙ ap length c.in-Ok.ensures.passes ∙ new_passes-length c.args.parts.seats in
    let back = c.in-Ok-serve_all.served.1 in
    let count : length back.items ≡ c.args.parts.seats =
    sym back.ok.0 ∙ c.in-Ok-serve_all.ensures.len ∙ given in
    let seats : c.args.parts.seats ≡ min c.in-Ok-serve_all.served.0 c.args.options.seats =
    rw c.in-Ok-serve_all.ensures.asked at c.requires.seats in
    let came : AreBack g.L.DeskName.replica g.L.Named.opening c.in-Ok-serve_all.served.0
    (new_passes c.args.parts.seats) back.items =
    rw c.in-Ok.ensures.passes at c.in-Ok-serve_all.ensures.back in
    record {
      is_sheet = closed.sheet;
      replica = rw c.requires.named.replica closed.replica;
      passes = back.items;
      count = count ∙ seats;
      back = rw c.requires.named.replica (rw c.requires.named.history (rw count came));
      begins = rw c.requires.named.history closed.begins;
      grown = rw c.requires.named.history closed.grown;
      closed = rw c.requires.named.history closed.one;
    }
