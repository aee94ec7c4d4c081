use Rattle.serde_json.specs.View.{view}
use Rattle.ps_wire.proofs.LineLemmas.{found_by_line}
use Rattle.ps_wire.proofs.decoder.decode_value.Goals as goal

pub returns-clause-read : goal.returns-clause-read
returns-clause-read c =
    found_by_line c.args.bytes.now (view c.in_ok-value.value) c.read_delta.result c.in_ok-value.ensures.found.1
    c.read_delta.ensures.found c.read_delta.ensures.refused
