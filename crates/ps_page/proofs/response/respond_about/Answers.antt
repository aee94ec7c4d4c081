use Rattle.ps_page.proofs.ResponseLemmas.{four_pieces, on_ok}
use Rattle.ps_page.proofs.response.respond_about.Goals as goal

pub returns : goal.returns
returns g c = on_ok c.flush.result (four_pieces _ _ _ _ _ _ _ _ _ _ c.in_ok-write_all.ensures.bytes
    (rw (c.as_bytes.ensures.value, c.format.ensures.text) at c.in_ok-write_all-2.ensures.bytes)
    c.in_ok-write_all-3.ensures.bytes c.in_ok-write_all-4.ensures.bytes c.flush.ensures.bytes)
