use Rattle.std.proofs.Common.{◌≡◌, rules, sym, ◌∙◌, subst}
use Rattle.ps_wire.specs.Inside.{ReadsAs}
use Rattle.ps_wire.proofs.SentLemmas.{text_reads}
use Rattle.ps_wire.proofs.compact.confirm.Goals as goal

pub returns-then-eq-clause-reads : goal.returns-then-eq-clause-reads
returns-then-eq-clause-reads c =
    let same : c.as_slice.result.now ≡ c.args.line.now = search rules in
    let text : c.as_slice.result.now ≡ c.in_ok-text.text.items = search rules in
    subst (λ bytes. ReadsAs bytes c.args.delta) (sym c.in_ok-text.ensures.text ∙ sym text ∙ same)
    (text_reads c.args.delta c.in_ok-text.ensures.lawful)
