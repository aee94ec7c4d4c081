-- The news of a delta that has a line has one.
use Rattle.std.proofs.Common.{arith}
use Rattle.ps_delta.specs.State.{State}
use Rattle.ps_delta.specs.Deltas.{Entries}
use Rattle.ps_wire.proofs.NewsLineLemmas.{news_fit}
use Rattle.ps_lines.specs.PullReplies.{HasLine}
use Rattle.ps_sheet.specs.Merges.{IsNewsDelta}

pub news_line : (s : State) (d n : Entries) → HasLine d → IsNewsDelta s d n → HasLine n
news_line s d n line news =
    let fit = news_fit s d n line.lawful news.delta news.news in
    record { lawful = fit.0; fits = omega (arith, fit.1, line.fits) }
