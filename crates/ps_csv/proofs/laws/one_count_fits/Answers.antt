use Rattle.ps_csv.proofs.OneCountFits.{one_count_fits}
use Rattle.ps_csv.proofs.laws.one_count_fits.Goals as goal

pub returns : goal.returns
returns c = one_count_fits
