use Rattle.dwz_layout_order.proofs.FitLemmas.{parts_fit}
use Rattle.dwz_layout_order.proofs.fits.fit_laws.Goals as goal

pub returns : goal.returns
returns c = parts_fit
