use Rattle.dwz_layout_input.proofs.Fits.{fit, made}
use Rattle.dwz_layout_input.proofs.FitsOver.{fit_over}
use Rattle.dwz_layout_input.proofs.laws.listed_laws.Goals as goal

pub returns-clause-fit : goal.returns-clause-fit
returns-clause-fit c = fit

pub returns-clause-over : goal.returns-clause-over
returns-clause-over c = fit_over

pub returns-clause-made : goal.returns-clause-made
returns-clause-made c = made
