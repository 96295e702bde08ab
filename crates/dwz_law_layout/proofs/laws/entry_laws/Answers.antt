use Rattle.std.proofs.Common.{refl}
use Rattle.dwz_law_layout.proofs.EntryFits.{entry_fits}
use Rattle.dwz_law_layout.proofs.laws.entry_laws.Goals as goal

pub returns : goal.returns
returns c = λ keys k f here ft rn i r d same file read known. entry_fits keys k f here ft rn here.holder refl same i r d file read known
