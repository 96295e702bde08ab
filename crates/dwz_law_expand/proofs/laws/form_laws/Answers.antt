use Rattle.dwz_law_expand.proofs.FormLemmas.{can_be}
use Rattle.dwz_law_expand.proofs.laws.form_laws.Goals as goal

pub returns : goal.returns
returns c f bytes reads free = can_be f reads bytes free
