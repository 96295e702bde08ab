use Rattle.dwz_expand_sections.proofs.NamingLemmas.{can_have_numbers}
use Rattle.dwz_expand_sections.proofs.laws.list_laws.Goals as goal

pub returns : goal.returns
returns c = can_have_numbers
