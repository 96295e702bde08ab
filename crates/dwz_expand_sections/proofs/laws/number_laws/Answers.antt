use Rattle.dwz_expand_sections.proofs.GivenLemmas.{has_numbers}
use Rattle.dwz_expand_sections.proofs.laws.number_laws.Goals as goal

pub returns : goal.returns
returns c f read operands numbers are gives = has_numbers f read operands numbers are gives
