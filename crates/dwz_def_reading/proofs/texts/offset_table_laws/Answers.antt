use Rattle.dwz_def_reading.proofs.OffsetLemmas.{slots_again, slots_found}
use Rattle.dwz_def_reading.proofs.texts.offset_table_laws.Goals as goal

pub returns : goal.returns
returns c = record { found = λ section places. (slots_found section places, slots_again section places) }
