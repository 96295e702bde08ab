use Rattle.dwz_def_reading.proofs.TextLemmas.{here_slot, no_slot, short_section, slot_here}
use Rattle.dwz_def_reading.proofs.texts.slot_laws.Goals as goal

pub returns-clause-here : goal.returns-clause-here
returns-clause-here c section base index number = (slot_here section base index number, here_slot section base index number)

pub returns-clause-none : goal.returns-clause-none
returns-clause-none c section base index = (no_slot section base index, short_section section base index)
