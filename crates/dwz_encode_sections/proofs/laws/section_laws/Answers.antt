use Rattle.dwz_encode_sections.proofs.ListLemmas.{all_end, all_patched}
use Rattle.dwz_encode_sections.proofs.RangeSetLemmas.{ranges_law}
use Rattle.dwz_encode_sections.proofs.SlotLemmas.{slots_law}
use Rattle.dwz_encode_sections.proofs.laws.section_laws.Goals as goal

pub returns : goal.returns
returns c = record { end = all_end; patched = all_patched; slots = slots_law; ranges = ranges_law }
