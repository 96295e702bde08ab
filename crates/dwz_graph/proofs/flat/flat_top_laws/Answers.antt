use Rattle.dwz_graph.proofs.FileTops.{file_top}
use Rattle.dwz_graph.proofs.PartLemmas.{rows_unit}
use Rattle.dwz_graph.proofs.TopThere.{has_top}
use Rattle.dwz_graph.proofs.flat.flat_top_laws.Goals as goal

pub returns-clause-below : goal.returns-clause-below
returns-clause-below c s name f g file number n unit language outer from rows after t means h is = has_top s name rows file number unit language f g n outer from after t means h is

pub returns-clause-in_file : goal.returns-clause-in_file
returns-clause-in_file c = file_top

pub returns-clause-unit : goal.returns-clause-unit
returns-clause-unit c = rows_unit
