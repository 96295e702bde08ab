use Rattle.dwz_def_readback.proofs.SomeOfRuns.{files_in_run, once_in_run, places_in_run, some_name, some_room, some_sections}
use Rattle.dwz_def_readback.proofs.laws.run_laws.Goals as goal

pub returns-clause-files : goal.returns-clause-files
returns-clause-files c = λ r some are f there. files_in_run r some are f there

pub returns-clause-once : goal.returns-clause-once
returns-clause-once c = λ r some are once. once_in_run r some are once

pub returns-clause-places : goal.returns-clause-places
returns-clause-places c = λ r some are once k key. places_in_run r some are once k key

pub returns-clause-names : goal.returns-clause-names
returns-clause-names c = λ scope docs rule placed is choice input some are f there. some_name scope docs rule placed is choice input some are f there

pub returns-clause-sections : goal.returns-clause-sections
returns-clause-sections c = λ scope docs rule placed is choice input some are f there. some_sections scope docs rule placed is choice input some are f there

pub returns-clause-room : goal.returns-clause-room
returns-clause-room c = λ scope docs rule placed is choice input some are f there room. some_room scope docs rule placed is choice input some are f there room
