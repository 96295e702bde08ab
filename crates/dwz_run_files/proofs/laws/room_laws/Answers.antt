use Rattle.dwz_run_files.proofs.UnitsFew.{entries_room, room}
use Rattle.dwz_run_files.proofs.laws.room_laws.Goals as goal

pub returns-clause-units : goal.returns-clause-units
returns-clause-units c = room

pub returns-clause-entries : goal.returns-clause-entries
returns-clause-entries c = entries_room
