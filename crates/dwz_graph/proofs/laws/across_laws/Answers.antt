use Rattle.dwz_graph.proofs.FileCounts.{all_ends, are_many, found, starts_are}
use Rattle.dwz_graph.proofs.FileRoom.{tops_small}
use Rattle.dwz_graph.proofs.FileWalk.{is_among}
use Rattle.dwz_graph.proofs.laws.across_laws.Goals as goal

pub returns-clause-many : goal.returns-clause-many
returns-clause-many c = are_many

pub returns-clause-each : goal.returns-clause-each
returns-clause-each c = is_among

pub returns-clause-starts : goal.returns-clause-starts
returns-clause-starts c = starts_are

pub returns-clause-end : goal.returns-clause-end
returns-clause-end c = all_ends

pub returns-clause-found : goal.returns-clause-found
returns-clause-found c = found

pub returns-clause-room : goal.returns-clause-room
returns-clause-room c = λ contents files indexes file kept is. tops_small contents files indexes kept is file
