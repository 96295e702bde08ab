use Rattle.dwz_def_tops.specs.Spots.{same_spot}
use Rattle.dwz_def_encoding.proofs.SameLemmas.{spots_same}
use Rattle.dwz_def_readback.proofs.SameRoom.{same_room}
use Rattle.dwz_def_readback.proofs.SameSections.{all_at, same_sections}
use Rattle.dwz_def_readback.proofs.SomeFiles.{some_number, some_once, some_pass}
use Rattle.dwz_def_readback.proofs.laws.fewer_laws.Goals as goal

pub returns-clause-once : goal.returns-clause-once
returns-clause-once c = λ all some are once. some_once all some are once

pub returns-clause-places : goal.returns-clause-places
returns-clause-places c = λ all some into once k key. some_number same_spot spots_same all some into once k key

pub returns-clause-sections : goal.returns-clause-sections
returns-clause-sections c = λ names m n units agree own only. same_sections m n units (all_at m n names units agree own only)

pub returns-clause-room : goal.returns-clause-room
returns-clause-room c = λ names m n units agree own only room. same_room m n units (all_at m n names units agree own only) room

pub returns-clause-filter : goal.returns-clause-filter
returns-clause-filter c = λ passes all. some_pass passes all
