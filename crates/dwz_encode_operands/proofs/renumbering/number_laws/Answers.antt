use Rattle.dwz_encode_operands.proofs.FilePlaces.{itself, numbers_are, operands_there, start_there, targets}
use Rattle.dwz_encode_operands.proofs.LawLemmas.{lists_made, ranges_moved, section_made}
use Rattle.dwz_encode_operands.proofs.renumbering.number_laws.Goals as goal

pub returns-clause-there : goal.returns-clause-there
returns-clause-there c = λ beside f facts n bytes x index has. (let begins = start_there f facts n x index has.index_is in operands_there f facts n x index has.file has.index_is begins.0 begins.1)

pub returns-clause-themselves : goal.returns-clause-themselves
returns-clause-themselves c = λ beside f facts n bytes x index has e lt.
    (let begins = start_there f facts n x index has.index_is in itself f facts n x index has.file has.index_is begins.0 begins.1 e lt)

pub returns-clause-operands : goal.returns-clause-operands
returns-clause-operands c = λ beside f facts n bytes x index has start start_is at are units_at numbers of_units have.
    numbers_are f facts n x index has.file has.index_is start start_is at are units_at of_units numbers have

pub returns-clause-lists : goal.returns-clause-lists
returns-clause-lists c = λ beside f facts n bytes x index has start start_is at are units_at numbers of_units have.
    lists_made f facts n bytes x index has start start_is at are units_at of_units numbers have

pub returns-clause-section : goal.returns-clause-section
returns-clause-section c = λ beside f facts n bytes x index has start start_is at are units_at out of_units have. section_made f facts n bytes x index has start start_is at are units_at of_units out have

pub returns-clause-ranges : goal.returns-clause-ranges
returns-clause-ranges c = λ beside f facts n bytes x index has units_at new many are moved. ranges_moved f facts n bytes x index has units_at new many are moved

pub returns-clause-targets : goal.returns-clause-targets
returns-clause-targets c = λ beside f facts n bytes x index has start start_is at are references h. targets f facts n x index has.file has.index_is start start_is at are references h
