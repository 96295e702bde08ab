use Rattle.dwz_layout_numbers.proofs.BesideNames.{every_names, file_beside, tops_beside}
use Rattle.dwz_layout_numbers.proofs.CommonOwned.{common_owned}
use Rattle.dwz_layout_numbers.proofs.OverMoves.{over_holds, over_order, over_stands, over_still}
use Rattle.dwz_layout_numbers.proofs.laws.over_laws.Goals as goal

pub returns-clause-stand : goal.returns-clause-stand
returns-clause-stand c = over_stands

pub returns-clause-holds : goal.returns-clause-holds
returns-clause-holds c = over_holds

pub returns-clause-order : goal.returns-clause-order
returns-clause-order c = over_order

pub returns-clause-still : goal.returns-clause-still
returns-clause-still c = over_still

pub returns-clause-names : goal.returns-clause-names
returns-clause-names c = every_names

pub returns-clause-owners : goal.returns-clause-owners
returns-clause-owners c = common_owned

pub returns-clause-files : goal.returns-clause-files
returns-clause-files c = file_beside

pub returns-clause-tops : goal.returns-clause-tops
returns-clause-tops c = tops_beside
