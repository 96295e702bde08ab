use Rattle.dwz_law_layout.proofs.OverFacts.{are_facts}
use Rattle.dwz_law_layout.proofs.OverMoves.{over_moves}
use Rattle.dwz_law_layout.proofs.OverWhole.{over_whole}
use Rattle.dwz_law_layout.proofs.StandingRows.{standing_rows}
use Rattle.dwz_law_layout.proofs.over_laws.Goals as goal

pub returns-clause-moves : goal.returns-clause-moves
returns-clause-moves c = over_moves

pub returns-clause-whole : goal.returns-clause-whole
returns-clause-whole c = over_whole

pub returns-clause-facts : goal.returns-clause-facts
returns-clause-facts c = are_facts

pub returns-clause-rows : goal.returns-clause-rows
returns-clause-rows c = standing_rows
