use Rattle.dwz_def_taken.proofs.NamesOver.{named_over}
use Rattle.dwz_def_taken.proofs.PlaceLemmas.{whole}
use Rattle.dwz_def_taken.specs.Beside.{reused_of}
use Rattle.dwz_match.proofs.ClassFacts.{class_law, kin_law}
use Rattle.dwz_match.proofs.FlagFacts.{flags_law}
use Rattle.dwz_match.proofs.LookCount.{look_many}
use Rattle.dwz_match.proofs.laws.match_laws.Goals as goal

pub returns-clause-classes : goal.returns-clause-classes
returns-clause-classes c = class_law

pub returns-clause-kin : goal.returns-clause-kin
returns-clause-kin c = kin_law

pub returns-clause-count : goal.returns-clause-count
returns-clause-count c docs common placed = look_many (reused_of docs common) (whole (reused_of docs common) (named_over docs common placed))

pub returns-clause-flags : goal.returns-clause-flags
returns-clause-flags c = flags_law
