use Rattle.dwz_run_course.proofs.StopLemmas.{among, first, prefixes}
use Rattle.dwz_run_course.proofs.stops.stop_laws.Goals as goal

pub returns : goal.returns
returns c = record { prefixes = prefixes; first = first; among = among }
