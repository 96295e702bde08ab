use Rattle.std.proofs.Common.{map}
use Rattle.dwz_graph.specs.Files.{limits_view}
use Rattle.dwz_graph.proofs.AloneLemmas.{given_hold}
use Rattle.dwz_graph.proofs.readings.given_alone.Goals as goal

pub returns : goal.returns
returns c = given_hold (limits_view c.args.all.now) (map (λ v. v.items) c.args.files.now) (λ kept. kept.items) c.files_by.result c.files_by.ensures
