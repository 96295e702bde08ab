use Rattle.std.proofs.Common.{map, take}
use Rattle.dwz_graph.specs.ByRule.{AreReadBy, kind_of, rule_view}
use Rattle.dwz_graph.specs.Files.{limits_view}
use Rattle.dwz_graph.proofs.readings.files_by.Given as goal

abbrev pub invariant-loop-number : goal.invariant-loop-number
invariant-loop-number l = AreReadBy (rule_view l.rule) (kind_of l.rule) (limits_view l.all) 0 (map (λ v. v.items) (take l.number l.files)) l.kept.items (limits_view l.left)
