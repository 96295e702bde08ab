use Rattle.std.proofs.Common.{ℕ, ◌-◌, ◌∙◌, ap}
use Rattle.dwz_graph.specs.Files.{limits_view}
use Rattle.dwz_unit.specs.Rows.{units_of}
use Rattle.dwz_graph.proofs.GraphLemmas.{behind_is}
use Rattle.dwz_graph.proofs.readings.behind.Goals as goal

pub returns : goal.returns
returns c = λ is. behind_is (limits_view c.args.left.now) c.args.bytes.now (units_of c.args.file.now.units) c.args.file.now.elf c.saturating_sub.result c.saturating_sub-2.result c.machine.result is
    c.saturating_sub.ensures (c.saturating_sub-2.ensures ∙ ap (λ (n : ℕ). c.args.left.now.entries - n) c.entries.ensures) c.machine.ensures
