use Rattle.std.proofs.Common.{◌-◌, map}
use Rattle.std.specs.List.{range_with_len}
use Rattle.dwz_groups.proofs.PartLemmas.{Parted}
use Rattle.dwz_label.proofs.labels.Labels.from_writer.Given as goal

abbrev pub invariant-loop-n : goal.invariant-loop-n
invariant-loop-n g l = Parted (map (g.W.LabelWriter.label l.fn.writer) (range_with_len l.fn.first (l.n - l.fn.first))) l.ends.items l.bytes.items
