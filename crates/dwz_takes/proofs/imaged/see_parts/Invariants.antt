use Rattle.std.proofs.Common.{take}
use Rattle.std.specs.List.{flat_map}
use Rattle.dwz_takes.specs.Images.{AreLeast}
use Rattle.dwz_takes.specs.Takes.{list_at}
use Rattle.dwz_takes.proofs.imaged.see_parts.Given as goal

abbrev pub invariant-loop-part : goal.invariant-loop-part
invariant-loop-part l = AreLeast l.rows.classes (flat_map (list_at l.rows.part_tops) (take l.part-index l.parts)) l.firsts
