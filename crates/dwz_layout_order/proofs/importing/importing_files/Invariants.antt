use Rattle.std.proofs.Common.{take}
use Rattle.dwz_layout_order.proofs.ImportingLemmas.{Flagged}
use Rattle.dwz_layout_order.proofs.importing.importing_files.Given as goal

abbrev pub invariant-loop-part : goal.invariant-loop-part
invariant-loop-part l = Flagged l.files l.tops.files_of_units (take l.part-index l.plan.partials) l.flags.items
