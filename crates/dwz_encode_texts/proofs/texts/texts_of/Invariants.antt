use Rattle.std.proofs.Common.{◌≡◌, take}
use Rattle.std.specs.List.{flat_map}
use Rattle.dwz_unit.specs.Rows.{rows_of, units_of}
use Rattle.dwz_graph.specs.Resolved.{around}
use Rattle.dwz_encode_texts.specs.Texts.{row_texts}
use Rattle.dwz_encode_texts.proofs.texts.texts_of.Given as goal

abbrev pub invariant-loop-i : goal.invariant-loop-i
invariant-loop-i l = l.texts.items ≡ flat_map (row_texts (around l.sections (units_of l.units)) (units_of l.units)) (take l.i (rows_of (units_of l.units)))
