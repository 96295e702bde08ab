use Rattle.std.proofs.Common.{◌≡◌, ◌++◌, take}
use Rattle.dwz_unit.specs.Rows.{units_of}
use Rattle.dwz_graph.specs.Resolved.{around}
use Rattle.dwz_encode_texts.specs.Names.{names_of_spaces}
use Rattle.dwz_encode_texts.proofs.names.put_names.Given as goal

abbrev pub invariant-loop-space : goal.invariant-loop-space
invariant-loop-space l =
    l.texts.items ≡ l.fn.texts.items ++ names_of_spaces (around l.fn.file.sections (units_of l.fn.file.units)) (units_of l.fn.file.units) (take l.space-index l.spaces)
