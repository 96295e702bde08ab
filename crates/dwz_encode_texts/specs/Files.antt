-- The texts of a file that was read.
use Rattle.std.specs.Prelude.{List}
use Rattle.dwz_unit.specs.Rows.{units_of}
use Rattle.dwz_graph.specs.Resolved.{around}
use Rattle.dwz_graph.specs.declared.file.File.{File}
use Rattle.dwz_layout.specs.declared.known.TextAt.{TextAt}
use Rattle.dwz_encode_texts.specs.Texts.{file_texts}

abbrev pub texts_in_file : File → List TextAt
texts_in_file x = file_texts (around x.sections (units_of x.units)) (units_of x.units)
