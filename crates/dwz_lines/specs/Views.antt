-- Formats and rows of the code as the definitions see them.
use Rattle.std.specs.Prelude.{List, map}
use Rattle.dwz_model.specs.declared.place.Pair.{Pair}
use Rattle.dwz_def_reading.specs.LineTables.{format_of}
use Rattle.dwz_lines.specs.declared.formats.Format.{Format}

abbrev pub format_view : Format → Pair
format_view f = format_of f.content f.form

abbrev pub format_views : List Format → List Pair
format_views formats = map format_view formats
