use Rattle.std.proofs.Common.{◌≡◌, drop}
use Rattle.dwz_def_reading.specs.LineTables.{names_strs}
use Rattle.dwz_lines.specs.Views.{format_views}
use Rattle.dwz_lines.proofs.formats.names_strs.Given as goal

abbrev pub invariant-loop-format : goal.invariant-loop-format
invariant-loop-format l = names_strs (format_views (drop l.format-index l.formats)) ≡ names_strs (format_views l.formats)
