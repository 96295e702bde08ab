-- The end of a table, as the definitions see it.
use Rattle.std.specs.Prelude.{List}
use Rattle.dwz_def_reading.specs.Abbrevs.{Declaration}
use Rattle.dwz_unit.specs.declared.found.TableTail.{TableTail}
use Rattle.dwz_unit.specs.Tails.{tail_in}

-- its declarations
abbrev pub tail_view : TableTail → List Declaration
tail_view t = tail_in t.joined.now.tables t.tail
