-- What definitions see of a section that is given to be written.
use Rattle.std.specs.Prelude.{List, map}
use Rattle.dwz_def_reading.specs.PlainFile.{PlainSection}
use Rattle.dwz_sup.specs.declared.plain.PlainSection.{PlainSection as Given}

abbrev pub section_seen : Given → PlainSection
section_seen s = record { name = s.name.now; flags = s.flags; entry_size = s.entry_size; bytes = s.bytes.now }

abbrev pub sections_seen : List Given → List PlainSection
sections_seen sections = map section_seen sections
