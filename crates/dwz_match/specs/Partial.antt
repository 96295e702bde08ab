-- Common files, all of whose units are partial.
use Rattle.dwz_def_reading.specs.Documents.{DwUnit}
use Rattle.dwz_def_reading.specs.Lists.{In}
use Rattle.dwz_def_tops.specs.Seen.{IsPartial}
use Rattle.std.specs.Prelude.{List}

-- all units of a finished common file are partial
abbrev pub ArePartial : {P : Type 0} → List (DwUnit P) → Type 0
ArePartial {P} units = (u : DwUnit P) → In u units → IsPartial u.kind
