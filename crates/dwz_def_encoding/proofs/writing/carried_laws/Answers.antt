use Rattle.dwz_def_encoding.specs.Carried.{OfFile}
use Rattle.dwz_def_encoding.proofs.CarriedMaps.{entries_carried, node_carried, unit_carried}
use Rattle.dwz_def_encoding.proofs.ReadAgain.{units_carried}
use Rattle.std.proofs.Common.{ℕ, ap}
use Rattle.dwz_def_reading.specs.Meanings.{Around}
use Rattle.dwz_def_encoding.proofs.writing.carried_laws.Goals as goal

pub returns-clause-read : goal.returns-clause-read
returns-clause-read c abbrevs info mode raw around units forms is means are built = units_carried abbrevs mode forms (OfFile around.sources) around (λ s a same. ap (λ (w : Around ℕ). w.sources) same)
    raw units 0 0 info is means are built

pub returns-clause-named : goal.returns-clause-named
returns-clause-named c sources origin = unit_carried (OfFile sources) origin

pub returns-clause-unit : goal.returns-clause-unit
returns-clause-unit c sources origin = unit_carried (OfFile sources) origin

pub returns-clause-entry : goal.returns-clause-entry
returns-clause-entry c sources origin = node_carried (OfFile sources) origin

pub returns-clause-entries : goal.returns-clause-entries
returns-clause-entries c sources origin = entries_carried (OfFile sources) origin
