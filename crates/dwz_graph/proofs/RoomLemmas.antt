-- What is read where so many entries may come is read as well where others may, if that is as many as there are.
use Rattle.std.proofs.Common.{◌≡◌, ℕ, List, Ok, arith}
use Rattle.dwz_def_reading.specs.Entries.{given}
use Rattle.dwz_def_reading.specs.Units.{RawUnit}
use Rattle.dwz_def_reading.specs.Documents.{Doc}
use Rattle.dwz_def_reading.specs.Files.{Limits, Reads, file_meaning}
use Rattle.dwz_def_reading.proofs.FileLemmas.{file_agrees}
use Rattle.dwz_def_reading.proofs.RoomLemmas.{units_fit}
use Rattle.dwz_graph.specs.Ahead.{IsEnough}

reads_fit : (l m : Limits) (bytes : List ℕ) (units : List RawUnit) (doc : Doc ℕ) → IsEnough m bytes units → Reads l bytes units doc → Reads m bytes units doc
reads_fit l m bytes units doc enough r = record {
  size = enough.size;
  elf = r.elf;
  same_machine = enough.machine;
  sup = r.sup;
  spelled = units_fit m.entries _ (given l.entries) 0 0 units 0 _ (let few = enough.entries in omega arith) r.spelled;
  means = r.means;
  machine = r.machine;
  ranges = r.ranges;
  lists = r.lists;
}

-- a file means the same behind any others that leave enough for it
pub meaning_fits : (l m : Limits) (bytes : List ℕ) (units : List RawUnit) (doc : Doc ℕ) → IsEnough m bytes units
    → file_meaning l bytes ≡ Ok (units, doc) → file_meaning m bytes ≡ Ok (units, doc)
meaning_fits l m bytes units doc enough is = ((file_agrees m bytes).ok (units, doc)).1 (reads_fit l m bytes units doc enough (((file_agrees l bytes).ok (units, doc)).0 is))
