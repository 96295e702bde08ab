-- The first of files that are read is counted by its units as they are stored.
use Rattle.std.proofs.Common.{◌≡◌, ℕ, List, [], ◌∷◌, length, Ok, subst}
use Rattle.dwz_def_reading.specs.Units.{entries_in}
use Rattle.dwz_def_reading.specs.Files.{file_meaning, no_files_before}
use Rattle.dwz_graph.specs.Files.{HasRead}
use Rattle.dwz_graph.specs.declared.file.File.{File}
use Rattle.dwz_unit.specs.Rows.{units_of}
use Rattle.dwz_show_entries.specs.Counting.{AreCounted}

pub counted : (contents : List (List ℕ)) (bytes : List ℕ) (f : File) (units entries : ℕ) → HasRead contents 0 bytes f → units ≡ length (units_of f.units) → entries ≡ entries_in (units_of f.units)
    → AreCounted bytes (record { units = units; entries = entries })
counted [] bytes f units entries has len all = absurd has.there
counted (b ∷ contents) bytes f units entries has len all = record {
  raw = units_of f.units;
  doc = has.read.doc;
  read = subst (λ (w : List ℕ). file_meaning no_files_before w ≡ Ok (units_of f.units, has.read.doc)) has.there.1 has.there.2;
  units = len;
  entries = all;
}
