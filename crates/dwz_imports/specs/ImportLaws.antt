-- Laws: the same of imports as relations, and that files that were read say what is asked for.
use Rattle.std.specs.Prelude.{◌≡◌, ◌↔◌, ℕ, false, List, [], map, Some, None}
use Rattle.dwz_def_reading.specs.Documents.{DwUnit, Entries, Node, unit_map}
use Rattle.dwz_def_reading.specs.Files.{Limits}
use Rattle.dwz_def_reading.specs.Finished.{GivenCommon, rule_of_back, rule_of_common}
use Rattle.dwz_def_reading.specs.Lists.{In}
use Rattle.dwz_def_tops.specs.Lists.{NoneTwice}
use Rattle.dwz_def_tops.specs.Seen.{IsChild, IsImport}
use Rattle.dwz_def_tops.specs.Shown.{units_keys}
use Rattle.dwz_def_expand.specs.Source.{imported_in, once}
use Rattle.dwz_graph.specs.declared.file.File.{File}
use Rattle.dwz_graph.specs.ByRule.{IsReadBy, numbered_rule}
use Rattle.dwz_graph.specs.Surroundings.{behind_own}
use Rattle.dwz_unit.specs.declared.mode.FileKind.{FileKind}
use Rattle.dwz_unit.specs.Rows.{units_of}
use Rattle.dwz_imports.specs.Imports.{AreUnits, imports_any, same}
use Rattle.dwz_imports.specs.Said.{SaysBeside}

-- an entry imports none exactly if it is an import of no partial unit
abbrev pub ImportsNoneLaw : Type 0
ImportsNoneLaw =
    (units : List (DwUnit ℕ)) (e : Node ℕ) → (imports_any units e ≡ false) ↔ ((v : DwUnit ℕ) → IsImport units e v → ⊥)

-- just the partial units that one of these entries imports are of these numbers, where no place stands twice
abbrev pub ImportedLaw : Type 0
ImportedLaw =
    (units : List (DwUnit ℕ)) (f : Entries ℕ) (numbers : List ℕ) → NoneTwice (units_keys units)
    → AreUnits units numbers (once same (imported_in same units f)) → (v : DwUnit ℕ)
    → In v (once same (imported_in same units f)) ↔ ((e : Node ℕ) × IsChild e f × IsImport units e v)

-- ---- files that were read

-- a file by itself says what its document does
abbrev pub SaysAloneLaw : Type 0
SaysAloneLaw =
    (own : ℕ) (kind : FileKind) (l : Limits) (number : ℕ) (bytes : List ℕ) (f : File)
    → (read : IsReadBy (numbered_rule (rule_of_back None own)) kind l number bytes f)
    → SaysBeside (units_of f.units) [] (record { own = read.doc.units; common = [] })

-- and so does one beside a common file
abbrev pub SaysBesideLaw : Type 0
SaysBesideLaw =
    (given : GivenCommon) (own : ℕ) (kind : FileKind) (l : Limits) (number : ℕ) (bytes : List ℕ) (f : File)
    → (read : IsReadBy (numbered_rule (rule_of_back (Some given) own)) kind l number bytes f)
    → (m : ℕ) (common_kind : FileKind) (k : Limits) (common_number : ℕ) (common_bytes : List ℕ) (c : File)
    → (common : IsReadBy (numbered_rule (rule_of_common m)) common_kind k common_number common_bytes c)
    → SaysBeside (units_of f.units) (units_of c.units) (record {
      own = read.doc.units;
      common = map
          (unit_map behind_own) common.doc.units;
    })
