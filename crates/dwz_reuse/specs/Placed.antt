-- Files that were read, and a finished common file beside them.
use Rattle.std.specs.Prelude.{◌≡◌, ℕ, List, Ok}
use Rattle.dwz_def_reading.specs.Documents.{Doc}
use Rattle.dwz_def_reading.specs.Files.{Limits, file_meaning_by, no_files_before}
use Rattle.dwz_def_reading.specs.Finished.{BesideDocs, beside_meaning, rule_of_common}
use Rattle.dwz_def_reading.specs.Units.{RawUnit}
use Rattle.dwz_def_taken.specs.Beside.{offsets_doc}
use Rattle.dwz_def_taken.specs.Laws.{ArePlacedOver}
use Rattle.dwz_graph.specs.ByRule.{numbered_rule}
use Rattle.dwz_graph.specs.Files.{AreKept, docs_of}
use Rattle.dwz_graph.specs.declared.file.File.{File}
use Rattle.dwz_match.specs.Partial.{ArePartial}

-- the common file says this, with its offsets for places
abbrev pub SaysCommon : ℕ → Limits → List ℕ → List RawUnit → Doc ℕ → Type 0
SaysCommon number l bytes raw common = file_meaning_by (numbered_rule (rule_of_common number)) l bytes ≡ Ok (raw, common)

abbrev pub PlacedLaw : Type 0
PlacedLaw =
    (contents : List (List ℕ)) (files : List File) (number : ℕ) (l : Limits) (bytes : List ℕ) (raw : List RawUnit) (common : Doc ℕ)
    → AreKept contents files
    → SaysCommon number l bytes raw common → ArePlacedOver (docs_of contents) common

abbrev pub PartialLaw : Type 0
PartialLaw =
    (number : ℕ) (l : Limits) (bytes : List ℕ) (raw : List RawUnit) (common : Doc ℕ) → SaysCommon number l bytes raw common
    → ArePartial common.units

-- files that were read beside the common one say what they say by themselves, and it says this
abbrev pub BesideLaw : Type 0
BesideLaw =
    (contents : List (List ℕ)) (files : List File) (number : ℕ) (bytes : List ℕ) (raw : List RawUnit) (common : Doc ℕ) (said : BesideDocs)
    → AreKept contents files → SaysCommon number no_files_before bytes raw common → beside_meaning bytes contents ≡ Ok said
    → (said.docs ≡ docs_of contents) × (offsets_doc said.common ≡ common)
