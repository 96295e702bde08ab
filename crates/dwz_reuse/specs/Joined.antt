-- Labels and targets of all tops that looks across files go over.
use Rattle.std.specs.Prelude.{◌≡◌, ℕ, List}
use Rattle.dwz_def_reading.specs.Documents.{Doc}
use Rattle.dwz_def_check.specs.CrossNames.{CrossName}
use Rattle.dwz_check_labels.specs.Both.{top_labels, top_targets}

-- those of the tops of a common file, where that function names its places
abbrev pub AreCommonLists : Doc ℕ → (ℕ → CrossName) → List (List ℕ) → List (List ℕ) → Type 0
AreCommonLists common name labels targets = (labels ≡ top_labels name common.units) × (targets ≡ top_targets name common.units)
