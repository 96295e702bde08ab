-- The labels of two files and of their common one, where numbers stand for places.
use Rattle.std.specs.Prelude.{◌≡◌, ℕ, List, [], ◌++◌, map, Option, Some, None}
use Rattle.dwz_def_reading.specs.Documents.{DwUnit, node_map}
use Rattle.dwz_def_check.specs.CrossLabels.{cross_label, cross_targets, cross_top_map, lone_label, lone_targets}
use Rattle.dwz_def_check.specs.CrossNames.{CrossName, cross_tops}
use Rattle.dwz_def_check.specs.CrossNodes.{lone_entries}
use Rattle.dwz_check_labels.specs.declared.source.Source.{Source}
use Rattle.dwz_check_labels.specs.Files.{KnowsSource}

-- ---- of one file

abbrev pub top_labels : (ℕ → CrossName) → List (DwUnit ℕ) → List (List ℕ)
top_labels name said = map (λ t. cross_label (cross_top_map name t)) (cross_tops said)

abbrev pub top_targets : (ℕ → CrossName) → List (DwUnit ℕ) → List (List ℕ)
top_targets name said = map (λ t. cross_targets (cross_top_map name t)) (cross_tops said)

abbrev pub lone_labels : (ℕ → CrossName) → List (DwUnit ℕ) → List (List ℕ)
lone_labels name said = map (λ d. lone_label (node_map name d)) (lone_entries said)

abbrev pub lone_into : (ℕ → CrossName) → List (DwUnit ℕ) → List (List ℕ)
lone_into name said = map (λ d. lone_targets (node_map name d)) (lone_entries said)

-- ---- of all

-- what each file says, and a function that names what stands for its places
pub record Named : Type 0 where
  pub said : List (DwUnit ℕ)
  pub name : ℕ → CrossName

-- in the order of the numbers of `old_side` and `new_side`
abbrev pub all_labels : Named → Named → Named → List (List ℕ)
all_labels old new common =
    top_labels old.name old.said
    ++ (top_labels new.name new.said ++ (top_labels common.name common.said ++ (lone_labels old.name old.said ++ lone_labels new.name
    new.said)))

abbrev pub all_targets : Named → Named → Named → List (List ℕ)
all_targets old new common =
    top_targets old.name old.said
    ++ (top_targets new.name new.said ++ (top_targets common.name common.said ++ (lone_into old.name old.said ++ lone_into new.name
    new.said)))

abbrev pub KnowsNamed : Source → Named → Type 0
KnowsNamed x n = KnowsSource x n.said n.name

-- there is no common file, which then says nothing
abbrev pub KnowsBeside : Option Source → Named → Type 0
KnowsBeside None n = n.said ≡ []
KnowsBeside (Some x) n = KnowsNamed x n
