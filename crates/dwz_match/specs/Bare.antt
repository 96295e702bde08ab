-- Bare labels: of tops without their languages, as looks across files and a common file have them.
use Rattle.std.specs.Prelude.{◌≡◌, ℕ, ◌+◌, Bool, List, [], ◌∷◌, ◌++◌, length, Some, slice_get, slice_index_or}
use Rattle.dwz_def_reading.specs.Documents.{Doc}
use Rattle.dwz_def_reading.specs.Lists.{In}
use Rattle.dwz_def_reading.specs.Trees.{size}
use Rattle.dwz_def_tops.specs.Alike.{Movable}
use Rattle.dwz_def_tops.specs.Deciding.{AreMovable}
use Rattle.dwz_def_tops.specs.Spots.{Top, tops_of, units_of, name_list}
use Rattle.dwz_def_tops.specs.Targets.{targets_of}
use Rattle.dwz_def_cross.specs.Tops.{CrossTop}
use Rattle.dwz_def_check.specs.CrossLabels.{cross_label, cross_targets, cross_top_map}
use Rattle.dwz_def_check.specs.CrossNames.{CrossName, cross_names_from, cross_tops}
use Rattle.dwz_def_taken.specs.Beside.{look_units, own_tops, reused_of}
use Rattle.dwz_def_taken.specs.Laws.{ArePlacedOver}
use Rattle.dwz_label.specs.Labels.{counted, each_counted, entries_label, node_label}
use Rattle.dwz_label.specs.Shown.{AreShown, nth_label}
use Rattle.dwz_match.specs.Partial.{ArePartial}

-- the name list of a top, its entry, and all below it
abbrev pub bare_label : Top → List ℕ
bare_label t = each_counted counted (name_list t) ++ (node_label (size t.below) t.node ++ entries_label t.below)

-- Of a common file each place is called by its name, where its tops come behind those of the files.
abbrev pub AreCommonNames : List (Doc ℕ) → Doc ℕ → (ℕ → CrossName) → Type 0
AreCommonNames docs common name =
    (p : ℕ) (x : CrossName) → In (p, x) (cross_names_from 0 (own_tops (reused_of docs common)) common.units) → name p ≡ x

-- Labels and targets of all tops that looks go over, by number: of a top of the files that may move its bare label behind a zero byte,
-- and its targets; behind these of each top of the common file what looks across files have.
pub record ShowBare (docs : List (Doc ℕ)) (common : Doc ℕ) (name : ℕ → CrossName) (labels targets : List (List ℕ)) : Type 0 where
  pub labels_len : length labels ≡ length (tops_of (look_units (reused_of docs common)))
  pub targets_len : length targets ≡ length (tops_of (look_units (reused_of docs common)))
  pub own_labels : (t : Top) → In t (tops_of (units_of docs)) → Movable (units_of docs) t.number
      → nth_label labels t.number ≡ 0 ∷ bare_label t
  pub own_targets : (t : Top) → In t (tops_of (units_of docs)) → Movable (units_of docs) t.number
      → slice_index_or targets t.number [] ≡ targets_of t
  pub common_labels : (k : ℕ) (x : CrossTop ℕ) → slice_get (cross_tops common.units) k ≡ Some x
      → nth_label labels (own_tops (reused_of docs common) + k) ≡ 0 ∷ cross_label (cross_top_map name x)
  pub common_targets : (k : ℕ) (x : CrossTop ℕ) → slice_get (cross_tops common.units) k ≡ Some x
      → slice_index_or targets (own_tops (reused_of docs common) + k) [] ≡ cross_targets (cross_top_map name x)

-- so they show the tops that looks go over
abbrev pub BareLaw : Type 0
BareLaw =
    (docs : List (Doc ℕ)) (common : Doc ℕ) (name : ℕ → CrossName) (labels : List (List ℕ)) (movable : List Bool) (targets : List (List ℕ))
    → ArePlacedOver docs common → ArePartial common.units → AreCommonNames docs common name
    → AreMovable (look_units (reused_of docs common)) movable → ShowBare docs common name labels targets
    → AreShown (look_units (reused_of docs common)) labels movable targets
