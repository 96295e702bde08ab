-- What is known of files that were read, from which labels are written.
use Rattle.std.specs.Prelude.{◌≡◌, ℕ, ◌≤◌, ◌^◌, List, [], length, Option, Some, None, Ok}
use Rattle.dwz_def_reading.specs.Documents.{DwUnit}
use Rattle.dwz_def_reading.specs.Lists.{In}
use Rattle.dwz_def_reading.specs.Meanings.{Around, Common, all_places}
use Rattle.dwz_def_reading.specs.Meant.{units_meaning}
use Rattle.dwz_def_reading.specs.Units.{entries_in}
use Rattle.dwz_def_check.specs.CrossNames.{CrossName, cross_names_from}
use Rattle.dwz_check_index.specs.Both.{IsBeside, from_top}
use Rattle.dwz_check_index.specs.Index.{CrossIndex, IsCrossIndex}
use Rattle.dwz_check_index.specs.declared.both.CrossIndexes.{CrossIndexes}
use Rattle.dwz_graph.specs.declared.file.File.{File}
use Rattle.dwz_graph.specs.Parts.{AreParted, HaveLines}
use Rattle.dwz_graph.specs.Resolved.{sources_view}
use Rattle.dwz_graph.specs.Surroundings.{AreAmong, behind_own}
use Rattle.dwz_unit.specs.Rows.{units_of}
use Rattle.dwz_check_labels.specs.Both.{Named, all_labels, all_targets, top_labels, top_targets}

-- what a common file gives to the others
abbrev pub given_by : Option File → Option (Common ℕ)
given_by None = None
given_by (Some c) = Some (record { entries = all_places (units_of c.units); place = behind_own; strs = c.sections.strs.bytes.now })

abbrev pub around_given : File → Option (Common ℕ) → Around ℕ
around_given f common = record { sources = sources_view f.sections; all = all_places (units_of f.units); place = λ n. n; common = common }

-- the file says this beside the common one, and its entries are few enough for an index
pub record IsFileSaid (f : File) (common : Option (Common ℕ)) (said : List (DwUnit ℕ)) : Type 0 where
  pub means : units_meaning (around_given f common) (units_of f.units) ≡ Ok said
  pub refs : AreAmong common (units_of f.units) f.resolved.refs.items
  pub parts : AreParted (around_given f common) (units_of f.units) (entries_in (units_of f.units)) f.resolved.refs.items
      f.resolved.starts.items
  pub lines : HaveLines (around_given f common) (units_of f.units) (length (units_of f.units)) f.resolved.tables.items
      f.resolved.lines.items
  pub few : entries_in (units_of f.units) ≤ 2 ^ 28

-- the common file says this by itself; where there is none, nothing is said
abbrev pub IsCommonSaid : Option File → List (DwUnit ℕ) → Type 0
IsCommonSaid None said = said ≡ []
IsCommonSaid (Some f) said = IsFileSaid f None said

-- two files and their common one, with their indexes and the numbers that their first tops have there
pub record AreFilesSaid (old new : File) (common : Option File) (x : CrossIndexes) : Type 0 where
  pub old_top : ℕ
  pub new_top : ℕ
  pub common_top : ℕ
  pub old_said : List (DwUnit ℕ)
  pub new_said : List (DwUnit ℕ)
  pub common_said : List (DwUnit ℕ)
  pub old_is : IsFileSaid old (given_by common) old_said
  pub new_is : IsFileSaid new (given_by common) new_said
  pub common_is : IsCommonSaid common common_said
  pub old_index : IsCrossIndex (from_top old_top) old_said x.old
  pub new_index : IsCrossIndex (from_top new_top) new_said x.new
  pub common_index : IsBeside common_top common_said x.common

-- the same indexes with that one of the common file
abbrev pub with_index : CrossIndexes → CrossIndex → CrossIndexes
with_index x index = record x { common = Some index }

-- a function names what stands for the places of a file, whose first top has that number, as the list of its names does
abbrev pub IsNamed : ℕ → (ℕ → ℕ) → Named → Type 0
IsNamed top place n = (p : ℕ) (x : CrossName) → In (p, x) (cross_names_from 0 top n.said) → n.name (place p) ≡ x

-- three functions name the places of all three; those of the common file have numbers of their own in each
pub record AreNamed {old new : File} {common : Option File} {x : CrossIndexes} (s : AreFilesSaid old new common x) (a b c : Named) : Type 0
  where
    pub old_said : s.old_said ≡ a.said
    pub new_said : s.new_said ≡ b.said
    pub common_said : s.common_said ≡ c.said
    pub old_own : IsNamed s.old_top (λ n. n) a
    pub new_own : IsNamed s.new_top (λ n. n) b
    pub common_own : IsNamed s.common_top (λ n. n) c
    pub old_common : (p : ℕ) (y : CrossName) → In (p, y) (cross_names_from 0 s.common_top c.said) → a.name (behind_own p) ≡ y
    pub new_common : (p : ℕ) (y : CrossName) → In (p, y) (cross_names_from 0 s.common_top c.said) → b.name (behind_own p) ≡ y

-- whatever functions name the places, these are all labels, and the tops that each leads into
abbrev pub AreLabelsFor : File → File → Option File → CrossIndexes → List (List ℕ) → List (List ℕ) → Type 0
AreLabelsFor old new common x labels targets =
    (s : AreFilesSaid old new common x) (a b c : Named) → AreNamed s a b c → (labels ≡ all_labels a b c) × (targets ≡ all_targets a b c)

-- ---- a file by itself

-- it says something by itself, and the index is that of it
pub record IsIndexed (f : File) (x : CrossIndex) : Type 0 where
  pub said : List (DwUnit ℕ)
  pub top : ℕ
  pub is : IsFileSaid f None said
  pub index : IsCrossIndex (from_top top) said x

-- whatever function names the places, these are the labels of its tops, and the tops that each leads into
abbrev pub AreTopLabels : File → CrossIndex → List (List ℕ) → List (List ℕ) → Type 0
AreTopLabels f x labels targets =
    (n : Named) (top : ℕ) → IsFileSaid f None n.said → IsCrossIndex (from_top top) n.said x → IsNamed top (λ p. p) n
    → (labels ≡ top_labels n.name n.said) × (targets ≡ top_targets n.name n.said)
