-- What is known of a file whose labels are written, and of the common file beside it.
use Rattle.std.specs.Prelude.{◌≡◌, ℕ, ◌+◌, ◌≤◌, List, [], length, Option, Some, None, Ok, slice_get}
use Rattle.dwz_def_reading.specs.Documents.{DwUnit}
use Rattle.dwz_def_reading.specs.Lists.{In}
use Rattle.dwz_def_reading.specs.Meanings.{Around, Common, MeaningContext, all_places, scope_of, str_offsets_base}
use Rattle.dwz_def_reading.specs.Meant.{units_meaning}
use Rattle.dwz_def_reading.specs.Units.{RawUnit, entries_in}
use Rattle.dwz_def_check.specs.CrossNames.{CrossName, cross_names_from}
use Rattle.dwz_check_index.specs.Both.{from_top}
use Rattle.dwz_check_index.specs.Index.{IsCrossIndex}
use Rattle.dwz_check_labels.specs.declared.named_file.NamedFile.{NamedFile}
use Rattle.dwz_check_labels.specs.declared.source.Source.{Source}
use Rattle.dwz_graph.specs.Here.{Here}
use Rattle.dwz_graph.specs.Parts.{AreParted, HaveLines}
use Rattle.dwz_graph.specs.Resolved.{IsHere, sources_view}
use Rattle.dwz_graph.specs.Surroundings.{AreAmong, behind_own, place_among}
use Rattle.dwz_unit.specs.Rows.{units_of}

-- ---- one file

-- its units, as they are stored
abbrev pub raw_in : NamedFile → List RawUnit
raw_in f = units_of f.units.now

-- what is kept of the unit with a number
pub record IsHereOf (raw : List RawUnit) (n : ℕ) (h : Here) : Type 0 where
  pub u : RawUnit
  pub is_unit : slice_get raw n ≡ Some u
  pub here : IsHere raw u h
  pub number : h.number ≡ n
  pub within : h.end ≤ entries_in raw

pub record AreHeres (raw : List RawUnit) (heres : List Here) : Type 0 where
  pub many : length heres ≡ length raw
  pub each : (n : ℕ) (h : Here) → slice_get heres n ≡ Some h → IsHereOf raw n h

-- the index has a step for each entry, and of each unit it is known what its values stand in
pub record IsFileReady (f : NamedFile) : Type 0 where
  pub steps : length f.index.now.steps ≡ entries_in (raw_in f)
  pub heres : AreHeres (raw_in f) f.heres.now

-- the texts of the common file; none, where there is no such file
abbrev pub texts_in : Option (Common ℕ) → List ℕ
texts_in None = []
texts_in (Some c) = c.strs

-- the texts that values of a unit name are those of the file's sections and of the common file
pub record KnowsTexts (f : NamedFile) (base : Option ℕ) (s : MeaningContext ℕ) : Type 0 where
  pub sources : s.around.sources ≡ sources_view f.sections.now
  pub common : texts_in s.around.common ≡ f.common_strs.now
  pub base_is : base ≡ str_offsets_base s

-- the file says this, with what surrounds its units
pub record Says (f : NamedFile) (around : Around ℕ) (said : List (DwUnit ℕ)) : Type 0 where
  pub sources : around.sources ≡ sources_view f.sections.now
  pub common : texts_in around.common ≡ f.common_strs.now
  pub means : units_meaning around (raw_in f) ≡ Ok said

-- and the index shows its names, where the first top has that number: by these the function names what stands for its places
pub record KnowsNames (f : NamedFile) (around : Around ℕ) (said : List (DwUnit ℕ)) (place : ℕ → ℕ) (name : ℕ → CrossName) : Type 0 where
  pub says : Says f around said
  pub top : ℕ
  pub index : IsCrossIndex (from_top top) said f.index.now
  pub named : (p : ℕ) (x : CrossName) → In (p, x) (cross_names_from 0 top said) → name (place p) ≡ x

-- ---- a file beside a common one

abbrev pub raw_of : Source → List RawUnit
raw_of x = raw_in x.own

-- what the common file gives: its places have numbers behind 2^32
abbrev pub common_of : Option NamedFile → Option (Common ℕ)
common_of None = None
common_of (Some c) = Some (record { entries = all_places (raw_in c); place = behind_own; strs = c.sections.now.strs.bytes.now })

abbrev pub around_beside : NamedFile → Option (Common ℕ) → Around ℕ
around_beside f common = record { sources = sources_view f.sections.now; all = all_places (raw_in f); place = λ n. n; common = common }

abbrev pub around_at : Source → Around ℕ
around_at x = around_beside x.own (common_of x.common)

-- what values of a unit stand in
abbrev pub scope_at : Source → RawUnit → MeaningContext ℕ
scope_at x u = scope_of (around_at x) u

-- what stands for the place of the entry with a number; those of the common file have the numbers behind the file's own
abbrev pub place_of : Source → ℕ → ℕ
place_of x i = place_among (common_of x.common) (raw_of x) i

abbrev pub IsCommonReady : Option NamedFile → Type 0
IsCommonReady None = Unit {0}
IsCommonReady (Some c) = IsFileReady c

-- each number that is kept is that of an entry
pub record IsReady (x : Source) : Type 0 where
  pub own : IsFileReady x.own
  pub common : IsCommonReady x.common
  pub refs : AreAmong (common_of x.common) (raw_of x) x.refs.now
  pub starts : length x.starts.now ≡ entries_in (raw_of x) + 1
  pub lines : length x.lines.now ≡ length (raw_of x)

-- the common file, whose units are read without another one
abbrev pub KnowsCommon : Option NamedFile → (ℕ → CrossName) → Type 0
KnowsCommon None name = Unit {0}
KnowsCommon (Some c) name = (said : List (DwUnit ℕ)) × KnowsNames c (around_beside c None) said behind_own name

-- the file says this beside the common one, its references and line tables are those of its entries and units, and the function names
-- what stands for the places of both
pub record KnowsSource (x : Source) (said : List (DwUnit ℕ)) (name : ℕ → CrossName) : Type 0 where
  pub own : KnowsNames x.own (around_at x) said (λ n. n) name
  pub common : KnowsCommon x.common name
  pub parts : AreParted (around_at x) (raw_of x) (entries_in (raw_of x)) x.refs.now x.starts.now
  pub lines : HaveLines (around_at x) (raw_of x) (length (raw_of x)) x.tables.now x.lines.now
