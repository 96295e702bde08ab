-- What is known of an entry that is copied into a new unit: what its file and the common one say, which copies entries stand for, and by
-- what
-- forms are chosen. Numbers stand for places.
use Rattle.std.specs.Prelude.{◌≡◌, ℕ, ◌+◌, ◌<◌, ◌≤◌, ◌^◌, List, length, Some, slice_get}
use Rattle.dwz_model.specs.Lists.{Each, NoneTwice}
use Rattle.dwz_def_reading.specs.Meanings.{Around, MeaningContext, all_places, scope_of}
use Rattle.dwz_def_reading.specs.Units.{RawUnit, entries_in}
use Rattle.dwz_def_tops.specs.Shown.{units_keys}
use Rattle.dwz_def_encoding.specs.Placing.{NewUnit}
use Rattle.dwz_def_cross.specs.Tops.{WithCommon, units_with_common}
use Rattle.dwz_def_expand.specs.Chosen.{Choice}
use Rattle.dwz_def_expand.specs.Refusals.{Where}
use Rattle.dwz_def_expand.specs.Source.{Copy, copy, copy_for, source_places}
use Rattle.dwz_graph.specs.Resolved.{IsHere, sources_view}
use Rattle.dwz_graph.specs.Surroundings.{entries_among, place_among}
use Rattle.dwz_unit.specs.Rows.{units_of}
use Rattle.dwz_expand_sources.specs.Index.{ListedEntry}
use Rattle.dwz_check_labels.specs.Files.{texts_in}
use Rattle.dwz_expand_sources.specs.Imports.{same}
use Rattle.dwz_layout.specs.Ways.{holder_view}
use Rattle.dwz_encode.specs.Shown.{Keys}
use Rattle.dwz_expand_sources.specs.Sources.{AreSources, Sources, all_entries}
use Rattle.dwz_expand_sources.specs.Copies.{IsCopyNumber}
use Rattle.dwz_expand_sources.specs.Rows.{AreCopies, Copies}
use Rattle.dwz_expand_passes.specs.Paths.{IsPathsOf}
use Rattle.dwz_expand_passes.specs.declared.files.SourceEntry.{SourceEntry}

-- its units, as they are stored
abbrev pub raw_of : SourceEntry → List RawUnit
raw_of x = units_of x.file.units.now

-- ---- copies

-- they are the copies of the entries of the file and its common one, and a new unit is at hand
pub record KnowsCopies (w : WithCommon ℕ) (c : Copies) : Type 0 where
  pub sources : Sources
  pub roots : List ℕ
  pub are : AreSources w sources
  pub apart : NoneTwice (units_keys (units_with_common w))
  pub copies : AreCopies sources roots c
  pub many : length (all_entries w) ≡ length c.first
  pub inside : c.unit < length sources.units

-- each number of a copy is that of its source and its unit
abbrev pub KnowsKeys : WithCommon ℕ → Keys (Copy ℕ) → Type 0
KnowsKeys w keys = (u p n : ℕ) → IsCopyNumber (source_places same w) u p n → keys.row n ≡ copy u p

-- the entry with a number among all has that place
abbrev pub StandsAt : WithCommon ℕ → ℕ → ℕ → Type 0
StandsAt w i p = (d : ListedEntry ℕ) × (slice_get (all_entries w) i ≡ Some d) × (d.0.at ≡ p)

-- ---- the entry

-- What is said of it: the file with its common one, forms, the numbers of copies, where values stand, the new unit, the place of the entry,
-- what its unit stands in, that unit, and what stands for a place of its file.
pub record Setting : Type 0 where
  pub w : WithCommon ℕ
  pub choice : Choice ℕ
  pub keys : Keys (Copy ℕ)
  pub stands : Where ℕ
  pub unit : ℕ
  pub source : ℕ
  pub around : Around ℕ
  pub raw : RawUnit
  pub place : ℕ → ℕ

abbrev pub scope : Setting → MeaningContext ℕ
scope q = scope_of q.around q.raw

-- what stands for the entry with a number that the file refers to
abbrev pub place_named : Setting → List RawUnit → ℕ → ℕ
place_named q raw j = q.place (place_among q.around.common raw j)

-- the copy that a place stands for in the new unit
abbrev pub copied : Setting → ℕ → Copy ℕ
copied q p = copy_for same (source_places same q.w) q.unit p

-- what is kept of an entry can be looked up
pub record IsReady (x : SourceEntry) : Type 0 where
  pub here : x.here.now.end ≤ entries_in (raw_of x)
  pub copies : (s : Sources) × (roots : List ℕ) × AreCopies s roots x.known.copies.now × (x.known.copies.now.unit < length s.units)
  pub few : length x.known.copies.now.first < 2 ^ 32
  pub own : x.first + entries_in (raw_of x) ≤ length x.known.copies.now.first

-- references lead to entries that have copies, or none
abbrev pub LeadWithin : SourceEntry → List ℕ → Type 0
LeadWithin x refs = Each (λ j. x.first + j < length x.known.copies.now.first) refs

-- it is so
pub record Fits (x : SourceEntry) (q : Setting) : Type 0 where
  pub sources : q.around.sources ≡ sources_view x.file.sections.now
  pub all : q.around.all ≡ all_places (raw_of x)
  pub own_place : q.around.place ≡ (λ n. n)
  pub texts : texts_in q.around.common ≡ x.file.common_strs.now
  pub here : IsHere (raw_of x) q.raw x.here.now
  pub copies : KnowsCopies q.w x.known.copies.now
  pub unit : x.known.copies.now.unit ≡ q.unit
  pub unit_is : x.known.unit ≡ q.unit
  pub keys : KnowsKeys q.w q.keys
  pub found : (j : ℕ) → j < entries_among q.around.common (raw_of x) → StandsAt q.w (x.first + j) (place_named q (raw_of x) j)
  pub role : q.choice.role q.source ≡ holder_view x.role
  pub slots : holder_view x.role ≡ NewUnit → q.choice.slots q.source ≡ x.here.now.offsets
  pub offsets : holder_view x.role ≡ NewUnit → q.choice.offsets ≡ x.file.sections.now.offsets.now
  pub paths : IsPathsOf (q.choice.paths q.unit) x.known.paths.now
