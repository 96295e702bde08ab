-- What surrounds the units of a file, and entries by number where a common file is read beside it.
use Rattle.std.specs.Prelude.{ℕ, ◌+◌, ◌-◌, ◌^◌, ◌<◌, Bool, false, List, length, if◌then◌else◌, Option, Some, None, nat_lt, slice_index}
use Rattle.std.specs.Option.{is_some}
use Rattle.dwz_def_reading.specs.Lists.{Each}
use Rattle.dwz_def_reading.specs.Meanings.{Around, Common, MeaningContext, Sources, all_places, scope_of}
use Rattle.dwz_def_reading.specs.Texts.{text_at}
use Rattle.dwz_def_reading.specs.Units.{RawUnit, entries_in}
use Rattle.dwz_graph_resolve.specs.declared.sections.InputSections.{InputSections}
use Rattle.dwz_graph_resolve.specs.declared.surroundings.CommonPart.{CommonPart}
use Rattle.dwz_graph_resolve.specs.declared.surroundings.Surroundings.{Surroundings}
use Rattle.dwz_graph_resolve.specs.Places.{place_at}
use Rattle.dwz_unit.specs.Rows.{units_of}

abbrev pub sources_view : InputSections → Sources
sources_view s = record {
  strs = s.strs.bytes.now;
  line_strs = s.line_strs.bytes.now;
  offsets = s.offsets.now;
  line = s.line.now;
  lists =
      s.lists.now;
}

-- what stands for a place of the common file, where the file's own places stand for themselves: these are below 2^32
abbrev pub behind_own : ℕ → ℕ
behind_own at = 2 ^ 32 + at

abbrev pub common_view : Option CommonPart → Option (Common ℕ)
common_view None = None
common_view (Some c) = Some (record { entries = all_places (units_of c.units.now); place = behind_own; strs = c.strs.bytes.now })

abbrev pub around_in : Surroundings → List RawUnit → Around ℕ
around_in s raw = record { sources = sources_view s.sections; all = all_places raw; place = λ n. n; common = common_view s.common }

abbrev pub scope_within : Surroundings → List RawUnit → RawUnit → MeaningContext ℕ
scope_within s raw u = scope_of (around_in s raw) u

-- the place of an entry by its number: those of the file come first, and then those of the common file
abbrev pub place_among : Option (Common ℕ) → List RawUnit → ℕ → ℕ
place_among None raw i = place_at raw i
place_among (Some c) raw i = if nat_lt i (entries_in raw) then place_at raw i else c.place (slice_index c.entries (i - entries_in raw))

-- how many there are
abbrev pub entries_among : Option (Common ℕ) → List RawUnit → ℕ
entries_among None raw = entries_in raw
entries_among (Some c) raw = entries_in raw + length c.entries

-- numbers of such entries
abbrev pub AreAmong : Option (Common ℕ) → List RawUnit → List ℕ → Type 0
AreAmong common raw numbers = Each (λ i. i < entries_among common raw) numbers

-- a text of the common file stands there, if there is one
abbrev pub has_common_text : Option (Common ℕ) → ℕ → Bool
has_common_text None offset = false
has_common_text (Some c) offset = is_some (text_at c.strs offset)
