-- The first value that can't be copied. Numbers stand for places.
use Rattle.std.specs.Prelude.{◌≡◌, ◌<◌, ◌+◌, ◌^◌, ℕ, List, length, Option, Result, Ok, Err}
use Rattle.std.specs.List.{flat_map}
use Rattle.dwz_model.specs.Lists.{Each, NoneTwice}
use Rattle.dwz_model.specs.declared.fault.GraphErr.{GraphErr}
use Rattle.dwz_model.specs.declared.fault.GraphErr.TheVariants.{NoMemory, Refused}
use Rattle.dwz_model.specs.declared.fault.Refusal.{Refusal}
use Rattle.dwz_def_reading.specs.FirstOf.{OfFirst}
use Rattle.dwz_def_reading.specs.Units.{entries_in}
use Rattle.dwz_def_tops.specs.Shown.{units_keys}
use Rattle.dwz_def_encoding.specs.Placing.{CommonUnit, UnitRole}
use Rattle.dwz_def_output.specs.Refusals.{InFile}
use Rattle.dwz_def_cross.specs.Tops.{WithCommon, units_with_common}
use Rattle.dwz_def_expand.specs.Chosen.{Choice}
use Rattle.dwz_def_expand.specs.Refusals.{Site, SiteFault, Where, sites_of}
use Rattle.dwz_def_expand.specs.Source.{Copy, source_places}
use Rattle.dwz_expand_sources.specs.Index.{ListedEntry}
use Rattle.dwz_expand_sources.specs.Imports.{same}
use Rattle.dwz_encode.specs.Shown.{Keys}
use Rattle.dwz_expand_sources.specs.Sources.{Sources, all_entries}
use Rattle.dwz_expand_sources.specs.Rows.{AreCopies, Copies}
use Rattle.dwz_expand_passes.specs.declared.files.SourceFile.{SourceFile}
use Rattle.dwz_expand_passes.specs.Files.{IsCommonReady, IsFileReady, KnowsCommon, KnowsFile, StandSo, around_beside, common_count}
use Rattle.dwz_expand_passes.specs.Files.{common_of, raw_in}
use Rattle.dwz_expand_passes.specs.Known.{KnowsKeys}

-- ---- refusals

-- the number of the file in which an entry stands, by what holds its unit: that of the common file is 1
abbrev pub file_number : UnitRole → ℕ
file_number CommonUnit = 1
file_number _ = 0

-- the value can't be copied; the fault is in the file of its source
abbrev pub ValueRefusal : WithCommon ℕ → Choice ℕ → Where ℕ → Site ℕ → Refusal → Type 0
ValueRefusal w c stands s = InFile (λ file. SiteFault same (source_places same w) c stands s) (file_number (c.role s.source))

-- a call answers the first refusal of these values, or there is none
abbrev pub FirstRefusalIs : {Y : Type 0} → (Site ℕ → Refusal → Type 0) → List (Site ℕ) → Result Y GraphErr → Type 0
FirstRefusalIs Has sites (Ok y) = (r : Refusal) → ¬ OfFirst Has sites r
FirstRefusalIs Has sites (Err NoMemory) = Unit {0}
FirstRefusalIs Has sites (Err (Refused r)) = OfFirst Has sites r

-- the values of entries, in the new unit with that number
abbrev pub entry_sites : ℕ → List (ListedEntry ℕ) → List (Site ℕ)
entry_sites n entries = flat_map (λ (d : ListedEntry ℕ). sites_of n d.0.at 0 d.0.attrs) entries

-- ---- the file and its common one

-- how many entries there are
abbrev pub count_in : SourceFile → Option SourceFile → ℕ
count_in own common = entries_in (raw_in own) + common_count common

-- what is kept of them can be looked up, and of these sources and their copies
pub record AreReady (own : SourceFile) (common : Option SourceFile) (s : Sources) (starts : List ℕ) (c : Copies) : Type 0 where
  pub own_ready : IsFileReady own
  pub refs : Each (λ j. j < count_in own common) own.refs.now
  pub common_ready : IsCommonReady common
  pub units : Each (λ x. x.unit < length (raw_in own)) s.units
  pub copies : AreCopies s starts c
  pub many : length c.first ≡ count_in own common
  pub few : count_in own common < 2 ^ 32

-- They say this, and the values of their entries stand there. Copies have these numbers.
pub record KnowsBoth (own : SourceFile) (common : Option SourceFile) (w : WithCommon ℕ) (keys : Keys (Copy ℕ))
    (stands : Where ℕ) : Type 0 where
  pub own_says : KnowsFile own (around_beside own (common_of common)) w.own
  pub own_stands : StandSo own (around_beside own (common_of common)) (λ n. n) stands
  pub common_says : KnowsCommon common w.common stands
  pub keys_are : KnowsKeys w keys
  pub apart : NoneTwice (units_keys (units_with_common w))
  pub many : length (all_entries w) ≡ count_in own common
