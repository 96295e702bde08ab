-- What is known of a file whose new units are laid and written, and what these are.
use Rattle.std.specs.Prelude.{◌≡◌, ℕ, ◌+◌, ◌<◌, ◌^◌, List, length, Result, Ok, Err}
use Rattle.dwz_def_cross.specs.Tops.{WithCommon, units_with_common, whole_units}
use Rattle.dwz_def_expand.specs.Chosen.{Choice, choice}
use Rattle.dwz_def_expand.specs.Refusals.{SiteFault, Where, sites}
use Rattle.dwz_def_expand.specs.Source.{source_places}
use Rattle.dwz_def_reading.specs.FirstOf.{OfFirst}
use Rattle.dwz_def_reading.specs.Units.{entries_in}
use Rattle.dwz_def_tops.specs.Shown.{units_keys}
use Rattle.dwz_expand_sources.specs.Imports.{same}
use Rattle.dwz_graph.specs.Resolved.{sources_view}
use Rattle.dwz_model.specs.Lists.{Each, NoneTwice}
use Rattle.dwz_model.specs.declared.fault.Fault.{Fault}
use Rattle.dwz_model.specs.declared.fault.ReadErr.{ReadErr}
use Rattle.dwz_model.specs.declared.fault.ReadErr.TheVariants.{NoMemory, Refused}
use Rattle.dwz_expand_layout.specs.Entries.{UnitLines}
use Rattle.dwz_expand_sources.specs.Numbers.{copy_count}
use Rattle.dwz_expand_sources.specs.Sources.{AreSources, all_entries}
use Rattle.dwz_expand_passes.specs.Files.{IsCommonReady, IsFileReady, KnowsCommon, KnowsFile, StandSo}
use Rattle.dwz_expand_passes.specs.Files.{around_beside, common_count, common_of, raw_in}
use Rattle.dwz_expand_passes.specs.declared.new_file.NewFile.{NewFile}
use Rattle.dwz_expand_passes.specs.CopiesOf.{HaveCopies}

-- how many entries both files have
abbrev pub entry_many : NewFile → ℕ
entry_many x = entries_in (raw_in x.own) + common_count x.common

-- the plan is one of files of that size
pub record IsPlanned (x : NewFile) : Type 0 where
  pub w : WithCommon ℕ
  pub are : AreSources w x.sources.now
  pub many : length (all_entries w) ≡ entry_many x
  pub units : length w.own ≡ length (raw_in x.own)

-- what is kept of both files can be looked up
pub record IsReady (x : NewFile) : Type 0 where
  pub own : IsFileReady x.own
  pub refs : Each (λ j. j < entry_many x) x.own.refs.now
  pub common : IsCommonReady x.common
  pub few : entry_many x < 2 ^ 32
  pub planned : IsPlanned x
  pub few_copies : copy_count x.sources.now.ranges x.sources.now.units < 2 ^ 64

-- Both say this, and their values stand there; no place stands twice; and the plan is theirs.
pub record Says (x : NewFile) (w : WithCommon ℕ) (stands : Where ℕ) : Type 0 where
  pub own : KnowsFile x.own (around_beside x.own (common_of x.common)) w.own
  pub own_stands : StandSo x.own (around_beside x.own (common_of x.common)) (λ n. n) stands
  pub common : KnowsCommon x.common w.common stands
  pub apart : NoneTwice (units_keys (units_with_common w))
  pub are : AreSources w x.sources.now

-- forms are those of the definition
abbrev pub forms_in : NewFile → WithCommon ℕ → Choice ℕ
forms_in x w = choice same w (sources_view x.own.sections.now)

-- the first value that can't be copied, in the order of units, entries and attributes, has that fault
abbrev pub RefusesFile : NewFile → WithCommon ℕ → Where ℕ → Fault → Type 0
RefusesFile x w stands = OfFirst (SiteFault same (source_places same w) (forms_in x w) stands) (sites same w)

-- new units have the copies of the plan's sources, and each value could be copied, whatever it is that both files say
pub record AreNew (x : NewFile) (order : List UnitLines) : Type 0 where
  pub copies : (w : WithCommon ℕ) (stands : Where ℕ) → Says x w stands
      → HaveCopies w x.sources.now (forms_in x w) 0 x.sources.now.units (whole_units w.own) order
  pub free : (w : WithCommon ℕ) (stands : Where ℕ) → Says x w stands → (f : Fault) → ¬ RefusesFile x w stands f

-- it is refused with the fault of that value
abbrev pub IsRefused : {Y : Type 0} → NewFile → Result Y ReadErr → Type 0
IsRefused x (Ok y) = Unit {0}
IsRefused x (Err NoMemory) = Unit {0}
IsRefused x (Err (Refused f)) = (w : WithCommon ℕ) (stands : Where ℕ) → Says x w stands → RefusesFile x w stands f
