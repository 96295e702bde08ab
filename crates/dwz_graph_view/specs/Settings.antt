-- Inner: what is known of the unit in which values stand.
use Rattle.std.specs.Prelude.{◌≡◌, ℕ, ◌<◌, ◌^◌, true, List, Some, slice_get}
use Rattle.dwz_model.specs.declared.place.Base.{Base}
use Rattle.dwz_def_reading.specs.Entries.{RawAttr, RawEntry}
use Rattle.dwz_def_reading.specs.Meanings.{MeaningContext, entries_for, has}
use Rattle.dwz_graph.specs.declared.file.File.{File}
use Rattle.dwz_graph.specs.Files.{IsRead}
use Rattle.dwz_def_reading.specs.Files.{Limits}
use Rattle.dwz_label_entries.specs.Plain.{KnowsLine, KnowsScope}
use Rattle.dwz_graph_view.specs.declared.setting.Setting.{Setting}

-- the file was read
abbrev pub IsSomeFile : File → Type 0
IsSomeFile f = (l : Limits) × (number : ℕ) × (bytes : List ℕ) × IsRead l number bytes f

-- What is kept of a unit is what its values stand in: there a place is a number of 32 bits, and stands for itself.
pub record KnowsSetting (x : Setting) (s : MeaningContext ℕ) : Type 0 where
  pub scope : KnowsScope x.sections.now x.here s
  pub unit : x.here.at ≡ s.unit
  pub place : (p : ℕ) → s.around.place p ≡ p
  pub small : (base : Base) (p : ℕ) → has p (entries_for s base) ≡ true → p < 2 ^ 32

-- the same of the unit of an entry, in the file with that number, with the line table for its values
pub record IsSettingOf (x : Setting) (number : ℕ) (e : RawEntry) (s : MeaningContext ℕ) : Type 0 where
  pub file : x.file ≡ number
  pub knows : KnowsSetting x s
  pub line : (k : ℕ) (a : RawAttr) → slice_get e.attrs k ≡ Some a → KnowsLine s a x.tables.now x.line
