-- The new units of a file that was read, as its promised sections have them.
use Rattle.std.specs.Prelude.{◌≡◌, ℕ, ◌<◌, List, get_or, length, map, slice_index}
use Rattle.dwz_def_cross.specs.Tops.{WithCommon, units_with_common, whole_units}
use Rattle.dwz_def_encoding.specs.Writing.{joined}
use Rattle.dwz_def_expand.specs.Chosen.{Choice}
use Rattle.dwz_def_expand.specs.OneFile.{OneFile, said_by_file}
use Rattle.dwz_def_expand.specs.Output.{forms, new_places, new_sections, new_start, wholes}
use Rattle.dwz_def_expand.specs.Source.{Copy}
use Rattle.dwz_def_reading.specs.Places.{Place}
use Rattle.dwz_def_tops.specs.Lists.{NoneTwice}
use Rattle.dwz_def_tops.specs.Shown.{units_keys}
use Rattle.dwz_expand_layout.specs.Entries.{UnitLines, line_count}
use Rattle.dwz_expand_layout.specs.Laid.{laid}
use Rattle.dwz_expand_layout.specs.Written.{written}
use Rattle.dwz_expand_sources.specs.Sources.{AreSources, Sources}
use Rattle.dwz_expand_passes.specs.Renamed.{SameChoice, copy_map, renamed}
use Rattle.dwz_expand_passes.specs.CopiesOf.{HaveCopies}
use Rattle.dwz_expand_passes.specs.Numbered.{key_in}

-- What is laid and written are the sections of the new file; each unit begins, and each copy stands, where it does after.
pub record IsNewFile (f : OneFile) (key : ℕ → Copy Place) (order : List UnitLines) : Type 0 where
  pub info : written (laid order) order ≡ (new_sections f).info
  pub abbrevs : joined (laid order).tables ≡ (new_sections f).«abbrev»
  pub end : (laid order).end ≡ length (new_sections f).info
  pub starts : (n : ℕ) → n < length (wholes f) → get_or (map (λ o. o.at) (laid order).units) n 0 ≡ new_start f n
  pub count : length (laid order).places ≡ line_count order
  pub places : (i : ℕ) → i < line_count order → slice_index (laid order).places i ≡ (new_places f).place (key i)

-- Numbers stand for places of the file and of the common one, and no two for one: then new units that have the copies of a plan's sources
-- are the new file.
abbrev pub FileLaw : Type 0
FileLaw =
    (f : OneFile) (w : WithCommon ℕ) (place : ℕ → Place) (c : Choice ℕ) (s : Sources) (order : List UnitLines)
    → said_by_file f ≡ renamed place w → ((p q : ℕ) → place p ≡ place q → p ≡ q) → SameChoice place c (forms f)
    → AreSources w s → NoneTwice (units_keys (units_with_common w)) → HaveCopies w s c 0 s.units (whole_units w.own) order
    → IsNewFile f (λ i. copy_map place (key_in w i)) order
