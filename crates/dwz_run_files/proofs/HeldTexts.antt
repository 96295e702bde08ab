-- In a unit of a file the name of a space is written where it is said for a partial unit of the file.
use Rattle.std.proofs.Common.{◌≡◌, false, refl}
use Rattle.dwz_def_reading.specs.Documents.{Compile, Kind, OfType, Partial}
use Rattle.dwz_def_tops.specs.Spots.{EntryName}
use Rattle.dwz_def_encoding.specs.Placing.{holder_of}
use Rattle.dwz_layout.specs.declared.known.SpaceRow.{SpaceRow}
use Rattle.dwz_layout.specs.Known.{text_held}

pub held_in_file : (kind : Kind EntryName) (s : SpaceRow) → text_held (holder_of false kind) s ≡ s.text
held_in_file Compile s = refl
held_in_file (OfType signature main) s = refl
held_in_file Partial s = refl
