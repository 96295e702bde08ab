-- Names of entries that were read, and of units that are written.
use Rattle.std.specs.Prelude.{◌≡◌, ℕ, List, length, slice_index_or}
use Rattle.dwz_def_reading.specs.Lists.{Each, In}
use Rattle.dwz_def_reading.specs.Documents.{Doc, DwUnit}
use Rattle.dwz_def_tops.specs.Spots.{EntryName, Import, InChain, InType, PartialOf, PartialRoot, RootOf, SpaceAt, UnitOf, Within}
use Rattle.dwz_def_tops.specs.Seen.{IsPartial}
use Rattle.dwz_def_images.specs.Homes.{Rule}
use Rattle.dwz_def_images.specs.After.{ArePlaced}
use Rattle.dwz_def_encoding.specs.Placing.{FileOut}
use Rattle.dwz_def_readback.specs.Back.{run_of}
use Rattle.dwz_def_readback.specs.Files.{Stored, files_out}
use Rattle.dwz_layout.specs.declared.known.EntryTable.{EntryTable}
use Rattle.dwz_layout.specs.declared.order.UnitItems.{UnitItems}
use Rattle.dwz_encode.specs.Shown.{Keys}
use Rattle.dwz_graph.specs.AllNames.{all_names}
use Rattle.dwz_law_layout.specs.Refers.{RowsApart}

-- the name of an entry that was read
abbrev pub IsEntryName : EntryName → Type 0
IsEntryName (Within top path) = Unit {0}
IsEntryName (RootOf unit) = Unit {0}
IsEntryName (SpaceAt unit path) = Unit {0}
IsEntryName (InType unit path) = Unit {0}
IsEntryName _ = ⊥

-- that of a unit, old or new
abbrev pub IsUnitName : EntryName → Type 0
IsUnitName (UnitOf unit) = Unit {0}
IsUnitName (PartialOf part) = Unit {0}
IsUnitName _ = ⊥

-- the names that all entries of files have
abbrev pub EntryNameLaw : Type 0
EntryNameLaw = (docs : List (Doc ℕ)) (s : EntryName) → In s (all_names docs) → IsEntryName s

-- a unit that is written has the name of a unit, and where it is a partial unit, its root has the name of a partial unit's root
pub record UnitNamed (u : DwUnit EntryName) : Type 0 where
  pub at : IsUnitName u.at
  pub root : IsPartial u.kind → (part : ℕ) × (u.root.at ≡ PartialRoot part)

abbrev pub UnitNameLaw : Type 0
UnitNameLaw =
    (docs : List (Doc ℕ)) (rule : Rule) → Each (λ doc. ArePlaced doc.units) docs
    → (input : Stored) (f : FileOut EntryName) → In f (files_out (run_of rule docs input)) → (u : DwUnit EntryName) → In u f.units
    → UnitNamed u

-- keys that are such names: of entries by their numbers among all files, any unit's name beyond these; and of spaces of chains and imports
pub record KeysOfNames (docs : List (Doc ℕ)) (keys : Keys EntryName) : Type 0 where
  pub row : (n : ℕ) → keys.row n ≡ slice_index_or (all_names docs) n (UnitOf 0)
  pub chained : (unit chain depth : ℕ) → (part : ℕ) × (keys.chained unit chain depth ≡ InChain part chain depth)
  pub import : (unit part : ℕ) → (old : ℕ) × (keys.import unit part ≡ Import old part)

-- then entries have names of their own, whatever is written
abbrev pub RowsApartLaw : Type 0
RowsApartLaw =
    (docs : List (Doc ℕ)) (rule : Rule) → Each (λ doc. ArePlaced doc.units) docs
    → (input : Stored) (keys : Keys EntryName) (k : EntryTable) (order : List (List UnitItems)) (files : List (FileOut EntryName))
    → KeysOfNames docs keys → length k.owners.items ≡ length (all_names docs)
    → ((f : FileOut EntryName) → In f files → In f (files_out (run_of rule docs input))) → RowsApart keys k order files
