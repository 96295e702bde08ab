-- What holds of the texts that are used.
use Rattle.std.specs.Prelude.{◌≡◌, ℕ, ◌+◌, List, All, Contains, IsSome, Some, SomeIff, slice_get, true}
use Rattle.dwz_def_reading.specs.Lists.{In}
use Rattle.dwz_def_reading.specs.Pruning.{new_number}
use Rattle.dwz_def_reading.specs.Texts.{text_at}
use Rattle.dwz_def_reading.specs.Documents.{DwUnit}
use Rattle.dwz_def_tops.specs.Spots.{EntryName}
use Rattle.dwz_strs.specs.Pruned.{moved_in}
use Rattle.dwz_def_encoding.specs.Meant.{Tells, UnitsSay}
use Rattle.dwz_def_encoding.specs.Pruned.{units_uses}
use Rattle.dwz_def_readback.specs.Files.{CommonFile, Made, Run, formed_by, sources, strs_if_by, uses_by}
use Rattle.dwz_layout.specs.declared.known.EntryTable.{EntryTable}
use Rattle.dwz_layout.specs.declared.order.UnitItems.{UnitItems}
use Rattle.dwz_layout.specs.declared.walk.Slot.{Slot}
use Rattle.dwz_layout.specs.Attributes.{here_of}
use Rattle.dwz_layout.specs.Entries.{items_slots}
use Rattle.dwz_encode.specs.Shown.{Keys, ShowUnits}
use Rattle.dwz_def_output.specs.Contents.{offsets_if_by}
use Rattle.dwz_encode_texts.specs.declared.pruning.PrunedFile.{PrunedFile}
use Rattle.dwz_encode_texts.specs.PrunedFiles.{IsPrunedFile}
use Rattle.dwz_encode_texts.specs.Used.{order_uses, origin_uses}

-- where items show units, their texts are those that the units use
abbrev pub ShownLaw : Type 0
ShownLaw =
    (keys : Keys EntryName) (k : EntryTable) (first : ℕ) (order : List UnitItems) (units : List (DwUnit EntryName))
    → ShowUnits keys k first order units
    → order_uses k first order ≡ units_uses units

-- what an entry of a unit uses is among what all units use
abbrev pub SlotLaw : Type 0
SlotLaw =
    (k : EntryTable) (first i : ℕ) (order : List UnitItems) (o : UnitItems) (s : Slot) → slice_get order i ≡ Some o
    → In s (items_slots k o.sort o.items) → (n : ℕ) → In n (origin_uses k (here_of k (first + i) o.sort) s.origin)
    → In n (order_uses k first order)

-- where units say what they are written for, each of their uses names a text of `.debug_str`
abbrev pub NamedLaw : Type 0
NamedLaw =
    (t : Tells EntryName) (units : List (DwUnit EntryName)) → UnitsSay t units
    → All (λ used. IsSome (text_at t.strs used)) (units_uses units)

-- The sections that are pruned by what the units of a file after use are those that are written of a file that is prunable; and the new
-- numbers are those of its uses.
pub record ArePrunedBy (k : CommonFile) (r : Run) (file : ℕ) (p : PrunedFile) : Type 0 where
  pub texts : p.strs.bytes ≡ strs_if_by true k r file
  pub slots : p.offsets.items ≡ offsets_if_by true k r file
  pub moved : (offset : ℕ)
      → SomeIff (moved_in p.strs offset) (Contains (uses_by k r file) offset) (new_number (sources r file).strs (uses_by k r file) offset)

abbrev pub ArePruned : Run → ℕ → PrunedFile → Type 0
ArePruned = ArePrunedBy Made

abbrev pub AfterLaw : Type 0
AfterLaw =
    (k : CommonFile) (r : Run) (file : ℕ) (p : PrunedFile)
    → IsPrunedFile (sources r file).strs (sources r file).offsets (units_uses (formed_by k r file)) p → ArePrunedBy k r file p
