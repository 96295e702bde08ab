-- A file that was given is read as one that may have been written, and says the same; and so is one that was written, where it may be.
use Rattle.std.specs.Prelude.{◌≡◌, ◌≢◌, ◌==◌, true, false, Bool, ℕ, ◌≤◌, List, map, Option, Some, None}
use Rattle.std.specs.Option.{is_some}
use Rattle.dwz_def_reading.specs.Rows.{has}
use Rattle.dwz_def_reading.specs.Lists.{Each}
use Rattle.dwz_def_reading.specs.Documents.{Doc, DwUnit, unit_map}
use Rattle.dwz_def_reading.specs.Entries.{RawEntry, codes_of_common}
use Rattle.dwz_def_reading.specs.Files.{IsForMachine, IsNotTooLong, Limits, Reads, ReadsBy, machine_of}
use Rattle.dwz_def_reading.specs.Finished.{GivenCommon, common_sup_fault, given_by, rule_of_back, rule_of_common}
use Rattle.dwz_def_reading.specs.Meanings.{Common}
use Rattle.dwz_def_reading.specs.Modes.{binding_forms}
use Rattle.dwz_def_reading.specs.Places.{Place, at_file}
use Rattle.dwz_def_reading.specs.Trees.{Position}
use Rattle.dwz_def_reading.specs.Units.{EachEntryOf, PartialUnit, RawUnit, entries_in, root_tag}
use Rattle.dwz_def_readback.specs.Back.{SaysUnits}

-- what it says, as the file with a number
abbrev pub doc_in : ℕ → Doc ℕ → Doc Place
doc_in number doc = record { machine = doc.machine; units = map (unit_map (at_file number)) doc.units }

-- limits leave room for the file
pub record HasRoom (l : Limits) (bytes : List ℕ) (units : List RawUnit) : Type 0 where
  pub size : IsNotTooLong l bytes
  pub machine : IsForMachine l.machine (machine_of bytes)
  pub entries : entries_in units ≤ l.entries

-- with a common file or without one
abbrev pub GivenLaw : Type 0
GivenLaw =
    (common : Option GivenCommon) (number : ℕ) (l m : Limits) (bytes : List ℕ) (units : List RawUnit) (doc : Doc ℕ)
    → Reads l bytes units doc → HasRoom m bytes units → ReadsBy (rule_of_back common number) m bytes units (doc_in number doc)

-- ---- what was written

-- no form of an attribute leads to a common file where none is at hand (DW_FORM_ref_sup4, DW_FORM_strp_sup); and none binds below the
-- root of a partial unit (DW_TAG_partial_unit)
pub record IsFormOfBack (sup : Bool) (tag : ℕ) (is_root : Bool) (form : ℕ) : Type 0 where
  pub alone : sup ≡ false → (form ≢ 0x1c) × (form ≢ 0x1d)
  pub free : tag ≡ 0x3c → is_root ≡ false → has form binding_forms ≡ false

-- it is one of those of a common file
abbrev pub IsFormOfCommon : ℕ → Bool → ℕ → Type 0
IsFormOfCommon tag is_root form = has form (codes_of_common is_root) ≡ true

-- an entry of a unit is not too deep, and its attributes have such forms
pub record MayStand (IsForm : ℕ → Bool → ℕ → Type 0) (tag : ℕ) (p : Position) (e : RawEntry) : Type 0 where
  pub depth : p.depth ≤ 256
  pub forms : Each (λ a. IsForm tag (p.depth == 1) a.pair.form) e.attrs

abbrev pub AllMayStand : (ℕ → Bool → ℕ → Type 0) → List RawUnit → Type 0
AllMayStand IsForm units = Each (λ u. EachEntryOf (MayStand IsForm (root_tag u.kind)) 0 u) units

abbrev pub given_of : Option GivenCommon → Option (Common Place)
given_of None = None
given_of (Some c) = Some (given_by c.number c.bytes c.units)

-- a file that says units, as what is written does, reads, with limits that leave room for it, where nothing is wrong with its `.debug_sup`
-- and its entries may stand as they do
abbrev pub WrittenLaw : Type 0
WrittenLaw =
    (common : Option GivenCommon) (number : ℕ) (m : Limits) (bytes : List ℕ) (raw : List RawUnit) (units : List (DwUnit Place))
    → SaysUnits (given_of common) number bytes raw units → HasRoom m bytes raw → (rule_of_back common number).sup_fault bytes ≡ None
    → AllMayStand (IsFormOfBack (is_some common)) raw
    → ReadsBy (rule_of_back common number) m bytes raw (record { machine = machine_of bytes; units = units })

-- so does a common file, all of whose units are partial
abbrev pub CommonLaw : Type 0
CommonLaw =
    (number : ℕ) (m : Limits) (bytes : List ℕ) (raw : List RawUnit) (units : List (DwUnit Place))
    → SaysUnits None number bytes raw units → HasRoom m bytes raw → common_sup_fault bytes ≡ None
    → Each (λ u. u.kind ≡ PartialUnit) raw → AllMayStand IsFormOfCommon raw
    → ReadsBy (rule_of_common number) m bytes raw (record { machine = machine_of bytes; units = units })
