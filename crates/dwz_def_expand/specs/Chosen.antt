-- The form of each value of the new file, and what it stores (DWARF 5, 7.5.5 and 7.5.6): by what held its source, and by the line table of
-- its unit.
use Rattle.std.specs.Prelude.{ℕ, pos, suc, Bool, true, false, List, [], ◌∷◌, map, unwrap_or, Option, Some, None, Result, Ok, Err, ◌==◌}
use Rattle.std.specs.Prelude.{if◌then◌else◌, slice_get}
use Rattle.dwz_def_reading.specs.Fault.{Fault}
use Rattle.dwz_def_reading.specs.Spelling.{reach}
use Rattle.dwz_def_reading.specs.Documents.{Attr, DwUnit, Entries, File, Node, Plain}
use Rattle.dwz_def_reading.specs.Classes.{OfCommonEntry, OfCommonText, OfConstant, OfInfoEntry, OfTextBySlot, OfTextInLineStr, OfTextInStr, Class, OfUnitEntry, class_of, names_file}
use Rattle.dwz_def_reading.specs.FirstOf.{of_first}
use Rattle.dwz_def_reading.specs.LineTables.{FileTable, file_table_at}
use Rattle.dwz_def_reading.specs.Meanings.{Sources, text_sections_of}
use Rattle.dwz_def_reading.specs.Trees.{End, Entry}
use Rattle.dwz_def_tops.specs.Spots.{same_numbers}
use Rattle.dwz_def_encoding.specs.Bases.{bases_in}
use Rattle.dwz_def_encoding.specs.Meant.{entry_keys}
use Rattle.dwz_def_encoding.specs.Placing.{Chosen, CommonUnit, NewUnit, OldUnit, UnitRole, as_read, has_key, holder_of, slot_number, with_form}
use Rattle.dwz_def_cross.specs.Tops.{WithCommon, whole_units}
use Rattle.dwz_def_expand.specs.Source.{Copy}

-- What forms are chosen by: in what unit the source of an entry stood; where the slots of that unit begin, and the slots of the file (7.26);
-- and the paths of the line table of a new unit (6.2.4), where it has one.
pub record Choice (P : Type 0) : Type 0 where
  pub role : P → UnitRole
  pub slots : P → Option ℕ
  pub offsets : List ℕ
  pub paths : ℕ → Option (List (List ℕ))

-- DW_FORM_ref4 of an entry of the same unit, and else DW_FORM_ref_addr
abbrev pub entry_form : {P : Type 0} → ℕ → List (Copy P) → ℕ
entry_form n [] = 0x13
entry_form n (k ∷ refs) = if k.unit == n then 0x13 else 0x10

abbrev pub copied_entry : {P : Type 0} → ℕ → List (Copy P) → Chosen
copied_entry n refs = record { form = entry_form n refs; raw = pos 0 }

-- the text itself: DW_FORM_string
abbrev pub copied_string : Chosen
copied_string = record { form = 0x08; raw = pos 0 }

-- a text of the supplementary file stands there itself
abbrev pub copied_text : {K : Type 0} → UnitRole → Attr K → Chosen
copied_text CommonUnit a = copied_string
copied_text _ a = as_read a

-- DW_FORM_strp of the text at the offset that is in a slot
abbrev pub copied_slot : {K : Type 0} → UnitRole → List ℕ → Option ℕ → Attr K → Chosen
copied_slot OldUnit offsets base a = as_read a
copied_slot NewUnit offsets base a = record { form = 0x0e; raw = pos (slot_number offsets base (reach a.raw)) }
copied_slot CommonUnit offsets base a = copied_string

-- the least row with that path, where the first of these has that number
unfoldable pub row_of_path : ℕ → List (List ℕ) → List ℕ → Option ℕ
row_of_path n [] path = None
row_of_path n (p ∷ paths) path = if same_numbers p path then Some n else row_of_path (suc n) paths path

-- the number for a file: the row of its path; no file is 0 in a unit without a line table, and has none in another
abbrev pub row_for : Option (List (List ℕ)) → Plain → Option ℕ
row_for None (File None) = Some 0
row_for (Some paths) (File (Some path)) = row_of_path 0 paths path
row_for _ _ = None

-- DW_FORM_udata of the number for a file
abbrev pub copied_file : {K : Type 0} → UnitRole → Option (List (List ℕ)) → Attr K → Chosen
copied_file OldUnit paths a = as_read a
copied_file _ paths a = record { form = 0x0f; raw = pos (unwrap_or (row_for paths a.value.plain) 0) }

abbrev pub copied_constant : {K : Type 0} → Bool → UnitRole → Option (List (List ℕ)) → Attr K → Chosen
copied_constant true role paths a = copied_file role paths a
copied_constant false role paths a = as_read a

-- a value of that class, of the entry of the n-th unit that has that source
abbrev pub chosen_as : {P : Type 0} → Class → Choice P → ℕ → P → Attr (Copy P) → Chosen
chosen_as OfUnitEntry c n source a = copied_entry n a.value.refs
chosen_as OfInfoEntry c n source a = copied_entry n a.value.refs
chosen_as OfCommonEntry c n source a = copied_entry n a.value.refs
chosen_as OfCommonText c n source a = copied_string
chosen_as OfTextInStr c n source a = copied_text (c.role source) a
chosen_as OfTextInLineStr c n source a = copied_text (c.role source) a
chosen_as OfTextBySlot c n source a = copied_slot (c.role source) c.offsets (c.slots source) a
chosen_as OfConstant c n source a = copied_constant (names_file a.name) (c.role source) (c.paths n) a
chosen_as _ c n source a = as_read a

abbrev pub chosen_attr : {P : Type 0} → Choice P → Copy P → Attr (Copy P) → Attr (Copy P)
chosen_attr c k a = with_form a (chosen_as (class_of a.form) c k.unit k.source a)

abbrev pub chosen_node : {P : Type 0} → Choice P → Node (Copy P) → Node (Copy P)
chosen_node c e = record { at = e.at; tag = e.tag; attrs = map (chosen_attr c e.at) e.attrs }

unfoldable pub chosen_entries : {P : Type 0} → Choice P → Entries (Copy P) → Entries (Copy P)
chosen_entries c End = End
chosen_entries c (Entry e children next) = Entry (chosen_node c e) (chosen_entries c children) (chosen_entries c next)

abbrev pub chosen_unit : {P : Type 0} → Choice P → DwUnit (Copy P) → DwUnit (Copy P)
chosen_unit c u = record { at = u.at; kind = u.kind; root = chosen_node c u.root; below = chosen_entries c u.below }

abbrev pub chosen_units : {P : Type 0} → Choice P → List (DwUnit (Copy P)) → List (DwUnit (Copy P))
chosen_units c units = map (chosen_unit c) units

-- ---- by what a file says

-- the unit that has an entry at a place
abbrev pub unit_with_entry : {P : Type 0} → (P → P → Bool) → List (DwUnit P) → P → Option (DwUnit P)
unit_with_entry same units p = of_first (λ u. if has_key same p (entry_keys u) then Some u else None) units

-- what is in no unit of the file is in one of the common file
abbrev pub role_in : {P : Type 0} → Option (DwUnit P) → UnitRole
role_in None = CommonUnit
role_in (Some u) = holder_of false u.kind

abbrev pub slots_of_unit : {P : Type 0} → Option (DwUnit P) → Option ℕ
slots_of_unit None = None
slots_of_unit (Some u) = (bases_in u).slots

-- the paths of a line table that was read; one that isn't there has none
abbrev pub paths_read : Result FileTable Fault → List (List ℕ)
paths_read (Ok table) = table.paths
paths_read (Err f) = []

abbrev pub paths_at : Sources → Option ℕ → Option (List (List ℕ))
paths_at s None = None
paths_at s (Some place) = Some (paths_read (file_table_at (text_sections_of s) s.line place))

abbrev pub paths_of_unit : {P : Type 0} → Sources → Option (DwUnit P) → Option (List (List ℕ))
paths_of_unit s None = None
paths_of_unit s (Some u) = paths_at s (bases_in u).line

-- forms for a file that says so, with these sections; the n-th new unit is the n-th that isn't partial
abbrev pub choice : {P : Type 0} → (P → P → Bool) → WithCommon P → Sources → Choice P
choice same w s = record {
  role = λ p. role_in (unit_with_entry same w.own p);
  slots = λ p. slots_of_unit (unit_with_entry same w.own p);
  offsets = s.offsets;
  paths = λ n. paths_of_unit s (slice_get (whole_units w.own) n);
}
