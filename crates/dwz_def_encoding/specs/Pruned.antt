-- A file of whose texts only those stay that are used: the uses, the new numbers, and the section of slots.
use Rattle.std.specs.Prelude.{◌≡◌, ◌⊎◌, ℕ, pos, ◌+◌, ◌<◌, ◌≤◌, true, false, List, [], ◌∷◌, ◌++◌, length, take, drop, map, Option, Some}
use Rattle.std.specs.Prelude.{None, is_some, slice_index, ◌==◌, if◌then◌else◌}
use Rattle.std.specs.List.{filter}
use Rattle.dwz_def_reading.specs.Spelling.{SpellsFixed, le_value, reach}
use Rattle.dwz_def_reading.specs.Lists.{Each, In}
use Rattle.dwz_def_reading.specs.OffsetTables.{slots_in}
use Rattle.dwz_def_reading.specs.Parts.{StandsAt}
use Rattle.dwz_def_reading.specs.Pruning.{new_number}
use Rattle.dwz_def_reading.specs.Texts.{slot_place, text_at}
use Rattle.dwz_def_reading.specs.Trees.{End, Entry}
use Rattle.dwz_def_reading.specs.Documents.{Attr, DwUnit, Entries, Node}
use Rattle.dwz_def_reading.specs.LineTables.{FileTable, IsFileTable, TextSections}
use Rattle.dwz_def_reading.specs.Meanings.{Sources, offset_of, text_sections_of}
use Rattle.dwz_def_reading.specs.Classes.{OfConstant, OfTextBySlot}
use Rattle.dwz_def_reading.specs.Classes.{Class, class_of, names_file}
use Rattle.dwz_def_encoding.specs.Bases.{Bases, bases_in, bases_of}
use Rattle.dwz_def_encoding.specs.Carried.{From}
use Rattle.dwz_def_encoding.specs.Fitting.{EachAttr}
use Rattle.dwz_def_encoding.specs.Meant.{Tells}
use Rattle.dwz_def_encoding.specs.Placing.{with_form}

-- ---- the uses

-- the offset of a value of DW_FORM_strp
abbrev pub attr_uses : {K : Type 0} → Attr K → List ℕ
attr_uses a = if a.form == 0x0e then reach a.raw ∷ [] else []

unfoldable pub attrs_uses : {K : Type 0} → List (Attr K) → List ℕ
attrs_uses [] = []
attrs_uses (a ∷ attrs) = attr_uses a ++ attrs_uses attrs

unfoldable pub entries_uses : {K : Type 0} → Entries K → List ℕ
entries_uses End = []
entries_uses (Entry e children next) = attrs_uses e.attrs ++ (entries_uses children ++ entries_uses next)

unfoldable pub units_uses : {K : Type 0} → List (DwUnit K) → List ℕ
units_uses [] = []
units_uses (u ∷ units) = attrs_uses u.root.attrs ++ (entries_uses u.below ++ units_uses units)

-- the places of the slots of `.debug_str_offsets`, where it is a row of contributions
abbrev pub slots_or_none : Option (List ℕ) → List ℕ
slots_or_none None = []
slots_or_none (Some places) = places

abbrev pub known_slots : List ℕ → List ℕ
known_slots offsets = slots_or_none (slots_in offsets)

-- the number in the slot at a place
abbrev pub number_in_slot : List ℕ → ℕ → ℕ
number_in_slot offsets place = le_value (take 4 (drop place offsets))

-- the numbers in the slots that name a text
unfoldable pub slot_uses : (strs offsets places : List ℕ) → List ℕ
slot_uses strs offsets places = filter (λ n. is_some (text_at strs n)) (map (number_in_slot offsets) places)

-- all uses: the offsets of values of form strp, and the numbers of slots that name a text
abbrev pub all_uses : {K : Type 0} → (strs offsets : List ℕ) → List (DwUnit K) → List ℕ
all_uses strs offsets units = units_uses units ++ slot_uses strs offsets (known_slots offsets)

-- ---- what is written

-- a value of form strp has the new number of its use
abbrev pub renumbered_attr : {K : Type 0} → (ℕ → ℕ) → Attr K → Attr K
renumbered_attr number a = if a.form == 0x0e then with_form a (record { form = 0x0e; raw = pos (number (reach a.raw)) }) else a

abbrev pub renumbered_node : {K : Type 0} → (ℕ → ℕ) → Node K → Node K
renumbered_node number e = record { at = e.at; tag = e.tag; attrs = map (renumbered_attr number) e.attrs }

unfoldable pub entries_renumbered : {K : Type 0} → (ℕ → ℕ) → Entries K → Entries K
entries_renumbered number End = End
entries_renumbered number (Entry e children next) = Entry (renumbered_node number e) (entries_renumbered number children)
    (entries_renumbered number next)

abbrev pub renumbered_unit : {K : Type 0} → (ℕ → ℕ) → DwUnit K → DwUnit K
renumbered_unit number u = record {
  at = u.at;
  kind = u.kind;
  root = renumbered_node number u.root;
  below = entries_renumbered number
      u.below;
}

unfoldable pub renumbered_units : {K : Type 0} → (ℕ → ℕ) → List (DwUnit K) → List (DwUnit K)
renumbered_units number units = map (renumbered_unit number) units

-- a slot that names a text has its new number, and any other the old one
abbrev pub slot_after : (strs uses : List ℕ) → ℕ → ℕ
slot_after strs uses n = if is_some (text_at strs n) then new_number strs uses n else n

-- the slots at these places have such numbers, and all other bytes are as they were
pub record AreNewSlots (number : ℕ → ℕ) (places old new : List ℕ) : Type 0 where
  pub len : length new ≡ length old
  pub slots : (place n : ℕ) → In place places → StandsAt (SpellsFixed 4) old place n → StandsAt (SpellsFixed 4) new place (number n)
  pub others : (b : ℕ) → ((place : ℕ) → In place places → (b < place) ⊎ (place + 4 ≤ b)) → slice_index new b ≡ slice_index old b

-- ---- what is asked, so that values say the same

-- no text of the line table at a place stands in `.debug_str`
abbrev pub HasNoStrp : TextSections → (line : List ℕ) → ℕ → Type 0
HasNoStrp texts line place = (table : FileTable) → IsFileTable texts line place table → table.has_strp ≡ false

-- of a value of a class, in a unit of which that is known, with its name and number: the slot that it reads is at one of these places, and
-- the line table that it reads has no such text
abbrev pub StaysAs : Class → TextSections → (line places : List ℕ) → Bases → (name number : ℕ) → Type 0
StaysAs OfTextBySlot texts line places own name number = (base : ℕ) → own.slots ≡ Some base → In (slot_place base number) places
StaysAs OfConstant texts line places own name number =
    names_file name ≡ true → (place : ℕ) → own.line ≡ Some place → HasNoStrp texts line place
StaysAs _ texts line places own name number = Unit {0}

abbrev pub AttrStays : {K : Type 0} → TextSections → (line places : List ℕ) → Bases → Attr K → Type 0
AttrStays texts line places own a = StaysAs (class_of a.form) texts line places own a.name (reach a.raw)

abbrev pub UnitStays : {K : Type 0} → TextSections → (line places : List ℕ) → DwUnit K → Type 0
UnitStays texts line places u =
    Each (AttrStays texts line places (bases_in u)) u.root.attrs × EachAttr (AttrStays texts line places (bases_in u)) u.below

-- so it is where the attribute was read, in the file with these sections
abbrev pub StaysIn : Sources → (places : List ℕ) → From
StaysIn sources places s a =
    (s.around.sources ≡ sources)
    × StaysAs (class_of a.pair.form) (text_sections_of sources) sources.line places (bases_of s) a.pair.name (offset_of a)

-- what units are written for, with other sections of texts and of slots
abbrev pub with_texts : {K : Type 0} → Tells K → (strs offsets : List ℕ) → Tells K
with_texts t strs offsets = record {
  strs = strs;
  line_strs = t.line_strs;
  offsets = offsets;
  line = t.line;
  common_strs = t.common_strs;
  lists = t.lists;
  named = t.named;
  name = t.name;
  all = t.all;
  common = t.common;
}
