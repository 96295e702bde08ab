-- What was read and stays where texts move stays so in the unit in which it is written.
use Rattle.std.proofs.Common.{◌≡◌, ℕ, ℤ, Bool, true, false, List, [], ◌∷◌, map, refl, sym, ap, subst, ◌∙◌, inl, inr}
use Rattle.dwz_def_reading.specs.Spelling.{reach}
use Rattle.dwz_def_reading.specs.Trees.{End, Entry}
use Rattle.dwz_def_reading.specs.Documents.{Attr, Compile, DwUnit, Entries, Kind, Node, OfType, Partial}
use Rattle.dwz_def_reading.specs.Meanings.{Sources}
use Rattle.dwz_def_reading.specs.Classes.{OfCommonEntry, OfConstant, OfInfoEntry, OfTextBySlot, OfTextInLineStr, OfTextInStr, OfUnitEntry}
use Rattle.dwz_def_reading.specs.Classes.{Class, class_in, class_of, class_rows, names_file}
use Rattle.dwz_def_reading.specs.Meanings.{number_of, text_sections_of}
use Rattle.dwz_def_reading.specs.LineTables.{TextSections}
use Rattle.dwz_def_reading.specs.Lists.{Each}
use Rattle.dwz_def_tops.specs.Shown.{units_keys}
use Rattle.dwz_def_encoding.specs.Bases.{Bases, bases_in}
use Rattle.dwz_def_encoding.specs.Carried.{BasesStand, CarriedAttr, CarriedEntries, CarriedNode, CarriedUnit, ComesFromItself, FileStands, OfFile}
use Rattle.dwz_def_encoding.specs.Fitting.{EachAttr}
use Rattle.dwz_def_encoding.specs.Placing.{Chosen, CommonUnit, Forms, InCommon, InFile, InUnit, KeyedForms, NewUnit, OldUnit, Reach, UnitForms, UnitRole, as_constant, as_file, as_line_text, as_slot}
use Rattle.dwz_def_encoding.specs.Placing.{as_strp_if}
use Rattle.dwz_def_encoding.specs.Placing.{as_text, fit, fit_as, fit_attr, fit_unit, fit_units, has_text, holder_of, reach_of, ref_form, slot_number, unit_forms, with_keys}
use Rattle.dwz_def_encoding.specs.Pruned.{AttrStays, StaysAs, StaysIn, UnitStays}
use Rattle.dwz_def_encoding.specs.Writing.{text_or_empty}
use Rattle.dwz_def_encoding.proofs.FormsKnown.{import_class}
use Rattle.dwz_def_encoding.proofs.Chosen.{bases_fit}
use Rattle.dwz_def_encoding.proofs.StoredClasses.{offset_class}

-- ---- as it was read

module _ {K : Type 0} (sources : Sources) (places : List ℕ) (origin : Bases) (a : Attr K) where
  abbrev Stays : Class → ℕ → ℤ → Type 0
  Stays c name raw = StaysAs c (text_sections_of sources) sources.line places origin name (reach raw)

  read_stays : CarriedAttr (StaysIn sources places) origin a → AttrStays (text_sections_of sources) sources.line places origin a
  read_stays (inl came) =
      let w = came.was_read in
      let form : w.old.pair.form ≡ a.form = sym w.means.form ∙ sym (ap (λ (b : Attr K). b.form) w.same) in
      let name : w.old.pair.name ≡ a.name = sym w.means.name ∙ sym (ap (λ (b : Attr K). b.name) w.same) in
      let raw : number_of w.old.raw ≡ a.raw = sym w.means.raw ∙ sym (ap (λ (b : Attr K). b.raw) w.same) in
      subst (λ (z : ℤ). Stays (class_of a.form) a.name z) raw
      (subst (λ (n : ℕ). Stays (class_of a.form) n (number_of w.old.raw)) name
      (subst (λ (f : ℕ). Stays (class_of f) w.old.pair.name (number_of w.old.raw)) form
      (subst (λ (b : Bases). StaysAs (class_of w.old.pair.form) (text_sections_of sources) sources.line places b w.old.pair.name (reach (number_of w.old.raw))) came.unit came.file.1)))
  read_stays (inr (inl i)) = subst (λ (c : Class). Stays c a.name a.raw) (sym (ap class_of i.form ∙ import_class)) tt
  read_stays (inr (inr l)) = subst (λ (c : Class). Stays c a.name a.raw) (sym (ap class_of l.form ∙ offset_class)) tt

-- what was read in a file, and stays so
module _ {K : Type 0} (sources : Sources) (places : List ℕ) (origin : Bases) where
  abbrev Here : Attr K → Type 0
  Here a = AttrStays (text_sections_of sources) sources.line places origin a

  attr_too : (a : Attr K) → CarriedAttr (OfFile sources) origin a → Here a → CarriedAttr (StaysIn sources places) origin a
  attr_too a (inl came) stays =
      let w = came.was_read in
      let form : w.old.pair.form ≡ a.form = sym w.means.form ∙ sym (ap (λ (b : Attr K). b.form) w.same) in
      let name : w.old.pair.name ≡ a.name = sym w.means.name ∙ sym (ap (λ (b : Attr K). b.name) w.same) in
      let raw : number_of w.old.raw ≡ a.raw = sym w.means.raw ∙ sym (ap (λ (b : Attr K). b.raw) w.same) in
      let old = subst (λ (b : Bases). StaysAs (class_of w.old.pair.form) (text_sections_of sources) sources.line places b w.old.pair.name (reach (number_of w.old.raw))) (sym came.unit)
      (subst (λ (f : ℕ). Stays sources places origin a (class_of f) w.old.pair.name (number_of w.old.raw)) (sym form)
      (subst (λ (n : ℕ). Stays sources places origin a (class_of a.form) n (number_of w.old.raw)) (sym name)
      (subst (λ (z : ℤ). Stays sources places origin a (class_of a.form) a.name z) (sym raw) stays))) in
      inl (record { was_read = w; file = (came.file, old); unit = came.unit; stored = came.stored; built = came.built })
  attr_too a (inr other) stays = inr other

  attrs_too : (attrs : List (Attr K)) → Each (CarriedAttr (OfFile sources) origin) attrs → Each Here attrs → Each (CarriedAttr (StaysIn sources places) origin) attrs
  attrs_too [] carried stays = tt
  attrs_too (a ∷ attrs) carried stays = (attr_too a carried.0 stays.0, attrs_too attrs carried.1 stays.1)

  node_too : (e : Node K) → CarriedNode (OfFile sources) origin e → Each Here e.attrs → CarriedNode (StaysIn sources places) origin e
  node_too e carried stays = record { some_tag = carried.some_tag; tag_fits = carried.tag_fits; attrs = attrs_too e.attrs carried.attrs stays }

  entries_too : (g : Entries K) → CarriedEntries (OfFile sources) origin g → EachAttr Here g → CarriedEntries (StaysIn sources places) origin g
  entries_too End carried stays = tt
  entries_too (Entry e children next) carried stays = (node_too e carried.0 stays.0, entries_too children carried.1 stays.1, entries_too next carried.2 stays.2)

  unit_too : (u : DwUnit K) → CarriedUnit (OfFile sources) origin u → Each Here u.root.attrs × EachAttr Here u.below → CarriedUnit (StaysIn sources places) origin u
  unit_too u carried stays = record { kind = carried.kind; main = carried.main; root = node_too u.root carried.root stays.0; below = entries_too u.below carried.below stays.1 }

pub units_too : {K : Type 0} (sources : Sources) (places : List ℕ) (units : List (DwUnit K)) → Each (λ u. CarriedUnit (OfFile sources) (bases_in u) u) units
    → Each (UnitStays (text_sections_of sources) sources.line places) units
    → Each (λ u. CarriedUnit (StaysIn sources places) (bases_in u) u) units
units_too sources places [] carried stays = tt
units_too sources places (u ∷ units) carried stays = (unit_too sources places (bases_in u) u carried.0 stays.0, units_too sources places units carried.1 stays.1)

-- ---- with its form

module _ {K : Type 0} (texts : TextSections) (line places : List ℕ) (x : UnitForms K) (own origin : Bases) (a : Attr K) where
  abbrev Goal : Chosen → Type 0
  Goal c = StaysAs (class_of c.form) texts line places own a.name (reach c.raw)

  strp_stays : (b : Bool) (at : ℕ) → Goal (as_strp_if b x a at)
  unfolding class_rows class_in
  strp_stays true at = tt
  strp_stays false at = tt

  entry_stays : (r : Reach) → Goal (record { form = ref_form r; raw = a.raw })
  unfolding class_rows class_in
  entry_stays InUnit = tt
  entry_stays InFile = tt
  entry_stays InCommon = tt

  text_stays : (h : UnitRole) → Goal (as_text h x a)
  unfolding class_rows class_in
  text_stays CommonUnit = tt
  text_stays OldUnit = strp_stays (has_text x.shared (text_or_empty a.value.plain)) (reach a.raw)
  text_stays NewUnit = strp_stays (has_text x.shared (text_or_empty a.value.plain)) (reach a.raw)

  line_text_stays : (h : UnitRole) → class_of a.form ≡ OfTextInLineStr → Goal (as_line_text h x a)
  unfolding class_rows class_in
  line_text_stays CommonUnit e = tt
  line_text_stays OldUnit e = subst (λ (c : Class). StaysAs c texts line places own a.name (reach a.raw)) (sym e) tt
  line_text_stays NewUnit e = subst (λ (c : Class). StaysAs c texts line places own a.name (reach a.raw)) (sym e) tt

  slot_stays : (h : UnitRole) → ComesFromItself h own origin → AttrStays texts line places origin a → Goal (as_slot h x a)
  unfolding class_rows class_in
  slot_stays CommonUnit itself stays = tt
  slot_stays OldUnit itself stays = subst (λ (b : Bases). AttrStays texts line places b a) (sym itself) stays
  slot_stays NewUnit itself stays = strp_stays (has_text x.shared (text_or_empty a.value.plain)) (slot_number x.offsets x.origin_bases.slots (reach a.raw))

  file_stays : (h : UnitRole) → (h ≡ CommonUnit → ⊥) → ComesFromItself h own origin → FileStands h own.line origin.line a → AttrStays texts line places origin a
      → class_of a.form ≡ OfConstant → Goal (as_file h x a)
  file_stays CommonUnit never itself file stays e = absurd (never refl)
  file_stays OldUnit never itself file stays e = subst (λ (b : Bases). AttrStays texts line places b a) (sym itself) stays
  file_stays NewUnit never itself file stays e =
      let there = subst (λ (c : Class). StaysAs c texts line places origin a.name (reach a.raw)) e stays in
      subst (λ (c : Class). StaysAs c texts line places own a.name (reach a.raw)) (sym e) (λ names place is. there names place (sym (file (e, names)) ∙ is))

  constant_stays : (b : Bool) → names_file a.name ≡ b → (h : UnitRole) → (h ≡ CommonUnit → ⊥) → ComesFromItself h own origin → FileStands h own.line origin.line a
      → AttrStays texts line places origin a → class_of a.form ≡ OfConstant
      → x.holder ≡ h → Goal (as_constant b x a)
  constant_stays true named h never itself file stays e same = subst (λ (w : UnitRole). Goal (as_file w x a)) (sym same) (file_stays h never itself file stays e)
  constant_stays false named h never itself file stays e same =
      subst (λ (c : Class). StaysAs c texts line places own a.name (reach a.raw)) (sym e) (λ names place is. absurd (let z : true ≡ false = sym names ∙ named in cc))

  fit_stays : (h : UnitRole) → (h ≡ CommonUnit → ⊥) → ComesFromItself h own origin → FileStands h own.line origin.line a → AttrStays texts line places origin a → x.holder ≡ h
      → AttrStays texts line places own (fit_attr x a)
  fit_stays h never itself file stays same = by (class_of a.form) refl where
    by : (c : Class) → class_of a.form ≡ c → Goal (fit_as c x a)
    by OfConstant e = constant_stays (names_file a.name) refl h never itself file stays e same
    by OfUnitEntry e = entry_stays (reach_of x a.value.refs)
    by OfInfoEntry e = entry_stays (reach_of x a.value.refs)
    by OfCommonEntry e = entry_stays (reach_of x a.value.refs)
    by OfTextInStr e = text_stays x.holder
    by OfTextInLineStr e = line_text_stays x.holder e
    by OfTextBySlot e = subst (λ (w : UnitRole). Goal (as_slot w x a)) (sym same) (slot_stays h itself stays)
    by c e = subst (λ (d : Class). StaysAs d texts line places own a.name (reach a.raw)) (sym e) tt

-- ---- units

no_common : {K : Type 0} (b : Bool) (kind : Kind K) → b ≡ false → holder_of b kind ≡ CommonUnit → ⊥
no_common true kind e is = absurd cc
no_common false Compile e is = absurd cc
no_common false (OfType signature main) e is = absurd cc
no_common false Partial e is = absurd cc

module _ {K : Type 0} (f : KeyedForms K) (sources : Sources) (places : List ℕ) (own_file : f.is_common ≡ false) (u : DwUnit K)
    (bases : ComesFromItself (holder_of f.is_common u.kind) (bases_in u) (f.origin u.at)) where
  abbrev At : Attr K → Type 0
  At a = AttrStays (text_sections_of sources) sources.line places (bases_in u) a

  abbrev Files : Attr K → Type 0
  Files a = FileStands (holder_of f.is_common u.kind) (bases_in u).line (f.origin u.at).line a

  attr_stays : (a : Attr K) → CarriedAttr (StaysIn sources places) (f.origin u.at) a → Files a → At (fit_attr (unit_forms f u) a)
  attr_stays a carried file =
      fit_stays (text_sections_of sources) sources.line places (unit_forms f u) (bases_in u) (f.origin u.at) a (holder_of f.is_common u.kind) (no_common f.is_common u.kind own_file) bases file
      (read_stays sources places (f.origin u.at) a carried) refl

  attrs_stay : (attrs : List (Attr K)) → Each (CarriedAttr (StaysIn sources places) (f.origin u.at)) attrs → Each Files attrs → Each At (map (fit_attr (unit_forms f u)) attrs)
  attrs_stay [] carried files = tt
  attrs_stay (a ∷ attrs) carried files = (attr_stays a carried.0 files.0, attrs_stay attrs carried.1 files.1)

  entries_stay : (g : Entries K) → CarriedEntries (StaysIn sources places) (f.origin u.at) g → EachAttr Files g → EachAttr At (fit (unit_forms f u) g)
  unfolding fit
  entries_stay End carried files = tt
  entries_stay (Entry e children next) carried files = (attrs_stay e.attrs carried.0.attrs files.0, entries_stay children carried.1 files.1, entries_stay next carried.2 files.2)

  unit_stays : CarriedUnit (StaysIn sources places) (f.origin u.at) u → Each Files u.root.attrs → EachAttr Files u.below → UnitStays (text_sections_of sources) sources.line places (fit_unit f u)
  unit_stays carried root below =
      subst (λ (b : Bases). Each (AttrStays (text_sections_of sources) sources.line places b) (map (fit_attr (unit_forms f u)) u.root.attrs)
      × EachAttr (AttrStays (text_sections_of sources) sources.line places b) (fit (unit_forms f u) u.below)) (sym (bases_fit f u))
      (attrs_stay u.root.attrs carried.root.attrs root, entries_stay u.below carried.below below)

each_stays : {K : Type 0} (f : Forms K) (keys : List K) (sources : Sources) (places : List ℕ) → f.is_common ≡ false → (units : List (DwUnit K))
    → Each (λ u. CarriedUnit (StaysIn sources places) (f.origin u.at) u) units → Each (BasesStand f) units
    → Each (UnitStays (text_sections_of sources) sources.line places) (map (fit_unit (with_keys f keys)) units)
each_stays f keys sources places own_file [] carried bases = tt
each_stays f keys sources places own_file (u ∷ units) carried bases =
    (unit_stays (with_keys f keys) sources places own_file u bases.0.own carried.0 bases.0.root bases.0.below, each_stays f keys sources places own_file units carried.1 bases.1)

-- so all units of a file do
pub units_stay : {K : Type 0} (f : Forms K) (sources : Sources) (places : List ℕ) → f.is_common ≡ false → (units : List (DwUnit K))
    → Each (λ u. CarriedUnit (StaysIn sources places) (f.origin u.at) u) units → Each (BasesStand f) units
    → Each (UnitStays (text_sections_of sources) sources.line places) (fit_units f units)
unfolding fit_units
units_stay f sources places own_file units carried bases = each_stays f (units_keys units) sources places own_file units carried bases
