-- The test tells whether a file is prunable: each part of it decides its part of the relation.
use Rattle.std.proofs.Common.{◌≡◌, ℕ, zero, suc, ◌+◌, ◌≤◌, Bool, true, false, List, [], ◌∷◌, drop, length, Option, Some, None, Result, Ok, Err, refl, sym, ap, subst, ◌∙◌, arith, eq-eqb}
use Rattle.std.specs.Prelude.{Decides, ◌==◌, ◌&&◌, ◌||◌, not, codes}
use Rattle.std.specs.List.{list_all}
use Rattle.std.specs.Option.{option_eq, option_map_or}
use Rattle.std.specs.Str.{bytes_eq}
use Rattle.std.proofs.lemmas.Bool.{and_from, and_parts, eqb-true, false≢true, or_parts}
use Rattle.std.proofs.lemmas.List.{drop_all}
use Rattle.std.proofs.lemmas.Slice.Eq.{bytes_eq-Decides}
use Rattle.dwz_def_reading.specs.Fault.{Fault}
use Rattle.dwz_def_reading.specs.declared.elf.Header.{Header}
use Rattle.dwz_def_reading.specs.Classes.{Class, OfConstant, OfTextBySlot, class_of, names_file}
use Rattle.dwz_def_reading.specs.Documents.{Attr, DwUnit, Entries}
use Rattle.dwz_def_reading.specs.ElfHeaders.{headers_in, is_there}
use Rattle.dwz_def_reading.specs.ElfNames.{name_at, name_table}
use Rattle.dwz_def_reading.specs.Files.{section_of, sources_of}
use Rattle.dwz_def_reading.specs.LineTables.{FileTable, IsFileTable, TextSections, file_table_at, is_header, line_length}
use Rattle.dwz_def_reading.specs.Lists.{Each, In}
use Rattle.dwz_def_reading.specs.Rows.{has}
use Rattle.dwz_def_reading.specs.Meanings.{text_sections_of}
use Rattle.dwz_def_reading.specs.OffsetTables.{AreSlots, slots_in}
use Rattle.dwz_def_reading.specs.Spelling.{reach}
use Rattle.dwz_def_reading.specs.Texts.{slot_place}
use Rattle.dwz_def_reading.specs.Trees.{End, Entry}
use Rattle.dwz_def_reading.proofs.LineTableLemmas.{file_table_agrees}
use Rattle.dwz_def_reading.proofs.MeaningLemmas.{has_in}
use Rattle.dwz_def_reading.proofs.OffsetLemmas.{slots_again, slots_found}
use Rattle.dwz_def_reading.specs.LineSection.{AreTablesFrom, UsesStrp, any_strp}
use Rattle.dwz_def_tops.proofs.Members.{any_from, any_true}
use Rattle.dwz_def_reading.proofs.HasLemmas.{in_has}
use Rattle.dwz_def_encoding.specs.Bases.{Bases, bases_in}
use Rattle.dwz_def_encoding.specs.Fitting.{EachAttr}
use Rattle.dwz_def_encoding.specs.Pruned.{AttrStays, HasNoStrp, StaysAs, UnitStays}
use Rattle.dwz_def_readback.specs.Prunable.{HasSection, IsPrunable}
use Rattle.dwz_def_readback.specs.PrunableTest.{attr_stays, each_attr, has_content, is_prunable, stays_of, table_has_strp, table_lacks_strp, tables_lack_strp, unit_stays}

-- ---- tests together

both : {P Q : Type 0} (a b : Bool) → Decides a P → Decides b Q → Decides (a && b) (P × Q)
both a b p q = (
  λ e. (p.0 (and_parts a b e).0, q.0 (and_parts a b e).1),
  λ h. and_from a b (p.1 h.0) (q.1 h.1),
)

negated : {P : Type 0} (b : Bool) → Decides b P → Decides (not b) (P → ⊥)
negated true d = (λ e. absurd (false≢true e), λ h. absurd (h (d.0 refl)))
negated false d = (λ e p. false≢true (d.1 p), λ h. refl)

all_each : {X : Type 0} (P : X → Type 0) (p : X → Bool) → ((x : X) → Decides (p x) (P x)) → (xs : List X) → Decides (list_all p xs) (Each P xs)
all_each P p is [] = (λ e. tt, λ h. refl)
all_each P p is (x ∷ xs) = both (p x) (list_all p xs) (is x) (all_each P p is xs)

attrs_each : {K : Type 0} (P : Attr K → Type 0) (p : Attr K → Bool) → ((a : Attr K) → Decides (p a) (P a)) → (entries : Entries K) → Decides (each_attr p entries) (EachAttr P entries)
attrs_each P p is End = (λ e. tt, λ h. refl)
attrs_each P p is (Entry e children next) =
    let own = all_each P p is e.attrs in
    let below = both (each_attr p children) (each_attr p next) (attrs_each P p is children) (attrs_each P p is next) in (
      λ t. (let r = and_parts (list_all p e.attrs) (each_attr p children && each_attr p next) t in let more = below.0 r.1 in (own.0 r.0, more.0, more.1)),
      λ h. and_from (list_all p e.attrs) (each_attr p children && each_attr p next) (own.1 h.0) (below.1 (h.1, h.2)),
    )

-- ---- a section with a name

named : (name : List ℕ) (o : Option (List ℕ)) → Decides (option_eq bytes_eq o (Some name)) (o ≡ Some name)
named name None = (λ e. absurd (false≢true e), λ h. absurd (let z : None ≡ Some name = h in cc))
named name (Some found) = (
  λ e. ap (λ (w : List ℕ). Some w) ((bytes_eq-Decides found name).0 e),
  λ h. (bytes_eq-Decides found name).1 (let same : found ≡ name = cc in same),
)

module _ (bytes name : List ℕ) where
  abbrev calls : Header → Bool
  calls h = option_eq bytes_eq (name_at (name_table bytes) h.name) (Some name)

  abbrev test : Header → Bool
  test h = is_there h && calls h

  content_is : Decides (has_content bytes name) (HasSection bytes name)
  content_is = (
    λ e. (
        let o = any_from test (headers_in bytes) e in
        let r = and_parts (is_there o.one) (calls o.one) o.passes in
        record { header = o.one; there = o.there; named = (named name (name_at (name_table bytes) o.one.name)).0 r.1; content = r.0 }),
    λ h. any_true test h.header (headers_in bytes) h.there (and_from (is_there h.header) (calls h.header) h.content ((named name (name_at (name_table bytes) h.header.name)).1 h.named)),
  )

-- ---- line tables

none_at : is_header [] ≡ false
none_at = refl

module _ (texts : TextSections) (line : List ℕ) where
  -- none stands past the end
  past : (place : ℕ) (t : FileTable) → length line ≤ place → IsFileTable texts line place t → ⊥
  past place t end is =
      let none : drop place line ≡ [] = drop_all place line end in
      false≢true (sym none_at ∙ ap is_header (sym none) ∙ is.header)

  abbrev read : ℕ → Result FileTable Fault
  read place = file_table_at texts line place

  there : (place : ℕ) (t : FileTable) → IsFileTable texts line place t → read place ≡ Ok t
  there place t is = ((file_table_agrees texts line place).ok t).1 is

  found : (place : ℕ) (t : FileTable) → read place ≡ Ok t → IsFileTable texts line place t
  found place t e = ((file_table_agrees texts line place).ok t).0 e

  -- one stands at a place, and has no format with that form
  abbrev Lacks : ℕ → Type 0
  Lacks place = (t : FileTable) × IsFileTable texts line place t × (t.has_strp ≡ false)

  not_true : (b : Bool) → not b ≡ true → b ≡ false
  not_true true e = absurd (false≢true e)
  not_true false e = refl

  not_false : (b : Bool) → b ≡ false → not b ≡ true
  not_false true e = absurd (false≢true (sym e))
  not_false false e = refl

  lacks_is : (place : ℕ) → Decides (table_lacks_strp (read place)) (Lacks place)
  lacks_is place = (by (read place) refl, λ h. ap table_lacks_strp (there place h.0 h.1) ∙ not_false h.0.has_strp h.2) where
    by : (r : Result FileTable Fault) → read place ≡ r → table_lacks_strp r ≡ true → Lacks place
    by (Ok t) e passes = (t, found place t e, not_true t.has_strp passes)
    by (Err f) e passes = absurd (false≢true passes)

  -- none that stands there has one
  no_strp : (place : ℕ) → Decides (not (table_has_strp (read place))) (HasNoStrp texts line place)
  no_strp place = (
    λ e t is. not_true t.has_strp (ap (λ (r : Result FileTable Fault). not (table_has_strp r)) (sym (there place t is)) ∙ e),
    by (read place) refl,
  ) where
    by : (r : Result FileTable Fault) → read place ≡ r → HasNoStrp texts line place → not (table_has_strp r) ≡ true
    by (Ok t) e none = not_false t.has_strp (none t (found place t e))
    by (Err f) e none = refl

  -- ---- a row of them

  abbrev next : ℕ → ℕ
  next place = place + (4 + line_length (drop place line))

  -- from that place on
  abbrev Row : ℕ → Type 0
  Row place = (tables : List FileTable) × AreTablesFrom texts line place tables × (any_strp tables ≡ false)

  either : (a b : Bool) → (a || b) ≡ true → (a ≡ false) → b ≡ true
  either true b e none = absurd (false≢true (sym none))
  either false b e none = e

  or_left : (a b : Bool) → a ≡ true → (a || b) ≡ true
  or_left true b e = refl
  or_left false b e = absurd (false≢true e)

  or_right : (a b : Bool) → b ≡ true → (a || b) ≡ true
  or_right true b e = refl
  or_right false b e = e

  any_none : (a b : Bool) → a ≡ false → b ≡ false → (a || b) ≡ false
  any_none true b e f = e
  any_none false b e f = f

  row_from : (most place : ℕ) → tables_lack_strp most texts line place ≡ true → Row place
  unfolding tables_lack_strp
  row_from zero place e = ([], eqb-true place (length line) e, refl)
  row_from (suc most) place e = by (row_from most (next place)) (place == length line) refl where
    by : (tables_lack_strp most texts line (next place) ≡ true → Row (next place)) → (b : Bool) → (place == length line) ≡ b → Row place
    by deeper true end = ([], eqb-true place (length line) end, refl)
    by deeper false end =
        let lacks = table_lacks_strp (read place) in
        let more = tables_lack_strp most texts line (next place) in
        let r = and_parts lacks more (either (place == length line) (lacks && more) e end) in
        let one = (lacks_is place).0 r.0 in
        let rest = deeper r.1 in
        (one.0 ∷ rest.0, (one.1, rest.1), any_none one.0.has_strp (any_strp rest.0) one.2 rest.2)

  row_to : (most place : ℕ) (tables : List FileTable) → length line ≤ place + most → AreTablesFrom texts line place tables → any_strp tables ≡ false → tables_lack_strp most texts line place ≡ true
  unfolding tables_lack_strp
  row_to zero place [] far are none = eq-eqb place (length line) are
  row_to (suc most) place [] far are none =
      or_left (place == length line) (table_lacks_strp (read place) && tables_lack_strp most texts line (next place)) (eq-eqb place (length line) are)
  row_to zero place (t ∷ tables) far are none = absurd (past place t (omega (arith, far)) are.0)
  row_to (suc most) place (t ∷ tables) far are none =
      let parts = or_parts t.has_strp (any_strp tables) none in
      let rest = row_to most (next place) tables (omega (arith, far)) are.1 parts.1 in
      or_right (place == length line) (table_lacks_strp (read place) && tables_lack_strp most texts line (next place))
      (and_from (table_lacks_strp (read place)) (tables_lack_strp most texts line (next place)) ((lacks_is place).1 (t, are.0, parts.0)) rest)

  tables_are : Decides (tables_lack_strp (length line) texts line 0) (UsesStrp texts line (Some false))
  tables_are = (
    λ e. (let r = row_from (length line) 0 e in (r.0, record { row = r.1; any = r.2 })),
    λ h. row_to (length line) 0 h.0 (omega arith) h.1.row h.1.any,
  )

  -- ---- values

  module _ (places : List ℕ) where
    slot_is : (number : ℕ) (base : Option ℕ)
        → Decides (option_map_or (λ b. has (slot_place b number) places) base true) ((b : ℕ) → base ≡ Some b → In (slot_place b number) places)
    slot_is number None = (λ e b none. absurd (let z : None ≡ Some b = none in cc), λ h. refl)
    slot_is number (Some base) = (
      λ e b is. (let same : base ≡ b = cc in subst (λ (n : ℕ). In (slot_place n number) places) same (has_in (slot_place base number) places e)),
      λ h. in_has (slot_place base number) places (h base refl),
    )

    file_is : (at : Option ℕ) → Decides (option_map_or (λ place. not (table_has_strp (read place))) at true) ((place : ℕ) → at ≡ Some place → HasNoStrp texts line place)
    file_is None = (λ e place none. absurd (let z : None ≡ Some place = none in cc), λ h. refl)
    file_is (Some at) = (
      λ e place is. (let same : at ≡ place = cc in subst (HasNoStrp texts line) same ((no_strp at).0 e)),
      λ h. (no_strp at).1 (h at refl),
    )

    -- asked only where a test passes
    where_so : {P : Type 0} (a b : Bool) → Decides b P → Decides (not a || b) (a ≡ true → P)
    where_so true b d = (λ e so. d.0 e, λ h. d.1 (h refl))
    where_so false b d = (λ e so. absurd (false≢true so), λ h. refl)

    class_is : (c : Class) (own : Bases) (name number : ℕ) → Decides (stays_of c texts line places own name number) (StaysAs c texts line places own name number)
    class_is OfTextBySlot own name number = slot_is number own.slots
    class_is OfConstant own name number =
        where_so (names_file name) (option_map_or (λ place. not (table_has_strp (read place))) own.line true) (file_is own.line)
    class_is c own name number = (λ h. tt, λ h. refl)

    attr_is : {K : Type 0} (own : Bases) (a : Attr K) → Decides (attr_stays texts line places own a) (AttrStays texts line places own a)
    attr_is own a = class_is (class_of a.form) own a.name (reach a.raw)

    unit_is : {K : Type 0} (u : DwUnit K) → Decides (unit_stays texts line places u) (UnitStays texts line places u)
    unit_is u =
        let own = bases_in u in
        both (list_all (attr_stays texts line places own) u.root.attrs) (each_attr (attr_stays texts line places own) u.below)
        (all_each (AttrStays texts line places own) (attr_stays texts line places own) (attr_is own) u.root.attrs)
        (attrs_each (AttrStays texts line places own) (attr_stays texts line places own) (attr_is own) u.below)

-- ---- a file

module _ {K : Type 0} (bytes : List ℕ) (units : List (DwUnit K)) where
  abbrev texts : TextSections
  texts = text_sections_of (sources_of bytes)

  abbrev line : List ℕ
  line = section_of bytes 6

  abbrev section : List ℕ
  section = section_of bytes 5

  abbrev Stay : List ℕ → Type 0
  Stay places = Each (UnitStays texts line places) units

  abbrev stay : List ℕ → Bool
  stay places = list_all (unit_stays texts line places) units

  units_are : (places : List ℕ) → Decides (stay places) (Stay places)
  units_are places = all_each (UnitStays texts line places) (unit_stays texts line places) (unit_is texts line places) units

  -- the slots, and all units by them
  abbrev Slots : Type 0
  Slots = (places : List ℕ) × AreSlots section places × Stay places

  slots_are : Decides (option_map_or stay (slots_in section) false) Slots
  slots_are = (from (slots_in section) refl, λ h. ap (λ (o : Option (List ℕ)). option_map_or stay o false) (slots_again section h.0 h.1) ∙ (units_are h.0).1 h.2) where
    from : (o : Option (List ℕ)) → slots_in section ≡ o → option_map_or stay o false ≡ true → Slots
    from None e passes = absurd (false≢true passes)
    from (Some places) e passes = (places, slots_found section places e, (units_are places).0 passes)

  pub prunable_decided : Decides (is_prunable bytes units) (IsPrunable bytes units)
  prunable_decided =
      let macro = has_content bytes (codes ".debug_macro") in
      let lacks = tables_lack_strp (length line) texts line 0 in
      let by_slots = option_map_or stay (slots_in section) false in
      let all = both (not macro) (lacks && by_slots) (negated macro (content_is bytes (codes ".debug_macro"))) (both lacks by_slots (tables_are texts line) slots_are) in (
        λ e. (let r = all.0 e in record { no_macro = r.0; places = r.1.1.0; slots = r.1.1.1; tables = r.1.0; units = r.1.1.2 }),
        λ h. all.1 (h.no_macro, (h.tables, (h.places, h.slots, h.units))),
      )
