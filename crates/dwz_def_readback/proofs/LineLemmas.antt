-- The root of a partial unit of a file names the line table by which its files are numbered.
use Rattle.std.proofs.Common.{◌≡◌, ℕ, ℤ, pos, zero, suc, ◌+◌, Bool, true, false, List, [], ◌∷◌, Option, Some, None, cond, eqb, eqb-true, refl, sym, ap, subst, ◌∙◌, arith, inl, inr}
use Rattle.std.proofs.lemmas.Bool.{or_cases}
use Rattle.dwz_def_reading.specs.Spelling.{reach}
use Rattle.dwz_def_reading.specs.Forms.{form_rows}
use Rattle.dwz_def_reading.specs.Entries.{RawAttr}
use Rattle.dwz_def_reading.specs.Lists.{Each, In}
use Rattle.dwz_def_reading.specs.Trees.{End}
use Rattle.dwz_def_reading.specs.Values.{SpellsShape, constant_of, shape_of}
use Rattle.dwz_def_reading.proofs.WrittenLemmas.{fixed_less}
use Rattle.dwz_def_reading.specs.Documents.{Attr, File, Node, Plain, Sec, Value, attr_map, first_named, only, value_map}
use Rattle.dwz_def_reading.specs.Meanings.{IfSo, IsFileBy, IsFileNumber, IsLocList, MeansAs, MeaningContext, constant_value, number_of, offset_of, stmt_list}
use Rattle.dwz_def_reading.specs.Classes.{OfAddress, OfBlock, OfCommonEntry, OfCommonText, OfConstant, OfExpression, OfFlag, OfIndex}
use Rattle.dwz_def_reading.specs.Classes.{Class}
use Rattle.dwz_def_reading.specs.Classes.{OfInfoEntry, OfListIndex, OfOffset, OfSignature, OfText, OfTextBySlot, OfTextInLineStr, OfTextInStr, OfUnitEntry, Unread}
use Rattle.dwz_def_reading.specs.Classes.{class_of}
use Rattle.dwz_def_reading.specs.Classes.{names_file, names_list}
use Rattle.dwz_def_reading.proofs.DecideLemmas.{if_false, if_true}
use Rattle.dwz_def_tops.specs.Lists.{Nth}
use Rattle.dwz_def_tops.proofs.Members.{any_false, any_from, each_in, nth_from}
use Rattle.dwz_def_tops.specs.Alike.{IsAlike, TopScope, any_attr, any_entry, any_in}
use Rattle.dwz_def_tops.specs.Spots.{EntryName, FileUnit, PartialOf, Top, same_spot}
use Rattle.dwz_def_tops.proofs.Targets.{entry_from, top_false}
use Rattle.dwz_def_tops.proofs.Tops.{unit_of}
use Rattle.dwz_def_images.specs.Homes.{Common, Home, IsChoice, Local, Rule}
use Rattle.dwz_def_images.specs.IsPlan.{Has, OfSpace, OfTop, SpaceOf}
use Rattle.dwz_def_images.specs.Moves.{Move, first_unit, has_path, image_in, line_attr, line_attrs, line_in, line_of, names_path, plan, root_in_part, root_of}
use Rattle.dwz_def_images.specs.Plan.{PartialUnit}
use Rattle.dwz_def_images.proofs.PartRows.{part_is as part_row_is}
use Rattle.dwz_def_images.specs.After.{AreOld}
use Rattle.dwz_def_images.specs.Held.{IsHeld}
use Rattle.dwz_def_images.specs.Units.{partial_unit, tree}
use Rattle.dwz_def_images.proofs.HeldLemmas.{part_found, row_found}
use Rattle.dwz_def_images.proofs.NodeLemmas.{EntryOfTop}
use Rattle.dwz_def_encoding.specs.Bases.{Bases, bases_in, offset_in}
use Rattle.dwz_def_encoding.specs.Carried.{BasesStand, CarriedAttr, CarriedNode, CarriedUnit, FileStands, From, LineFor, NamesLines, NumbersFile}
use Rattle.dwz_def_encoding.specs.Fitting.{EachAttr}
use Rattle.dwz_def_encoding.specs.Placing.{CommonUnit, NewUnit}
use Rattle.dwz_def_encoding.proofs.FormsKnown.{import_class, no_list}
use Rattle.dwz_def_encoding.proofs.StoredClasses.{offset_class}
use Rattle.dwz_def_readback.proofs.CarriedRoots.{RootsCarried}
use Rattle.dwz_def_readback.specs.Files.{origin_in}
use Rattle.dwz_def_readback.proofs.AttrLemmas.{new_attrs}
use Rattle.dwz_def_readback.proofs.HomeLemmas.{part_is, top_file}
use Rattle.dwz_def_readback.proofs.OriginLemmas.{bases_found, first_is, part_origin}
use Rattle.dwz_def_readback.proofs.OutsCarried.{top_carried}
use Rattle.dwz_def_readback.proofs.SpaceLemmas.{first_in}

-- ---- a root's offset

root_found : (units : List (FileUnit EntryName)) (s k n : ℕ) (u : FileUnit EntryName) → Nth s units n u → n ≡ s + k → root_of units k ≡ u.unit.root.attrs
unfolding root_of
root_found [] s k n u h e = absurd h
root_found (f ∷ units) s zero n u (inl x) e = ap (λ (w : FileUnit EntryName). w.unit.root.attrs) x.1
root_found (f ∷ units) s zero n u (inr r) e = absurd (omega (arith, e, nth_from (suc s) units n u r))
root_found (f ∷ units) s (suc k) n u (inl x) e = absurd (omega (arith, x.0, e))
root_found (f ∷ units) s (suc k) n u (inr r) e = root_found units (suc s) k n u r (omega (arith, e))

-- it stands in an attribute of form sec_offset
record GivesOffset (o : Option (Attr EntryName)) : Type 0 where
  attr : Attr EntryName
  found : o ≡ Some attr
  form : attr.form ≡ 0x17

gives : (o : Option (Attr EntryName)) (place : ℕ) → offset_in o ≡ Some place → GivesOffset o
gives None place e = absurd cc
gives (Some a) place e = by (eqb a.form 0x17) refl e where
  by : (b : Bool) → eqb a.form 0x17 ≡ b → cond b (Some (reach a.raw)) None ≡ Some place → GivesOffset (Some a)
  by true t h = record { attr = a; found = refl; form = eqb-true a.form 0x17 t }
  by false t h = absurd cc

offset_form : (a : Attr EntryName) → a.form ≡ 0x17 → offset_in (Some a) ≡ Some (reach a.raw)
offset_form a e = ap (λ (n : ℕ). cond (eqb n 0x17) (Some (reach a.raw)) None) e

-- ---- an attribute that was read

-- the value is the path of a file
module _ {P : Type 0} where
  not_path : (v w : Value P) → v ≡ w → has_path w.plain ≡ false → has_path v.plain ≡ true → ⊥
  not_path v w e none is = (let z : false ≡ true = sym none ∙ sym (ap (λ (x : Value P). has_path x.plain) e) ∙ is in cc)

  abbrev HasTable : MeaningContext P → Type 0
  HasTable s = (place : ℕ) × (stmt_list s ≡ Some place)

  file_table : (s : MeaningContext P) (o : Option ℕ) (number : ℤ) (v : Value P) → stmt_list s ≡ o → IsFileBy o s number v → has_path v.plain ≡ true → HasTable s
  file_table s None number v e h is = absurd (not_path v (only (File None)) h.1 refl is)
  file_table s (Some place) number v e h is = (place, e)

  constant_table : (s : MeaningContext P) (a : RawAttr) (v : Value P) (b : Bool) → IfSo b (IsFileNumber s a v) (v ≡ constant_value a) → has_path v.plain ≡ true → HasTable s
  constant_table s a v true h is = file_table s (stmt_list s) (number_of a.raw) v refl h is
  constant_table s a v false h is = absurd (not_path v (constant_value a) h refl is)

  offset_table : (s : MeaningContext P) (a : RawAttr) (v : Value P) (b : Bool) → IfSo b (IsLocList s (offset_of a) v) (v ≡ only (Sec (offset_of a))) → has_path v.plain ≡ true → ⊥
  offset_table s a v true h is = not_path v _ h.value refl is
  offset_table s a v false h is = not_path v _ h refl is

  -- if_true its unit has a line table
  table_of : (c : Class) (s : MeaningContext P) (a : RawAttr) (v : Value P) → MeansAs c s a v → has_path v.plain ≡ true → HasTable s
  table_of OfAddress s a v h is = absurd (not_path v _ h refl is)
  table_of OfBlock s a v h is = absurd (not_path v _ h refl is)
  table_of OfConstant s a v h is = constant_table s a v (names_file a.pair.name) h is
  table_of OfFlag s a v h is = absurd (not_path v _ h refl is)
  table_of OfText s a v h is = absurd (not_path v _ h refl is)
  table_of OfTextInStr s a v h is = absurd (not_path v _ h.value refl is)
  table_of OfTextInLineStr s a v h is = absurd (not_path v _ h.value refl is)
  table_of OfTextBySlot s a v h is = absurd (not_path v _ h.text.value refl is)
  table_of OfUnitEntry s a v h is = absurd (not_path v _ h.1 refl is)
  table_of OfInfoEntry s a v h is = absurd (not_path v _ h.1 refl is)
  table_of OfSignature s a v h is = absurd (not_path v _ h refl is)
  table_of OfOffset s a v h is = absurd (offset_table s a v (names_list a.pair.name) h is)
  table_of OfExpression s a v h is = absurd (not_path v _ h.value refl is)
  table_of OfListIndex s a v h is = absurd (not_path v _ h.list.value refl is)
  table_of OfIndex s a v h is = absurd (not_path v _ h refl is)
  table_of OfCommonEntry s a v h is = absurd (not_path v _ h.2.1 refl is)
  table_of OfCommonText s a v h is = absurd (not_path v _ h.2.value refl is)
  table_of Unread s a v h is = absurd h

module _ (from : From) (origin : Bases) (a : Attr EntryName) where
  -- a path is that of a row of the line table
  path_table : CarriedAttr from origin a → has_path a.value.plain ≡ true → (place : ℕ) × (origin.line ≡ Some place)
  path_table (inl came) is =
      let w = came.was_read in
      let same : a.value ≡ value_map w.name w.read.value = ap (λ (b : Attr EntryName). b.value) w.same in
      let o = table_of (class_of w.old.pair.form) w.scope w.old w.read.value w.means.value (sym (ap (λ (v : Value EntryName). has_path v.plain) same) ∙ is) in
      (o.0, sym (ap (λ (b : Bases). b.line) came.unit) ∙ o.1)
  path_table (inr (inl i)) is = absurd (not_path a.value _ i.value refl is)
  path_table (inr (inr l)) is = absurd (not_path a.value _ l.value refl is)

  no_table : (s : MeaningContext ℕ) (o : Option ℕ) (number : ℤ) (v : Value ℕ) → IsFileBy o s number v → has_path v.plain ≡ false → o ≡ None
  no_table s None number v h none = refl
  no_table s (Some place) number v h none = absurd (let z : true ≡ false = sym (ap (λ (x : Value ℕ). has_path x.plain) h.value) ∙ none in cc)

  -- a file that is none is in no table
  none_table : CarriedAttr from origin a → NumbersFile a → has_path a.value.plain ≡ false → origin.line ≡ None
  none_table (inl came) numbers none =
      let w = came.was_read in
      let form : w.old.pair.form ≡ a.form = sym w.means.form ∙ sym (ap (λ (b : Attr EntryName). b.form) w.same) in
      let name : w.old.pair.name ≡ a.name = sym w.means.name ∙ sym (ap (λ (b : Attr EntryName). b.name) w.same) in
      let means : MeansAs OfConstant w.scope w.old w.read.value = subst (λ (c : Class). MeansAs c w.scope w.old w.read.value) (ap class_of form ∙ numbers.0) w.means.value in
      let file = if_true (names_file w.old.pair.name) _ _ (ap names_file name ∙ numbers.1) means in
      sym (ap (λ (b : Bases). b.line) came.unit) ∙ no_table w.scope (stmt_list w.scope) (number_of w.old.raw) w.read.value file (sym (ap (λ (b : Attr EntryName). has_path b.value.plain) w.same)
      ∙ none)
  none_table (inr (inl i)) numbers none = absurd (let z : OfConstant ≡ OfInfoEntry = sym numbers.0 ∙ ap class_of i.form ∙ import_class in cc)
  none_table (inr (inr l)) numbers none = absurd (let z : OfConstant ≡ OfOffset = sym numbers.0 ∙ ap class_of l.form ∙ offset_class in cc)

  -- ---- a root's DW_AT_stmt_list

  names_lines : CarriedAttr from origin a → a.name ≡ 0x10 → a.form ≡ 0x17 → NamesLines (line_of (Some a))
  unfolding form_rows
  names_lines (inl came) named formed =
      let w = came.was_read in
      let form : w.old.pair.form ≡ 0x17 = sym w.means.form ∙ sym (ap (λ (b : Attr EntryName). b.form) w.same) ∙ formed in
      let name : w.old.pair.name ≡ 0x10 = sym w.means.name ∙ sym (ap (λ (b : Attr EntryName). b.name) w.same) ∙ named in
      let spelled = subst (λ (f : ℕ). SpellsShape (shape_of form_rows f) (constant_of w.old.pair) came.stored.bytes w.old.raw) form came.stored.spelled in
      let means : MeansAs OfOffset w.scope w.old w.read.value = subst (λ (c : Class). MeansAs c w.scope w.old w.read.value) (ap class_of form ∙ offset_class) w.means.value in
      let value = if_false (names_list w.old.pair.name) _ _ (ap names_list name ∙ no_list) means in
      let raw : number_of w.old.raw ≡ pos spelled.content = ap number_of spelled.value in
      let less = fixed_less 4 spelled.content came.stored.bytes came.stored.are_bytes spelled.spelled in
      record {
        name = refl;
        form = refl;
        place = spelled.content;
        raw = ap (λ (b : Attr EntryName). b.raw) w.same ∙ w.means.raw ∙ raw;
        fits = omega (arith, less);
        value = ap (λ (p : Plain). only p) (ap (λ (b : Attr EntryName). b.value.plain) w.same ∙ ap (λ (v : Value ℕ). v.plain) value ∙ ap (λ (z : ℤ). Sec (reach z)) raw);
      }
  names_lines (inr (inl i)) named formed = absurd (omega (arith, i.form, formed))
  names_lines (inr (inr l)) named formed = record { name = refl; form = refl; place = l.place; raw = l.raw; fits = l.fits; value = ap (λ (v : Value EntryName). only v.plain) l.value }

-- ---- the tops of a partial unit

line_for : (line : Option ℕ) (plain : Plain) → (has_path plain ≡ true → line ≡ Some 0) → (has_path plain ≡ false → line ≡ None) → LineFor line plain
line_for line (File (Some path)) some none = some refl
line_for line (File None) some none = none refl
line_for line _ some none = none refl

abbrev path_attr : Attr EntryName → Bool
path_attr a = has_path a.value.plain

-- an entry of a top has a path as its file
record HasPath (tops : List Top) : Type 0 where
  top : Top
  there : In top tops
  node : Node EntryName
  entry : EntryOfTop node top
  attr : Attr EntryName
  is_in : In attr node.attrs
  path : has_path attr.value.plain ≡ true

path_there : (tops : List Top) (t : Top) → In t tops → any_in (any_attr path_attr) t ≡ true → HasPath tops
path_there tops t there is = elim (or_cases (any_attr path_attr t.node) (any_entry (any_attr path_attr) t.below) is) [
  | inl a ↦ (let o = any_from path_attr t.node.attrs a in record { top = t; there = there; node = t.node; entry = inl refl; attr = o.one; is_in = o.there; path = o.passes })
  | inr b ↦
      let n = entry_from (any_attr path_attr) t.below b in
      let o = any_from path_attr n.node.attrs n.passes in
      record { top = t; there = there; node = n.node; entry = inr n.there; attr = o.one; is_in = o.there; path = o.passes }
]

module _ (from : From) (scope : TopScope) (units : List (FileUnit EntryName)) (rule : Rule) (is : IsAlike scope units rule.alike) (choice : IsChoice units rule) (files : List ℕ)
    (old : AreOld units) (held : IsHeld units (plan rule units files)) (Good : ℕ → Type 0)
    (are : (i : ℕ) (u : FileUnit EntryName) → Nth 0 units i u → Good u.file → CarriedUnit from (bases_in u.unit) u.unit) where
  abbrev m : Move
  m = plan rule units files

  module _ (n : ℕ) (part : PartialUnit) (nth : Nth 0 m.parts n part) (good : (t : Top) → In t part.tops → Good t.file) where
    abbrev origin : Bases
    origin = origin_in m units (PartialOf n)

    attr_carried : (t : Top) → In t part.tops → (d : Node EntryName) → EntryOfTop d t → (a : Attr EntryName) → In a d.attrs → CarriedAttr from origin a
    attr_carried t there d x a a_in =
        let b = ((part_is scope units rule is choice files n part nth).tops t).0 there in
        let c = top_carried from units m old held Good are t b.there (good t there) d x in
        each_in (CarriedAttr from origin) a d.attrs (subst (λ (w : Bases). CarriedNode from w d) (part_origin scope units rule is choice files n part nth t there) c).attrs a_in

    -- an entry of a top has a path
    path_in : names_path part ≡ true → HasPath part.tops
    path_in paths = (let t = any_from (any_in (any_attr path_attr)) part.tops paths in path_there part.tops t.one t.there t.passes)

    -- if_true the unit of its tops has a line table
    table_in : (p : HasPath part.tops) → (place : ℕ) × (origin.line ≡ Some place)
    table_in p = path_table from origin p.attr (attr_carried p.top p.there p.node p.entry p.attr p.is_in) p.path

    -- and no entry of a top has one
    no_path : names_path part ≡ false → (t : Top) → In t part.tops → (d : Node EntryName) → EntryOfTop d t → (a : Attr EntryName) → In a d.attrs → has_path a.value.plain ≡ false
    no_path e t there d x a a_in = any_false path_attr a d.attrs a_in (top_false (any_attr path_attr) d t x (any_false (any_in (any_attr path_attr)) t part.tops there e))

    root_is : m.roots n ≡ line_attrs units part
    root_is = ap (root_in_part units) (part_found 0 m.parts n n part nth (omega arith))

    abbrev LinesOf : Bool → List (Attr EntryName)
    LinesOf b = elim b as (λ _. List (Attr EntryName)) [ true ↦ line_in units part.home part.tops ∷ [] | false ↦ [] ]

    lines_are : (b : Bool) → names_path part ≡ b → m.roots n ≡ LinesOf b
    unfolding line_attrs
    lines_are b e = root_is ∙ ap LinesOf e

    -- what holds of attributes of tops, and of those that number no file, holds of all below
    files_below : (P : Attr EntryName → Type 0) → ((t : Top) → In t part.tops → (d : Node EntryName) → EntryOfTop d t → (a : Attr EntryName) → In a d.attrs → P (attr_map (image_in m) a))
        → ((a : Attr EntryName) → names_file a.name ≡ false → P a)
        → EachAttr P (tree (image_in m) (m.rows n) End)
    files_below P tops others = new_attrs P m n (held.kinds n part nth)
        (λ names t has d x a a_in. tops t (((part_row_is n part).tops_are names t).0 (subst (Has names (OfTop t)) (row_found rule units files n part nth) has)).0 d x a a_in)
        (λ names d has a a_in. others (attr_map (image_in m) a) (space_name ((part_row_is n part).spaces_are names d (subst (Has names (OfSpace d)) (row_found rule units files n part nth) has)) a
        a_in))
      where
        space_name : {names : List (List ℕ)} {d : Node EntryName} → SpaceOf n part.tops names d → (a : Attr EntryName) → In a d.attrs → names_file a.name ≡ false
        space_name o a a_in = elim (subst (λ (w : Node EntryName). In a w.attrs) o.is a_in) [ inl e ↦ ap (λ (b : Attr EntryName). names_file b.name) (sym e) | inr x ↦ absurd x ]

    -- ---- in a file

    module _ (file : ℕ) (home : part.home ≡ Local file) where
      -- the line table of the unit that its tops come from
      record HasLine : Type 0 where
        attr : Attr EntryName
        found : first_named 0x10 (root_of units (first_unit part.tops)) ≡ Some attr
        form : attr.form ≡ 0x17
        lines : NamesLines (line_of (Some attr))
        known : origin.line ≡ Some (reach attr.raw)

      has_line : names_path part ≡ true → HasLine
      has_line paths =
          let p = path_in paths in
          let b = ((part_is scope units rule is choice files n part nth).tops p.top).0 p.there in
          let u = unit_of units p.top b.there in
          let line = table_in p in
          let known : (bases_in u.unit.unit).line ≡ Some line.0 = ap (λ (w : Bases). w.line)
          (sym (bases_found units 0 p.top.unit p.top.unit u.unit u.nth (omega arith)) ∙ part_origin scope units rule is choice files n part nth p.top p.there) ∙ line.1 in
          let g = gives (first_named 0x10 u.unit.unit.root.attrs) line.0 known in
          let first = first_is scope units rule is choice files n part nth p.top p.there in
          let root = root_found units 0 p.top.unit p.top.unit u.unit u.nth (omega arith) in
          let o = first_in from (bases_in u.unit.unit) 0x10 u.unit.unit.root.attrs g.attr g.found in
          let carried = each_in (CarriedAttr from (bases_in u.unit.unit)) g.attr u.unit.unit.root.attrs (are p.top.unit u.unit u.nth (subst Good u.file_is (good p.top p.there))).root.attrs o.0 in
          record {
            attr = g.attr;
            found = ap (first_named 0x10) (ap (root_of units) (sym first) ∙ root) ∙ g.found;
            form = g.form;
            lines = names_lines from (bases_in u.unit.unit) g.attr carried o.1 g.form;
            known = line.1 ∙ sym known ∙ ap offset_in g.found ∙ offset_form g.attr g.form;
          }

      line_is : (h : HasLine) → line_in units part.home part.tops ≡ line_of (Some h.attr)
      line_is h = ap (λ (w : Home). line_in units w part.tops) home ∙ ap line_of h.found

      roots_carried : (b : Bool) → names_path part ≡ b → Each (CarriedAttr from origin) (m.roots n)
      roots_carried true e = (let h = has_line e in subst (Each (CarriedAttr from origin)) (sym (lines_are true e)) (inr (inr (subst NamesLines (sym (line_is h)) h.lines)), tt))
      roots_carried false e = subst (Each (CarriedAttr from origin)) (sym (lines_are false e)) tt

      -- the root says of a line table what the unit said that the tops come from, where one of them numbers a file
      own_line : (b : Bool) → names_path part ≡ b → (t : Top) → In t part.tops → (d : Node EntryName) → EntryOfTop d t → (a : Attr EntryName) → In a d.attrs → NumbersFile a
          → (bases_in (partial_unit m n)).line ≡ origin.line
      unfolding first_named
      own_line true e t there d x a a_in numbers =
          let h = has_line e in
          ap (λ (attrs : List (Attr EntryName)). offset_in (first_named 0x10 attrs)) (lines_are true e ∙ ap (λ (l : Attr EntryName). l ∷ []) (line_is h)) ∙ sym h.known
      own_line false e t there d x a a_in numbers =
          ap (λ (attrs : List (Attr EntryName)). offset_in (first_named 0x10 attrs)) (lines_are false e)
          ∙ sym (none_table from origin a (attr_carried t there d x a a_in) numbers (no_path e t there d x a a_in))

      abbrev FileGood : Attr EntryName → Type 0
      FileGood a = FileStands NewUnit (bases_in (partial_unit m n)).line origin.line a

      other_good : (a : Attr EntryName) → names_file a.name ≡ false → FileGood a
      other_good a none numbers = absurd (let z : true ≡ false = sym numbers.1 ∙ none in cc)

      root_good : (b : Bool) → names_path part ≡ b → Each FileGood (m.roots n)
      root_good true e = subst (Each FileGood) (sym (lines_are true e ∙ ap (λ (l : Attr EntryName). l ∷ []) (line_is (has_line e)))) (other_good (line_of (Some (has_line e).attr)) refl, tt)
      root_good false e = subst (Each FileGood) (sym (lines_are false e)) tt

      pub part_bases : (texts shared paths : List (List ℕ)) (offsets : List ℕ)
          → BasesStand (record { same = same_spot; is_common = false; texts = texts; shared = shared; paths = paths; offsets = offsets; origin = origin_in m units }) (partial_unit m n)
      part_bases texts shared paths offsets = record {
        own = tt;
        root = root_good (names_path part) refl;
        below = files_below FileGood (λ t there d x a a_in numbers. own_line (names_path part) refl t there d x a a_in numbers) other_good;
      }

    -- ---- in the common file

    module _ (home : part.home ≡ Common) where
      zero_line : line_in units part.home part.tops ≡ line_attr (pos 0) (Sec 0)
      zero_line = ap (λ (w : Home). line_in units w part.tops) home

      -- the root names the line table of the common file just where an entry has a path
      common_line : (b : Bool) → names_path part ≡ b → (t : Top) → In t part.tops → (d : Node EntryName) → EntryOfTop d t → (a : Attr EntryName) → In a d.attrs → NumbersFile a
          → LineFor (bases_in (partial_unit m n)).line a.value.plain
      unfolding first_named
      common_line true e t there d x a a_in numbers =
          let line : (bases_in (partial_unit m n)).line ≡ Some 0 = ap (λ (attrs : List (Attr EntryName)). offset_in (first_named 0x10 attrs)) (lines_are true e
          ∙ ap (λ (l : Attr EntryName). l ∷ []) zero_line)
          in
          line_for (bases_in (partial_unit m n)).line a.value.plain (λ path. line) (λ none.
          (let table = table_in (path_in e) in
          absurd (let z : Some table.0 ≡ None = sym table.1 ∙ none_table from origin a (attr_carried t there d x a a_in) numbers none in cc)))
      common_line false e t there d x a a_in numbers =
          let line : (bases_in (partial_unit m n)).line ≡ None = ap (λ (attrs : List (Attr EntryName)). offset_in (first_named 0x10 attrs)) (lines_are false e) in
          line_for (bases_in (partial_unit m n)).line a.value.plain (λ path. absurd (let z : true ≡ false = sym path ∙ no_path e t there d x a a_in in cc)) (λ none. line)

      abbrev CommonGood : Attr EntryName → Type 0
      CommonGood a = FileStands CommonUnit (bases_in (partial_unit m n)).line origin.line a

      other_common : (a : Attr EntryName) → names_file a.name ≡ false → CommonGood a
      other_common a none numbers = absurd (let z : true ≡ false = sym numbers.1 ∙ none in cc)

      root_common : (b : Bool) → names_path part ≡ b → Each CommonGood (m.roots n)
      root_common true e = subst (Each CommonGood) (sym (lines_are true e ∙ ap (λ (l : Attr EntryName). l ∷ []) zero_line)) (other_common (line_attr (pos 0) (Sec 0)) refl, tt)
      root_common false e = subst (Each CommonGood) (sym (lines_are false e)) tt

      pub common_bases : (texts shared paths : List (List ℕ)) (offsets : List ℕ)
          → BasesStand (record { same = same_spot; is_common = true; texts = texts; shared = shared; paths = paths; offsets = offsets; origin = origin_in m units }) (partial_unit m n)
      common_bases texts shared paths offsets = record {
        own = tt;
        root = root_common (names_path part) refl;
        below = files_below CommonGood (λ t there d x a a_in numbers. common_line (names_path part) refl t there d x a a_in numbers) other_common;
      }

  -- the roots of the partial units of a file are carried
  pub local_roots : (file : ℕ) → Good file → RootsCarried from m units (Local file)
  local_roots file good n part nth home =
      roots_carried n part nth (λ t there. subst Good (sym (top_file scope units rule is choice files file n part nth home t there)) good) file home (names_path part) refl
