-- What moves has no operands: an expression of a top that moves names no entry.
use Rattle.std.proofs.Common.{◌≡◌, ℕ, Bool, true, false, List, [], ◌∷◌, ◌||◌, map, Option, Some, None, refl, sym, ap, subst, ◌∙◌, arith, inl, inr}
use Rattle.std.specs.List.{list_any}
use Rattle.dwz_def_reading.specs.Spelling.{reach}
use Rattle.dwz_def_reading.specs.Lists.{Each, In}
use Rattle.dwz_def_reading.specs.Rows.{has}
use Rattle.dwz_def_reading.specs.Trees.{End, Entry}
use Rattle.dwz_def_reading.proofs.CaseFacts.{or_left, or_right}
use Rattle.dwz_def_reading.specs.declared.exprs.Operand.{Operand}
use Rattle.dwz_def_reading.specs.Documents.{Attr, DwUnit, Entries, Expr, Loc, Node, Plain, Sec, Value, attr_map, first_named, only, value_map}
use Rattle.dwz_def_reading.specs.Exprs.{Expression, parts_from, parts_of}
use Rattle.dwz_def_reading.specs.Meanings.{IsExpression, IsListBySlot, MeansAs, offset_of, targets}
use Rattle.dwz_def_reading.specs.Classes.{OfCommonEntry, OfConstant, OfExpression, OfInfoEntry, OfListIndex, OfOffset, OfTextBySlot, OfTextInLineStr}
use Rattle.dwz_def_reading.specs.Classes.{Class}
use Rattle.dwz_def_reading.specs.Classes.{OfTextInStr, OfUnitEntry}
use Rattle.dwz_def_reading.specs.Classes.{class_in, class_of, class_rows, names_file, names_list}
use Rattle.dwz_def_tops.specs.Lists.{Nth}
use Rattle.dwz_def_tops.proofs.Members.{each_in, each_more, each_of}
use Rattle.dwz_def_tops.specs.Alike.{IsAlike, Movable, TopScope, binding_forms, has_operand, holds_place, is_named, is_operand, leaves}
use Rattle.dwz_def_tops.specs.Spots.{EntryName, FileUnit, PartialOf, Top, tops_of}
use Rattle.dwz_def_tops.proofs.Targets.{free_attr, not_named}
use Rattle.dwz_def_images.specs.Homes.{Common, Home, IsChoice, Local, Rule, Stay, is_home, moves}
use Rattle.dwz_def_images.specs.IsPlan.{Has, OfSpace, OfTop}
use Rattle.dwz_def_images.specs.Moves.{Move, first_unit, image_in, line_attrs, line_in, line_of, names_path, plan, root_in_part, root_of}
use Rattle.dwz_def_reading.proofs.DecideLemmas.{if_false}
use Rattle.dwz_def_images.specs.Plan.{PartialUnit}
use Rattle.dwz_def_images.proofs.PartRows.{part_is as part_row_is}
use Rattle.dwz_def_images.proofs.StandLemmas.{fair}
use Rattle.dwz_def_images.proofs.UserLemmas.{moves_self}
use Rattle.dwz_def_images.specs.Held.{IsHeld}
use Rattle.dwz_def_images.specs.Units.{partial_unit, partial_units, tree}
use Rattle.dwz_def_images.proofs.HeldLemmas.{part_found, row_found}
use Rattle.dwz_def_images.proofs.NodeLemmas.{EntryOfTop}
use Rattle.dwz_def_encoding.specs.Bases.{Bases}
use Rattle.dwz_def_encoding.specs.Carried.{AttrOperands, CarriedAttr, CarriedEntries, CarriedUnit, ExprIn, From, OperandsStand, OperandsStandAs}
use Rattle.dwz_def_encoding.specs.Fitting.{EachAttr, HasRoom, HasRoomAs, OperandsHaveRoom, PlainHasRoom, UnitHasRoom}
use Rattle.dwz_def_encoding.specs.Meant.{OperandsIn, Own, Tells, own_of}
use Rattle.dwz_def_encoding.specs.Placing.{KeyedForms, UnitForms, Forms, UnitRole, InCommon, InFile, InUnit, CommonUnit, NewUnit, OldUnit, Reach, as_constant, as_file, as_line_text, as_slot, as_strp_if}
use Rattle.dwz_def_encoding.specs.Placing.{as_text, fit}
use Rattle.dwz_def_encoding.specs.Placing.{fit_as, fit_attr, fit_unit, fit_units, has_text, reach_of, ref_form, unit_forms, slot_number, with_form, with_keys}
use Rattle.dwz_def_encoding.specs.Writing.{Numbering, text_or_empty}
use Rattle.dwz_def_encoding.proofs.FormsKnown.{import_class, no_list}
use Rattle.dwz_def_encoding.proofs.Chosen.{join_attrs, join_entries}
use Rattle.dwz_def_tops.specs.Shown.{units_keys}
use Rattle.dwz_def_encoding.proofs.StoredClasses.{list_form, offset_class, offset_form}
use Rattle.dwz_def_encoding.proofs.ValuesMean.{so_not}
use Rattle.dwz_def_readback.specs.Files.{origin_in}
use Rattle.dwz_def_readback.proofs.AttrLemmas.{new_attrs}
use Rattle.dwz_def_readback.proofs.HomeLemmas.{part_is, parts_from as found_part}

-- ---- an attribute that asks for no entry and no room

pub record AsksNone {K : Type 0} (a : Attr K) : Type 0 where
  pub operands : (t : Tells K) (own : Own K) → AttrOperands t own a
  pub room : (n : Numbering K) (unit : ℕ) → HasRoom n unit a

abbrev is_loc : Plain → Bool
is_loc (Loc exprs) = true
is_loc _ = false

-- an expression of it names no entry by an operand, and it names no location list
pub record IsFree {K : Type 0} (a : Attr K) : Type 0 where
  pub expression : class_of a.form ≡ OfExpression → has_operand a.value.plain ≡ false
  pub offset : class_of a.form ≡ OfOffset → names_list a.name ≡ false
  pub index : class_of a.form ≡ OfListIndex → is_loc a.value.plain ≡ false

free_map : {K L : Type 0} (f : K → L) (a : Attr K) → IsFree a → IsFree (attr_map f a)
free_map f a is = record { expression = is.expression; offset = is.offset; index = is.index }

module _ {K : Type 0} (a : Attr K) where
  asks_as : (c : Class) → class_of a.form ≡ c → ((t : Tells K) (own : Own K) → OperandsStandAs c t own a) → ((n : Numbering K) (unit : ℕ) → HasRoomAs c n unit a) → AsksNone a
  asks_as c e operands room =
      record { operands = λ t own. subst (λ (d : Class). OperandsStandAs d t own a) (sym e) (operands t own); room = λ n unit. subst (λ (d : Class). HasRoomAs d n unit a) (sym e) (room n unit) }

  -- an expression of no operands
  parts_free : (os : List Operand) (at : ℕ) (bytes : List ℕ) → list_any is_operand (parts_from at bytes os) ≡ false → os ≡ []
  unfolding parts_from
  parts_free [] at bytes e = refl
  parts_free (o ∷ os) at bytes e = absurd cc

  none_in : (os : List Operand) (at : ℕ) (bytes : List ℕ) → os ≡ [] → (t : Tells K) (own : Own K) → OperandsIn t own (parts_from at bytes os) []
  unfolding parts_from
  none_in [] at bytes e t own = tt
  none_in (o ∷ os) at bytes e t own = absurd cc

  none_fit : (os : List Operand) (at : ℕ) (bytes : List ℕ) → os ≡ [] → (n : Numbering K) (unit : ℕ) → OperandsHaveRoom n unit (parts_from at bytes os) []
  unfolding parts_from
  none_fit [] at bytes e n unit = tt
  none_fit (o ∷ os) at bytes e n unit = absurd cc

  expr_free : (e : Expression) → class_of a.form ≡ OfExpression → a.value.plain ≡ Expr (parts_of e) → (e.operands ≡ [] → a.value.refs ≡ []) → has_operand a.value.plain ≡ false → AsksNone a
  expr_free e class plain refs free =
      let none = parts_free e.operands e.at e.bytes (sym (ap has_operand plain) ∙ free) in
      asks_as OfExpression class
      (λ t own. subst (λ (p : Plain). ExprIn t own p a.value.refs) (sym plain) (subst (OperandsIn t own (parts_of e)) (sym (refs none)) (none_in e.operands e.at e.bytes none t own)))
      (λ n unit. subst (λ (p : Plain). PlainHasRoom n unit p a.value.refs) (sym plain) (subst (OperandsHaveRoom n unit (parts_of e)) (sym (refs none)) (none_fit e.operands e.at e.bytes none n unit)))

  -- an offset that is no list's
  offset_free : class_of a.form ≡ OfOffset → names_list a.name ≡ false → (place : ℕ) → a.value ≡ only (Sec place) → AsksNone a
  offset_free class none place value =
      asks_as OfOffset class (λ t own. so_not (names_list a.name) _ _ none tt) (λ n unit. subst (λ (v : Value K). PlainHasRoom n unit v.plain v.refs) (sym value) tt)

  -- what was read, and is free
  pub free : (from : From) (origin : Bases) → CarriedAttr from origin a → IsFree a → AsksNone a
  free from origin (inl came) none = by (class_of a.form) refl where
    value : a.value ≡ value_map came.was_read.name came.was_read.read.value
    value = ap (λ (b : Attr K). b.value) came.was_read.same

    means : (c : Class) → class_of a.form ≡ c → MeansAs c came.was_read.scope came.was_read.old came.was_read.read.value
    means c e =
        let w = came.was_read in
        let form : w.old.pair.form ≡ a.form = sym w.means.form ∙ sym (ap (λ (b : Attr K). b.form) w.same) in
        subst (λ (d : Class). MeansAs d w.scope w.old w.read.value) (ap class_of form ∙ e) w.means.value

    by : (c : Class) → class_of a.form ≡ c → AsksNone a
    by OfExpression e =
        let w = came.was_read in
        let m : IsExpression w.scope w.old w.read.value = means OfExpression e in
        expr_free m.expression e (ap (λ (v : Value K). v.plain) value ∙ ap (λ (v : Value ℕ). v.plain) m.value)
        (λ empty. ap (λ (v : Value K). v.refs) value ∙ ap (λ (v : Value ℕ). map w.name v.refs) m.value ∙ ap (λ (os : List Operand). map w.name (targets w.scope os)) empty) (none.expression e)
    by OfOffset e =
        let w = came.was_read in
        let name : w.old.pair.name ≡ a.name = sym w.means.name ∙ sym (ap (λ (b : Attr K). b.name) w.same) in
        let m = if_false (names_list w.old.pair.name) _ _ (ap names_list name ∙ none.offset e) (means OfOffset e) in
        offset_free e (none.offset e) (offset_of w.old) (value ∙ ap (λ (v : Value ℕ). value_map w.name v) m)
    by OfListIndex e =
        let w = came.was_read in
        let m : IsListBySlot w.scope (offset_of w.old) w.read.value = means OfListIndex e in
        absurd (let z : true ≡ false = sym (ap (λ (v : Value K). is_loc v.plain) value ∙ ap (λ (v : Value ℕ). is_loc v.plain) m.list.value) ∙ none.index e in cc)
    by c e = asks_as c e (λ t own. tt) (λ n unit. tt)
  free from origin (inr (inl i)) none = asks_as OfInfoEntry (ap class_of i.form ∙ import_class) (λ t own. tt) (λ n unit. tt)
  free from origin (inr (inr l)) none = offset_free (ap class_of l.form ∙ offset_class) (none.offset (ap class_of l.form ∙ offset_class)) l.place l.value

-- ---- with its form

module _ {K : Type 0} (x : UnitForms K) (n : Numbering K) (unit : ℕ) (a : Attr K) (asks : AsksNone a) where
  entry_room : (r : Reach) → HasRoom n unit (with_form a (record { form = ref_form r; raw = a.raw }))
  unfolding class_rows class_in
  entry_room InUnit = tt
  entry_room InFile = tt
  entry_room InCommon = tt

  strp_room : (b : Bool) (at : ℕ) → HasRoom n unit (with_form a (as_strp_if b x a at))
  unfolding class_rows class_in
  strp_room true at = tt
  strp_room false at = tt

  text_room : (h : UnitRole) → HasRoom n unit (with_form a (as_text h x a))
  unfolding class_rows class_in
  text_room CommonUnit = tt
  text_room OldUnit = strp_room (has_text x.shared (text_or_empty a.value.plain)) (reach a.raw)
  text_room NewUnit = strp_room (has_text x.shared (text_or_empty a.value.plain)) (reach a.raw)

  line_text_room : (h : UnitRole) → HasRoom n unit (with_form a (as_line_text h x a))
  unfolding class_rows class_in
  line_text_room CommonUnit = tt
  line_text_room OldUnit = asks.room n unit
  line_text_room NewUnit = asks.room n unit

  slot_room : (h : UnitRole) → HasRoom n unit (with_form a (as_slot h x a))
  unfolding class_rows class_in
  slot_room CommonUnit = tt
  slot_room OldUnit = asks.room n unit
  slot_room NewUnit = strp_room (has_text x.shared (text_or_empty a.value.plain)) (slot_number x.offsets x.origin_bases.slots (reach a.raw))

  file_room : (h : UnitRole) → HasRoom n unit (with_form a (as_file h x a))
  unfolding class_rows class_in
  file_room CommonUnit = tt
  file_room OldUnit = asks.room n unit
  file_room NewUnit = asks.room n unit

  constant_room : (b : Bool) → HasRoom n unit (with_form a (as_constant b x a))
  constant_room true = file_room x.holder
  constant_room false = asks.room n unit

  fit_room : HasRoom n unit (fit_attr x a)
  fit_room = by (class_of a.form) where
    by : (c : Class) → HasRoom n unit (with_form a (fit_as c x a))
    by OfUnitEntry = entry_room (reach_of x a.value.refs)
    by OfInfoEntry = entry_room (reach_of x a.value.refs)
    by OfCommonEntry = entry_room (reach_of x a.value.refs)
    by OfTextInStr = text_room x.holder
    by OfTextInLineStr = line_text_room x.holder
    by OfTextBySlot = slot_room x.holder
    by OfConstant = constant_room (names_file a.name)
    by _ = asks.room n unit

-- ---- all attributes of a unit

abbrev pub UnitAsksNone : {K : Type 0} → DwUnit K → Type 0
UnitAsksNone u = Each AsksNone u.root.attrs × EachAttr AsksNone u.below

module _ {K : Type 0} (P Q : Attr K → Type 0) (more : (a : Attr K) → P a → Q a) where
  pub entries_more : (g : Entries K) → EachAttr P g → EachAttr Q g
  entries_more End h = tt
  entries_more (Entry e children next) h = (each_more P Q e.attrs more h.0, entries_more children h.1, entries_more next h.2)

module _ {K : Type 0} (x : UnitForms K) (n : Numbering K) (unit : ℕ) where
  attrs_room : (attrs : List (Attr K)) → Each AsksNone attrs → Each (HasRoom n unit) (map (fit_attr x) attrs)
  attrs_room [] asks = tt
  attrs_room (a ∷ attrs) asks = (fit_room x n unit a asks.0, attrs_room attrs asks.1)

  entries_room : (g : Entries K) → EachAttr AsksNone g → EachAttr (HasRoom n unit) (fit x g)
  unfolding fit
  entries_room End asks = tt
  entries_room (Entry e children next) asks = (attrs_room e.attrs asks.0, entries_room children asks.1, entries_room next asks.2)

pub asks_operands : {K : Type 0} (t : Tells K) (u : DwUnit K) → UnitAsksNone u → OperandsStand t u
asks_operands t u asks = (
  each_more AsksNone (AttrOperands t (own_of u)) u.root.attrs (λ a is. is.operands t (own_of u)) asks.0,
  entries_more AsksNone (AttrOperands t (own_of u)) (λ a is. is.operands t (own_of u)) u.below asks.1,
)

unit_room : {K : Type 0} (f : KeyedForms K) (n : Numbering K) (u : DwUnit K) → UnitAsksNone u → UnitHasRoom n (fit_unit f u)
unit_room f n u asks = (attrs_room (unit_forms f u) n (n.place u.at) u.root.attrs asks.0, entries_room (unit_forms f u) n (n.place u.at) u.below asks.1)

units_room : {K : Type 0} (f : KeyedForms K) (n : Numbering K) (units : List (DwUnit K)) → Each UnitAsksNone units → Each (UnitHasRoom n) (map (fit_unit f) units)
units_room f n [] asks = tt
units_room f n (u ∷ units) asks = (unit_room f n u asks.0, units_room f n units asks.1)

-- where no unit asks for room, there is room
pub asks_room : {K : Type 0} (f : Forms K) (n : Numbering K) (units : List (DwUnit K)) → Each UnitAsksNone units → Each (UnitHasRoom n) (fit_units f units)
unfolding fit_units
asks_room f n units asks = units_room (with_keys f (units_keys units)) n units asks

-- ---- partial units

pub carried_attrs : {K : Type 0} (from : From) (origin : Bases) (g : Entries K) → CarriedEntries from origin g → EachAttr (CarriedAttr from origin) g
carried_attrs from origin End h = tt
carried_attrs from origin (Entry e children next) h = (h.0.attrs, carried_attrs from origin children h.1, carried_attrs from origin next h.2)

no_space_list : names_list 0x03 ≡ false
unfolding has
no_space_list = refl

module _ (scope : TopScope) (units : List (FileUnit EntryName)) (rule : Rule) (is : IsAlike scope units rule.alike) (choice : IsChoice units rule) where
  -- what moves is movable
  moving_free : (n : ℕ) → moves rule units n ≡ true → Movable units n
  moving_free n e = (is.decides n n (moves_self units rule (fair scope units rule is choice) n e)).first

  -- an operand that names an entry of a top keeps the top where it is
  pub named_stays : (n : ℕ) → is_named units n ≡ true → moves rule units n ≡ false
  named_stays n named = by (moves rule units n) refl where
    by : (b : Bool) → moves rule units n ≡ b → b ≡ false
    by false e = refl
    by true e =
        let free = moving_free n e in
        let none = not_named units free.top free.is_top (subst (Movable units) (sym free.number) free) in
        absurd (let z : true ≡ false = sym named ∙ ap (is_named units) (sym free.number) ∙ none in cc)

  top_free : (t : Top) → In t (tops_of units) → moves rule units t.number ≡ true → (d : Node EntryName) → EntryOfTop d t → (a : Attr EntryName) → In a d.attrs → IsFree a
  unfolding has
  top_free t there e d x a a_in =
      let one = free_attr units t there (moving_free t.number e) d x a a_in in
      let form = or_left (has a.form binding_forms) (holds_place a.value || list_any (leaves (tops_of units) t.unit) a.value.refs) one in
      let rest = or_right (has a.form binding_forms) (holds_place a.value || list_any (leaves (tops_of units) t.unit) a.value.refs) one in
      record {
        expression = λ c. or_left (has_operand a.value.plain) a.value.address (or_left (holds_place a.value) (list_any (leaves (tops_of units) t.unit) a.value.refs) rest);
        offset = λ c. absurd (bound a.form 0x17 (offset_form a.form c) refl form);
        index = λ c. absurd (bound a.form 0x22 (list_form a.form c) refl form);
      }
    where
      bound : (f g : ℕ) → f ≡ g → has g binding_forms ≡ true → has f binding_forms ≡ false → ⊥
      bound f g same binds none = (let z : true ≡ false = sym binds ∙ ap (λ (x : ℕ). has x binding_forms) (sym same) ∙ none in cc)

  module _ (files : List ℕ) (held : IsHeld units (plan rule units files)) (n : ℕ) (part : PartialUnit) (nth : Nth 0 (plan rule units files).parts n part) where
    abbrev m : Move
    m = plan rule units files

    in_part : (names : List (List ℕ)) (t : Top) → Has names (OfTop t) (m.rows n) → In t part.tops
    in_part names t h = (((part_row_is n part).tops_are names t).0 (subst (Has names (OfTop t)) (row_found rule units files n part nth) h)).0

    tops_free : (names : List (List ℕ)) (t : Top) → Has names (OfTop t) (m.rows n) → (d : Node EntryName) → EntryOfTop d t → (a : Attr EntryName) → In a d.attrs → IsFree a
    tops_free names t h d x a a_in =
        let p = part_is scope units rule is choice files n part nth in
        let b = (p.tops t).0 (in_part names t h) in
        top_free t b.there (ap is_home b.home ∙ p.moves) d x a a_in

    spaces_free : (names : List (List ℕ)) (d : Node EntryName) → Has names (OfSpace d) (m.rows n) → (a : Attr EntryName) → In a d.attrs → IsFree a
    spaces_free names d h a a_in =
        let o = (part_row_is n part).spaces_are names d (subst (Has names (OfSpace d)) (row_found rule units files n part nth) h) in
        elim (subst (λ (w : Node EntryName). In a w.attrs) o.is a_in) [
          | inl e ↦ subst IsFree e (record { expression = λ c. refl; offset = λ c. no_space_list; index = λ c. refl })
          | inr x ↦ absurd x
        ]

    line_name : (h : Home) → (line_in units h part.tops).name ≡ 0x10
    line_name Common = refl
    line_name (Local file) = by (first_named 0x10 (root_of units (first_unit part.tops))) where
      by : (o : Option (Attr EntryName)) → (line_of o).name ≡ 0x10
      by None = refl
      by (Some a) = refl
    line_name Stay = refl

    line_form : (h : Home) → (line_in units h part.tops).form ≡ 0x17
    line_form Common = refl
    line_form (Local file) = by (first_named 0x10 (root_of units (first_unit part.tops))) where
      by : (o : Option (Attr EntryName)) → (line_of o).form ≡ 0x17
      by None = refl
      by (Some a) = refl
    line_form Stay = refl

    root_free : Each IsFree (m.roots n)
    unfolding line_attrs
    root_free = subst (Each IsFree) (sym (ap (root_in_part units) (part_found 0 m.parts n n part nth (omega arith)))) (by (names_path part)) where
      class : class_of (line_in units part.home part.tops).form ≡ OfOffset
      class = ap class_of (line_form part.home) ∙ offset_class

      by : (b : Bool) → Each IsFree (elim b as (λ _. List (Attr EntryName)) [ true ↦ line_in units part.home part.tops ∷ [] | false ↦ [] ])
      by true = (
        record {
          expression = λ c. absurd (let z : OfExpression ≡ OfOffset = sym c ∙ class in cc);
          offset = λ c. ap names_list (line_name part.home) ∙ no_list;
          index = λ c. absurd (let z : OfListIndex ≡ OfOffset = sym c ∙ class in cc);
        },
        tt,
      )
      by false = tt

    -- none of its attributes asks for an entry or for room
    pub part_asks : (from : From) (origin : Bases) → CarriedUnit from origin (partial_unit m n) → UnitAsksNone (partial_unit m n)
    part_asks from origin carried =
        let below = tree (image_in m) (m.rows n) End in (
          join_attrs (CarriedAttr from origin) IsFree AsksNone (λ a read none. free a from origin read none) (m.roots n) carried.root.attrs root_free,
          join_entries (CarriedAttr from origin) IsFree AsksNone (λ a read none. free a from origin read none) below (carried_attrs from origin below carried.below)
              (new_attrs IsFree m n (held.kinds n part nth) (λ names t h d x a a_in. free_map (image_in m) a (tops_free names t h d x a a_in))
              (λ names d h a a_in. free_map (image_in m) a (spaces_free names d h a a_in))),
        )

  -- nor of the partial units of a home
  pub home_asks : (files : List ℕ) → IsHeld units (plan rule units files) → (h : Home) (from : From)
      → Each (λ v. CarriedUnit from (origin_in (plan rule units files) units v.at) v) (partial_units (plan rule units files) h 0 (plan rule units files).parts)
      → Each UnitAsksNone (partial_units (plan rule units files) h 0 (plan rule units files).parts)
  home_asks files held h from carried =
      let m = plan rule units files in
      let new = partial_units m h 0 m.parts in
      each_of UnitAsksNone new (λ v there.
      (let o = found_part m h 0 m.parts v there in
      let part = subst (λ (w : DwUnit EntryName). CarriedUnit from (origin_in m units w.at) w) (sym o.is) (each_in (λ w. CarriedUnit from (origin_in m units w.at) w) v new carried there) in
      subst UnitAsksNone o.is (part_asks files held o.number o.part o.nth from (origin_in m units (PartialOf o.number)) part)))
