-- What the location lists of a file name is what its rows of operands name.
use Rattle.std.proofs.Common.{◌≡◌, ◌↔◌, ℕ, ◌+◌, ◌-◌, ◌<◌, Bool, true, false, List, [], ◌∷◌, ◌++◌, drop, map, refl, sym, ap, subst, ◌∙◌, inl, inr, ⊎_elim, arith}
use Rattle.std.specs.Prelude.{◌&&◌}
use Rattle.std.specs.List.{list_any}
use Rattle.std.proofs.lemmas.Bool.{and_parts, cases_lt, false≢true}
use Rattle.std.proofs.lemmas.List.{map-append}
use Rattle.dwz_model.specs.declared.place.Base.{Base}
use Rattle.dwz_model.specs.declared.place.Base.TheVariants.{Unit as FromUnit, Info as FromInfo}
use Rattle.dwz_def_tops.specs.Alike.{has_operand, is_operand, joined_parts}
use Rattle.dwz_def_tops.specs.Spots.{EntryName}
use Rattle.dwz_def_tops.proofs.Targets.{or_first, or_second}
use Rattle.dwz_def_reading.specs.Lists.{In}
use Rattle.dwz_def_reading.specs.Units.{RawUnit}
use Rattle.dwz_def_reading.proofs.ListFacts.{in_cases, in_left, in_map, in_right}
use Rattle.dwz_def_reading.specs.declared.exprs.Operand.{Operand}
use Rattle.dwz_def_reading.specs.Documents.{Attr, DwUnit, Loc, Part, Value, attr_map}
use Rattle.dwz_def_reading.specs.Exprs.{Expression, parts_from, parts_of}
use Rattle.dwz_def_reading.specs.Meanings.{Around, MeanUnits, MeaningContext, Sources, alone, entries_for, expr_context, leads_to, places_of, scope_of, target_of, targets}
use Rattle.dwz_def_reading.specs.NamedLists.{lists_of_units}
use Rattle.dwz_def_reading.specs.Shared.{AreRows, ListOperand, NamedList, OneOf, of_unit, operands_in_lists, operands_of, own_operands}
use Rattle.dwz_def_reading.proofs.MeaningLemmas.{has_in}
use Rattle.dwz_def_plan.specs.Plan.{plain_parts as plan_parts, uleb_targets}
use Rattle.dwz_graph.specs.ListOperand.{ListOperand as Row}
use Rattle.dwz_graph.specs.ListRows.{number_for, operand_view, start_of}
use Rattle.dwz_graph.specs.Resolved.{place_at}
use Rattle.dwz_graph.proofs.PlaceLemmas.{unit_and_entries}
use Rattle.dwz_def_tops.specs.Lists.{NoneTwice}
use Rattle.dwz_def_tops.proofs.Members.{any_from, any_true, in_map_from}
use Rattle.dwz_def_tops.proofs.OnceLemmas.{none_left, none_right}
use Rattle.dwz_move_files.proofs.ListNames.{OfUnits, list_from, list_there}
use Rattle.dwz_move_files.proofs.OperandNumbers.{HasNumber, list_stands, one_named, one_numbered, same_number}
use Rattle.dwz_move_files.proofs.UnitAttrs.{in_list, list_pins, named_attrs, units_attrs}

-- an operand of a location list names what passes the test
abbrev pub names_by : (EntryName → Bool) → Attr EntryName → Bool
names_by test a = in_list a.value.plain && (has_operand a.value.plain && list_any test a.value.refs)

-- ---- operands of several expressions

pub ulebs_of : List Operand → List Operand
ulebs_of [] = []
ulebs_of (o ∷ os) = elim o.uleb as (λ _. List Operand) [ true ↦ o ∷ ulebs_of os | false ↦ ulebs_of os ]

ulebs_append : (a b : List Operand) → ulebs_of (a ++ b) ≡ ulebs_of a ++ ulebs_of b
unfolding ulebs_of
ulebs_append [] b = refl
ulebs_append (o ∷ a) b = by o.uleb (ulebs_append a b) where
  by : (x : Bool) → ulebs_of (a ++ b) ≡ ulebs_of a ++ ulebs_of b
      → (elim x as (λ _. List Operand) [ true ↦ o ∷ ulebs_of (a ++ b) | false ↦ ulebs_of (a ++ b) ]) ≡ (elim x as (λ _. List Operand) [ true ↦ o ∷ ulebs_of a | false ↦ ulebs_of a ]) ++ ulebs_of b
  by true e = ap (λ (w : List Operand). o ∷ w) e
  by false e = e

module _ (g : Operand → EntryName) where
  expr_ulebs : (at : ℕ) (bytes : List ℕ) (os : List Operand) (rest : List Part) (refs : List EntryName) → uleb_targets (parts_from at bytes os ++ rest) (map g os ++ refs) ≡ map g (ulebs_of os)
      ++ uleb_targets rest refs
  unfolding parts_from uleb_targets ulebs_of
  expr_ulebs at bytes [] rest refs = refl
  expr_ulebs at bytes (o ∷ os) rest refs = by o.uleb (parts_from (o.at + o.width) (drop (o.at + o.width - at) bytes) os ++ rest)
      (expr_ulebs (o.at + o.width) (drop (o.at + o.width - at) bytes) os rest refs) where
        by : (b : Bool) (parts : List Part) → uleb_targets parts (map g os ++ refs) ≡ map g (ulebs_of os) ++ uleb_targets rest refs
            → (elim b as (λ _. List EntryName) [ true ↦ g o ∷ uleb_targets parts (map g os ++ refs) | false ↦ uleb_targets parts (map g os ++ refs) ])
            ≡ map g (elim b as (λ _. List Operand) [ true ↦ o ∷ ulebs_of os | false ↦ ulebs_of os ]) ++ uleb_targets rest refs
        by true parts e = ap (λ (w : List EntryName). g o ∷ w) e
        by false parts e = e

  list_ulebs : (exprs : List Expression) → uleb_targets (joined_parts (map parts_of exprs)) (map g (operands_of exprs)) ≡ map g (ulebs_of (operands_of exprs))
  unfolding joined_parts operands_of uleb_targets ulebs_of
  list_ulebs [] = refl
  list_ulebs (e ∷ exprs) =
      ap (uleb_targets (parts_of e ++ joined_parts (map parts_of exprs))) (map-append g e.operands (operands_of exprs))
      ∙ expr_ulebs e.at e.bytes e.operands (joined_parts (map parts_of exprs)) (map g (operands_of exprs))
      ∙ ap (λ (w : List EntryName). map g (ulebs_of e.operands) ++ w) (list_ulebs exprs)
      ∙ sym (map-append g (ulebs_of e.operands) (ulebs_of (operands_of exprs)))
      ∙ ap (map g) (sym (ulebs_append e.operands (operands_of exprs)))

uleb_in : (os : List Operand) (o : Operand) → In o os → o.uleb ≡ true → In o (ulebs_of os)
unfolding ulebs_of
uleb_in [] o there e = absurd there
uleb_in (p ∷ os) o there e = by p.uleb refl there (uleb_in os o) where
  by : (b : Bool) → p.uleb ≡ b → In o (p ∷ os) → (In o os → o.uleb ≡ true → In o (ulebs_of os)) → In o (elim b as (λ _. List Operand) [ true ↦ p ∷ ulebs_of os | false ↦ ulebs_of os ])
  by true q (inl same) more = inl same
  by true q (inr later) more = inr (more later e)
  by false q (inl same) more = absurd (let no : p.uleb ≡ true = ap (λ (w : Operand). w.uleb) same ∙ e in false≢true (sym q ∙ no))
  by false q (inr later) more = more later e

uleb_from : (os : List Operand) (o : Operand) → In o (ulebs_of os) → In o os × (o.uleb ≡ true)
unfolding ulebs_of
uleb_from [] o there = absurd there
uleb_from (p ∷ os) o there = by p.uleb refl there (uleb_from os o) where
  by : (b : Bool) → p.uleb ≡ b → In o (elim b as (λ _. List Operand) [ true ↦ p ∷ ulebs_of os | false ↦ ulebs_of os ]) → (In o (ulebs_of os) → In o os × (o.uleb ≡ true))
      → In o (p ∷ os) × (o.uleb ≡ true)
  by true q (inl same) more = (inl same, ap (λ (w : Operand). w.uleb) (sym same) ∙ q)
  by true q (inr later) more = let r = more later in (inr r.0, r.1)
  by false q is more = let r = more is in (inr r.0, r.1)

some_part : (at : ℕ) (bytes : List ℕ) (os : List Operand) (o : Operand) → In o os → list_any is_operand (parts_from at bytes os) ≡ true
unfolding parts_from
some_part at bytes [] o there = absurd there
some_part at bytes (p ∷ os) o there = refl

-- a list that has an operand names an entry
some_operand : (exprs : List Expression) (o : Operand) → In o (operands_of exprs) → has_operand (Loc (map parts_of exprs)) ≡ true
unfolding operands_of parts_from
some_operand [] o there = absurd there
some_operand (e ∷ exprs) o there = ⊎_elim
    (λ own. or_first (list_any is_operand (parts_of e)) (list_any (list_any is_operand) (map parts_of exprs)) (some_part e.at e.bytes e.operands o own))
    (λ later. or_second (list_any is_operand (parts_of e)) (list_any (list_any is_operand) (map parts_of exprs)) (some_operand exprs o later))
    (in_cases o e.operands (operands_of exprs) there)

-- ---- operands of lists

in_lists : (lists : List NamedList) (x : ListOperand) → In x (operands_in_lists lists) → (l : NamedList) × In l lists × (p : Operand) × In p (own_operands l) × (of_unit l.unit p ≡ x)
unfolding operands_in_lists
in_lists [] x there = absurd there
in_lists (l ∷ lists) x there = ⊎_elim
    (λ own. (let r = in_map_from (of_unit l.unit) x (own_operands l) own in (l, inl refl, r.source, r.there, r.is)))
    (λ later. (let r = in_lists lists x later in (r.0, inr r.1, r.2, r.3, r.4)))
    (in_cases x (map (of_unit l.unit) (own_operands l)) (operands_in_lists lists) there)

of_lists : (lists : List NamedList) (l : NamedList) (p : Operand) → In l lists → In p (own_operands l) → In (of_unit l.unit p) (operands_in_lists lists)
unfolding operands_in_lists
of_lists [] l p there own = absurd there
of_lists (m ∷ lists) l p (inl e) own =
    in_left (of_unit l.unit p) (map (of_unit m.unit) (own_operands m)) (operands_in_lists lists)
    (subst (λ (w : NamedList). In (of_unit l.unit p) (map (of_unit w.unit) (own_operands w))) (sym e) (in_map (of_unit l.unit) p (own_operands l) own))
of_lists (m ∷ lists) l p (inr later) own = in_right (of_unit l.unit p) (map (of_unit m.unit) (own_operands m)) (operands_in_lists lists) (of_lists lists l p later own)

-- where a number leads that is counted from a unit's first byte, or from the section's
pub led : ℕ → Base → ℕ → ℕ
led unit FromUnit n = unit + n
led unit FromInfo n = n

leads_led : (s : MeaningContext ℕ) (base : Base) (n : ℕ) → leads_to s base n ≡ led s.unit base n
unfolding led
leads_led s FromUnit n = refl
leads_led s FromInfo n = refl

pub unit_apart : (raw : List RawUnit) → NoneTwice (unit_and_entries raw) → (u : RawUnit) → In u raw → In u.at (places_of u) → ⊥
unfolding unit_and_entries
unit_apart [] once u there own = absurd there
unit_apart (v ∷ raw) once u (inl e) own = (none_left (v.at ∷ places_of v) (unit_and_entries raw) once).0 (subst (λ (w : RawUnit). In w.at (places_of w)) (sym e) own)
unit_apart (v ∷ raw) once u (inr later) own = unit_apart raw (none_right (v.at ∷ places_of v) (unit_and_entries raw) once) u later own

-- ---- of a file

module _ (sources : Sources) (raw : List RawUnit) (said : List (DwUnit ℕ)) (means : MeanUnits (alone sources raw) raw said) (once : NoneTwice (unit_and_entries raw))
    (rows : List Row) (are : AreRows (lists_of_units (alone sources raw) raw) (map (operand_view raw) rows)) (stand : (o : Row) → In o rows → place_at raw o.entry ≡ o.place.offset) where
  abbrev around : Around ℕ
  around = alone sources raw

  abbrev lists : List NamedList
  lists = lists_of_units around raw

  -- an operand of a list: the unit's scope, and that its bytes are its number
  record IsOperand (l : NamedList) (p : Operand) : Type 0 where
    b : Attr ℕ
    there : In b (units_attrs said)
    of : OfUnits around raw b l
    names : (expr_context (scope_of around of.u) 7).names p ≡ true
    number : HasNumber sources.lists p

  operand_is : (l : NamedList) → In l lists → (p : Operand) → In p (own_operands l) → IsOperand l p
  operand_is l there p own =
      let f = list_from around raw said means l there in
      let s = scope_of around f.2.u in
      let good = list_stands sources.lists (expr_context s 7) l.list l.from f.2.is.stands in
      record { b = f.0; there = f.1; of = f.2; names = one_named sources.lists _ (own_operands l) good.0 p own; number = one_numbered sources.lists (own_operands l) good.1 p own }

  -- a row leads to its entry
  row_led : (o : Row) → In o rows → led (start_of raw o.unit) o.base (number_for o.base (start_of raw o.unit) o.place.offset) ≡ place_at raw o.entry
  unfolding led
  row_led o there = by o.base refl ∙ sym (stand o there) where
    view : ListOperand
    view = operand_view raw o

    by : (base : Base) → o.base ≡ base → led (start_of raw o.unit) base (number_for base (start_of raw o.unit) o.place.offset) ≡ o.place.offset
    by FromInfo e = refl
    by FromUnit e = ⊎_elim (λ lt. absurd (before lt)) (λ ge. (let z : start_of raw o.unit + (o.place.offset - start_of raw o.unit) ≡ o.place.offset = omega arith in z))
        (cases_lt o.place.offset (start_of raw o.unit)) where
          before : o.place.offset < start_of raw o.unit → ⊥
          before lt =
              let r = in_lists lists view (are.from view (in_map (operand_view raw) o rows there)) in
              let l = r.0 in
              let p = r.2 in
              let same = r.4 in
              let is = operand_is l r.1 p r.3 in
              let base : p.base ≡ FromUnit = ap (λ (w : ListOperand). w.operand.base) same ∙ e in
              let number : p.number ≡ number_for FromUnit (start_of raw o.unit) o.place.offset = ap (λ (w : ListOperand). w.operand.number) same
              ∙ ap (λ (b : Base). number_for b (start_of raw o.unit) o.place.offset) e in
              let none : p.number ≡ 0 = omega arith in
              let s = scope_of around is.of.u in
              let here : target_of s p ≡ is.of.u.at = (λ i. leads_to s (base i) (none i)) ∙ (let z : is.of.u.at + 0 ≡ is.of.u.at = omega arith in z) in
              let own : In (target_of s p) (entries_for s FromUnit) = subst (λ (b : Base). In (target_of s p) (entries_for s b)) base (has_in (target_of s p) (entries_for s p.base) is.names) in
              unit_apart raw once is.of.u is.of.in_raw (subst (λ (n : ℕ). In n (places_of is.of.u)) here own)

  -- ---- what passes a test

  module _ (name : ℕ → EntryName) (test : EntryName → Bool) where
    -- an operand of a list, all or one that is a ULEB128 number, leads to what passes
    record Leads (u : Bool) : Type 0 where
      l : NamedList
      there : In l lists
      p : Operand
      own : In p (own_operands l)
      asked : u ≡ true → p.uleb ≡ true
      passes : test (name (led l.unit p.base p.number)) ≡ true

    record RowPasses (u : Bool) : Type 0 where
      o : Row
      there : In o rows
      asked : u ≡ true → o.uleb ≡ true
      passes : test (name (place_at raw o.entry)) ≡ true

    leads_row : (u : Bool) → Leads u → RowPasses u
    leads_row u h =
        let x = of_unit h.l.unit h.p in
        let kept = are.all x (of_lists lists h.l h.p h.there h.own) in
        let row = in_map_from (operand_view raw) kept.0 rows kept.1 in
        let o = row.source in
        let same = kept.2 in
        let back = in_lists lists kept.0 (are.from kept.0 kept.1) in
        let q = back.2 in
        let q_is = back.4 in
        let a = operand_is h.l h.there h.p h.own in
        let b = operand_is back.0 back.1 q back.3 in
        let of_q = λ (f : Operand → ℕ). ap (λ (w : ListOperand). f w.operand) q_is in
        let number : q.number ≡ h.p.number = same_number sources.lists q h.p b.number a.number (of_q (λ w. w.at) ∙ same.at) (of_q (λ w. w.width) ∙ same.width)
        (ap (λ (w : ListOperand). w.operand.uleb) q_is ∙ same.uleb) in
        let view_number : (operand_view raw o).operand.number ≡ h.p.number = ap (λ (w : ListOperand). w.operand.number) (row.is ∙ sym q_is) ∙ number in
        let view_base : o.base ≡ h.p.base = ap (λ (w : ListOperand). w.operand.base) row.is ∙ same.base in
        let view_unit : start_of raw o.unit ≡ h.l.unit = ap (λ (w : ListOperand). w.unit) row.is ∙ same.unit in
        let to : led h.l.unit h.p.base h.p.number ≡ place_at raw o.entry = sym (λ i. led (view_unit i) (view_base i) (view_number i)) ∙ row_led o row.there in
        let uleb : o.uleb ≡ h.p.uleb = ap (λ (w : ListOperand). w.operand.uleb) row.is ∙ same.uleb in
        record { o = o; there = row.there; asked = λ e. uleb ∙ h.asked e; passes = ap (λ (n : ℕ). test (name n)) (sym to) ∙ h.passes }

    row_leads : (u : Bool) → RowPasses u → Leads u
    row_leads u h =
        let view = operand_view raw h.o in
        let back = in_lists lists view (are.from view (in_map (operand_view raw) h.o rows h.there)) in
        let p = back.2 in
        let is = back.4 in
        let to : led back.0.unit p.base p.number ≡ place_at raw h.o.entry = ap (λ (w : ListOperand). led w.unit w.operand.base w.operand.number) is ∙ row_led h.o h.there in
        record { l = back.0; there = back.1; p = p; own = back.3; asked = λ e. ap (λ (w : ListOperand). w.operand.uleb) is ∙ h.asked e; passes = ap (λ (n : ℕ). test (name n)) to ∙ h.passes }

    -- the names of an attribute's operands
    abbrev spot_of : MeaningContext ℕ → Operand → EntryName
    spot_of s o = name (target_of s o)

    spots_are : (s : MeaningContext ℕ) → s.around ≡ around → (os : List Operand) → map name (targets s os) ≡ map (spot_of s) os
    spots_are s e [] = refl
    spots_are s e (o ∷ os) = (λ i. name ((e i).place (target_of s o)) ∷ spots_are s e os i)

    spot_led : (s : MeaningContext ℕ) (l : NamedList) (p : Operand) → l.unit ≡ s.unit → test (spot_of s p) ≡ test (name (led l.unit p.base p.number))
    spot_led s l p e = ap (λ (n : ℕ). test (name n)) (leads_led s p.base p.number ∙ ap (λ (n : ℕ). led n p.base p.number) (sym e))

    -- ---- those of all operands

    any_leads : list_any (names_by test) (named_attrs name said) ≡ true → Leads false
    any_leads e =
        let f = any_from (names_by test) (named_attrs name said) e in
        let from = in_map_from (attr_map name) f.one (units_attrs said) f.there in
        let b = from.source in
        let passes : names_by test (attr_map name b) ≡ true = ap (names_by test) from.is ∙ f.passes in
        let parts = and_parts (in_list b.value.plain) _ passes in
        let more = and_parts (has_operand b.value.plain) _ parts.1 in
        let l = list_there around raw said means b from.there parts.0 in
        let s = scope_of around l.2.u in
        let is = l.2.is in
        let refs : list_any test (map (spot_of s) (own_operands l.0)) ≡ true = ap (list_any test) (sym (ap (λ (v : Value ℕ). map name v.refs) is.value ∙ spots_are s refl (own_operands l.0)))
        ∙ more.1 in
        let g = any_from test (map (spot_of s) (own_operands l.0)) refs in
        let o = in_map_from (spot_of s) g.one (own_operands l.0) g.there in
        record { l = l.0; there = l.1; p = o.source; own = o.there; asked = λ no. absurd (false≢true no); passes = sym (spot_led s l.0 o.source is.unit) ∙ ap test o.is ∙ g.passes }

    leads_any : Leads false → list_any (names_by test) (named_attrs name said) ≡ true
    unfolding in_list
    leads_any h =
        let f = list_from around raw said means h.l h.there in
        let b = f.0 in
        let s = scope_of around f.2.u in
        let is = f.2.is in
        let here : list_any test (map (spot_of s) (own_operands h.l)) ≡ true = any_true test (spot_of s h.p) (map (spot_of s) (own_operands h.l)) (in_map (spot_of s) h.p (own_operands h.l) h.own)
        (spot_led s h.l h.p is.unit ∙ h.passes) in
        let refs : list_any test (map name (targets s (own_operands h.l))) ≡ true = ap (list_any test) (spots_are s refl (own_operands h.l)) ∙ here in
        let some = some_operand h.l.list.exprs h.p h.own in
        let passes : names_by test (attr_map name b) ≡ true = ap (λ (v : Value ℕ). in_list v.plain && (has_operand v.plain && list_any test (map name v.refs))) is.value ∙ (λ i. some i && refs i) in
        any_true (names_by test) (attr_map name b) (named_attrs name said) (in_map (attr_map name) b (units_attrs said) f.1) passes

    -- ---- those of ULEB128 numbers

    pins_are : (s : MeaningContext ℕ) → s.around ≡ around → (l : NamedList) → uleb_targets (joined_parts (map parts_of l.list.exprs)) (map name (targets s (own_operands l)))
        ≡ map (spot_of s) (ulebs_of (own_operands l))
    pins_are s e l = ap (uleb_targets (joined_parts (map parts_of l.list.exprs))) (spots_are s e (own_operands l)) ∙ list_ulebs (spot_of s) l.list.exprs

    pin_leads : list_any (list_pins test) (named_attrs name said) ≡ true → Leads true
    unfolding in_list
    pin_leads e =
        let f = any_from (list_pins test) (named_attrs name said) e in
        let from = in_map_from (attr_map name) f.one (units_attrs said) f.there in
        let b = from.source in
        let passes : list_pins test (attr_map name b) ≡ true = ap (list_pins test) from.is ∙ f.passes in
        let parts = and_parts (in_list b.value.plain) _ passes in
        let l = list_there around raw said means b from.there parts.0 in
        let s = scope_of around l.2.u in
        let is = l.2.is in
        let refs : list_any test (map (spot_of s) (ulebs_of (own_operands l.0))) ≡ true =
        ap (list_any test) (sym (pins_are s refl l.0)) ∙ sym (ap (λ (v : Value ℕ). list_any test (uleb_targets (plan_parts v.plain) (map name v.refs))) is.value) ∙ parts.1 in
        let g = any_from test (map (spot_of s) (ulebs_of (own_operands l.0))) refs in
        let o = in_map_from (spot_of s) g.one (ulebs_of (own_operands l.0)) g.there in
        let own = uleb_from (own_operands l.0) o.source o.there in
        record { l = l.0; there = l.1; p = o.source; own = own.0; asked = λ yes. own.1; passes = sym (spot_led s l.0 o.source is.unit) ∙ ap test o.is ∙ g.passes }

    leads_pin : Leads true → list_any (list_pins test) (named_attrs name said) ≡ true
    unfolding in_list
    leads_pin h =
        let f = list_from around raw said means h.l h.there in
        let b = f.0 in
        let s = scope_of around f.2.u in
        let is = f.2.is in
        let own = uleb_in (own_operands h.l) h.p h.own (h.asked refl) in
        let here : list_any test (map (spot_of s) (ulebs_of (own_operands h.l))) ≡ true = any_true test (spot_of s h.p) (map (spot_of s) (ulebs_of (own_operands h.l)))
        (in_map (spot_of s) h.p (ulebs_of (own_operands h.l)) own) (spot_led s h.l h.p is.unit ∙ h.passes) in
        let passes : list_pins test (attr_map name b) ≡ true = ap (λ (v : Value ℕ). in_list v.plain && list_any test (uleb_targets (plan_parts v.plain) (map name v.refs))) is.value
        ∙ ap (list_any test) (pins_are s refl h.l) ∙ here in
        any_true (list_pins test) (attr_map name b) (named_attrs name said) (in_map (attr_map name) b (units_attrs said) f.1) passes

    -- ---- and so the rows

    pub any_row : (list_any (names_by test) (named_attrs name said) ≡ true) ↔ OneOf rows (λ o. test (name (place_at raw o.entry)) ≡ true)
    any_row = (
      λ e. (let r = leads_row false (any_leads e) in (r.o, r.there, r.passes)),
      λ h. leads_any (row_leads false (record { o = h.0; there = h.1; asked = λ no. absurd (false≢true no); passes = h.2 })),
    )

    pub pin_row : (list_any (list_pins test) (named_attrs name said) ≡ true) ↔ OneOf rows (λ o. (o.uleb ≡ true) × (test (name (place_at raw o.entry)) ≡ true))
    pin_row = (
      λ e. (let r = leads_row true (pin_leads e) in (r.o, r.there, (r.asked refl, r.passes))),
      λ h. leads_pin (row_leads true (record { o = h.0; there = h.1; asked = λ yes. h.2.0; passes = h.2.1 })),
    )
