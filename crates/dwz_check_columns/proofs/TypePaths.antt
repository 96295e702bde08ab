-- The type of a type unit: where it stands, and the path to it.
use Rattle.std.proofs.Common.{◌≡◌, ℕ, zero, suc, ◌+◌, ◌<◌, ◌≤◌, List, [], ◌∷◌, ◌++◌, length, Some, slice_get, refl, sym, ap, subst, ◌∙◌, inl, inr, arith}
use Rattle.std.specs.Prelude.{reverse}
use Rattle.std.proofs.lemmas.Grind.{reverse_onto}
use Rattle.std.proofs.lemmas.List.{append-nil, append_assoc, length-append, reverse-reverse}
use Rattle.dwz_model.proofs.ListFacts.{got_below, got_index_or, got_map, got_there, same_got}
use Rattle.dwz_def_reading.specs.Documents.{DwUnit, Entries, Kind, Node, OfType}
use Rattle.dwz_def_reading.specs.Lists.{In}
use Rattle.dwz_def_reading.specs.Meanings.{Around, MeanUnits, MeansKind, MeansUnit, places_of, scope_of}
use Rattle.dwz_def_reading.specs.Trees.{End, Entry, size}
use Rattle.dwz_def_reading.specs.Units.{CompileUnit, PartialUnit, RawKind, RawUnit, TypeUnit, entries_in, entry_count}
use Rattle.dwz_def_reading.proofs.HasLemmas.{in_has}
use Rattle.dwz_def_reading.proofs.MeaningUnits.{entries_agree, units_agree}
use Rattle.dwz_def_cross.specs.Tops.{IsNthChild, StandsAlong}
use Rattle.dwz_def_check.specs.CrossNames.{AtPath, cross_names_below, cross_names_from, cross_unit_names, next_whole, unit_tops}
use Rattle.dwz_graph.proofs.ListMeans.{means_size}
use Rattle.dwz_graph.proofs.PlaceLemmas.{among_none}
use Rattle.dwz_graph.proofs.TopLemmas.{get_cases}
use Rattle.dwz_graph.proofs.UnitBuilding.{unit_list}
use Rattle.dwz_graph.proofs.UnitThere.{own_places}
use Rattle.dwz_unit.proofs.UnitThere.{unit_ends, unit_there}
use Rattle.dwz_graph.specs.Resolved.{place_at, places}
use Rattle.dwz_unit.specs.declared.rows.RawEntry.{RawEntry as EntryOfCode}
use Rattle.dwz_unit.specs.declared.rows.RawUnit.{RawUnit as UnitOfCode}
use Rattle.dwz_unit.specs.Rows.{EntryRow, kind_number, rows_of, shown_entries, shown_from, shown_units, type_offset_of, unit_shown, units_of}
use Rattle.dwz_check_index.specs.Index.{Called, path_in}
use Rattle.dwz_check_index.specs.declared.index.CrossStarts.{CrossStarts}
use Rattle.dwz_check_sides.specs.declared.side.Side.{Side}
use Rattle.dwz_check_sides.specs.Says.{IsSide}
use Rattle.dwz_check_sides.proofs.NameTexts.{at_row, row, row_found, steps_long, unit_long}
use Rattle.dwz_check_columns.specs.Drawn.{IsPathOf}

-- ---- where a unit ends

pub unit_end : (raw : List RawUnit) (n : ℕ) (x : UnitOfCode) (e : EntryOfCode) (u : RawUnit) → slice_get (shown_units raw) n ≡ Some x → slice_get (shown_entries raw) x.first ≡ Some e → slice_get raw n ≡ Some u
    → e.end ≡ x.first + entry_count u
unit_end raw n x e u shown entry found = let l = (unit_list raw n x e u shown entry found).ends in omega (arith, l)

pub end_within : (raw : List RawUnit) (n : ℕ) (x : UnitOfCode) (e : EntryOfCode) → slice_get (shown_units raw) n ≡ Some x → slice_get (shown_entries raw) x.first ≡ Some e → e.end ≤ entries_in raw
end_within raw n x e shown entry =
    let t = unit_there raw n x shown in
    let all = unit_ends raw n x t in
    let end = unit_end raw n x e t.u shown entry t.is_unit in
    omega (arith, all, end)

-- ---- the names of the entries of a top, and the paths to them

-- it stands behind so many of these entries
record Along (above : List ℕ) (i : ℕ) (f : Entries ℕ) (x : Called) : Type 0 where
  child : ℕ
  down : List ℕ
  node : Node ℕ
  below : Entries ℕ
  is_child : IsNthChild child node below f
  stands : StandsAlong down node below x.0
  path : path_in x.1 ≡ reverse ((i + child) ∷ down) ++ above

turned : (i : ℕ) (down above : List ℕ) → reverse (i ∷ down) ++ above ≡ reverse down ++ (i ∷ above)
turned i down above = ap (λ (w : List ℕ). w ++ above) (reverse_onto down i []) ∙ append_assoc (reverse down) (i ∷ []) above

inside : (above : List ℕ) (i : ℕ) (e : Node ℕ) (c n : Entries ℕ) (x : Called) → Along (i ∷ above) 0 c x → Along above i (Entry e c n) x
inside above i e c n x a =
    let first : i ≡ i + 0 = omega arith in
    let child : 0 + a.child ≡ a.child = omega arith in
    record {
      child = 0;
      down = a.child ∷ a.down;
      node = e;
      below = c;
      is_child = (refl, refl);
      stands = (a.node, a.below, a.is_child, a.stands);
      path = a.path ∙ ap (λ (k : ℕ). reverse (k ∷ a.down) ++ (i ∷ above)) child ∙ sym (turned i (a.child ∷ a.down) above)
          ∙ ap (λ (k : ℕ). reverse (k ∷ a.child ∷ a.down) ++ above) first;
    }

later : (above : List ℕ) (i : ℕ) (e : Node ℕ) (c n : Entries ℕ) (x : Called) → Along above (suc i) n x → Along above i (Entry e c n) x
later above i e c n x a =
    let same : suc i + a.child ≡ i + suc a.child = omega arith in
    record {
      child = suc a.child;
      down = a.down;
      node = a.node;
      below = a.below;
      is_child = a.is_child;
      stands = a.stands;
      path = a.path ∙ ap (λ (k : ℕ). reverse (k ∷ a.down) ++ above) same;
    }

here : (top : ℕ) (above : List ℕ) (i : ℕ) (e : Node ℕ) (c n : Entries ℕ) (x : Called) → (e.at, AtPath top (i ∷ above)) ≡ x → Along above i (Entry e c n) x
here top above i e c n x same =
    let first : i ≡ i + 0 = omega arith in
    record {
      child = 0;
      down = [];
      node = e;
      below = c;
      is_child = (refl, refl);
      stands = ap (λ (w : Called). w.0) same;
      path = ap (λ (w : Called). path_in w.1) (sym same) ∙ ap (λ (k : ℕ). k ∷ above) first;
    }

below_along : (top : ℕ) (above : List ℕ) (i : ℕ) (f : Entries ℕ) (k : ℕ) (x : Called) → slice_get (cross_names_below top above i f) k ≡ Some x → Along above i f x
unfolding cross_names_below
below_along top above i End k x got = absurd cc
below_along top above i (Entry e c n) zero x got = let same : (e.at, AtPath top (i ∷ above)) ≡ x = cc in here top above i e c n x same
below_along top above i (Entry e c n) (suc k) x got = elim (get_cases (cross_names_below top (i ∷ above) 0 c) (cross_names_below top above (suc i) n) k x got) [
  | inl a ↦ inside above i e c n x (below_along top (i ∷ above) 0 c k x a)
  | inr b ↦ later above i e c n x (below_along top above (suc i) n b.0 x b.2)
]

-- the path of an entry of a top leads to it, turned round
pub top_along : (top : ℕ) (e : Node ℕ) (f : Entries ℕ) (k : ℕ) (x : Called) → slice_get ((e.at, AtPath top []) ∷ cross_names_below top [] 0 f) k ≡ Some x → StandsAlong (reverse (path_in x.1)) e f x.0
top_along top e f zero x got =
    let same : (e.at, AtPath top []) ≡ x = cc in
    subst (λ (w : Called). StandsAlong (reverse (path_in w.1)) e f w.0) same refl
top_along top e f (suc k) x got =
    let a = below_along top [] 0 f k x got in
    let child : 0 + a.child ≡ a.child = omega arith in
    let way : path_in x.1 ≡ reverse (a.child ∷ a.down) =
    a.path ∙ append-nil (reverse ((0 + a.child) ∷ a.down)) ∙ ap (λ (j : ℕ). reverse (j ∷ a.down)) child in
    let back : reverse (path_in x.1) ≡ a.child ∷ a.down = ap (λ (w : List ℕ). reverse w) way ∙ reverse-reverse (a.child ∷ a.down) in
    subst (λ (w : List ℕ). StandsAlong w e f x.0) (sym back) (a.node, a.below, a.is_child, a.stands)

-- ---- the names of the entries of a unit among those of all

-- behind so many names stand those of the unit, which is meant so
record UnitNames (around : Around ℕ) (raw : List RawUnit) (before n : ℕ) (x : UnitOfCode) (u : DwUnit ℕ) (names : List Called) : Type 0 where
  unit : RawUnit
  is_unit : slice_get raw n ≡ Some unit
  shown : unit_shown x.first unit ≡ x
  means : MeansUnit around unit u
  whole : ℕ
  top : ℕ
  front : List Called
  rest : List Called
  names_are : names ≡ front ++ (cross_unit_names whole top u.kind u ++ rest)
  many : before + length front ≡ x.first

own_many : (around : Around ℕ) (k top : ℕ) (r : RawUnit) (v : DwUnit ℕ) → MeansUnit around r v → length (cross_unit_names k top v.kind v) ≡ entry_count r
own_many around k top r v h = let long = unit_long k top v.kind v in let same : size r.below ≡ size v.below = means_size (scope_of around r) r.below v.below h.below in omega (arith, long, same)

unit_names : (around : Around ℕ) (raw : List RawUnit) (said : List (DwUnit ℕ)) → MeanUnits around raw said → (k top before n : ℕ) (x : UnitOfCode) (u : DwUnit ℕ)
    → slice_get (shown_from raw before) n ≡ Some x → slice_get said n ≡ Some u → UnitNames around raw before n x u (cross_names_from k top said)
unfolding shown_from cross_names_from
unit_names around [] [] h k top before n x u shown got = absurd cc
unit_names around [] (v ∷ said) h k top before n x u shown got = absurd h
unit_names around (r ∷ raw) [] h k top before n x u shown got = absurd h
unit_names around (r ∷ raw) (v ∷ said) h k top before zero x u shown got =
    let is : unit_shown before r ≡ x = cc in
    let same : v ≡ u = cc in
    let first : before ≡ x.first = ap (λ (w : UnitOfCode). w.first) is in
    let rest = cross_names_from (next_whole v.kind k) (top + length (unit_tops v.kind v)) said in
    record {
      unit = r;
      is_unit = refl;
      shown = ap (λ (j : ℕ). unit_shown j r) (sym first) ∙ is;
      means = subst (λ (w : DwUnit ℕ). MeansUnit around r w) same h.0;
      whole = k;
      top = top;
      front = [];
      rest = rest;
      names_are = ap (λ (w : DwUnit ℕ). cross_unit_names k top w.kind w ++ rest) same;
      many = omega (arith, first);
    }
unit_names around (r ∷ raw) (v ∷ said) h k top before (suc n) x u shown got =
    let own = cross_unit_names k top v.kind v in
    let o = unit_names around raw said h.1 (next_whole v.kind k) (top + length (unit_tops v.kind v)) (before + entry_count r) n x u shown got in
    let long = own_many around k top r v h.0 in
    record {
      unit = o.unit;
      is_unit = o.is_unit;
      shown = o.shown;
      means = o.means;
      whole = o.whole;
      top = o.top;
      front = own ++ o.front;
      rest = o.rest;
      names_are = ap (λ (w : List Called). own ++ w) o.names_are ∙ sym (append_assoc own o.front (cross_unit_names o.whole o.top u.kind u ++ o.rest));
      many = (let m = o.many in let l = length-append own o.front in omega (arith, long, m, l));
    }

get_own : {X : Type 0} (xs front own rest : List X) (i : ℕ) (x : X) → xs ≡ front ++ (own ++ rest) → slice_get xs i ≡ Some x → length front ≤ i → i < length front + length own
    → (k : ℕ) × (slice_get own k ≡ Some x)
get_own {X} xs front own rest i x parts got low high = elim (get_cases front (own ++ rest) i x (ap (λ (w : List X). slice_get w i) (sym parts) ∙ got)) [
  | inl a ↦ absurd (let b = got_below front i x a in omega (arith, b, low))
  | inr b ↦ elim (get_cases own rest b.0 x b.2) [
    | inl a ↦ (b.0, a)
    | inr d ↦ absurd (let at = b.1 in let to = d.1 in omega (arith, at, to, high))
  ]
]

-- ---- what a type unit is

type_raw : (k : RawKind) → kind_number k ≡ 2 → (signature : ℕ) × (k ≡ TypeUnit signature (type_offset_of k))
type_raw CompileUnit e = absurd (omega (arith, e))
type_raw (TypeUnit signature type_offset) e = (signature, refl)
type_raw PartialUnit e = absurd (omega (arith, e))

other_kind : (r : RawUnit) (around : Around ℕ) (k : RawKind) (kind : Kind ℕ) (u : DwUnit ℕ) → (kind_number k ≡ 2 → ⊥) → MeansKind (scope_of around r) k kind → IsPathOf u kind []
other_kind r around CompileUnit kind u other h = subst (λ (w : Kind ℕ). IsPathOf u w []) (sym h) refl
other_kind r around PartialUnit kind u other h = subst (λ (w : Kind ℕ). IsPathOf u w []) (sym h) refl
other_kind r around (TypeUnit signature type_offset) kind u other h = absurd (other refl)

module _ (s : Side) (said : List (DwUnit ℕ)) (starts : CrossStarts) (side : IsSide s said starts) (n : ℕ) (x : UnitOfCode) (u : DwUnit ℕ) (shown : slice_get (shown_units (units_of s.file.now.units)) n ≡ Some x)
    (got : slice_get said n ≡ Some u) where
  abbrev raw : List RawUnit
  raw = units_of s.file.now.units

  abbrev names : List Called
  names = cross_names_from 0 starts.top said

  there : UnitNames side.says.around raw 0 n x u names
  there = unit_names side.says.around raw said (((units_agree side.says.around raw).ok said).0 side.says.means) 0 starts.top 0 n x u shown got

  -- no other unit has a path
  pub no_path : (x.kind ≡ 2 → ⊥) → IsPathOf u u.kind []
  no_path other = other_kind there.unit side.says.around there.unit.kind u.kind u (λ e. other (ap (λ (w : UnitOfCode). w.kind) (sym there.shown) ∙ e)) there.means.kind

  record IsTypeUnit : Type 0 where
    signature : ℕ
    kind : u.kind ≡ OfType signature (x.at + x.type_offset)
    within : In (x.at + x.type_offset) (places_of there.unit)

  type_unit : x.kind ≡ 2 → IsTypeUnit
  type_unit e =
      let t = there in
      let r = type_raw t.unit.kind (ap (λ (w : UnitOfCode). w.kind) t.shown ∙ e) in
      let m = subst (λ (k : RawKind). MeansKind (scope_of side.says.around t.unit) k u.kind) r.1 t.means.kind in
      let at : t.unit.at ≡ x.at = ap (λ (w : UnitOfCode). w.at) t.shown in
      let offset : type_offset_of t.unit.kind ≡ x.type_offset = ap (λ (w : UnitOfCode). w.type_offset) t.shown in
      let place : t.unit.at + type_offset_of t.unit.kind ≡ x.at + x.type_offset = (λ i. at i + offset i) in
      record {
        signature = r.0;
        kind = m.1 ∙ ap (λ (f : ℕ → ℕ). OfType r.0 (f (t.unit.at + type_offset_of t.unit.kind))) side.says.place ∙ ap (OfType r.0) place;
        within = subst (λ (p : ℕ). In p (places_of t.unit)) place m.0;
      }

  -- an entry of the unit stands where its type is
  pub type_there : x.kind ≡ 2 → (end : ℕ) → (e : EntryOfCode) → slice_get (shown_entries raw) x.first ≡ Some e → ((i : ℕ) → x.first ≤ i → i < e.end → place_at raw i ≡ x.at + x.type_offset → ⊥) → ⊥
  type_there is end e entry none =
      let t = type_unit is in
      let w = unit_there raw n x shown in
      let same : w.u ≡ there.unit = same_got raw n w.u there.unit w.is_unit there.is_unit in
      let ends = unit_end raw n x e w.u shown entry w.is_unit in
      let own = own_places raw n x e.end w ends ∙ ap (λ (v : RawUnit). places_of v) same in
      let none_there = among_none raw x.first e.end (x.at + x.type_offset) (places_of there.unit) own none in
      let there_is = in_has (x.at + x.type_offset) (places_of there.unit) t.within in
      cc

  -- ---- the entry that stands there

  name_there : (i : ℕ) → i < entries_in raw → (name : Called) × (slice_get names i ≡ Some name)
  name_there i low = let long = steps_long s said starts side in let many = side.index_is.names.len in got_there names i (omega (arith, low, long, many))

  place_is : (i : ℕ) (name : Called) → slice_get names i ≡ Some name → name.0 ≡ place_at raw i
  place_is i name is =
      let low = got_below names i name is in
      let many = side.index_is.names.len in
      let step = got_there s.index.now.steps i (omega (arith, low, many)) in
      let h = side.index_is.names.each i step.0 name step.1 is in
      let r = at_row s said starts side i h.entry h.found in
      let m = ((entries_agree (scope_of side.says.around r.unit) (Entry r.e r.c End)).ok (Entry h.entry.0 h.entry.1 End)).0 r.means in
      let own : h.entry.0.at ≡ r.e.at = m.0.place ∙ ap (λ (f : ℕ → ℕ). f r.e.at) side.says.place in
      let found = row_found s said starts side i h.entry h.found in
      let at : place_at raw i ≡ r.e.at = got_index_or (places raw) i r.e.at 0 (got_map (λ (w : EntryRow). w.entry.at) (rows_of raw) i (row s said starts side i h.entry h.found) found) in
      sym h.place ∙ own ∙ sym at

  -- its name has the path to it, from its end on
  pub type_along : x.kind ≡ 2 → (e : EntryOfCode) → slice_get (shown_entries raw) x.first ≡ Some e → (i : ℕ) → x.first ≤ i → i < e.end → place_at raw i ≡ x.at + x.type_offset
      → (name : Called) × (slice_get names i ≡ Some name) × IsPathOf u u.kind (reverse (path_in name.1))
  type_along is e entry i low high at =
      let t = type_unit is in
      let v = there in
      let within = end_within raw n x e shown entry in
      let name = name_there i (omega (arith, high, within)) in
      let ends = unit_end raw n x e v.unit shown entry v.is_unit in
      let own = subst (λ (k : Kind ℕ). names ≡ v.front ++ (cross_unit_names v.whole v.top k u ++ v.rest)) t.kind v.names_are in
      let long = own_many side.says.around v.whole v.top v.unit u v.means in
      let kind_long = ap (λ (k : Kind ℕ). length (cross_unit_names v.whole v.top k u)) t.kind in
      let many = v.many in
      let k = get_own names v.front (cross_unit_names v.whole v.top (OfType t.signature (x.at + x.type_offset)) u) v.rest i name.0 own name.1 (omega (arith, many, low))
      (omega (arith, many, high, ends, long, kind_long)) in
      let stands = top_along v.top u.root u.below k.0 name.0 k.1 in
      let main : name.0.0 ≡ x.at + x.type_offset = place_is i name.0 name.1 ∙ at in (
        name.0,
        name.1,
        subst (λ (w : Kind ℕ). IsPathOf u w (reverse (path_in name.0.1))) (sym t.kind) (subst (λ (p : ℕ). StandsAlong (reverse (path_in name.0.1)) u.root u.below p) main stands),
      )
