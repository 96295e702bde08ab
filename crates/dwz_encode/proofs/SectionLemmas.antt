-- Units one after the other, file by file: where all stands, the tables, and the bytes.
use Rattle.std.proofs.Common.{◌≡◌, ◌⊎◌, inl, inr, ℕ, zero, suc, ◌+◌, ◌<◌, Bool, true, false, List, [], ◌∷◌, ◌++◌, length, slice_index, slice_set, refl, sym, ap, subst, ◌∙◌, append_assoc, append-nil}
use Rattle.std.proofs.Common.{arith, eqb, eqb-true, get_or}
use Rattle.std.proofs.lemmas.List.{get_or-set_other, get_or-set_same, length-append, length-set}
use Rattle.dwz_def_reading.specs.Documents.{DwUnit}
use Rattle.dwz_def_tops.proofs.SpotLemmas.{eqb_same}
use Rattle.dwz_def_reading.specs.Lists.{Each}
use Rattle.dwz_layout.specs.Shapes.{table_for}
use Rattle.dwz_def_encoding.specs.Placing.{UnitsStand, zeros}
use Rattle.dwz_def_encoding.specs.Writing.{Numbering, abbrevs_of, or_zero, table_in, table_offset, tables_of, unit_bytes, units_bytes, with_table, written_unit_size}
use Rattle.dwz_def_encoding.proofs.RawHeaders.{unit_len}
use Rattle.dwz_def_encoding.proofs.WriteCodes.{Grown, Grown-then}
use Rattle.dwz_def_encoding.proofs.WriteLengths.{FixedUnit, size_len}
use Rattle.dwz_def_encoding.proofs.WriteTables.{table_grows, tables_have, with_table-has}
use Rattle.dwz_layout.specs.declared.known.EntryTable.{EntryTable}
use Rattle.dwz_layout.specs.declared.layout.OutUnit.{OutUnit}
use Rattle.dwz_layout.specs.declared.order.UnitItems.{UnitItems}
use Rattle.dwz_layout.specs.declared.walk.Entry.{Entry}
use Rattle.dwz_layout.specs.declared.walk.Origin.{Origin}
use Rattle.dwz_layout.specs.declared.walk.Origin.TheVariants.{Chained, Imported, OwnRoot, Read}
use Rattle.dwz_layout.specs.declared.walk.Slot.{Slot}
use Rattle.dwz_layout.specs.Attributes.{WritingContext, here_of}
use Rattle.dwz_layout.specs.Entries.{entries_of, items_slots, unit_entries}
use Rattle.dwz_layout.specs.Known.{number_of}
use Rattle.dwz_layout.specs.Laid.{Laying, Made, header_size as sort_size, note, with_units}
use Rattle.dwz_encode.specs.Pages.{numbers_in, units_page}
use Rattle.dwz_encode.specs.Shown.{HasRow, InUnits, IsRow, Keys, ShowUnits, key_of}
use Rattle.dwz_encode.proofs.KeyLemmas.{SlotsAt}
use Rattle.dwz_encode.proofs.PassLemmas.{Stand, noted}
use Rattle.dwz_encode.proofs.UnitLemmas.{SortAgrees, UnitAgrees, header_is, laid_at, out_unit, page_is, stands, unit_laid}

-- ---- what a unit adds

abbrev unit_from : UnitItems → Made → Laying → Made
unit_from o m l =
    let table = table_for l.shapes in
    let tables = with_table m.tables table in
    record {
      units = m.units ++ record { at = m.at; end = l.at; «abbrev» = or_zero (table_in 0 tables table); codes = l.codes } ∷ [];
      tables = tables;
      at = l.at;
      places = l.places;
      roots = m.roots ++ (m.at + sort_size o.sort) ∷ [];
    }

module _ {K : Type 0} (k : EntryTable) where
  abbrev pub offset_in : List (List ℕ) → DwUnit K → ℕ
  offset_in tables u = or_zero (table_in 0 (with_table tables (abbrevs_of u)) (abbrevs_of u))

  unfoldable pub outs_of : ℕ → ℕ → List (List ℕ) → List UnitItems → List (DwUnit K) → List OutUnit
  outs_of here at tables [] units = []
  outs_of here at tables (o ∷ order) [] = []
  outs_of here at tables (o ∷ order) (u ∷ units) = out_unit k here o u at (offset_in tables u) ∷ outs_of (suc here) (at + written_unit_size zeros 0 u) (with_table tables (abbrevs_of u)) order units

  unfoldable pub places_of : ℕ → ℕ → List UnitItems → List (DwUnit K) → List ℕ → List ℕ
  places_of here at [] units places = places
  places_of here at (o ∷ order) [] places = places
  places_of here at (o ∷ order) (u ∷ units) places = places_of (suc here) (at + written_unit_size zeros 0 u) order units (noted k (unit_entries k o) (stands k here o at) places)

  unfoldable pub roots_of : ℕ → List UnitItems → List (DwUnit K) → List ℕ
  roots_of at [] units = []
  roots_of at (o ∷ order) [] = []
  roots_of at (o ∷ order) (u ∷ units) = (at + sort_size o.sort) ∷ roots_of (at + written_unit_size zeros 0 u) order units

  unfoldable pub end_of : ℕ → List (DwUnit K) → ℕ
  end_of at [] = at
  end_of at (u ∷ units) = end_of (at + written_unit_size zeros 0 u) units

  module _ (keys : Keys K) where
    pub units_made : (here : ℕ) (order : List UnitItems) (units : List (DwUnit K)) (m : Made) → ShowUnits keys k here order units → Each FixedUnit units
        → with_units k here order m
        ≡ record {
          units = m.units ++ outs_of here m.at m.tables order units;
          tables = tables_of m.tables units;
          at = end_of m.at units;
          places = places_of here m.at order units m.places;
          roots =
              m.roots ++ roots_of m.at order units;
        }
    unfolding with_units outs_of tables_of places_of roots_of end_of
    units_made here [] [] m shows fixed =
        let units = sym (append-nil m.units) in
        let roots = sym (append-nil m.roots) in
        (λ i. let n : Made = record { units = units i; tables = m.tables; at = m.at; places = m.places; roots = roots i } in n)
    units_made here [] (u ∷ units) m shows fixed = absurd shows
    units_made here (o ∷ order) [] m shows fixed = absurd shows
    units_made here (o ∷ order) (u ∷ units) m shows fixed =
        let tables = with_table m.tables (abbrevs_of u) in
        let next = m.at + written_unit_size zeros 0 u in
        let out = out_unit k here o u m.at (offset_in m.tables u) in
        let places = noted k (unit_entries k o) (stands k here o m.at) m.places in
        let one : Made = record { units = m.units ++ out ∷ []; tables = tables; at = next; places = places; roots = m.roots ++ (m.at + sort_size o.sort) ∷ [] } in
        let more = append_assoc m.units (out ∷ []) (outs_of (suc here) next tables order units) in
        let roots = append_assoc m.roots ((m.at + sort_size o.sort) ∷ []) (roots_of next order units) in
        ap (λ (l : Laying). with_units k (suc here) order (unit_from o m l)) (unit_laid keys k here o u shows.0 fixed.0 m.at m.places)
        ∙ units_made (suc here) order units one shows.1 fixed.1
        ∙ (λ i. let n : Made = record { units = more i; tables = tables_of tables units; at = end_of next units; places = places_of (suc here) next order units places; roots = roots i } in n)

    -- ---- the bytes

    -- numbers agree with what was kept of the layout
    abbrev pub AllAgree : Numbering K → (places roots : List ℕ) → ℕ → List UnitItems → Type 0
    AllAgree n places roots here [] = Unit {0}
    AllAgree n places roots here (o ∷ order) = SortAgrees keys n (numbers_in places roots 0) o.sort × UnitAgrees keys n (numbers_in places roots 0) k here o × AllAgree n places roots (suc here) order

    offset_is : (tables all : List (List ℕ)) (t : List ℕ) → Grown (with_table tables t) all → table_in 0 (with_table tables t) t ≡ table_in 0 all t
    offset_is tables all t grown =
        let has = (with_table-has tables t).0 in
        has.is ∙ sym (ap (λ (ts : List (List ℕ)). table_in 0 ts t) grown.is ∙ table_grows 0 (with_table tables t) grown.more t has.offset has.is)

    pub bytes_are : (n : Numbering K) (places roots : List ℕ) (here at : ℕ) (tables all : List (List ℕ)) (order : List UnitItems) (units : List (DwUnit K)) → ShowUnits keys k here order units
        → Each FixedUnit units
        → UnitsStand n units at → AllAgree n places roots here order → Grown (tables_of tables units) all → units_page k places roots here order (outs_of here at tables order units)
        ≡ units_bytes n all units
    unfolding units_page outs_of units_bytes tables_of
    bytes_are n places roots here at tables all [] [] shows fixed there agrees grown = refl
    bytes_are n places roots here at tables all [] (u ∷ units) shows fixed there agrees grown = absurd shows
    bytes_are n places roots here at tables all (o ∷ order) [] shows fixed there agrees grown = absurd shows
    bytes_are n places roots here at tables all (o ∷ order) (u ∷ units) shows fixed there agrees grown =
        let t = abbrevs_of u in
        let more = with_table tables t in
        let next = at + written_unit_size zeros 0 u in
        let rest : UnitsStand n units next = subst (λ (s : ℕ). UnitsStand n units (at + s)) (size_len n zeros at 0 u fixed.0) there.1 in
        let one_grown : Grown more all = Grown-then more (tables_of more units) all (tables_have units more).1 grown in
        let one = page_is keys k here o u shows.0 fixed.0 n places roots at (offset_in tables u) agrees.1 agrees.0 in
        let offset : offset_in tables u ≡ table_offset all u = ap or_zero (offset_is tables all t one_grown) in
        (λ i. one i ++ bytes_are n places roots (suc here) next more all order units shows.1 fixed.1 rest agrees.2 grown i)
        ∙ (λ i. unit_bytes n (offset i) (sym there.0.unit i) u ++ units_bytes n all units)

  -- the units end where their bytes do
  pub end_is : (n : Numbering K) (at : ℕ) (all : List (List ℕ)) (units : List (DwUnit K)) → Each FixedUnit units → end_of at units ≡ at + length (units_bytes n all units)
  unfolding end_of units_bytes
  end_is n at all [] fixed = omega arith
  end_is n at all (u ∷ units) fixed =
      let bytes = unit_bytes n (table_offset all u) (n.place u.at) u in
      let len : length bytes ≡ written_unit_size zeros 0 u = unit_len n (n.place u.at) (table_offset all u) u ∙ size_len n zeros (n.place u.at) 0 u fixed.0 in
      omega (arith, end_is n (at + written_unit_size zeros 0 u) all units fixed.1, len, length-append bytes (units_bytes n all units))

-- ---- the places that are kept

module _ {K : Type 0} (keys : Keys K) (n : Numbering K) (k : EntryTable) where
  abbrev pub IsRight : ℕ → List ℕ → Type 0
  IsRight i places = slice_index places i ≡ n.place (keys.row i)

  note_len : (origin : Origin) (at : ℕ) (places : List ℕ) → length (note k origin at places) ≡ length places
  note_len (Read r) at places = length-set places (number_of k r) at
  note_len (OwnRoot line) at places = refl
  note_len (Chained chain space) at places = refl
  note_len (Imported part) at places = refl

  noted_len : (entries : List Entry) (laid : List Stand) (places : List ℕ) → length (noted k entries laid places) ≡ length places
  unfolding noted
  noted_len [] laid places = refl
  noted_len (e ∷ entries) [] places = refl
  noted_len (e ∷ entries) (l ∷ laid) places = noted_len entries laid (note k e.origin l.at places) ∙ note_len e.origin l.at places

  row_same : (j i at : ℕ) (places : List ℕ) → i < length places → n.place (keys.row j) ≡ at → (t : Bool) → eqb i j ≡ t → (IsRight i places) ⊎ (j ≡ i) → IsRight i (slice_set places j at)
  row_same j i at places lt is true e right =
      let same = eqb-true i j e in
      ap (λ (x : ℕ). get_or (slice_set places j at) x 0) same ∙ get_or-set_same places j at 0 (subst (λ (x : ℕ). x < length places) same lt) ∙ sym is ∙ ap (λ (x : ℕ). n.place (keys.row x)) (sym same)
  row_same j i at places lt is false e right =
      let other : i ≡ j → ⊥ = λ same. (let yes : eqb i j ≡ true = ap (λ (x : ℕ). eqb i x) (sym same) ∙ eqb_same i in cc) in
      get_or-set_other places j i at 0 other ∙ elim right [ inl r ↦ r | inr same ↦ absurd (other (sym same)) ]

  note_right : (here depth : ℕ) (origin : Origin) (i at : ℕ) (places : List ℕ) → i < length places → n.place (key_of keys k here depth origin) ≡ at → (IsRight i places) ⊎ IsRow k i origin
      → IsRight i (note k origin at places)
  note_right here depth (Read r) i at places lt is right = row_same (number_of k r) i at places lt is (eqb i (number_of k r)) refl right
  note_right here depth (OwnRoot line) i at places lt is right = elim right [ inl r ↦ r | inr e ↦ absurd e ]
  note_right here depth (Chained chain space) i at places lt is right = elim right [ inl r ↦ r | inr e ↦ absurd e ]
  note_right here depth (Imported part) i at places lt is right = elim right [ inl r ↦ r | inr e ↦ absurd e ]

  noted_right : (here : WritingContext) (slots : List Slot) (laid : List Stand) (i : ℕ) (places : List ℕ) → i < length places → SlotsAt keys n k here slots laid → (IsRight i places) ⊎ HasRow k i slots
      → IsRight i (noted k (entries_of slots) laid places)
  unfolding noted entries_of
  noted_right here [] laid i places lt at right = elim right [ inl r ↦ r | inr none ↦ absurd none ]
  noted_right here (s ∷ slots) [] i places lt at right = absurd at
  noted_right here (s ∷ slots) (l ∷ laid) i places lt at right =
      let more = note k s.origin l.at places in
      let less : i < length more = omega (arith, lt, note_len s.origin l.at places) in
      noted_right here slots laid i more less at.1 (elim right [
        | inl r ↦ inl (note_right here.unit s.depth s.origin i l.at places lt at.0 (inl r))
        | inr h ↦ elim h [ inl e ↦ inl (note_right here.unit s.depth s.origin i l.at places lt at.0 (inr e)) | inr later ↦ inr later ]
      ])

  pub places_len : (here at : ℕ) (order : List UnitItems) (units : List (DwUnit K)) (places : List ℕ) → length (places_of k here at order units places) ≡ length places
  unfolding places_of
  places_len here at [] units places = refl
  places_len here at (o ∷ order) [] places = refl
  places_len here at (o ∷ order) (u ∷ units) places =
      places_len (suc here) (at + written_unit_size zeros 0 u) order units (noted k (unit_entries k o) (stands k here o at) places) ∙ noted_len (unit_entries k o) (stands k here o at) places

  pub places_right : (here at : ℕ) (order : List UnitItems) (units : List (DwUnit K)) (i : ℕ) (places : List ℕ) → i < length places → ShowUnits keys k here order units → Each FixedUnit units
      → UnitsStand n units at
      → (IsRight i places) ⊎ InUnits k i order → IsRight i (places_of k here at order units places)
  unfolding places_of
  places_right here at [] [] i places lt shows fixed there right = elim right [ inl r ↦ r | inr none ↦ absurd none ]
  places_right here at [] (u ∷ units) i places lt shows fixed there right = absurd shows
  places_right here at (o ∷ order) [] i places lt shows fixed there right = absurd shows
  places_right here at (o ∷ order) (u ∷ units) i places lt shows fixed there right =
      let next = at + written_unit_size zeros 0 u in
      let more = noted k (unit_entries k o) (stands k here o at) places in
      let less : i < length more = omega (arith, lt, noted_len (unit_entries k o) (stands k here o at) places) in
      let rest : UnitsStand n units next = subst (λ (s : ℕ). UnitsStand n units (at + s)) (size_len n zeros at 0 u fixed.0) there.1 in
      let here_at = laid_at keys k here o u shows.0 fixed.0 n at there.0 in
      let now : (IsRight i more) ⊎ InUnits k i order = elim right [
        | inl r ↦ inl (noted_right (here_of k here o.sort) (items_slots k o.sort o.items) (stands k here o at) i places lt here_at (inl r))
        | inr w ↦ elim w [ inl h ↦ inl (noted_right (here_of k here o.sort) (items_slots k o.sort o.items) (stands k here o at) i places lt here_at (inr h)) | inr later ↦ inr later ]
      ] in
      places_right (suc here) next order units i more less shows.1 fixed.1 rest now

  -- ---- the roots

  pub roots_len : (here at : ℕ) (order : List UnitItems) (units : List (DwUnit K)) → ShowUnits keys k here order units → length (roots_of k at order units) ≡ length order
  unfolding roots_of
  roots_len here at [] [] shows = refl
  roots_len here at [] (u ∷ units) shows = absurd shows
  roots_len here at (o ∷ order) [] shows = absurd shows
  roots_len here at (o ∷ order) (u ∷ units) shows = (let rest = roots_len (suc here) (at + written_unit_size zeros 0 u) order units shows.1 in omega (arith, rest))

  pub roots_right : (here at : ℕ) (order : List UnitItems) (units : List (DwUnit K)) (j : ℕ) → ShowUnits keys k here order units → Each FixedUnit units → UnitsStand n units at → j < length order
      → slice_index (roots_of k at order units) j ≡ n.place (keys.root (here + j))
  unfolding roots_of
  roots_right here at [] units j shows fixed there lt = absurd (omega arith)
  roots_right here at (o ∷ order) [] j shows fixed there lt = absurd shows
  roots_right here at (o ∷ order) (u ∷ units) zero shows fixed there lt =
      let start = header_is keys k here o u shows.0 fixed.0 in
      let zero_more : here ≡ here + 0 = omega arith in
      ap (λ (x : ℕ). at + x) start ∙ sym there.0.root ∙ ap n.place (sym shows.0.root) ∙ ap (λ (h : ℕ). n.place (keys.root h)) zero_more
  roots_right here at (o ∷ order) (u ∷ units) (suc j) shows fixed there lt =
      let next = at + written_unit_size zeros 0 u in
      let rest : UnitsStand n units next = subst (λ (s : ℕ). UnitsStand n units (at + s)) (size_len n zeros at 0 u fixed.0) there.1 in
      let one : suc here + j ≡ here + suc j = omega arith in
      roots_right (suc here) next order units j shows.1 fixed.1 rest (omega arith)
      ∙ ap (λ (h : ℕ). n.place (keys.root h)) one
