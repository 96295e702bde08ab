-- New units one after the other: where all stands, the tables, and the bytes.
use Rattle.std.proofs.Common.{◌≡◌, ℕ, ◌+◌, ◌-◌, ◌<◌, List, [], ◌∷◌, ◌++◌, length, map, slice_index, slice_index_or, refl, sym, ap, subst, ◌∙◌, append_assoc, append-nil, arith}
use Rattle.std.specs.List.{fold}
use Rattle.std.proofs.lemmas.List.{get_or-append_right, length-append, length-map, map-append}
use Rattle.std.proofs.lemmas.List.Sums.{sum_by-cons}
use Rattle.dwz_def_encoding.proofs.RawHeaders.{unit_len}
use Rattle.dwz_def_encoding.proofs.WriteCodes.{Grown, Grown-then}
use Rattle.dwz_def_encoding.proofs.WriteLengths.{FixedUnit, size_len}
use Rattle.dwz_def_encoding.proofs.WriteTables.{table_grows, tables_have, with_table-has}
use Rattle.dwz_def_encoding.specs.Placing.{UnitsStand, zeros}
use Rattle.dwz_def_encoding.specs.Writing.{DeclarationShape, Numbering, abbrevs_of, or_zero, table_in, table_of, table_offset, tables_of, unit_bytes, units_bytes, with_table, written_unit_size}
use Rattle.dwz_def_reading.specs.Documents.{DwUnit}
use Rattle.dwz_def_reading.specs.Lists.{Each}
use Rattle.dwz_encode.proofs.PassLemmas.{Stand, codes_of}
use Rattle.dwz_encode.specs.Pages.{entries_page}
use Rattle.dwz_expand_layout.specs.declared.entries.NewKind.{NewKind}
use Rattle.dwz_expand_layout.specs.declared.entries.NewKind.TheVariants.{Compile, OfType}
use Rattle.dwz_expand_layout.specs.declared.layout.LaidUnit.{LaidUnit}
use Rattle.dwz_expand_layout.specs.Entries.{UnitLines, line_call, line_count}
use Rattle.dwz_expand_layout.specs.Laid.{Laying, Made, with_unit}
use Rattle.dwz_expand_layout.specs.Shown.{KindRefers, ShowUnits, UnitRefers}
use Rattle.dwz_expand_layout.specs.Written.{Writing, header_page, numbers_of, unit_at, with_entry, with_written}
use Rattle.dwz_expand_layout.proofs.PassLemmas.{laying_with, lines_written, made_with, places_of, writing_with}
use Rattle.dwz_expand_layout.proofs.ShownLemmas.{CopiesAt, copies_append, lines_agree}
use Rattle.dwz_expand_layout.proofs.UnitLemmas.{KindAgrees, copies_at, offset_in, out_unit, page_is, stands, stands_many, unit_laid}

two_parts : (old : List ℕ) (f : Stand → ℕ) (xs ys : List Stand) → (old ++ map f xs) ++ map f ys ≡ old ++ map f (xs ++ ys)
two_parts old f xs ys = append_assoc old (map f xs) (map f ys) ∙ ap (λ (w : List ℕ). old ++ w) (sym (map-append f xs ys))

offset_is : (tables all : List (List ℕ)) (t : List ℕ) → Grown (with_table tables t) all → table_in 0 (with_table tables t) t ≡ table_in 0 all t
offset_is tables all t grown =
    let has = (with_table-has tables t).0 in
    has.is ∙ sym (ap (λ (ts : List (List ℕ)). table_in 0 ts t) grown.is ∙ table_grows 0 (with_table tables t) grown.more t has.offset has.is)

module _ {K : Type 0} where
  -- ---- what is laid

  unfoldable pub outs_of : ℕ → List (List ℕ) → List (DwUnit K) → List LaidUnit
  outs_of at tables [] = []
  outs_of at tables (u ∷ units) = out_unit u at (offset_in tables u) ∷ outs_of (at + written_unit_size zeros 0 u) (with_table tables (abbrevs_of u)) units

  unfoldable pub stands_of : ℕ → List UnitLines → List (DwUnit K) → List Stand
  stands_of at [] units = []
  stands_of at (o ∷ order) [] = []
  stands_of at (o ∷ order) (u ∷ units) = stands o at ++ stands_of (at + written_unit_size zeros 0 u) order units

  unfoldable pub end_of : ℕ → List (DwUnit K) → ℕ
  end_of at [] = at
  end_of at (u ∷ units) = end_of (at + written_unit_size zeros 0 u) units

  abbrev pub made_all : Made → List UnitLines → List (DwUnit K) → Made
  made_all m order units =
      made_with (m.units ++ outs_of m.end m.tables units) (tables_of m.tables units) (m.places ++ places_of (stands_of m.end order units)) (m.codes ++ codes_of (stands_of m.end order units))
      (end_of m.end units)

  module _ (key : ℕ → K) where
    pub units_laid : (number : ℕ) (order : List UnitLines) (units : List (DwUnit K)) (m : Made) (begin : ℕ) (shapes : List DeclarationShape) → ShowUnits key number order units → Each FixedUnit units
        → (fold with_unit (laying_with m begin shapes) order).made ≡ made_all m order units
    unfolding outs_of stands_of end_of tables_of
    units_laid number [] [] m begin shapes shows fixed =
        let u = sym (append-nil m.units) in
        let p = sym (append-nil m.places) in
        let c = sym (append-nil m.codes) in
        (λ i. made_with (u i) m.tables (p i) (c i) m.end)
    units_laid number [] (u ∷ units) m begin shapes shows fixed = absurd shows
    units_laid number (o ∷ order) [] m begin shapes shows fixed = absurd shows
    units_laid number (o ∷ order) (u ∷ units) m begin shapes shows fixed =
        let tables = with_table m.tables (abbrevs_of u) in
        let next = m.end + written_unit_size zeros 0 u in
        let out = out_unit u m.end (offset_in m.tables u) in
        let first = stands o m.end in
        let rest = stands_of next order units in
        let one = made_with (m.units ++ out ∷ []) tables (m.places ++ places_of first) (m.codes ++ codes_of first) next in
        let more = append_assoc m.units (out ∷ []) (outs_of next tables units) in
        let p = two_parts m.places (λ s. s.at) first rest in
        let c = two_parts m.codes (λ s. s.code) first rest in
        ap (λ (l : Laying). (fold with_unit l order).made) (unit_laid key number o u shows.0 fixed.0 m begin shapes)
        ∙ units_laid (number + length o.lines) order units one m.end (table_of u) shows.1 fixed.1
        ∙ (λ i. made_with (more i) (tables_of tables units) (p i) (c i) (end_of next units))

    -- ---- places

    pub all_at : (n : Numbering K) (number at : ℕ) (order : List UnitLines) (units : List (DwUnit K)) → ShowUnits key number order units → Each FixedUnit units → UnitsStand n units at
        → CopiesAt n key number (places_of (stands_of at order units))
    unfolding stands_of
    all_at n number at [] units shows fixed there = tt
    all_at n number at (o ∷ order) [] shows fixed there = absurd shows
    all_at n number at (o ∷ order) (u ∷ units) shows fixed there =
        let next = at + written_unit_size zeros 0 u in
        let first = stands o at in
        let last = stands_of next order units in
        let rest : UnitsStand n units next = subst (λ (s : ℕ). UnitsStand n units (at + s)) (size_len n zeros at 0 u fixed.0) there.1 in
        let many : number + length o.lines ≡ number + length (places_of first) = omega (arith, stands_many o at, length-map first (λ (s : Stand). s.at)) in
        subst (CopiesAt n key number) (sym (map-append (λ (s : Stand). s.at) first last))
        (copies_append n key number (places_of first) (places_of last) (copies_at key number o u shows.0 fixed.0 n at there.0)
        (subst (λ (k : ℕ). CopiesAt n key k (places_of last)) many (all_at n (number + length o.lines) next order units shows.1 fixed.1 rest)))

    pub all_many : (number at : ℕ) (order : List UnitLines) (units : List (DwUnit K)) → ShowUnits key number order units → length (places_of (stands_of at order units)) ≡ line_count order
    unfolding stands_of
    all_many number at [] units shows = refl
    all_many number at (o ∷ order) [] shows = absurd shows
    all_many number at (o ∷ order) (u ∷ units) shows =
        let next = at + written_unit_size zeros 0 u in
        let first = stands o at in
        let last = stands_of next order units in
        let whole = ap (λ (w : List ℕ). length w) (map-append (λ (s : Stand). s.at) first last) in
        omega (
          arith,
          whole,
          length-append (places_of first) (places_of last),
          length-map first (λ (s : Stand). s.at),
          stands_many o at,
          all_many (number + length o.lines) next order units shows.1,
          sum_by-cons (λ (x : UnitLines). length x.lines) o order,
        )

  -- ---- where units begin and end

  pub starts_are : (n : Numbering K) (at : ℕ) (tables : List (List ℕ)) (units : List (DwUnit K)) → Each FixedUnit units → UnitsStand n units at
      → map (λ (o : LaidUnit). o.at) (outs_of at tables units) ≡ map (λ (u : DwUnit K). n.place u.at) units
  unfolding outs_of
  starts_are n at tables [] fixed there = refl
  starts_are n at tables (u ∷ units) fixed there =
      let next = at + written_unit_size zeros 0 u in
      let rest : UnitsStand n units next = subst (λ (s : ℕ). UnitsStand n units (at + s)) (size_len n zeros at 0 u fixed.0) there.1 in
      let more = starts_are n next (with_table tables (abbrevs_of u)) units fixed.1 rest in
      (λ i. sym there.0.unit i ∷ more i)

  pub end_is : (n : Numbering K) (at : ℕ) (all : List (List ℕ)) (units : List (DwUnit K)) → Each FixedUnit units → end_of at units ≡ at + length (units_bytes n all units)
  unfolding end_of units_bytes
  end_is n at all [] fixed = omega arith
  end_is n at all (u ∷ units) fixed =
      let bytes = unit_bytes n (table_offset all u) (n.place u.at) u in
      let len : length bytes ≡ written_unit_size zeros 0 u = unit_len n (n.place u.at) (table_offset all u) u ∙ size_len n zeros (n.place u.at) 0 u fixed.0 in
      omega (arith, end_is n (at + written_unit_size zeros 0 u) all units fixed.1, len, length-append bytes (units_bytes n all units))

  -- ---- the bytes

  module _ (key : ℕ → K) (n : Numbering K) (made : Made) (count : ℕ) (all : List (List ℕ)) (places : (i : ℕ) → i < count → slice_index made.places i ≡ n.place (key i)) where
    kind_agrees : (begin : ℕ) (s : NewKind) → KindRefers count s → KindAgrees key n (numbers_of made begin) s
    kind_agrees begin Compile refers = tt
    kind_agrees begin (OfType t main) refers = sym (places main refers)

    pub units_written : (number at : ℕ) (tables : List (List ℕ)) (order : List UnitLines) (units : List (DwUnit K)) (old : List LaidUnit) (done out : List ℕ) (before copies begin : ℕ)
        → made.units ≡ old ++ outs_of at tables units → length old ≡ before → made.codes ≡ done ++ codes_of (stands_of at order units) → length done ≡ copies
        → Each (UnitRefers count) order → ShowUnits key number order units → Each FixedUnit units → UnitsStand n units at → Grown (tables_of tables units) all
        → (fold with_written (writing_with made out before copies begin) order).out ≡ out ++ units_bytes n all units
    unfolding outs_of stands_of tables_of units_bytes
    units_written number at tables [] [] old done out before copies begin laid many codes same refer shows fixed there grown = sym (append-nil out)
    units_written number at tables [] (u ∷ units) old done out before copies begin laid many codes same refer shows fixed there grown = absurd shows
    units_written number at tables (o ∷ order) [] old done out before copies begin laid many codes same refer shows fixed there grown = absurd shows
    units_written number at tables (o ∷ order) (u ∷ units) old done out before copies begin laid many codes same refer shows fixed there grown =
        let t = abbrevs_of u in
        let more = with_table tables t in
        let next = at + written_unit_size zeros 0 u in
        let unit = out_unit u at (offset_in tables u) in
        let others = outs_of next more units in
        let own = codes_of (stands o at) in
        let last = codes_of (stands_of next order units) in
        let m = numbers_of made at in
        let head = header_page m o.kind unit in
        let page = entries_page own (map (line_call m) o.lines) in
        let first : before - before ≡ 0 = omega arith in
        let here : unit_at made before ≡ unit =
        ap (λ (us : List LaidUnit). slice_index_or us before (record { at = 0; end = 0; table = 0 })) laid
        ∙ get_or-append_right old (unit ∷ others) before before (record { at = 0; end = 0; table = 0 }) many (omega arith)
        ∙ ap (λ (j : ℕ). slice_index_or (unit ∷ others) j (record { at = 0; end = 0; table = 0 })) first in
        let split : made.codes ≡ done ++ (own ++ last) = codes ∙ ap (λ (w : List ℕ). done ++ w) (map-append (λ (s : Stand). s.code) (stands o at) (stands_of next order units)) in
        let long : length own ≡ length o.lines = length-map (stands o at) (λ (s : Stand). s.code) ∙ stands_many o at in
        let laid_next : made.units ≡ (old ++ unit ∷ []) ++ others = laid ∙ sym (append_assoc old (unit ∷ []) others) in
        let many_next : length (old ++ unit ∷ []) ≡ before + 1 = omega (arith, many, length-append old (unit ∷ [])) in
        let codes_next : made.codes ≡ (done ++ own) ++ last = split ∙ sym (append_assoc done own last) in
        let same_next : length (done ++ own) ≡ copies + length o.lines = omega (arith, same, long, length-append done own) in
        let rest : UnitsStand n units next = subst (λ (s : ℕ). UnitsStand n units (at + s)) (size_len n zeros at 0 u fixed.0) there.1 in
        let one_grown : Grown more all = Grown-then more (tables_of more units) all (tables_have units more).1 grown in
        let agree = lines_agree key n m count places o.lines refer.0.lines in
        let one = page_is key number o u shows.0 fixed.0 n m (offset_in tables u) agree (kind_agrees at o.kind refer.0.kind) in
        let offset : offset_in tables u ≡ table_offset all u = ap or_zero (offset_is tables all t one_grown) in
        let bytes = units_bytes n all units in
        ap (λ (x : LaidUnit). (fold with_written (fold with_entry (writing_with made (out ++ header_page (numbers_of made x.at) o.kind x) (before + 1) copies x.at) o.lines) order).out) here
        ∙ ap (λ (w : Writing). (fold with_written w order).out) (lines_written made (before + 1) at o.lines done own last (out ++ head) copies split same long)
        ∙ units_written (number + length o.lines) next more order units (old ++ unit ∷ []) (done ++ own) (out ++ head ++ page) (before + 1) (copies + length o.lines) at laid_next many_next codes_next
        same_next refer.1 shows.1 fixed.1 rest grown
        ∙ append_assoc (out ++ head) page bytes
        ∙ append_assoc out head (page ++ bytes)
        ∙ ap (λ (w : List ℕ). out ++ w) (sym (append_assoc head page bytes))
        ∙ (λ i. out ++ (one i ++ bytes))
        ∙ (λ i. out ++ (unit_bytes n (offset i) (sym there.0.unit i) u ++ bytes))
