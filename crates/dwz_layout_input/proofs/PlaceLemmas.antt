-- Where a top stands: its file by the rows, its entry by the index; and what is said there of its unit and of its entries.
use Rattle.std.proofs.Common.{◌≡◌, ℕ, zero, suc, ◌+◌, ◌-◌, ◌<◌, ◌≤◌, ◌&&◌, Bool, true, false, List, [], ◌∷◌, ◌++◌, length, map, drop, take, Option, Some, None, slice_get, refl, sym, ap, subst, ◌∙◌}
use Rattle.std.proofs.Common.{arith}
use Rattle.std.specs.Prelude.{nat_lt, slice_range}
use Rattle.std.proofs.lemmas.Bool.{ltb-false}
use Rattle.std.specs.List.{list_any}
use Rattle.std.specs.Option.{is_some}
use Rattle.std.proofs.Math.Seq.{take-append_seam}
use Rattle.dwz_def_reading.specs.Trees.{End, Entry}
use Rattle.dwz_def_reading.specs.Units.{RawUnit, entries_in}
use Rattle.dwz_def_reading.proofs.ListFacts.{get_first, got_below, got_in, got_map, same_got}
use Rattle.dwz_def_reading.specs.Documents.{Attr, Doc, attr_map, first_named, unit_map}
use Rattle.dwz_def_reading.specs.Files.{around_of}
use Rattle.dwz_def_reading.specs.Meanings.{Around, first_raw, scope_of, stmt_list}
use Rattle.dwz_def_reading.proofs.MeaningUnits.{unit_agrees}
use Rattle.dwz_def_tops.specs.Alike.{any_attr}
use Rattle.dwz_def_tops.specs.Spots.{EntryName, FileUnit, Top, in_file, tops_of, units_of}
use Rattle.dwz_def_tops.proofs.TopOrder.{unit_file}
use Rattle.dwz_graph.specs.Rows.{nodes}
use Rattle.dwz_graph.specs.FlatTops.{HasTopOfFile}
use Rattle.dwz_graph.proofs.TreeLemmas.{tree_means}
use Rattle.dwz_graph.specs.declared.file.File.{File}
use Rattle.dwz_graph.specs.Files.{docs_of}
use Rattle.dwz_groups.specs.declared.tops.TopRow.{TopRow}
use Rattle.dwz_groups.specs.declared.tops.Tops.{Tops}
use Rattle.dwz_graph.specs.declared.index.TopEntry.{TopEntry}
use Rattle.dwz_graph.specs.Index.{Index}
use Rattle.dwz_layout.specs.declared.known.Row.{Row}
use Rattle.dwz_plan.specs.Shows.{ShowsRows}
use Rattle.dwz_unit.proofs.RowsFound.{row_there as row_at}
use Rattle.dwz_graph.specs.Standing.{StandsAt}
use Rattle.dwz_move.proofs.TreeBinds.{any_top}
use Rattle.dwz_unit.specs.declared.rows.RawEntry.{RawEntry}
use Rattle.dwz_unit.specs.Rows.{EntryRow, entry_shown, rows_below, rows_of, shown_entries, units_of as raw_units}
use Rattle.dwz_unit.proofs.RowLemmas.{shown-length}
use Rattle.dwz_graph.specs.Across.{IsFileAmong, IsTopOf, file_units, name_at}
use Rattle.dwz_layout_order.specs.Behind.{StandFirst}
use Rattle.dwz_graph.proofs.FileCounts.{found}
use Rattle.dwz_graph.proofs.FileEntries.{gives_top}
use Rattle.dwz_graph.proofs.FileWalk.{is_among}
use Rattle.dwz_graph.proofs.ListGets.{part_get}
use Rattle.dwz_layout_input.specs.Roots.{numbers_file, path_in, root_line}
use Rattle.dwz_layout_input.specs.Steps.{IsPlaced, KnowsTops, LineOf, SaysLine}
use Rattle.dwz_layout_input.proofs.LineLemmas.{root_got, root_says, root_some}
use Rattle.dwz_layout_input.proofs.PathLemmas.{attr_path, rows_path}

-- ---- the file, by the rows

row_got : (units : List (FileUnit EntryName)) (rows : List TopRow) (tops : List Top) (n : ℕ) (t : Top) → ShowsRows units rows tops → slice_get tops n ≡ Some t
    → (row : TopRow) × (slice_get rows n ≡ Some row) × (row.unit ≡ t.unit)
row_got units [] [] n t h e = absurd cc
row_got units [] (u ∷ tops) n t h e = absurd h
row_got units (row ∷ rows) [] n t h e = absurd h
row_got units (row ∷ rows) (u ∷ tops) zero t h e = (row, refl, h.0.unit ∙ ap (λ (w : Top). w.unit) (let same : u ≡ t = cc in same))
row_got units (row ∷ rows) (u ∷ tops) (suc n) t h e = row_got units rows tops n t h.1 e

pub row_there : (units : List (FileUnit EntryName)) (tops : Tops) (n : ℕ) (t : Top) → StandFirst units tops → slice_get (tops_of units) n ≡ Some t
    → (row : TopRow) × (slice_get tops.rows n ≡ Some row) × (slice_get tops.files_of_units row.unit ≡ Some t.file)
row_there units tops n t h e =
    let r = row_got units h.own.rows (tops_of units) n t h.shows.rows e in
    let there = got_in (tops_of units) n t e in
    let file = ap (slice_get h.own.files_of_units) r.2 ∙ ap (λ (fs : List ℕ). slice_get fs t.unit) h.shows.files_of_units ∙ unit_file units t there in (
      r.0,
      ap (λ (rs : List TopRow). slice_get rs n) h.rows ∙ get_first h.own.rows h.rows_behind n r.0 r.1,
      ap (λ (fs : List ℕ). slice_get fs r.0.unit) h.files_of_units ∙ get_first h.own.files_of_units h.files_behind r.0.unit t.file file,
    )

-- ---- the entry, by the index

pub record Located (contents : List (List ℕ)) (files : List File) (indexes : List Index) (n : ℕ) (t : Top) (file : ℕ) : Type 0 where
  pub bytes : List ℕ
  pub f : File
  pub x : Index
  pub k : ℕ
  pub e : TopEntry
  pub file_got : slice_get files file ≡ Some f
  pub index_got : slice_get indexes file ≡ Some x
  pub top_got : slice_get x.tops k ≡ Some e
  pub number : n ≡ x.starts.top + k
  pub among : IsFileAmong contents file bytes f x
  pub is : IsTopOf contents file bytes f x among.kept.read.doc k e t

pub located : (contents : List (List ℕ)) (files : List File) (indexes : List Index) (tops : Tops) (n : ℕ) (t : Top) → KnowsTops contents files indexes tops
    → slice_get (tops_of (units_of (docs_of contents))) n ≡ Some t → Located contents files indexes n t t.file
located contents files indexes tops n t h got =
    let all = tops_of (units_of (docs_of contents)) in
    let o = found contents files indexes n h.kept h.indexed (got_below all n t got) in
    let a = is_among contents files indexes o.file o.f o.x h.kept h.indexed o.file_is o.index_is in
    let g = gives_top contents o.file a.bytes o.f o.x a.is o.k o.e o.top_is in
    let here : slice_get all n ≡ Some g.top = ap (slice_get all) o.number ∙ g.top_is.there in
    let same : g.top ≡ t = same_got all n g.top t here got in
    let is_t : IsTopOf contents o.file a.bytes o.f o.x a.is.kept.read.doc o.k o.e t = subst (λ (w : Top). IsTopOf contents o.file a.bytes o.f o.x a.is.kept.read.doc o.k o.e w) same g.top_is in
    let there : Located contents files indexes n t o.file = record {
      bytes = a.bytes;
      f = o.f;
      x = o.x;
      k = o.k;
      e = o.e;
      file_got = o.file_is;
      index_got = o.index_is;
      top_got = o.top_is;
      number = o.number;
      among = a.is;
      is = is_t;
    } in
    subst (Located contents files indexes n t) (sym is_t.file_is) there

-- what the index of its file has
pub in_index : (contents : List (List ℕ)) (files : List File) (indexes : List Index) (n : ℕ) (t : Top) (file : ℕ) → Located contents files indexes n t file → (x : Index)
    → slice_get indexes file ≡ Some x
    → (k : ℕ) × (e : TopEntry) × (slice_get x.tops k ≡ Some e) × (n ≡ x.starts.top + k)
in_index contents files indexes n t file l x got =
    let same : l.x ≡ x = same_got indexes file l.x x l.index_got got in
    (l.k, l.e, ap (λ (w : Index). slice_get w.tops l.k) (sym same) ∙ l.top_got, l.number ∙ ap (λ (w : Index). w.starts.top + l.k) same)

pub placed : (contents : List (List ℕ)) (files : List File) (indexes : List Index) (n : ℕ) (t : Top) (file entry : ℕ) → Located contents files indexes n t file
    → (x : Index) → slice_get indexes file ≡ Some x → ((k : ℕ) (e : TopEntry) → slice_get x.tops k ≡ Some e → n ≡ x.starts.top + k → entry ≡ e.entry)
    → IsPlaced contents files t (record { file = file; entry = entry })
placed contents files indexes n t file entry l x got is =
    let same : l.x ≡ x = same_got indexes file l.x x l.index_got got in
    let entry_is : entry ≡ l.e.entry = is l.k l.e (ap (λ (w : Index). slice_get w.tops l.k) (sym same) ∙ l.top_got) (l.number ∙ ap (λ (w : Index). w.starts.top + l.k) same) in
    record { bytes = l.bytes; f = l.f; x = l.x; k = l.k; e = l.e; got = l.file_got; among = l.among; entry = sym entry_is; is = l.is }

-- ---- what is said there

module _ (contents : List (List ℕ)) (files : List File) (t : Top) (p : Row) (h : IsPlaced contents files t p) where
  abbrev raw : List RawUnit
  raw = raw_units h.f.units

  abbrev doc : Doc ℕ
  doc = h.among.kept.read.doc

  abbrev around : Around ℕ
  around = around_of h.bytes raw

  abbrev name : ℕ → EntryName
  name = name_at h.x.starts doc

  pub within : p.entry < entries_in raw
  within = let low = h.is.within in let same = h.entry in omega arith

  -- where the entry is shown
  module _ (row : EntryRow) (row_is : slice_get (rows_of raw) p.entry ≡ Some row) where
    abbrev r : RawEntry
    r = entry_shown row

    pub shown_here : slice_get (shown_entries raw) p.entry ≡ Some r
    shown_here = got_map entry_shown (rows_of raw) p.entry row row_is

    shown : slice_get (shown_entries raw) h.e.entry ≡ Some r
    shown = ap (slice_get (shown_entries raw)) h.entry ∙ shown_here

    pub stands : StandsAt around name raw doc.units p.file h.x.starts.unit t h.e.entry row.end
    stands = h.is.stands r shown

    pub ends : row.end ≤ entries_in raw
    ends = h.is.ends r shown

    abbrev s : HasTopOfFile around name raw doc.units p.file h.x.starts.unit t
    s = stands.stands

    abbrev rows : List EntryRow
    rows = rows_below (Entry s.top.e s.top.c End) s.n s.top.p

    rows_here : drop p.entry (rows_of raw) ≡ rows ++ s.top.after
    rows_here = ap (λ (k : ℕ). drop k (rows_of raw)) (sym (stands.from ∙ h.entry)) ∙ s.top.stand

    first_row : (xs : List EntryRow) (i : ℕ) (x y : EntryRow) (ys : List EntryRow) → slice_get xs i ≡ Some x → drop i xs ≡ y ∷ ys → x ≡ y
    first_row [] i x y ys e d = absurd cc
    first_row (z ∷ xs) zero x y ys e d = (let a : z ≡ x = cc in let b : z ≡ y = cc in sym a ∙ b)
    first_row (z ∷ xs) (suc i) x y ys e d = first_row xs i x y ys e d

    pub of_unit : row.unit ≡ s.n
    unfolding rows_below
    of_unit = ap (λ (w : EntryRow). w.unit) (first_row (rows_of raw) p.entry row _ _ row_is rows_here)

    pub unit_is : slice_get raw row.unit ≡ Some s.u
    unit_is = ap (slice_get raw) of_unit ∙ s.is_unit

    abbrev u : FileUnit EntryName
    u = in_file p.file (unit_map name s.v)

    unit_there : slice_get (units_of (docs_of contents)) t.unit ≡ Some u
    unit_there =
        let own = got_map (in_file {P = EntryName} p.file) (map (unit_map name) doc.units) s.n (unit_map name s.v) (got_map (unit_map name) doc.units s.n s.v s.is_meant) in
        ap (slice_get (units_of (docs_of contents))) s.number
        ∙ part_get (units_of (docs_of contents)) (file_units h.x.starts p.file doc) h.x.starts.unit s.n u h.among.units own

    root_is : root_line (units_of (docs_of contents)) t ≡ first_named 0x10 (map (attr_map name) s.v.root.attrs)
    root_is = ap (first_named 0x10) (root_got (units_of (docs_of contents)) t.unit u unit_there)

    -- of a line table
    pub says_line : (line : Option ℕ) → LineOf (first_raw 0x10 s.u.root.attrs) line → SaysLine (root_line (units_of (docs_of contents)) t) line
    says_line line l =
        subst (λ (o : Option (Attr EntryName)). SaysLine o line) (sym root_is)
        (root_says (scope_of around s.u) s.u.root.attrs s.v.root.attrs name line (((unit_agrees around s.u).ok s.v).0 s.means).root.attrs l)

    some_line : (line : Option ℕ) → SaysLine (root_line (units_of (docs_of contents)) t) line → is_some line ≡ is_some (stmt_list (scope_of around s.u))
    some_line line l =
        root_some (scope_of around s.u) s.u.root.attrs s.v.root.attrs name line (((unit_agrees around s.u).ok s.v).0 s.means).root.attrs
        (subst (λ (o : Option (Attr EntryName)). SaysLine o line) root_is l)

    part_is : slice_range (rows_of raw) p.entry row.end ≡ rows
    part_is =
        let long = shown-length (Entry s.top.e s.top.c End) s.n s.top.p in
        let to = stands.to in
        let same = h.entry in
        let count : row.end - p.entry ≡ length rows = omega arith in
        ap (λ (n : ℕ). take n (drop p.entry (rows_of raw))) count ∙ ap (take (length rows)) rows_here ∙ take-append_seam rows s.top.after

    -- and of files
    pub says_path : (line : Option ℕ) → SaysLine (root_line (units_of (docs_of contents)) t) line → path_in t ≡ (list_any numbers_file (slice_range (rows_of raw) p.entry row.end) && is_some line)
    says_path line l =
        any_top (any_attr attr_path) name s.top.d s.top.g t s.top.node s.top.below
        ∙ rows_path (scope_of around s.u) rows (nodes (Entry s.top.d s.top.g End)) name
        (tree_means (scope_of around s.u) (Entry s.top.e s.top.c End) (Entry s.top.d s.top.g End) s.n s.top.p s.top.means)
        ∙ (λ i. list_any numbers_file (sym part_is i) && sym (some_line line l) i)

-- ---- a top whose unit has no line table

and_none : (b : Bool) → (b && false) ≡ false
and_none true = refl
and_none false = refl

pub no_path : (contents : List (List ℕ)) (files : List File) (indexes : List Index) (tops : Tops) (n : ℕ) (t : Top) → KnowsTops contents files indexes tops
    → slice_get (tops_of (units_of (docs_of contents))) n ≡ Some t
    → SaysLine (root_line (units_of (docs_of contents)) t) None → path_in t ≡ false
no_path contents files indexes tops n t knows got none =
    let l = located contents files indexes tops n t knows got in
    let p : IsPlaced contents files t (record { file = t.file; entry = l.e.entry }) =
    record { bytes = l.bytes; f = l.f; x = l.x; k = l.k; e = l.e; got = l.file_got; among = l.among; entry = refl; is = l.is } in
    let row = row_at (raw_units l.f.units) l.e.entry (within contents files t (record { file = t.file; entry = l.e.entry }) p) in
    says_path contents files t (record { file = t.file; entry = l.e.entry }) p row.0 row.1 None none
    ∙ and_none (list_any numbers_file (slice_range (rows_of (raw_units l.f.units)) l.e.entry row.0.end))

-- ---- items that are found or not

pub get_none : {X : Type 0} (xs ys : List X) (i : ℕ) (y : X) → xs ≡ ys → false ≡ nat_lt i (length xs) → slice_get ys i ≡ Some y → ⊥
get_none {X} xs ys i y same ge got =
    let low = got_below ys i y got in
    let long = ap (λ (w : List X). length w) same in
    let high = ltb-false i (length xs) (sym ge) in
    omega arith
