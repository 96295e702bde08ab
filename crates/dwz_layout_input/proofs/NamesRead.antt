-- The names of the spaces of a file, as they are read.
use Rattle.std.proofs.Common.{◌≡◌, ℕ, zero, suc, ◌+◌, ◌<◌, ◌^◌, All, List, [], ◌∷◌, length, Option, Some, None, Ok, slice_get, refl, sym, ap, subst, ◌∙◌, arith}
use Rattle.dwz_def_reading.specs.Units.{RawUnit, entries_in}
use Rattle.dwz_def_reading.proofs.ListFacts.{got_below, got_map}
use Rattle.dwz_def_reading.specs.Documents.{Attr, Doc, Node, first_named, node_map}
use Rattle.dwz_def_reading.specs.Files.{around_of}
use Rattle.dwz_def_reading.specs.Meanings.{MeaningContext, Sources, alone}
use Rattle.dwz_def_reading.specs.Meant.{node_meaning}
use Rattle.dwz_def_reading.proofs.MeaningUnits.{node_agrees}
use Rattle.dwz_def_tops.specs.Spaces.{space_text}
use Rattle.dwz_def_tops.proofs.SpaceLemmas.{text_map}
use Rattle.dwz_def_tops.specs.Spots.{EntryName, name_by, units_of}
use Rattle.dwz_graph.specs.declared.file.File.{File}
use Rattle.dwz_graph.specs.Files.{AreKept, docs_of}
use Rattle.dwz_graph.specs.declared.index.SpaceEntry.{SpaceEntry}
use Rattle.dwz_graph.specs.declared.index.Starts.{Starts}
use Rattle.dwz_graph.specs.Index.{Index}
use Rattle.dwz_graph.specs.Indexed.{AreIndexes}
use Rattle.dwz_layout_order.specs.Shown.{Pairs, text_of}
use Rattle.dwz_layout_order.specs.Spaces.{name_by as named_by, name_in, said_of, spaces_of}
use Rattle.dwz_graph.specs.Spaces.{IsOwn}
use Rattle.dwz_graph.specs.Here.{Here}
use Rattle.dwz_graph.specs.InputSections.{InputSections}
use Rattle.dwz_graph.specs.Resolved.{IsHere, around, scope_in}
use Rattle.dwz_unit.proofs.RowsFound.{row_is, rows-length}
use Rattle.dwz_unit.specs.declared.rows.RawEntry.{RawEntry as EntryOfCode}
use Rattle.dwz_unit.specs.Rows.{EntryRow, rows_of, shown_entries, units_of as raw_units}
use Rattle.dwz_graph.specs.Across.{IsFileAmong, IsPart, file_units, name_at, starts_at}
use Rattle.dwz_graph.proofs.FileCounts.{next_starts_are, starts_are}
use Rattle.dwz_graph.proofs.FileWalk.{is_among}
use Rattle.dwz_graph.proofs.ListGets.{part_get}
use Rattle.dwz_layout_input.specs.Names.{IsSpaceNamed, Reads}
use Rattle.dwz_layout_input.proofs.SpaceCounts.{spaces_few, spaces_part, starts_low}
use Rattle.dwz_layout_input.proofs.SpaceEntries.{IsSpaceOf, file_spaces, said_spaces, spaces_named}

-- ---- what stands beside one of a list

pub beside_first : {X Y : Type 0} (R : X → Y → Type 0) (xs : List X) (ys : List Y) → Pairs R xs ys → (k : ℕ) (x : X) → slice_get xs k ≡ Some x → (y : Y) × (slice_get ys k ≡ Some y) × R x y
beside_first R [] ys h k x e = absurd cc
beside_first R (z ∷ xs) [] h k x e = absurd h
beside_first R (z ∷ xs) (y ∷ ys) h zero x e = (y, refl, (let same : z ≡ x = cc in subst (λ (w : _). R w y) same h.0))
beside_first R (z ∷ xs) (y ∷ ys) h (suc k) x e = beside_first R xs ys h.1 k x e

-- ---- of a file

module _ (contents : List (List ℕ)) (k : ℕ) (bytes : List ℕ) (f : File) (x : Index) (is : IsFileAmong contents k bytes f x) where
  abbrev raw : List RawUnit
  raw = raw_units f.units

  abbrev doc : Doc ℕ
  doc = is.kept.read.doc

  abbrev name : ℕ → EntryName
  name = name_at x.starts doc

  pub pairs : Pairs (IsSpaceOf raw (around_of bytes raw)) x.spaces (said_spaces doc.units)
  pairs = subst (λ (w : List SpaceEntry). Pairs (IsSpaceOf raw (around_of bytes raw)) w (said_spaces doc.units)) (sym is.index.tops.spaces_are)
      (file_spaces is.kept.limits bytes raw doc x.starts is.kept.read.means)

  pub entries_there : All (λ e. e.entry < entries_in raw) x.spaces
  entries_there = by x.spaces (said_spaces doc.units) pairs where
    by : (xs : List SpaceEntry) (ds : List (Node ℕ)) → Pairs (IsSpaceOf raw (around_of bytes raw)) xs ds → All (λ e. e.entry < entries_in raw) xs
    by [] ds h j d lt = absurd (omega arith)
    by (e ∷ xs) [] h j d lt = absurd h
    by (e ∷ xs) (n ∷ ds) h zero d lt = (let there = got_below (rows_of raw) e.entry h.0.row h.0.found in let many = rows-length raw in omega arith)
    by (e ∷ xs) (n ∷ ds) h (suc j) d lt = by xs ds h.1 j d (omega arith)

  -- the node of a space among those of all
  pub node_there : IsPart (spaces_of (units_of (docs_of contents))) x.starts.space (spaces_of (file_units x.starts k doc)) → (j : ℕ) (e : SpaceEntry) → slice_get x.spaces j ≡ Some e
      → (d : Node ℕ) × IsSpaceOf raw (around_of bytes raw) e d × (slice_get (spaces_of (units_of (docs_of contents))) (x.starts.space + j) ≡ Some (node_map name d))
  node_there part j e got =
      let r = beside_first (IsSpaceOf raw (around_of bytes raw)) x.spaces (said_spaces doc.units) pairs j e got in
      let own : slice_get (spaces_of (file_units x.starts k doc)) j ≡ Some (node_map name r.0) = ap (λ (w : List (Node EntryName)). slice_get w j) (spaces_named k name doc.units)
      ∙ got_map (node_map name) (said_spaces doc.units) j r.0 r.1 in
      (r.0, r.2, part_get (spaces_of (units_of (docs_of contents))) (spaces_of (file_units x.starts k doc)) x.starts.space j (node_map name r.0) part own)

  name_text : (text : List ℕ) (o : Option (Attr EntryName)) → text_of (name_by text o) ≡ text
  name_text text None = refl
  name_text text (Some a) = refl

  pub reads_names : IsPart (spaces_of (units_of (docs_of contents))) x.starts.space (spaces_of (file_units x.starts k doc))
      → Reads raw (around f.sections raw) (λ n. text_of (said_of (units_of (docs_of contents)) n)) x.starts.space x.spaces
  reads_names part j e got =
      let r = node_there part j e got in
      let h = r.1 in
      let node = node_map name r.0 in
      let said : text_of (said_of (units_of (docs_of contents)) (x.starts.space + j)) ≡ h.text =
      ap (λ (o : Option (Node EntryName)). text_of (name_in o)) r.2 ∙ ap (λ (o : Option (List ℕ)). text_of (named_by node o)) (text_map name r.0 ∙ h.is_space)
      ∙ name_text h.text (first_named 0x03 node.attrs) in
      let one : IsSpaceNamed raw (around_of bytes raw) e.entry h.text = record { u = h.u; row = h.row; d = r.0; found = h.found; is_unit = h.is_unit; means = h.means; is_space = h.is_space } in
      subst (λ (w : List ℕ). IsSpaceNamed raw (around f.sections raw) e.entry w) (sym said)
      (subst (λ (w : Sources). IsSpaceNamed raw (alone w raw) e.entry h.text) (sym is.kept.read.sections) one)

-- ---- units of entries

-- an entry that is shown is of the unit of its row
pub unit_shown : (raw : List RawUnit) (i : ℕ) (row : EntryRow) (r : EntryOfCode) → slice_get (rows_of raw) i ≡ Some row → slice_get (shown_entries raw) i ≡ Some r → row.unit ≡ r.unit
unit_shown raw i row r found shown = ap (λ (w : EntryOfCode). w.unit) (row_is raw i r row shown found)

-- the name that is read
pub name_read : (sections : InputSections) (raw : List RawUnit) (e : ℕ) (text : List ℕ) (h : Here) (named : IsSpaceNamed raw (around sections raw) e text) → IsHere raw named.u h → (read : List ℕ)
    → ((s : MeaningContext ℕ) (row : EntryRow) (d : Node ℕ) (text : List ℕ) → IsOwn sections h.offsets s → slice_get (rows_of raw) e ≡ Some row → node_meaning s row.entry ≡ Ok d
    → space_text d ≡ Some text
    → read ≡ text) → read ≡ text
name_read sections raw e text h named at read reads =
    let s = scope_in sections raw named.u in
    reads s named.row named.d text (record { sources = refl; common = refl; base_is = at.base }) named.found (((node_agrees s named.row.entry).ok named.d).1 named.means) named.is_space

-- ---- file by file

module _ (contents : List (List ℕ)) (files : List File) (indexes : List Index) (kept : AreKept contents files) (all : AreIndexes (docs_of contents) indexes) (k : ℕ) (f : File) (x : Index)
    (got_f : slice_get files k ≡ Some f) (got_x : slice_get indexes k ≡ Some x) where
  pub begins : x.starts ≡ starts_at (docs_of contents) indexes k
  begins = (starts_are contents files indexes k f x kept all got_f got_x).0

  pub more_spaces : (starts_at (docs_of contents) indexes (k + 1)).space ≡ (starts_at (docs_of contents) indexes k).space + length x.spaces
  more_spaces = (next_starts_are (docs_of contents) indexes all k x got_x).1

  pub room_for : (starts_at (docs_of contents) indexes k).space + length x.spaces < 2 ^ 32
  room_for = (let few = spaces_few contents files indexes kept all in let next = more_spaces in let low = starts_low (docs_of contents) indexes all (k + 1) in omega arith)

  pub reads_there : Reads (raw_units f.units) (around f.sections (raw_units f.units)) (λ n. text_of (said_of (units_of (docs_of contents)) n)) (starts_at (docs_of contents) indexes k).space x.spaces
  reads_there =
      let a = is_among contents files indexes k f x kept all got_f got_x in
      subst (λ (s : Starts). Reads (raw_units f.units) (around f.sections (raw_units f.units)) (λ n. text_of (said_of (units_of (docs_of contents)) n)) s.space x.spaces) begins
      (reads_names contents k a.bytes f x a.is (spaces_part contents k a.bytes f x indexes a.is all begins))

  pub all_there : All (λ e. e.entry < entries_in (raw_units f.units)) x.spaces
  all_there = (let a = is_among contents files indexes k f x kept all got_f got_x in entries_there contents k a.bytes f x a.is)
