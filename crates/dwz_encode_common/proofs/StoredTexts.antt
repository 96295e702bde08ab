-- The texts that an entry stores, and those that it gives by the lists, are those that it means; so is the name of a space.
use Rattle.std.proofs.Common.{◌≡◌, ℕ, List, [], Option, Some, slice_get, sym, ap, ◌∙◌, arith}
use Rattle.std.specs.List.{flat_map}
use Rattle.std.specs.Option.{option_and_then, option_map_or}
use Rattle.dwz_def_reading.specs.Units.{RawUnit}
use Rattle.dwz_def_reading.specs.Documents.{Attr, Node, Text, attr_map, node_map, only}
use Rattle.dwz_def_reading.specs.Files.{around_of, no_files_before, sources_of}
use Rattle.dwz_def_reading.specs.Meanings.{MeaningContext, Sources, scope_of, str_offsets_base}
use Rattle.dwz_def_reading.specs.Classes.{class_of}
use Rattle.dwz_def_reading.specs.Meant.{attr_with}
use Rattle.dwz_def_tops.proofs.Members.{each_of}
use Rattle.dwz_def_tops.specs.Spaces.{space_text}
use Rattle.dwz_def_tops.specs.Spaces as spaces
use Rattle.dwz_def_tops.specs.Spots.{EntryName, name_by, name_of}
use Rattle.dwz_graph.proofs.TreeLemmas.{node_attrs}
use Rattle.dwz_unit.specs.Rows.{EntryRow, Source, rows_of, units_of as raw_units}
use Rattle.dwz_graph.specs.declared.file.File.{File}
use Rattle.dwz_graph.specs.Index.{Index}
use Rattle.dwz_graph.specs.EntryCounts.{starts_from}
use Rattle.dwz_layout.specs.declared.known.FileRows.{FileRows}
use Rattle.dwz_layout.specs.declared.known.EntryTable.{EntryTable}
use Rattle.dwz_layout.specs.declared.known.Row.{Row}
use Rattle.dwz_layout.specs.declared.walk.Origin.TheVariants.{Chained, Read as OfRow}
use Rattle.dwz_layout.specs.Entries.{row}
use Rattle.dwz_layout.specs.Known.{row_at, rows_in, space_at}
use Rattle.dwz_law_layout.specs.Knows.{IsRead, name_attr}
use Rattle.dwz_law_layout.proofs.NameFits.{has_name}
use Rattle.dwz_law_layout.specs.Beside.{Beside}
use Rattle.dwz_law_layout.specs.Facts.{HasFile, RunFacts, file_read}
use Rattle.dwz_law_layout.specs.Listed.{AreListed, TextsAt}
use Rattle.dwz_law_layout.proofs.Walks.{RowsAt, rows_at}
use Rattle.dwz_law_layout.proofs.FilesFound.{bytes_there}
use Rattle.dwz_encode_common.specs.Gathered.{text_said}
use Rattle.dwz_encode_common.specs.Stored.{by_row, name_read, origin_texts, row_name, row_texts, slots_base, slots_base_at, text_read, units_in}
use Rattle.dwz_encode_common.proofs.AttrsSay.{attrs_say}
use Rattle.dwz_encode_common.proofs.FirstNames.{first_found}
use Rattle.dwz_encode_common.proofs.ValueTexts.{plain_text, sibling_none, text_same, value_gives}

module _ {beside : Beside} (f : RunFacts beside) (n : ℕ) (bytes : List ℕ) (x : File) (i : ℕ) (r : EntryRow) (d : Node ℕ)
    (read : IsRead (file_read f n bytes x) i r d) where
  abbrev raw : List RawUnit
  raw = raw_units x.units

  abbrev s : MeaningContext ℕ
  s = scope_of (around_of bytes raw) read.unit

  base_is : slots_base_at raw r.unit ≡ str_offsets_base s
  base_is = ap (option_and_then slots_base) read.is_unit

  -- what its file stores
  pub row_stored : row_texts (sources_of bytes) raw r ≡ flat_map text_said (node_map (file_read f n bytes x).after d).attrs
  row_stored =
      (λ j. flat_map (text_read (sources_of bytes) (base_is j)) r.entry.attrs)
      ∙ attrs_say s (text_read (sources_of bytes) (str_offsets_base s)) text_said (file_read f n bytes x).after (sibling_none s)
      (λ a. Unit {0}) (λ a v good. value_gives s (file_read f n bytes x).after a v) r.entry.attrs
      (each_of (λ a. Unit {0}) r.entry.attrs (λ a is. tt)) d.attrs (node_attrs s r.entry d read.means).0

  pub name_stored : (text : List ℕ) → space_text d ≡ Some text
      → row_name (sources_of bytes) raw r ≡ text_said (name_attr (name_of text d))
  name_stored text is =
      let after = (file_read f n bytes x).after in
      let name = has_name d text is in
      let first = first_found s r.entry.attrs d.attrs name.b (node_attrs s r.entry d read.means).0 name.found in
      let other : first.a.pair.name ≡ 0x01 → ⊥ = λ e. omega (arith, first.named, e) in
      let plain : spaces.text_of_plain first.v.plain ≡ Some text = ap (λ (b : Attr ℕ). spaces.text_of_plain b.value.plain) first.is ∙ name.is in
      let b : Attr EntryName = record { name = 0x03; form = first.a.pair.form; raw = name.b.raw; value = only (Text text) } in
      let named : name_attr (name_of text d) ≡ record { name = 0x03; form = name.b.form; raw = name.b.raw; value = only (Text text) } =
      ap (λ (o : Option (Attr ℕ)). name_attr (name_by text o)) name.found in
      let form : first.a.pair.form ≡ name.b.form = ap (λ (w : Attr ℕ). w.form) first.is in
      let same : b ≡ name_attr (name_of text d) =
      (λ j. let w : Attr EntryName = record { name = 0x03; form = form j; raw = name.b.raw; value = only (Text text) } in w) ∙ sym named in
      (λ j. name_read (sources_of bytes) (base_is j) (first.first j))
      ∙ value_gives s after first.a first.v other first.means
      ∙ text_same (class_of first.a.pair.form) (attr_map after (attr_with first.a first.v)) b (plain_text first.v.plain text plain)
      ∙ ap text_said same

-- ---- in the lists

module _ {beside : Beside} (f : RunFacts beside) (t : TextsAt) (k : EntryTable) (listed : AreListed f t k) (n : ℕ) (bytes : List ℕ) (x : File) (index : Index)
    (h : HasFile f n bytes x index) where
  abbrev own_units : List RawUnit
  own_units = raw_units x.units

  has : RowsAt f x index (starts_from 0 f.indexes) k.files.items n
  has = rows_at f f.files f.indexes (starts_from 0 f.indexes) t.files k.files.items listed.rows n x index h.file h.index_is

  units_are : units_in k n ≡ own_units
  units_are =
      ap (λ (o : Option FileRows). option_map_or (λ (r : FileRows). raw_units r.units.now) o []) has.rows_are
      ∙ ap raw_units has.listed.units

  rows_are : rows_in k n ≡ rows_of own_units
  rows_are =
      ap (λ (o : Option FileRows). option_map_or (λ (r : FileRows). rows_of (raw_units r.units.now)) o []) has.rows_are
      ∙ ap (λ (w : Source). rows_of (raw_units w)) has.listed.units

  module _ (i : ℕ) (r : EntryRow) (d : Node ℕ) (read : IsRead (file_read f n bytes x) i r d) where
    -- what an entry gives is made of its file
    row_gives : (give : Sources → List RawUnit → EntryRow → List (List ℕ)) → by_row f.contents k (row n i) give ≡ give (sources_of bytes) own_units r
    row_gives give =
        let there = bytes_there no_files_before f.contents n h.read.limits bytes own_units h.read.read.doc h.read.there in
        let at : row_at k (row n i) ≡ Some r = ap (λ (w : List EntryRow). slice_get w i) rows_are ∙ read.found in
        ap (λ (o : Option (List ℕ)). option_map_or
        (λ b. option_map_or (give (sources_of b) (units_in k n)) (row_at k (row n i)) []) o []) there
        ∙ (λ j. option_map_or (give (sources_of bytes) (units_are j)) (at j) [])

    pub row_says : origin_texts f.contents k (OfRow (row n i)) ≡ flat_map text_said (node_map (file_read f n bytes x).after d).attrs
    row_says = row_gives row_texts ∙ row_stored f n bytes x i r d read

    pub name_says : (chain space : ℕ) (text : List ℕ) → (space_at k space).row ≡ row n i → space_text d ≡ Some text
        → origin_texts f.contents k (Chained chain space) ≡ text_said (name_attr (name_of text d))
    name_says chain space text at is =
        ap (λ (q : Row). by_row f.contents k q row_name) at ∙ row_gives row_name ∙ name_stored f n bytes x i r d read text is
