-- The paths of the files that an entry numbers are those that it means.
use Rattle.std.proofs.Common.{◌≡◌, ℕ, List, [], Option, None, Some, slice_get, refl, sym, ap, subst, ◌∙◌, arith}
use Rattle.std.specs.List.{flat_map}
use Rattle.std.specs.Option.{option_map_or}
use Rattle.std.proofs.lemmas.Option.{get_or_from_slice_get}
use Rattle.dwz_def_reading.specs.Entries.{RawAttr}
use Rattle.dwz_def_reading.specs.Lists.{In}
use Rattle.dwz_def_reading.specs.Units.{RawUnit}
use Rattle.dwz_def_reading.proofs.ListFacts.{got_below, got_there}
use Rattle.dwz_def_reading.specs.Documents.{Node, node_map}
use Rattle.dwz_def_reading.specs.Files.{around_of}
use Rattle.dwz_def_reading.specs.LineTables.{FileTable}
use Rattle.dwz_def_reading.specs.Meanings.{MeaningContext, scope_of}
use Rattle.dwz_def_tops.proofs.Members.{each_of}
use Rattle.dwz_graph.proofs.TreeLemmas.{node_attrs}
use Rattle.dwz_unit.specs.Rows.{EntryRow, rows_of, units_of as raw_units}
use Rattle.dwz_graph.specs.Named.{entries_of}
use Rattle.dwz_graph.specs.Parts.{HasLine}
use Rattle.dwz_graph.specs.declared.file.File.{File}
use Rattle.dwz_graph.specs.Index.{Index}
use Rattle.dwz_label_entries.specs.Plain.{KnowsLine}
use Rattle.dwz_label_entries.proofs.AttrsLemmas.{entry_in}
use Rattle.dwz_layout.specs.declared.known.EntryTable.{EntryTable}
use Rattle.dwz_layout.specs.declared.walk.Origin.TheVariants.{Read as OfRow}
use Rattle.dwz_layout.specs.Entries.{row}
use Rattle.dwz_law_layout.specs.Knows.{IsRead}
use Rattle.dwz_law_layout.specs.Beside.{Alone}
use Rattle.dwz_law_layout.specs.Facts.{HasFile, RunFacts, file_read}
use Rattle.dwz_encode_common.specs.Gathered.{path_said}
use Rattle.dwz_encode_common.specs.Paths.{line_of, origin_paths, path_read, row_paths}
use Rattle.dwz_encode_common.proofs.AttrsSay.{attrs_say}
use Rattle.dwz_encode_common.proofs.PartsSay.{Agree}
use Rattle.dwz_encode_common.proofs.ValuePaths.{path_given, sibling_none}

-- the line table is known for each value of an entry of the unit
pub line_knows : (s : MeaningContext ℕ) (tables : List FileTable) (a : RawAttr) (line : Option ℕ) (u : RawUnit) (r : EntryRow) → s ≡ scope_of s.around u
    → HasLine s.around u tables line → In r.entry (entries_of u) → In a r.entry.attrs → KnowsLine s a tables line
line_knows s tables a None u r is has there inside =
    subst (λ (w : MeaningContext ℕ). KnowsLine w a tables None) (sym is) (λ file. has r.entry a there inside file)
line_knows s tables a (Some line) u r is has there inside = subst (λ (w : MeaningContext ℕ). KnowsLine w a tables (Some line)) (sym is) has

module _ (f : RunFacts Alone) (n : ℕ) (bytes : List ℕ) (x : File) (index : Index) (h : HasFile f n bytes x index) where
  abbrev raw : List RawUnit
  raw = raw_units x.units

  pub row_says : (i : ℕ) (r : EntryRow) (d : Node ℕ) → IsRead (file_read f n bytes x) i r d
      → origin_paths f.files (OfRow (row n i)) ≡ flat_map path_said (node_map (file_read f n bytes x).after d).attrs
  row_says i r d read =
      let after = (file_read f n bytes x).after in
      let tables = x.resolved.tables.items in
      let lines = h.read.read.lines in
      let s : MeaningContext ℕ = scope_of (around_of bytes raw) read.unit in
      let many = lines.many in
      let low = got_below raw r.unit read.unit read.is_unit in
      let line = got_there x.resolved.lines.items r.unit (omega arith) in
      let has = lines.line r.unit read.unit line.0 read.is_unit line.1 in
      let there = entry_in raw i r.unit r read.unit read.found refl read.is_unit in
      let own : line_of x r.unit ≡ line.0 = get_or_from_slice_get x.resolved.lines.items r.unit line.0 _ line.1 in
      ap (λ (o : Option File). option_map_or
      (λ (w : File). option_map_or (row_paths w) (slice_get (rows_of (raw_units w.units)) i) []) o []) h.file
      ∙ ap (λ (o : Option EntryRow). option_map_or (row_paths x) o []) read.found
      ∙ ap (λ (o : Option ℕ). flat_map (path_read tables o) r.entry.attrs) own
      ∙ attrs_say s (path_read tables line.0) path_said after (sibling_none tables line.0) (λ a. In a r.entry.attrs)
      (λ a v inside other means. path_given s a v tables line.0 (line_knows s tables a line.0 read.unit r refl has there inside) means)
      r.entry.attrs (each_of (λ a. In a r.entry.attrs) r.entry.attrs (λ a is. is)) d.attrs (node_attrs s r.entry d read.means).0

pub paths_agree : (f : RunFacts Alone) (k : EntryTable) → Agree f k (origin_paths f.files) path_said
paths_agree f k = record {
  rows = λ n bytes x index h i r d read. row_says f n bytes x index h i r d read;
  names = λ n bytes x index h chain space i r d text at read is. refl;
  roots = λ place. refl;
  line = refl;
}
