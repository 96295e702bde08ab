-- A unit's root stands for itself, so it has its place of the layout, and the unit begins before it.
use Rattle.std.proofs.Common.{◌≡◌, ℕ, ◌+◌, ◌-◌, ◌<◌, List, Some, slice_get, refl, sym, ap, subst, ◌∙◌, arith}
use Rattle.std.specs.Prelude.{slice_index}
use Rattle.std.proofs.lemmas.Option.{get_or_from_slice_get}
use Rattle.dwz_def_reading.specs.Units.{CompileUnit, PartialUnit, RawKind, RawUnit, TypeUnit, entries_in, header_size as raw_header_size}
use Rattle.dwz_def_reading.proofs.ListFacts.{got_below, got_map, got_there, same_got}
use Rattle.dwz_def_reading.specs.Documents.{Compile, Kind, OfType, Partial, kind_map, unit_map}
use Rattle.dwz_def_reading.specs.Files.{around_of}
use Rattle.dwz_def_reading.specs.Meanings.{MeaningContext, MeansKind, MeansUnit, scope_of}
use Rattle.dwz_def_reading.proofs.MeaningUnits.{unit_agrees}
use Rattle.dwz_def_tops.specs.Spots.{EntryName, FileUnit, RootOf, UnitOf, in_file}
use Rattle.dwz_def_tops.specs.Lists.{Nth}
use Rattle.dwz_def_images.specs.Moves.{image_in}
use Rattle.dwz_def_encoding.specs.Writing.{written_header_size}
use Rattle.dwz_def_readback.specs.Files.{name_after}
use Rattle.dwz_unit.specs.Rows.{EntryRow, rows_of, units_of as raw_units}
use Rattle.dwz_graph.specs.Resolved.{place_at, places as entry_places_of}
use Rattle.dwz_unit.proofs.RowsFound.{rows-length}
use Rattle.dwz_graph.specs.declared.file.File.{File}
use Rattle.dwz_graph.specs.Index.{Index}
use Rattle.dwz_graph.specs.declared.index.Starts.{Starts}
use Rattle.dwz_graph.specs.Across.{file_units, name_at}
use Rattle.dwz_graph.proofs.FileEntries.{unit_of}
use Rattle.dwz_graph.specs.EntryCounts.{starts_from}
use Rattle.dwz_graph.specs.AllNames.{all_names}
use Rattle.dwz_layout.specs.declared.known.EntryTable.{EntryTable}
use Rattle.dwz_law_layout.specs.Beside.{Beside}
use Rattle.dwz_law_layout.specs.Facts.{AreFacts, RunFacts, every, move, run, units}
use Rattle.dwz_law_layout.specs.Laid.{places_of}
use Rattle.dwz_law_layout.proofs.FileEntries.{IsHere, here, named, named_every}
use Rattle.dwz_law_layout.proofs.ImagesStand.{old}
use Rattle.dwz_law_layout.specs.Either.{laid_by}
use Rattle.dwz_law_layout.proofs.Either.{roots_by}
use Rattle.dwz_run_files.specs.Spots.{UnitPlacesLaw}
use Rattle.dwz_run_files.proofs.EntryPlaces.{entry_places}
use Rattle.dwz_run_files.proofs.RootRows.{HasRoot, has_root}

-- ---- headers

meant_size : (s : MeaningContext ℕ) (k : RawKind) (kind : Kind ℕ) → MeansKind s k kind → written_header_size kind ≡ raw_header_size k
meant_size s CompileUnit kind is = ap written_header_size is
meant_size s PartialUnit kind is = ap written_header_size is
meant_size s (TypeUnit signature type_offset) kind is = ap written_header_size is.1

mapped_size : (g : ℕ → EntryName) (kind : Kind ℕ) → written_header_size (kind_map g kind) ≡ written_header_size kind
mapped_size g Compile = refl
mapped_size g (OfType signature main) = refl
mapped_size g Partial = refl

-- ---- roots

module _ {beside : Beside} (f : RunFacts beside) (k : EntryTable) (facts : AreFacts f) (n : ℕ) (x : File) (index : Index) (o : IsHere f k n x index) where
  abbrev raw : List RawUnit
  raw = raw_units x.units

  -- the unit with a number: what it means, and the row of its root
  record IsUnit (j : ℕ) (u : RawUnit) : Type 0 where
    pub unit : FileUnit EntryName
    pub nth : Nth 0 (units f) (index.starts.unit + j) unit
    pub size : written_header_size unit.unit.kind ≡ raw_header_size u.kind
    pub root : HasRoot raw 0 0 j u
    pub low : root.entry < entries_in raw
    pub name : named f k n x index o root.entry ≡ RootOf (index.starts.unit + j)

  its_unit : (j : ℕ) (u : RawUnit) → slice_get raw j ≡ Some u → IsUnit j u
  its_unit j u is =
      let doc = o.among.kept.read.doc in
      let name = name_at index.starts doc in
      let w = unit_of f.contents n o.bytes x index o.among j u is in
      let unit = in_file n (unit_map name w.v) in
      let found : slice_get (file_units o.found.starts n o.found.doc) j ≡ Some unit =
      (λ i. slice_get (file_units (o.starts_same i) n (o.doc_same i)) j) ∙ w.named_is in
      let nth : Nth 0 (units f) (index.starts.unit + j) unit =
      subst (λ (s : Starts). Nth 0 (units f) (s.unit + j) unit) o.starts_same (o.found.units j unit found) in
      let means : MeansUnit (around_of o.bytes raw) u w.v = ((unit_agrees (around_of o.bytes raw) u).ok w.v).0 w.means in
      let root = has_root raw 0 0 j u is in
      let low = got_below (rows_of raw) root.entry root.row root.found in
      let many = rows-length raw in
      let at : place_at raw root.entry ≡ w.v.root.at =
      get_or_from_slice_get (entry_places_of raw) root.entry root.row.entry.at 0
      (got_map (λ (r : EntryRow). r.entry.at) (rows_of raw) root.entry root.row root.found)
      ∙ ap (λ (e : _). e.at) root.root ∙ sym means.root.place in
      record {
        unit = unit;
        nth = nth;
        size = mapped_size name w.v.kind ∙ meant_size (scope_of (around_of o.bytes raw) u) u.kind w.v.kind means.kind;
        root = root;
        low = omega (arith, low, many);
        name = ap name at ∙ ((old f facts).units_named (index.starts.unit + j) unit nth).root;
      }

pub unit_begins : UnitPlacesLaw
unit_begins beside f t k orders lay n bytes x index h changed start start_is j lt =
    let raw = raw_units x.units in
    let at = (laid_by beside k orders).places in
    let o = here f t k lay.facts lay.listed n x index h.file h.index_is in
    let got = got_there raw j lt in
    let u = got.0 in
    let w = its_unit f k lay.facts n x index o j u got.1 in
    let e = w.root.entry in
    let number = index.starts.unit + j in
    let begins : o.start ≡ start = same_got (starts_from 0 f.indexes) n o.start start o.start_is start_is in
    let name : name_after (run f) n (place_at raw e) ≡ RootOf number =
    ap (image_in (move f)) (o.among.names (place_at raw e) ∙ w.name) in
    let there : slice_get (all_names (every f)) (start + e) ≡ Some (name_after (run f) n (place_at raw e)) =
    ap (λ (m : ℕ). slice_get (all_names (every f)) (m + e)) (sym begins)
    ∙ named_every f k n x index o e w.low
    ∙ ap (λ (s : EntryName). Some s) (w.name ∙ sym name) in
    let place : slice_index at (start + e) ≡ (places_of f).place (RootOf number) =
    entry_places beside f t k orders lay n bytes x index h changed e (start + e) w.low there ∙ ap (places_of f).place name in
    let behind = roots_by beside f lay.facts lay.beside_are number w.unit w.nth in
    let size = w.size in
    let counted : slice_index at (start + e) - raw_header_size u.kind ≡ (places_of f).place (UnitOf number) =
    omega (arith, place, behind, size) in
    w.root.place start at ∙ counted
