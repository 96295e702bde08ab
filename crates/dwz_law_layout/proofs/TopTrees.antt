-- Each top stands where the index of its file says, and there the lists lead.
use Rattle.std.proofs.Common.{◌≡◌, ℕ, ◌+◌, ◌<◌, List, Some, slice_get, sym, ap, subst, ◌∙◌, arith}
use Rattle.std.proofs.lemmas.List.{length-map}
use Rattle.std.proofs.lemmas.Option.{get_or_from_slice_get}
use Rattle.dwz_def_reading.specs.Lists.{In}
use Rattle.dwz_def_reading.specs.Units.{RawUnit, entries_in}
use Rattle.dwz_def_reading.proofs.ListFacts.{got_in, got_there, same_got}
use Rattle.dwz_def_reading.specs.Documents.{entries_map, node_map}
use Rattle.dwz_def_tops.specs.Spots.{Top, tops_of}
use Rattle.dwz_def_tops.proofs.TopNumbers.{number_below, one_top, tops_numbers}
use Rattle.dwz_def_images.specs.Moves.{image_in}
use Rattle.dwz_graph.specs.declared.file.File.{File}
use Rattle.dwz_graph.specs.declared.index.TopEntry.{TopEntry}
use Rattle.dwz_graph.specs.Index.{Index}
use Rattle.dwz_graph.specs.Indexed.{first_starts}
use Rattle.dwz_unit.proofs.RowsFound.{rows-length}
use Rattle.dwz_unit.specs.declared.rows.RawEntry.{RawEntry as EntryOfCode}
use Rattle.dwz_unit.specs.Rows.{entry_shown, rows_of, shown_entries, units_of as raw_units}
use Rattle.dwz_graph.specs.Across.{IsFileAmong, IsTopOf}
use Rattle.dwz_graph.proofs.FileCounts.{found}
use Rattle.dwz_graph.proofs.FileEntries.{gives_top}
use Rattle.dwz_graph.proofs.FileWalk.{is_among}
use Rattle.dwz_layout.specs.declared.known.EntryTable.{EntryTable}
use Rattle.dwz_layout.specs.Entries.{row}
use Rattle.dwz_layout.specs.Known.{no_row, top_row}
use Rattle.dwz_law_layout.specs.Knows.{ShowsTree}
use Rattle.dwz_law_layout.specs.Beside.{Beside}
use Rattle.dwz_law_layout.specs.Facts.{AreFacts, RunFacts, docs, file_read, move, units}
use Rattle.dwz_law_layout.specs.Listed.{AreListed, TextsAt, entry_row, top_rows}
use Rattle.dwz_law_layout.specs.Trees.{IsReadFile, TopFilesLaw, TopTreesLaw}
use Rattle.dwz_law_layout.proofs.AfterNames.{entries_named, node_named}
use Rattle.dwz_law_layout.proofs.FilesFound.{among_of, file_there}
use Rattle.dwz_law_layout.proofs.ListRows.{top_there}

-- the file that a top is of, and where its index has the top
record TopPlace {beside : Beside} (f : RunFacts beside) (top : Top) : Type 0 where
  pub file : ℕ
  pub index : Index
  pub k : ℕ
  pub e : TopEntry
  pub index_is : slice_get f.indexes file ≡ Some index
  pub top_is : slice_get index.tops k ≡ Some e
  pub number : top.number ≡ index.starts.top + k
  pub of_file : top.file ≡ file

pub file_moved : (a b : Top) (file : ℕ) → a ≡ b → a.file ≡ file → b.file ≡ file
file_moved a b file same is = ap (λ (t : Top). t.file) (sym same) ∙ is

module _ {beside : Beside} (f : RunFacts beside) (facts : AreFacts f) where
  -- a number has one top
  one : (a b : Top) (m : ℕ) → In a (tops_of (units f)) → In b (tops_of (units f)) → a.number ≡ m → b.number ≡ m → a ≡ b
  one a b m i j p q = one_top 0 (tops_of (units f)) a b (tops_numbers (units f)) i j (p ∙ sym q)

  place : (top : Top) → In top (tops_of (units f)) → TopPlace f top
  place top is =
      let low = number_below 0 (tops_of (units f)) top (tops_numbers (units f)) is in
      let w = found f.contents f.files f.indexes top.number facts.kept facts.indexed (omega arith) in
      let a = is_among f.contents f.files f.indexes w.file w.f w.x facts.kept facts.indexed w.file_is w.index_is in
      let g = gives_top f.contents w.file a.bytes w.f w.x a.is w.k w.e w.top_is in
      let same : g.top ≡ top = one g.top top (w.x.starts.top + w.k) (got_in (tops_of (units f)) (w.x.starts.top + w.k) g.top g.top_is.there) is g.top_is.number w.number in
      record {
        file = w.file;
        index = w.x;
        k = w.k;
        e = w.e;
        index_is = w.index_is;
        top_is = w.top_is;
        number = w.number;
        of_file = file_moved g.top top w.file same g.top_is.file_is;
      }

  module _ (n : ℕ) (bytes : List ℕ) (x : File) (index : Index) (among : IsFileAmong f.contents n bytes x index) where
    abbrev raw : List RawUnit
    raw = raw_units x.units

    shown_there : (i : ℕ) → i < entries_in raw → (r : EntryOfCode) × (slice_get (shown_entries raw) i ≡ Some r)
    shown_there i lt =
        let long = rows-length raw in
        let many = length-map (rows_of raw) entry_shown in
        got_there (shown_entries raw) i (omega arith)

    tree : (k : EntryTable) (t : TextsAt) → AreListed f t k → slice_get f.indexes n ≡ Some index → (top : Top) (j : ℕ) (e : TopEntry) → slice_get index.tops j ≡ Some e
        → IsTopOf f.contents n bytes x index among.kept.read.doc j e top
        → ShowsTree (file_read f n bytes x) (top_row k top.number) (node_map (image_in (move f)) top.node) (entries_map (image_in (move f)) top.below)
    tree k t listed g top j e got is =
        let r = shown_there e.entry is.within in
        let s = is.stands r.0 r.1 in
        let h = s.stands in
        let w = h.top in
        let p = top_there first_starts facts.indexed.end (docs f) f.indexes facts.indexed.are 0 n index g j e got in
        let from = p.1 in
        let number : top.number ≡ p.0 + j = is.number ∙ ap (λ (q : ℕ). q + j) (let z : index.starts.top ≡ p.0 = omega arith in z) in
        let file : 0 + n ≡ n = omega arith in
        let row_here : slice_get (top_rows 0 f.indexes) (p.0 + j) ≡ Some (row n e.entry) = p.2 ∙ ap (λ (q : ℕ). Some (entry_row q e.entry)) file in
        let listed_row : slice_get k.tops.items top.number ≡ Some (row n e.entry) = (λ i. slice_get (listed.tops i) (number i)) ∙ row_here in
        record {
          number = h.n;
          unit = h.u;
          is_unit = h.is_unit;
          e = w.e;
          c = w.c;
          d = w.d;
          g = w.g;
          p = w.p;
          behind = w.after;
          row_is = get_or_from_slice_get k.tops.items top.number (row n e.entry) no_row listed_row ∙ ap (row n) (sym s.from);
          stand = w.stand;
          means = w.means;
          node_is = ap (node_map (image_in (move f))) w.node ∙ node_named f n bytes x index among w.d;
          below_is = ap (entries_map (image_in (move f))) w.below ∙ entries_named f n bytes x index among w.g;
        }

pub top_files : TopFilesLaw
top_files beside f facts top is =
    let p = place f facts top is in
    subst (IsReadFile f) (sym p.of_file) (file_there f facts p.file p.index p.index_is)

pub top_trees : TopTreesLaw
top_trees beside f t k facts listed n bytes x index h top is of =
    let p = place f facts top is in
    let among = among_of f facts n bytes x index h in
    let file : p.file ≡ n = sym p.of_file ∙ of in
    let own : p.index ≡ index = same_got f.indexes n p.index index (ap (slice_get f.indexes) (sym file) ∙ p.index_is) h.index_is in
    let got : slice_get index.tops p.k ≡ Some p.e = ap (λ (w : Index). slice_get w.tops p.k) (sym own) ∙ p.top_is in
    let number : top.number ≡ index.starts.top + p.k = p.number ∙ ap (λ (w : Index). w.starts.top + p.k) own in
    let g = gives_top f.contents n bytes x index among p.k p.e got in
    let same : g.top ≡ top = one f facts g.top top (index.starts.top + p.k) (got_in (tops_of (units f)) (index.starts.top + p.k) g.top g.top_is.there) is g.top_is.number number in
    tree f facts n bytes x index among k t listed h.index_is top p.k p.e got (subst (λ (w : Top). IsTopOf f.contents n bytes x index among.kept.read.doc p.k p.e w) same g.top_is)
