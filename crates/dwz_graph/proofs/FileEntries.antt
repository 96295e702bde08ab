-- Of one file: the names of its entries, and where its tops stand.
use Rattle.std.proofs.Common.{◌≡◌, ℕ, zero, suc, ◌+◌, ◌^◌, ◌<◌, ◌≤◌, List, [], ◌∷◌, length, map, Some, slice_get, sym, ap, ◌∙◌, arith}
use Rattle.std.specs.Prelude.{slice_index}
use Rattle.std.proofs.lemmas.List.{length-append, length-drop, length-map}
use Rattle.dwz_def_reading.specs.Trees.{End, Entry}
use Rattle.dwz_def_reading.specs.Units.{RawUnit, entries_in}
use Rattle.dwz_def_reading.proofs.ListFacts.{got_below, got_in, got_map, got_there}
use Rattle.dwz_def_reading.specs.Documents.{Doc, unit_map}
use Rattle.dwz_def_reading.specs.Files.{around_of}
use Rattle.dwz_def_reading.specs.Meanings.{Around}
use Rattle.dwz_def_reading.proofs.FileLemmas.{file_agrees}
use Rattle.dwz_def_reading.proofs.UnitMeans.{unit_meant}
use Rattle.dwz_def_tops.specs.Spots.{EntryName, FileUnit, Top, Within, in_file, spot_in, spots_from, tops_of, units_of}
use Rattle.dwz_def_tops.proofs.RowLemmas.{top_of}
use Rattle.dwz_graph.specs.declared.file.File.{File}
use Rattle.dwz_graph.specs.Files.{docs_of}
use Rattle.dwz_graph.specs.declared.index.TopEntry.{TopEntry}
use Rattle.dwz_graph.specs.Index.{Index}
use Rattle.dwz_graph.specs.Names.{names_from}
use Rattle.dwz_graph.specs.Steps.{all_tops, below_root, is_space}
use Rattle.dwz_graph.proofs.TopNameLemmas.{all_named, each_named, read_whole}
use Rattle.dwz_graph.proofs.TopLemmas.{many, named}
use Rattle.dwz_graph.proofs.TopUnits.{shows}
use Rattle.dwz_graph.specs.Resolved.{place_at, places}
use Rattle.dwz_graph.proofs.PlaceLemmas.{places_many}
use Rattle.dwz_unit.proofs.RowsFound.{rows-length}
use Rattle.dwz_def_tops.proofs.Members.{in_map_from, nth_in}
use Rattle.dwz_graph.specs.Standing.{NamesEntries, StandsAt}
use Rattle.dwz_graph.proofs.StandLemmas.{stands_there}
use Rattle.dwz_unit.specs.declared.rows.RawEntry.{RawEntry}
use Rattle.dwz_unit.specs.Rows.{EntryRow, entry_shown, rows_below, rows_of, shown_entries, units_of as raw_units}
use Rattle.dwz_unit.proofs.RowLemmas.{shown-length}
use Rattle.dwz_graph.specs.Across.{IsFileAmong, file_tops, file_units, name_at}
use Rattle.dwz_graph.specs.AcrossLaws.{GivesTop, IsUnitOf}
use Rattle.dwz_graph.proofs.FileRoom.{entries_small}
use Rattle.dwz_graph.proofs.ListGets.{part_get}
use Rattle.dwz_graph.proofs.TopRows.{file_many}

shown_at : (rows : List EntryRow) (i : ℕ) (r : RawEntry) → slice_get (map entry_shown rows) i ≡ Some r → r.at ≡ slice_index (map (λ row. row.entry.at) rows) i
shown_at [] i r e = absurd cc
shown_at (row ∷ rows) zero r e = (let same : entry_shown row ≡ r = cc in ap (λ (w : RawEntry). w.at) (sym same))
shown_at (row ∷ rows) (suc i) r e = shown_at rows i r e

module _ (contents : List (List ℕ)) (file : ℕ) (bytes : List ℕ) (f : File) (x : Index) (h : IsFileAmong contents file bytes f x) where
  abbrev raw : List RawUnit
  raw = raw_units f.units

  abbrev doc : Doc ℕ
  doc = h.kept.read.doc

  abbrev around : Around ℕ
  around = around_of bytes raw

  -- ---- entries

  pub all_entries : length x.steps ≡ entries_in raw
  all_entries =
      h.index.names.len
      ∙ ap (λ (w : List EntryName). length w) (sym (all_named h.kept.limits bytes raw doc x.starts.unit x.starts.top h.kept.read.means))
      ∙ length-map (places raw) (spot_in (spots_from x.starts.unit x.starts.top doc.units))
      ∙ places_many raw

  pub few_entries : entries_in raw < 2 ^ 32
  few_entries = entries_small h.kept.limits bytes raw doc h.kept.read.means

  pub names_entries : NamesEntries raw (name_at x.starts doc) (names_from x.starts.unit x.starts.top doc.units)
  names_entries = λ i lt. each_named h.kept.limits bytes raw doc x.starts.unit x.starts.top i h.kept.read.means lt

  -- ---- tops

  lt_entry : (i : ℕ) (name : EntryName) → slice_get (names_from x.starts.unit x.starts.top doc.units) i ≡ Some name → i < entries_in raw
  lt_entry i name e = (let lt = got_below (names_from x.starts.unit x.starts.top doc.units) i name e in let long = all_entries in let len = h.index.names.len in omega arith)

  -- an entry that is shown stands at its place
  name_of_shown : (i : ℕ) (r : RawEntry) → slice_get (shown_entries raw) i ≡ Some r → name_at x.starts doc r.at ≡ name_at x.starts doc (place_at raw i)
  name_of_shown i r shown = ap (name_at x.starts doc) (shown_at (rows_of raw) i r shown)

  ends_within : (t : Top) (e : TopEntry) (r : RawEntry) → StandsAt around (name_at x.starts doc) raw doc.units file x.starts.unit t e.entry r.end → r.end ≤ entries_in raw
  ends_within t e r s =
      let p = s.stands.top.p in
      let many = shown-length (Entry s.stands.top.e s.stands.top.c End) s.stands.n p in
      let all = rows-length raw in
      let len = ap (λ (w : List EntryRow). length w) s.stands.top.stand in
      let from = s.from in
      let to = s.to in
      omega (arith, length-drop p.before (rows_of raw), length-append (rows_below (Entry s.stands.top.e s.stands.top.c End) s.stands.n p) s.stands.top.after)

  pub gives_top : (k : ℕ) (e : TopEntry) → slice_get x.tops k ≡ Some e → GivesTop contents file bytes f x h k e
  gives_top k e got =
      let here : slice_get (all_tops is_space x.starts 0 (map below_root doc.units)) k ≡ Some e = ap (λ (w : List TopEntry). slice_get w k) (sym h.index.tops.tops_are) ∙ got in
      let within = got_below (all_tops is_space x.starts 0 (map below_root doc.units)) k e here in
      let count = many x.starts 0 doc.units in
      let own = file_many x.starts file doc in
      let t = got_there (file_tops x.starts file doc) k (omega arith) in
      let s = shows x.starts doc.units file (name_at x.starts doc) k e t.0 here t.1 in
      let names = names_from x.starts.unit x.starts.top doc.units in
      let named_so : slice_get names e.entry ≡ Some (Within (x.starts.top + k) []) = named x.starts doc.units (read_whole h.kept.limits bytes raw doc h.kept.read.means) k e here in
      let stands = λ (r : RawEntry) (shown : slice_get (shown_entries raw) e.entry ≡ Some r). stands_there h.kept.limits bytes raw doc x.starts file t.0 h.kept.read.means h.once
      (got_in (file_tops x.starts file doc) k t.0 t.1) k e r here s.1 shown in
      record {
        top = t.0;
        top_is = record {
          there = part_get (tops_of (units_of (docs_of contents))) (file_tops x.starts file doc) x.starts.top k t.0 h.tops t.1;
          of_file = t.1;
          number = s.1;
          unit = sym s.0;
          file_is = tops_file k t.0 t.1;
          ends = λ r shown. ends_within t.0 e r (stands r shown);
          named = λ r shown. name_of_shown e.entry r shown ∙ (let here : Some (name_at x.starts doc (place_at raw e.entry)) ≡ Some (Within (x.starts.top + k) []) =
              sym (names_entries e.entry (lt_entry e.entry (Within (x.starts.top + k) []) named_so)) ∙ named_so in let same : name_at x.starts doc (place_at raw e.entry)
              ≡ Within (x.starts.top + k) [] = cc in same) ∙ ap (λ (n : ℕ). Within n []) (sym s.1);
          within = lt_entry e.entry (Within (x.starts.top + k) []) named_so;
          stands = stands;
        };
      }
    where
      tops_file : (k : ℕ) (t : Top) → slice_get (file_tops x.starts file doc) k ≡ Some t → t.file ≡ file
      tops_file k t got =
          let o = top_of x.starts.unit x.starts.top (file_units x.starts file doc) t (got_in (file_tops x.starts file doc) k t got) in
          let from = in_map_from (in_file {P = EntryName} file) o.unit (map (unit_map (name_at x.starts doc)) doc.units) (nth_in x.starts.unit (file_units x.starts file doc) t.unit o.unit o.nth) in
          o.file_is ∙ ap (λ (w : FileUnit EntryName). w.file) (sym from.is)

  -- ---- units

  pub unit_of : (n : ℕ) (u : RawUnit) → slice_get raw n ≡ Some u → IsUnitOf contents file bytes f x h n u
  unit_of n u got =
      let r = unit_meant around raw doc.units (((file_agrees h.kept.limits bytes).ok (raw, doc)).0 h.kept.read.means).means n u got in
      record {
        v = r.0;
        means = r.1;
        unit_is = r.2;
        named_is = got_map (in_file file) (map (unit_map (name_at x.starts doc)) doc.units) n (unit_map (name_at x.starts doc) r.0) (got_map (unit_map (name_at x.starts doc)) doc.units n r.0 r.2);
      }
