-- Each top stands where its file's index says.
use Rattle.std.proofs.Common.{◌≡◌, ℕ, ◌+◌, ◌<◌, List, [], ◌++◌, map, Some, Ok, slice_get, sym, ap, subst, ◌∙◌, arith}
use Rattle.std.proofs.lemmas.List.{get_or-map}
use Rattle.std.proofs.lemmas.Option.{get_or_from_slice_get}
use Rattle.dwz_def_tops.specs.Spots.{EntryName, LabelledTop, Top, Within, in_file, named, spot_in, spots_from, tops_from}
use Rattle.dwz_def_tops.proofs.NameLists.{spots_firsts}
use Rattle.dwz_def_reading.specs.Lists.{In}
use Rattle.dwz_def_reading.specs.Entries.{RawEntry}
use Rattle.dwz_def_reading.specs.Trees.{End, Entry, behind}
use Rattle.dwz_def_reading.specs.Units.{RawUnit, entries_in}
use Rattle.dwz_def_reading.proofs.PartLemmas.{bind_ok}
use Rattle.dwz_def_reading.proofs.ListFacts.{drop_first, got_below, same_got}
use Rattle.dwz_graph.specs.FlatTops.{HasTopOfFile}
use Rattle.dwz_graph.proofs.FileTops.{file_top}
use Rattle.dwz_graph.proofs.TreeLemmas.{parts}
use Rattle.dwz_graph.specs.declared.index.Starts.{Starts}
use Rattle.dwz_graph.specs.declared.index.TopEntry.{TopEntry}
use Rattle.dwz_graph.specs.Names.{names_from}
use Rattle.dwz_graph.specs.Steps.{all_tops, below_root, is_space}
use Rattle.dwz_graph.proofs.TopNameLemmas.{each_named, means_units, read_whole}
use Rattle.dwz_graph.proofs.TopLemmas.{found}
use Rattle.dwz_def_reading.specs.Documents.{Doc, DwUnit, Node}
use Rattle.dwz_def_reading.specs.Files.{Limits, around_of, file_meaning}
use Rattle.dwz_def_reading.specs.Meanings.{MeaningContext, scope_of, without_siblings}
use Rattle.dwz_def_reading.specs.Meant.{attrs_meaning, node_meaning, node_with}
use Rattle.dwz_graph.specs.Resolved.{place_at}
use Rattle.dwz_unit.proofs.RowsFound.{rows-length}
use Rattle.dwz_def_tops.proofs.OldNames.{tops_labelled}
use Rattle.dwz_def_tops.specs.Lists.{NoneTwice}
use Rattle.dwz_def_tops.specs.Seen.{IsPartial}
use Rattle.dwz_def_tops.specs.Shown.{units_keys}
use Rattle.dwz_def_tops.proofs.Members.{each_in}
use Rattle.dwz_unit.specs.declared.rows.RawEntry.{RawEntry as RawEntryOfCode}
use Rattle.dwz_unit.specs.Rows.{EntryRow, rows_below, rows_of, shown_entries}
use Rattle.dwz_graph.specs.Standing.{StandsAt}
use Rattle.dwz_graph.proofs.RowSteps.{shown_row}

-- where an entry stands that is meant
node_place : (s : MeaningContext ℕ) (e : RawEntry) (d : Node ℕ) → node_meaning s e ≡ Ok d → d.at ≡ s.around.place e.at
node_place s e d h =
    let x = bind_ok (attrs_meaning s (without_siblings e.attrs)) (node_with s e) d h in
    let n : Node ℕ = record { at = s.around.place e.at; tag = e.tag; attrs = x.0 } in
    let same : n ≡ d = cc in
    ap (λ (w : Node ℕ). w.at) (sym same)

module _ (l : Limits) (bytes : List ℕ) (raw : List RawUnit) (doc : Doc ℕ) (starts : Starts) (file : ℕ) (t : Top) (reads : file_meaning l bytes ≡ Ok (raw, doc))
    (once : NoneTwice (units_keys doc.units))
    (is : In t (tops_from starts.unit starts.top (map (in_file file) (named starts.unit starts.top doc.units)))) where
  abbrev spots : List (ℕ × EntryName)
  spots = spots_from starts.unit starts.top doc.units

  abbrev name : ℕ → EntryName
  name = spot_in spots

  abbrev h : HasTopOfFile (around_of bytes raw) name raw doc.units file starts.unit t
  h = file_top (around_of bytes raw) raw doc.units file starts.unit starts.top t (means_units l bytes raw doc reads) is

  labelled : LabelledTop t
  labelled =
      let whole = read_whole l bytes raw doc reads in
      let kinds : (u : DwUnit ℕ) → In u doc.units → IsPartial u.kind → ⊥ = λ u j. each_in (λ (w : DwUnit ℕ). IsPartial w.kind → ⊥) u doc.units whole j in
      tops_labelled spots (subst NoneTwice (sym (spots_firsts starts.unit starts.top doc.units kinds)) once) file starts.unit starts.top doc.units kinds (λ x j. j) t is

  abbrev i : ℕ
  i = h.top.p.before

  abbrev row : EntryRow
  row = record { entry = h.top.e; unit = h.n; depth = h.top.p.depth; end = (behind h.top.p h.top.c).before }

  row_here : slice_get (rows_of raw) i ≡ Some row
  unfolding rows_below
  row_here = (drop_first (rows_of raw) i row ((rows_below h.top.c h.n (record { before = i + 1; depth = h.top.p.depth + 1 }) ++ []) ++ h.top.after) h.top.stand).0

  within : i < entries_in raw
  within = let a = got_below (rows_of raw) i row row_here in let b = rows-length raw in omega arith

  place_is : place_at raw i ≡ h.top.e.at
  place_is = get_or-map (λ (r : EntryRow). r.entry.at) (rows_of raw) i row 0 (got_below (rows_of raw) i row row_here)
      ∙ ap (λ (r : EntryRow). r.entry.at) (get_or_from_slice_get (rows_of raw) i row row row_here)

  -- its name is that of the top
  named_so : slice_get (names_from starts.unit starts.top doc.units) i ≡ Some (Within t.number [])
  named_so =
      let p = parts (scope_of (around_of bytes raw) h.u) h.top.e h.top.c End (Entry h.top.d h.top.g End) h.top.means in
      let d_is : p.d ≡ h.top.d = (let q : Entry p.d p.below p.next ≡ Entry h.top.d h.top.g End = p.is in cc) in
      let at : h.top.d.at ≡ h.top.e.at = ap (λ (w : Node ℕ). w.at) (sym d_is) ∙ node_place (scope_of (around_of bytes raw) h.u) h.top.e p.d p.node in
      let own : t.node.at ≡ name h.top.d.at = ap (λ (w : Node EntryName). w.at) h.top.node in
      each_named l bytes raw doc starts.unit starts.top i reads within
      ∙ ap (λ (q : ℕ). Some (name q)) (place_is ∙ sym at)
      ∙ ap (λ (q : EntryName). Some q) (sym own ∙ labelled.0)

  pub stands_there : (k : ℕ) (x : TopEntry) (e : RawEntryOfCode) → slice_get (all_tops is_space starts 0 (map below_root doc.units)) k ≡ Some x → t.number ≡ starts.top + k
      → slice_get (shown_entries raw) x.entry ≡ Some e
      → StandsAt (around_of bytes raw) name raw doc.units file starts.unit t x.entry e.end
  stands_there k x e got number shown =
      let f = found starts doc.units (read_whole l bytes raw doc reads) i t.number named_so in
      let same_k : f.behind ≡ k = (let a = f.number in omega arith) in
      let same_x : f.top ≡ x = same_got (all_tops is_space starts 0 (map below_root doc.units)) k f.top x
      (subst (λ (j : ℕ). slice_get (all_tops is_space starts 0 (map below_root doc.units)) j ≡ Some f.top) same_k f.found) got in
      let from : i ≡ x.entry = sym f.entry ∙ ap (λ (w : TopEntry). w.entry) same_x in
      let ends = ap (λ (w : RawEntryOfCode). w.end) (shown_row raw x.entry row e (subst (λ (j : ℕ). slice_get (rows_of raw) j ≡ Some row) from row_here) shown) in
      record { stands = h; from = from; to = omega arith }
