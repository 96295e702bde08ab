-- The entries of a file by their numbers among all, and what their references lead to.
use Rattle.std.proofs.Common.{◌≡◌, ℕ, zero, suc, ◌+◌, ◌<◌, List, [], ◌∷◌, ◌++◌, drop, Option, Some, slice_get, refl, sym, ap, subst, ◌∙◌, arith}
use Rattle.std.specs.Prelude.{slice_index, slice_index_or}
use Rattle.std.specs.Option.{option_map_or}
use Rattle.std.proofs.lemmas.List.{append-nil}
use Rattle.std.proofs.lemmas.Option.{get_or_from_slice_get}
use Rattle.dwz_def_reading.specs.Units.{RawUnit, entries_in}
use Rattle.dwz_def_reading.proofs.ListFacts.{drop_here, get_first, got_below, got_map, same_got}
use Rattle.dwz_def_reading.specs.Documents.{Doc, Node}
use Rattle.dwz_def_reading.specs.Files.{around_of}
use Rattle.dwz_def_reading.specs.Meanings.{scope_of}
use Rattle.dwz_def_reading.proofs.MeaningUnits.{node_agrees}
use Rattle.dwz_def_tops.specs.Spots.{EntryName, no_name}
use Rattle.dwz_def_images.specs.Moves.{image_in}
use Rattle.dwz_def_reading.specs.Places.{at_file}
use Rattle.dwz_def_readback.specs.Files.{name_after}
use Rattle.dwz_unit.specs.Rows.{EntryRow, rows_of, units_of as raw_units}
use Rattle.dwz_graph.specs.Parts.{AreParted}
use Rattle.dwz_graph.specs.Resolved.{AreEntries, place_at, places}
use Rattle.dwz_unit.proofs.RowsFound.{rows-length}
use Rattle.dwz_graph.specs.Rows.{AreTargets, node_refs}
use Rattle.dwz_graph.proofs.PartLemmas.{part_meant}
use Rattle.dwz_graph.specs.declared.file.File.{File}
use Rattle.dwz_graph.specs.declared.index.Starts.{Starts}
use Rattle.dwz_graph.specs.Index.{Index}
use Rattle.dwz_graph.specs.Names.{names_from}
use Rattle.dwz_graph.proofs.TopLemmas.{get_later}
use Rattle.dwz_graph.specs.Across.{IsFileAmong, name_at}
use Rattle.dwz_graph.proofs.FileEntries.{names_entries}
use Rattle.dwz_graph.proofs.FileWalk.{is_among}
use Rattle.dwz_layout_numbers.specs.Images.{IsFile}
use Rattle.dwz_graph.specs.EntryCounts.{starts_from}
use Rattle.dwz_graph.specs.AllNames.{StandFrom, all_names}
use Rattle.dwz_layout_numbers.specs.Whole.{IsFileAt}
use Rattle.dwz_layout_numbers.proofs.ReferenceLemmas.{reference_named}
use Rattle.dwz_layout_numbers.proofs.WholeLemmas.{file_at}
use Rattle.dwz_layout.specs.declared.known.FileRows.{FileRows}
use Rattle.dwz_layout.specs.declared.known.ValueCounts.{ValueCounts}
use Rattle.dwz_layout.specs.declared.known.EntryTable.{EntryTable}
use Rattle.dwz_layout.specs.declared.known.TextAt.{TextAt}
use Rattle.dwz_layout.specs.Entries.{row}
use Rattle.dwz_layout.specs.Known.{no_firsts, number_of, reference_at}
use Rattle.dwz_law_layout.specs.Knows.{EachFrom, IsNamed, IsRead, firsts_at}
use Rattle.dwz_law_layout.specs.Beside.{Beside}
use Rattle.dwz_law_layout.specs.Facts.{AreFacts, RunFacts, docs, every, file_read, move, run}
use Rattle.dwz_law_layout.specs.Listed.{AreListed, IsListed, TextsAt, firsts_from, none_before}
use Rattle.dwz_law_layout.specs.Named.{keys}
use Rattle.dwz_law_layout.proofs.EveryNames.{stand_every, to_every}
use Rattle.dwz_law_layout.proofs.Walks.{before_at, each_from, rows_at}

-- The file with that number, with its index: where its entries begin among all, and what the lists have of it.
pub record IsHere {beside : Beside} (f : RunFacts beside) (k : EntryTable) (n : ℕ) (x : File) (index : Index) : Type 0 where
  pub file_is : slice_get f.files n ≡ Some x
  pub index_is : slice_get f.indexes n ≡ Some index
  pub bytes : List ℕ
  pub among : IsFileAmong f.contents n bytes x index
  pub start : ℕ
  pub start_is : slice_get (starts_from 0 f.indexes) n ≡ Some start
  pub texts : List TextAt
  pub rows : FileRows
  pub rows_are : slice_get k.files.items n ≡ Some rows
  pub listed : IsListed f x index start texts rows
  pub found : IsFileAt (docs f) n index start
  pub doc_same : found.doc ≡ among.kept.read.doc
  pub starts_same : found.starts ≡ index.starts

pub here : {beside : Beside} (f : RunFacts beside) (t : TextsAt) (k : EntryTable) → AreFacts f → AreListed f t k → (n : ℕ) (x : File) (index : Index) → slice_get f.files n ≡ Some x → slice_get f.indexes n ≡ Some index
    → IsHere f k n x index
here f t k facts listed n x index e g =
    let a = is_among f.contents f.files f.indexes n x index facts.kept facts.indexed e g in
    let r = rows_at f f.files f.indexes (starts_from 0 f.indexes) t.files k.files.items listed.rows n x index e g in
    let o = file_at (docs f) f.indexes facts.indexed n r.start index g r.start_is in
    record {
      file_is = e;
      index_is = g;
      bytes = a.bytes;
      among = a.is;
      start = r.start;
      start_is = r.start_is;
      texts = r.texts;
      rows = r.rows_there;
      rows_are = r.rows_are;
      listed = r.listed;
      found = o;
      doc_same = same_got (docs f) n o.doc a.is.kept.read.doc o.is_doc a.is.doc_is;
      starts_same = sym o.index.tops.starts_are;
    }

-- ---- of such a file

module _ {beside : Beside} (f : RunFacts beside) (k : EntryTable) (n : ℕ) (x : File) (index : Index) (o : IsHere f k n x index) where
  abbrev pub raw : List RawUnit
  raw = raw_units x.units

  abbrev pub doc : Doc ℕ
  doc = o.among.kept.read.doc

  abbrev pub names : List EntryName
  names = names_from index.starts.unit index.starts.top o.among.kept.read.doc.units

  -- the name of an entry's place
  abbrev pub named : ℕ → EntryName
  named i = name_at index.starts o.among.kept.read.doc (place_at (raw_units x.units) i)

  stand : StandFrom (all_names (docs f)) names o.start
  stand =
      subst (λ (w : Starts). StandFrom (all_names (docs f)) (names_from w.unit w.top o.among.kept.read.doc.units) o.start) o.starts_same
      (subst (λ (w : Doc ℕ). StandFrom (all_names (docs f)) (names_from o.found.starts.unit o.found.starts.top w.units) o.start) o.doc_same o.found.stand)

  is_file : IsFile (every f) names index o.start
  is_file = record { shows = o.among.index.names; stand = stand_every f names o.start stand }

  pub name_there : (i : ℕ) → i < entries_in raw → slice_get names i ≡ Some (named i)
  name_there i lt = names_entries f.contents n o.bytes x index o.among i lt

  pub among_all : (i : ℕ) (s : EntryName) → slice_get names i ≡ Some s → slice_get (all_names (docs f)) (o.start + i) ≡ Some s
  among_all i s e = (λ j. slice_get (stand.parts j) (sym stand.start_is j + i)) ∙ get_later stand.before (names ++ stand.after) i s (get_first names stand.after i s e)

  pub named_all : (i : ℕ) → i < entries_in raw → slice_get (all_names (docs f)) (o.start + i) ≡ Some (named i)
  named_all i lt = among_all i (named i) (name_there i lt)

  pub named_every : (i : ℕ) → i < entries_in raw → slice_get (all_names (every f)) (o.start + i) ≡ Some (named i)
  named_every i lt = to_every f (o.start + i) (named i) (named_all i lt)

  pub number_is : (i : ℕ) → number_of k (row n i) ≡ o.start + i
  number_is i = ap (λ (w : Option FileRows). option_map_or (λ (r : FileRows). r.start) w 0 + i) o.rows_are ∙ ap (λ (w : ℕ). w + i) o.listed.start_is

  pub key_is : (number : ℕ) (s : EntryName) → slice_get (all_names (every f)) number ≡ Some s → (keys f).row number ≡ s
  key_is number s e = get_or_from_slice_get (all_names (every f)) number s no_name e

  pub entry_below : (i : ℕ) (r : EntryRow) → slice_get (rows_of raw) i ≡ Some r → i < entries_in raw
  entry_below i r e = (let lt = got_below (rows_of raw) i r e in let long = rows-length raw in omega arith)

  pub run_name : (p : ℕ) → (run f).name (at_file n p) ≡ name_at index.starts doc p
  run_name p = o.among.names p

  place_is : (i : ℕ) (r : EntryRow) → slice_get (rows_of raw) i ≡ Some r → place_at raw i ≡ r.entry.at
  place_is i r e = get_or_from_slice_get (places raw) i r.entry.at 0 (got_map (λ (w : EntryRow). w.entry.at) (rows_of raw) i r e)

  -- ---- an entry that was read

  module _ (bytes : List ℕ) (i : ℕ) (r : EntryRow) (d : Node ℕ) (read : IsRead (file_read f n bytes x) i r d) where
    read_place : d.at ≡ place_at raw i
    read_place = (((node_agrees (scope_of (around_of bytes raw) read.unit) r.entry).ok d).0 read.means).place ∙ sym (place_is i r read.found)

    pub below : i < entries_in raw
    below = entry_below i r read.found

    pub read_name : (run f).name (at_file n d.at) ≡ named i
    read_name = run_name d.at ∙ ap (name_at index.starts doc) read_place

    pub entry_named : (keys f).row (number_of k (row n i)) ≡ (run f).name (at_file n d.at)
    entry_named = ap (λ (w : ℕ). (keys f).row w) (number_is i) ∙ key_is (o.start + i) (named i) (named_every i below) ∙ sym read_name

    -- ---- its references

    -- where they begin
    abbrev pub from : ℕ
    from = slice_index x.resolved.starts.items i

    first_is : (firsts_at k (file_read f n bytes x) i).reference ≡ from
    first_is =
        let b = before_at none_before (rows_of raw) i r read.found in
        let own = firsts_from from b.0 in
        ap (λ (w : Option FileRows). (option_map_or (λ (u : FileRows). slice_index_or u.firsts.items i no_firsts) w no_firsts).reference) o.rows_are
        ∙ ap (λ (w : ValueCounts). w.reference) (get_or_from_slice_get o.rows.firsts.items i own no_firsts (o.listed.firsts i b.0 b.1))

    module _ (parts : AreParted (around_of bytes raw) raw (entries_in raw) x.resolved.refs.items x.resolved.starts.items) (within : AreEntries raw x.resolved.refs.items) where
      targets : AreTargets raw (drop from x.resolved.refs.items) (node_refs d)
      targets =
          let m = part_meant (around_of bytes raw) raw x.resolved.refs.items x.resolved.starts.items parts within r.unit read.unit read.is_unit i (i + 1) (r ∷ []) (drop (i + 1) (rows_of raw)) (d ∷ [])
          (refl, tt) (drop_here (rows_of raw) i r read.found) refl (read.means, tt) in
          subst (AreTargets raw (drop from x.resolved.refs.items)) (append-nil (node_refs d)) m.targets

      -- the number of what stands for the target of a reference after, and the target's own in its file
      pub record LeadsTo (j p : ℕ) : Type 0 where
        pub there : slice_get (all_names (every f)) (reference_at k n (from + j)) ≡ Some (image_in (move f) (name_at index.starts doc p))
        pub target : ℕ
        pub low : target < entries_in raw
        pub place : place_at raw target ≡ p

      target_of : (numbers ps : List ℕ) → AreTargets raw numbers ps → (j p : ℕ) → slice_get ps j ≡ Some p → (e : ℕ) × (e < entries_in raw) × (place_at raw e ≡ p)
      target_of numbers [] h j p e = absurd cc
      target_of [] (q ∷ ps) h j p e = absurd h
      target_of (m ∷ numbers) (q ∷ ps) h zero p e = (m, h.0, (let same : q ≡ p = cc in h.1 ∙ same))
      target_of (m ∷ numbers) (q ∷ ps) h (suc j) p e = target_of numbers ps h.2 j p e

      pub leads : (j p : ℕ) → slice_get (node_refs d) j ≡ Some p → LeadsTo j p
      leads j p e =
          let w = target_of (drop from x.resolved.refs.items) (node_refs d) targets j p e in
          let number : reference_at k n (from + j) ≡ slice_index o.rows.references.items (from + j) =
          ap (λ (w : Option FileRows). option_map_or (λ (u : FileRows). slice_index u.references.items (from + j)) w 0) o.rows_are in
          let named_so = reference_named (every f) (move f) names (name_at index.starts doc) raw x.resolved.refs.items o.rows.references.items (node_refs d) from
          (o.listed.references names is_file) (λ m lt. name_there m lt) targets j p e in
          record { there = ap (slice_get (all_names (every f))) number ∙ named_so; target = w.0; low = w.1; place = w.2 }

      -- what holds of each of them
      pub each_reference : (P : ℕ → ℕ → Type 0) → ((j p : ℕ) → LeadsTo j p → P (from + j) p) → EachFrom P (firsts_at k (file_read f n bytes x) i).reference (node_refs d)
      each_reference P h = subst (λ (w : ℕ). EachFrom P w (node_refs d)) (sym first_is) (each_from P from (node_refs d) (λ j p e. h j p (leads j p e)))

      pub references_named : EachFrom (λ m p. IsNamed (keys f) k (file_read f n bytes x) m (name_after (run f) n p)) (firsts_at k (file_read f n bytes x) i).reference (node_refs d)
      references_named = each_reference (λ m p. IsNamed (keys f) k (file_read f n bytes x) m (name_after (run f) n p))
          (λ j p w. key_is (reference_at k n (from + j)) (image_in (move f) (name_at index.starts doc p)) w.there ∙ ap (image_in (move f)) (sym (run_name p)))
