-- No two spaces have one name, and the spaces of a file alone have theirs there.
use Rattle.std.proofs.Common.{◌≡◌, ℕ, zero, suc, ◌+◌, ◌<◌, List, [], ◌∷◌, ◌++◌, length, map, Some, slice_get, refl, sym, ap, subst, ◌∙◌, inl, inr, arith}
use Rattle.std.proofs.lemmas.List.{length-map}
use Rattle.dwz_def_reading.specs.Units.{RawUnit, entries_in}
use Rattle.dwz_def_reading.proofs.ListFacts.{get_first, got_below, got_map, got_there, same_got}
use Rattle.dwz_def_reading.specs.Documents.{Doc, Node, node_map}
use Rattle.dwz_def_tops.specs.Spots.{EntryName, units_of}
use Rattle.dwz_graph.specs.declared.file.File.{File}
use Rattle.dwz_graph.specs.Files.{AreKept, docs_of}
use Rattle.dwz_graph.specs.declared.index.SpaceEntry.{SpaceEntry}
use Rattle.dwz_graph.specs.declared.index.Starts.{Starts}
use Rattle.dwz_graph.specs.Index.{Index}
use Rattle.dwz_graph.specs.Names.{names_from}
use Rattle.dwz_graph.proofs.TopLemmas.{get_cases, get_later}
use Rattle.dwz_graph.specs.Indexed.{AreIndexed, AreIndexes, first_starts, starts_behind}
use Rattle.dwz_graph.specs.EntryCounts.{starts_from}
use Rattle.dwz_graph.specs.AllNames.{all_names}
use Rattle.dwz_layout_numbers.proofs.OnceNames.{one_entry}
use Rattle.dwz_layout_numbers.proofs.WholeLemmas.{file_at}
use Rattle.dwz_layout_numbers.proofs.StartLemmas.{files_apart}
use Rattle.dwz_layout_order.specs.Lists.{all_spaces}
use Rattle.dwz_layout_order.specs.Spaces.{spaces_of}
use Rattle.dwz_graph.specs.Resolved.{place_at}
use Rattle.dwz_graph.proofs.PlaceLemmas.{entry_place}
use Rattle.dwz_unit.proofs.RowsFound.{rows-length}
use Rattle.dwz_unit.specs.Rows.{entry_shown, rows_of, units_of as raw_units}
use Rattle.dwz_graph.specs.Across.{IsFileAmong, name_at}
use Rattle.dwz_graph.proofs.FileCounts.{are_many, starts_are}
use Rattle.dwz_graph.proofs.FileEntries.{all_entries, names_entries}
use Rattle.dwz_graph.proofs.FileWalk.{is_among}
use Rattle.dwz_layout_input.specs.Places.{IsSpaceNumber, NamesApart}
use Rattle.dwz_layout_input.proofs.NamesRead.{node_there}
use Rattle.dwz_layout_input.proofs.SpaceCounts.{many_spaces, spaces_part}
use Rattle.dwz_layout_input.proofs.SpaceRises.{EntriesRise, entries_among, one_space, units_rise}

-- ---- entries of files, counted over all

start_there : (c : ℕ) (xs : List Index) (k : ℕ) (x : Index) → slice_get xs k ≡ Some x → (a : ℕ) × (slice_get (starts_from c xs) k ≡ Some a)
unfolding starts_from
start_there c [] k x e = absurd cc
start_there c (y ∷ xs) zero x e = (c, refl)
start_there c (y ∷ xs) (suc k) x e = start_there (c + length y.steps) xs k x e

-- ---- the file of a space

pub record IsSpaceIn (indexes : List Index) (n : ℕ) : Type 0 where
  pub file : ℕ
  pub x : Index
  pub j : ℕ
  pub e : SpaceEntry
  pub index_is : slice_get indexes file ≡ Some x
  pub there : slice_get x.spaces j ≡ Some e
  pub number : n ≡ x.starts.space + j

space_from : (s end : Starts) (docs : List (Doc ℕ)) (indexes : List Index) → AreIndexed s docs indexes end → (m : ℕ) (e : SpaceEntry) → slice_get (all_spaces indexes) m ≡ Some e → (n : ℕ)
    → n ≡ s.space + m → IsSpaceIn indexes n
space_from s end docs [] h m e got n is = absurd cc
space_from s end [] (x ∷ indexes) h m e got n is = absurd h
space_from s end (d ∷ docs) (x ∷ indexes) h m e got n is = elim (get_cases x.spaces (all_spaces indexes) m e got) [
  | inl a ↦ (let starts = ap (λ (w : Starts). w.space) h.0.tops.starts_are in record { file = 0; x = x; j = m; e = e; index_is = refl; there = a; number = omega arith })
  | inr b ↦
      let at = b.1 in
      let r = space_from (starts_behind s d x) end docs indexes h.1 b.0 e b.2 n (omega arith) in
      record { file = suc r.file; x = r.x; j = r.j; e = r.e; index_is = r.index_is; there = r.there; number = r.number }
]

-- ---- names

module _ (contents : List (List ℕ)) (files : List File) (indexes : List Index) (kept : AreKept contents files) (all : AreIndexes (docs_of contents) indexes) where
  abbrev docs : List (Doc ℕ)
  docs = docs_of contents

  abbrev spots : List EntryName
  spots = map (λ e. e.at) (spaces_of (units_of docs))

  -- a file, as it is kept, with its index
  record IsOne (k : ℕ) (x : Index) : Type 0 where
    f : File
    bytes : List ℕ
    got_f : slice_get files k ≡ Some f
    got_x : slice_get indexes k ≡ Some x
    is : IsFileAmong contents k bytes f x

  one_of : (k : ℕ) (x : Index) → slice_get indexes k ≡ Some x → IsOne k x
  one_of k x e =
      let many = are_many contents files indexes kept all in
      let lt = got_below indexes k x e in
      let a = many.0 in
      let b = many.1 in
      let g = got_there files k (omega arith) in
      let r = is_among contents files indexes k g.0 x kept all g.1 e in
      record { f = g.0; bytes = r.bytes; got_f = g.1; got_x = e; is = r.is }

  abbrev name_of : (k : ℕ) (x : Index) → IsOne k x → ℕ → EntryName
  name_of k x h = name_at x.starts h.is.kept.read.doc

  abbrev raw_of : (k : ℕ) (x : Index) → IsOne k x → List RawUnit
  raw_of k x h = raw_units h.f.units

  -- the name of an entry stands among all
  stands : (k : ℕ) (x : Index) (h : IsOne k x) (a i : ℕ) → slice_get (starts_from 0 indexes) k ≡ Some a → i < entries_in (raw_of k x h)
      → slice_get (all_names docs) (a + i) ≡ Some (name_of k x h (place_at (raw_of k x h) i))
  stands k x h a i start lt =
      let doc = h.is.kept.read.doc in
      let w = file_at docs indexes all k a x h.got_x start in
      let begins : w.starts ≡ x.starts = sym w.index.tops.starts_are in
      let doc_is : w.doc ≡ doc = same_got docs k w.doc doc w.is_doc h.is.doc_is in
      let st = w.stand in
      let names = names_from w.starts.unit w.starts.top w.doc.units in
      let own : slice_get names i ≡ Some (name_of k x h (place_at (raw_of k x h) i)) =
      (λ j. slice_get (names_from (begins j).unit (begins j).top (doc_is j).units) i) ∙ names_entries contents k h.bytes h.f x h.is i lt in
      let got = get_first names st.after i (name_of k x h (place_at (raw_of k x h) i)) own in
      let at : a + i ≡ length st.before + i = (let e = st.start_is in omega arith) in
      ap (λ (w : List EntryName). slice_get w (a + i)) st.parts ∙ ap (slice_get (st.before ++ (names ++ st.after))) at
      ∙ get_later st.before (names ++ st.after) i (name_of k x h (place_at (raw_of k x h) i)) got

  -- entries with one name are one
  same_entry : (k m : ℕ) (x y : Index) (h : IsOne k x) (g : IsOne m y) (i j : ℕ) → i < entries_in (raw_of k x h) → j < entries_in (raw_of m y g)
      → name_of k x h (place_at (raw_of k x h) i) ≡ name_of m y g (place_at (raw_of m y g) j) → (k ≡ m) × (i ≡ j)
  same_entry k m x y h g i j lt less same =
      let a = start_there 0 indexes k x h.got_x in
      let b = start_there 0 indexes m y g.got_x in
      let p = stands k x h a.0 i a.1 lt in
      let q = stands m y g b.0 j b.1 less in
      let at = one_entry docs (name_of k x h (place_at (raw_of k x h) i)) (a.0 + i) (b.0 + j) p (q ∙ ap (λ (w : EntryName). Some w) (sym same)) in
      let long = all_entries contents k h.bytes h.f x h.is in
      let long' = all_entries contents m g.bytes g.f y g.is in
      files_apart 0 indexes k m x y a.0 b.0 i j h.got_x g.got_x a.1 b.1 (omega arith) (omega arith) at

  -- a space of a file has the name of its entry
  own : (k : ℕ) (x : Index) (h : IsOne k x) (j : ℕ) (e : SpaceEntry) → slice_get x.spaces j ≡ Some e
      → (e.entry < entries_in (raw_of k x h)) × (slice_get spots (x.starts.space + j) ≡ Some (name_of k x h (place_at (raw_of k x h) e.entry)))
  own k x h j e got =
      let begins = (starts_are contents files indexes k h.f x kept all h.got_f h.got_x).0 in
      let part = spaces_part contents k h.bytes h.f x indexes h.is all begins in
      let r = node_there contents k h.bytes h.f x h.is part j e got in
      let o = r.1 in
      let raw = raw_of k x h in
      let place : place_at raw e.entry ≡ o.row.entry.at = entry_place raw e.entry (entry_shown o.row) (got_map entry_shown (rows_of raw) e.entry o.row o.found) in
      let at : r.0.at ≡ place_at raw e.entry = o.means.place ∙ sym place in
      let there = got_below (rows_of raw) e.entry o.row o.found in
      let many = rows-length raw in
      (omega arith, got_map (λ (d : Node EntryName). d.at) (spaces_of (units_of docs)) (x.starts.space + j) (node_map (name_of k x h) r.0) r.2 ∙ ap (λ (p : ℕ). Some (name_of k x h p)) at)

  -- each space is one of a file
  file_of : (n : ℕ) (s : EntryName) → slice_get spots n ≡ Some s → IsSpaceIn indexes n
  file_of n s e =
      let low = got_below spots n s e in
      let long = length-map (spaces_of (units_of docs)) (λ (d : Node EntryName). d.at) in
      let many = many_spaces docs indexes all in
      let g = got_there (all_spaces indexes) n (omega arith) in
      space_from first_starts all.end docs indexes all.are n g.0 g.1 n (let none : n ≡ 0 + n = omega arith in none)

  rises : (k : ℕ) (x : Index) (h : IsOne k x) → EntriesRise 0 (0 + entries_among h.is.kept.read.doc.units) x.spaces
  rises k x h = subst (EntriesRise 0 (0 + entries_among h.is.kept.read.doc.units)) (sym h.is.index.tops.spaces_are) (units_rise x.starts 0 h.is.kept.read.doc.units)

  -- its name tells the file and the entry
  space_tells : (n : ℕ) (s : EntryName) → slice_get spots n ≡ Some s → (r : IsSpaceIn indexes n) → (m : ℕ) (y : Index) (g : IsOne m y) (i : ℕ) → i < entries_in (raw_of m y g)
      → s ≡ name_of m y g (place_at (raw_of m y g) i) → (r.file ≡ m) × (r.e.entry ≡ i)
  space_tells n s got r m y g i lt is =
      let h = one_of r.file r.x r.index_is in
      let o = own r.file r.x h r.j r.e r.there in
      let both : Some s ≡ Some (name_of r.file r.x h (place_at (raw_of r.file r.x h) r.e.entry)) = sym got ∙ ap (slice_get spots) r.number ∙ o.1 in
      let same : s ≡ name_of r.file r.x h (place_at (raw_of r.file r.x h) r.e.entry) = cc in
      same_entry r.file m r.x y h g r.e.entry i o.0 lt (sym same ∙ is)

  one_name : (m n : ℕ) (s : EntryName) → slice_get spots m ≡ Some s → slice_get spots n ≡ Some s → m ≡ n
  one_name m n s e f =
      let r = file_of m s e in
      let q = file_of n s f in
      let g = one_of q.file q.x q.index_is in
      let o = own q.file q.x g q.j q.e q.there in
      let both : Some s ≡ Some (name_of q.file q.x g (place_at (raw_of q.file q.x g) q.e.entry)) = sym f ∙ ap (slice_get spots) q.number ∙ o.1 in
      let same : s ≡ name_of q.file q.x g (place_at (raw_of q.file q.x g) q.e.entry) = cc in
      let t = space_tells m s e r q.file q.x g q.e.entry o.0 same in
      let x_is : r.x ≡ q.x = same_got indexes q.file r.x q.x (ap (slice_get indexes) (sym t.0) ∙ r.index_is) q.index_is in
      let j_is : r.j ≡ q.j = one_space 0 (0 + entries_among g.is.kept.read.doc.units) q.x.spaces (rises q.file q.x g) r.j q.j r.e q.e (ap (λ (w : Index). slice_get w.spaces r.j) (sym x_is) ∙ r.there)
      q.there t.1 in
      r.number ∙ (λ i. (x_is i).starts.space + j_is i) ∙ sym q.number

  found : (k : ℕ) (x : Index) (h : IsOne k x) (n entry : ℕ) → entry < entries_in (raw_of k x h) → slice_get spots n ≡ Some (name_of k x h (place_at (raw_of k x h) entry))
      → IsSpaceNumber x.starts.space x.spaces entry n
  found k x h n entry lt e =
      let s = name_of k x h (place_at (raw_of k x h) entry) in
      let r = file_of n s e in
      let t = space_tells n s e r k x h entry lt refl in
      let x_is : r.x ≡ x = same_got indexes k r.x x (ap (slice_get indexes) (sym t.0) ∙ r.index_is) h.got_x in
      record {
        j = r.j;
        x = r.e;
        there = ap (λ (w : Index). slice_get w.spaces r.j) (sym x_is) ∙ r.there;
        is_entry = t.1;
        number = r.number ∙ ap (λ (w : Index). w.starts.space + r.j) x_is;
      }

  pub apart_there : (k : ℕ) (x : Index) (f : File) (bytes : List ℕ) → slice_get files k ≡ Some f → slice_get indexes k ≡ Some x → (is : IsFileAmong contents k bytes f x)
      → NamesApart spots x (raw_units f.units) (name_at x.starts is.kept.read.doc)
  apart_there k x f bytes got_f got_x is =
      let h : IsOne k x = record { f = f; bytes = bytes; got_f = got_f; got_x = got_x; is = is } in
      record { one = one_name; own = λ j e got. (own k x h j e got).1; found = found k x h }
