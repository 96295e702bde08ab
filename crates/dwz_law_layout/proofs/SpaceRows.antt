-- The spaces of all files, with the numbers of their files, in step with the rows that the lists have for them.
use Rattle.std.proofs.Common.{◌≡◌, ℕ, suc, ◌+◌, ◌-◌, List, [], ◌∷◌, ◌++◌, length, map, Some, slice_get, refl, sym, ap, subst, ◌∙◌, inl, inr, arith}
use Rattle.std.proofs.lemmas.List.{append_assoc, length-append, length-map, map-append}
use Rattle.std.proofs.lemmas.Option.{get_or_from_slice_get}
use Rattle.dwz_def_reading.proofs.ListFacts.{get_first, got_below, got_map, got_there, same_got}
use Rattle.dwz_def_reading.specs.Documents.{Doc, DwUnit, Node, node_map}
use Rattle.dwz_def_reading.specs.Files.{around_of}
use Rattle.dwz_def_reading.specs.Meanings.{MeanUnits}
use Rattle.dwz_def_reading.proofs.FileLemmas.{file_agrees}
use Rattle.dwz_def_tops.specs.Lists.{Nth}
use Rattle.dwz_def_tops.specs.Spaces.{space_text}
use Rattle.dwz_def_tops.proofs.SpaceLemmas.{text_map}
use Rattle.dwz_def_tops.specs.Spots.{EntryName, FileUnit, in_file, name_of, named_files}
use Rattle.dwz_def_images.specs.Moves.{image_in}
use Rattle.dwz_graph.specs.declared.file.File.{File}
use Rattle.dwz_graph.specs.declared.index.SpaceEntry.{SpaceEntry}
use Rattle.dwz_graph.specs.declared.index.Starts.{Starts}
use Rattle.dwz_graph.specs.Index.{Index}
use Rattle.dwz_graph.proofs.TopLemmas.{get_cases, get_later}
use Rattle.dwz_graph.specs.Indexed.{AreIndexed, first_starts, starts_behind}
use Rattle.dwz_unit.specs.Rows.{EntryRow, units_of as raw_units}
use Rattle.dwz_graph.proofs.TopThere.{named_same}
use Rattle.dwz_graph.specs.Across.{IsFileAmong, file_units}
use Rattle.dwz_layout_numbers.proofs.NumberingLemmas.{nth_get}
use Rattle.dwz_layout_order.specs.Shown.{Pairs}
use Rattle.dwz_layout_order.specs.Spaces.{name_in, spaces_below, spaces_of, name_by as name_with}
use Rattle.dwz_layout_order.proofs.ChainShown.{pairs_append, pairs_at, pairs_long}
use Rattle.dwz_layout_order.proofs.UnitRows.{spaces_append}
use Rattle.dwz_law_layout.specs.Old.{IsSpaceIn}
use Rattle.dwz_layout.specs.declared.known.Row.{Row}
use Rattle.dwz_layout.specs.declared.known.SpaceRow.{SpaceRow}
use Rattle.dwz_layout.specs.Known.{no_space}
use Rattle.dwz_law_layout.specs.Knows.{IsRead}
use Rattle.dwz_law_layout.specs.Beside.{Beside}
use Rattle.dwz_law_layout.specs.Facts.{AreFacts, HasFile, RunFacts, docs, file_read, move, units}
use Rattle.dwz_law_layout.specs.Listed.{entry_row, space_entries}
use Rattle.dwz_law_layout.specs.Trees.{InSomeUnit, SpaceRowsLaw, SpaceUnitsLaw}
use Rattle.dwz_law_layout.proofs.AfterNames.{name, node_named}
use Rattle.dwz_law_layout.proofs.FilesFound.{among_of, file_there, nth_at, one_file}
use Rattle.dwz_law_layout.proofs.ListRows.{with_text}
use Rattle.dwz_law_layout.proofs.SpaceLists.{IsInFile, in_units, pairs_more}

-- ---- spaces with the numbers of their files

abbrev with_file : ℕ → Node EntryName → ℕ × Node EntryName
with_file n e = (n, e)

abbrev of_unit : FileUnit EntryName → List (ℕ × Node EntryName)
of_unit u = map (with_file u.file) (spaces_below u.unit.kind u.unit.below)

unfoldable filed : List (FileUnit EntryName) → List (ℕ × Node EntryName)
filed [] = []
filed (u ∷ units) = of_unit u ++ filed units

filed_append : (xs ys : List (FileUnit EntryName)) → filed (xs ++ ys) ≡ filed xs ++ filed ys
unfolding filed
filed_append [] ys = refl
filed_append (u ∷ xs) ys = ap (λ (w : List (ℕ × Node EntryName)). of_unit u ++ w) (filed_append xs ys) ∙ sym (append_assoc (of_unit u) (filed xs) (filed ys))

filed_long : (xs : List (FileUnit EntryName)) → length (filed xs) ≡ length (spaces_of xs)
unfolding filed spaces_of
filed_long [] = refl
filed_long (u ∷ xs) =
    length-append (of_unit u) (filed xs)
    ∙ (λ i. length-map (spaces_below u.unit.kind u.unit.below) (with_file u.file) i + filed_long xs i)
    ∙ sym (length-append (spaces_below u.unit.kind u.unit.below) (spaces_of xs))

-- those of one file
filed_one : (n : ℕ) (us : List (DwUnit EntryName)) → filed (map (in_file n) us) ≡ map (with_file n) (spaces_of (map (in_file n) us))
unfolding filed spaces_of
filed_one n [] = refl
filed_one n (u ∷ us) =
    let own = spaces_below u.kind u.below in
    ap (λ (w : List (ℕ × Node EntryName)). map (with_file n) own ++ w) (filed_one n us)
    ∙ sym (map-append (with_file n) own (spaces_of (map (in_file n) us)))

-- ---- what stands at the row of a space

-- the row is that of an entry of the file, which means this space
record Stands {beside : Beside} (f : RunFacts beside) (r : Row) (x : ℕ × Node EntryName) : Type 0 where
  pub bytes : List ℕ
  pub file : File
  pub index : Index
  pub has : HasFile f x.0 bytes file index
  pub i : ℕ
  pub row : EntryRow
  pub d : Node ℕ
  pub text : List ℕ
  pub row_is : r ≡ entry_row x.0 i
  pub read : IsRead (file_read f x.0 bytes file) i row d
  pub node_is : node_map (image_in (move f)) x.1 ≡ node_map (file_read f x.0 bytes file).after d
  pub is_space : space_text d ≡ Some text
  pub named : space_text x.1 ≡ Some text
  pub said : name_of text x.1 ≡ name_of text d

module _ {beside : Beside} (f : RunFacts beside) (facts : AreFacts f) where
  of_file : (n : ℕ) (bytes : List ℕ) (x : File) (index : Index) (h : HasFile f n bytes x index) (is : IsFileAmong f.contents n bytes x index)
      → Pairs (Stands f) (map (λ e. entry_row n e.entry) index.spaces) (filed (file_units index.starts n is.kept.read.doc))
  of_file n bytes x index h is =
      let doc = is.kept.read.doc in
      let called = name f n bytes x index is in
      let around = around_of bytes (raw_units x.units) in
      let means : MeanUnits around (raw_units x.units) doc.units = (((file_agrees is.kept.limits bytes).ok (raw_units x.units, doc)).0 is.kept.read.means).means in
      let all = in_units around called (raw_units x.units) n (raw_units x.units) doc.units 0 0 index.starts means refl refl in
      let some = subst (λ (w : List SpaceEntry). Pairs (IsInFile around called (raw_units x.units)) w (spaces_of (file_units index.starts n doc))) (sym is.index.tops.spaces_are) all in
      subst (Pairs (Stands f) (map (λ e. entry_row n e.entry) index.spaces)) (sym (filed_one n _))
      (pairs_more (IsInFile around called (raw_units x.units)) (Stands f) (λ (e : SpaceEntry). entry_row n e.entry) (with_file n) index.spaces (spaces_of (file_units index.starts n doc))
      (λ e d w. record {
        bytes = bytes;
        file = x;
        index = index;
        has = h;
        i = e.entry;
        row = w.row;
        d = w.d;
        text = w.text;
        row_is = refl;
        read = record { unit = w.unit; found = w.found; is_unit = w.is_unit; means = w.means };
        node_is = ap (node_map (image_in (move f))) w.node ∙ node_named f n bytes x index is w.d;
        is_space = w.is_space;
        named = ap (λ (q : Node EntryName). space_text q) w.node ∙ text_map called w.d ∙ w.is_space;
        said = ap (name_of w.text) w.node ∙ named_same w.text called w.d.attrs;
      }) some)

  -- file by file
  by_files : (m : ℕ) (s end : Starts) (some : List (Doc ℕ)) (indexes : List Index) → AreIndexed s some indexes end
      → ((k : ℕ) (doc : Doc ℕ) (z : Index) → slice_get some k ≡ Some doc → slice_get indexes k ≡ Some z
      → Pairs (Stands f) (map (λ e. entry_row (m + k) e.entry) z.spaces) (filed (file_units z.starts (m + k) doc)))
      → Pairs (Stands f) (space_entries m indexes) (filed (named_files m s.unit s.top some))
  unfolding space_entries named_files filed
  by_files m s end [] [] h each = tt
  by_files m s end [] (z ∷ indexes) h each = absurd h
  by_files m s end (d ∷ some) [] h each = absurd h
  by_files m s end (d ∷ some) (z ∷ indexes) h each =
      let next = starts_behind s d z in
      let none : m + 0 ≡ m = omega arith in
      let first : Pairs (Stands f) (map (λ e. entry_row m e.entry) z.spaces) (filed (file_units s m d)) =
      subst (λ (w : Starts). Pairs (Stands f) (map (λ e. entry_row m e.entry) z.spaces) (filed (file_units w m d))) h.0.tops.starts_are
      (subst (λ (w : ℕ). Pairs (Stands f) (map (λ e. entry_row w e.entry) z.spaces) (filed (file_units z.starts w d))) none (each 0 d z refl refl)) in
      let rest = by_files (suc m) next end some indexes h.1 (λ k doc y g q.
      (let far : m + suc k ≡ suc m + k = omega arith in
      subst (λ (w : ℕ). Pairs (Stands f) (map (λ e. entry_row w e.entry) y.spaces) (filed (file_units y.starts w doc))) far (each (suc k) doc y g q))) in
      subst (Pairs (Stands f) (space_entries m (z ∷ indexes))) (sym (filed_append (file_units s m d) (named_files (suc m) next.unit next.top some)))
      (pairs_append (Stands f) (map (λ e. entry_row m e.entry) z.spaces) (space_entries (suc m) indexes) (filed (file_units s m d)) (filed (named_files (suc m) next.unit next.top some)) first rest)

  all_stand : Pairs (Stands f) (space_entries 0 f.indexes) (filed (units f))
  all_stand = by_files 0 first_starts facts.indexed.end (docs f) f.indexes facts.indexed.are (λ k doc z g q.
      (let r = file_there f facts k z q in
      let own : r.index ≡ z = same_got f.indexes k r.index z r.has.index_is q in
      let is = among_of f facts k r.bytes r.x r.index r.has in
      let said : is.kept.read.doc ≡ doc = same_got (docs f) k is.kept.read.doc doc is.doc_is g in
      let here : 0 + k ≡ k = omega arith in
      subst (λ (w : ℕ). Pairs (Stands f) (map (λ e. entry_row w e.entry) z.spaces) (filed (file_units z.starts w doc))) (sym here)
      (subst (λ (w : Index). Pairs (Stands f) (map (λ e. entry_row k e.entry) w.spaces) (filed (file_units w.starts k doc))) own
      (subst (λ (w : Doc ℕ). Pairs (Stands f) (map (λ e. entry_row k e.entry) r.index.spaces) (filed (file_units r.index.starts k w))) said
      (of_file k r.bytes r.x r.index r.has is)))))

-- ---- a space of a unit

parted : (before : List (FileUnit EntryName)) (u : FileUnit EntryName) (after : List (FileUnit EntryName)) → filed (before ++ u ∷ after) ≡ filed before ++ (of_unit u ++ filed after)
unfolding filed
parted before u after = filed_append before (u ∷ after)

pub spaces_parted : (before : List (FileUnit EntryName)) (u : FileUnit EntryName) (after : List (FileUnit EntryName))
    → spaces_of (before ++ u ∷ after) ≡ spaces_of before ++ (spaces_below u.unit.kind u.unit.below ++ spaces_of after)
unfolding spaces_of
spaces_parted before u after = spaces_append before (u ∷ after)

-- it has the number of its unit's file
filed_there : (units : List (FileUnit EntryName)) (i s : ℕ) (u : FileUnit EntryName) (e : Node EntryName) → Nth 0 units i u → IsSpaceIn units i s → slice_get (spaces_of units) s ≡ Some e
    → slice_get (filed units) s ≡ Some (u.file, e)
filed_there units i s u e nth is got =
    let v = is.unit in
    let own = spaces_below v.unit.kind v.unit.below in
    let low = is.space.low in
    let high = is.space.high in
    let first = length (spaces_of is.before) in
    let j = s - first in
    let r = got_there own j (omega arith) in
    let number : first + j ≡ s = omega arith in
    let long = filed_long is.before in
    let number_filed : length (filed is.before) + j ≡ s = omega arith in
    let space : slice_get (spaces_of units) s ≡ Some r.0 =
    ap (λ (n : ℕ). slice_get (spaces_of units) n) (sym number)
    ∙ ap (λ (w : List (Node EntryName)). slice_get w (first + j)) (ap spaces_of is.units_are ∙ spaces_parted is.before v is.after)
    ∙ get_later (spaces_of is.before) (own ++ spaces_of is.after) j r.0 (get_first own (spaces_of is.after) j r.0 r.1) in
    let same : r.0 ≡ e = same_got (spaces_of units) s r.0 e space got in
    let mine : slice_get (of_unit v) j ≡ Some (v.file, r.0) = got_map (with_file v.file) own j r.0 r.1 in
    let there : slice_get (filed units) s ≡ Some (v.file, r.0) =
    ap (λ (n : ℕ). slice_get (filed units) n) (sym number_filed)
    ∙ ap (λ (w : List (ℕ × Node EntryName)). slice_get w (length (filed is.before) + j)) (ap filed is.units_are ∙ parted is.before v is.after)
    ∙ get_later (filed is.before) (of_unit v ++ filed is.after) j (v.file, r.0) (get_first (of_unit v) (filed is.after) j (v.file, r.0) mine) in
    let g = nth_get 0 units i u nth in
    let at : i ≡ g.0 = (let q = g.1 in omega arith) in
    let place : length is.before + 0 ≡ g.0 = (let q = is.number in omega arith) in
    let unit : slice_get units g.0 ≡ Some v =
    ap (λ (n : ℕ). slice_get units n) (sym place) ∙ ap (λ (w : List (FileUnit EntryName)). slice_get w (length is.before + 0)) is.units_are ∙ get_later is.before (v ∷ is.after) 0 v refl in
    let unit_is : v ≡ u = same_got units g.0 v u unit g.2 in
    there ∙ (λ k. Some ((unit_is k).file, same k))

-- what is read of a file by its number, whichever bytes and entries are said to be its own
record Reads {beside : Beside} (f : RunFacts beside) (n : ℕ) (bytes : List ℕ) (x : File) (i : ℕ) (row : EntryRow) (d : Node ℕ) (e : Node EntryName) : Type 0 where
  pub read : IsRead (file_read f n bytes x) i row d
  pub node_is : node_map (image_in (move f)) e ≡ node_map (file_read f n bytes x).after d

pub space_rows_shown : SpaceRowsLaw
space_rows_shown beside f t k facts listed n bytes x index h i s u e nth of is got =
    let all = all_stand f facts in
    let there = filed_there (units f) i s u e nth is got in
    let here : slice_get (filed (units f)) s ≡ Some (n, e) = there ∙ ap (λ (w : ℕ). Some (w, e)) of in
    let low = got_below (filed (units f)) s (n, e) here in
    let long = pairs_long (Stands f) (space_entries 0 f.indexes) (filed (units f)) all in
    let r = got_there (space_entries 0 f.indexes) s (omega arith) in
    let w = pairs_at (Stands f) (space_entries 0 f.indexes) (filed (units f)) all s r.0 (n, e) r.1 here in
    let same = one_file f facts n w.bytes bytes w.file x w.index index w.has h in
    let reads : Reads f n w.bytes w.file w.i w.row w.d e = record { read = w.read; node_is = w.node_is } in
    let own : Reads f n bytes x w.i w.row w.d e = subst (λ (q : File). Reads f n bytes q w.i w.row w.d e) same.1 (subst (λ (q : List ℕ). Reads f n q w.file w.i w.row w.d e) same.0 reads) in
    let text = with_text (space_entries 0 f.indexes) t.spaces t.commons listed.many_spaces listed.many_commons s r.0 r.1 in
    let space : slice_get k.spaces.items s ≡ Some text.0 = ap (λ (q : List SpaceRow). slice_get q s) listed.spaces ∙ text.2 in
    record {
      shows = record {
        i = w.i;
        x = w.row;
        d = w.d;
        row_is = ap (λ (q : SpaceRow). q.row) (get_or_from_slice_get k.spaces.items s text.0 no_space space) ∙ text.1 ∙ w.row_is;
        read = own.read;
        node_is = own.node_is;
      };
      listed = r.1 ∙ ap (λ (q : Row). Some q) w.row_is;
      text = w.text;
      is_space = w.is_space;
      said = ap name_in got ∙ ap (name_with e) w.named ∙ w.said;
    }

-- ---- the unit of a space

in_some : (before rest : List (FileUnit EntryName)) (j : ℕ) (e : Node EntryName) → slice_get (spaces_of rest) j ≡ Some e → InSomeUnit (before ++ rest) (length (spaces_of before) + j)
unfolding spaces_of
in_some before [] j e h = absurd cc
in_some before (u ∷ rest) j e h =
    let own = spaces_below u.unit.kind u.unit.below in
    elim (get_cases own (spaces_of rest) j e h) [
      | inl a ↦
          let low = got_below own j e a in
          let place : length before + 0 ≡ length before = omega arith in
          let there : slice_get (before ++ u ∷ rest) (length before) ≡ Some u = ap (slice_get (before ++ u ∷ rest)) (sym place) ∙ get_later before (u ∷ rest) 0 u refl in
          record {
            i = length before;
            unit = u;
            nth = nth_at (before ++ u ∷ rest) (length before) u there;
            space = record { before = before; unit = u; after = rest; units_are = refl; number = refl; space = record { low = omega arith; high = omega (arith, low) } };
          }
      | inr b ↦
          let r = in_some (before ++ u ∷ []) rest b.0 e b.2 in
          let at = b.1 in
          let many = length-append (spaces_of before) (own ++ []) in
          let none = length-append own [] in
          let sum = ap (λ (w : List (Node EntryName)). length w) (spaces_append before (u ∷ [])) in
          let number : length (spaces_of (before ++ u ∷ [])) + b.0 ≡ length (spaces_of before) + j = omega (arith, at, many, none, sum) in
          subst (InSomeUnit (before ++ u ∷ rest)) number
          (subst (λ (w : List (FileUnit EntryName)). InSomeUnit w (length (spaces_of (before ++ u ∷ [])) + b.0)) (append_assoc before (u ∷ []) rest) r)
    ]

no_spaces : length (spaces_of []) ≡ 0
unfolding spaces_of
no_spaces = refl

pub space_units : SpaceUnitsLaw
space_units units s e h =
    let r = in_some [] units s e h in
    let same : length (spaces_of []) + s ≡ s = omega (arith, no_spaces) in
    subst (InSomeUnit units) same r
