-- Each space that an index has is an entry of the unit that it is a space of: by induction over the units of a file, then over files.
use Rattle.std.proofs.Common.{◌≡◌, ℕ, suc, ◌+◌, ◌-◌, List, [], ◌∷◌, ◌++◌, length, map, drop, Ok, Some, slice_get}
use Rattle.std.proofs.Common.{refl, sym, ap, subst, ◌∙◌, arith}
use Rattle.std.proofs.lemmas.List.{append-nil, append_assoc, length-append, length-map}
use Rattle.dwz_def_reading.specs.Entries.{root_position}
use Rattle.dwz_def_reading.specs.Trees.{behind, first_below, size}
use Rattle.dwz_def_reading.specs.Units.{RawUnit, entry_count}
use Rattle.dwz_def_reading.proofs.ListFacts.{drop_first, get_first, got_map, got_there, same_got}
use Rattle.dwz_def_reading.specs.Documents.{Compile, Doc, DwUnit, Kind, Node, OfType, Partial, entries_map, kind_map, unit_map}
use Rattle.dwz_def_reading.specs.Files.{around_of}
use Rattle.dwz_def_reading.specs.Meanings.{Around, MeanUnits, scope_of}
use Rattle.dwz_def_reading.specs.Meant.{entries_meaning}
use Rattle.dwz_def_reading.proofs.FileLemmas.{file_agrees}
use Rattle.dwz_def_reading.proofs.MeaningUnits.{entries_agree}
use Rattle.dwz_def_tops.specs.Spots.{EntryName, FileUnit, in_file, named_files}
use Rattle.dwz_graph.proofs.TopThere.{left_behind}
use Rattle.dwz_graph.proofs.TreeLemmas.{same_size}
use Rattle.dwz_graph.specs.declared.file.File.{File}
use Rattle.dwz_graph.specs.declared.index.SpaceEntry.{SpaceEntry}
use Rattle.dwz_graph.specs.declared.index.Starts.{Starts}
use Rattle.dwz_graph.specs.Index.{Index}
use Rattle.dwz_graph.specs.Steps.{all_spaces, below_root, is_compile, is_space, spaces_among}
use Rattle.dwz_graph.specs.Steps.{space_entries as entries_in_unit, starts_behind as unit_behind}
use Rattle.dwz_graph.proofs.TopLemmas.{get_later}
use Rattle.dwz_graph.specs.Indexed.{AreIndexed, first_starts, starts_behind}
use Rattle.dwz_unit.specs.Rows.{EntryRow, rows_below, rows_from, rows_in, rows_of, units_of as raw_units}
use Rattle.dwz_unit.proofs.ShownLemmas.{rows_in-length}
use Rattle.dwz_graph.specs.Across.{file_units, name_at}
use Rattle.dwz_graph.proofs.TopRows.{units_long}
use Rattle.dwz_layout_order.specs.Shown.{Pairs}
use Rattle.dwz_layout_order.specs.Spaces.{spaces_below, spaces_of, spaces_under}
use Rattle.dwz_layout_order.proofs.ChainShown.{pairs_append, pairs_at}
use Rattle.dwz_law_layout.specs.Old.{IsSpaceIn}
use Rattle.dwz_layout.specs.declared.known.Row.{Row}
use Rattle.dwz_law_layout.specs.Beside.{Beside}
use Rattle.dwz_law_layout.specs.Facts.{AreFacts, HasFile, RunFacts, docs, units}
use Rattle.dwz_law_layout.specs.Listed.{entry_row, space_entries}
use Rattle.dwz_law_layout.proofs.FilesFound.{among_of, file_there, one_file}
use Rattle.dwz_law_layout.proofs.SpaceLists.{IsHere, in_list}
use Rattle.dwz_run_files.proofs.TreeUnits.{OfUnit}

-- ---- the units of spaces

abbrev numbers_of : ℕ → FileUnit EntryName → List ℕ
numbers_of i u = map (λ (e : Node EntryName). i) (spaces_below u.unit.kind u.unit.below)

-- for each space of units the number of its unit, where the first unit has that number
unfoldable space_units : ℕ → List (FileUnit EntryName) → List ℕ
space_units i [] = []
space_units i (u ∷ us) = numbers_of i u ++ space_units (suc i) us

units_append : (i : ℕ) (xs ys : List (FileUnit EntryName)) → space_units i (xs ++ ys) ≡ space_units i xs ++ space_units (i + length xs) ys
unfolding space_units
units_append i [] ys = (let none : i ≡ i + 0 = omega arith in ap (λ (n : ℕ). space_units n ys) none)
units_append i (u ∷ xs) ys =
    let next : suc i + length xs ≡ i + suc (length xs) = omega arith in
    ap (λ (w : List ℕ). numbers_of i u ++ w)
    (units_append (suc i) xs ys ∙ ap (λ (n : ℕ). space_units (suc i) xs ++ space_units n ys) next)
    ∙ sym (append_assoc (numbers_of i u) (space_units (suc i) xs) (space_units (i + suc (length xs)) ys))

as_many : (i : ℕ) (us : List (FileUnit EntryName)) → length (space_units i us) ≡ length (spaces_of us)
unfolding space_units spaces_of
as_many i [] = refl
as_many i (u ∷ us) =
    let own = spaces_below u.unit.kind u.unit.below in
    let one = length-append (numbers_of i u) (space_units (suc i) us) in
    let mine = length-map own (λ (e : Node EntryName). i) in
    let rest = as_many (suc i) us in
    let all = length-append own (spaces_of us) in
    omega arith

-- the number of a space's unit
unit_there : (us : List (FileUnit EntryName)) (unit s : ℕ) → IsSpaceIn us unit s → slice_get (space_units 0 us) s ≡ Some unit
unfolding space_units
unit_there us unit s is =
    let own = spaces_below is.unit.unit.kind is.unit.unit.below in
    let low = is.space.low in
    let high = is.space.high in
    let before = length (spaces_of is.before) in
    let j = s - before in
    let r = got_there own j (omega arith) in
    let long = as_many 0 is.before in
    let number : length (space_units 0 is.before) + j ≡ s = omega arith in
    let i = 0 + length is.before in
    let unit_is : i ≡ unit = omega (arith, is.number) in
    let mine : slice_get (numbers_of i is.unit) j ≡ Some i = got_map (λ (e : Node EntryName). i) own j r.0 r.1 in
    let behind = space_units (suc i) is.after in
    ap (λ (n : ℕ). slice_get (space_units 0 us) n) (sym number)
    ∙ ap (λ (w : List ℕ). slice_get w (length (space_units 0 is.before) + j))
    (ap (space_units 0) is.units_are ∙ units_append 0 is.before (is.unit ∷ is.after))
    ∙ get_later (space_units 0 is.before) (numbers_of i is.unit ++ behind) j i (get_first (numbers_of i is.unit) behind j i mine)
    ∙ ap (λ (n : ℕ). Some n) unit_is

-- ---- the units of a file

pairs_map : {X Y Z : Type 0} (P : X → Y → Type 0) (Q : X → Z → Type 0) (g : Y → Z) (xs : List X) (ys : List Y)
    → ((x : X) (y : Y) → P x y → Q x (g y)) → Pairs P xs ys → Pairs Q xs (map g ys)
pairs_map P Q g [] [] h all = tt
pairs_map P Q g [] (y ∷ ys) h all = absurd all
pairs_map P Q g (x ∷ xs) [] h all = absurd all
pairs_map P Q g (x ∷ xs) (y ∷ ys) h all = (h x y all.0, pairs_map P Q g xs ys h all.1)

pairs_first : {X Y Z : Type 0} (P : X → Y → Type 0) (Q : Z → Y → Type 0) (g : X → Z) (xs : List X) (ys : List Y)
    → ((x : X) (y : Y) → P x y → Q (g x) y) → Pairs P xs ys → Pairs Q (map g xs) ys
pairs_first P Q g [] [] h all = tt
pairs_first P Q g [] (y ∷ ys) h all = absurd all
pairs_first P Q g (x ∷ xs) [] h all = absurd all
pairs_first P Q g (x ∷ xs) (y ∷ ys) h all = (h x y all.0, pairs_first P Q g xs ys h all.1)

module _ (around : Around ℕ) (name : ℕ → EntryName) (raw : List RawUnit) (first : ℕ) where
  -- the entry of a space is of the unit with that number
  abbrev InUnit : SpaceEntry → ℕ → Type 0
  InUnit x unit = OfUnit raw first unit x.entry

  below_the_root : (u : RawUnit) (j start : ℕ) (rest : List EntryRow) → drop start (rows_of raw) ≡ rows_in u j start ++ rest
      → drop (start + 1) (rows_of raw) ≡ rows_below u.below j (first_below (root_position start)) ++ rest
  unfolding rows_below
  below_the_root u j start rest h =
      let p = root_position start in
      let row : EntryRow = record { entry = u.root; unit = j; depth = p.depth; end = (behind p u.below).before } in
      let f = drop_first (rows_of raw) start row ((rows_below u.below j (first_below p) ++ []) ++ rest) h in
      f.1 ∙ ap (λ (w : List EntryRow). w ++ rest) (append-nil (rows_below u.below j (first_below p)))

  in_unit : (u : RawUnit) (v : DwUnit ℕ) (j i k start : ℕ) (rest : List EntryRow) → i ≡ first + j
      → entries_meaning (scope_of around u) u.below ≡ Ok v.below → drop start (rows_of raw) ≡ rows_in u j start ++ rest
      → Pairs InUnit (entries_in_unit is_space k start (below_root v))
      (map (λ (e : Node EntryName). i) (spaces_below (kind_map name v.kind) (entries_map name v.below)))
  in_unit u v j i k start rest number means h = by v.kind where
    own : (x : SpaceEntry) (e : Node EntryName) → IsHere (scope_of around u) name (rows_of raw) j x e → InUnit x i
    own x e w r found =
        let same : r.unit ≡ j = ap (λ (q : EntryRow). q.unit) (same_got (rows_of raw) x.entry r w.row found w.found) ∙ w.of_unit in
        number ∙ ap (λ (q : ℕ). first + q) (sym same)

    by : (kind : Kind ℕ) → Pairs InUnit (entries_in_unit is_space k start (record { compile = is_compile kind; list = v.below }))
        (map (λ (e : Node EntryName). i) (spaces_below (kind_map name kind) (entries_map name v.below)))
    by Compile =
        pairs_map (IsHere (scope_of around u) name (rows_of raw) j) InUnit (λ (e : Node EntryName). i)
        (spaces_among is_space 0 k (start + 1) v.below) (spaces_under (entries_map name v.below)) own
        (in_list (scope_of around u) name (rows_of raw) j u.below v.below (first_below (root_position start)) rest 0 k means
        (below_the_root u j start rest h))
    by (OfType signature main) = tt
    by Partial = tt

  in_units : (file : ℕ) (us : List RawUnit) (vs : List (DwUnit ℕ)) (j i start : ℕ) (s : Starts) → MeanUnits around us vs → i ≡ first + j
      → drop start (rows_of raw) ≡ rows_from us j start
      → Pairs InUnit (all_spaces is_space s start (map below_root vs)) (space_units i (map (in_file file) (map (unit_map name) vs)))
  unfolding all_spaces space_units rows_from
  in_units file [] [] j i start s means number rows = tt
  in_units file [] (v ∷ vs) j i start s means number rows = absurd means
  in_units file (u ∷ us) [] j i start s means number rows = absurd means
  in_units file (u ∷ us) (v ∷ vs) j i start s means number rows =
      let below = ((entries_agree (scope_of around u) u.below).ok v.below).1 means.0.below in
      let same = same_size (scope_of around u) u.below v.below below in
      let rest = rows_from us (j + 1) (start + entry_count u) in
      let long = rows_in-length u j start in
      let end = start + entry_count u in
      let later = left_behind (rows_of raw) start end (rows_in u j start) rest rows (ap (λ (w : ℕ). start + w) long) in
      let place : end ≡ start + 1 + size v.below = omega (arith, same) in
      let next = unit_behind is_space s (below_root v) in
      let number_next : suc i ≡ first + (j + 1) = omega (arith, number) in
      let others = space_units (suc i) (map (in_file file) (map (unit_map name) vs)) in
      let more = in_units file us vs (j + 1) (suc i) end next means.1 number_next later in
      pairs_append InUnit (entries_in_unit is_space s.space start (below_root v))
      (all_spaces is_space next (start + 1 + size v.below) (map below_root vs))
      (map (λ (e : Node EntryName). i) (spaces_below (kind_map name v.kind) (entries_map name v.below))) others
      (in_unit u v j i s.space start rest number below rows)
      (subst (λ (w : ℕ). Pairs InUnit (all_spaces is_space next w (map below_root vs)) others) place more)

-- ---- file by file

-- the row is that of an entry of the unit with that number
abbrev RowInUnit : {beside : Beside} → RunFacts beside → Row → ℕ → Type 0
RowInUnit f r unit =
    (bytes : List ℕ) (x : File) (index : Index) → HasFile f r.file bytes x index → OfUnit (raw_units x.units) index.starts.unit unit r.entry

module _ {beside : Beside} (f : RunFacts beside) (facts : AreFacts f) where
  -- the spaces of a file, and of files, the first of which has that number
  abbrev Spaces : ℕ → Index → Doc ℕ → Type 0
  Spaces n index doc =
      Pairs (RowInUnit f) (map (λ e. entry_row n e.entry) index.spaces) (space_units index.starts.unit (file_units index.starts n doc))

  of_file : (n : ℕ) (bytes : List ℕ) (x : File) (index : Index) (h : HasFile f n bytes x index)
      → Spaces n index (among_of f facts n bytes x index h).kept.read.doc
  of_file n bytes x index h =
      let is = among_of f facts n bytes x index h in
      let doc = is.kept.read.doc in
      let name : ℕ → EntryName = name_at index.starts doc in
      let raw = raw_units x.units in
      let first = index.starts.unit in
      let around = around_of bytes raw in
      let means : MeanUnits around raw doc.units = (((file_agrees is.kept.limits bytes).ok (raw, doc)).0 is.kept.read.means).means in
      let none : first ≡ first + 0 = omega arith in
      let all = in_units around name raw first n raw doc.units 0 first 0 index.starts means none refl in
      let numbers = space_units first (file_units index.starts n doc) in
      let some = subst (λ (w : List SpaceEntry). Pairs (InUnit around name raw first) w numbers) (sym is.index.tops.spaces_are) all in
      pairs_first (InUnit around name raw first) (RowInUnit f) (λ (e : SpaceEntry). entry_row n e.entry) index.spaces numbers
      (λ e unit w bytes' x' index' h'.
      (let files = (one_file f facts n bytes bytes' x x' index index' h h').1 in
      let indexes : index ≡ index' = same_got f.indexes n index index' h.index_is h'.index_is in
      subst (λ (q : File). OfUnit (raw_units q.units) index'.starts.unit unit e.entry) files
      (subst (λ (q : Index). OfUnit raw q.starts.unit unit e.entry) indexes w))) some

  by_files : (m : ℕ) (s end : Starts) (some : List (Doc ℕ)) (indexes : List Index) → AreIndexed s some indexes end
      → ((k : ℕ) (doc : Doc ℕ) (z : Index) → slice_get some k ≡ Some doc → slice_get indexes k ≡ Some z → Spaces (m + k) z doc)
      → Pairs (RowInUnit f) (space_entries m indexes) (space_units s.unit (named_files m s.unit s.top some))
  unfolding space_entries named_files space_units
  by_files m s end [] [] h each = tt
  by_files m s end [] (z ∷ indexes) h each = absurd h
  by_files m s end (d ∷ some) [] h each = absurd h
  by_files m s end (d ∷ some) (z ∷ indexes) h each =
      let next = starts_behind s d z in
      let none : m + 0 ≡ m = omega arith in
      let own = file_units s m d in
      let others = named_files (suc m) next.unit next.top some in
      let rows = map (λ (e : SpaceEntry). entry_row m e.entry) z.spaces in
      let first : Pairs (RowInUnit f) rows (space_units s.unit own) =
      subst (λ (w : Starts). Pairs (RowInUnit f) rows (space_units w.unit (file_units w m d))) h.0.tops.starts_are
      (subst (λ (w : ℕ). Spaces w z d) none (each 0 d z refl refl)) in
      let rest : Pairs (RowInUnit f) (space_entries (suc m) indexes) (space_units next.unit others) =
      by_files (suc m) next end some indexes h.1 (λ k doc y g q.
      (let far : m + suc k ≡ suc m + k = omega arith in subst (λ (w : ℕ). Spaces w y doc) far (each (suc k) doc y g q))) in
      let split : space_units s.unit (own ++ others) ≡ space_units s.unit own ++ space_units next.unit others =
      units_append s.unit own others ∙ ap (λ (w : ℕ). space_units s.unit own ++ space_units (s.unit + w) others) (units_long s m d) in
      subst (Pairs (RowInUnit f) (rows ++ space_entries (suc m) indexes)) (sym split)
      (pairs_append (RowInUnit f) rows (space_entries (suc m) indexes) (space_units s.unit own) (space_units next.unit others) first rest)

  all_in_units : Pairs (RowInUnit f) (space_entries 0 f.indexes) (space_units 0 (units f))
  all_in_units =
      by_files 0 first_starts facts.indexed.end (docs f) f.indexes facts.indexed.are (λ k doc z g q.
      (let r = file_there f facts k z q in
      let own : r.index ≡ z = same_got f.indexes k r.index z r.has.index_is q in
      let is = among_of f facts k r.bytes r.x r.index r.has in
      let said : is.kept.read.doc ≡ doc = same_got (docs f) k is.kept.read.doc doc is.doc_is g in
      let here : k ≡ 0 + k = omega arith in
      subst (λ (w : ℕ). Spaces w z doc) here
      (subst (λ (w : Index). Spaces k w doc) own (subst (λ (w : Doc ℕ). Spaces k r.index w) said (of_file k r.bytes r.x r.index r.has)))))

  -- ---- a space

  pub space_of_unit : (n : ℕ) (bytes : List ℕ) (x : File) (index : Index) → HasFile f n bytes x index
      → (unit s i : ℕ) → slice_get (space_entries 0 f.indexes) s ≡ Some (entry_row n i) → IsSpaceIn (units f) unit s
      → OfUnit (raw_units x.units) index.starts.unit unit i
  space_of_unit n bytes x index h unit s i at is =
      pairs_at (RowInUnit f) (space_entries 0 f.indexes) (space_units 0 (units f)) all_in_units s (entry_row n i) unit at
      (unit_there (units f) unit s is) bytes x index h
