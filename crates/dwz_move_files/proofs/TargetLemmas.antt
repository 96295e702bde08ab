-- The tops that the references of a top go into, where it doesn't bind itself, are the tops of a part of the file's references.
use Rattle.std.proofs.Common.{◌≡◌, ℕ, ◌+◌, ◌<◌, ◌≤◌, Bool, true, false, List, [], ◌∷◌, ◌++◌, length, map, drop, Option, Some, Ok, slice_get, refl, sym, ap, subst, ◌∙◌, ⊎_elim, arith}
use Rattle.std.specs.Prelude.{slice_index, slice_range}
use Rattle.std.specs.List.{list_any}
use Rattle.std.proofs.lemmas.Bool.{cases_lt}
use Rattle.std.proofs.lemmas.Grind.{flat_map-append}
use Rattle.std.proofs.lemmas.List.{append-nil, append_assoc, length-map, map-append}
use Rattle.dwz_def_tops.specs.Alike.{any_attr, any_in, attr_binds, binding_forms, entry_binds}
use Rattle.dwz_def_tops.specs.Spots.{EntryName, Import, InChain, InType, PartialOf, PartialRoot, RootOf, SpaceAt, Top, UnitOf, Within}
use Rattle.dwz_def_tops.specs.Targets.{attrs_into, entries_into, refs_into, targets_of}
use Rattle.dwz_def_reading.specs.Entries.{RawAttr}
use Rattle.dwz_def_reading.specs.Lists.{Each}
use Rattle.dwz_def_reading.specs.Rows.{has}
use Rattle.dwz_def_reading.specs.Trees.{End, Entry}
use Rattle.dwz_def_reading.specs.Units.{RawUnit, entries_in}
use Rattle.dwz_def_reading.proofs.ListFacts.{drop_first, got_below, range_none}
use Rattle.dwz_def_reading.proofs.CaseFacts.{or_left, or_right}
use Rattle.dwz_graph.specs.Rows.{RowsMean, node_refs, nodes, nodes_refs}
use Rattle.dwz_graph.specs.FlatTops.{HasTopOfFile}
use Rattle.dwz_graph.proofs.PartLemmas.{rows_unit}
use Rattle.dwz_graph.proofs.TreeLemmas.{tree_means}
use Rattle.dwz_graph.specs.Names.{top_in}
use Rattle.dwz_def_reading.specs.Documents.{Attr, DwUnit, Entries, Node, Value, attr_map, entries_map, node_map}
use Rattle.dwz_def_reading.specs.Meanings.{Around, MeanAttrs, MeaningContext, MeansAttr, scope_of, without_siblings}
use Rattle.dwz_def_reading.specs.Classes.{class_of}
use Rattle.dwz_def_reading.specs.Meant.{meaning}
use Rattle.dwz_def_reading.proofs.MeaningLemmas.{value_agrees}
use Rattle.dwz_def_reading.proofs.MeaningUnits.{node_agrees}
use Rattle.dwz_graph.specs.Named.{attrs_refs, refs_beside, value_refs}
use Rattle.dwz_graph.specs.Resolved.{place_at}
use Rattle.dwz_unit.proofs.RowsFound.{rows-length}
use Rattle.dwz_graph.proofs.SurroundingLemmas.{own_range}
use Rattle.dwz_graph.proofs.PlainBeside.{none_beside}
use Rattle.dwz_unit.specs.Rows.{EntryRow, rows_below, rows_of}
use Rattle.dwz_unit.proofs.RowLemmas.{shown-length}
use Rattle.dwz_move.specs.Bound.{is_expression, some_of, somes}
use Rattle.dwz_move.specs.Known.{KnowsRefs, tops_of_refs}
use Rattle.dwz_graph.specs.Standing.{StandsAt}
use Rattle.dwz_move.specs.Values.{is_entry}
use Rattle.dwz_move.proofs.BindLemmas.{said_expression, value_says}
use Rattle.dwz_move.proofs.TreeBinds.{any_top}
use Rattle.dwz_move_files.proofs.ListParts.{range_map, range_split}

-- ---- tops of names

one_into : (s : EntryName) (refs : List EntryName) → some_of (top_in s) ++ refs_into refs ≡ refs_into (s ∷ refs)
one_into (Within t path) refs = refl
one_into (UnitOf u) refs = refl
one_into (RootOf u) refs = refl
one_into (SpaceAt u p) refs = refl
one_into (InType u p) refs = refl
one_into (PartialOf u) refs = refl
one_into (PartialRoot u) refs = refl
one_into (InChain p c d) refs = refl
one_into (Import u p) refs = refl

somes_into : (name : ℕ → EntryName) (raw : List RawUnit) (numbers : List ℕ) → somes (tops_of_refs name raw numbers) ≡ refs_into (map name (map (place_at raw) numbers))
somes_into name raw [] = refl
somes_into name raw (i ∷ numbers) =
    ap (λ (w : List ℕ). some_of (top_in (name (place_at raw i))) ++ w) (somes_into name raw numbers) ∙ one_into (name (place_at raw i)) (map name (map (place_at raw) numbers))

refs_append : (xs ys : List EntryName) → refs_into (xs ++ ys) ≡ refs_into xs ++ refs_into ys
refs_append [] ys = refl
refs_append (s ∷ xs) ys =
    sym (one_into s (xs ++ ys))
    ∙ ap (λ (w : List ℕ). some_of (top_in s) ++ w) (refs_append xs ys)
    ∙ sym (append_assoc (some_of (top_in s)) (refs_into xs) (refs_into ys))
    ∙ ap (λ (w : List ℕ). w ++ refs_into ys) (one_into s xs)

-- ---- entries that hold no location list

-- all that the attribute names is a reference, or an operand of an expression
abbrev Free : Attr ℕ → Type 0
Free a = value_refs a.value ≡ a.value.refs

abbrev FreeNode : Node ℕ → Type 0
FreeNode d = Each Free d.attrs

each_left : {X : Type 0} (P : X → Type 0) (xs ys : List X) → Each P (xs ++ ys) → Each P xs
each_left P [] ys h = tt
each_left P (x ∷ xs) ys h = (h.0, each_left P xs ys h.1)

each_right : {X : Type 0} (P : X → Type 0) (xs ys : List X) → Each P (xs ++ ys) → Each P ys
each_right P [] ys h = h
each_right P (x ∷ xs) ys h = each_right P xs ys h.1

module _ (name : ℕ → EntryName) where
  attrs_free : (attrs : List (Attr ℕ)) → Each Free attrs → attrs_into (map (attr_map name) attrs) ≡ refs_into (map name (attrs_refs attrs))
  attrs_free [] h = refl
  attrs_free (a ∷ attrs) h =
      (λ i. refs_into (map name (sym h.0 i)) ++ attrs_free attrs h.1 i)
      ∙ sym (refs_append (map name (value_refs a.value)) (map name (attrs_refs attrs)))
      ∙ ap refs_into (sym (map-append name (value_refs a.value) (attrs_refs attrs)))

  two_parts : (ds es : List (Node ℕ)) → refs_into (map name (nodes_refs (ds ++ es))) ≡ refs_into (map name (nodes_refs ds)) ++ refs_into (map name (nodes_refs es))
  two_parts ds es =
      ap (λ (w : List ℕ). refs_into (map name w)) (flat_map-append node_refs ds es)
      ∙ ap refs_into (map-append name (nodes_refs ds) (nodes_refs es))
      ∙ refs_append (map name (nodes_refs ds)) (map name (nodes_refs es))

  one_node : (d : Node ℕ) (ds : List (Node ℕ)) → FreeNode d → attrs_into (map (attr_map name) d.attrs) ++ refs_into (map name (nodes_refs ds)) ≡ refs_into (map name (nodes_refs (d ∷ ds)))
  one_node d ds h =
      ap (λ (w : List ℕ). w ++ refs_into (map name (nodes_refs ds))) (attrs_free d.attrs h)
      ∙ sym (refs_append (map name (node_refs d)) (map name (nodes_refs ds)))
      ∙ ap refs_into (sym (map-append name (node_refs d) (nodes_refs ds)))

  entries_free : (g : Entries ℕ) → Each FreeNode (nodes g) → entries_into (entries_map name g) ≡ refs_into (map name (nodes_refs (nodes g)))
  unfolding entries_into entries_map nodes
  entries_free End h = refl
  entries_free (Entry d c n) h =
      ap (λ (w : List ℕ). attrs_into (map (attr_map name) d.attrs) ++ w)
      ((λ i. entries_free c (each_left FreeNode (nodes c) (nodes n) h.1) i ++ entries_free n (each_right FreeNode (nodes c) (nodes n) h.1) i) ∙ sym (two_parts (nodes c) (nodes n)))
      ∙ one_node d (nodes c ++ nodes n) h.0

  targets_free : (t : Top) (d : Node ℕ) (g : Entries ℕ) → t.node ≡ node_map name d → t.below ≡ entries_map name g → Each FreeNode (nodes (Entry d g End))
      → targets_of t ≡ refs_into (map name (nodes_refs (nodes (Entry d g End))))
  unfolding nodes
  targets_free t d g node below h =
      (λ i. attrs_into (node i).attrs ++ entries_into (below i))
      ∙ ap (λ (w : List ℕ). attrs_into (map (attr_map name) d.attrs) ++ w) (entries_free g (each_left FreeNode (nodes g) [] h.1))
      ∙ one_node d (nodes g) h.0
      ∙ ap (λ (w : List (Node ℕ)). refs_into (map name (nodes_refs (d ∷ w)))) (sym (append-nil (nodes g)))

-- ---- what doesn't bind holds none

module _ (tops : List Top) (unit : ℕ) (name : ℕ → EntryName) (s : MeaningContext ℕ) where
  value_free : (r : RawAttr) (b : Attr ℕ) → MeansAttr s r b → attr_binds tops unit (attr_map name b) ≡ false → Free b
  value_free r b m free = by (is_entry (class_of r.pair.form)) (is_expression (class_of r.pair.form)) refl refl where
    means : meaning s r ≡ Ok b.value
    means = ((value_agrees s r).ok b.value).1 m.value

    form_free : has r.pair.form binding_forms ≡ false
    form_free = ap (λ (f : ℕ). has f binding_forms) (sym m.form) ∙ or_left (has b.form binding_forms) _ free

    by : (x y : Bool) → is_entry (class_of r.pair.form) ≡ x → is_expression (class_of r.pair.form) ≡ y → Free b
    by true y p q = let o = (value_says s r b.value form_free means).0 p in subst (λ (v : Value ℕ). value_refs v ≡ v.refs) (sym o.1) refl
    by false true p q = let o = said_expression s r b.value q means in subst (λ (v : Value ℕ). value_refs v ≡ v.refs) (sym o.value) refl
    by false false p q =
        let o = (value_says s r b.value form_free means).1 p q in
        ap (refs_beside b.value.plain) o.1 ∙ none_beside b.value.plain ∙ sym o.1

  attrs_hold_none : (raw : List RawAttr) (attrs : List (Attr ℕ)) → MeanAttrs s raw attrs → list_any (attr_binds tops unit) (map (attr_map name) attrs) ≡ false → Each Free attrs
  attrs_hold_none [] [] m free = tt
  attrs_hold_none [] (b ∷ attrs) m free = absurd m
  attrs_hold_none (r ∷ raw) [] m free = absurd m
  attrs_hold_none (r ∷ raw) (b ∷ attrs) m free = (
    value_free r b m.0 (or_left (attr_binds tops unit (attr_map name b)) _ free),
    attrs_hold_none raw attrs m.1 (or_right (attr_binds tops unit (attr_map name b)) _ free),
  )

  rows_hold_none : (rows : List EntryRow) (ds : List (Node ℕ)) → RowsMean s rows ds → list_any (entry_binds tops unit) (map (node_map name) ds) ≡ false → Each FreeNode ds
  rows_hold_none [] [] m free = tt
  rows_hold_none [] (d ∷ ds) m free = absurd m
  rows_hold_none (row ∷ rows) [] m free = absurd m
  rows_hold_none (row ∷ rows) (d ∷ ds) m free =
      let own = or_left (entry_binds tops unit (node_map name d)) _ free in
      let means = ((node_agrees s row.entry).ok d).0 m.0 in (
        attrs_hold_none (without_siblings row.entry.attrs) d.attrs means.attrs (or_right _ (any_attr (attr_binds tops unit) (node_map name d)) own),
        rows_hold_none rows ds m.1 (or_right (entry_binds tops unit (node_map name d)) _ free),
      )

-- ---- the references of rows of one unit stand one behind the other

module _ (around : Around ℕ) (raw : List RawUnit) (name : ℕ → EntryName) (refs starts : List ℕ) (into : List (Option ℕ)) (knows : KnowsRefs around raw name refs starts into) where
  abbrev start : ℕ → ℕ
  start i = slice_index starts i

  abbrev PartsAre : ℕ → ℕ → List (Node ℕ) → Type 0
  PartsAre i k ds = (start i ≤ start k) × (map (place_at raw) (slice_range refs (start i) (start k)) ≡ nodes_refs ds)

  module _ (n : ℕ) (u : RawUnit) (is_unit : slice_get raw n ≡ Some u) where
    parts_are : (i k : ℕ) (rows after : List EntryRow) (ds : List (Node ℕ)) → Each (λ row. row.unit ≡ n) rows → i + length rows ≡ k → drop i (rows_of raw) ≡ rows ++ after
        → RowsMean (scope_of around u) rows ds → PartsAre i k ds
    parts_are i k [] after [] own count found means =
        let same : i ≡ k = omega arith in
        let le : start i ≤ start k = subst (λ (j : ℕ). start i ≤ start j) same (omega arith) in
        let ge : start k ≤ start i = subst (λ (j : ℕ). start j ≤ start i) same (omega arith) in
        (le, ap (map (place_at raw)) (range_none refs (start i) (start k) ge))
    parts_are i k [] after (d ∷ ds) own count found means = absurd means
    parts_are i k (row ∷ rows) after [] own count found means = absurd means
    parts_are i k (row ∷ rows) after (d ∷ ds) own count found means =
        let f = drop_first (rows_of raw) i row (rows ++ after) found in
        let within : i < entries_in raw = (let lt = got_below (rows_of raw) i row f.0 in let len = rows-length raw in omega arith) in
        let rise = knows.parted.rise i within in
        let low = rise.0 in
        let part = sym (own_range around.common raw refs (start i) (start (i + 1)) knows.entries) ∙ knows.parted.part i row u d within f.0 (ap (λ (j : ℕ). slice_get raw j) own.0 ∙ is_unit) means.0 in
        let more = parts_are (i + 1) k rows after ds own.1 (omega arith) f.1 means.1 in
        let high = more.0 in (
          omega arith,
          ap (map (place_at raw)) (range_split refs (start i) (start (i + 1)) (start k) low high)
              ∙ map-append (place_at raw) (slice_range refs (start i) (start (i + 1))) (slice_range refs (start (i + 1)) (start k))
              ∙ (λ j. part j ++ more.1 j),
        )

  start_within : (k : ℕ) → k ≤ entries_in raw → start k ≤ length refs
  start_within k le = ⊎_elim
      (λ lt. (let rise = knows.parted.rise k lt in let a = rise.0 in let b = rise.1 in omega arith))
      (λ ge. (let same : k ≡ entries_in raw = omega arith in let last = knows.parted.last in subst (λ (j : ℕ). start j ≤ length refs) (sym same) (omega arith)))
      (cases_lt k (entries_in raw))

  -- ---- a top

  module _ (said : List (DwUnit ℕ)) (file unit : ℕ) (t : Top) (first end : ℕ) (stands : StandsAt around name raw said file unit t first end) where
    abbrev h : HasTopOfFile around name raw said file unit t
    h = stands.stands

    abbrev s : MeaningContext ℕ
    s = scope_of around h.u

    abbrev rows : List EntryRow
    rows = rows_below (Entry h.top.e h.top.c End) h.n h.top.p

    abbrev ds : List (Node ℕ)
    ds = nodes (Entry h.top.d h.top.g End)

    means : RowsMean s rows ds
    means = tree_means s (Entry h.top.e h.top.c End) (Entry h.top.d h.top.g End) h.n h.top.p h.top.means

    count : first + length rows ≡ end
    count =
        let many = shown-length (Entry h.top.e h.top.c End) h.n h.top.p in
        let to = stands.to in
        omega arith

    found : drop first (rows_of raw) ≡ rows ++ h.top.after
    found = ap (λ (k : ℕ). drop k (rows_of raw)) (sym stands.from) ∙ h.top.stand

    parts : PartsAre first end ds
    parts = parts_are h.n h.u h.is_unit first end rows h.top.after ds (rows_unit (Entry h.top.e h.top.c End) h.n h.top.p) count found means

    pub starts_rise : start first ≤ start end
    starts_rise = parts.0

    pub starts_end : end ≤ entries_in raw → start end ≤ length into
    starts_end le =
        let within = start_within end le in
        let same : length into ≡ length refs = ap length knows.into_are ∙ length-map refs (λ (i : ℕ). top_in (name (place_at raw i))) in
        omega arith

    pub targets_there : (tops : List Top) → any_in (entry_binds tops t.unit) t ≡ false → somes (slice_range into (start first) (start end)) ≡ targets_of t
    targets_there tops free =
        let none = rows_hold_none tops t.unit name s rows ds means (sym (any_top (entry_binds tops t.unit) name h.top.d h.top.g t h.top.node h.top.below) ∙ free) in
        ap (λ (w : List (Option ℕ)). somes (slice_range w (start first) (start end))) knows.into_are
        ∙ ap somes (range_map (λ (i : ℕ). top_in (name (place_at raw i))) refs (start first) (start end))
        ∙ somes_into name raw (slice_range refs (start first) (start end))
        ∙ ap (λ (w : List ℕ). refs_into (map name w)) parts.1
        ∙ sym (targets_free name t h.top.d h.top.g h.top.node h.top.below none)
