-- Rows stay, value by value, where the entries that they mean do.
use Rattle.std.proofs.Common.{◌≡◌, ◌≢◌, ◌↔◌, ℕ, suc, ◌+◌, ◌-◌, ◌<◌, ◌≤◌, Bool, true, false, List, [], ◌∷◌, ◌++◌, map, length, take, drop, Some, Ok, slice_get, refl, sym, ap, subst, ◌∙◌, inl, inr}
use Rattle.std.proofs.Common.{arith, eqb}
use Rattle.std.specs.Prelude.{◌&&◌, ◌||◌}
use Rattle.std.specs.List.{list_all, list_any}
use Rattle.std.proofs.lemmas.List.{take_at}
use Rattle.std.proofs.lemmas.Bool.{cases_Bool, cond-false, cond-true, eqb-false, eqb-true, false≢true}
use Rattle.dwz_def_reading.specs.Input.{Input}
use Rattle.dwz_def_reading.specs.Reading.{◌>>=◌}
use Rattle.dwz_def_reading.specs.Entries.{RawAttr}
use Rattle.dwz_def_reading.specs.Trees.{End, Entry}
use Rattle.dwz_def_reading.proofs.PartLemmas.{bind_ok}
use Rattle.dwz_def_reading.proofs.AttrPairs.{read_pairs}
use Rattle.dwz_def_reading.proofs.ListFacts.{drop_here}
use Rattle.dwz_graph.specs.Rows.{RowsMean, nodes}
use Rattle.dwz_graph.proofs.TreeLemmas.{node_attrs}
use Rattle.dwz_def_reading.specs.Documents.{Attr, Entries, Node}
use Rattle.dwz_def_reading.specs.Meanings.{MeaningContext, offset_of, str_offsets_base, text_sections_of, without_siblings}
use Rattle.dwz_def_reading.specs.Meant.{attr_with, attrs_meaning, meaning, node_meaning, with_attr}
use Rattle.dwz_model.specs.declared.place.Pair.{Pair}
use Rattle.dwz_graph_pruning.specs.declared.values.Known.{Known}
use Rattle.dwz_graph_pruning.specs.Stays.{asks, row_stays, stays}
use Rattle.dwz_graph_pruning.proofs.ValueLemmas.{Tells, sibling_stays, unasked_stays, value_stays}
use Rattle.dwz_graph.specs.Parts.{numbers_file}
use Rattle.dwz_def_reading.specs.Lists.{Each}
use Rattle.dwz_def_tops.proofs.Members.{each_append, each_split}
use Rattle.dwz_unit.specs.Rows.{EntryRow}
use Rattle.dwz_unit.specs.Values.{Reads}
use Rattle.dwz_def_encoding.specs.Bases.{bases_of}
use Rattle.dwz_def_encoding.specs.Fitting.{EachAttr}
use Rattle.dwz_def_encoding.specs.Pruned.{AttrStays}

-- ---- two tests

pub both_pass : (a b : Bool) → ((a && b) ≡ true) ↔ ((a ≡ true) × (b ≡ true))
both_pass true b = (λ e. (refl, e), λ h. h.1)
both_pass false b = (λ e. absurd (false≢true e), λ h. absurd (false≢true h.0))

-- one value does
abbrev pub passes : List ℕ → Known → RawAttr → Bool
passes slots k a = stays slots k a.pair (offset_of a)

-- ---- values have the names and forms that they are read with

pub none_asked : (places : List ℕ) (k : Known) (attrs : List RawAttr) → list_any (asks k.strp) (map (λ (a : RawAttr). a.pair) attrs) ≡ false → list_all (λ a. stays places k a.pair (offset_of a)) attrs
    ≡ true
none_asked places k [] none = refl
none_asked places k (a ∷ attrs) none = go (none_asked places k attrs) (asks k.strp a.pair) refl none where
  go : (list_any (asks k.strp) (map (λ (a : RawAttr). a.pair) attrs) ≡ false → list_all (λ a. stays places k a.pair (offset_of a)) attrs ≡ true) → (b : Bool) → asks k.strp a.pair ≡ b
      → (b || list_any (asks k.strp) (map (λ (a : RawAttr). a.pair) attrs)) ≡ false → list_all (λ a. stays places k a.pair (offset_of a)) (a ∷ attrs) ≡ true
  go more true e h = absurd (false≢true (sym h))
  go more false e h = (both_pass (stays places k a.pair (offset_of a)) (list_all (λ a. stays places k a.pair (offset_of a)) attrs)).1 (unasked_stays places k a e, more h)

-- where none has to be asked, the entry stays
pub unasked : (places : List ℕ) (k : Known) (pairs : List Pair) (at : Input) (row : EntryRow) → Reads row.entry.at pairs at row.entry.attrs → list_any (asks k.strp) pairs ≡ false
    → row_stays places k row ≡ true
unasked places k pairs at row reads none = none_asked places k row.entry.attrs (ap (list_any (asks k.strp)) (sym (read_pairs row.entry.at pairs at reads.behind row.entry.attrs reads.read)) ∙ none)

-- ---- an entry

module _ (s : MeaningContext ℕ) (places : List ℕ) (k : Known) (base : k.base ≡ str_offsets_base s) where
  abbrev pub Stays : Attr ℕ → Type 0
  Stays a = AttrStays (text_sections_of s.around.sources) s.around.sources.line places (bases_of s) a

  abbrev test : RawAttr → Bool
  test a = stays places k a.pair (offset_of a)

  abbrev Told : RawAttr → Type 0
  Told a = Tells s k.strp (numbers_file a)

  attrs_stay : (values : List RawAttr) (attrs : List (Attr ℕ)) → Each Told values → attrs_meaning s (without_siblings values) ≡ Ok attrs → (list_all test values ≡ true) ↔ Each Stays attrs
  unfolding without_siblings attrs_meaning
  attrs_stay [] attrs told means = (
    λ e. (let z : [] ≡ attrs = cc in subst (λ (w : List (Attr ℕ)). Each Stays w) z tt),
    λ h. refl,
  )
  attrs_stay (a ∷ values) attrs told means = elim (cases_Bool (eqb a.pair.name 0x01)) [
    | inl same ↦
        let name : a.pair.name ≡ 1 = eqb-true a.pair.name 1 same in
        let rest = attrs_stay values attrs told.1 (ap (attrs_meaning s) (sym (cond-true (eqb a.pair.name 0x01) (without_siblings values) (a ∷ without_siblings values) same)) ∙ means) in
        let here = sibling_stays s places k a name in
        (λ e. rest.0 ((both_pass (test a) (list_all test values)).0 e).1, λ h. (both_pass (test a) (list_all test values)).1 (here, rest.1 h))
    | inr other ↦
        let name : a.pair.name ≢ 1 = eqb-false a.pair.name 1 other in
        let m = ap (attrs_meaning s) (sym (cond-false (eqb a.pair.name 0x01) (without_siblings values) (a ∷ without_siblings values) other)) ∙ means in
        let x = bind_ok (meaning s a) (λ v. attrs_meaning s (without_siblings values) >>= with_attr a v) attrs m in
        let y = bind_ok (attrs_meaning s (without_siblings values)) (with_attr a x.0) attrs x.2 in
        let is : attr_with a x.0 ∷ y.0 ≡ attrs = cc in
        let here = value_stays s places k a name base told.0 in
        let rest = attrs_stay values y.0 told.1 y.1 in
        let all = both_pass (test a) (list_all test values) in (
          λ e. (let r = all.0 e in subst (λ (w : List (Attr ℕ)). Each Stays w) is (here.0 r.0, rest.0 r.1)),
          λ h. (let r : Each Stays (attr_with a x.0 ∷ y.0) = subst (λ (w : List (Attr ℕ)). Each Stays w) (sym is) h in all.1 (here.1 r.0, rest.1 r.1)),
        )
  ]

  abbrev pub ToldRow : EntryRow → Type 0
  ToldRow row = Each Told row.entry.attrs

  row_stays_iff : (row : EntryRow) (d : Node ℕ) → ToldRow row → node_meaning s row.entry ≡ Ok d → (row_stays places k row ≡ true) ↔ Each Stays d.attrs
  row_stays_iff row d told means = attrs_stay row.entry.attrs d.attrs told (node_attrs s row.entry d means).0

  -- ---- rows

  abbrev NodeStays : Node ℕ → Type 0
  NodeStays d = Each Stays d.attrs

  pub rows_stay : (rows : List EntryRow) (ds : List (Node ℕ)) → Each ToldRow rows → RowsMean s rows ds → (list_all (row_stays places k) rows ≡ true) ↔ Each NodeStays ds
  rows_stay [] [] told means = (λ e. tt, λ h. refl)
  rows_stay [] (d ∷ ds) told means = absurd means
  rows_stay (row ∷ rows) [] told means = absurd means
  rows_stay (row ∷ rows) (d ∷ ds) told means =
      let here = row_stays_iff row d told.0 means.0 in
      let rest = rows_stay rows ds told.1 means.1 in
      let all = both_pass (row_stays places k row) (list_all (row_stays places k) rows) in (
        λ e. (let r = all.0 e in (here.0 r.0, rest.0 r.1)),
        λ h. all.1 (here.1 h.0, rest.1 h.1),
      )

-- ---- a tree, and its entries in preorder

module _ (P : Attr ℕ → Type 0) where
  abbrev pub Of : Node ℕ → Type 0
  Of d = Each P d.attrs

  pub tree_to : (g : Entries ℕ) → EachAttr P g → Each Of (nodes g)
  unfolding nodes
  tree_to End h = tt
  tree_to (Entry d c n) h = (h.0, each_append Of (nodes c) (nodes n) (tree_to c h.1) (tree_to n h.2))

  pub tree_from : (g : Entries ℕ) → Each Of (nodes g) → EachAttr P g
  unfolding nodes
  tree_from End h = tt
  tree_from (Entry d c n) h = (let r = each_split Of (nodes c) (nodes n) h.1 in (h.0, tree_from c r.0, tree_from n r.1))

-- ---- the rows from one number to before another

module _ (p : EntryRow → Bool) (all : List EntryRow) where
  abbrev pub Between : ℕ → ℕ → List EntryRow
  Between i end = take (end - i) (drop i all)

  pub between_all : (first end : ℕ) (rows after : List EntryRow) → drop first all ≡ rows ++ after → first + length rows ≡ end → list_all p rows ≡ list_all p (Between first end)
  between_all first end rows after found count =
      let many : length rows ≡ end - first = omega (arith, count) in
      sym (ap (λ (w : List EntryRow). list_all p (take (end - first) w)) found ∙ ap (list_all p) (take_at rows after (end - first) many))

  split : (i end : ℕ) (row : EntryRow) → i < end → slice_get all i ≡ Some row → list_all p (Between i end) ≡ (p row && list_all p (Between (i + 1) end))
  split i end row lt found =
      let one : end - i ≡ suc (end - (i + 1)) = omega (arith, lt) in
      (λ j. list_all p (take (one j) (drop_here all i row found j)))

  pub between_more : (i end : ℕ) (row : EntryRow) (rows : List EntryRow) → i < end → slice_get all i ≡ Some row → p row ≡ true → list_all p rows ≡ list_all p (Between i end)
      → list_all p rows ≡ list_all p (Between (i + 1) end)
  between_more i end row rows lt found good so = so ∙ split i end row lt found ∙ ap (λ (b : Bool). b && list_all p (Between (i + 1) end)) good

  pub between_fails : (i end : ℕ) (row : EntryRow) (rows : List EntryRow) → i < end → slice_get all i ≡ Some row → p row ≡ false → list_all p rows ≡ list_all p (Between i end)
      → false ≡ list_all p rows
  between_fails i end row rows lt found bad so = sym (so ∙ split i end row lt found ∙ ap (λ (b : Bool). b && list_all p (Between (i + 1) end)) bad)

  pub between_none : (i end : ℕ) (rows : List EntryRow) → end ≤ i → list_all p rows ≡ list_all p (Between i end) → true ≡ list_all p rows
  between_none i end rows le so =
      let zero : end - i ≡ 0 = omega (arith, le) in
      sym (so ∙ ap (λ (n : ℕ). list_all p (take n (drop i all))) zero)
