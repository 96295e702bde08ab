-- What is written of an entry that was read is what the definition of forms says of what it means: value by value.
use Rattle.std.proofs.Common.{◌≡◌, ℕ, ◌+◌, Bool, true, false, List, [], ◌∷◌, ◌++◌, map, Ok, Option, Some, None, slice_get, refl, sym, ap, subst, ◌∙◌, cond, eqb, eqb-true, eq-eqb}
use Rattle.std.specs.Option.{option_map_or}
use Rattle.std.proofs.lemmas.Bool.{eqb-false}
use Rattle.std.proofs.lemmas.List.{map-append}
use Rattle.dwz_def_reading.specs.Reading.{◌>>=◌}
use Rattle.dwz_def_reading.specs.Entries.{RawAttr}
use Rattle.dwz_def_reading.proofs.PartLemmas.{bind_ok}
use Rattle.dwz_def_reading.specs.Documents.{Attr, Node, attr_map, node_map}
use Rattle.dwz_def_reading.specs.Meanings.{MeaningContext, scope_of, without_siblings}
use Rattle.dwz_def_reading.specs.Classes.{names_file}
use Rattle.dwz_def_reading.specs.Meant.{attr_with, attrs_meaning, meaning, with_attr}
use Rattle.dwz_def_tops.specs.Spots.{EntryName}
use Rattle.dwz_graph.proofs.StepLemmas.{skipped, taken}
use Rattle.dwz_graph.proofs.TreeLemmas.{node_attrs}
use Rattle.dwz_graph.specs.Named.{attrs_refs}
use Rattle.dwz_def_reading.specs.Lists.{Each}
use Rattle.dwz_unit.specs.Rows.{EntryRow}
use Rattle.dwz_def_encoding.specs.Carried.{IsStored}
use Rattle.dwz_def_encoding.specs.Placing.{UnitForms, UnitRole}
use Rattle.dwz_layout.specs.declared.known.ValueCounts.{ValueCounts}
use Rattle.dwz_layout.specs.declared.known.EntryTable.{EntryTable}
use Rattle.dwz_layout.specs.declared.walk.Origin.TheVariants.{Read as OfRow}
use Rattle.dwz_layout.specs.Attributes.{WritingContext, after, after_by, attrs_of, out_attr, out_attrs, out_by, row_attrs, tag_of}
use Rattle.dwz_layout.specs.Entries.{row, slot}
use Rattle.dwz_layout.specs.Known.{number_of, row_at}
use Rattle.dwz_layout.specs.Ways.{if_file, rewrite_of, way_in, way_rows}
use Rattle.dwz_layout.specs.declared.ways.Rewrite.TheVariants.{Dropped}
use Rattle.dwz_layout_items.specs.Lines.{line}
use Rattle.dwz_encode.specs.Shown.{Keys, attr_held, held_of, line_held, slot_held}
use Rattle.dwz_law_layout.specs.Knows.{FileRead, IsRead, KnowsEntry, KnowsFile, NewNumbers, files_in, firsts_at, given_attr, given_node, texts_in}
use Rattle.dwz_law_layout.proofs.ValueFits.{IsKnown, value_fits}

module _ (keys : Keys EntryName) (k : EntryTable) (f : FileRead) (here : WritingContext) (ft : UnitForms EntryName) (rn : NewNumbers) (h : UnitRole) (here_is : here.holder ≡ h) (fit_is : ft.holder ≡ h)
  where
    -- DW_AT_sibling is dropped
    dropped : (next : ValueCounts) (a : RawAttr) (attrs : List RawAttr) → a.pair.name ≡ 0x01 → out_attrs k f.number here next (a ∷ attrs) ≡ out_attrs k f.number here next attrs
    unfolding out_attrs
    dropped next a attrs e =
        let w : rewrite_of here.holder a.pair ≡ Dropped = ap (λ (t : Bool). cond t Dropped (if_file (names_file a.pair.name) (way_in here.holder a.pair.form way_rows))) (eq-eqb a.pair.name 0x01 e) in
        (λ i. out_by k f.number here.unit next a (w i) ++ out_attrs k f.number here (after_by next a (w i)) attrs)

    first_out : (next : ValueCounts) (a : RawAttr) (attrs : List RawAttr) → out_attrs k f.number here next (a ∷ attrs) ≡ out_attr k f.number here next a
        ++ out_attrs k f.number here (after here next a) attrs
    unfolding out_attrs
    first_out next a attrs = refl

    none_out : (next : ValueCounts) → out_attrs k f.number here next [] ≡ []
    unfolding out_attrs
    none_out next = refl

    module _ (s : MeaningContext ℕ) (alone : s.around.common ≡ None) where
      abbrev AttrsKnown : ValueCounts → List (Attr ℕ) → Type 0
      AttrsKnown next ds = IsKnown keys k f here.unit ft rn next (attrs_refs ds) (texts_in (map (attr_map f.after) ds)) (files_in (map (attr_map f.after) ds))

      abbrev AreFitted : ValueCounts → List RawAttr → List (Attr ℕ) → Type 0
      AreFitted next attrs ds = map (attr_held keys) (out_attrs k f.number here next attrs) ≡ map held_of (map (given_attr ft rn) (map (attr_map f.after) ds))

      no_attrs : (next : ValueCounts) (ds : List (Attr ℕ)) → attrs_meaning s (without_siblings []) ≡ Ok ds → AreFitted next [] ds
      unfolding attrs_meaning without_siblings
      no_attrs next ds means =
          let none : [] ≡ ds = cc in
          ap (map (attr_held keys)) (none_out next) ∙ ap (λ (w : List (Attr ℕ)). map held_of (map (given_attr ft rn) (map (attr_map f.after) w))) none

      one_more : (a : RawAttr) (attrs : List RawAttr) (next : ValueCounts) (ds : List (Attr ℕ)) → (a.pair.name ≡ 0x01 → ⊥) → attrs_meaning s (a ∷ without_siblings attrs) ≡ Ok ds → IsStored a
          → ((next : ValueCounts) (ds : List (Attr ℕ)) → attrs_meaning s (without_siblings attrs) ≡ Ok ds → AttrsKnown next ds → AreFitted next attrs ds) → AttrsKnown next ds
          → AreFitted next (a ∷ attrs) ds
      unfolding attrs_meaning
      one_more a attrs next ds other means stored rest known =
          let x = bind_ok (meaning s a) (λ v. attrs_meaning s (without_siblings attrs) >>= with_attr a v) ds means in
          let y = bind_ok (attrs_meaning s (without_siblings attrs)) (with_attr a x.0) ds x.2 in
          let z : attr_with a x.0 ∷ y.0 ≡ ds = cc in
          let split = subst (AttrsKnown next) (sym z) known in
          let left = map (attr_map f.after) y.0 in
          let done = value_fits keys k f here ft rn h here_is fit_is s alone a x.0 stored next other (attrs_refs y.0) (texts_in left) (files_in left) x.1 split in
          ap (map (attr_held keys)) (first_out next a attrs)
          ∙ map-append (attr_held keys) (out_attr k f.number here next a) (out_attrs k f.number here (after here next a) attrs)
          ∙ (λ i. done.fitted i ++ rest (after here next a) y.0 y.1 done.rest i)
          ∙ ap (λ (w : List (Attr ℕ)). map held_of (map (given_attr ft rn) (map (attr_map f.after) w))) z

      abbrev Fits : List RawAttr → Type 0
      Fits attrs = (next : ValueCounts) (ds : List (Attr ℕ)) → attrs_meaning s (without_siblings attrs) ≡ Ok ds → Each IsStored (without_siblings attrs) → AttrsKnown next ds → AreFitted next attrs ds

      by_name : (a : RawAttr) (attrs : List RawAttr) → Fits attrs → (next : ValueCounts) (ds : List (Attr ℕ)) → attrs_meaning s (without_siblings (a ∷ attrs)) ≡ Ok ds
          → Each IsStored (without_siblings (a ∷ attrs)) → AttrsKnown next ds
          → (t : Bool) → eqb a.pair.name 0x01 ≡ t → AreFitted next (a ∷ attrs) ds
      by_name a attrs rest next ds means stored known true t =
          let e = eqb-true a.pair.name 0x01 t in
          let skip = skipped a attrs e in
          ap (map (attr_held keys)) (dropped next a attrs e) ∙ rest next ds (ap (attrs_meaning s) (sym skip) ∙ means) (subst (Each IsStored) skip stored) known
      by_name a attrs rest next ds means stored known false t =
          let other : a.pair.name ≡ 0x01 → ⊥ = eqb-false a.pair.name 0x01 t in
          let take = taken a attrs other in
          let both = subst (Each IsStored) take stored in
          one_more a attrs next ds other (ap (attrs_meaning s) (sym take) ∙ means) both.0 (λ n es m kn. rest n es m both.1 kn) known

      attrs_fit : (attrs : List RawAttr) → Fits attrs
      attrs_fit [] = λ next ds means stored known. no_attrs next ds means
      attrs_fit (a ∷ attrs) = λ next ds means stored known. by_name a attrs (attrs_fit attrs) next ds means stored known (eqb a.pair.name 0x01) refl

    -- an entry that was read
    module _ (i : ℕ) (r : EntryRow) (d : Node ℕ) (file : KnowsFile k f) (read : IsRead f i r d) where
      pub row_there : row_at k (row f.number i) ≡ Some r
      row_there = ap (λ (w : List EntryRow). slice_get w i) file.rows ∙ read.found

      pub entry_fits : KnowsEntry keys k f here.unit ft rn i d → map (attr_held keys) (attrs_of k here (OfRow (row f.number i))) ≡ map held_of (given_node ft rn (node_map f.after d)).attrs
      entry_fits known =
          let s = scope_of f.around read.unit in
          ap (λ (o : Option EntryRow). map (attr_held keys) (option_map_or (row_attrs k here (OfRow (row f.number i))) o [])) row_there
          ∙ attrs_fit s file.alone r.entry.attrs (firsts_at k f i) d.attrs (node_attrs s r.entry d read.means).0 (file.stored i r read.found)
          (record { references = known.references; owners = known.owners; texts = known.texts; files = known.files })

      -- with its depth, its name and its tag
      pub slot_fits : KnowsEntry keys k f here.unit ft rn i d → keys.row (number_of k (row f.number i)) ≡ f.after d.at → (depth : ℕ)
          → slot_held keys k here (slot depth (OfRow (row f.number i))) ≡ line_held (line depth (given_node ft rn (node_map f.after d)))
      slot_fits known name depth =
          let s = scope_of f.around read.unit in
          let tag : tag_of k (OfRow (row f.number i)) ≡ d.tag = ap (λ (o : Option EntryRow). option_map_or (λ (x : EntryRow). x.entry.tag) o 0x3d) row_there
          ∙ sym (node_attrs s r.entry d read.means).1 in
          let attrs = entry_fits known in
          (λ j. record { depth = depth; key = name j; tag = tag j; attrs = attrs j })
