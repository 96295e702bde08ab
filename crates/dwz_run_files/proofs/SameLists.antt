-- Once texts have moved, what looks into the lists finds the same but where it asks for texts.
use Rattle.std.proofs.Common.{◌≡◌, ◌⊎◌, ℕ, zero, suc, ◌+◌, List, [], ◌∷◌, ◌++◌, map, Option, Some, None, slice_get, refl, sym, ap, subst}
use Rattle.std.proofs.Common.{◌∙◌, inl, inr, arith}
use Rattle.std.specs.Option.{option_map_or}
use Rattle.std.specs.Prelude.{slice_index, slice_index_or, slice_range}
use Rattle.dwz_layout_items.specs.declared.order.Item.{Item}
use Rattle.dwz_layout_items.specs.declared.order.ItemKind.{ItemKind}
use Rattle.dwz_layout_items.specs.declared.order.ItemKind.TheVariants.{Import, InChain, Root, Space, Top, Whole}
use Rattle.dwz_unit.specs.Rows.{EntryRow, rows_of, units_of}
use Rattle.dwz_layout.specs.declared.known.FileRows.{FileRows}
use Rattle.dwz_layout.specs.declared.known.EntryTable.{EntryTable}
use Rattle.dwz_layout.specs.declared.known.Row.{Row}
use Rattle.dwz_layout.specs.declared.known.SpaceRow.{SpaceRow}
use Rattle.dwz_layout.specs.declared.known.TextAt.{TextAt}
use Rattle.dwz_layout.specs.declared.known.TextAt.TheVariants.{Own, Pooled, Shared}
use Rattle.dwz_layout.specs.declared.order.Sort.{Sort}
use Rattle.dwz_layout.specs.declared.order.Sort.TheVariants.{Compile, OfType, Partial}
use Rattle.dwz_layout.specs.declared.order.UnitItems.{UnitItems}
use Rattle.dwz_layout.specs.declared.walk.Origin.{Origin}
use Rattle.dwz_layout.specs.declared.walk.Origin.TheVariants.{Chained, Imported, OwnRoot, Read as OfRow}
use Rattle.dwz_layout.specs.declared.walk.Slot.{Slot}
use Rattle.dwz_layout.specs.Entries.{items_slots, row, row_slots, slot, tree_slots, what_slots, whole_slots}
use Rattle.dwz_layout.specs.Known.{file_at, firsts_of, no_firsts, no_row, no_space, no_text, number_of, rows_in, space_at, text_at, top_row}
use Rattle.dwz_encode.specs.Shown.{HasRow, IsRow}
use Rattle.dwz_law_layout.specs.Knows.{FileRead, Writes}
use Rattle.dwz_encode_texts.specs.declared.pruning.PrunedFile.{PrunedFile}
use Rattle.dwz_encode_texts.specs.MovedTexts.{IsPooled}
use Rattle.dwz_run_files.specs.Moved.{AreMoved, RowMoved, RowsMoved, moved_if, moved_space, pruned_at}

-- ---- the rows of a file

-- they are there before and after
record BothRows (pruned : List (Option PrunedFile)) (n : ℕ) (old new : Option FileRows) : Type 0 where
  before : FileRows
  after : FileRows
  before_is : old ≡ Some before
  after_is : new ≡ Some after
  moved : RowMoved (pruned_at pruned n) before after

-- or neither
abbrev EitherRows : List (Option PrunedFile) → ℕ → Option FileRows → Option FileRows → Type 0
EitherRows pruned n old new = ((old ≡ None) × (new ≡ None)) ⊎ BothRows pruned n old new

either_rows : (pruned : List (Option PrunedFile)) (c : ℕ) (rows moved : List FileRows) → RowsMoved pruned c rows moved → (j : ℕ)
    → EitherRows pruned (c + j) (slice_get rows j) (slice_get moved j)
either_rows pruned c [] [] h j = inl (refl, refl)
either_rows pruned c [] (b ∷ moved) h j = absurd h
either_rows pruned c (a ∷ rows) [] h j = absurd h
either_rows pruned c (a ∷ rows) (b ∷ moved) h zero =
    let here : c ≡ c + 0 = omega arith in
    inr (record {
      before = a;
      after = b;
      before_is = refl;
      after_is = refl;
      moved = subst (λ (q : ℕ). RowMoved (pruned_at pruned q) a b) here h.0;
    })
either_rows pruned c (a ∷ rows) (b ∷ moved) h (suc j) =
    let far : suc c + j ≡ c + suc j = omega arith in
    subst (λ (q : ℕ). EitherRows pruned q (slice_get rows j) (slice_get moved j)) far (either_rows pruned (suc c) rows moved h.1 j)

module _ (pruned : List (Option PrunedFile)) (k m : EntryTable) (h : AreMoved pruned k m) where
  rows_at : (n : ℕ) → EitherRows pruned n (slice_get k.files.items n) (slice_get m.files.items n)
  rows_at n =
      let none : 0 + n ≡ n = omega arith in
      subst (λ (q : ℕ). EitherRows pruned q (slice_get k.files.items n) (slice_get m.files.items n)) none
      (either_rows pruned 0 k.files.items m.files.items h.files n)

  -- what is the same of rows that have moved is the same of those of a file
  seen : {X : Type 0} (g : FileRows → X) (d : X) → ((p : Option PrunedFile) (a b : FileRows) → RowMoved p a b → g b ≡ g a) → (n : ℕ)
      → option_map_or g (slice_get m.files.items n) d ≡ option_map_or g (slice_get k.files.items n) d
  seen g d same n = elim (rows_at n) [
    | inl none ↦ ap (λ (o : Option FileRows). option_map_or g o d) (none.1 ∙ sym none.0)
    | inr o ↦ ap (λ (w : Option FileRows). option_map_or g w d) o.after_is ∙ same (pruned_at pruned n) o.before o.after o.moved
        ∙ sym (ap (λ (w : Option FileRows). option_map_or g w d) o.before_is)
  ]

  pub rows_same : (n : ℕ) → rows_in m n ≡ rows_in k n
  rows_same n = seen (λ (f : FileRows). rows_of (units_of f.units.now)) [] (λ p a b w i. rows_of (units_of (w.units i).now)) n

  pub number_same : (r : Row) → number_of m r ≡ number_of k r
  number_same r = ap (λ (n : ℕ). n + r.entry) (seen (λ (f : FileRows). f.start) 0 (λ p a b w. w.start) r.file)

  pub firsts_same : (r : Row) → firsts_of m r ≡ firsts_of k r
  firsts_same r =
      seen (λ (f : FileRows). slice_index_or f.firsts.items r.entry no_firsts) no_firsts
      (λ p a b w i. slice_index_or (w.firsts i).items r.entry no_firsts) r.file

  pub file_same : (n j : ℕ) → file_at m n j ≡ file_at k n j
  file_same n j = seen (λ (f : FileRows). slice_index f.files.items j) 0 (λ p a b w i. slice_index (w.files i).items j) n

  -- ---- spaces

  pub top_same : (top : ℕ) → top_row m top ≡ top_row k top
  top_same top = (λ i. slice_index_or (h.tops i).items top no_row)

  space_moved : (spaces : List SpaceRow) (s : ℕ)
      → (slice_index_or (map (moved_space pruned) spaces) s no_space).row ≡ (slice_index_or spaces s no_space).row
  space_moved [] s = refl
  space_moved (x ∷ spaces) zero = refl
  space_moved (x ∷ spaces) (suc s) = space_moved spaces s

  pub space_same : (s : ℕ) → (space_at m s).row ≡ (space_at k s).row
  space_same s = ap (λ (w : List SpaceRow). (slice_index_or w s no_space).row) h.spaces ∙ space_moved k.spaces.items s

  -- the name of a space in the common file stays
  common_stays : (spaces : List SpaceRow) (s : ℕ)
      → (slice_index_or (map (moved_space pruned) spaces) s no_space).common ≡ (slice_index_or spaces s no_space).common
  common_stays [] s = refl
  common_stays (x ∷ spaces) zero = refl
  common_stays (x ∷ spaces) (suc s) = common_stays spaces s

  pub common_same : (s : ℕ) → (space_at m s).common ≡ (space_at k s).common
  common_same s = ap (λ (w : List SpaceRow). (slice_index_or w s no_space).common) h.spaces ∙ common_stays k.spaces.items s

  -- ---- entries of items

  tree_same : (depth : ℕ) (r : Row) → tree_slots m depth r ≡ tree_slots k depth r
  tree_same depth r =
      let rows = rows_same r.file in
      let below : List EntryRow → EntryRow → List Slot =
      λ all x. row_slots r.file depth x.depth (suc r.entry) (slice_range all (suc r.entry) x.end) in
      (λ i. slot depth (OfRow r) ∷ option_map_or (below (rows i)) (slice_get (rows i) r.entry) [])

  whole_same : (depth : ℕ) (sort : Sort) → whole_slots m depth sort ≡ whole_slots k depth sort
  whole_same depth (Compile root) = tree_same depth root
  whole_same depth (OfType root signature main) = tree_same depth root
  whole_same depth (Partial line) = refl

  what_same : (sort : Sort) (depth : ℕ) (what : ItemKind) → what_slots m sort depth what ≡ what_slots k sort depth what
  what_same sort depth Root = refl
  what_same sort depth Whole = whole_same depth sort
  what_same sort depth (Top top) = tree_same depth (top_row m top) ∙ ap (tree_slots k depth) (top_same top)
  what_same sort depth (Space space) = ap (λ (r : Row). slot depth (OfRow r) ∷ []) (space_same space)
  what_same sort depth (InChain chain space) = refl
  what_same sort depth (Import part) = refl

  pub slots_same : (sort : Sort) (items : List Item) → items_slots m sort items ≡ items_slots k sort items
  unfolding items_slots
  slots_same sort [] = refl
  slots_same sort (x ∷ items) = (λ i. what_same sort x.depth x.what i ++ slots_same sort items i)

  origin_same : (o : Origin) (number : ℕ) → IsRow m number o → IsRow k number o
  origin_same (OfRow r) number e = sym (number_same r) ∙ e
  origin_same (OwnRoot line) number none = none
  origin_same (Chained chain space) number none = none
  origin_same (Imported part) number none = none

  has_same : (slots : List Slot) (number : ℕ) → HasRow m number slots → HasRow k number slots
  has_same [] number none = none
  has_same (s ∷ slots) number (inl is) = inl (origin_same s.origin number is)
  has_same (s ∷ slots) number (inr later) = inr (has_same slots number later)

  -- what a unit writes it has written before
  pub writes_same : (o : UnitItems) (f : FileRead) (i : ℕ) → Writes m o f i → Writes k o f i
  writes_same o f i writes =
      let r = row f.number i in
      subst (λ (slots : List Slot). HasRow k (number_of k r) slots) (slots_same o.sort o.items)
      (subst (λ (number : ℕ). HasRow k number (items_slots m o.sort o.items)) (number_same r)
      (has_same (items_slots m o.sort o.items) (number_of m r) writes))

  -- ---- texts

  text_moved : (g : TextAt → TextAt) → g no_text ≡ no_text → (texts : List TextAt) (j : ℕ)
      → slice_index_or (map g texts) j no_text ≡ g (slice_index_or texts j no_text)
  text_moved g none [] j = sym none
  text_moved g none (x ∷ texts) zero = refl
  text_moved g none (x ∷ texts) (suc j) = text_moved g none texts j

  -- each text of a file has moved, where what is behind the last one would not move
  pub texts_moved : (n : ℕ) → moved_if (pruned_at pruned n) no_text ≡ no_text → (j : ℕ)
      → text_at m n j ≡ moved_if (pruned_at pruned n) (text_at k n j)
  texts_moved n none j =
      let g : TextAt → TextAt = moved_if (pruned_at pruned n) in
      let at : FileRows → TextAt = λ f. slice_index_or f.texts.items j no_text in
      elim (rows_at n) [
        | inl o ↦ ap (λ (w : Option FileRows). option_map_or at w no_text) o.1 ∙ sym none
            ∙ ap (λ (w : Option FileRows). g (option_map_or at w no_text)) (sym o.0)
        | inr o ↦ ap (λ (w : Option FileRows). option_map_or at w no_text) o.after_is
            ∙ ap (λ (w : List TextAt). slice_index_or w j no_text) o.moved.texts
            ∙ text_moved g none o.before.texts.items j
            ∙ ap (λ (w : Option FileRows). g (option_map_or at w no_text)) (sym o.before_is)
      ]

  -- a text of the common file stays where it was
  pooled_stays : (p : Option PrunedFile) (t : TextAt) → IsPooled t → moved_if p t ≡ t
  pooled_stays None t is = refl
  pooled_stays (Some p) (Own offset) none = absurd none
  pooled_stays (Some p) (Shared offset) none = absurd none
  pooled_stays (Some p) (Pooled offset) is = refl

  stays_at : (p : Option PrunedFile) (texts : List TextAt) (j : ℕ) → IsPooled (slice_index_or texts j no_text)
      → slice_index_or (map (moved_if p) texts) j no_text ≡ slice_index_or texts j no_text
  stays_at p [] j none = absurd none
  stays_at p (x ∷ texts) zero is = pooled_stays p x is
  stays_at p (x ∷ texts) (suc j) is = stays_at p texts j is

  pub pooled_same : (n j : ℕ) → IsPooled (text_at k n j) → text_at m n j ≡ text_at k n j
  pooled_same n j is =
      let at : FileRows → TextAt = λ f. slice_index_or f.texts.items j no_text in
      elim (rows_at n) [
        | inl o ↦ ap (λ (w : Option FileRows). option_map_or at w no_text) (o.1 ∙ sym o.0)
        | inr o ↦ ap (λ (w : Option FileRows). option_map_or at w no_text) o.after_is
            ∙ ap (λ (w : List TextAt). slice_index_or w j no_text) o.moved.texts
            ∙ stays_at (pruned_at pruned n) o.before.texts.items j
            (subst (λ (w : Option FileRows). IsPooled (option_map_or at w no_text)) o.before_is is)
            ∙ ap (λ (w : Option FileRows). option_map_or at w no_text) (sym o.before_is)
      ]
