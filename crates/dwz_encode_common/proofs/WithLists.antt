-- What the lists say once the common file has texts is what they said before, but for texts and numbers of paths.
use Rattle.std.proofs.Common.{◌≡◌, ℕ, zero, suc, ◌+◌, Bool, true, List, [], ◌∷◌, ◌++◌, length, map, get_or, Option, Some, slice_get, refl, sym, ap, ◌∙◌, arith}
use Rattle.std.specs.Global.{Vec}
use Rattle.std.specs.Option.{option_map_or}
use Rattle.std.specs.Prelude.{slice_index, slice_index_or, slice_range}
use Rattle.std.proofs.lemmas.List.{length-map}
use Rattle.dwz_def_reading.proofs.ListFacts.{got_below, got_map, got_there, same_got}
use Rattle.dwz_layout_items.specs.declared.order.Item.{Item}
use Rattle.dwz_layout_items.specs.declared.order.ItemKind.{ItemKind}
use Rattle.dwz_layout_items.specs.declared.order.ItemKind.TheVariants.{Import, InChain, Root, Space, Top, Whole}
use Rattle.dwz_unit.specs.Rows.{EntryRow, rows_of, units_of}
use Rattle.dwz_graph.specs.declared.file.File.{File}
use Rattle.dwz_layout.specs.declared.known.FileRows.{FileRows}
use Rattle.dwz_layout.specs.declared.known.EntryTable.{EntryTable}
use Rattle.dwz_layout.specs.declared.known.Row.{Row}
use Rattle.dwz_layout.specs.declared.known.SpaceRow.{SpaceRow}
use Rattle.dwz_layout.specs.declared.known.TextAt.{TextAt}
use Rattle.dwz_layout.specs.declared.order.Sort.{Sort}
use Rattle.dwz_layout.specs.declared.order.Sort.TheVariants.{Compile, OfType, Partial}
use Rattle.dwz_layout.specs.declared.walk.Origin.TheVariants.{Read}
use Rattle.dwz_layout.specs.declared.walk.Slot.{Slot}
use Rattle.dwz_layout.specs.Entries.{items_slots, row_slots, slot, tree_slots, what_slots, whole_slots}
use Rattle.dwz_layout.specs.Known.{file_at, firsts_of, no_firsts, no_space, no_text, number_of, rows_in, space_at, text_at, top_row}
use Rattle.dwz_encode_common.specs.Numbers.{numbers_in_file}
use Rattle.dwz_encode_common.specs.Placed.{file_places, shares_in, space_placed}
use Rattle.dwz_encode_common.specs.WithCommon.{IsWithCommon, IsWithTexts, files_with}

-- ---- files

files_got : (rows : List FileRows) (places : List (Vec TextAt)) (numbers : List (Vec ℕ)) (n : ℕ) (r : FileRows) (t : Vec TextAt) (m : Vec ℕ)
    → slice_get rows n ≡ Some r → slice_get places n ≡ Some t → slice_get numbers n ≡ Some m
    → slice_get (files_with rows places numbers) n ≡ Some (record r { texts = t; files = m })
unfolding files_with
files_got [] places numbers n r t m p q s = absurd cc
files_got (x ∷ rows) [] numbers n r t m p q s = absurd cc
files_got (x ∷ rows) (y ∷ places) [] n r t m p q s = absurd cc
files_got (x ∷ rows) (y ∷ places) (z ∷ numbers) zero r t m p q s =
    let a : x ≡ r = cc in
    let b : y ≡ t = cc in
    let c : z ≡ m = cc in
    (λ i. Some (record (a i) { texts = b i; files = c i }))
files_got (x ∷ rows) (y ∷ places) (z ∷ numbers) (suc n) r t m p q s = files_got rows places numbers n r t m p q s

-- what doesn't look at texts and numbers
files_kept : {Y : Type 0} (g : FileRows → Y) (d : Y)
    → ((r : FileRows) (t : Vec TextAt) (m : Vec ℕ) → g (record r { texts = t; files = m }) ≡ g r)
    → (rows : List FileRows) (places : List (Vec TextAt)) (numbers : List (Vec ℕ)) → length places ≡ length rows → length numbers ≡ length rows
    → (n : ℕ) → option_map_or g (slice_get (files_with rows places numbers) n) d ≡ option_map_or g (slice_get rows n) d
unfolding files_with
files_kept g d same [] [] [] p q n = refl
files_kept g d same [] [] (z ∷ numbers) p q n = absurd (omega arith)
files_kept g d same [] (y ∷ places) numbers p q n = absurd (omega arith)
files_kept g d same (x ∷ rows) [] numbers p q n = absurd (omega arith)
files_kept g d same (x ∷ rows) (y ∷ places) [] p q n = absurd (omega arith)
files_kept g d same (x ∷ rows) (y ∷ places) (z ∷ numbers) p q zero = same x y z
files_kept g d same (x ∷ rows) (y ∷ places) (z ∷ numbers) p q (suc n) = files_kept g d same rows places numbers (omega arith) (omega arith) n

-- ---- spaces

placed_row : (files : List File) (texts : List (List ℕ)) (sharing : _) (spaces : List SpaceRow) (s : ℕ)
    → (get_or (map (space_placed files texts sharing) spaces) s no_space).row ≡ (get_or spaces s no_space).row
placed_row files texts sharing [] s = refl
placed_row files texts sharing (x ∷ spaces) zero = refl
placed_row files texts sharing (x ∷ spaces) (suc s) = placed_row files texts sharing spaces s

abbrev shown_texts : Vec TextAt → List TextAt
shown_texts v = v.items

abbrev shown_numbers : Vec ℕ → List ℕ
shown_numbers v = v.items

module _ (made : Bool) (files : List File) (texts : List (List ℕ)) (sharing : List Bool) (before k : EntryTable)
    (h : IsWithTexts made files texts sharing before k) (many : length before.files.items ≡ length files) where
  pub places_many : length h.places ≡ length before.files.items
  places_many = sym (length-map h.places shown_texts) ∙ h.places_are.many ∙ sym many

  pub numbers_many : length h.numbers ≡ length before.files.items
  numbers_many = h.many_numbers ∙ sym many

  file_kept : {Y : Type 0} (g : FileRows → Y) (d : Y)
      → ((r : FileRows) (t : Vec TextAt) (m : Vec ℕ) → g (record r { texts = t; files = m }) ≡ g r)
      → (n : ℕ) → option_map_or g (slice_get k.files.items n) d ≡ option_map_or g (slice_get before.files.items n) d
  file_kept g d same n =
      ap (λ (w : List FileRows). option_map_or g (slice_get w n) d) h.files_are
      ∙ files_kept g d same before.files.items h.places h.numbers places_many numbers_many n

  pub rows_kept : (n : ℕ) → rows_in k n ≡ rows_in before n
  rows_kept n = file_kept (λ (r : FileRows). rows_of (units_of r.units.now)) [] (λ r t m. refl) n

  pub number_kept : (r : Row) → number_of k r ≡ number_of before r
  number_kept r = ap (λ (m : ℕ). m + r.entry) (file_kept (λ (w : FileRows). w.start) 0 (λ w t m. refl) r.file)

  pub firsts_kept : (r : Row) → firsts_of k r ≡ firsts_of before r
  firsts_kept r = file_kept (λ (w : FileRows). slice_index_or w.firsts.items r.entry no_firsts) no_firsts (λ w t m. refl) r.file

  pub top_kept : (top : ℕ) → top_row k top ≡ top_row before top
  top_kept top = ap (λ (w : Vec Row). slice_index_or w.items top (record { file = 0; entry = 0 })) h.tops_are

  pub space_kept : (s : ℕ) → (space_at k s).row ≡ (space_at before s).row
  space_kept s = ap (λ (w : List SpaceRow). (get_or w s no_space).row) h.spaces_are ∙ placed_row files texts sharing before.spaces.items s

  -- ---- what is written of units

  tree_kept : (depth : ℕ) (r : Row) → tree_slots k depth r ≡ tree_slots before depth r
  tree_kept depth r =
      let Tree : List EntryRow → List Slot = λ rows.
      (slot depth (Read r) ∷ option_map_or (λ (top : EntryRow). row_slots r.file depth top.depth (suc r.entry)
      (slice_range rows (suc r.entry) top.end)) (slice_get rows r.entry) []) in
      ap Tree (rows_kept r.file)

  whole_kept : (depth : ℕ) (sort : Sort) → whole_slots k depth sort ≡ whole_slots before depth sort
  whole_kept depth (Compile root) = tree_kept depth root
  whole_kept depth (OfType root signature main) = tree_kept depth root
  whole_kept depth (Partial line) = refl

  what_kept : (sort : Sort) (depth : ℕ) (what : ItemKind) → what_slots k sort depth what ≡ what_slots before sort depth what
  what_kept sort depth Root = refl
  what_kept sort depth Whole = whole_kept depth sort
  what_kept sort depth (Top top) = tree_kept depth (top_row k top) ∙ ap (tree_slots before depth) (top_kept top)
  what_kept sort depth (Space space) = ap (λ (r : Row). slot depth (Read r) ∷ []) (space_kept space)
  what_kept sort depth (InChain chain space) = refl
  what_kept sort depth (Import part) = refl

  pub items_kept : (sort : Sort) (items : List Item) → items_slots k sort items ≡ items_slots before sort items
  unfolding items_slots
  items_kept sort [] = refl
  items_kept sort (y ∷ items) = (λ i. what_kept sort y.depth y.what i ++ items_kept sort items i)

  -- ---- a file

  module _ (n : ℕ) (x : File) (at : slice_get files n ≡ Some x) where
    placed : (t : Vec TextAt) × (slice_get h.places n ≡ Some t) × (t.items ≡ file_places made (shares_in sharing n) texts before n x)
    placed =
        let lt = got_below files n x at in
        let t = got_there h.places n (let p = places_many in omega arith) in (
          t.0,
          t.1,
          same_got (map shown_texts h.places) n t.0.items (file_places made (shares_in sharing n) texts before n x)
              (got_map shown_texts h.places n t.0 t.1) (h.places_are.each n x at),
        )

    pub numbered : (m : Vec ℕ) × (slice_get h.numbers n ≡ Some m)
    numbered =
        let lt = got_below files n x at in
        got_there h.numbers n (let p = numbers_many in omega arith)

    own : (r : FileRows) × (slice_get k.files.items n ≡ Some (record r { texts = placed.0; files = numbered.0 }))
    own =
        let lt = got_below files n x at in
        let r = got_there before.files.items n (omega arith) in (
          r.0,
          ap (λ (w : List FileRows). slice_get w n) h.files_are
              ∙ files_got before.files.items h.places h.numbers n r.0 placed.0 numbered.0 r.1 placed.1 numbered.1,
        )

    -- its texts
    pub text_with : (j : ℕ) → text_at k n j ≡ slice_index_or (file_places made (shares_in sharing n) texts before n x) j no_text
    text_with j =
        ap (λ (o : Option FileRows). option_map_or (λ (w : FileRows). slice_index_or w.texts.items j no_text) o no_text) own.1
        ∙ ap (λ (w : List TextAt). slice_index_or w j no_text) placed.2

    -- and its numbers of paths
    pub number_got : (j : ℕ) → file_at k n j ≡ slice_index numbered.0.items j
    number_got j = ap (λ (o : Option FileRows). option_map_or (λ (w : FileRows). slice_index w.files.items j) o 0) own.1

-- those of a common file that is made
module _ (files : List File) (texts paths : List (List ℕ)) (sharing : List Bool) (before k : EntryTable)
    (h : IsWithCommon files texts paths sharing before k) (many : length before.files.items ≡ length files) (n : ℕ) (x : File)
    (at : slice_get files n ≡ Some x) where
  pub number_with : (j : ℕ) → file_at k n j ≡ slice_index (numbers_in_file paths x) j
  number_with j =
      let m = numbered true files texts sharing before k h.with_texts many n x at in
      let is : m.0.items ≡ numbers_in_file paths x =
      same_got (map shown_numbers h.with_texts.numbers) n m.0.items (numbers_in_file paths x)
      (got_map shown_numbers h.with_texts.numbers n m.0 m.1)
      (ap (λ (w : List (List ℕ)). slice_get w n) h.numbers_are ∙ got_map (numbers_in_file paths) files n x at) in
      number_got true files texts sharing before k h.with_texts many n x at j ∙ ap (λ (w : List ℕ). slice_index w j) is
