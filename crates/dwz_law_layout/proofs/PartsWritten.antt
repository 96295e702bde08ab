-- An entry that is written in a partial unit is one of a top that it holds: it stands for itself, so its number has its name.
use Rattle.std.proofs.Common.{◌≡◌, ℕ, List, [], ◌∷◌, Option, inl, inr, sym, ap, subst, ◌∙◌, arith}
use Rattle.dwz_def_reading.specs.Documents.{Node}
use Rattle.dwz_def_reading.specs.Lists.{Each, In}
use Rattle.dwz_def_tops.proofs.Members.{each_append, each_more}
use Rattle.dwz_def_tops.specs.Spots.{Top, Within}
use Rattle.dwz_layout_items.specs.declared.order.Item.{Item}
use Rattle.dwz_layout_items.specs.declared.order.ItemKind.{ItemKind}
use Rattle.dwz_layout_items.specs.declared.order.ItemKind.TheVariants.{Import, InChain, Root, Space, Top as ATopOf, Whole}
use Rattle.dwz_def_images.specs.Moves.{image_in}
use Rattle.dwz_def_images.specs.Plan.{PartialUnit}
use Rattle.dwz_graph.specs.declared.file.File.{File}
use Rattle.dwz_graph.specs.Index.{Index}
use Rattle.dwz_unit.specs.Rows.{EntryRow}
use Rattle.dwz_layout.specs.declared.known.EntryTable.{EntryTable}
use Rattle.dwz_layout.specs.declared.order.Sort.{Sort}
use Rattle.dwz_layout.specs.declared.order.Sort.TheVariants.{Partial}
use Rattle.dwz_layout.specs.declared.order.UnitItems.{UnitItems}
use Rattle.dwz_layout.specs.declared.walk.Origin.{Origin}
use Rattle.dwz_layout.specs.declared.walk.Origin.TheVariants.{Chained, Imported, OwnRoot, Read as OfRow}
use Rattle.dwz_layout.specs.declared.walk.Slot.{Slot}
use Rattle.dwz_layout.specs.Entries.{items_slots, row, tree_slots, what_slots}
use Rattle.dwz_layout.specs.Known.{number_of, top_row}
use Rattle.dwz_encode.specs.Shown.{HasRow, IsRow}
use Rattle.dwz_law_layout.specs.Knows.{KnowsNames}
use Rattle.dwz_law_layout.specs.Beside.{Beside}
use Rattle.dwz_law_layout.specs.Facts.{AreFacts, HasFile, RunFacts, file_read, move, units}
use Rattle.dwz_law_layout.specs.Listed.{AreListed, TextsAt}
use Rattle.dwz_law_layout.specs.Named.{keys}
use Rattle.dwz_law_layout.specs.NamedLaws.{IsItself}
use Rattle.dwz_law_layout.proofs.FileEntries.{IsHere, named, number_is, read_name}
use Rattle.dwz_law_layout.proofs.LayoutLemmas.{knows_file, names_itself, o as here_of}
use Rattle.dwz_law_layout.specs.New.{IsOfNew, NewNames}
use Rattle.dwz_law_layout.specs.Moving.{IsMadePart}
use Rattle.dwz_law_layout.proofs.TopEntries.{labelled, top_read}
use Rattle.dwz_law_layout.proofs.TopNames.{WithinOrigin, tree_within}

module _ {beside : Beside} (f : RunFacts beside) (t : TextsAt) (k : EntryTable) (facts : AreFacts f) (listed : AreListed f t k) (n : ℕ) (bytes : List ℕ) (x : File) (index : Index) (h : HasFile f n bytes x index) where
  abbrev o : IsHere f k n x index
  o = here_of f t k facts listed n bytes x index h

  -- an entry of the file that stands for itself
  abbrev FixedOrigin : Origin → Type 0
  FixedOrigin (OfRow r) = (r.file ≡ n) × IsItself f (named f k n x index o r.entry)
  FixedOrigin (OwnRoot place) = Unit {0}
  FixedOrigin (Chained chain space) = Unit {0}
  FixedOrigin (Imported part) = Unit {0}

  abbrev AllFixed : List Slot → Type 0
  AllFixed slots = Each (λ s. FixedOrigin s.origin) slots

  fixed : (number : ℕ) → (move f).stand number ≡ number → (origin : Origin) → WithinOrigin f k n x index o number origin → FixedOrigin origin
  fixed number stands (OfRow r) w =
      (w.0, ap (image_in (move f)) w.1.is ∙ ap (λ (q : ℕ). Within q w.1.path) stands ∙ sym w.1.is)
  fixed number stands (OwnRoot place) w = tt
  fixed number stands (Chained chain space) w = tt
  fixed number stands (Imported part) w = tt

  -- one of these is the entry with that number
  found_fixed : (i : ℕ) (slots : List Slot) → AllFixed slots → HasRow k (number_of k (row n i)) slots → IsItself f (named f k n x index o i)
  found_fixed i [] all has = absurd has
  found_fixed i (s ∷ slots) all (inr has) = found_fixed i slots all.1 has
  found_fixed i (s ∷ slots) all (inl is) = by s.origin all.0 is where
    by : (origin : Origin) → FixedOrigin origin → IsRow k (number_of k (row n i)) origin → IsItself f (named f k n x index o i)
    by (OfRow r) own is =
        let there : number_of k (row n r.entry) ≡ number_of k (row n i) = ap (λ (q : ℕ). number_of k (row q r.entry)) (sym own.0) ∙ is in
        let a = number_is f k n x index o r.entry in
        let b = number_is f k n x index o i in
        let same : r.entry ≡ i = omega (arith, there, a, b) in
        subst (λ (q : ℕ). IsItself f (named f k n x index o q)) same own.1
    by (OwnRoot place) own is = absurd is
    by (Chained chain space) own is = absurd is
    by (Imported part) own is = absurd is

  module _ (p : ℕ) (part : PartialUnit) (made : IsMadePart (move f) (units f) p part) (of_file : (y : Top) → In y part.tops → y.file ≡ n) where
    what_fixed : (place : Option ℕ) (depth : ℕ) (what : ItemKind) → IsOfNew (units f) part what → AllFixed (what_slots k (Partial place) depth what)
    what_fixed place depth Root is = absurd is
    what_fixed place depth Whole is = absurd is
    what_fixed place depth (ATopOf top) is =
        let own = made.tops is.0 is.1 in
        let read = top_read f facts t k listed n x index o is.0 own.there (of_file is.0 is.1) in
        let within = tree_within f k n x index o (knows_file f t k facts listed n bytes x index h).rows depth is.0 (labelled f facts is.0 own.there) read in
        let slots = tree_slots k depth (top_row k is.0.number) in
        subst (λ (q : ℕ). AllFixed (tree_slots k depth (top_row k q))) is.2
        (each_more (λ (s : Slot). WithinOrigin f k n x index o is.0.number s.origin) (λ s. FixedOrigin s.origin) slots (λ s w. fixed is.0.number own.stands s.origin w) within)
    what_fixed place depth (Space space) is = absurd is
    what_fixed place depth (InChain chain space) is = (tt, tt)
    what_fixed place depth (Import other) is = absurd is

    items_fixed : (place : Option ℕ) (items : List Item) → Each (λ y. IsOfNew (units f) part y.what) items → AllFixed (items_slots k (Partial place) items)
    unfolding items_slots
    items_fixed place [] are = tt
    items_fixed place (y ∷ items) are =
        each_append (λ s. FixedOrigin s.origin) (what_slots k (Partial place) y.depth y.what) (items_slots k (Partial place) items)
        (what_fixed place y.depth y.what are.0) (items_fixed place items are.1)

    all_fixed : (place : Option ℕ) (items : List Item) → NewNames (units f) part items → AllFixed (items_slots k (Partial place) items)
    unfolding items_slots
    all_fixed place items new = subst (λ (w : List Item). AllFixed (items_slots k (Partial place) w)) (sym new.items_are) (tt, items_fixed place new.others new.each)

    pub part_names : (order : UnitItems) (place : Option ℕ) → order.sort ≡ Partial place → NewNames (units f) part order.items → KnowsNames (keys f) k (file_read f n bytes x) order
    part_names order place sort new = record {
      are = λ (i : ℕ) (r : EntryRow) (d : Node ℕ) read writes. (
          let all = all_fixed place order.items new in
          let has = subst (λ (w : Sort). HasRow k (number_of k (row n i)) (items_slots k w order.items)) sort writes in
          let itself = found_fixed i (items_slots k (Partial place) order.items) all has in
          let is_name = read_name f k n x index o bytes i r d read in
          names_itself f t k facts listed n bytes x index h i r d read (subst (IsItself f) (sym is_name) itself));
    }
