-- What a partial unit has of entries that were read is of the unit that its tops were read in, and so are the spaces of its chains.
use Rattle.std.proofs.Common.{◌≡◌, ℕ, ◌+◌, List, [], ◌∷◌, Option, inl, inr, sym, ap, subst, ◌∙◌, arith}
use Rattle.dwz_def_reading.specs.Lists.{Each, In}
use Rattle.dwz_def_reading.specs.Units.{RawUnit}
use Rattle.dwz_def_reading.specs.Documents.{Node}
use Rattle.dwz_def_reading.specs.Files.{around_of}
use Rattle.dwz_def_reading.specs.Meanings.{scope_of}
use Rattle.dwz_def_tops.specs.Lists.{Nth}
use Rattle.dwz_def_tops.proofs.Members.{each_append, each_in}
use Rattle.dwz_def_tops.specs.Spots.{PartialOf}
use Rattle.dwz_layout_items.specs.declared.order.Item.{Item}
use Rattle.dwz_layout_items.specs.declared.order.ItemKind.{ItemKind}
use Rattle.dwz_layout_items.specs.declared.order.ItemKind.TheVariants.{Import, InChain, Root, Space, Top as ATopOf, Whole}
use Rattle.dwz_def_images.specs.Homes.{Local}
use Rattle.dwz_def_images.specs.Moves.{first_unit}
use Rattle.dwz_def_images.specs.Plan.{PartialUnit}
use Rattle.dwz_def_images.proofs.HeldLemmas.{part_found}
use Rattle.dwz_def_encoding.specs.Bases.{bases_of}
use Rattle.dwz_def_readback.specs.Files.{bases_at, origin_in, unit_in_part}
use Rattle.dwz_graph.specs.declared.file.File.{File}
use Rattle.dwz_graph.specs.Index.{Index}
use Rattle.dwz_unit.specs.Rows.{EntryRow, units_of as raw_units}
use Rattle.dwz_layout.specs.declared.known.EntryTable.{EntryTable}
use Rattle.dwz_layout.specs.declared.order.Sort.{Sort}
use Rattle.dwz_layout.specs.declared.order.Sort.TheVariants.{Partial}
use Rattle.dwz_layout.specs.declared.order.UnitItems.{UnitItems}
use Rattle.dwz_layout.specs.declared.walk.Origin.{Origin}
use Rattle.dwz_layout.specs.declared.walk.Origin.TheVariants.{Chained, Imported, OwnRoot, Read as OfRow}
use Rattle.dwz_layout.specs.declared.walk.Slot.{Slot}
use Rattle.dwz_layout.specs.Entries.{items_slots, row, what_slots}
use Rattle.dwz_layout.specs.Known.{number_of}
use Rattle.dwz_encode.specs.Shown.{HasRow, IsRow}
use Rattle.dwz_law_layout.specs.Knows.{IsRead, Writes}
use Rattle.dwz_law_layout.specs.Beside.{Beside}
use Rattle.dwz_law_layout.specs.Facts.{AreFacts, HasFile, RunFacts, file_read, move, units}
use Rattle.dwz_law_layout.specs.Listed.{AreListed, TextsAt}
use Rattle.dwz_law_layout.specs.Unfitted.{HasChained, NamesChained}
use Rattle.dwz_law_layout.proofs.LayoutLemmas.{knows_file}
use Rattle.dwz_law_layout.specs.New.{IsOfNew, NewNames}
use Rattle.dwz_law_layout.specs.Old.{IsSpaceIn}
use Rattle.dwz_law_layout.proofs.PartHomes.{local_made, top_file}
use Rattle.dwz_run_files.proofs.FileBases.{unit_bases}
use Rattle.dwz_run_files.proofs.TopUnits.{top_stands}
use Rattle.dwz_run_files.proofs.TreeUnits.{AllOfUnit, OfUnit, UnitOrigin, tree_of_unit}

-- one of these is the entry of the file with that number
found_of_unit : (k : EntryTable) (n : ℕ) (raw : List RawUnit) (first unit i : ℕ) (slots : List Slot) → AllOfUnit n raw first unit slots
    → HasRow k (number_of k (row n i)) slots → OfUnit raw first unit i
found_of_unit k n raw first unit i [] all has = absurd has
found_of_unit k n raw first unit i (s ∷ slots) all (inr has) = found_of_unit k n raw first unit i slots all.1 has
found_of_unit k n raw first unit i (s ∷ slots) all (inl is) = by s.origin all.0 is where
  by : (origin : Origin) → UnitOrigin n raw first unit origin → IsRow k (number_of k (row n i)) origin → OfUnit raw first unit i
  by (OfRow r) own is =
      let there : number_of k (row n r.entry) ≡ number_of k (row n i) = ap (λ (q : ℕ). number_of k (row q r.entry)) (sym own.0) ∙ is in
      let same : r.entry ≡ i = omega (arith, there) in
      subst (OfUnit raw first unit) same own.1
  by (OwnRoot place) own is = absurd is
  by (Chained chain space) own is = absurd is
  by (Imported part) own is = absurd is

module _ {beside : Beside} (f : RunFacts beside) (t : TextsAt) (k : EntryTable) (facts : AreFacts f) (listed : AreListed f t k) (n p : ℕ) (part : PartialUnit)
    (nth : Nth 0 (move f).parts p part) where
  -- ---- its bases

  -- those of the unit that its tops were read in
  part_bases : origin_in (move f) (units f) (PartialOf p) ≡ bases_at (units f) (first_unit part.tops)
  part_bases =
      let own : p ≡ 0 + p = omega arith in
      ap (λ o. bases_at (units f) (unit_in_part o)) (part_found 0 (move f).parts p p part nth own)

  -- of an entry of that unit
  pub entry_bases : (bytes : List ℕ) (x : File) (index : Index) → HasFile f n bytes x index
      → (i : ℕ) (r : EntryRow) (d : Node ℕ) (read : IsRead (file_read f n bytes x) i r d)
      → OfUnit (raw_units x.units) index.starts.unit (first_unit part.tops) i
      → origin_in (move f) (units f) (PartialOf p) ≡ bases_of (scope_of (around_of bytes (raw_units x.units)) read.unit)
  entry_bases bytes x index h i r d read is =
      part_bases
      ∙ ap (bases_at (units f)) (is r read.found)
      ∙ unit_bases f facts n bytes x index h r.unit read.unit read.is_unit

  -- ---- entries

  module _ (home : part.home ≡ Local n) (bytes : List ℕ) (x : File) (index : Index) (h : HasFile f n bytes x index) where
    abbrev AllHere : List Slot → Type 0
    AllHere slots = AllOfUnit n (raw_units x.units) index.starts.unit (first_unit part.tops) slots

    what_here : (place : Option ℕ) (depth : ℕ) (what : ItemKind) → IsOfNew (units f) part what
        → AllHere (what_slots k (Partial place) depth what)
    what_here place depth Root is = absurd is
    what_here place depth Whole is = absurd is
    what_here place depth (ATopOf top) is =
        let own = (facts.goes.made p part nth (local_made f facts n p part nth home)).tops is.0 is.1 in
        let of_file = top_file f facts n p part nth home is.0 is.1 in
        let stands = top_stands f facts t k listed n bytes x index h is.0 own.there of_file in
        let rows = (knows_file f t k facts listed n bytes x index h).rows in
        let tree = tree_of_unit n (raw_units x.units) index.starts.unit (first_unit part.tops) k rows depth is.0 own.unit stands in
        subst (λ (q : ℕ). AllHere (what_slots k (Partial place) depth (ATopOf q))) is.2 tree
    what_here place depth (Space space) is = absurd is
    what_here place depth (InChain chain space) is = (tt, tt)
    what_here place depth (Import other) is = absurd is

    items_here : (place : Option ℕ) (items : List Item) → Each (λ y. IsOfNew (units f) part y.what) items
        → AllHere (items_slots k (Partial place) items)
    unfolding items_slots
    items_here place [] are = tt
    items_here place (y ∷ items) are =
        each_append (λ s. UnitOrigin n (raw_units x.units) index.starts.unit (first_unit part.tops) s.origin)
        (what_slots k (Partial place) y.depth y.what) (items_slots k (Partial place) items)
        (what_here place y.depth y.what are.0) (items_here place items are.1)

    all_here : (place : Option ℕ) (items : List Item) → NewNames (units f) part items → AllHere (items_slots k (Partial place) items)
    unfolding items_slots
    all_here place items new =
        subst (λ (w : List Item). AllHere (items_slots k (Partial place) w)) (sym new.items_are) (tt, items_here place new.others new.each)

    pub written_here : (o : UnitItems) (place : Option ℕ) → o.sort ≡ Partial place → NewNames (units f) part o.items
        → (i : ℕ) → Writes k o (file_read f n bytes x) i → OfUnit (raw_units x.units) index.starts.unit (first_unit part.tops) i
    written_here o place sort new i writes =
        found_of_unit k n (raw_units x.units) index.starts.unit (first_unit part.tops) i (items_slots k (Partial place) o.items)
        (all_here place o.items new)
        (subst (λ (w : Sort). HasRow k (number_of k (row n i)) (items_slots k w o.items)) sort writes)

  -- ---- spaces

  chained_here : (space : ℕ) (what : ItemKind) → NamesChained space what → IsOfNew (units f) part what
      → IsSpaceIn (units f) (first_unit part.tops) space
  chained_here space Root names is = absurd is
  chained_here space Whole names is = absurd is
  chained_here space (ATopOf top) names is = absurd names
  chained_here space (Space other) names is = absurd is
  chained_here space (InChain chain other) names is = subst (IsSpaceIn (units f) (first_unit part.tops)) names is
  chained_here space (Import other) names is = absurd is

  pub space_here : (items : List Item) → NewNames (units f) part items → (space : ℕ) → HasChained space items
      → IsSpaceIn (units f) (first_unit part.tops) space
  space_here items new space has = by (subst (In has.item) new.items_are has.there) where
    root : (what : ItemKind) → what ≡ Root → NamesChained space what → IsSpaceIn (units f) (first_unit part.tops) space
    root what e names = absurd (subst (NamesChained space) e names)

    by : In has.item (record { what = Root; depth = 1 } ∷ new.others) → IsSpaceIn (units f) (first_unit part.tops) space
    by (inl e) = root has.item.what (ap (λ (y : Item). y.what) (sym e)) has.names
    by (inr there) =
        chained_here space has.item.what has.names
        (each_in (λ (y : Item). IsOfNew (units f) part y.what) has.item new.others new.each there)
