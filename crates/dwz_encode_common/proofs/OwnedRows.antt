-- An entry that is written in a unit of the common file is one of a top that the unit holds, so a unit of the common file owns it.
use Rattle.std.proofs.Common.{◌≡◌, ℕ, suc, ◌+◌, ◌<◌, ◌==◌, Bool, true, false, List, [], ◌∷◌, length, map, Option, Some, slice_get, refl, sym, ap, subst, ◌∙◌, inl, inr, eqb-true, arith}
use Rattle.dwz_def_reading.specs.Lists.{Each, In}
use Rattle.dwz_def_reading.specs.Trees.{End}
use Rattle.dwz_def_reading.specs.Units.{entries_in}
use Rattle.dwz_def_reading.proofs.ListFacts.{drop_first, get_first, got_below, in_map, same_got}
use Rattle.dwz_def_reading.specs.Documents.{Node}
use Rattle.dwz_def_reading.specs.Meanings.{IfSo}
use Rattle.dwz_def_tops.specs.Lists.{Nth}
use Rattle.dwz_def_tops.specs.Shown.{keys, unit_keys}
use Rattle.dwz_def_tops.proofs.Members.{each_append, each_in, each_more, nth_one}
use Rattle.dwz_def_tops.specs.Spots.{EntryName, FileUnit, Top, Within, name_list, same_spot}
use Rattle.dwz_def_tops.proofs.Tops.{one_top}
use Rattle.dwz_layout_items.specs.declared.order.Item.{Item}
use Rattle.dwz_layout_items.specs.declared.order.ItemKind.{ItemKind}
use Rattle.dwz_layout_items.specs.declared.order.ItemKind.TheVariants.{Import, InChain, Root, Space, Top as ATopOf, Whole}
use Rattle.dwz_layout_items.specs.declared.partial.SpaceRow.{SpaceRow as RowOfSpace}
use Rattle.dwz_layout_items.specs.declared.partial.TopSpaces.{TopSpaces}
use Rattle.dwz_def_images.specs.Homes.{Common, same_home}
use Rattle.dwz_def_images.specs.Moves.{first_unit, image_in}
use Rattle.dwz_def_images.specs.Plan.{PartialUnit, part_row}
use Rattle.dwz_def_images.proofs.PlanLemmas.{home_true}
use Rattle.dwz_def_images.proofs.PartRows.{part_is}
use Rattle.dwz_plan.specs.declared.plan.Partial.{Partial as PlannedPart}
use Rattle.dwz_plan.specs.Shows.{shown_part}
use Rattle.dwz_def_images.specs.Units.{changes, common_units, partial_unit, tree}
use Rattle.dwz_def_images.proofs.OldFiles.{files_old}
use Rattle.dwz_unit.specs.Rows.{EntryRow, rows_below, rows_of, units_of as raw_units}
use Rattle.dwz_unit.proofs.RowsFound.{rows-length}
use Rattle.dwz_graph.specs.declared.file.File.{File}
use Rattle.dwz_graph.specs.Index.{Index}
use Rattle.dwz_graph.proofs.FileEntries.{all_entries}
use Rattle.dwz_graph.specs.EntryCounts.{starts_from}
use Rattle.dwz_graph.specs.AllNames.{all_names}
use Rattle.dwz_layout_numbers.specs.Owners.{StandsIn, files_written}
use Rattle.dwz_layout_numbers.proofs.OwnerKeys.{own_keys, top_labelled, tree_top}
use Rattle.dwz_layout_numbers.proofs.OwnerLemmas.{own_name}
use Rattle.dwz_layout_numbers.proofs.Paths.{paths_of}
use Rattle.dwz_layout_order.specs.Lists.{all_spaces, all_tops, rows_from, spaces_at}
use Rattle.dwz_layout_order.specs.Orders.{First}
use Rattle.dwz_layout_order.specs.Parts.{IsPart}
use Rattle.dwz_layout_order.specs.Shown.{KnowsSpaces}
use Rattle.dwz_layout_order.specs.declared.orders.Settled.{Settled}
use Rattle.dwz_layout_order.specs.Ordered.{PartPut, PartsPut, line_given}
use Rattle.dwz_layout.specs.declared.known.EntryTable.{EntryTable}
use Rattle.dwz_layout.specs.declared.known.Row.{Row}
use Rattle.dwz_layout.specs.declared.order.Sort.{Sort}
use Rattle.dwz_layout.specs.declared.order.Sort.TheVariants.{Partial}
use Rattle.dwz_layout.specs.declared.order.UnitItems.{UnitItems}
use Rattle.dwz_layout.specs.declared.walk.Origin.{Origin}
use Rattle.dwz_layout.specs.declared.walk.Origin.TheVariants.{Chained, Imported, OwnRoot, Read as OfRow}
use Rattle.dwz_layout.specs.declared.walk.Slot.{Slot}
use Rattle.dwz_layout.specs.Attributes.{is_common}
use Rattle.dwz_layout.specs.Entries.{items_slots, row, tree_slots, what_slots}
use Rattle.dwz_layout.specs.Known.{number_of, owner_of, rows_in, top_row}
use Rattle.dwz_encode.specs.Shown.{HasRow, IsRow}
use Rattle.dwz_def_encoding.specs.Placing.{has_key}
use Rattle.dwz_def_encoding.proofs.Chosen.{none_has}
use Rattle.dwz_def_encoding.proofs.SameLemmas.{spots_same}
use Rattle.dwz_law_layout.specs.Knows.{IsRead, Writes}
use Rattle.dwz_law_layout.specs.Beside.{Alone}
use Rattle.dwz_law_layout.specs.Facts.{AreFacts, HasFile, IsMade, RunFacts, docs, file_read, move, units, units_written, written}
use Rattle.dwz_law_layout.specs.Listed.{AreListed, TextsAt}
use Rattle.dwz_law_layout.specs.NamedLaws.{IsItself, entry_name}
use Rattle.dwz_law_layout.specs.New.{IsOfNew, NewNames}
use Rattle.dwz_law_layout.specs.Settled.{IsSettled}
use Rattle.dwz_law_layout.proofs.FileEntries.{IsHere, entry_below, named, named_all, number_is, read_name}
use Rattle.dwz_law_layout.proofs.FileSpaces.{new_items}
use Rattle.dwz_law_layout.proofs.LayoutLemmas.{knows_file, owns_entry, o as here_of}
use Rattle.dwz_law_layout.proofs.PartHomes.{ComesFrom, comes_from, common_number, common_there, is_first, tops_of_file}
use Rattle.dwz_law_layout.proofs.PartsKnown.{common_long, parts_are}
use Rattle.dwz_law_layout.specs.Moving.{IsMadePart}
use Rattle.dwz_law_layout.proofs.ReadFiles.{all_placed}
use Rattle.dwz_law_layout.proofs.TopEntries.{labelled, top_read}
use Rattle.dwz_law_layout.proofs.TopNames.{IsWithin, WithinOrigin, tree_within}
use Rattle.dwz_law_layout.proofs.UnitsReach.{own_told}
use Rattle.dwz_encode_common.proofs.CommonKnown.{AreInCommon, IsInCommon}
use Rattle.dwz_encode_common.proofs.NumberedRows.{InFile, each_both, in_got, same_file, tree_in}

-- ---- a unit of the common file

module _ (f : RunFacts Alone) (t : TextsAt) (k : EntryTable) (facts : AreFacts f) (listed : AreListed f t k) where
  module _ (p : ℕ) (part : PartialUnit) (nth : Nth 0 (move f).parts p part) (home : part.home ≡ Common) (is_made : IsMade f part.home) where
    made : IsMadePart (move f) (units f) p part
    made = facts.goes.made p part nth is_made

    from : ComesFrom f part
    from = comes_from f facts p part made

    abbrev n : ℕ
    n = from.unit.file

    abbrev h : HasFile f n from.read.bytes from.read.x from.read.index
    h = from.read.has

    abbrev o : IsHere f k n from.read.x from.read.index
    o = here_of f t k facts listed n from.read.bytes from.read.x from.read.index h

    of_file : (y : Top) → In y part.tops → y.file ≡ n
    of_file y is = tops_of_file f facts n p part nth is_made
        (λ v there. ap (λ (w : FileUnit EntryName). w.file) (nth_one 0 (units f) (first_unit part.tops) v from.unit there from.nth)) y is

    rows_are : rows_in k n ≡ rows_of (raw_units from.read.x.units)
    rows_are = (knows_file f t k facts listed n from.read.bytes from.read.x from.read.index h).rows

    count_is : length (rows_in k n) ≡ entries_in (raw_units from.read.x.units)
    count_is = ap (λ (w : List EntryRow). length w) rows_are ∙ rows-length (raw_units from.read.x.units)

    -- an entry of one of its tops, by its number in the file
    record IsOfTop (entry : ℕ) : Type 0 where
      pub top : Top
      pub there : In top part.tops
      pub low : entry < entries_in (raw_units from.read.x.units)
      pub within : IsWithin f k n from.read.x from.read.index o top.number entry

    abbrev OfPart : Origin → Type 0
    OfPart (OfRow r) = (r.file ≡ n) × IsOfTop r.entry
    OfPart (OwnRoot place) = Unit {0}
    OfPart (Chained chain space) = Unit {0}
    OfPart (Imported other) = Unit {0}

    abbrev AllOfPart : List Slot → Type 0
    AllOfPart slots = Each (λ (s : Slot). OfPart s.origin) slots

    both : (y : Top) → In y part.tops → (origin : Origin) → InFile n (length (rows_in k n)) origin
        → WithinOrigin f k n from.read.x from.read.index o y.number origin → OfPart origin
    both y is (OfRow r) a b =
        (a.0, record { top = y; there = is; low = (let lt = a.1 in let many = count_is in omega arith); within = b.1 })
    both y is (OwnRoot place) a b = tt
    both y is (Chained chain space) a b = tt
    both y is (Imported other) a b = tt

    top_of : (depth : ℕ) (y : Top) → In y part.tops → AllOfPart (tree_slots k depth (top_row k y.number))
    unfolding rows_below
    top_of depth y is =
        let own = made.tops y is in
        let read = top_read f facts t k listed n from.read.x from.read.index o y own.there (of_file y is) in
        let slots = tree_slots k depth (top_row k y.number) in
        let within = tree_within f k n from.read.x from.read.index o rows_are depth y (labelled f facts y own.there) read in
        let at = drop_first (rows_of (raw_units from.read.x.units)) read.p.before _ _ read.stand in
        let lt = got_below (rows_of (raw_units from.read.x.units)) read.p.before _ at.0 in
        let many = ap (λ (w : List EntryRow). length w) rows_are in
        let inside = subst (λ (r : Row). Each (λ (s : Slot). InFile n (length (rows_in k n)) s.origin) (tree_slots k depth r)) (sym read.row_is)
        (tree_in k depth (row n read.p.before) (omega arith)) in
        each_more (λ (s : Slot). InFile n (length (rows_in k n)) s.origin × WithinOrigin f k n from.read.x from.read.index o y.number s.origin)
        (λ (s : Slot). OfPart s.origin) slots (λ s w. both y is s.origin w.0 w.1)
        (each_both (λ (s : Slot). InFile n (length (rows_in k n)) s.origin)
        (λ (s : Slot). WithinOrigin f k n from.read.x from.read.index o y.number s.origin) slots inside within)

    what_of : (place : Option ℕ) (depth : ℕ) (what : ItemKind) → IsOfNew (units f) part what → AllOfPart (what_slots k (Partial place) depth what)
    what_of place depth Root is = absurd is
    what_of place depth Whole is = absurd is
    what_of place depth (ATopOf top) is =
        subst (λ (q : ℕ). AllOfPart (tree_slots k depth (top_row k q))) is.2 (top_of depth is.0 is.1)
    what_of place depth (Space space) is = absurd is
    what_of place depth (InChain chain space) is = (tt, tt)
    what_of place depth (Import other) is = absurd is

    items_of : (place : Option ℕ) (items : List Item) → Each (λ y. IsOfNew (units f) part y.what) items
        → AllOfPart (items_slots k (Partial place) items)
    unfolding items_slots
    items_of place [] are = tt
    items_of place (y ∷ items) are =
        each_append (λ (s : Slot). OfPart s.origin) (what_slots k (Partial place) y.depth y.what) (items_slots k (Partial place) items)
        (what_of place y.depth y.what are.0) (items_of place items are.1)

    all_of : (place : Option ℕ) (items : List Item) → NewNames (units f) part items → AllOfPart (items_slots k (Partial place) items)
    unfolding items_slots
    all_of place items new = subst (λ (w : List Item). AllOfPart (items_slots k (Partial place) w)) (sym new.items_are)
        (tt, items_of place new.others new.each)

    -- one of them has that number
    record FoundRow (m : ℕ) (slots : List Slot) : Type 0 where
      pub slot : Slot
      pub there : In slot slots
      pub r : Row
      pub is : slot.origin ≡ OfRow r
      pub number : number_of k r ≡ m
      pub file : r.file ≡ n
      pub of_top : IsOfTop r.entry

    found_row : (m : ℕ) (slots : List Slot) → AllOfPart slots → HasRow k m slots → FoundRow m slots
    found_row m [] all has = absurd has
    found_row m (s ∷ slots) all (inr has) =
        let g = found_row m slots all.1 has in
        record { slot = g.slot; there = inr g.there; r = g.r; is = g.is; number = g.number; file = g.file; of_top = g.of_top }
    found_row m (s ∷ slots) all (inl is) = by s.origin refl all.0 is where
      by : (origin : Origin) → s.origin ≡ origin → OfPart origin → IsRow k m origin → FoundRow m (s ∷ slots)
      by (OfRow r) e own is = record { slot = s; there = inl refl; r = r; is = e; number = is; file = own.0; of_top = own.1 }
      by (OwnRoot place) e own is = absurd is
      by (Chained chain space) e own is = absurd is
      by (Imported other) e own is = absurd is

    -- the unit has the names of what is in its tops, which stand for themselves
    in_part : (y : Top) → In y part.tops → (path : List ℕ) → In path (paths_of y.below)
        → In (Within y.number path) (unit_keys (partial_unit (move f) p))
    unfolding unit_keys
    in_part y is path there =
        let m = move f in
        let s = Within y.number path in
        let own = made.tops y is in
        let fixed : image_in m s ≡ s = ap (λ (q : ℕ). Within q path) own.stands in
        let has = ((part_is p part).tops_are (name_list y) y).1 (is, refl) in
        let mine : In s (own_keys y) = subst (In s) (sym (top_labelled y ((files_old (docs f) (all_placed f facts)).tops_named y own.there)))
        (in_map (Within y.number) path (paths_of y.below) there) in
        let mapped : In s (map (image_in m) (own_keys y)) =
        subst (λ (w : EntryName). In w (map (image_in m) (own_keys y))) fixed (in_map (image_in m) s (own_keys y) mine) in
        let stands : In s (keys (tree (image_in m) (part_row p part) End)) = tree_top (image_in m) (part_row p part) End (name_list y) y has s mapped in
        inr (inr (subst (λ (w : _). In s (keys (tree (image_in m) w End)))
        (sym made.row) stands))

    -- the owner of such a name is a unit of the common file
    owner_first : (s : EntryName) (owner : ℕ) → StandsIn (units_written f) s owner → In s (unit_keys (partial_unit (move f) p)) → is_common k owner ≡ true
    owner_first s owner stands has =
        let u = partial_unit (move f) p in
        let common = common_units (move f) in
        let at = in_got u common (common_there f p part nth home) in
        let written_at : slice_get (units_written f) at.0 ≡ Some u = get_first common (files_written (move f) (units f) 0 (written f)) at.0 u at.1 in
        let told = own_told f t k facts listed s owner at.0 u stands written_at in
        let same : owner ≡ at.0 = eqb-true owner at.0 (by (has_key same_spot s (unit_keys u)) refl told) in
        ap (is_common k) same ∙ is_first f facts t k listed at.0 u at.1
      where
        by : (b : Bool) → has_key same_spot s (unit_keys (partial_unit (move f) p)) ≡ b
            → has_key same_spot s (unit_keys (partial_unit (move f) p))
            ≡ (owner == (in_got (partial_unit (move f) p) (common_units (move f)) (common_there f p part nth home)).0)
            → (owner == (in_got (partial_unit (move f) p) (common_units (move f)) (common_there f p part nth home)).0) ≡ true
        by true e told = sym told ∙ e
        by false e told = absurd (none_has same_spot spots_same s (unit_keys (partial_unit (move f) p)) has e)

    -- ---- an entry that is written in it

    module _ (items : UnitItems) (place : Option ℕ) (sort : items.sort ≡ Partial place) (new : NewNames (units f) part items.items)
        (q : ℕ) (bytes : List ℕ) (x : File) (index : Index) (has : HasFile f q bytes x index) (i : ℕ) (r : EntryRow) (d : Node ℕ)
        (read : IsRead (file_read f q bytes x) i r d) (writes : Writes k items (file_read f q bytes x) i) where
      abbrev here : IsHere f k q x index
      here = here_of f t k facts listed q bytes x index has

      found : FoundRow (number_of k (row q i)) (items_slots k items.sort items.items)
      found = found_row (number_of k (row q i)) (items_slots k items.sort items.items)
          (subst (λ (w : Sort). AllOfPart (items_slots k w items.items)) (sym sort) (all_of place items.items new)) writes

      abbrev e : ℕ
      e = found.r.entry

      row_is : found.r ≡ row n e
      row_is = λ j. row (found.file j) found.r.entry

      numbers : o.start + e ≡ here.start + i
      numbers =
          sym (number_is f k n from.read.x from.read.index o e) ∙ ap (number_of k) (sym row_is) ∙ found.number ∙ number_is f k q x index here i

      below : i < entries_in (raw_units x.units)
      below = entry_below f k q x index here i r read.found

      file_is : n ≡ q
      file_is =
          let low = found.of_top.low in
          let under = below in
          let a = all_entries f.contents n o.bytes from.read.x from.read.index o.among in
          let b = all_entries f.contents q here.bytes x index here.among in
          same_file f.indexes n q e i from.read.index index o.start here.start o.index_is here.index_is o.start_is here.start_is
          (omega arith) (omega arith) numbers

      entry_is : e ≡ i
      entry_is =
          let same : o.start ≡ here.start =
          same_got (starts_from 0 f.indexes) q o.start here.start (ap (slice_get (starts_from 0 f.indexes)) (sym file_is) ∙ o.start_is) here.start_is in
          let both = numbers in
          omega arith

      abbrev s : EntryName
      s = Within found.of_top.top.number found.of_top.within.path

      name_there : slice_get (all_names (docs f)) (o.start + e) ≡ Some s
      name_there = named_all f k n from.read.x from.read.index o e found.of_top.low ∙ ap (λ (w : EntryName). Some w) found.of_top.within.is

      name_is : entry_name f q d ≡ s
      name_is =
          read_name f k q x index here bytes i r d read
          ∙ same_got (all_names (docs f)) (o.start + e) (named f k q x index here i) s
          (ap (slice_get (all_names (docs f))) numbers ∙ named_all f k q x index here i below) name_there

      itself : IsItself f (entry_name f q d)
      itself =
          let y = found.of_top.top in
          let own = made.tops y found.of_top.there in
          subst (IsItself f) (sym name_is) (ap (λ (w : ℕ). Within w found.of_top.within.path) own.stands)

      has_name : In s (unit_keys (partial_unit (move f) p))
      has_name =
          let y = found.of_top.top in
          let path = found.of_top.within.path in
          let own = made.tops y found.of_top.there in
          let at = own_name (docs f) (o.start + e) y.number path name_there in
          let same : at.0 ≡ y = one_top (units f) at.0 y at.1 own.there at.2 in
          in_part y found.of_top.there path (subst (λ (w : Top). In path (paths_of w.below)) same at.3)

      pub in_common : IsInCommon k items q i
      in_common =
          let changed : changes (move f) (units f) q ≡ true = ap (changes (move f) (units f)) (sym file_is) ∙ from.changed in
          let stands = owns_entry f t k facts listed q bytes x index has changed i r d read itself in
          record {
            owned = owner_first s (owner_of k (number_of k (row q i)))
                (subst (λ (w : EntryName). StandsIn (units_written f) w (owner_of k (number_of k (row q i)))) name_is stands) has_name;
            slot = found.slot;
            there = found.there;
            is = found.is ∙ (λ j. OfRow (row (file_at j) (entry_is j)));
          }
        where
          file_at : found.r.file ≡ q
          file_at = found.file ∙ file_is

-- ---- all of its units

module _ (f : RunFacts Alone) (t : TextsAt) (k : EntryTable) (facts : AreFacts f) (listed : AreListed f t k) (s : Settled) (settled : IsSettled f s) where
  abbrev files : ℕ
  files = length (docs f)

  -- one of the partial units of the common file is written so
  record FromPart (o : UnitItems) : Type 0 where
    pub p : ℕ
    pub part : PartialUnit
    pub nth : Nth 0 (move f).parts p part
    pub home : part.home ≡ Common
    pub put : PartPut s p (shown_part (length (docs f)) part) o

  abbrev Put : ℕ → List PartialUnit → List UnitItems → Type 0
  Put p parts order = PartsPut s files p (map (shown_part files) parts) order

  abbrev PutIf : Bool → ℕ → PartialUnit → List PartialUnit → List UnitItems → Type 0
  PutIf b p part parts order = IfSo b (First (PartPut s p (shown_part files part)) (Put (suc p) parts) order) (Put (suc p) parts order)

  from_parts : (p : ℕ) (parts : List PartialUnit) → ((q : ℕ) (part : PartialUnit) → Nth p parts q part → Nth 0 (move f).parts q part)
      → (order : List UnitItems) → Put p parts order → Each FromPart order
  from_parts p [] among [] put = tt
  from_parts p [] among (o ∷ order) put = absurd cc
  from_parts p (part ∷ parts) among order put =
      let nth = among p part (inl (refl, refl)) in
      by nth (λ order put. from_parts (suc p) parts (λ q other i. among q other (inr i)) order put) (same_home part.home Common) refl order
      (subst (λ (b : Bool). PutIf b p part parts order) (sym (common_number f facts p part nth)) put) where
        by : Nth 0 (move f).parts p part → ((order : List UnitItems) → Put (suc p) parts order → Each FromPart order)
            → (b : Bool) → same_home part.home Common ≡ b → (order : List UnitItems) → PutIf b p part parts order → Each FromPart order
        by nth rest false e order put = rest order put
        by nth rest true e [] put = absurd put
        by nth rest true e (o ∷ order) put =
            (record { p = p; part = part; nth = nth; home = home_true part.home Common e; put = put.0 }, rest order put.1)

  -- what its items stand for
  part_new : (p : ℕ) (part : PartialUnit) → Nth 0 (move f).parts p part → (o : UnitItems) → PartPut s p (shown_part (length (docs f)) part) o
      → NewNames (units f) part o.items
  part_new p part nth o put =
      let spaces : KnowsSpaces (units f) (rows_from 0 (all_spaces f.indexes)) settled.texts settled.lists (all_tops f.indexes) =
      subst (λ (w : List RowOfSpace). KnowsSpaces (units f) w settled.texts settled.lists (all_tops f.indexes)) settled.rows_are settled.spaces in
      let put_so : IsPart (rows_from 0 (all_spaces f.indexes)) (map (spaces_at settled.lists) (all_tops f.indexes))
      (map (λ (y : Top). y.number) part.tops) o.items =
      subst (λ (w : List RowOfSpace). IsPart w (map (spaces_at settled.lists) (all_tops f.indexes))
      (map (λ (y : Top). y.number) part.tops) o.items) settled.rows_are
      (subst (λ (w : List TopSpaces). IsPart s.rows.now w (map (λ (y : Top). y.number) part.tops) o.items) settled.of_tops put.items) in
      new_items (docs f) f.indexes (move f) settled.texts settled.lists facts.indexed spaces p part o.items
      (facts.goes.made p part nth tt) put_so

  pub are_in_common : (order : List UnitItems) → PartsPut s (length (docs f)) 0 s.plan.now.partials order → AreInCommon f k order
  are_in_common order put =
      let all = from_parts 0 (move f).parts (λ q part i. i) order
      (subst (λ (w : List PlannedPart). PartsPut s files 0 w order) (sym (parts_are f t k facts listed s settled)) put) in
      record {
        many = common_long f t k s facts listed settled order put;
        each = λ o o_in n bytes x index h i r d read writes. (
            let from = each_in FromPart o order all o_in in
            in_common f t k facts listed from.p from.part from.nth from.home tt o (line_given s from.p) from.put.sort
            (part_new from.p from.part from.nth o from.put) n bytes x index h i r d read writes);
      }
