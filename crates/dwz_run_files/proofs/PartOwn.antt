-- What is written of the partial units of a file are entries of its own: each is of a top whose home is that file.
use Rattle.std.proofs.Common.{◌≡◌, ℕ, suc, ◌<◌, Bool, true, false, List, [], ◌∷◌, length, map, Option, refl, sym, ap, subst, ◌∙◌, inl, inr, arith}
use Rattle.dwz_def_reading.specs.Lists.{Each, In}
use Rattle.dwz_def_reading.specs.Documents.{Node}
use Rattle.dwz_def_reading.specs.Meanings.{IfSo}
use Rattle.dwz_def_tops.specs.Lists.{Nth}
use Rattle.dwz_def_tops.proofs.Members.{each_append, each_more}
use Rattle.dwz_def_tops.specs.Spots.{Top, file_numbers}
use Rattle.dwz_layout_items.specs.declared.order.Item.{Item}
use Rattle.dwz_layout_items.specs.declared.order.ItemKind.{ItemKind}
use Rattle.dwz_layout_items.specs.declared.order.ItemKind.TheVariants.{Import, InChain, Root, Space, Top as ATopOf, Whole}
use Rattle.dwz_layout_items.specs.declared.partial.SpaceRow.{SpaceRow as RowOfSpace}
use Rattle.dwz_layout_items.specs.declared.partial.TopSpaces.{TopSpaces}
use Rattle.dwz_def_images.specs.Homes.{Common, Local, home, same_home}
use Rattle.dwz_def_images.specs.Plan.{PartialUnit}
use Rattle.dwz_def_images.proofs.PlanLemmas.{home_true}
use Rattle.dwz_plan.specs.declared.plan.Partial.{Partial as PlannedPart}
use Rattle.dwz_plan.specs.Shows.{shown_part}
use Rattle.dwz_def_images.specs.Units.{changes}
use Rattle.dwz_graph.specs.declared.file.File.{File}
use Rattle.dwz_graph.specs.Index.{Index}
use Rattle.dwz_unit.specs.Rows.{EntryRow}
use Rattle.dwz_layout_numbers.proofs.OwnerLemmas.{same_number}
use Rattle.dwz_layout_order.specs.Lists.{all_spaces, all_tops, rows_from, spaces_at}
use Rattle.dwz_layout_order.specs.Orders.{First}
use Rattle.dwz_layout_order.specs.Parts.{IsPart}
use Rattle.dwz_layout_order.specs.Shown.{KnowsSpaces}
use Rattle.dwz_layout_order.specs.declared.orders.Settled.{Settled}
use Rattle.dwz_layout_order.specs.Ordered.{PartPut, PartsPut, line_given}
use Rattle.dwz_layout.specs.declared.known.EntryTable.{EntryTable}
use Rattle.dwz_layout.specs.declared.order.Sort.{Sort}
use Rattle.dwz_layout.specs.declared.order.Sort.TheVariants.{Partial}
use Rattle.dwz_layout.specs.declared.order.UnitItems.{UnitItems}
use Rattle.dwz_layout.specs.declared.walk.Origin.{Origin}
use Rattle.dwz_layout.specs.declared.walk.Origin.TheVariants.{Chained, Imported, OwnRoot, Read as OfRow}
use Rattle.dwz_layout.specs.declared.walk.Slot.{Slot}
use Rattle.dwz_layout.specs.Entries.{items_slots, row, tree_slots, what_slots}
use Rattle.dwz_layout.specs.Known.{number_of, top_row}
use Rattle.dwz_encode.specs.Shown.{HasRow, IsRow}
use Rattle.dwz_law_layout.specs.Knows.{IsRead, Writes}
use Rattle.dwz_encode_common.specs.Placed.{in_common_file}
use Rattle.dwz_law_layout.specs.Beside.{Alone}
use Rattle.dwz_law_layout.specs.Facts.{AreFacts, HasFile, RunFacts, docs, file_read, move, units}
use Rattle.dwz_law_layout.specs.Listed.{AreListed, TextsAt}
use Rattle.dwz_law_layout.specs.New.{IsOfNew, NewNames}
use Rattle.dwz_law_layout.specs.Settled.{IsSettled}
use Rattle.dwz_law_layout.proofs.FileEntries.{IsHere, named, number_is, read_name}
use Rattle.dwz_law_layout.proofs.FileSpaces.{new_items}
use Rattle.dwz_law_layout.proofs.LayoutLemmas.{knows_file, o as here_of}
use Rattle.dwz_law_layout.proofs.PartHomes.{home_moves, home_number, top_file}
use Rattle.dwz_law_layout.proofs.PartUnits.{part_is}
use Rattle.dwz_law_layout.proofs.PartsKnown.{parts_are}
use Rattle.dwz_law_layout.proofs.TopEntries.{labelled, top_read}
use Rattle.dwz_law_layout.proofs.TopNames.{WithinOrigin, tree_within}
use Rattle.dwz_run_files.proofs.OwnersApart.{IsApart, owned_apart}

module _ (f : RunFacts Alone) (t : TextsAt) (k : EntryTable) (facts : AreFacts f) (listed : AreListed f t k) (n : ℕ) (bytes : List ℕ) (x : File)
    (index : Index) (h : HasFile f n bytes x index) (changed : changes (move f) (units f) n ≡ true) where
  abbrev o : IsHere f k n x index
  o = here_of f t k facts listed n bytes x index h

  -- ---- entries

  -- it is an entry of the file, and of no top that goes to the common file
  abbrev ApartOrigin : Origin → Type 0
  ApartOrigin (OfRow r) = (r.file ≡ n) × IsApart f (named f k n x index o r.entry)
  ApartOrigin (OwnRoot place) = Unit {0}
  ApartOrigin (Chained chain space) = Unit {0}
  ApartOrigin (Imported part) = Unit {0}

  abbrev AllApart : List Slot → Type 0
  AllApart slots = Each (λ s. ApartOrigin s.origin) slots

  origin_apart : (number : ℕ) → (home f.rule (units f) ((move f).stand number) ≡ Common → ⊥) → (origin : Origin)
      → WithinOrigin f k n x index o number origin → ApartOrigin origin
  origin_apart number far (OfRow r) w =
      (w.0, λ top path is at. far (ap (λ (m : ℕ). home f.rule (units f) ((move f).stand m)) (same_number number top w.1.path path (sym w.1.is ∙ is)) ∙ at))
  origin_apart number far (OwnRoot place) w = tt
  origin_apart number far (Chained chain space) w = tt
  origin_apart number far (Imported part) w = tt

  found_apart : (i : ℕ) (slots : List Slot) → AllApart slots → HasRow k (number_of k (row n i)) slots → IsApart f (named f k n x index o i)
  found_apart i [] all has = absurd has
  found_apart i (s ∷ slots) all (inr has) = found_apart i slots all.1 has
  found_apart i (s ∷ slots) all (inl is) = by s.origin all.0 is where
    by : (origin : Origin) → ApartOrigin origin → IsRow k (number_of k (row n i)) origin → IsApart f (named f k n x index o i)
    by (OfRow r) own is =
        let there : number_of k (row n r.entry) ≡ number_of k (row n i) = ap (λ (q : ℕ). number_of k (row q r.entry)) (sym own.0) ∙ is in
        let a = number_is f k n x index o r.entry in
        let b = number_is f k n x index o i in
        let same : r.entry ≡ i = omega (arith, there, a, b) in
        subst (λ (q : ℕ). IsApart f (named f k n x index o q)) same own.1
    by (OwnRoot place) own is = absurd is
    by (Chained chain space) own is = absurd is
    by (Imported part) own is = absurd is

  -- ---- a partial unit of the file

  abbrev Own : UnitItems → Type 0
  Own u = (i : ℕ) (r : EntryRow) (d : Node ℕ) → IsRead (file_read f n bytes x) i r d → Writes k u (file_read f n bytes x) i
      → in_common_file k n i ≡ false

  module _ (p : ℕ) (part : PartialUnit) (nth : Nth 0 (move f).parts p part) (at : part.home ≡ Local n) where
    not_common : (y : Top) → In y part.tops → home f.rule (units f) ((move f).stand y.number) ≡ Common → ⊥
    not_common y is goes =
        let own = ((part_is (units f) f.rule (file_numbers 0 (docs f)) p part nth).tops y).0 is in
        let stands = ((facts.goes.made p part nth tt).tops y is).stands in
        let no : Common ≡ Local n = sym goes ∙ ap (home f.rule (units f)) stands ∙ own.home ∙ at in
        cc

    what_apart : (place : Option ℕ) (depth : ℕ) (what : ItemKind) → IsOfNew (units f) part what → AllApart (what_slots k (Partial place) depth what)
    what_apart place depth Root is = absurd is
    what_apart place depth Whole is = absurd is
    what_apart place depth (ATopOf top) is =
        let own = (facts.goes.made p part nth tt).tops is.0 is.1 in
        let read = top_read f facts t k listed n x index o is.0 own.there (top_file f facts n p part nth at is.0 is.1) in
        let within = tree_within f k n x index o (knows_file f t k facts listed n bytes x index h).rows depth is.0
        (labelled f facts is.0 own.there) read in
        let slots = tree_slots k depth (top_row k is.0.number) in
        subst (λ (q : ℕ). AllApart (tree_slots k depth (top_row k q))) is.2
        (each_more (λ (s : Slot). WithinOrigin f k n x index o is.0.number s.origin) (λ s. ApartOrigin s.origin) slots
        (λ s w. origin_apart is.0.number (not_common is.0 is.1) s.origin w) within)
    what_apart place depth (Space space) is = absurd is
    what_apart place depth (InChain chain space) is = (tt, tt)
    what_apart place depth (Import other) is = absurd is

    items_apart : (place : Option ℕ) (items : List Item) → Each (λ y. IsOfNew (units f) part y.what) items
        → AllApart (items_slots k (Partial place) items)
    unfolding items_slots
    items_apart place [] are = tt
    items_apart place (y ∷ items) are =
        each_append (λ s. ApartOrigin s.origin) (what_slots k (Partial place) y.depth y.what) (items_slots k (Partial place) items)
        (what_apart place y.depth y.what are.0) (items_apart place items are.1)

    all_apart : (place : Option ℕ) (items : List Item) → NewNames (units f) part items → AllApart (items_slots k (Partial place) items)
    unfolding items_slots
    all_apart place items new =
        subst (λ (w : List Item). AllApart (items_slots k (Partial place) w)) (sym new.items_are) (tt, items_apart place new.others new.each)

    part_own : (u : UnitItems) (place : Option ℕ) → u.sort ≡ Partial place → NewNames (units f) part u.items → Own u
    part_own u place sort new i r d read writes =
        let has = subst (λ (w : Sort). HasRow k (number_of k (row n i)) (items_slots k w u.items)) sort writes in
        let apart = found_apart i (items_slots k (Partial place) u.items) (all_apart place u.items new) has in
        owned_apart f t k facts listed n bytes x index h changed i r d read
        (subst (IsApart f) (sym (read_name f k n x index o bytes i r d read)) apart)

  -- ---- all of them

  module _ (s : Settled) (settled : IsSettled f s) (low : n < length (docs f)) where
    abbrev numbers_of : PartialUnit → List ℕ
    numbers_of part = map (λ (y : Top). y.number) part.tops

    new : (p : ℕ) (part : PartialUnit) → Nth 0 (move f).parts p part → (u : UnitItems) → PartPut s p (shown_part (length (docs f)) part) u
        → NewNames (units f) part u.items
    new p part nth u put =
        let spaces : KnowsSpaces (units f) (rows_from 0 (all_spaces f.indexes)) settled.texts settled.lists (all_tops f.indexes) =
        subst (λ (w : List RowOfSpace). KnowsSpaces (units f) w settled.texts settled.lists (all_tops f.indexes)) settled.rows_are
        settled.spaces in
        let put_so : IsPart (rows_from 0 (all_spaces f.indexes)) (map (spaces_at settled.lists) (all_tops f.indexes)) (numbers_of part) u.items =
        subst (λ (w : List RowOfSpace). IsPart w (map (spaces_at settled.lists) (all_tops f.indexes)) (numbers_of part) u.items)
        settled.rows_are
        (subst (λ (w : List TopSpaces). IsPart s.rows.now w (numbers_of part) u.items) settled.of_tops put.items) in
        new_items (docs f) f.indexes (move f) settled.texts settled.lists facts.indexed spaces p part u.items (facts.goes.made p part nth tt) put_so

    abbrev Put : ℕ → List PartialUnit → List UnitItems → Type 0
    Put p parts order = PartsPut s n p (map (shown_part (length (docs f))) parts) order

    abbrev PutIf : Bool → ℕ → PartialUnit → List PartialUnit → List UnitItems → Type 0
    PutIf b p part parts order =
        IfSo b (First (PartPut s p (shown_part (length (docs f)) part)) (Put (suc p) parts) order) (Put (suc p) parts order)

    from : (p : ℕ) (parts : List PartialUnit) → ((q : ℕ) (part : PartialUnit) → Nth p parts q part → Nth 0 (move f).parts q part)
        → (order : List UnitItems) → Put p parts order → Each Own order
    from p [] among [] put = tt
    from p [] among (u ∷ order) put = absurd cc
    from p (part ∷ parts) among order put =
        let nth = among p part (inl (refl, refl)) in
        let same = home_number (length (docs f)) n part.home (home_moves f facts n p part nth) low in
        by nth (from (suc p) parts (λ q other i. among q other (inr i))) (same_home part.home (Local n)) refl order
        (subst (λ (b : Bool). PutIf b p part parts order) (sym same) put)
      where
        by : Nth 0 (move f).parts p part → ((order : List UnitItems) → Put (suc p) parts order → Each Own order)
            → (b : Bool) → same_home part.home (Local n) ≡ b → (order : List UnitItems) → PutIf b p part parts order → Each Own order
        by nth rest false e order put = rest order put
        by nth rest true e [] put = absurd put
        by nth rest true e (u ∷ order) put = (
          part_own p part nth (home_true part.home (Local n) e) u (line_given s p) put.0.sort (new p part nth u put.0),
          rest order put.1,
        )

    pub parts_own : (order : List UnitItems) → PartsPut s n 0 s.plan.now.partials order → Each Own order
    parts_own order put =
        from 0 (move f).parts (λ q part i. i) order
        (subst (λ (w : List PlannedPart). PartsPut s n 0 w order) (sym (parts_are f t k facts listed s settled)) put)
