-- The items of an old unit, one by one: each shows what stands for it after, and that stays.
use Rattle.std.proofs.Common.{◌≡◌, ◌⊎◌, ℕ, true, false, List, [], ◌∷◌, Option, Some, slice_get, refl, sym, ap, subst, ◌∙◌, inl, inr, length, arith, ◌<◌}
use Rattle.std.specs.Prelude.{pos}
use Rattle.dwz_def_reading.specs.Lists.{Each, In}
use Rattle.dwz_def_reading.specs.Documents.{Attr, Compile, DwUnit, Kind, Node, OfType, Partial, entries_map, node_map, ref}
use Rattle.dwz_def_tops.specs.Lists.{Nth}
use Rattle.dwz_def_tops.proofs.Members.{each_append, each_more, nth_one}
use Rattle.dwz_def_tops.specs.Spots.{EntryName, FileUnit, Import as ImportSpot, PartialRoot, Top, Within, tops_of}
use Rattle.dwz_def_tops.proofs.TopNumbers.{number_below, top_there, tops_numbers}
use Rattle.dwz_layout_items.specs.declared.order.Item.{Item}
use Rattle.dwz_layout_items.specs.declared.order.ItemKind.{ItemKind}
use Rattle.dwz_layout_items.specs.declared.order.ItemKind.TheVariants.{Import, InChain, Root, Space, Top as TopItem, Whole}
use Rattle.dwz_layout_items.specs.Order.{Names}
use Rattle.dwz_def_images.specs.Homes.{Common, Local}
use Rattle.dwz_def_images.specs.Moves.{Move, image_in}
use Rattle.dwz_def_images.specs.Units.{changes, kept_unit, out_units}
use Rattle.dwz_def_encoding.specs.Placing.{UnitForms}
use Rattle.dwz_graph.specs.declared.file.File.{File}
use Rattle.dwz_graph.specs.Index.{Index}
use Rattle.dwz_layout_order.specs.Spaces.{spaces_below}
use Rattle.dwz_law_layout.specs.Items.{item}
use Rattle.dwz_law_layout.specs.Old.{IsOfOld, IsSpaceIn, IsUsedBy, OldNames, StaysHere}
use Rattle.dwz_law_layout.proofs.PartUnits.{of_unit}
use Rattle.dwz_law_layout.proofs.SpaceStands.{space_stands}
use Rattle.dwz_layout.specs.declared.known.EntryTable.{EntryTable}
use Rattle.dwz_layout.specs.declared.known.Row.{Row}
use Rattle.dwz_layout.specs.declared.order.Sort.{Sort}
use Rattle.dwz_layout.specs.declared.order.Sort.TheVariants.{Compile as CompileSort, OfType as TypeSort, Partial as PartialSort}
use Rattle.dwz_layout.specs.Entries.{items_slots, root_of, slot, tree_slots, what_slots, whole_slots}
use Rattle.dwz_layout.specs.Known.{space_at, top_row, unit_of_part}
use Rattle.dwz_law_layout.specs.Knows.{FileRead, KnowsFile, NewNumbers, ShowsImport, ShowsRoot, ShowsRow, ShowsTree, ShowsWhat, ShowsWhole}
use Rattle.dwz_law_layout.specs.Beside.{Beside}
use Rattle.dwz_law_layout.specs.Facts.{AreFacts, HasFile, RunFacts, file_read, move, units, units_written}
use Rattle.dwz_law_layout.specs.Listed.{AreListed, TextsAt}
use Rattle.dwz_law_layout.specs.Named.{keys, old_number, root_name, unit_name}
use Rattle.dwz_law_layout.specs.Unfitted.{file_unit_forms}
use Rattle.dwz_law_layout.proofs.ImagesStand.{old}
use Rattle.dwz_law_layout.proofs.LayoutLemmas.{knows_file}
use Rattle.dwz_law_layout.proofs.UnitsReach.{own_part, part_number}
use Rattle.dwz_law_layout.specs.Roots.{UnitShown}
use Rattle.dwz_law_layout.proofs.SpaceRows.{space_rows_shown}
use Rattle.dwz_law_layout.proofs.TopTrees.{top_trees}
use Rattle.dwz_law_layout.proofs.StayingTrees.{AreStaying, IsStaying, OriginStays, SlotsStay, StaysIn, labelled_stay, row_stays, tree_stays}
use Rattle.dwz_law_layout.proofs.UnitNames.{kept_names, space_node, top_below, top_node}
use Rattle.dwz_law_layout.proofs.WrittenNames.{root_stays, space_stays, whole_stays}

module _ {beside : Beside} (f : RunFacts beside) (t : TextsAt) (k : EntryTable) (facts : AreFacts f) (listed : AreListed f t k) (n : ℕ) (bytes : List ℕ) (x : File) (index : Index) (h : HasFile f n bytes x index) where
  abbrev m : Move
  m = move f

  -- the tops that don't leave their units
  abbrev P : ℕ → Type 0
  P = StaysIn (move f) (units f)

  abbrev image : EntryName → EntryName
  image = image_in (move f)

  abbrev F : FileRead
  F = file_read f n bytes x

  file : KnowsFile k (file_read f n bytes x)
  file = knows_file f t k facts listed n bytes x index h

  -- of the unit with that number, which is of the file
  module _ (i : ℕ) (u : FileUnit EntryName) (nth : Nth 0 (units f) i u) (own : u.file ≡ n) where
    abbrev names : Names EntryName
    names = kept_names (move f) (units f) i u.unit

    -- what is kept of it
    abbrev kept : DwUnit EntryName
    kept = kept_unit (move f) (units f) i u

    -- ---- tops

    -- a top of the unit that stays, which is of the file
    top_file : (top : ℕ) (s : StaysHere (move f) (units f) i top) → s.top.file ≡ n
    top_file top s =
        let o = of_unit (units f) s.top s.there in
        let same : o.unit ≡ u = nth_one 0 (units f) i o.unit u (subst (λ (w : ℕ). Nth 0 (units f) w o.unit) s.unit o.nth) nth in
        o.file ∙ ap (λ (w : FileUnit EntryName). w.file) same ∙ own

    top_is : (top : ℕ) (s : StaysHere (move f) (units f) i top) → slice_get (tops_of (units f)) top ≡ Some s.top
    top_is top s = ap (slice_get (tops_of (units f))) (sym s.number) ∙ top_there (units f) s.top s.there

    top_shown : (top : ℕ) → StaysHere (move f) (units f) i top → ShowsTree F (top_row k top) (names.top top) (names.below top)
    top_shown top s =
        let tree = top_trees _ f t k facts listed n bytes x index h s.top s.there (top_file top s) in
        let here : ShowsTree F (top_row k top) (node_map image s.top.node) (entries_map image s.top.below) =
        subst (λ (w : ℕ). ShowsTree F (top_row k w) (node_map image s.top.node) (entries_map image s.top.below)) s.number tree in
        subst (λ (o : Option Top). ShowsTree F (top_row k top) (top_node image u.unit.root o) (top_below image o)) (sym (top_is top s)) here

    top_image : (top : ℕ) (s : StaysHere (move f) (units f) i top) (path : List ℕ) → IsStaying P (image (Within s.top.number path))
    top_image top s path =
        let stays : m.gone s.top.number ≡ false = ap m.gone s.number ∙ s.stays in
        let lt = number_below 0 (tops_of (units f)) s.top (tops_numbers (units f)) s.there in
        let own : s.top.number < length (tops_of (units f)) = omega (arith, lt) in
        subst P (sym (facts.goes.stays s.top.number stays)) (stays, own)

    top_slots : (depth top : ℕ) (sort : Sort) → StaysHere (move f) (units f) i top → SlotsStay P F (what_slots k sort depth (TopItem top))
    top_slots depth top sort s =
        let labels = (old f facts).tops_named s.top s.there in
        let node : IsStaying P (names.top top).at =
        subst (λ (o : Option Top). IsStaying P (top_node image u.unit.root o).at) (sym (top_is top s))
        (subst (λ (w : EntryName). IsStaying P (image w)) (sym labels.0) (top_image top s [])) in
        let below : AreStaying P (names.below top) =
        subst (λ (o : Option Top). AreStaying P (top_below image o)) (sym (top_is top s)) (labelled_stay m P (Within s.top.number) (top_image top s) [] 0 s.top.below labels.1) in
        tree_stays P F k file depth (top_row k top) (names.top top) (names.below top) (top_shown top s) node below

    -- ---- spaces

    space_shown : (s : ℕ) → IsSpaceIn (units f) i s → ShowsRow F (space_at k s).row (names.space s)
    space_shown s is =
        let o = space_stands (units f) i s is in
        let w = space_rows_shown _ f t k facts listed n bytes x index h i s u o.node nth own is o.found in
        subst (λ (q : Option (Node EntryName)). ShowsRow F (space_at k s).row (space_node image u.unit.root q)) (sym o.found) w.shows

    space_named : (s : ℕ) → IsSpaceIn (units f) i s → IsStaying P (names.space s).at
    space_named s is =
        let o = space_stands (units f) i s is in
        let same : o.unit ≡ u = nth_one 0 (units f) i o.unit u o.nth nth in
        let there : In o.node (spaces_below u.unit.kind u.unit.below) = subst (λ (w : FileUnit EntryName). In o.node (spaces_below w.unit.kind w.unit.below)) same o.below in
        subst (λ (q : Option (Node EntryName)). IsStaying P (space_node image u.unit.root q).at) (sym o.found) (space_stays P m (units f) (old f facts) i u nth o.node there)

    -- ---- where the unit has that number among all that are written

    module _ (changed : changes (move f) (units f) n ≡ true) (here : ℕ) (at : slice_get (units_written f) here ≡ Some kept) (is : In kept (out_units (move f) (units f) n)) where
      abbrev ft : UnitForms EntryName
      ft = file_unit_forms f n kept

      import_shown : (part : ℕ) → IsUsedBy (move f).parts i part → ShowsImport (keys f) k here ft part (names.import part)
      import_shown part w =
          let home = facts.goes.used part w.part w.nth i u nth w.user in
          let root : (keys f).root (unit_of_part k part) ≡ PartialRoot part = ap root_name (part_number f t k facts listed part w.part w.nth) in
          let mine : (w.part.home ≡ Common) ⊎ (w.part.home ≡ Local n) = subst (λ (q : ℕ). (w.part.home ≡ Common) ⊎ (w.part.home ≡ Local q)) own home in
          let reach = own_part f t k facts listed n changed here kept at is part w.part w.nth mine in
          record {
            at =
                ap (λ (q : Option (DwUnit EntryName)). ImportSpot (old_number (unit_name q)) part) at
                ∙ ap (λ (q : EntryName). ImportSpot (old_number q) part) ((old f facts).units_named i u nth).unit;
            tag = refl;
            attrs = ap (λ (q : EntryName). (let a : Attr EntryName = record { name = 0x18; form = 0x10; raw = pos 0; value = ref q } in a ∷ [])) (sym root);
            own = reach.own;
            file = reach.file;
          }

      module _ (sort : Sort) (shown : UnitShown f n bytes x u.unit sort) where
        -- ---- what the items show

        abbrev pub Shows : NewNumbers → Item → Type 0
        Shows numbers y = ShowsWhat (keys f) k (file_read f n bytes x ∷ []) here ft numbers names sort y.depth y.what

        what_shown : (numbers : NewNumbers) (depth : ℕ) (what : ItemKind) → IsOfOld (move f) (units f) i what
            → ShowsWhat (keys f) k (file_read f n bytes x ∷ []) here ft numbers names sort depth what
        what_shown numbers depth Root w = absurd w
        what_shown numbers depth Whole w = absurd w
        what_shown numbers depth (TopItem top) w = inl (top_shown top w)
        what_shown numbers depth (Space s) w = inl (space_shown s w)
        what_shown numbers depth (InChain chain s) w = absurd w
        what_shown numbers depth (Import part) w = import_shown part w

        pub items_shown : (numbers : NewNumbers) (kind : Kind EntryName) (items : List Item) → OldNames (move f) (units f) i kind items → Each (Shows numbers) items
        items_shown numbers Compile items w =
            subst (Each (Shows numbers)) (sym w.items_are)
            (shown.root here, each_more (λ y. IsOfOld (move f) (units f) i y.what) (Shows numbers) w.others (λ y z. what_shown numbers y.depth y.what z) w.each)
        items_shown numbers (OfType signature main) items w = subst (Each (Shows numbers)) (sym w) (shown.whole, tt)
        items_shown numbers Partial items w = subst (Each (Shows numbers)) (sym w) (shown.whole, tt)

        -- ---- what is written of them stays

        root_slots : (o : Sort) → ShowsRoot (keys f) (F ∷ []) here o (node_map image u.unit.root) → SlotsStay P F (slot 1 (root_of o) ∷ [])
        root_slots (CompileSort root) (inl w) = (row_stays P F root (node_map image u.unit.root) w (root_stays P m (units f) (old f facts) i u nth), tt)
        root_slots (CompileSort root) (inr w) = absurd w
        root_slots (TypeSort root signature main) (inl w) = (row_stays P F root (node_map image u.unit.root) w (root_stays P m (units f) (old f facts) i u nth), tt)
        root_slots (TypeSort root signature main) (inr w) = absurd w
        root_slots (PartialSort place) w = (tt, tt)

        all_of : (root : Row) → (u.unit.kind ≡ Compile → ⊥) → ShowsTree F root (node_map image u.unit.root) (entries_map image u.unit.below) → SlotsStay P F (tree_slots k 1 root)
        all_of root other w =
            let first = root_stays P m (units f) (old f facts) i u nth in
            let others = whole_stays P m (units f) (old f facts) i u nth other in
            tree_stays P F k file 1 root (node_map image u.unit.root) (entries_map image u.unit.below) w first others

        whole_tree : (o : Sort) → (u.unit.kind ≡ Compile → ⊥) → ShowsWhole (F ∷ []) o (node_map image u.unit.root) (entries_map image u.unit.below) → SlotsStay P F (whole_slots k 1 o)
        whole_tree (CompileSort root) other (inl w) = all_of root other w
        whole_tree (CompileSort root) other (inr w) = absurd w
        whole_tree (TypeSort root signature main) other (inl w) = all_of root other w
        whole_tree (TypeSort root signature main) other (inr w) = absurd w
        whole_tree (PartialSort place) other w = absurd w

        what_stays : (depth : ℕ) (what : ItemKind) → IsOfOld (move f) (units f) i what → SlotsStay P F (what_slots k sort depth what)
        what_stays depth Root w = absurd w
        what_stays depth Whole w = absurd w
        what_stays depth (TopItem top) w = top_slots depth top sort w
        what_stays depth (Space s) w = (row_stays P F (space_at k s).row (names.space s) (space_shown s w) (space_named s w), tt)
        what_stays depth (InChain chain s) w = absurd w
        what_stays depth (Import part) w = (tt, tt)

        others_stay : (items : List Item) → Each (λ y. IsOfOld (move f) (units f) i y.what) items → SlotsStay P F (items_slots k sort items)
        unfolding items_slots
        others_stay [] all = tt
        others_stay (y ∷ items) all =
            each_append (λ s. OriginStays P F s.origin) (what_slots k sort y.depth y.what) (items_slots k sort items) (what_stays y.depth y.what all.0) (others_stay items all.1)

        all_of_it : (kind : Kind EntryName) → u.unit.kind ≡ kind → (kind ≡ Compile → ⊥) → (items : List Item) → items ≡ item 1 Whole ∷ [] → SlotsStay P F (items_slots k sort items)
        unfolding items_slots
        all_of_it kind is other items w =
            subst (λ (q : List Item). SlotsStay P F (items_slots k sort q)) (sym w)
            (each_append (λ s. OriginStays P F s.origin) (whole_slots k 1 sort) [] (whole_tree sort (λ e. other (sym is ∙ e)) shown.whole) tt)

        pub items_stay : (kind : Kind EntryName) → u.unit.kind ≡ kind → (items : List Item) → OldNames (move f) (units f) i kind items
            → SlotsStay (StaysIn (move f) (units f)) (file_read f n bytes x) (items_slots k sort items)
        unfolding items_slots
        items_stay Compile is items w =
            subst (λ (q : List Item). SlotsStay P F (items_slots k sort q)) (sym w.items_are)
            (each_append (λ s. OriginStays P F s.origin) (slot 1 (root_of sort) ∷ []) (items_slots k sort w.others) (root_slots sort (shown.root here)) (others_stay w.others w.each))
        items_stay (OfType signature main) is items w = all_of_it (OfType signature main) is (λ e. cc) items w
        items_stay Partial is items w = all_of_it Partial is (λ e. cc) items w
