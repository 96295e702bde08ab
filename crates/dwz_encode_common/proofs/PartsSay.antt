-- What is written of a partial unit of the common file gives what the unit says: item by item, where each entry that was read does.
use Rattle.std.proofs.Common.{◌≡◌, ℕ, suc, ◌-◌, true, false, Bool, List, [], ◌∷◌, ◌++◌, map, Some, pos, refl, sym, ap, subst, ◌∙◌, append-nil}
use Rattle.std.specs.List.{flat_map}
use Rattle.std.proofs.lemmas.List.Concat.{flat_map-append}
use Rattle.dwz_def_reading.specs.Lists.{Each, In}
use Rattle.dwz_def_reading.specs.Documents.{Attr, Node, Sec, Text, entries_map, node_map, only}
use Rattle.dwz_def_tops.specs.Lists.{Nth}
use Rattle.dwz_def_tops.specs.Spaces.{space_text}
use Rattle.dwz_def_tops.specs.Spots.{EntryName, SpaceName, Top, name_of}
use Rattle.dwz_layout_items.specs.declared.order.Item.{Item}
use Rattle.dwz_layout_items.specs.declared.order.ItemKind.{ItemKind}
use Rattle.dwz_layout_items.specs.declared.order.ItemKind.TheVariants.{Import, InChain, Root, Space, Top as ATopOf, Whole}
use Rattle.dwz_layout_items.specs.declared.partial.SpaceRow.{SpaceRow as RowOfSpace}
use Rattle.dwz_layout_items.specs.declared.partial.TopSpaces.{TopSpaces}
use Rattle.dwz_layout_items.specs.Lines.{Line, line, lines, unit_lines}
use Rattle.dwz_layout_items.specs.Order.{Names, ShowsUnit, order_lines, what_lines}
use Rattle.dwz_def_images.specs.Homes.{Common}
use Rattle.dwz_def_images.specs.Moves.{first_unit, image_in, line_attr, line_attrs, line_in, names_path}
use Rattle.dwz_def_images.specs.Plan.{PartialUnit}
use Rattle.dwz_def_images.specs.Units.{partial_unit}
use Rattle.dwz_graph.specs.declared.file.File.{File}
use Rattle.dwz_graph.specs.Index.{Index}
use Rattle.dwz_layout_order.specs.Lists.{all_spaces, all_tops, rows_from, spaces_at}
use Rattle.dwz_layout_order.specs.Parts.{IsPart}
use Rattle.dwz_layout_order.specs.Shown.{KnowsSpaces}
use Rattle.dwz_layout_order.specs.Spaces.{said_of}
use Rattle.dwz_layout_order.proofs.PartShown.{part_shown}
use Rattle.dwz_layout_order.specs.declared.orders.Settled.{Settled}
use Rattle.dwz_layout.specs.declared.known.EntryTable.{EntryTable}
use Rattle.dwz_layout.specs.declared.order.Sort.{Sort}
use Rattle.dwz_layout.specs.declared.order.Sort.TheVariants.{Partial}
use Rattle.dwz_layout.specs.declared.order.UnitItems.{UnitItems}
use Rattle.dwz_layout.specs.declared.walk.Origin.{Origin}
use Rattle.dwz_layout.specs.declared.walk.Origin.TheVariants.{Chained, OwnRoot, Read as OfRow}
use Rattle.dwz_layout.specs.declared.walk.Slot.{Slot}
use Rattle.dwz_layout.specs.Entries.{items_slots, row, tree_slots, what_slots}
use Rattle.dwz_layout.specs.Known.{space_at, top_row}
use Rattle.dwz_unit.specs.Rows.{EntryRow}
use Rattle.dwz_law_layout.specs.Knows.{IsRead, name_attr}
use Rattle.dwz_law_layout.specs.Beside.{Alone}
use Rattle.dwz_law_layout.specs.Facts.{AreFacts, HasFile, IsMade, RunFacts, docs, file_read, move, units}
use Rattle.dwz_law_layout.specs.Listed.{AreListed, TextsAt}
use Rattle.dwz_law_layout.specs.Settled.{IsSettled}
use Rattle.dwz_law_layout.proofs.LayoutLemmas.{knows_file}
use Rattle.dwz_law_layout.specs.New.{IsOfNew, NewNames}
use Rattle.dwz_law_layout.proofs.FileSpaces.{new_items}
use Rattle.dwz_law_layout.proofs.SpaceStands.{space_stands}
use Rattle.dwz_law_layout.proofs.FilesFound.{unit_files}
use Rattle.dwz_law_layout.proofs.SpaceRows.{space_rows_shown}
use Rattle.dwz_law_layout.proofs.TopTrees.{top_files, top_trees}
use Rattle.dwz_law_layout.proofs.PartHomes.{tops_there}
use Rattle.dwz_law_layout.proofs.PartNames.{names, names_all, names_partial, top_named}
use Rattle.dwz_encode_common.specs.Gathered.{lines_said}
use Rattle.dwz_encode_common.specs.Stored.{items_give, slots_give}
use Rattle.dwz_encode_common.proofs.TreeTexts.{tree_gives}
use Rattle.dwz_law_layout.specs.Moving.{IsMadePart}

-- each entry that was read gives what it means, and each space of a chain what its name does; roots of partial units give nothing
pub record Agree (f : RunFacts Alone) (k : EntryTable) (give : Origin → List (List ℕ)) (said : Attr EntryName → List (List ℕ)) : Type 0 where
  pub rows : (n : ℕ) (bytes : List ℕ) (x : File) (index : Index) → HasFile f n bytes x index
      → (i : ℕ) (r : EntryRow) (d : Node ℕ) → IsRead (file_read f n bytes x) i r d
      → give (OfRow (row n i)) ≡ flat_map said (node_map (file_read f n bytes x).after d).attrs
  pub names : (n : ℕ) (bytes : List ℕ) (x : File) (index : Index) → HasFile f n bytes x index
      → (chain space i : ℕ) (r : EntryRow) (d : Node ℕ) (text : List ℕ) → (space_at k space).row ≡ row n i
      → IsRead (file_read f n bytes x) i r d → space_text d ≡ Some text
      → give (Chained chain space) ≡ said (name_attr (name_of text d))
  pub roots : (place : _) → give (OwnRoot place) ≡ []
  pub line : said (line_attr (pos 0) (Sec 0)) ≡ []

name_same : (said name : SpaceName) → said ≡ name
    → name_attr name ∷ [] ≡ record { name = 0x03; form = said.form; raw = said.raw; value = only {P = EntryName} (Text said.text) } ∷ []
name_same said name e = sym (ap (λ (w : SpaceName). name_attr w ∷ []) e)

module _ (f : RunFacts Alone) (t : TextsAt) (k : EntryTable) (facts : AreFacts f) (listed : AreListed f t k) (s : Settled) (settled : IsSettled f s)
    (give : Origin → List (List ℕ)) (said : Attr EntryName → List (List ℕ)) (agree : Agree f k give said) where
  abbrev says : List (Line EntryName) → List (List ℕ)
  says ls = lines_said said ls

  -- ---- roots

  root_attrs : (part : PartialUnit) → part.home ≡ Common → flat_map said (line_attrs (units f) part) ≡ []
  unfolding line_attrs
  root_attrs part home = go (names_path part) where
    one : flat_map said (line_in (units f) part.home part.tops ∷ []) ≡ []
    one = ap (λ (h : _). flat_map said (line_in (units f) h part.tops ∷ [])) home ∙ append-nil (said (line_attr (pos 0) (Sec 0)))
        ∙ agree.line

    go : (b : Bool) → flat_map said
        (elim b as (λ _. List (Attr EntryName)) [ true ↦ line_in (units f) part.home part.tops ∷ [] | false ↦ [] ]) ≡ []
    go true = one
    go false = refl

  module _ (p : ℕ) (part : PartialUnit) (nth : Nth 0 (move f).parts p part) (home : part.home ≡ Common) where
    is_made : IsMade f part.home
    is_made = tt

    made : IsMadePart (move f) (units f) p part
    made = facts.goes.made p part nth is_made

    abbrev mine : Names EntryName
    mine = names (move f) (units f) p

    root_none : flat_map said ((move f).roots p) ≡ []
    root_none = ap (flat_map said) made.root ∙ root_attrs part home

    -- ---- items

    top_gives : (depth top : ℕ) → (y : Top) × In y part.tops × (y.number ≡ top)
        → slots_give give (tree_slots k depth (top_row k top)) ≡ says (what_lines mine depth (ATopOf top))
    top_gives depth top is =
        let y = is.0 in
        let there = tops_there f facts 0 p part nth is_made y is.1 in
        let named = top_named (move f) (units f) p y there in
        let r = top_files _ f facts y there in
        let n = y.file in
        let tree = top_trees _ f t k facts listed n r.bytes r.x r.index r.has y there refl in
        let knows = knows_file f t k facts listed n r.bytes r.x r.index r.has in
        let gives = tree_gives give said k (file_read f n r.bytes r.x) knows.rows (agree.rows n r.bytes r.x r.index r.has) depth
        (top_row k y.number)
        (node_map (image_in (move f)) y.node) (entries_map (image_in (move f)) y.below) tree in
        let own : slots_give give (tree_slots k depth (top_row k y.number)) ≡ says (what_lines mine depth (ATopOf y.number)) =
        gives ∙ (λ i. says (line depth (sym named.node i) ∷ lines (suc depth) (sym named.below i))) in
        subst (λ (q : ℕ). slots_give give (tree_slots k depth (top_row k q)) ≡ says (what_lines mine depth (ATopOf q))) is.2 own

    chain_gives : (depth chain space : ℕ) → IsOfNew (units f) part (InChain chain space)
        → give (Chained chain space) ++ [] ≡ says (what_lines mine depth (InChain chain space))
    chain_gives depth chain space is =
        let w = space_stands (units f) (first_unit part.tops) space is in
        let n = w.unit.file in
        let r = unit_files _ f facts (first_unit part.tops) w.unit w.nth in
        let shown = space_rows_shown _ f t k facts listed n r.bytes r.x r.index r.has
        (first_unit part.tops) space w.unit w.node w.nth refl is w.found in
        let shows = shown.shows in
        let name = agree.names n r.bytes r.x r.index r.has chain space shows.i shows.x shows.d shown.text shows.row_is shows.read
        shown.is_space in
        let attrs = name_same (said_of (units f) space) (name_of shown.text shows.d) shown.said in
        append-nil (give (Chained chain space)) ∙ name
        ∙ sym (append-nil (said (name_attr (name_of shown.text shows.d))))
        ∙ ap (flat_map said) attrs
        ∙ sym (append-nil (flat_map said (mine.in_chain chain (depth - 2) space).attrs))

    what_gives : (place : _) (depth : ℕ) (what : ItemKind) → IsOfNew (units f) part what
        → slots_give give (what_slots k (Partial place) depth what) ≡ says (what_lines mine depth what)
    what_gives place depth Root is = absurd is
    what_gives place depth Whole is = absurd is
    what_gives place depth (ATopOf top) is = top_gives depth top is
    what_gives place depth (Space space) is = absurd is
    what_gives place depth (InChain chain space) is = chain_gives depth chain space is
    what_gives place depth (Import other) is = absurd is

    items_say : (place : _) (items : List Item) → Each (λ y. IsOfNew (units f) part y.what) items
        → slots_give give (items_slots k (Partial place) items) ≡ says (order_lines mine items)
    unfolding items_slots order_lines
    items_say place [] are = refl
    items_say place (y ∷ items) are =
        flat_map-append (λ (w : Slot). give w.origin) (what_slots k (Partial place) y.depth y.what) (items_slots k (Partial place) items)
        ∙ (λ i. what_gives place y.depth y.what are.0 i ++ items_say place items are.1 i)
        ∙ sym (flat_map-append (λ (l : Line EntryName). flat_map said l.node.attrs) (what_lines mine y.depth y.what) (order_lines mine items))

    all_say : (place : _) (items : List Item) → NewNames (units f) part items
        → slots_give give (items_slots k (Partial place) items) ≡ says (order_lines mine items)
    unfolding items_slots order_lines
    all_say place items new =
        ap (λ (w : List Item). slots_give give (items_slots k (Partial place) w)) new.items_are
        ∙ (λ i. agree.roots place i ++ items_say place new.others new.each i)
        ∙ ap (λ (w : List (List ℕ)). w ++ says (order_lines mine new.others)) (sym root_none)
        ∙ ap (λ (w : List Item). says (order_lines mine w)) (sym new.items_are)

    -- ---- the unit

    module _ (o : UnitItems) (put : IsPart s.rows.now s.of_tops.now (map (λ (y : Top). y.number) part.tops) o.items) (place : _)
        (sort : o.sort ≡ Partial place) where
      spaces : KnowsSpaces (units f) (rows_from 0 (all_spaces f.indexes)) settled.texts settled.lists (all_tops f.indexes)
      spaces = subst (λ (w : List RowOfSpace). KnowsSpaces (units f) w settled.texts settled.lists (all_tops f.indexes)) settled.rows_are
          settled.spaces

      put_so : IsPart (rows_from 0 (all_spaces f.indexes)) (map (spaces_at settled.lists) (all_tops f.indexes))
          (map (λ (y : Top). y.number) part.tops) o.items
      put_so =
          subst (λ (w : List RowOfSpace). IsPart w (map (spaces_at settled.lists) (all_tops f.indexes))
          (map (λ (y : Top). y.number) part.tops) o.items) settled.rows_are
          (subst (λ (w : List TopSpaces). IsPart s.rows.now w (map (λ (y : Top). y.number) part.tops) o.items) settled.of_tops put)

      new : NewNames (units f) part o.items
      new = new_items (docs f) f.indexes (move f) settled.texts settled.lists facts.indexed spaces p part o.items made put_so

      shows : ShowsUnit mine o.items (partial_unit (move f) p)
      shows = part_shown (units f) (rows_from 0 (all_spaces f.indexes)) settled.texts settled.lists
          (all_tops f.indexes) spaces.own spaces.numbers
          spaces.are spaces.leads (move f) p part o.items made.row
          (tops_there f facts 0 p part nth is_made) put_so mine (names_all (move f) (units f) p) (names_partial (move f) (units f) p)

      pub part_says : items_give give k o ≡ lines_said said (unit_lines (partial_unit (move f) p))
      part_says =
          ap (λ (w : Sort). slots_give give (items_slots k w o.items)) sort ∙ all_say place o.items new ∙ ap says shows
