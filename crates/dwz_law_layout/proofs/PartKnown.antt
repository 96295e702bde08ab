-- What is known of one partial unit, from the file that it comes from: its root, its tops, the spaces of its chains, and all that its entries name.
use Rattle.std.proofs.Common.{◌≡◌, ℕ, ◌-◌, List, [], ◌∷◌, map, Option, Some, slice_get, inl, inr, refl, sym, ap, subst}
use Rattle.dwz_def_reading.specs.Lists.{Each, In}
use Rattle.dwz_def_reading.specs.Documents.{DwUnit, Entries, Node, Partial as PartialKind, Text, entries_map, only}
use Rattle.dwz_def_tops.specs.Lists.{Nth}
use Rattle.dwz_def_tops.proofs.Members.{each_in, each_of}
use Rattle.dwz_def_tops.specs.Spots.{EntryName, FileUnit, InChain as ChainSpot, SpaceName, Top}
use Rattle.dwz_layout_items.specs.declared.order.Item.{Item}
use Rattle.dwz_layout_items.specs.declared.order.ItemKind.{ItemKind}
use Rattle.dwz_layout_items.specs.declared.order.ItemKind.TheVariants.{Import, InChain, Root, Space, Top as ATopOf, Whole}
use Rattle.dwz_layout_items.specs.declared.partial.SpaceRow.{SpaceRow as RowOfSpace}
use Rattle.dwz_layout_items.specs.declared.partial.TopSpaces.{TopSpaces}
use Rattle.dwz_layout_items.specs.Order.{Names}
use Rattle.dwz_def_images.specs.Moves.{first_unit, image_in}
use Rattle.dwz_def_images.specs.Plan.{PartialUnit}
use Rattle.dwz_def_images.specs.Units.{partial_unit}
use Rattle.dwz_def_encoding.specs.Placing.{KeyedForms, UnitForms, unit_forms}
use Rattle.dwz_graph.specs.declared.file.File.{File}
use Rattle.dwz_graph.specs.Index.{Index}
use Rattle.dwz_layout_order.specs.Lists.{all_spaces, all_tops, rows_from, spaces_at}
use Rattle.dwz_layout_order.specs.Parts.{IsPart}
use Rattle.dwz_layout_order.specs.Shown.{KnowsSpaces}
use Rattle.dwz_layout_order.specs.Spaces.{said_of}
use Rattle.dwz_layout_order.proofs.PartShown.{part_shown}
use Rattle.dwz_layout_order.specs.declared.orders.Settled.{Settled}
use Rattle.dwz_layout_order.specs.Ordered.{line_given}
use Rattle.dwz_layout.specs.declared.known.EntryTable.{EntryTable}
use Rattle.dwz_layout.specs.declared.order.Sort.{Sort}
use Rattle.dwz_layout.specs.declared.order.Sort.TheVariants.{Partial}
use Rattle.dwz_layout.specs.declared.order.UnitItems.{UnitItems}
use Rattle.dwz_layout.specs.Attributes.{is_common}
use Rattle.dwz_layout.specs.Known.{space_at, top_row}
use Rattle.dwz_encode.specs.Shown.{SortShows}
use Rattle.dwz_law_layout.specs.Fitted.{KnowsShown}
use Rattle.dwz_law_layout.specs.Knows.{FileRead, KnowsFiles, KnowsIn, KnowsOwners, NewNumbers, ShowsChained, ShowsLine, ShowsTree, ShowsWhat, name_attr}
use Rattle.dwz_law_layout.specs.Beside.{Beside}
use Rattle.dwz_law_layout.specs.Facts.{AreFacts, HasFile, IsMade, RunFacts, docs, file_read, move, units, units_written}
use Rattle.dwz_law_layout.specs.Listed.{AreListed, TextsAt}
use Rattle.dwz_law_layout.specs.Named.{keys, part_number, root_name, unit_name}
use Rattle.dwz_law_layout.specs.Settled.{IsSettled}
use Rattle.dwz_law_layout.specs.Unfitted.{HasChained, KnowsTextsOf, NamesChained}
use Rattle.dwz_law_layout.proofs.LayoutLemmas.{knows_file, knows_references}
use Rattle.dwz_law_layout.specs.Moving.{IsMadePart}
use Rattle.dwz_law_layout.specs.New.{IsOfNew, NewNames}
use Rattle.dwz_law_layout.proofs.FileSpaces.{new_items}
use Rattle.dwz_law_layout.proofs.SpaceStands.{space_stands}
use Rattle.dwz_law_layout.proofs.SpaceRows.{space_rows_shown}
use Rattle.dwz_law_layout.proofs.TopTrees.{top_trees}
use Rattle.dwz_law_layout.proofs.PartHomes.{line_known, tops_of_file, tops_there}
use Rattle.dwz_law_layout.proofs.PartNames.{names, names_all, names_partial, top_named}
use Rattle.dwz_law_layout.proofs.PartsWritten.{part_names}

-- the name of a space, as it was read
name_same : (said name : SpaceName) → said ≡ name → record { name = 0x03; form = said.form; raw = said.raw; value = only {P = EntryName} (Text said.text) } ∷ [] ≡ name_attr name ∷ []
name_same said name e = ap (λ (w : SpaceName). name_attr w ∷ []) e

module _ {beside : Beside} (f : RunFacts beside) (t : TextsAt) (k : EntryTable) (facts : AreFacts f) (listed : AreListed f t k) (s : Settled) (settled : IsSettled f s)
    (n : ℕ) (bytes : List ℕ) (x : File) (index : Index) (h : HasFile f n bytes x index) (ff : KeyedForms EntryName) (numbers : NewNumbers) where
  abbrev F : FileRead
  F = file_read f n bytes x

  -- the unit that its tops are of is one of the file
  module _ (p : ℕ) (part : PartialUnit) (nth : Nth 0 (move f).parts p part) (is_made : IsMade f part.home) (first : (v : FileUnit EntryName) → Nth 0 (units f) (first_unit part.tops) v → v.file ≡ n) (o : UnitItems) (here : ℕ)
      (at : slice_get (units_written f) here ≡ Some (partial_unit (move f) p)) (texts : KnowsTextsOf f k (unit_forms ff (partial_unit (move f) p)) numbers n o) where
    made : IsMadePart (move f) (units f) p part
    made = facts.goes.made p part nth is_made

    abbrev u : DwUnit EntryName
    u = partial_unit (move f) p

    abbrev ft : UnitForms EntryName
    ft = unit_forms ff u

    abbrev mine : Names EntryName
    mine = names (move f) (units f) p

    -- ---- items

    top_shown : (top : ℕ) → (y : Top) × In y part.tops × (y.number ≡ top) → ShowsTree F (top_row k top) (mine.top top) (mine.below top)
    top_shown top is =
        let y = is.0 in
        let there = tops_there f facts n p part nth is_made y is.1 in
        let named = top_named (move f) (units f) p y there in
        let tree = top_trees _ f t k facts listed n bytes x index h y there (tops_of_file f facts n p part nth is_made first y is.1) in
        let one = subst (λ (w : Node EntryName). ShowsTree F (top_row k y.number) w (entries_map (image_in (move f)) y.below)) (sym named.node) tree in
        let two = subst (λ (w : Entries EntryName). ShowsTree F (top_row k y.number) (mine.top y.number) w) (sym named.below) one in
        subst (λ (q : ℕ). ShowsTree F (top_row k q) (mine.top q) (mine.below q)) is.2 two

    chain_shown : (chain depth space : ℕ) → IsOfNew (units f) part (InChain chain space) → HasChained space o.items
        → ShowsChained (keys f) (F ∷ []) ft numbers ((keys f).chained here chain depth) (space_at k space) (mine.in_chain chain depth space)
    chain_shown chain depth space is has =
        let w = space_stands (units f) (first_unit part.tops) space is in
        let row = space_rows_shown _ f t k facts listed n bytes x index h (first_unit part.tops) space w.unit w.node w.nth (first w.unit w.nth) is w.found in
        let shows = row.shows in
        record {
          at = ap (λ (v : Option (DwUnit EntryName)). ChainSpot (part_number (unit_name v)) chain depth) at;
          tag = refl;
          d = shows.d;
          text = row.text;
          is_space = row.is_space;
          attrs = name_same (said_of (units f) space) _ row.said;
          told = texts.spaces bytes x index h space shows.i shows.x shows.d row.text has row.listed shows.read row.is_space;
          there = inl (shows.i, shows.x, shows.row_is, shows.read);
        }

    what_shown : (place : Option ℕ) (y : Item) → In y o.items → IsOfNew (units f) part y.what → ShowsWhat (keys f) k (F ∷ []) here ft numbers mine (Partial place) y.depth y.what
    what_shown place y is own = by y.what refl own where
      by : (what : ItemKind) → y.what ≡ what → IsOfNew (units f) part what → ShowsWhat (keys f) k (F ∷ []) here ft numbers mine (Partial place) y.depth what
      by Root e own = absurd own
      by Whole e own = absurd own
      by (ATopOf top) e own = inl (top_shown top own)
      by (Space space) e own = absurd own
      by (InChain chain space) e own =
          chain_shown chain (y.depth - 2) space own (record { item = y; there = is; names = subst (λ (w : ItemKind). NamesChained space w) (sym e) refl })
      by (Import other) e own = absurd own

    items_shown : (place : Option ℕ) → ShowsLine place ((move f).roots p) → NewNames (units f) part o.items
        → Each (λ y. ShowsWhat (keys f) k (F ∷ []) here ft numbers mine (Partial place) y.depth y.what) o.items
    items_shown place line new =
        let Shown : Item → Type 0 = λ y. ShowsWhat (keys f) k (F ∷ []) here ft numbers mine (Partial place) y.depth y.what in
        let inside : (y : Item) → In y new.others → In y o.items = λ y i. subst (λ (w : List Item). In y w) (sym new.items_are) (inr i) in
        let root = ap root_name at in
        subst (Each Shown) (sym new.items_are)
        ((root, refl, line), each_of Shown new.others (λ y i. what_shown place y (inside y i) (each_in (λ z. IsOfNew (units f) part z.what) y new.others new.each i)))

    -- ---- the unit

    module _ (put : IsPart s.rows.now s.of_tops.now (map (λ (y : Top). y.number) part.tops) o.items) (sort : o.sort ≡ Partial (line_given s p)) where
      spaces : KnowsSpaces (units f) (rows_from 0 (all_spaces f.indexes)) settled.texts settled.lists (all_tops f.indexes)
      spaces = subst (λ (w : List RowOfSpace). KnowsSpaces (units f) w settled.texts settled.lists (all_tops f.indexes)) settled.rows_are settled.spaces

      put_so : IsPart (rows_from 0 (all_spaces f.indexes)) (map (spaces_at settled.lists) (all_tops f.indexes)) (map (λ (y : Top). y.number) part.tops) o.items
      put_so =
          subst (λ (w : List RowOfSpace). IsPart w (map (spaces_at settled.lists) (all_tops f.indexes)) (map (λ (y : Top). y.number) part.tops) o.items) settled.rows_are
          (subst (λ (w : List TopSpaces). IsPart s.rows.now w (map (λ (y : Top). y.number) part.tops) o.items) settled.of_tops put)

      new : NewNames (units f) part o.items
      new = new_items (docs f) f.indexes (move f) settled.texts settled.lists facts.indexed spaces p part o.items made put_so

      known_in : KnowsOwners (keys f) k F here o ft → KnowsFiles k F o ft → KnowsIn (keys f) k here o ft numbers F
      known_in owners files = record {
        file = knows_file f t k facts listed n bytes x index h;
        references = knows_references f t k facts listed n bytes x index h;
        owners = owners;
        texts = texts.entries bytes x index h;
        files = files;
        names = part_names f t k facts listed n bytes x index h p part made (tops_of_file f facts n p part nth is_made first) o (line_given s p) sort new;
      }

      pub part_known : KnowsOwners (keys f) k F here o ft → KnowsFiles k F o ft → is_common k here ≡ ff.is_common → KnowsShown (keys f) k ff numbers here o u
      part_known owners files common =
          let line = line_known f p part made (line_given s p) (settled.lines p part nth is_made) in
          let items = items_shown (line_given s p) line new in
          record {
            files = F ∷ [];
            names = mine;
            known = record {
              of_files = (known_in owners files, tt);
              of_items = subst (λ (w : Sort). Each (λ y. ShowsWhat (keys f) k (F ∷ []) here ft numbers mine w y.depth y.what) o.items) (sym sort) items;
            };
            common = common;
            sort = subst (λ (w : Sort). SortShows (keys f) w PartialKind) (sym sort) tt;
            root = ap root_name at;
            order = part_shown (units f) (rows_from 0 (all_spaces f.indexes)) settled.texts settled.lists (all_tops f.indexes) spaces.own spaces.numbers spaces.are spaces.leads (move f) p part o.items
                made.row (tops_there f facts n p part nth is_made) put_so mine (names_all (move f) (units f) p) (names_partial (move f) (units f) p);
          }
