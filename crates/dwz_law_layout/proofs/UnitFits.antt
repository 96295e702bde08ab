-- What is written of a unit is what the definition of forms says: item by item.
use Rattle.std.proofs.Common.{◌≡◌, ℕ, suc, ◌+◌, ◌-◌, Bool, true, false, List, [], ◌∷◌, ◌++◌, map, pos, Option, Some, None, refl, sym, ap, subst, ◌∙◌, inl, inr}
use Rattle.std.proofs.lemmas.List.{map-append}
use Rattle.dwz_def_reading.specs.Trees.{End, Entry}
use Rattle.dwz_def_reading.specs.Values.{Number}
use Rattle.dwz_def_reading.specs.Documents.{Attr, Compile as CompileKind, DwUnit, Entries, Kind, Node, OfType as TypeKind, Partial as PartialKind, Plain, ref}
use Rattle.dwz_def_reading.specs.Classes.{OfInfoEntry, OfOffset, Class, class_in, class_of, class_rows}
use Rattle.dwz_def_tops.specs.Spots.{EntryName, name_of}
use Rattle.dwz_layout_items.specs.declared.order.Item.{Item}
use Rattle.dwz_layout_items.specs.declared.order.ItemKind.{ItemKind}
use Rattle.dwz_layout_items.specs.declared.order.ItemKind.TheVariants.{Import, InChain, Root, Space, Top, Whole}
use Rattle.dwz_layout_items.specs.Lines.{Line, line, lines, unit_lines}
use Rattle.dwz_layout_items.specs.Order.{Names, ShowsUnit as ShowsOrder, order_lines, what_lines}
use Rattle.dwz_def_images.specs.Moves.{line_attr}
use Rattle.dwz_def_reading.specs.Lists.{Each}
use Rattle.dwz_def_tops.proofs.Members.{each_split}
use Rattle.dwz_def_tops.specs.Spaces.{space_text}
use Rattle.dwz_unit.specs.Rows.{EntryRow}
use Rattle.dwz_def_encoding.specs.Placing.{KeyedForms, UnitForms, UnitRole, as_read, fit, fit_as, fit_attr, fit_node, holder_of, has_key, reach_by, ref_form, unit_forms}
use Rattle.dwz_def_encoding.specs.Pruned.{entries_renumbered, renumbered_attr, renumbered_node}
use Rattle.dwz_layout.specs.declared.known.EntryTable.{EntryTable}
use Rattle.dwz_layout.specs.declared.known.Row.{Row}
use Rattle.dwz_layout.specs.declared.known.SpaceRow.{SpaceRow}
use Rattle.dwz_layout.specs.declared.order.Sort.{Sort}
use Rattle.dwz_layout.specs.declared.order.Sort.TheVariants.{Compile, OfType, Partial}
use Rattle.dwz_layout.specs.declared.order.UnitItems.{UnitItems}
use Rattle.dwz_layout.specs.declared.walk.Origin.{Origin}
use Rattle.dwz_layout.specs.declared.walk.Origin.TheVariants.{Chained, Imported, OwnRoot, Read as OfRow}
use Rattle.dwz_layout.specs.declared.walk.Slot.{Slot}
use Rattle.dwz_layout.specs.Attributes.{WritingContext, form_to, here_of, holder_by, import_attr, is_common, line_attrs, plain_pair, space_attrs}
use Rattle.dwz_layout.specs.Entries.{items_slots, root_of, row, slot, tree_slots, what_slots, whole_slots}
use Rattle.dwz_layout.specs.Known.{number_of, space_at, text_held, top_row, unit_of_part}
use Rattle.dwz_encode.specs.Shown.{HasRow, HeldAttr, HeldLine, IsRow, Key, Keys, ShowsUnit, Value, SortShows, attr_held, held_of, line_held, slot_held}
use Rattle.dwz_law_layout.specs.Fitted.{given_unit}
use Rattle.dwz_law_layout.specs.Knows.{FileRead, IsRead, IsText, KnowsFile, KnowsIn, KnowsOrigin, KnowsSlots, KnowsUnit, NewNumbers, OfSome, ShowsChained, ShowsImport, ShowsLine, ShowsRoot, ShowsRow}
use Rattle.dwz_law_layout.specs.Knows.{ShowsTree, ShowsWhat, ShowsWhole, Writes, given_attr, given_line, given_node, name_attr}
use Rattle.dwz_law_layout.proofs.NameFits.{space_fits}
use Rattle.dwz_law_layout.proofs.RowFits.{row_fits, tree_fits}
use Rattle.dwz_law_layout.proofs.ValueFits.{other_given, reference_form}
use Rattle.dwz_law_layout.proofs.FormFits.{entry_held}

each_map : {X : Type 0} (xs : List X) (P Q : X → Type 0) → ((x : X) → P x → Q x) → Each P xs → Each Q xs
each_map [] P Q go all = tt
each_map (x ∷ xs) P Q go all = (go x all.0, each_map xs P Q go all.1)

-- ---- lines with forms

-- numbers behind forms
renumbered_attrs : (ft : UnitForms EntryName) (number : ℕ → ℕ) (attrs : List (Attr EntryName)) → map (renumbered_attr number) (map (fit_attr ft) attrs) ≡ map (given_attr ft (Some number)) attrs
renumbered_attrs ft number [] = refl
renumbered_attrs ft number (a ∷ attrs) = ap (λ (w : List (Attr EntryName)). given_attr ft (Some number) a ∷ w) (renumbered_attrs ft number attrs)

node_given : (ft : UnitForms EntryName) (number : ℕ → ℕ) (e : Node EntryName) → renumbered_node number (fit_node ft e) ≡ given_node ft (Some number) e
node_given ft number e = (λ i. let n : Node EntryName = record { at = e.at; tag = e.tag; attrs = renumbered_attrs ft number e.attrs i } in n)

lines_fit : (ft : UnitForms EntryName) (depth : ℕ) (g : Entries EntryName) → lines depth (fit ft g) ≡ map (given_line ft None) (lines depth g)
unfolding lines fit
lines_fit ft depth End = refl
lines_fit ft depth (Entry e children next) =
    ap (λ (w : List (Line EntryName)). line depth (fit_node ft e) ∷ w) ((λ i. lines_fit ft (suc depth) children i ++ lines_fit ft depth next i)
    ∙ sym (map-append (given_line ft None) (lines (suc depth) children) (lines depth next)))

lines_renumbered : (ft : UnitForms EntryName) (number : ℕ → ℕ) (depth : ℕ) (g : Entries EntryName) → lines depth (entries_renumbered number (fit ft g)) ≡ map (given_line ft (Some number)) (lines depth g)
unfolding lines fit entries_renumbered
lines_renumbered ft number depth End = refl
lines_renumbered ft number depth (Entry e children next) =
    (λ i. line depth (node_given ft number e i) ∷ (lines_renumbered ft number (suc depth) children i ++ lines_renumbered ft number depth next i))
    ∙ ap (λ (w : List (Line EntryName)). line depth (given_node ft (Some number) e) ∷ w) (sym (map-append (given_line ft (Some number)) (lines (suc depth) children) (lines depth next)))

-- the lines of a unit, with what is written of its values
unit_given : (ff : KeyedForms EntryName) (rn : NewNumbers) (u : DwUnit EntryName) → unit_lines (given_unit ff rn u) ≡ map (given_line (unit_forms ff u) rn) (unit_lines u)
unit_given ff None u = ap (λ (w : List (Line EntryName)). line 1 (fit_node (unit_forms ff u) u.root) ∷ w) (lines_fit (unit_forms ff u) 2 u.below)
unit_given ff (Some number) u = (λ i. line 1 (node_given (unit_forms ff u) number u.root i) ∷ lines_renumbered (unit_forms ff u) number 2 u.below i)

map_twice : (ft : UnitForms EntryName) (rn : NewNumbers) (ls : List (Line EntryName)) → map line_held (map (given_line ft rn) ls) ≡ map (λ l. line_held (given_line ft rn l)) ls
map_twice ft rn [] = refl
map_twice ft rn (l ∷ ls) = ap (λ (w : List (HeldLine EntryName)). line_held (given_line ft rn l) ∷ w) (map_twice ft rn ls)

-- ---- the entries of a unit, one by one

info_class : class_of 0x10 ≡ OfInfoEntry
unfolding class_rows class_in
info_class = refl

line_class : class_of 0x17 ≡ OfOffset
unfolding class_rows class_in
line_class = refl

line_held_is : (place : ℕ) (plain : Plain) → record { pair = plain_pair 0x10 0x17; held = Value (Number (pos place)) } ≡ held_of (line_attr (pos place) plain)
unfolding class_rows class_in
line_held_is place plain = refl

line_same : (ft : UnitForms EntryName) (rn : NewNumbers) (keys : Keys EntryName) (place : ℕ) (plain : Plain)
    → map (attr_held keys) (line_attrs (Some place)) ≡ map held_of (map (given_attr ft rn) (line_attr (pos place) plain ∷ []))
line_same ft rn keys place plain =
    let b = line_attr (pos place) plain in
    ap (λ (x : HeldAttr EntryName). x ∷ []) (line_held_is place plain ∙ other_given ft rn b (as_read b) (ap (λ (c : Class). fit_as c ft b) (sym line_class)) refl)

-- entries that the unit has, of a file
module _ (keys : Keys EntryName) (k : EntryTable) (f : FileRead) (here : ℕ) (ft : UnitForms EntryName) (rn : NewNumbers) (o : UnitItems) (known : KnowsIn keys k here o ft rn f) where
  abbrev All : List Slot
  All = items_slots k o.sort o.items

  origin_known : (origin : Origin) → ((n : ℕ) → IsRow k n origin → HasRow k n All) → KnowsOrigin keys k f here ft rn origin
  origin_known (OfRow r) has = λ same. (
      let there : Writes k o f r.entry = has (number_of k (row f.number r.entry)) (ap (λ (n : ℕ). number_of k (row n r.entry)) same) in
      record {
        entry = λ x d read. record {
          references = known.references.are r.entry x d read;
          owners = known.owners.are r.entry x d read there;
          texts = known.texts.are r.entry x d read there;
          files = λ common. known.files.are r.entry x d read there common;
        };
        name = λ x d read. known.names.are r.entry x d read there;
      })
  origin_known (OwnRoot place) has = tt
  origin_known (Chained chain space) has = tt
  origin_known (Imported part) has = tt

  some_known : (slots : List Slot) → ((n : ℕ) → HasRow k n slots → HasRow k n All) → KnowsSlots keys k f here ft rn slots
  some_known [] has = tt
  some_known (s ∷ slots) has = (origin_known s.origin (λ n is. has n (inl is)), some_known slots (λ n there. has n (inr there)))

  pub slots_known : KnowsSlots keys k f here ft rn All
  slots_known = some_known All (λ n there. there)

module _ (keys : Keys EntryName) (k : EntryTable) (here : WritingContext) (ft : UnitForms EntryName) (rn : NewNumbers) (fit_is : ft.holder ≡ here.holder) (names : Names EntryName) (sort : Sort) where
  abbrev held : List Slot → List (HeldLine EntryName)
  held slots = map (slot_held keys k here) slots

  abbrev fitted : List (Line EntryName) → List (HeldLine EntryName)
  fitted ls = map (λ l. line_held (given_line ft rn l)) ls

  -- what is known of each file whose entries these are
  abbrev FilesKnow : List FileRead → List Slot → Type 0
  FilesKnow files slots = Each (λ f. KnowsFile k f × KnowsSlots keys k f here.unit ft rn slots) files

  files_split : (files : List FileRead) (xs ys : List Slot) → FilesKnow files (xs ++ ys) → FilesKnow files xs × FilesKnow files ys
  files_split [] xs ys all = (tt, tt)
  files_split (f ∷ files) xs ys all =
      let two = each_split (λ s. KnowsOrigin keys k f here.unit ft rn s.origin) xs ys all.0.1 in
      let rest = files_split files xs ys all.1 in
      (((all.0.0, two.0), rest.0), ((all.0.0, two.1), rest.1))

  -- an entry with all below it, and an entry alone
  tree_of : (files : List FileRead) (depth : ℕ) (r : Row) (node : Node EntryName) (below : Entries EntryName) → OfSome files (λ f. ShowsTree f r node below) → FilesKnow files (tree_slots k depth r)
      → held (tree_slots k depth r) ≡ fitted (line depth node ∷ lines (suc depth) below)
  tree_of [] depth r node below shows all = absurd shows
  tree_of (f ∷ files) depth r node below (inl shows) all = tree_fits keys k f here ft rn here.holder refl fit_is all.0.0 depth r node below shows all.0.1
  tree_of (f ∷ files) depth r node below (inr rest) all = tree_of files depth r node below rest all.1

  row_of : (files : List FileRead) (depth : ℕ) (r : Row) (node : Node EntryName) → OfSome files (λ f. ShowsRow f r node) → FilesKnow files (slot depth (OfRow r) ∷ [])
      → held (slot depth (OfRow r) ∷ []) ≡ fitted (line depth node ∷ [])
  row_of [] depth r node shows all = absurd shows
  row_of (f ∷ files) depth r node (inl shows) all = ap (λ (l : HeldLine EntryName). l ∷ []) (row_fits keys k f here ft rn here.holder refl fit_is all.0.0 depth r node shows all.0.1.0)
  row_of (f ∷ files) depth r node (inr rest) all = row_of files depth r node rest all.1

  -- the root of a partial unit
  line_of : (place : Option ℕ) (attrs : List (Attr EntryName)) → ShowsLine place attrs → map (attr_held keys) (line_attrs place) ≡ map held_of (map (given_attr ft rn) attrs)
  line_of None attrs none = ap (λ (w : List (Attr EntryName)). map held_of (map (given_attr ft rn) w)) (sym none)
  line_of (Some place) attrs one = line_same ft rn keys place one.0 ∙ ap (λ (w : List (Attr EntryName)). map held_of (map (given_attr ft rn) w)) (sym one.1)

  root_fits : (files : List FileRead) (own : Sort) (depth : ℕ) → ShowsRoot keys files here.unit own names.root → FilesKnow files (slot depth (root_of own) ∷ [])
      → held (slot depth (root_of own) ∷ []) ≡ fitted (line depth names.root ∷ [])
  root_fits files (Compile root) depth shows all = row_of files depth root names.root shows all
  root_fits files (OfType root signature main) depth shows all = row_of files depth root names.root shows all
  root_fits files (Partial place) depth shows all =
      let attrs = line_of place names.root.attrs shows.2 in
      (λ i. (let l : HeldLine EntryName = record { depth = depth; key = shows.0 i; tag = sym shows.1 i; attrs = attrs i } in l) ∷ [])

  whole_fits : (files : List FileRead) (own : Sort) (depth : ℕ) → ShowsWhole files own names.root names.whole → FilesKnow files (whole_slots k depth own)
      → held (whole_slots k depth own) ≡ fitted (line depth names.root ∷ lines (suc depth) names.whole)
  whole_fits files (Compile root) depth shows all = tree_of files depth root names.root names.whole shows all
  whole_fits files (OfType root signature main) depth shows all = tree_of files depth root names.root names.whole shows all
  whole_fits files (Partial place) depth shows all = absurd shows

  -- a space of a chain
  name_of_some : (files : List FileRead) (space : SpaceRow) (d : Node ℕ) (text : List ℕ) → OfSome files (λ f. (i : ℕ) × (x : EntryRow) × (space.row ≡ row f.number i) × IsRead f i x d)
      → FilesKnow files [] → space_text d ≡ Some text → IsText ft rn (name_attr (name_of text d)) (text_held here.holder space)
      → map (attr_held keys) (space_attrs k here.holder space) ≡ held_of (given_attr ft rn (name_attr (name_of text d))) ∷ []
  name_of_some [] space d text there all is told = absurd there
  name_of_some (f ∷ files) space d text (inl at) all is told = space_fits keys k f ft rn here.holder fit_is all.0.0 space at.0 at.1 d text at.2 at.3 is told
  name_of_some (f ∷ files) space d text (inr rest) all is told = name_of_some files space d text rest all.1 is told

  chained_fits : (files : List FileRead) (depth chain space : ℕ) (node : Node EntryName) → ShowsChained keys files ft rn (keys.chained here.unit chain (depth - 2)) (space_at k space) node
      → FilesKnow files (slot depth (Chained chain space) ∷ [])
      → held (slot depth (Chained chain space) ∷ []) ≡ fitted (line depth node ∷ [])
  chained_fits files depth chain space node shows all =
      let none = files_split files [] (slot depth (Chained chain space) ∷ []) all in
      let attrs = name_of_some files (space_at k space) shows.d shows.text shows.there none.0 shows.is_space
      (subst (λ (h : UnitRole). IsText ft rn (name_attr (name_of shows.text shows.d)) (text_held h (space_at k space))) fit_is shows.told)
      ∙ ap (λ (w : List (Attr EntryName)). map held_of (map (given_attr ft rn) w)) (sym shows.attrs) in
      (λ i. (let l : HeldLine EntryName = record { depth = depth; key = shows.at i; tag = sym shows.tag i; attrs = attrs i } in l) ∷ [])

  -- an import
  import_fits : (depth part : ℕ) (node : Node EntryName) → ShowsImport keys k here.unit ft part node → held (slot depth (Imported part) ∷ []) ≡ fitted (line depth node ∷ [])
  import_fits depth part node shows =
      let unit = unit_of_part k part in
      let target = keys.root unit in
      let b : Attr EntryName = record { name = 0x18; form = 0x10; raw = pos 0; value = ref target } in
      let reach = reach_by (has_key ft.same target ft.own) (has_key ft.same target ft.keys) in
      let form : form_to k here.unit unit ≡ ref_form reach = (λ i. ref_form (reach_by (sym shows.own i) (sym shows.file i))) in
      let one : attr_held keys (import_attr k here.unit unit) ≡ held_of (given_attr ft rn b) =
      (λ i. let x : HeldAttr EntryName = record { pair = plain_pair 0x18 (form i); held = Key target } in x)
      ∙ entry_held reach b target refl
      ∙ other_given ft rn b (record { form = ref_form reach; raw = pos 0 }) (ap (λ (c : Class). fit_as c ft b) (sym info_class)) (reference_form reach) in
      let attrs : map (attr_held keys) (import_attr k here.unit unit ∷ []) ≡ map held_of (map (given_attr ft rn) node.attrs) =
      ap (λ (x : HeldAttr EntryName). x ∷ []) one ∙ ap (λ (w : List (Attr EntryName)). map held_of (map (given_attr ft rn) w)) (sym shows.attrs) in
      (λ i. (let l : HeldLine EntryName = record { depth = depth; key = shows.at i; tag = sym shows.tag i; attrs = attrs i } in l) ∷ [])

  what_fits : (files : List FileRead) (depth : ℕ) (what : ItemKind) → ShowsWhat keys k files here.unit ft rn names sort depth what → FilesKnow files (what_slots k sort depth what)
      → held (what_slots k sort depth what) ≡ fitted (what_lines names depth what)
  what_fits files depth Root shows all = root_fits files sort depth shows all
  what_fits files depth Whole shows all = whole_fits files sort depth shows all
  what_fits files depth (Top top) shows all = tree_of files depth (top_row k top) (names.top top) (names.below top) shows all
  what_fits files depth (Space space) shows all = (let s = space_at k space in row_of files depth s.row (names.space space) shows all)
  what_fits files depth (InChain chain space) shows all = chained_fits files depth chain space (names.in_chain chain (depth - 2) space) shows all
  what_fits files depth (Import part) shows all = import_fits depth part (names.import part) shows

  pub items_fit : (files : List FileRead) (items : List Item) → Each (λ x. ShowsWhat keys k files here.unit ft rn names sort x.depth x.what) items → FilesKnow files (items_slots k sort items)
      → held (items_slots k sort items) ≡ fitted (order_lines names items)
  unfolding items_slots order_lines
  items_fit files [] shows all = refl
  items_fit files (x ∷ items) shows all =
      let two = files_split files (what_slots k sort x.depth x.what) (items_slots k sort items) all in
      map-append (slot_held keys k here) (what_slots k sort x.depth x.what) (items_slots k sort items)
      ∙ (λ i. what_fits files x.depth x.what shows.0 two.0 i ++ items_fit files items shows.1 two.1 i)
      ∙ sym (map-append (λ (l : Line EntryName). line_held (given_line ft rn l)) (what_lines names x.depth x.what) (order_lines names items))

-- ---- the unit

sort_given : (keys : Keys EntryName) (ff : KeyedForms EntryName) (rn : NewNumbers) (sort : Sort) (u : DwUnit EntryName) → SortShows keys sort u.kind
    → (let w = given_unit ff rn u in SortShows keys sort w.kind)
sort_given keys ff None sort u shows = shows
sort_given keys ff (Some number) sort u shows = shows

root_given : (keys : Keys EntryName) (ff : KeyedForms EntryName) (rn : NewNumbers) (here : ℕ) (u : DwUnit EntryName) → keys.root here ≡ u.root.at
    → (let w = given_unit ff rn u in keys.root here ≡ w.root.at)
root_given keys ff None here u e = e
root_given keys ff (Some number) here u e = e

pub same_holder : (keys : Keys EntryName) (b : Bool) (sort : Sort) (kind : Kind EntryName) → SortShows keys sort kind → holder_of b kind ≡ holder_by b sort
same_holder keys true sort kind shows = refl
same_holder keys false (Compile root) CompileKind shows = refl
same_holder keys false (Compile root) (TypeKind signature main) shows = absurd shows
same_holder keys false (Compile root) PartialKind shows = absurd shows
same_holder keys false (OfType root s main) CompileKind shows = absurd shows
same_holder keys false (OfType root s main) (TypeKind signature key) shows = refl
same_holder keys false (OfType root s main) PartialKind shows = absurd shows
same_holder keys false (Partial place) CompileKind shows = absurd shows
same_holder keys false (Partial place) (TypeKind signature main) shows = absurd shows
same_holder keys false (Partial place) PartialKind shows = refl

pub unit_fits : (keys : Keys EntryName) (k : EntryTable) (files : List FileRead) (ff : KeyedForms EntryName) (rn : NewNumbers) (here : ℕ) (o : UnitItems) (names : Names EntryName) (u : DwUnit EntryName)
    → KnowsUnit keys k files here o (unit_forms ff u) rn names → is_common k here ≡ ff.is_common
    → SortShows keys o.sort u.kind → keys.root here ≡ u.root.at → ShowsOrder names o.items u → ShowsUnit keys k here o (given_unit ff rn u)
unit_fits keys k files ff rn here o names u known common sort root order =
    let ft = unit_forms ff u in
    let h : ft.holder ≡ holder_by (is_common k here) o.sort = same_holder keys ff.is_common o.sort u.kind sort ∙ ap (λ (b : Bool). holder_by b o.sort) (sym common) in
    let all = each_map files (λ f. KnowsIn keys k here o ft rn f) (λ f. KnowsFile k f × KnowsSlots keys k f here ft rn (items_slots k o.sort o.items))
    (λ f kn. (kn.file, slots_known keys k f here ft rn o kn)) known.of_files in
    record {
      sort = sort_given keys ff rn o.sort u sort;
      root = root_given keys ff rn here u root;
      lines =
          items_fit keys k (here_of k here o.sort) ft rn h names o.sort files o.items known.of_items all
          ∙ ap (map (λ l. line_held (given_line ft rn l))) order
          ∙ sym (map_twice ft rn (unit_lines u))
          ∙ ap (map line_held) (sym (unit_given ff rn u));
    }
