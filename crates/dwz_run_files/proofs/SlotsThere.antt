-- Each entry that was read and is a slot of a unit that is known is in the lists, since items show entries of files that were read.
use Rattle.std.proofs.Common.{[], ◌++◌, ◌+◌, ◌-◌, ◌∙◌, ◌∷◌, ◌≡◌, List, None, Option, Some, ℕ, ap, arith, drop, inl, inr, refl, slice_get, suc, take, zero}
use Rattle.std.specs.Option.{option_map_or}
use Rattle.std.specs.Prelude.{slice_range}
use Rattle.dwz_def_reading.specs.Entries.{RawEntry}
use Rattle.dwz_def_reading.specs.Trees.{End, Entry, Forest, Position, behind, first_below}
use Rattle.dwz_def_reading.proofs.ListFacts.{drop_first}
use Rattle.dwz_def_reading.specs.Documents.{Entries, Node}
use Rattle.dwz_def_reading.specs.Lists.{Each}
use Rattle.dwz_def_tops.proofs.Members.{each_append, each_more}
use Rattle.dwz_def_tops.specs.Spots.{EntryName}
use Rattle.dwz_layout_items.specs.declared.order.Item.{Item}
use Rattle.dwz_layout_items.specs.declared.order.ItemKind.{ItemKind}
use Rattle.dwz_layout_items.specs.declared.order.ItemKind.TheVariants.{Import, InChain, Root, Space, Top, Whole}
use Rattle.dwz_layout_items.specs.Order.{Names}
use Rattle.dwz_unit.specs.Rows.{EntryRow, rows_below, rows_of}
use Rattle.dwz_def_encoding.specs.Placing.{UnitForms}
use Rattle.dwz_layout.specs.declared.known.EntryTable.{EntryTable}
use Rattle.dwz_layout.specs.declared.known.Row.{Row}
use Rattle.dwz_layout.specs.declared.order.Sort.{Sort}
use Rattle.dwz_layout.specs.declared.order.Sort.TheVariants.{Compile, OfType, Partial}
use Rattle.dwz_layout.specs.declared.order.UnitItems.{UnitItems}
use Rattle.dwz_layout.specs.declared.walk.Origin.{Origin}
use Rattle.dwz_layout.specs.declared.walk.Origin.TheVariants.{Chained, Imported, OwnRoot, Read as OfRow}
use Rattle.dwz_layout.specs.declared.walk.Slot.{Slot}
use Rattle.dwz_layout.specs.Entries.{items_slots, root_of, row_slots, slot, slots_below, tree_slots, what_slots, whole_slots}
use Rattle.dwz_layout.specs.Known.{row_at, rows_in, space_at, top_row}
use Rattle.dwz_encode.specs.Shown.{Keys}
use Rattle.dwz_law_layout.specs.Knows.{FileRead, KnowsFile, KnowsIn, KnowsUnit, NewNumbers, OfSome, ShowsRoot, ShowsRow, ShowsTree, ShowsWhat, ShowsWhole}

-- ---- items of parts of lists

take_got : {X : Type 0} (n : ℕ) (xs : List X) (j : ℕ) (x : X) → slice_get (take n xs) j ≡ Some x → slice_get xs j ≡ Some x
take_got zero xs j x e = absurd cc
take_got (suc n) [] j x e = absurd cc
take_got (suc n) (y ∷ xs) zero x e = e
take_got (suc n) (y ∷ xs) (suc j) x e = take_got n xs j x e

drop_got : {X : Type 0} (n : ℕ) (xs : List X) (j : ℕ) (x : X) → slice_get (drop n xs) j ≡ Some x → slice_get xs (n + j) ≡ Some x
drop_got zero xs j x e = (let none : zero + j ≡ j = omega arith in ap (slice_get xs) none ∙ e)
drop_got (suc n) [] j x e = absurd cc
drop_got (suc n) (y ∷ xs) j x e = (let next : suc n + j ≡ suc (n + j) = omega arith in ap (slice_get (y ∷ xs)) next ∙ drop_got n xs j x e)

-- ---- entries that are there

-- what was read is in the lists
abbrev pub IsThere : EntryTable → Origin → Type 0
IsThere k (OfRow r) = (x : EntryRow) × (row_at k r ≡ Some x)
IsThere k (OwnRoot line) = Unit {0}
IsThere k (Chained chain space) = Unit {0}
IsThere k (Imported part) = Unit {0}

abbrev pub AreThere : EntryTable → List Slot → Type 0
AreThere k slots = Each (λ s. IsThere k s.origin) slots

rows_there : (k : EntryTable) (file depth base entry : ℕ) (rows : List EntryRow)
    → ((j : ℕ) (x : EntryRow) → slice_get rows j ≡ Some x → slice_get (rows_in k file) (entry + j) ≡ Some x)
    → AreThere k (row_slots file depth base entry rows)
unfolding row_slots
rows_there k file depth base entry [] has = tt
rows_there k file depth base entry (r ∷ rows) has = (
  (r, (let none : entry ≡ entry + 0 = omega arith in ap (slice_get (rows_in k file)) none ∙ has 0 r refl)),
  rows_there k file depth base (suc entry) rows
      (λ j x e. (let next : suc entry + j ≡ entry + suc j = omega arith in ap (slice_get (rows_in k file)) next ∙ has (suc j) x e)),
)

tree_there : (k : EntryTable) (depth : ℕ) (r : Row) (x : EntryRow) → row_at k r ≡ Some x → AreThere k (tree_slots k depth r)
tree_there k depth r x e = ((x, e), by (row_at k r)) where
  by : (o : Option EntryRow) → AreThere k (option_map_or (slots_below k depth r) o [])
  by None = tt
  by (Some top) =
      rows_there k r.file depth top.depth (suc r.entry) (slice_range (rows_in k r.file) (suc r.entry) top.end)
      (λ j y f. drop_got (suc r.entry) (rows_in k r.file) j y
      (take_got (top.end - suc r.entry) (drop (suc r.entry) (rows_in k r.file)) j y f))

-- ---- what files show

begins : (e : RawEntry) (c : Forest RawEntry) (unit : ℕ) (p : Position) (more : List EntryRow)
    → (x : EntryRow) × (rest : List EntryRow) × (rows_below (Entry e c End) unit p ++ more ≡ x ∷ rest)
unfolding rows_below
begins e c unit p more = (
  record { entry = e; unit = unit; depth = p.depth; end = (behind p c).before },
  (rows_below c unit (first_below p) ++ rows_below End unit (behind p c)) ++ more,
  refl,
)

tree_row : (k : EntryTable) (f : FileRead) → KnowsFile k f → (r : Row) (node : Node EntryName) (below : Entries EntryName) → ShowsTree f r node below
    → (x : EntryRow) × (row_at k r ≡ Some x)
tree_row k f file r node below t =
    let b = begins t.e t.c t.number t.p t.behind in
    let at = drop_first (rows_of f.raw) t.p.before b.0 b.1 (t.stand ∙ b.2) in
    (b.0, ap (λ (q : Row). row_at k q) t.row_is ∙ ap (λ (w : List EntryRow). slice_get w t.p.before) file.rows ∙ at.0)

own_row : (k : EntryTable) (f : FileRead) → KnowsFile k f → (r : Row) (node : Node EntryName) → ShowsRow f r node
    → (x : EntryRow) × (row_at k r ≡ Some x)
own_row k f file r node shows =
    (shows.x, ap (λ (q : Row). row_at k q) shows.row_is ∙ ap (λ (w : List EntryRow). slice_get w shows.i) file.rows ∙ shows.read.found)

some_file : (k : EntryTable) (P : FileRead → Type 0) (T : Type 0) (files : List FileRead) → Each (KnowsFile k) files
    → ((f : FileRead) → KnowsFile k f → P f → T) → OfSome files P → T
some_file k P T [] all go shows = absurd shows
some_file k P T (f ∷ files) all go (inl own) = go f all.0 own
some_file k P T (f ∷ files) all go (inr rest) = some_file k P T files all.1 go rest

module _ (keys : Keys EntryName) (k : EntryTable) (files : List FileRead) (all : Each (KnowsFile k) files) (here : ℕ) (ft : UnitForms EntryName)
    (rn : NewNumbers) (names : Names EntryName) where
  tree_of : (depth : ℕ) (r : Row) (node : Node EntryName) (below : Entries EntryName) → OfSome files (λ f. ShowsTree f r node below)
      → AreThere k (tree_slots k depth r)
  tree_of depth r node below shows =
      (let o = some_file k (λ f. ShowsTree f r node below) ((x : EntryRow) × (row_at k r ≡ Some x)) files all
      (λ f file own. tree_row k f file r node below own) shows in
      tree_there k depth r o.0 o.1)

  row_of : (depth : ℕ) (r : Row) (node : Node EntryName) → OfSome files (λ f. ShowsRow f r node) → AreThere k (slot depth (OfRow r) ∷ [])
  row_of depth r node shows = (
    some_file k (λ f. ShowsRow f r node) ((x : EntryRow) × (row_at k r ≡ Some x)) files all
        (λ f file own. own_row k f file r node own) shows,
    tt,
  )

  root_there : (sort : Sort) (depth : ℕ) → ShowsRoot keys files here sort names.root → AreThere k (slot depth (root_of sort) ∷ [])
  root_there (Compile root) depth shows = row_of depth root names.root shows
  root_there (OfType root signature main) depth shows = row_of depth root names.root shows
  root_there (Partial line) depth shows = (tt, tt)

  whole_there : (sort : Sort) (depth : ℕ) → ShowsWhole files sort names.root names.whole → AreThere k (whole_slots k depth sort)
  whole_there (Compile root) depth shows = tree_of depth root names.root names.whole shows
  whole_there (OfType root signature main) depth shows = tree_of depth root names.root names.whole shows
  whole_there (Partial line) depth shows = absurd shows

  what_there : (sort : Sort) (depth : ℕ) (what : ItemKind) → ShowsWhat keys k files here ft rn names sort depth what
      → AreThere k (what_slots k sort depth what)
  what_there sort depth Root shows = root_there sort depth shows
  what_there sort depth Whole shows = whole_there sort depth shows
  what_there sort depth (Top top) shows = tree_of depth (top_row k top) (names.top top) (names.below top) shows
  what_there sort depth (Space space) shows = (let s = space_at k space in row_of depth s.row (names.space space) shows)
  what_there sort depth (InChain chain space) shows = (tt, tt)
  what_there sort depth (Import part) shows = (tt, tt)

  items_there : (sort : Sort) (items : List Item) → Each (λ x. ShowsWhat keys k files here ft rn names sort x.depth x.what) items
      → AreThere k (items_slots k sort items)
  unfolding items_slots
  items_there sort [] shows = tt
  items_there sort (x ∷ items) shows =
      each_append (λ s. IsThere k s.origin) (what_slots k sort x.depth x.what) (items_slots k sort items)
      (what_there sort x.depth x.what shows.0) (items_there sort items shows.1)

pub unit_there : (keys : Keys EntryName) (k : EntryTable) (files : List FileRead) (here : ℕ) (o : UnitItems) (ft : UnitForms EntryName) (rn : NewNumbers)
    (names : Names EntryName)
    → KnowsUnit keys k files here o ft rn names → AreThere k (items_slots k o.sort o.items)
unit_there keys k files here o ft rn names known =
    let all = each_more (KnowsIn keys k here o ft rn) (KnowsFile k) files (λ f own. own.file) known.of_files in
    items_there keys k files all here ft rn names o.sort o.items known.of_items
