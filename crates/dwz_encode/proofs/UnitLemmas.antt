-- A unit that items show: how it is laid, and its bytes.
use Rattle.std.proofs.Common.{◌≡◌, ℕ, ◌+◌, ◌-◌, List, [], ◌∷◌, ◌++◌, length, map, slice_index, refl, sym, ap, subst, ◌∙◌, append_assoc, arith}
use Rattle.dwz_bytes.specs.Spelling.{le_bytes}
use Rattle.dwz_def_reading.specs.Documents.{Compile, DwUnit, Kind, OfType, Partial}
use Rattle.dwz_model.specs.declared.place.Pair.{Pair}
use Rattle.dwz_layout_items.specs.Lines.{Step, unit_lines}
use Rattle.dwz_layout_items.proofs.LineLemmas.{unit_steps_are}
use Rattle.dwz_def_reading.specs.Lists.{Each}
use Rattle.dwz_def_encoding.specs.Placing.{UnitStands, zeros}
use Rattle.dwz_def_encoding.specs.Writing.{DeclarationShape, Numbering, kind_bytes, table_of, tree_bytes, type_of, unit_bytes, written_header_size, written_unit_size}
use Rattle.dwz_def_encoding.proofs.WriteLengths.{FixedUnit, size_len}
use Rattle.dwz_layout.specs.declared.known.EntryTable.{EntryTable}
use Rattle.dwz_layout.specs.declared.layout.OutUnit.{OutUnit}
use Rattle.dwz_layout.specs.declared.order.Sort.{Sort}
use Rattle.dwz_layout.specs.declared.order.Sort.TheVariants.{Compile as CompileSort, OfType as TypeSort, Partial as PartialSort}
use Rattle.dwz_layout.specs.declared.order.UnitItems.{UnitItems}
use Rattle.dwz_layout.specs.declared.walk.Entry.{Entry}
use Rattle.dwz_layout.specs.declared.walk.Slot.{Slot}
use Rattle.dwz_layout.specs.Attributes.{Call, Content, Numbers, OfEntry, OfParts, OfRoot, OutAttr, Read, WritingContext, attrs_of, call_of, calls_of, here_of, no_numbers, stored_of}
use Rattle.dwz_layout.specs.Entries.{items_slots, unit_entries}
use Rattle.dwz_layout.specs.Laid.{Laying, header_size as sort_size, laid_unit}
use Rattle.dwz_layout.specs.Stored.{pairs_of}
use Rattle.dwz_encode.specs.Events.{Event, Tree, run, tree, unit_events, unit_tree}
use Rattle.dwz_encode.specs.Pages.{entries_page, numbers_in, sort_page, type_byte, unit_page}
use Rattle.dwz_encode.specs.Shown.{HeldLine, Keys, ShowsUnit, SortShows, unit_held}
use Rattle.dwz_encode.proofs.EventLemmas.{unit_after}
use Rattle.dwz_encode.proofs.KeyLemmas.{HeldAt, KeysAt, SlotsAt, event_places, laid_places, lines_held, slots_at, unit_at}
use Rattle.dwz_encode.proofs.PassLemmas.{SameShapes, Stand, calls_end, calls_events, calls_run, codes_of, end_after, entries_laid, laid_from, noted, shapes_after}
use Rattle.dwz_encode.proofs.StepLemmas.{AttrAgrees, ContentAgrees, RowAgrees, SlotAgrees, event_of, held_steps, lines_events, slots_events, step_event, unit_steps_events}

-- ---- numbers don't change shapes

same_pairs : (m n : Numbers) (attrs : List OutAttr) → pairs_of (map (stored_of m) attrs) ≡ pairs_of (map (stored_of n) attrs)
same_pairs m n [] = refl
same_pairs m n (a ∷ attrs) = ap (λ (ps : List Pair). a.pair ∷ ps) (same_pairs m n attrs)

pub same_shapes : (k : EntryTable) (here : WritingContext) (m n : Numbers) (entries : List Entry) → SameShapes (calls_of k here m entries) (calls_of k here n entries)
same_shapes k here m n [] = tt
same_shapes k here m n (e ∷ entries) =
    let c = call_of k here m e in
    (ap (λ (ps : List Pair). let s : DeclarationShape = record { tag = c.tag; children = c.children; pairs = ps } in s) (same_pairs m n (attrs_of k here e.origin)), same_shapes k here m n entries)

-- ---- before there are numbers

module _ {K : Type 0} (keys : Keys K) (k : EntryTable) (here : WritingContext) where
  no_rows : (numbers : List ℕ) → Each (RowAgrees keys zeros no_numbers) numbers
  no_rows [] = tt
  no_rows (x ∷ numbers) = (refl, no_rows numbers)

  no_content : (c : Content) → ContentAgrees keys zeros no_numbers c
  no_content (Read raw) = tt
  no_content (OfEntry number) = refl
  no_content (OfRoot unit) = refl
  no_content (OfParts parts numbers) = no_rows numbers

  no_attrs : (attrs : List OutAttr) → Each (AttrAgrees keys zeros no_numbers) attrs
  no_attrs [] = tt
  no_attrs (a ∷ attrs) = (no_content a.content, no_attrs attrs)

  no_slots : (slots : List Slot) → Each (SlotAgrees keys zeros no_numbers k here) slots
  no_slots [] = tt
  no_slots (s ∷ slots) = (no_attrs (attrs_of k here s.origin), no_slots slots)

-- ---- what is laid of items

abbrev pub first_calls : EntryTable → ℕ → UnitItems → List Call
first_calls k here o = calls_of k (here_of k here o.sort) no_numbers (unit_entries k o)

abbrev pub stands : EntryTable → ℕ → UnitItems → ℕ → List Stand
stands k here o at = laid_from [] (at + sort_size o.sort) (first_calls k here o)

abbrev pub out_unit : {K : Type 0} → EntryTable → ℕ → UnitItems → DwUnit K → ℕ → ℕ → OutUnit
out_unit k here o u at offset = record { at = at; end = at + written_unit_size zeros 0 u; «abbrev» = offset; codes = codes_of (stands k here o at) }

-- the type of a type unit has its number
abbrev pub SortAgrees : {K : Type 0} → Keys K → Numbering K → Numbers → Sort → Type 0
SortAgrees keys n m (CompileSort root) = Unit {0}
SortAgrees keys n m (TypeSort root t main) = n.place (keys.row main) ≡ slice_index m.places main
SortAgrees keys n m (PartialSort line) = Unit {0}

abbrev pub UnitAgrees : {K : Type 0} → Keys K → Numbering K → Numbers → EntryTable → ℕ → UnitItems → Type 0
UnitAgrees keys n m k here o = Each (SlotAgrees keys n m k (here_of k here o.sort)) (items_slots k o.sort o.items)

-- what was laid, and what is written of it
module _ {K : Type 0} (keys : Keys K) (k : EntryTable) (here : ℕ) (o : UnitItems) (u : DwUnit K) (shows : ShowsUnit keys k here o u) (fixed : FixedUnit u) where
  abbrev First : List Call
  First = first_calls k here o

  abbrev Of : WritingContext
  Of = here_of k here o.sort

  -- ---- the header

  size_is : (s : Sort) (kind : Kind K) → SortShows keys s kind → sort_size s ≡ written_header_size kind
  size_is (CompileSort root) Compile is = refl
  size_is (CompileSort root) (OfType signature main) is = absurd is
  size_is (CompileSort root) Partial is = absurd is
  size_is (TypeSort root t main) Compile is = absurd is
  size_is (TypeSort root t main) (OfType signature key) is = refl
  size_is (TypeSort root t main) Partial is = absurd is
  size_is (PartialSort line) Compile is = absurd is
  size_is (PartialSort line) (OfType signature main) is = absurd is
  size_is (PartialSort line) Partial is = refl

  type_is : (s : Sort) (kind : Kind K) → SortShows keys s kind → type_byte s ≡ type_of kind
  type_is (CompileSort root) Compile is = refl
  type_is (CompileSort root) (OfType signature main) is = absurd is
  type_is (CompileSort root) Partial is = absurd is
  type_is (TypeSort root t main) Compile is = absurd is
  type_is (TypeSort root t main) (OfType signature key) is = refl
  type_is (TypeSort root t main) Partial is = absurd is
  type_is (PartialSort line) Compile is = absurd is
  type_is (PartialSort line) (OfType signature main) is = absurd is
  type_is (PartialSort line) Partial is = refl

  kind_is : (n : Numbering K) (m : Numbers) (s : Sort) (kind : Kind K) → SortShows keys s kind → SortAgrees keys n m s → sort_page m s ≡ kind_bytes n m.unit kind
  kind_is n m (CompileSort root) Compile is agrees = refl
  kind_is n m (CompileSort root) (OfType signature main) is agrees = absurd is
  kind_is n m (CompileSort root) Partial is agrees = absurd is
  kind_is n m (TypeSort root t main) Compile is agrees = absurd is
  kind_is n m (TypeSort root t main) (OfType signature key) is agrees =
      (λ i. le_bytes 8 (is.0 i) ++ le_bytes 4 ((sym agrees ∙ ap n.place is.1) i - m.unit))
  kind_is n m (TypeSort root t main) Partial is agrees = absurd is
  kind_is n m (PartialSort line) Compile is agrees = absurd is
  kind_is n m (PartialSort line) (OfType signature main) is agrees = absurd is
  kind_is n m (PartialSort line) Partial is agrees = refl

  -- under numbers that agree, the events of the items are those of the unit
  events_are : (n : Numbering K) (m : Numbers) → UnitAgrees keys n m k here o → calls_events (calls_of k Of m (unit_entries k o)) ≡ unit_events n m.unit u
  events_are n m agrees =
      sym (slots_events keys n m k Of (items_slots k o.sort o.items) agrees)
      ∙ ap (λ (lines : List (HeldLine K)). map (event_of n m.unit) (held_steps lines)) shows.lines
      ∙ lines_events n m.unit (unit_lines u)
      ∙ ap (λ (ss : List (Step K)). map (step_event n m.unit) ss) (unit_steps_are u)
      ∙ unit_steps_events n m.unit u fixed

  zero_events : calls_events First ≡ unit_events zeros 0 u
  zero_events = events_are zeros no_numbers (no_slots keys k Of (items_slots k o.sort o.items))

  pub header_is : sort_size o.sort ≡ written_header_size u.kind
  header_is = size_is o.sort u.kind shows.sort

  -- what both passes leave is the unit's table, and its tree's bytes
  left : (n : Numbering K) (m : Numbers) → UnitAgrees keys n m k here o → (at : ℕ)
      → tree (shapes_after [] First) (entries_page (codes_of (laid_from [] at First)) (calls_of k Of m (unit_entries k o))) ≡ unit_tree n m.unit u
  left n m agrees at =
      sym (calls_run First (calls_of k Of m (unit_entries k o)) (same_shapes k Of no_numbers m (unit_entries k o)) (tree [] []) at)
      ∙ ap (λ (es : List Event). run es (tree [] [])) (events_are n m agrees)
      ∙ unit_after n m.unit u

  zero_left : (at : ℕ) → tree (shapes_after [] First) (entries_page (codes_of (laid_from [] at First)) First) ≡ unit_tree zeros 0 u
  zero_left at = left zeros no_numbers (no_slots keys k Of (items_slots k o.sort o.items)) at

  shapes_are : shapes_after [] First ≡ table_of u
  shapes_are = ap (λ (w : Tree). w.shapes) (zero_left 0)

  pages_are : (n : Numbering K) (m : Numbers) → UnitAgrees keys n m k here o → (at : ℕ) → entries_page (codes_of (laid_from [] at First)) (calls_of k Of m (unit_entries k o)) ≡ tree_bytes n m.unit u
  pages_are n m agrees at = ap (λ (w : Tree). w.body) (left n m agrees at)

  -- ---- how it is laid

  pub unit_laid : (at : ℕ) (places : List ℕ)
      → laid_unit k here at places o ≡
      record { shapes = table_of u; at = at + written_unit_size zeros 0 u; codes = codes_of (stands k here o at); places = noted k (unit_entries k o) (stands k here o at) places }
  unit_laid at places =
      let start = at + sort_size o.sort in
      let body = pages_are zeros no_numbers (no_slots keys k Of (items_slots k o.sort o.items)) start in
      let end : end_after [] start First ≡ at + written_unit_size zeros 0 u =
      omega (arith, calls_end First [] start, ap (λ (b : List ℕ). length b) body, size_is o.sort u.kind shows.sort) in
      entries_laid k Of (unit_entries k o) [] start [] places
      ∙ (λ i. let l : Laying = record { shapes = shapes_are i; at = end i; codes = codes_of (stands k here o at); places = noted k (unit_entries k o) (stands k here o at) places } in l)

  -- ---- its bytes

  regroup : (a b c d e f : List ℕ) → (a ++ (b ++ (c ++ (d ++ e)))) ++ f ≡ a ++ (b ++ (c ++ (d ++ (e ++ f))))
  regroup a b c d e f = simp append_assoc

  pub page_is : (n : Numbering K) (places roots : List ℕ) (at offset : ℕ) → UnitAgrees keys n (numbers_in places roots at) k here o → SortAgrees keys n (numbers_in places roots at) o.sort
      → unit_page k places roots here o (out_unit k here o u at offset) ≡ unit_bytes n offset at u
  unfolding unit_bytes
  page_is n places roots at offset agrees sort =
      let m = numbers_in places roots at in
      let size : at + written_unit_size zeros 0 u - at - 4 ≡ written_unit_size n at u - 4 = omega (arith, size_len zeros n 0 at u fixed) in
      let body = pages_are n m agrees (at + sort_size o.sort) in
      (λ i. (le_bytes 4 (size i) ++ (le_bytes 2 5 ++ (type_is o.sort u.kind shows.sort i ∷ 8 ∷ [] ++ (le_bytes 4 offset ++ kind_is n m o.sort u.kind shows.sort sort i)))) ++ body i)
      ∙ regroup (le_bytes 4 (written_unit_size n at u - 4)) (le_bytes 2 5) (type_of u.kind ∷ 8 ∷ []) (le_bytes 4 offset) (kind_bytes n at u.kind) (tree_bytes n at u)

  -- ---- its places

  pub laid_at : (n : Numbering K) (at : ℕ) → UnitStands n u at → SlotsAt keys n k Of (items_slots k o.sort o.items) (stands k here o at)
  laid_at n at there =
      let nodes = unit_at n u at fixed there in
      let old = event_places [] (at + written_header_size u.kind) (unit_events zeros 0 u) in
      let new = map (λ (l : Stand). l.at) (stands k here o at) in
      let places : old ≡ new = (λ i. event_places [] (at + sym header_is i) (sym zero_events i)) ∙ laid_places First [] (at + sort_size o.sort) in
      let held = lines_held n (unit_lines u) old (subst (λ (ss : List (Step K)). KeysAt n ss old) (sym (unit_steps_are u)) nodes) in
      let shown : HeldAt n (held_steps (unit_held keys k here o)) old = subst (λ (lines : List (HeldLine K)). HeldAt n (held_steps lines) old) (sym shows.lines) held in
      slots_at keys n k Of (items_slots k o.sort o.items) (stands k here o at) (subst (HeldAt n (held_steps (unit_held keys k here o))) places shown)
