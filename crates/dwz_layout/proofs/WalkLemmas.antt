-- How a walk goes: what is left of the entries of a file begins with the next one.
use Rattle.std.proofs.Common.{◌≡◌, ℕ, zero, suc, ◌+◌, ◌-◌, ◌<◌, ◌≤◌, List, [], ◌∷◌, ◌++◌, length, take, Option, Some, None, slice_get, refl, sym, ap, ◌∙◌, arith}
use Rattle.std.specs.Prelude.{nat_lt, slice_range}
use Rattle.std.specs.Option.{option_map, option_map_or, option_to_list}
use Rattle.std.proofs.lemmas.List.{drop_all}
use Rattle.dwz_def_reading.proofs.ListFacts.{range_here, range_none}
use Rattle.dwz_unit.specs.Rows.{EntryRow, entry_shown}
use Rattle.dwz_unit.specs.declared.rows.RawEntry.{RawEntry as EntryOfCode}
use Rattle.dwz_layout.specs.declared.known.EntryTable.{EntryTable}
use Rattle.dwz_layout.specs.declared.known.Row.{Row}
use Rattle.dwz_layout.specs.declared.walk.Entry.{Entry}
use Rattle.dwz_layout.specs.declared.walk.Origin.TheVariants.{Read}
use Rattle.dwz_layout.specs.declared.walk.Run.{Run}
use Rattle.dwz_layout.specs.declared.walk.Slot.{Slot}
use Rattle.dwz_layout_items.specs.declared.order.Item.{Item}
use Rattle.dwz_layout.specs.declared.order.Sort.{Sort}
use Rattle.dwz_layout.specs.Entries.{depth_of, entries_of, items_slots, row, row_slots, slot, slots_below, what_slots}
use Rattle.dwz_layout.specs.Known.{row_at, rows_in}
use Rattle.dwz_layout.specs.Walking.{IsNext, IsWhole, below, empty_run, run_slots}

-- ---- a part of a list

pub take_nil : {X : Type 0} (n : ℕ) → take {A = X} n [] ≡ []
take_nil zero = refl
take_nil (suc n) = refl

pub range_past : {X : Type 0} (xs : List X) (i j : ℕ) → length xs ≤ i → slice_range xs i j ≡ []
range_past {X = X} xs i j le = ap (λ (w : List X). take (j - i) w) (drop_all i xs le) ∙ take_nil {X = X} (j - i)

-- ---- entries of a file

pub none_left : (file depth base entry : ℕ) → row_slots file depth base entry [] ≡ []
unfolding row_slots
none_left file depth base entry = refl

pub one_left : (file depth base entry : ℕ) (r : EntryRow) (rows : List EntryRow) → row_slots file depth base entry (r ∷ rows) ≡ slot (depth + (r.depth - base)) (Read (row file entry))
    ∷ row_slots file depth base (suc entry) rows
unfolding row_slots
one_left file depth base entry r rows = refl

pub empty_none : (k : EntryTable) → run_slots k empty_run ≡ []
empty_none k = ap (row_slots 0 0 0 0) (range_none (rows_in k 0) 0 0 (omega arith)) ∙ none_left 0 0 0 0

module _ (k : EntryTable) (file depth base next end : ℕ) where
  abbrev Left : ℕ → List Slot
  Left i = row_slots file depth base i (slice_range (rows_in k file) i end)

  pub run_ends : end ≤ next → Left next ≡ []
  run_ends le = ap (row_slots file depth base next) (range_none (rows_in k file) next end le) ∙ none_left file depth base next

  pub run_past : None ≡ option_map entry_shown (row_at k (row file next)) → Left next ≡ []
  run_past none = ap (row_slots file depth base next) (range_past (rows_in k file) next end (past (rows_in k file) next none)) ∙ none_left file depth base next where
    past : (rows : List EntryRow) (i : ℕ) → None ≡ option_map entry_shown (slice_get rows i) → length rows ≤ i
    past [] i e = omega arith
    past (r ∷ rows) zero e = absurd cc
    past (r ∷ rows) (suc i) e = let le = past rows i e in omega (arith, le)

  run_go : (e : EntryOfCode) → next < end → Some e ≡ option_map entry_shown (row_at k (row file next)) → Left next ≡ slot (depth + (e.depth - base)) (Read (row file next)) ∷ Left (next + 1)
  run_go e lt is = go (row_at k (row file next)) refl is where
    go : (o : Option EntryRow) → row_at k (row file next) ≡ o → Some e ≡ option_map entry_shown o → Left next ≡ slot (depth + (e.depth - base)) (Read (row file next)) ∷ Left (next + 1)
    go None found is = absurd cc
    go (Some r) found is =
        let same : e ≡ entry_shown r = cc in
        let one : suc next ≡ next + 1 = omega arith in
        ap (row_slots file depth base next) (range_here (rows_in k file) next end r lt found)
        ∙ one_left file depth base next r (slice_range (rows_in k file) (next + 1) end)
        ∙ (λ i. slot (depth + ((sym same i).depth - base)) (Read (row file next)) ∷ row_slots file depth base (one i) (slice_range (rows_in k file) (next + 1) end))

  pub run_next : (e : EntryOfCode) (d : ℕ) → next < end → Some e ≡ option_map entry_shown (row_at k (row file next)) → d ≡ e.depth - base
      → Left next ≡ slot (depth + d) (Read (row file next)) ∷ Left (next + 1)
  run_next e d lt is same = run_go e lt is ∙ ap (λ (m : ℕ). slot (depth + m) (Read (row file next)) ∷ Left (next + 1)) (sym same)

-- ---- entries of a unit

pub entries_none : entries_of [] ≡ []
unfolding entries_of
entries_none = refl

pub entries_first : (s : Slot) (rest : List Slot) → entries_of (s ∷ rest) ≡ record { origin = s.origin; depth = s.depth; children = nat_lt s.depth (depth_of rest); ends = s.depth - depth_of rest }
    ∷ entries_of rest
unfolding entries_of
entries_first s rest = refl

pub entries_many : (slots : List Slot) → length (entries_of slots) ≡ length slots
unfolding entries_of
entries_many [] = refl
entries_many (s ∷ slots) = ap suc (entries_many slots)

-- ---- what is below an entry

module _ (k : EntryTable) (depth : ℕ) (r : Row) where
  pub below_none : None ≡ option_map entry_shown (row_at k r) → [] ≡ below k depth r
  below_none none = go (row_at k r) none where
    go : (o : Option EntryRow) → None ≡ option_map entry_shown o → [] ≡ option_map_or (slots_below k depth r) o []
    go None e = refl
    go (Some x) e = absurd cc

  pub below_some : (e : EntryOfCode) → Some e ≡ option_map entry_shown (row_at k r) → run_slots k (record { file = r.file; next = r.entry + 1; end = e.end; depth = depth; base = e.depth })
      ≡ below k depth r
  below_some e is = go (row_at k r) is where
    go : (o : Option EntryRow) → Some e ≡ option_map entry_shown o → run_slots k (record { file = r.file; next = r.entry + 1; end = e.end; depth = depth; base = e.depth })
        ≡ option_map_or (slots_below k depth r) o []
    go None e = absurd cc
    go (Some x) found =
        let same : e ≡ entry_shown x = cc in
        let one : r.entry + 1 ≡ suc r.entry = omega arith in
        (λ i. row_slots r.file depth (same i).depth (one i) (slice_range (rows_in k r.file) (one i) (same i).end))

-- ---- the next entry

module _ (k : EntryTable) (rest items : List Slot) where
  -- what is left of a file comes before what the items say
  pub next_of_run : (s : Slot) (left : List Slot) → rest ≡ s ∷ left → rest ++ items ≡ s ∷ (left ++ items)
  next_of_run s left is = ap (λ (w : List Slot). w ++ items) is

  pub next_of_items : (left : List Slot) → rest ≡ [] → items ≡ left → rest ++ items ≡ left
  next_of_items left none is = ap (λ (w : List Slot). w ++ items) none ∙ is

pub items_none : (k : EntryTable) (sort : Sort) → items_slots k sort [] ≡ []
unfolding items_slots
items_none k sort = refl

pub items_first : (k : EntryTable) (sort : Sort) (item : Item) (items : List Item) → items_slots k sort (item ∷ items) ≡ what_slots k sort item.depth item.what ++ items_slots k sort items
unfolding items_slots
items_first k sort item items = refl

-- ---- what an item begins with

pub alone_is : (k : EntryTable) (first s : Slot) (run : Run) → s ≡ first → run ≡ empty_run → first ∷ [] ≡ s ∷ run_slots k run
alone_is k first s run same none = (λ i. sym same i ∷ sym (ap (run_slots k) none ∙ empty_none k) i)

pub tree_is : (k : EntryTable) (depth : ℕ) (r : Row) (s : Slot) (run : Run) → s ≡ slot depth (Read r) → run_slots k run ≡ below k depth r → slot depth (Read r) ∷ below k depth r ≡ s ∷ run_slots k run
tree_is k depth r s run same left = (λ i. sym same i ∷ sym left i)

-- ---- the next entry, and what is behind it

pub next_view : {X : Type 0} (old : List X) (o : Option X) (rest : List X) → IsNext old o rest → option_to_list o ++ rest ≡ old
next_view old None rest is = is.1 ∙ sym is.0
next_view old (Some x) rest is = sym is

pub next_whole : (old : List Slot) (o : Option Slot) (rest : List Slot) → IsNext old o rest → IsWhole o rest
next_whole old None rest is = is.1
next_whole old (Some s) rest is = tt

depth_next : (old : List Slot) (o : Option Slot) (rest : List Slot) → IsNext old o rest → depth_of old ≡ depth_of (option_to_list o)
depth_next old None rest is = ap depth_of is.0
depth_next old (Some s) rest is = ap depth_of is

pub next_entry : (s : Slot) (old : List Slot) (o : Option Slot) (rest : List Slot) (d : ℕ) → IsNext old o rest → d ≡ depth_of (option_to_list o)
    → entries_of (s ∷ old) ≡ record { origin = s.origin; depth = s.depth; children = nat_lt s.depth d; ends = s.depth - d } ∷ entries_of (option_to_list o ++ rest)
next_entry s old o rest d is same =
    let depth : depth_of old ≡ d = depth_next old o rest is ∙ sym same in
    entries_first s old
    ∙ (λ i. let e : Entry = record { origin = s.origin; depth = s.depth; children = nat_lt s.depth (depth i); ends = s.depth - depth i } in e ∷ entries_of (sym (next_view old o rest is) i))

pub none_view : (o : Option Slot) (rest view : List Slot) → o ≡ None → IsWhole o rest → option_to_list o ++ rest ≡ view → view ≡ []
none_view None rest view is whole same = sym same ∙ whole
none_view (Some s) rest view is whole same = absurd cc

pub some_view : (o : Option Slot) (s : Slot) (rest view : List Slot) → o ≡ Some s → option_to_list o ++ rest ≡ view → view ≡ s ∷ rest
some_view o s rest view is same = sym same ∙ ap (λ (p : Option Slot). option_to_list p ++ rest) is

pub pulled : (k : EntryTable) (sort : Sort) (run : List Slot) (item : Item) (items all : List Item) (s : Slot) (left : List Slot) → run ≡ [] → all ≡ item ∷ items
    → what_slots k sort item.depth item.what ≡ s ∷ left
    → run ++ items_slots k sort all ≡ s ∷ (left ++ items_slots k sort items)
pulled k sort run item items all s left none is first =
    (λ i. none i ++ items_slots k sort (is i)) ∙ items_first k sort item items ∙ ap (λ (w : List Slot). w ++ items_slots k sort items) first

pub none_pulled : (k : EntryTable) (sort : Sort) (run : List Slot) (all : List Item) → run ≡ [] → length all ≡ 0 → run ++ items_slots k sort all ≡ []
none_pulled k sort run [] none empty = ap (λ (w : List Slot). w ++ items_slots k sort []) none ∙ items_none k sort
none_pulled k sort run (item ∷ all) none empty = absurd (omega (arith, empty))
