-- A root that wasn't read is that of a partial unit.
use Rattle.std.proofs.Common.{ℕ, suc, List, [], ◌∷◌, Option, Some, None, sym, subst, inl, inr}
use Rattle.std.specs.Prelude.{slice_range}
use Rattle.std.specs.Option.{option_map_or}
use Rattle.dwz_def_reading.specs.Lists.{In}
use Rattle.dwz_def_reading.proofs.ListFacts.{in_cases}
use Rattle.dwz_layout_items.specs.declared.order.Item.{Item}
use Rattle.dwz_layout_items.specs.declared.order.ItemKind.{ItemKind}
use Rattle.dwz_layout_items.specs.declared.order.ItemKind.TheVariants.{Import, InChain, Root, Space, Top, Whole}
use Rattle.dwz_unit.specs.Rows.{EntryRow}
use Rattle.dwz_layout.specs.declared.known.EntryTable.{EntryTable}
use Rattle.dwz_layout.specs.declared.known.Row.{Row}
use Rattle.dwz_layout.specs.declared.order.Sort.{Sort}
use Rattle.dwz_layout.specs.declared.order.Sort.TheVariants.{Compile, OfType, Partial}
use Rattle.dwz_layout.specs.declared.walk.Origin.{Origin}
use Rattle.dwz_layout.specs.declared.walk.Origin.TheVariants.{OwnRoot}
use Rattle.dwz_layout.specs.declared.walk.Slot.{Slot}
use Rattle.dwz_layout.specs.Entries.{items_slots, root_of, row_slots, slots_below, tree_slots, what_slots, whole_slots}
use Rattle.dwz_layout.specs.Known.{row_at, rows_in, top_row}

abbrev pub IsPartialSort : Sort → Type 0
IsPartialSort (Partial line) = Unit {0}
IsPartialSort _ = ⊥

abbrev pub IsOwnRoot : Origin → Type 0
IsOwnRoot (OwnRoot line) = Unit {0}
IsOwnRoot _ = ⊥

-- none of what was read is one
none_of_rows : (file depth base entry : ℕ) (rows : List EntryRow) (s : Slot) → In s (row_slots file depth base entry rows) → IsOwnRoot s.origin → ⊥
unfolding row_slots
none_of_rows file depth base entry [] s there own = absurd there
none_of_rows file depth base entry (r ∷ rows) s (inl e) own = subst (λ (t : Slot). IsOwnRoot t.origin) (sym e) own
none_of_rows file depth base entry (r ∷ rows) s (inr later) own = none_of_rows file depth base (suc entry) rows s later own

none_of_tree : (k : EntryTable) (depth : ℕ) (r : Row) (s : Slot) → In s (tree_slots k depth r) → IsOwnRoot s.origin → ⊥
none_of_tree k depth r s (inl e) own = subst (λ (t : Slot). IsOwnRoot t.origin) (sym e) own
none_of_tree k depth r s (inr later) own = by (row_at k r) later where
  by : (o : Option EntryRow) → In s (option_map_or (slots_below k depth r) o []) → ⊥
  by None there = absurd there
  by (Some top) there = none_of_rows r.file depth top.depth (suc r.entry) (slice_range (rows_in k r.file) (suc r.entry) top.end) s there own

root_own : (sort : Sort) → IsOwnRoot (root_of sort) → IsPartialSort sort
root_own (Compile root) own = absurd own
root_own (OfType root signature main) own = absurd own
root_own (Partial line) own = tt

whole_own : (k : EntryTable) (depth : ℕ) (sort : Sort) (s : Slot) → In s (whole_slots k depth sort) → IsOwnRoot s.origin → IsPartialSort sort
whole_own k depth (Compile root) s there own = absurd (none_of_tree k depth root s there own)
whole_own k depth (OfType root signature main) s there own = absurd (none_of_tree k depth root s there own)
whole_own k depth (Partial line) s there own = tt

what_own : (k : EntryTable) (sort : Sort) (depth : ℕ) (what : ItemKind) (s : Slot) → In s (what_slots k sort depth what) → IsOwnRoot s.origin → IsPartialSort sort
what_own k sort depth Root s (inl e) own = root_own sort (subst (λ (t : Slot). IsOwnRoot t.origin) (sym e) own)
what_own k sort depth Root s (inr none) own = absurd none
what_own k sort depth Whole s there own = whole_own k depth sort s there own
what_own k sort depth (Top top) s there own = absurd (none_of_tree k depth (top_row k top) s there own)
what_own k sort depth (Space space) s (inl e) own = absurd (subst (λ (t : Slot). IsOwnRoot t.origin) (sym e) own)
what_own k sort depth (Space space) s (inr none) own = absurd none
what_own k sort depth (InChain chain space) s (inl e) own = absurd (subst (λ (t : Slot). IsOwnRoot t.origin) (sym e) own)
what_own k sort depth (InChain chain space) s (inr none) own = absurd none
what_own k sort depth (Import part) s (inl e) own = absurd (subst (λ (t : Slot). IsOwnRoot t.origin) (sym e) own)
what_own k sort depth (Import part) s (inr none) own = absurd none

pub items_own : (k : EntryTable) (sort : Sort) (items : List Item) (s : Slot) → In s (items_slots k sort items) → IsOwnRoot s.origin → IsPartialSort sort
unfolding items_slots
items_own k sort [] s there own = absurd there
items_own k sort (item ∷ items) s there own = elim (in_cases s (what_slots k sort item.depth item.what) (items_slots k sort items) there) [
  | inl a ↦ what_own k sort item.depth item.what s a own
  | inr b ↦ items_own k sort items s b own
]
