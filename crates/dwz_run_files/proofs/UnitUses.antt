-- What is written of a unit of an order is among the uses that are counted in it: each entry and each space is one of its slots.
use Rattle.std.proofs.Common.{◌≡◌, ℕ, suc, ◌+◌, Contains, List, [], ◌∷◌, Option, Some, None, slice_get, refl, sym, ap}
use Rattle.std.proofs.Common.{subst, ◌∙◌, inl, inr, arith}
use Rattle.std.specs.Prelude.{SomeIff}
use Rattle.std.specs.List.{flat_map}
use Rattle.std.specs.Option.{unwrap_or}
use Rattle.dwz_def_reading.specs.Lists.{In}
use Rattle.dwz_def_reading.specs.Pruning.{bytes_kept, new_number}
use Rattle.dwz_def_reading.proofs.ListFacts.{in_left, in_right}
use Rattle.dwz_layout_items.specs.declared.order.Item.{Item}
use Rattle.dwz_layout_items.specs.declared.order.ItemKind.{ItemKind}
use Rattle.dwz_layout_items.specs.declared.order.ItemKind.TheVariants.{Import, InChain, Root, Space, Top, Whole}
use Rattle.dwz_strs.specs.Pruned.{IsPruned, Pruning, moved_in}
use Rattle.dwz_unit.specs.Rows.{EntryRow}
use Rattle.dwz_encode_sections.specs.Slots.{moved_or_same}
use Rattle.dwz_def_encoding.specs.Placing.{UnitRole}
use Rattle.dwz_layout.specs.declared.known.EntryTable.{EntryTable}
use Rattle.dwz_layout.specs.declared.known.Row.{Row}
use Rattle.dwz_layout.specs.declared.order.Sort.{Sort}
use Rattle.dwz_layout.specs.declared.order.UnitItems.{UnitItems}
use Rattle.dwz_layout.specs.declared.walk.Origin.{Origin}
use Rattle.dwz_layout.specs.declared.walk.Origin.TheVariants.{Chained, Imported, OwnRoot, Read as OfRow}
use Rattle.dwz_layout.specs.declared.walk.Slot.{Slot}
use Rattle.dwz_layout.specs.Attributes.{WritingContext, here_of, holder_by, is_common, space_attrs}
use Rattle.dwz_layout.specs.Entries.{items_slots, slot, what_slots}
use Rattle.dwz_layout.specs.Known.{number_of, row_at, space_at}
use Rattle.dwz_encode.specs.Shown.{HasRow, IsRow}
use Rattle.dwz_law_layout.specs.Beside.{Beside}
use Rattle.dwz_law_layout.specs.Facts.{AreFacts, RunFacts}
use Rattle.dwz_law_layout.specs.Listed.{AreListed, TextsAt}
use Rattle.dwz_law_layout.specs.Unfitted.{HasChained, NamesChained}
use Rattle.dwz_encode_texts.specs.Used.{order_uses, origin_uses, out_uses}
use Rattle.dwz_encode_texts.proofs.SlotUses.{slot_uses}
use Rattle.dwz_run_files.proofs.EntryNumbers.{IsEntry, entry_there, one_entry}
use Rattle.dwz_run_files.proofs.SlotsThere.{AreThere, IsThere}

-- ---- uses are members

pub in_contains : (xs : List ℕ) (x : ℕ) → In x xs → Contains xs x
in_contains [] x there = absurd there
in_contains (y ∷ xs) x (inl e) = (0, omega arith, e)
in_contains (y ∷ xs) x (inr later) = (let r = in_contains xs x later in let lt = r.1 in (suc r.0, omega (arith, lt), r.2))

-- ---- the slot of an entry, and that of a space of a chain

pub record SlotOf (origin : Origin) (slots : List Slot) : Type 0 where
  pub own : Slot
  pub there : In own slots
  pub is : own.origin ≡ origin

module _ {beside : Beside} (f : RunFacts beside) (t : TextsAt) (k : EntryTable) (facts : AreFacts f) (listed : AreListed f t k) (r : Row) (entry : IsEntry f k r) where
  origin_is : (o : Origin) → IsThere k o → IsRow k (number_of k r) o → o ≡ OfRow r
  origin_is (OfRow q) there same =
      ap (λ (w : Row). OfRow w) (one_entry f k q r (entry_there f t k facts listed q there.0 there.1) entry same)
  origin_is (OwnRoot line) there none = absurd none
  origin_is (Chained chain space) there none = absurd none
  origin_is (Imported part) there none = absurd none

  row_slot : (slots : List Slot) → AreThere k slots → HasRow k (number_of k r) slots → SlotOf (OfRow r) slots
  row_slot [] all none = absurd none
  row_slot (s ∷ slots) all (inl is) = record { own = s; there = inl refl; is = origin_is s.origin all.0 is }
  row_slot (s ∷ slots) all (inr later) = (let o = row_slot slots all.1 later in record { own = o.own; there = inr o.there; is = o.is })

chained_what : (k : EntryTable) (sort : Sort) (space depth : ℕ) (what : ItemKind) → NamesChained space what
    → (chain : ℕ) × SlotOf (Chained chain space) (what_slots k sort depth what)
chained_what k sort space depth (InChain chain s) same =
    (chain, record { own = slot depth (Chained chain s); there = inl refl; is = ap (λ (w : ℕ). Chained chain w) same })
chained_what k sort space depth Root none = absurd none
chained_what k sort space depth Whole none = absurd none
chained_what k sort space depth (Top top) none = absurd none
chained_what k sort space depth (Space s) none = absurd none
chained_what k sort space depth (Import part) none = absurd none

chained_slot : (k : EntryTable) (sort : Sort) (space : ℕ) (items : List Item) (item : Item) → In item items → NamesChained space item.what
    → (chain : ℕ) × SlotOf (Chained chain space) (items_slots k sort items)
unfolding items_slots
chained_slot k sort space [] item none names = absurd none
chained_slot k sort space (x ∷ items) item (inl e) names =
    let o = chained_what k sort space x.depth x.what (subst (λ (w : Item). NamesChained space w.what) (sym e) names) in (
      o.0,
      record {
        own = o.1.own;
        there = in_left o.1.own (what_slots k sort x.depth x.what) (items_slots k sort items) o.1.there;
        is = o.1.is;
      },
    )
chained_slot k sort space (x ∷ items) item (inr later) names =
    let o = chained_slot k sort space items item later names in (
      o.0,
      record {
        own = o.1.own;
        there = in_right o.1.own (what_slots k sort x.depth x.what) (items_slots k sort items) o.1.there;
        is = o.1.is;
      },
    )

-- ---- what a unit writes is among the uses

-- a unit of an order, the first of which has that number
module _ (k : EntryTable) (uses : List ℕ) (first j : ℕ) (order : List UnitItems) (o : UnitItems) (found : slice_get order j ≡ Some o)
    (among : (n : ℕ) → In n (order_uses k first order) → Contains uses n) where
  abbrev pub here : WritingContext
  here = here_of k (first + j) o.sort

  slot_among : (origin : Origin) → SlotOf origin (items_slots k o.sort o.items) → (n : ℕ) → In n (origin_uses k here origin)
      → Contains uses n
  slot_among origin s n there =
      among n (slot_uses k first j order o s.own found s.there n (subst (λ (w : Origin). In n (origin_uses k here w)) (sym s.is) there))

  -- so is what it writes of an entry
  pub entry_among : {beside : Beside} (f : RunFacts beside) (t : TextsAt) → AreFacts f → AreListed f t k → AreThere k (items_slots k o.sort o.items)
      → (r : Row) (x : EntryRow) → row_at k r ≡ Some x
      → HasRow k (number_of k r) (items_slots k o.sort o.items) → (n : ℕ) → In n (origin_uses k here (OfRow r)) → Contains uses n
  entry_among f t facts listed all r x at has n there =
      slot_among (OfRow r)
      (row_slot f t k facts listed r (entry_there f t k facts listed r x at) (items_slots k o.sort o.items) all has) n there

  -- and what it writes of a space of a chain
  pub chained_among : (h : UnitRole) → h ≡ holder_by (is_common k (first + j)) o.sort → (space : ℕ) → HasChained space o.items
      → (n : ℕ) → In n (flat_map out_uses (space_attrs k h (space_at k space))) → Contains uses n
  chained_among h same space has n there =
      let s = chained_slot k o.sort space o.items has.item has.there has.names in
      slot_among (Chained s.0 space) s.1 n
      (subst (λ (w : UnitRole). In n (flat_map out_uses (space_attrs k w (space_at k space)))) same there)

-- ---- what no text stands for

none_before : (strs uses : List ℕ) → new_number strs uses 0 ≡ 0
unfolding bytes_kept
none_before [] uses = refl
none_before (x ∷ strs) uses = refl

-- a text at the front stays there
pub front_stays : (strs uses : List ℕ) (p : Pruning) → IsPruned strs uses p → moved_or_same p 0 ≡ 0
front_stays strs uses p is = by (moved_in p 0) (is.moved 0) where
  by : (o : Option ℕ) → SomeIff o (Contains uses 0) (new_number strs uses 0) → unwrap_or o 0 ≡ 0
  by None s = refl
  by (Some n) s = s.1 ∙ none_before strs uses
