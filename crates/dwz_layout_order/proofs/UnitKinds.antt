-- The kind of a unit by what is shown of it, where its entries end, and what is written of it by its kind.
use Rattle.std.proofs.Common.{◌≡◌, ℕ, ◌+◌, ◌<◌, ◌≤◌, List, Some, Result, Ok, Err, OnOk, slice_get, refl, sym, ap, subst, ◌∙◌, arith}
use Rattle.dwz_def_reading.specs.Entries.{RawEntry}
use Rattle.dwz_def_reading.specs.Trees.{End, Entry, Forest}
use Rattle.dwz_def_reading.specs.Units.{CompileUnit, PartialUnit, RawKind, RawUnit, TypeUnit, entries_in}
use Rattle.dwz_def_tops.specs.Spots.{EntryName, Row}
use Rattle.dwz_graph.specs.Building.{IsList}
use Rattle.dwz_graph.proofs.ListLemmas.{within}
use Rattle.dwz_graph.proofs.UnitBuilding.{kind_is, root_within, some_list}
use Rattle.dwz_layout_items.specs.declared.order.Item.{Item}
use Rattle.dwz_layout_items.specs.Order.{Names}
use Rattle.dwz_layout_items.specs.Outline.{View}
use Rattle.dwz_layout.specs.declared.order.Sort.TheVariants.{Compile, OfType}
use Rattle.dwz_unit.specs.declared.rows.RawEntry.{RawEntry as EntryOfCode}
use Rattle.dwz_unit.specs.declared.rows.RawUnit.{RawUnit as UnitOfCode}
use Rattle.dwz_unit.specs.Rows.{kind_number, shown_entries, shown_units, unit_shown}
use Rattle.dwz_layout_order.specs.declared.marks.Marks.{Marks}
use Rattle.dwz_layout_order.specs.declared.outline.Next.{Next}
use Rattle.dwz_layout_order.specs.Kept.{IsKept, IsWhole, behind_kind, behind_unit}
use Rattle.dwz_layout_order.specs.Sorts.{IsMainOf, SortBy, SortOf, row_of}

abbrev kind_in : UnitOfCode → ℕ
kind_in x = x.kind

pub is_compile : (raw : List RawUnit) (n : ℕ) (x : UnitOfCode) (u : RawUnit) → slice_get (shown_units raw) n ≡ Some x → slice_get raw n ≡ Some u → x.kind ≡ 1 → u.kind ≡ CompileUnit
is_compile raw n x u shown found one = by u.kind (ap kind_in (kind_is raw n x u shown found) ∙ one) where
  by : (k : RawKind) → kind_number k ≡ 1 → k ≡ CompileUnit
  by CompileUnit e = refl
  by (TypeUnit signature type_offset) e = absurd (omega (arith, e))
  by PartialUnit e = absurd (omega (arith, e))

pub not_compile : (raw : List RawUnit) (n : ℕ) (x : UnitOfCode) (u : RawUnit) → slice_get (shown_units raw) n ≡ Some x → slice_get raw n ≡ Some u → (x.kind ≡ 1 → ⊥) → kind_number u.kind ≡ 1 → ⊥
not_compile raw n x u shown found other e = other (sym (ap kind_in (kind_is raw n x u shown found)) ∙ e)

-- ---- sorts

pub sort_compile : (raw : List RawUnit) (file start first : ℕ) (u : RawUnit) → u.kind ≡ CompileUnit → SortOf raw file start first u (Compile (row_of file first))
sort_compile raw file start first u e = subst (λ (k : RawKind). SortBy raw file start first u k (Compile (row_of file first))) (sym e) refl

pub sort_type : (raw : List RawUnit) (n file start main : ℕ) (x : UnitOfCode) (u : RawUnit) → slice_get (shown_units raw) n ≡ Some x → slice_get raw n ≡ Some u → (x.kind ≡ 1 → ⊥)
    → main < entries_in raw → IsMainOf raw u x.type_offset main
    → SortOf raw file start x.first u (OfType (row_of file x.first) x.signature (start + main))
sort_type raw n file start main x u shown found other lt is =
    let same = kind_is raw n x u shown found in
    subst (λ (y : UnitOfCode). SortOf raw file start x.first u (OfType (row_of file x.first) y.signature (start + main))) same
    (by u.kind (not_compile raw n x u shown found other) (subst (λ (y : UnitOfCode). IsMainOf raw u y.type_offset main) (sym same) is))
  where
    by : (k : RawKind) → (kind_number k ≡ 1 → ⊥) → IsMainOf raw u (unit_shown x.first (record u { kind = k })).type_offset main
        → SortBy raw file start x.first u k (OfType (row_of file x.first) (unit_shown x.first (record u { kind = k })).signature (start + main))
    by CompileUnit differs is = absurd (differs refl)
    by (TypeUnit signature type_offset) differs is = (main, refl, lt, is)
    by PartialUnit differs is = tt

-- ---- where the entries of a unit end

pub end_within : (raw : List RawUnit) (n : ℕ) (x : UnitOfCode) (e : EntryOfCode) → slice_get (shown_units raw) n ≡ Some x → slice_get (shown_entries raw) x.first ≡ Some e → e.end ≤ entries_in raw
end_within raw n x e shown entry =
    let h = some_list raw n x e shown entry in
    let root = root_within raw n x shown in
    by h.list h.is root
  where
    by : (list : Forest RawEntry) → IsList raw (x.first + 1) e.end list → x.first < entries_in raw → e.end ≤ entries_in raw
    by End is root = (let to = is.ends in omega arith)
    by (Entry d c next) is root = (let to = is.ends in within raw (x.first + 1) e.end (record { list = Entry d c next; is = is }) (omega arith))

-- ---- what is written

pub on_shown : {X E : Type 0} (r : Result X E) (Shows Says : View → Row → Type 0) → ((v : View) (row : Row) → Shows v row → OnOk r (Says v row))
    → OnOk r ((v : View) (row : Row) → Shows v row → Says v row)
on_shown (Ok x) Shows Says h = h
on_shown (Err e) Shows Says h = tt

pub on_named : {X E : Type 0} (r : Result X E) (Says : Names EntryName → Type 0) → ((n : Names EntryName) → OnOk r (Says n)) → OnOk r ((n : Names EntryName) → Says n)
on_named (Ok x) Says h = h
on_named (Err e) Says h = tt

pub whole_kept : (m : Marks) (u : RawUnit) (next : Next) (imports : List ℕ) (old new : List Item) → (kind_number u.kind ≡ 1 → ⊥) → IsWhole old new → IsKept m u.kind u.below next imports old new
whole_kept m u next imports old new other whole = by u.kind other where
  by : (k : RawKind) → (kind_number k ≡ 1 → ⊥) → IsKept m k u.below next imports old new
  by CompileUnit differs = absurd (differs refl)
  by (TypeUnit signature type_offset) differs = whole
  by PartialUnit differs = whole

pub next_stays : (u : RawUnit) (next : Next) → (kind_number u.kind ≡ 1 → ⊥) → next ≡ behind_unit u next
next_stays u next other = by u.kind other where
  by : (k : RawKind) → (kind_number k ≡ 1 → ⊥) → next ≡ behind_kind k u.below next
  by CompileUnit differs = absurd (differs refl)
  by (TypeUnit signature type_offset) differs = refl
  by PartialUnit differs = refl

pub on_true : {X E : Type 0} (r : Result X E) → OnOk r (Unit {0})
on_true (Ok x) = tt
on_true (Err e) = tt
