-- The rows of a unit that is shown.
use Rattle.std.proofs.Common.{◌≡◌, ℕ, ◌+◌, ◌-◌, ◌<◌, ◌≤◌, List, ◌∷◌, ◌++◌, length, map, take, Some, slice_get, refl, sym, ap, subst, ◌∙◌, arith}
use Rattle.std.specs.Prelude.{slice_range}
use Rattle.std.specs.Option.{option_map}
use Rattle.std.proofs.lemmas.List.{append-nil, drop_at, length-map, map-append, take_at}
use Rattle.std.proofs.lemmas.Option.{slice_get-map}
use Rattle.dwz_def_reading.specs.Entries.{RawEntry, root_position}
use Rattle.dwz_def_reading.specs.Meanings.{places_of}
use Rattle.dwz_def_reading.specs.Trees.{End, Entry, Forest, Position, behind, first_below}
use Rattle.dwz_def_reading.specs.Units.{RawUnit, entry_count}
use Rattle.dwz_unit.specs.declared.rows.RawUnit.{RawUnit as UnitOfCode}
use Rattle.dwz_unit.specs.Rows.{EntryRow, rows_below, rows_in, rows_of, shown_units, unit_shown}
use Rattle.dwz_unit.proofs.ShownLemmas.{rows_in-length}
use Rattle.dwz_graph_resolve.specs.Named.{entries_of, preorder}
use Rattle.dwz_graph_resolve.specs.declared.here.Here.{Here}
use Rattle.dwz_graph_resolve.specs.Resolved.{IsHere, IsUnitHere, places}
use Rattle.dwz_graph_resolve.proofs.PlaceLemmas.{in_places}
use Rattle.dwz_unit.proofs.UnitThere.{UnitThere, unit_there, row_of_unit}

-- ---- what follows

range_middle : (xs ys zs : List ℕ) (first end : ℕ) → length xs ≡ first → end ≡ first + length ys → slice_range (xs ++ (ys ++ zs)) first end ≡ ys
range_middle xs ys zs first end at to =
    let count : end - first ≡ length ys = omega arith in
    ap (λ (w : List ℕ). take (end - first) w) (drop_at xs (ys ++ zs) first at) ∙ take_at ys zs (end - first) (sym count)

abbrev at_of : EntryRow → ℕ
at_of row = row.entry.at

pub own_places : (raw : List RawUnit) (n : ℕ) (x : UnitOfCode) (end : ℕ) (t : UnitThere (rows_of raw) raw 0 n x) → end ≡ x.first + entry_count t.u
    → slice_range (places raw) x.first end ≡ places_of t.u
own_places raw n x end t to =
    let here = rows_in t.u t.unit x.first in
    let len = rows_in-length t.u t.unit x.first in
    let many = t.many in
    let count = length-map here at_of in
    let front = length-map t.before at_of in
    let parts : places raw ≡ map at_of t.before ++ (map at_of here ++ map at_of t.after) =
    ap (map at_of) t.rows ∙ map-append at_of t.before (here ++ t.after) ∙ ap (λ (w : List ℕ). map at_of t.before ++ w) (map-append at_of here t.after) in
    ap (λ (w : List ℕ). slice_range w x.first end) parts
    ∙ range_middle (map at_of t.before) (map at_of here) (map at_of t.after) x.first end (omega arith) (omega arith)
    ∙ in_places t.u t.unit x.first

pub below_entries : (f : Forest RawEntry) (unit : ℕ) (p : Position) → map (λ (row : EntryRow). row.entry) (rows_below f unit p) ≡ preorder f
unfolding rows_below preorder
below_entries End unit p = refl
below_entries (Entry e c n) unit p =
    ap (λ (w : List RawEntry). e ∷ w) (
    map-append (λ (row : EntryRow). row.entry) (rows_below c unit (first_below p)) (rows_below n unit (behind p c))
    ∙ (λ i. below_entries c unit (first_below p) i ++ below_entries n unit (behind p c) i))

pub in_entries : (u : RawUnit) (unit before : ℕ) → map (λ (row : EntryRow). row.entry) (rows_in u unit before) ≡ entries_of u
unfolding preorder
in_entries u unit before = below_entries (Entry u.root u.below End) unit (root_position before) ∙ ap (λ (w : List RawEntry). u.root ∷ w) (append-nil (preorder u.below))

-- an entry of the unit
pub entry_of_unit : (raw : List RawUnit) (n : ℕ) (x : UnitOfCode) (t : UnitThere (rows_of raw) raw 0 n x) (i : ℕ) (row : EntryRow) → x.first ≤ i → i < x.first + entry_count t.u
    → slice_get (rows_of raw) i ≡ Some row → slice_get (entries_of t.u) (i - x.first) ≡ Some row.entry
entry_of_unit raw n x t i row low high found =
    let here = rows_in t.u t.unit x.first in
    ap (λ (w : List RawEntry). slice_get w (i - x.first)) (sym (in_entries t.u t.unit x.first))
    ∙ slice_get-map (λ (r : EntryRow). r.entry) here (i - x.first)
    ∙ ap (option_map (λ (r : EntryRow). r.entry)) (sym (row_of_unit raw n x t i low high) ∙ found)

pub entries_many : (u : RawUnit) → length (entries_of u) ≡ entry_count u
entries_many u = omega (arith, rows_in-length u 0 0, length-map (rows_in u 0 0) (λ (r : EntryRow). r.entry), ap (λ (w : List RawEntry). length w) (in_entries u 0 0))

-- ---- what is kept of it

pub same_unit : (raw : List RawUnit) (n : ℕ) (u v : RawUnit) → slice_get raw n ≡ Some u → slice_get raw n ≡ Some v → u ≡ v
same_unit raw n u v e f = let both : Some u ≡ Some v = sym e ∙ f in cc

module _ (raw : List RawUnit) (n : ℕ) (x : UnitOfCode) (h : Here) (is : IsUnitHere raw n x h) (u : RawUnit) (found : slice_get raw n ≡ Some u) where
  one : is.u ≡ u
  one = same_unit raw n is.u u is.is_unit found

  pub here_there : IsHere raw u h
  here_there = subst (λ (v : RawUnit). IsHere raw v h) one is.here

  pub shown_there : unit_shown x.first u ≡ x
  shown_there = ap (λ (v : RawUnit). unit_shown x.first v) (sym one) ∙ is.shown

  pub end_there : h.end ≡ h.first + entry_count u
  end_there = is.end ∙ ap (λ (k : ℕ). k + entry_count is.u) (sym is.first) ∙ ap (λ (v : RawUnit). h.first + entry_count v) one

  pub entry_there : slice_get (shown_units raw) n ≡ Some x → (i : ℕ) (row : EntryRow) → h.first ≤ i → i < h.end → slice_get (rows_of raw) i ≡ Some row
      → slice_get (entries_of u) (i - h.first) ≡ Some row.entry
  entry_there shown i row low high there =
      let t = unit_there raw n x shown in
      let same : t.u ≡ u = same_unit raw n t.u u t.is_unit found in
      let first = is.first in
      let end = end_there in
      let count = ap (λ (v : RawUnit). entry_count v) same in
      ap (λ (k : ℕ). slice_get (entries_of u) (i - k)) first
      ∙ ap (λ (v : RawUnit). slice_get (entries_of v) (i - x.first)) (sym same)
      ∙ entry_of_unit raw n x t i row (omega arith) (omega arith) there
