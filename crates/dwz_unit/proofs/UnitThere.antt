-- The rows of a unit that is shown: where they stand among all.
use Rattle.std.proofs.Common.{◌≡◌, ℕ, zero, suc, ◌+◌, ◌-◌, ◌<◌, ◌≤◌, List, [], ◌∷◌, ◌++◌, length, Some, slice_get, refl, sym, ap, ◌∙◌, arith}
use Rattle.std.proofs.lemmas.List.{append_assoc, length-append}
use Rattle.dwz_def_reading.specs.Entries.{root_position}
use Rattle.dwz_def_reading.specs.Trees.{behind}
use Rattle.dwz_def_reading.specs.Units.{RawUnit, entries_in, entry_count}
use Rattle.dwz_unit.specs.declared.rows.RawEntry.{RawEntry as EntryOfCode}
use Rattle.dwz_unit.specs.declared.rows.RawUnit.{RawUnit as UnitOfCode}
use Rattle.dwz_unit.specs.Rows.{EntryRow, rows_below, rows_from, rows_in, rows_of, shown_entries, shown_from, shown_units, unit_shown}
use Rattle.dwz_unit.proofs.ShownLemmas.{rows_in-length}
use Rattle.dwz_unit.proofs.RowsFound.{row_is, rows-length}

-- its rows stand among all rows, behind as many as its root's number says
pub record UnitThere (all : List EntryRow) (raw : List RawUnit) (behind_them n : ℕ) (x : UnitOfCode) : Type 0 where
  pub u : RawUnit
  pub is_unit : slice_get raw n ≡ Some u
  pub shown : unit_shown x.first u ≡ x
  pub unit : ℕ
  pub before : List EntryRow
  pub after : List EntryRow
  pub rows : all ≡ before ++ (rows_in u unit x.first ++ after)
  pub many : behind_them + length before ≡ x.first

unit_from : (raw : List RawUnit) (unit before n : ℕ) (x : UnitOfCode) → slice_get (shown_from raw before) n ≡ Some x → UnitThere (rows_from raw unit before) raw before n x
unfolding shown_from rows_from
unit_from [] unit before n x e = absurd cc
unit_from (u ∷ raw) unit before zero x e =
    let is : unit_shown before u ≡ x = cc in
    let first : before ≡ x.first = ap (λ (w : UnitOfCode). w.first) is in record {
      u = u;
      is_unit = refl;
      shown = ap (λ (k : ℕ). unit_shown k u) (sym first) ∙ is;
      unit = unit;
      before = [];
      after = rows_from raw (unit + 1) (before + entry_count u);
      rows = ap (λ (k : ℕ). rows_in u unit k ++ rows_from raw (unit + 1) (before + entry_count u)) first;
      many = omega arith;
    }
unit_from (u ∷ raw) unit before (suc n) x e =
    let r = unit_from raw (unit + 1) (before + entry_count u) n x e in
    let here = rows_in u unit before in
    let len = rows_in-length u unit before in
    let many = r.many in
    let both = length-append here r.before in record {
      u = r.u;
      is_unit = r.is_unit;
      shown = r.shown;
      unit = r.unit;
      before = here ++ r.before;
      after = r.after;
      rows = ap (λ (w : List EntryRow). here ++ w) r.rows ∙ sym (append_assoc here r.before (rows_in r.u r.unit x.first ++ r.after));
      many = omega arith;
    }

pub unit_there : (raw : List RawUnit) (n : ℕ) (x : UnitOfCode) → slice_get (shown_units raw) n ≡ Some x → UnitThere (rows_of raw) raw 0 n x
unit_there raw n x e = unit_from raw 0 0 n x e

pub unit_ends : (raw : List RawUnit) (n : ℕ) (x : UnitOfCode) (t : UnitThere (rows_of raw) raw 0 n x) → x.first + entry_count t.u ≤ entries_in raw
unit_ends raw n x t =
    let here = rows_in t.u t.unit x.first in
    let len = rows_in-length t.u t.unit x.first in
    let many = t.many in
    let all = rows-length raw in
    let whole = ap (λ (w : List EntryRow). length w) t.rows in
    let parts = length-append t.before (here ++ t.after) in
    let rest = length-append here t.after in
    omega arith

pub get_behind : {X : Type 0} (xs ys : List X) (k : ℕ) → slice_get (xs ++ ys) (length xs + k) ≡ slice_get ys k
get_behind [] ys k = let e : 0 + k ≡ k = omega arith in ap (slice_get ys) e
get_behind (x ∷ xs) ys k = let e : suc (length xs) + k ≡ suc (length xs + k) = omega arith in ap (slice_get (x ∷ (xs ++ ys))) e ∙ get_behind xs ys k

pub get_front : {X : Type 0} (xs ys : List X) (k : ℕ) → k < length xs → slice_get (xs ++ ys) k ≡ slice_get xs k
get_front [] ys k l = absurd (omega arith)
get_front (x ∷ xs) ys zero l = refl
get_front (x ∷ xs) ys (suc k) l = get_front xs ys k (omega arith)

pub row_of_unit : (raw : List RawUnit) (n : ℕ) (x : UnitOfCode) (t : UnitThere (rows_of raw) raw 0 n x) (i : ℕ) → x.first ≤ i → i < x.first + entry_count t.u
    → slice_get (rows_of raw) i ≡ slice_get (rows_in t.u t.unit x.first) (i - x.first)
row_of_unit raw n x t i low high =
    let here = rows_in t.u t.unit x.first in
    let len = rows_in-length t.u t.unit x.first in
    let many = t.many in
    let at : i ≡ length t.before + (i - x.first) = omega arith in
    ap (λ (w : List EntryRow). slice_get w i) t.rows ∙ ap (λ (k : ℕ). slice_get (t.before ++ (here ++ t.after)) k) at
    ∙ get_behind t.before (here ++ t.after) (i - x.first) ∙ get_front here t.after (i - x.first) (omega arith)

-- the root's row
abbrev root_row : RawUnit → ℕ → ℕ → EntryRow
root_row u unit first = record { entry = u.root; unit = unit; depth = 1; end = (behind (root_position first) u.below).before }

pub root_found : (raw : List RawUnit) (n : ℕ) (x : UnitOfCode) (t : UnitThere (rows_of raw) raw 0 n x) → slice_get (rows_of raw) x.first ≡ Some (root_row t.u t.unit x.first)
unfolding rows_below
root_found raw n x t =
    let some : x.first < x.first + entry_count t.u = omega arith in
    let none : x.first - x.first ≡ 0 = omega arith in
    row_of_unit raw n x t x.first (omega arith) some ∙ ap (slice_get (rows_in t.u t.unit x.first)) none

pub root_ends : (raw : List RawUnit) (n : ℕ) (x : UnitOfCode) (e : EntryOfCode) (t : UnitThere (rows_of raw) raw 0 n x) → slice_get (shown_entries raw) x.first ≡ Some e
    → e.end ≡ x.first + entry_count t.u
root_ends raw n x e t is =
    let same = row_is raw x.first e (root_row t.u t.unit x.first) is (root_found raw n x t) in
    let end = ap (λ (w : EntryOfCode). w.end) same in
    omega arith
