-- Rows of units and entries: what is found by a number, and what is left behind it.
use Rattle.std.proofs.Common.{◌≡◌, ℕ, zero, suc, ◌+◌, ◌<◌, ◌≤◌, Bool, true, false, List, [], ◌∷◌, ◌++◌, ◌&&◌, length, drop, take, map, Option, Some, slice_get, refl, sym, ap, ◌∙◌, arith}
use Rattle.std.specs.List.{flat_map, list_all}
use Rattle.std.specs.Option.{option_and_then}
use Rattle.std.proofs.lemmas.List.{append-nil, drop_all}
use Rattle.std.proofs.lemmas.List.Concat.{flat_map-append}
use Rattle.std.proofs.lemmas.Option.{slice_get-map}
use Rattle.dwz_def_reading.specs.Entries.{RawAttr}
use Rattle.dwz_def_reading.specs.Units.{RawUnit, entries_in, entry_count}
use Rattle.dwz_def_reading.proofs.ListFacts.{drop_here, got_there}
use Rattle.dwz_def_reading.proofs.TextLemmas.{mapped}
use Rattle.dwz_unit.specs.declared.rows.RawEntry.{RawEntry as EntryOfCode}
use Rattle.dwz_unit.specs.declared.rows.RawUnit.{RawUnit as UnitOfCode}
use Rattle.dwz_unit.specs.Rows.{EntryRow, attr_of, entry_shown, rows_of, shown_entries, shown_from, unit_shown}
use Rattle.dwz_unit.proofs.ShownLemmas.{rows_from-length}

-- ---- what is left behind an item

all_here : {X : Type 0} (p : X → Bool) (xs : List X) (i : ℕ) (x : X) → slice_get xs i ≡ Some x → list_all p (drop i xs) ≡ (p x && list_all p (drop (i + 1) xs))
all_here p xs i x e = ap (list_all p) (drop_here xs i x e)

-- all pass the test up to some item, and that one too
pub all_more : {X : Type 0} (p : X → Bool) (xs : List X) (i : ℕ) (x : X) → slice_get xs i ≡ Some x → p x ≡ true → list_all p xs ≡ list_all p (drop i xs) → list_all p xs ≡ list_all p (drop (i + 1) xs)
all_more p xs i x e t so = so ∙ all_here p xs i x e ∙ ap (λ (b : Bool). b && list_all p (drop (i + 1) xs)) t

-- that one doesn't
pub all_fails : {X : Type 0} (p : X → Bool) (xs : List X) (i : ℕ) (x : X) → slice_get xs i ≡ Some x → p x ≡ false → list_all p xs ≡ list_all p (drop i xs) → false ≡ list_all p xs
all_fails p xs i x e f so = sym (so ∙ all_here p xs i x e ∙ ap (λ (b : Bool). b && list_all p (drop (i + 1) xs)) f)

-- there is no other
pub all_done : {X : Type 0} (p : X → Bool) (xs : List X) (i : ℕ) → length xs ≤ i → list_all p xs ≡ list_all p (drop i xs) → true ≡ list_all p xs
all_done p xs i le so = sym (so ∙ ap (list_all p) (drop_all i xs le))

-- ---- what is found by a number

pub found_in_map : {X Y : Type 0} (f : X → Y) (xs : List X) (i : ℕ) (y : Y) → slice_get (map f xs) i ≡ Some y → (x : X) × (slice_get xs i ≡ Some x) × (f x ≡ y)
found_in_map f xs i y e = mapped f (slice_get xs i) y (sym (slice_get-map f xs i) ∙ e)

-- the row of an entry that is shown
pub entry_row : (units : List RawUnit) (i : ℕ) (e : EntryOfCode) → slice_get (shown_entries units) i ≡ Some e → (row : EntryRow) × (slice_get (rows_of units) i ≡ Some row) × (entry_shown row ≡ e)
entry_row units i e is = found_in_map entry_shown (rows_of units) i e is

-- there are as many rows as entries
pub rows-length : (units : List RawUnit) → length (rows_of units) ≡ entries_in units
rows-length units = rows_from-length units 0 0

pub row_there : (units : List RawUnit) (i : ℕ) → i < entries_in units → (row : EntryRow) × (slice_get (rows_of units) i ≡ Some row)
row_there units i lt = got_there (rows_of units) i (omega (arith, rows-length units))

-- the value of the row that is found
pub attr_there : (units : List RawUnit) (i k : ℕ) (row : EntryRow) (a : RawAttr) → slice_get (rows_of units) i ≡ Some row → attr_of units i k ≡ Some a → slice_get row.entry.attrs k ≡ Some a
attr_there units i k row a r e = ap (λ (o : Option EntryRow). option_and_then (λ (x : EntryRow). slice_get x.entry.attrs k) o) (sym r) ∙ e

-- the unit that is shown
pub unit_there : (units : List RawUnit) (first n : ℕ) (x : UnitOfCode) → slice_get (shown_from units first) n ≡ Some x → (u : RawUnit) × (slice_get units n ≡ Some u) × (at : ℕ) × (unit_shown at u ≡ x)
unfolding shown_from
unit_there [] first n x e = absurd cc
unit_there (u ∷ units) first zero x e = (u, refl, first, (let is : unit_shown first u ≡ x = cc in is))
unit_there (u ∷ units) first (suc n) x e = unit_there units (first + entry_count u) n x e

-- what is shown of a row is the entry that is found
pub row_is : (units : List RawUnit) (i : ℕ) (e : EntryOfCode) (row : EntryRow) → slice_get (shown_entries units) i ≡ Some e → slice_get (rows_of units) i ≡ Some row → entry_shown row ≡ e
row_is units i e row is found =
    let r = entry_row units i e is in
    let both : Some row ≡ Some r.0 = sym found ∙ r.1 in
    let one : row ≡ r.0 = cc in
    ap entry_shown one ∙ r.2

-- one item more of a list's first ones
pub take_here : {X : Type 0} (xs : List X) (i : ℕ) (x : X) → slice_get xs i ≡ Some x → take (i + 1) xs ≡ take i xs ++ x ∷ []
take_here [] i x e = absurd cc
take_here {X} (y ∷ xs) zero x e = let is : y ≡ x = cc in ap (λ (w : X). w ∷ []) is
take_here {X} (y ∷ xs) (suc i) x e =
    let one : suc i + 1 ≡ suc (i + 1) = omega arith in
    ap (λ (n : ℕ). take n (y ∷ xs)) one ∙ ap (λ (w : List X). y ∷ w) (take_here xs i x e)

-- what is made of them
pub flat_here : {X : Type 0} (f : X → List ℕ) (xs : List X) (i : ℕ) (x : X) → slice_get xs i ≡ Some x → flat_map f (take (i + 1) xs) ≡ flat_map f (take i xs) ++ f x
flat_here {X} f xs i x e = ap (flat_map f) (take_here xs i x e) ∙ flat_map-append f (take i xs) (x ∷ []) ∙ ap (λ (w : List ℕ). flat_map f (take i xs) ++ w) (append-nil (f x))
