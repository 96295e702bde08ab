-- What entries import, row by row, and that the numbers are those of units.
use Rattle.std.proofs.Common.{◌≡◌, ◌≢◌, ◌⊎◌, ℕ, zero, suc, ◌+◌, ◌<◌, ◌≤◌, ◌==◌, Bool, true, false, List, [], ◌∷◌, ◌++◌, map, length, take, get_or, Some, slice_get, All, refl, sym, ap}
use Rattle.std.proofs.Common.{subst, ◌∙◌, inl, inr, ⊎_elim, arith, eq-eqb, if◌then◌else◌}
use Rattle.std.specs.Prelude.{Err, Ok, OnOk, Result, not}
use Rattle.std.specs.List.{flat_map}
use Rattle.std.proofs.lemmas.List.{append-nil, append_assoc, map-append}
use Rattle.std.proofs.Math.Seq.{take-suc}
use Rattle.std.proofs.lemmas.List.Concat.{flat_map-append}
use Rattle.dwz_model.specs.Lists.{In}
use Rattle.dwz_model.proofs.ListFacts.{got_index_or, got_map, in_cases}
use Rattle.dwz_model.proofs.Members.{in_map_from}
use Rattle.dwz_def_reading.specs.Units.{RawUnit, entries_in}
use Rattle.dwz_unit.proofs.RowsFound.{take_here, unit_there}
use Rattle.dwz_groups.specs.declared.groups.Edge.{Edge}
use Rattle.dwz_groups.specs.Groups.{grouped}
use Rattle.dwz_groups.proofs.MarkLemmas.{grouped_edge}
use Rattle.dwz_unit.specs.declared.rows.RawEntry.{RawEntry as EntryOfCode}
use Rattle.dwz_unit.specs.declared.rows.RawUnit.{RawUnit as UnitOfCode}
use Rattle.dwz_unit.specs.Rows.{EntryRow, entry_shown, shown_units}
use Rattle.dwz_imports.specs.Stored.{edge, is_some_number, named_parts, numbers_where, is_part_at, own_named, common_named, row_edges, row_imports, row_parts, unit_place}
use Rattle.dwz_imports.proofs.Grouped.{not_equal}
use Rattle.dwz_imports.proofs.Numbers.{where_below}

if_no : {X : Type 0} (b : Bool) (xs : List X) → b ≡ false → (if b then xs else []) ≡ []
if_no true xs e = absurd cc
if_no false xs e = refl

if_yes : {X : Type 0} (b : Bool) (xs : List X) → b ≡ true → (if b then xs else []) ≡ xs
if_yes true xs e = refl
if_yes false xs e = absurd cc

pub place_of_unit : (raw : List RawUnit) (n : ℕ) (x : UnitOfCode) → slice_get (shown_units raw) n ≡ Some x → x.at ≡ unit_place raw n
place_of_unit raw n x e =
    let t = unit_there raw 0 n x e in
    ap (λ (w : UnitOfCode). w.at) (sym t.3) ∙ sym (got_index_or (map (λ (u : RawUnit). u.at) raw) n t.0.at 0 (got_map (λ (u : RawUnit). u.at) raw n t.0 t.1))

module _ (own common : List RawUnit) (row : EntryRow) (e : EntryOfCode) (shown : entry_shown row ≡ e) where
  parts_none : e.tag ≢ 0x3d → row_parts own common row ≡ []
  parts_none ne = if_no (row.entry.tag == 0x3d) (named_parts own common (unit_place own row.unit) row.entry.attrs)
      (not_equal row.entry.tag 0x3d (λ x. ne (ap (λ (w : EntryOfCode). w.tag) (sym shown) ∙ x)))

  pub other_flag : e.tag ≢ 0x3d → (old new : List Bool) → new ≡ old ++ false ∷ [] → new ≡ old ++ row_imports own common row ∷ []
  other_flag ne old new put = put ∙ ap (λ (ns : List ℕ). old ++ is_some_number ns ∷ []) (sym (parts_none ne))

  pub other_edges : e.tag ≢ 0x3d → (old : List Edge) → old ≡ old ++ row_edges own common row
  other_edges ne old = sym (ap (λ (es : List Edge). old ++ es) (none (row.depth == 2) ∙ refl) ∙ append-nil old) where
    none : (b : Bool) → (if b then map (edge row.unit) (row_parts own common row) else []) ≡ []
    none true = ap (map (edge row.unit)) (parts_none ne)
    none false = refl

  pub parts_are : (at : ℕ) (parts : List ℕ) → e.tag ≡ 0x3d → at ≡ unit_place own e.unit → parts ≡ named_parts own common at row.entry.attrs → parts ≡ row_parts own common row
  parts_are at parts tag place is =
      is ∙ ap (λ (k : ℕ). named_parts own common k row.entry.attrs) (place ∙ ap (λ (w : EntryOfCode). unit_place own w.unit) (sym shown))
      ∙ sym (if_yes (row.entry.tag == 0x3d) (named_parts own common (unit_place own row.unit) row.entry.attrs) (eq-eqb row.entry.tag 0x3d (ap (λ (w : EntryOfCode). w.tag) shown ∙ tag)))

  pub some_flag : (parts : List ℕ) (b : Bool) → parts ≡ row_parts own common row → b ≡ is_some_number parts → (old new : List Bool) → new ≡ old ++ b ∷ []
      → new ≡ old ++ row_imports own common row ∷ []
  some_flag parts b is some old new put = put ∙ ap (λ (x : Bool). old ++ x ∷ []) (some ∙ ap is_some_number is)

  pub entry_edges : (parts : List ℕ) (old new : List Edge) → parts ≡ row_parts own common row → new ≡ old ++ (if e.depth == 2 then map (edge e.unit) parts else [])
      → new ≡ old ++ row_edges own common row
  entry_edges parts old new is put =
      put ∙ (λ i. old ++ (if (ap (λ (w : EntryOfCode). w.depth) (sym shown) i) == 2 then map (edge (ap (λ (w : EntryOfCode). w.unit) (sym shown) i)) (is i) else []))

-- whether there is one
pub told : (ns : List ℕ) (b : Bool) → b ≡ (length ns == 0) → not b ≡ is_some_number ns
told [] b e = ap not e
told (n ∷ ns) b e = ap not (e ∙ not_equal (length (n ∷ ns)) 0 (λ x. omega (arith, x)))

pub whatever : {X E : Type 0} (r : Result X E) (P : Type 0) → P → OnOk r P
whatever (Ok x) P h = h
whatever (Err e) P h = tt

-- ---- row by row

module _ (own common : List RawUnit) (rows : List EntryRow) (i : ℕ) (row : EntryRow) (is : slice_get rows i ≡ Some row) where
  pub next_flag : (now new : List Bool) → now ≡ map (row_imports own common) (take i rows) → new ≡ now ++ row_imports own common row ∷ [] → new ≡ map (row_imports own common) (take (i + 1) rows)
  next_flag now new was put =
      put ∙ ap (λ (bs : List Bool). bs ++ row_imports own common row ∷ []) was ∙ sym (ap (map (row_imports own common)) (take_here rows i row is) ∙ map-append (row_imports own common) (take i rows)
      (row ∷ []))

  pub next_edges : (now new : List Edge) → now ≡ flat_map (row_edges own common) (take i rows) → new ≡ now ++ row_edges own common row → new ≡ flat_map (row_edges own common) (take (i + 1) rows)
  next_edges now new was put =
      put ∙ ap (λ (es : List Edge). es ++ row_edges own common row) was
      ∙ sym (ap (flat_map (row_edges own common)) (take_here rows i row is) ∙ flat_map-append (row_edges own common) (take i rows) (row ∷ [])
      ∙ ap (λ (es : List Edge). flat_map (row_edges own common) (take i rows) ++ es) (append-nil (row_edges own common row)))

-- ---- part by part

pub parts_next : (unit : ℕ) (parts : List ℕ) (i : ℕ) (old now new : List Edge) (x : ℕ) → i < length parts → x ≡ get_or parts i 0 → now ≡ old ++ map (edge unit) (take i parts)
    → new ≡ now ++ edge unit x ∷ [] → new ≡ old ++ map (edge unit) (take (i + 1) parts)
parts_next unit parts i old now new x l is was put =
    let e : i + 1 ≡ suc i = omega arith in
    let more : take (i + 1) parts ≡ take i parts ++ x ∷ [] = ap (λ (k : ℕ). take k parts) e ∙ take-suc parts i 0 l ∙ ap (λ (k : ℕ). take i parts ++ k ∷ []) (sym is) in
    put ∙ ap (λ (es : List Edge). es ++ edge unit x ∷ []) was ∙ append_assoc old (map (edge unit) (take i parts)) (edge unit x ∷ [])
    ∙ ap (λ (es : List Edge). old ++ es) (sym (ap (map (edge unit)) more ∙ map-append (edge unit) (take i parts) (x ∷ [])))

-- ---- numbers of units

pub all_in : {X : Type 0} (P : X → Type 0) (xs : List X) → ((x : X) → In x xs → P x) → All P xs
all_in P [] h k d l = absurd (omega (arith, l))
all_in P (x ∷ xs) h zero d l = h x (inl refl)
all_in P (x ∷ xs) h (suc k) d l = all_in P xs (λ y is. h y (inr is)) k d (omega (arith, l))

part_low : (own common : List RawUnit) (row : EntryRow) (n : ℕ) → In n (row_parts own common row) → n < length own + length common
part_low own common row n h = by (row.entry.tag == 0x3d) h where
  p : RawUnit → Bool
  p = is_part_at (flat_map (own_named (unit_place own row.unit)) row.entry.attrs)

  q : RawUnit → Bool
  q = is_part_at (flat_map common_named row.entry.attrs)

  by : (b : Bool) → In n (if b then named_parts own common (unit_place own row.unit) row.entry.attrs else []) → n < length own + length common
  by false k = absurd k
  by true k = ⊎_elim
      (λ a. (let l = where_below (is_part_at (flat_map (own_named (unit_place own row.unit)) row.entry.attrs)) 0 own n a in omega (arith, l)))
      (λ b. where_below (is_part_at (flat_map common_named row.entry.attrs)) (length own) common n b)
      (in_cases n (numbers_where (is_part_at (flat_map (own_named (unit_place own row.unit)) row.entry.attrs)) 0 own) (numbers_where (is_part_at (flat_map common_named row.entry.attrs))
      (length own) common) k)

-- where an edge comes from
pub record FromRow (own common : List RawUnit) (rows : List EntryRow) (p : Edge) : Type 0 where
  pub row : EntryRow
  pub there : In row rows
  pub part : ℕ
  pub in_parts : In part (row_parts own common row)
  pub is : edge row.unit part ≡ p

pub from_rows : (own common : List RawUnit) (rows : List EntryRow) (p : Edge) → In p (flat_map (row_edges own common) rows) → FromRow own common rows p
from_rows own common [] p h = absurd h
from_rows own common (row ∷ rows) p h = by (in_cases p (row_edges own common row) (flat_map (row_edges own common) rows) h) (from_rows own common rows p) where
  here : (b : Bool) → In p (if b then map (edge row.unit) (row_parts own common row) else []) → FromRow own common (row ∷ rows) p
  here false a = absurd a
  here true a = let o = in_map_from (edge row.unit) p (row_parts own common row) a in record { row = row; there = inl refl; part = o.source; in_parts = o.there; is = o.is }

  by : In p (row_edges own common row) ⊎ In p (flat_map (row_edges own common) rows) → (In p (flat_map (row_edges own common) rows) → FromRow own common rows p) → FromRow own common (row ∷ rows) p
  by (inl a) more = here (row.depth == 2) a
  by (inr b) more = let o = more b in record { row = o.row; there = inr o.there; part = o.part; in_parts = o.in_parts; is = o.is }

pub edges_low : (own common : List RawUnit) (rows : List EntryRow) → ((row : EntryRow) → In row rows → row.unit < length own) → All (λ (p : Edge). p.key < length own) (flat_map
    (row_edges own common) rows)
edges_low own common rows units = all_in (λ (p : Edge). p.key < length own) (flat_map (row_edges own common) rows) (λ p h.
    let o = from_rows own common rows p h in subst (λ (k : ℕ). k < length own) (ap (λ (q : Edge). q.key) o.is) (units o.row o.there))

pub groups_low : (own common : List RawUnit) (rows : List EntryRow) (count n : ℕ) → count ≡ length own + length common
    → All (λ (list : List ℕ). All (λ k. k < count) list) (grouped n (flat_map (row_edges own common) rows))
groups_low own common rows count n e m d l = all_in (λ k. k < count) (get_or (grouped n pairs) m d) (λ k h.
    let o = from_rows own common rows _ (grouped_edge n m k pairs (subst (λ (ns : List ℕ). In k ns) (default d [] (grouped n pairs) m l) h)) in
    let low = part_low own common o.row o.part o.in_parts in
    let value = ap (λ (q : Edge). q.value) o.is in
    omega (arith, low, value, e))
  where
    pairs : List Edge
    pairs = flat_map (row_edges own common) rows

    default : (a b : List ℕ) (xs : List (List ℕ)) (k : ℕ) → k < length xs → get_or xs k a ≡ get_or xs k b
    default a b [] k lt = absurd (omega (arith, lt))
    default a b (x ∷ xs) zero lt = refl
    default a b (x ∷ xs) (suc k) lt = default a b xs k (omega (arith, lt))

-- a unit has an entry
pub units_few : (raw : List RawUnit) → length raw ≤ entries_in raw
unfolding entries_in
units_few [] = omega arith
units_few (u ∷ raw) = let more = units_few raw in omega (arith, more)
