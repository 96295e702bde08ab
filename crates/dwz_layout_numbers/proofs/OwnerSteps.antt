-- The owner of one entry, and those of entries one after the other.
use Rattle.std.proofs.Common.{◌≡◌, ℕ, zero, suc, ◌+◌, ◌<◌, ◌≤◌, List, [], ◌∷◌, ◌++◌, length, map, get_or, take, Option, Some, slice_get, sym, ap, subst, ◌∙◌, arith}
use Rattle.std.specs.Prelude.{slice_index_or}
use Rattle.std.proofs.lemmas.List.{append-nil, append_assoc, map-append, take_all, take_more}
use Rattle.dwz_def_reading.specs.Units.{RawUnit, entries_in}
use Rattle.dwz_def_reading.proofs.ListFacts.{got_there}
use Rattle.dwz_unit.specs.declared.rows.RawEntry.{RawEntry as EntryOfCode}
use Rattle.dwz_unit.specs.Rows.{EntryRow, rows_of, shown_entries}
use Rattle.dwz_unit.proofs.RowsFound.{row_is, rows-length}
use Rattle.dwz_def_tops.specs.Spots.{EntryName}
use Rattle.dwz_graph.specs.Index.{Index, IsIndex}
use Rattle.dwz_graph.specs.Names.{top_in}
use Rattle.dwz_plan.specs.Planned.{Planned}
use Rattle.dwz_layout_numbers.specs.declared.owners.Owned.{Owned}
use Rattle.dwz_layout_numbers.specs.Owned.{IsOwned}
use Rattle.dwz_layout_numbers.specs.Owners.{AddsOwners, AreOwners, owner_by}

pub got_or : (xs : List ℕ) (i n d : ℕ) → slice_get xs i ≡ Some n → slice_index_or xs i d ≡ n
got_or [] i n d e = absurd cc
got_or (x ∷ xs) zero n d e = cc
got_or (x ∷ xs) (suc i) n d e = got_or xs i n d e

-- ---- one entry

-- that of its unit and its top
pub owned_is : (plan : Planned) (parts olds : List ℕ) (first : ℕ) (raw : List RawUnit) (i : ℕ) (x : EntryOfCode) (o : Owned) (s : EntryName) (row : EntryRow) (kept : ℕ) (top : Option ℕ)
    → IsOwned plan parts olds first o → o.unit ≡ x.unit → o.top ≡ top → slice_get (shown_entries raw) i ≡ Some x → top ≡ top_in s → slice_get (rows_of raw) i ≡ Some row
    → slice_get olds (first + row.unit) ≡ Some kept → o.number ≡ owner_by plan parts kept (top_in s)
owned_is plan parts olds first raw i x o s row kept top is unit tops shown in_top got old =
    let same : row.unit ≡ o.unit = ap (λ (w : EntryOfCode). w.unit) (row_is raw i x row shown got) ∙ sym unit in
    is kept (ap (λ (n : ℕ). slice_get olds (first + n)) (sym same) ∙ old) ∙ ap (owner_by plan parts kept) (tops ∙ in_top)

-- ---- one after the other

pub got : {X : Type 0} (xs : List X) (i : ℕ) (x : X) → slice_get xs i ≡ Some x → get_or xs i x ≡ x
got [] i x e = absurd cc
got (y ∷ xs) zero x e = cc
got (y ∷ xs) (suc i) x e = got xs i x e

taken : {X : Type 0} (xs : List X) (i : ℕ) (x : X) → i < length xs → slice_get xs i ≡ Some x → take (i + 1) xs ≡ take i xs ++ x ∷ []
taken {X} xs i x lt e = take_more xs i x lt ∙ ap (λ (w : X). take i xs ++ w ∷ []) (got xs i x e)

abbrev Owns : Planned → List ℕ → List ℕ → ℕ → EntryRow → EntryName → ℕ → Type 0
Owns plan parts olds unit row s owner = (kept : ℕ) → slice_get olds (unit + row.unit) ≡ Some kept → owner ≡ owner_by plan parts kept (top_in s)

module _ (plan : Planned) (parts olds : List ℕ) (unit : ℕ) where
  append : (rows : List EntryRow) (names : List EntryName) (owners : List ℕ) (row : EntryRow) (s : EntryName) (owner : ℕ) → AreOwners plan parts olds unit rows names owners
      → Owns plan parts olds unit row s owner
      → AreOwners plan parts olds unit (rows ++ row ∷ []) (names ++ s ∷ []) (owners ++ owner ∷ [])
  append [] [] [] row s owner h k = (k, tt)
  append [] [] (o ∷ owners) row s owner h k = absurd h
  append [] (n ∷ names) owners row s owner h k = absurd h
  append (r ∷ rows) [] owners row s owner h k = absurd h
  append (r ∷ rows) (n ∷ names) [] row s owner h k = absurd h
  append (r ∷ rows) (n ∷ names) (o ∷ owners) row s owner h k = (h.0, append rows names owners row s owner h.1 k)

  pub adds_none : (rows : List EntryRow) (names : List EntryName) (old : List ℕ) → AddsOwners plan parts olds unit (take 0 rows) (take 0 names) old old
  adds_none rows names old = record { more = []; is = sym (append-nil old); are = tt }

  pub adds_more : (raw : List RawUnit) (names : List EntryName) (x : Index) (old mid new : List ℕ) (i owner : ℕ) → IsIndex names x → length x.steps ≡ entries_in raw → i < entries_in raw
      → AddsOwners plan parts olds unit (take i (rows_of raw)) (take i names) old mid
      → ((s : EntryName) (row : EntryRow) (kept : ℕ) → slice_get names i ≡ Some s → slice_get (rows_of raw) i ≡ Some row → slice_get olds (unit + row.unit) ≡ Some kept
      → owner ≡ owner_by plan parts kept (top_in s)) → new ≡ mid ++ owner ∷ []
      → AddsOwners plan parts olds unit (take (i + 1) (rows_of raw)) (take (i + 1) names) old new
  adds_more raw names x old mid new i owner index many lt h one is =
      let rows = rows_of raw in
      let long = rows-length raw in
      let len = index.len in
      let low : i < length rows = omega (arith, long, lt) in
      let less : i < length names = omega (arith, len, many, lt) in
      let r = got_there rows i low in
      let s = got_there names i less in
      subst (λ (w : List EntryRow). AddsOwners plan parts olds unit w (take (i + 1) names) old new) (sym (taken rows i r.0 low r.1))
      (subst (λ (w : List EntryName). AddsOwners plan parts olds unit (take i rows ++ r.0 ∷ []) w old new) (sym (taken names i s.0 less s.1))
      (record {
        more = h.more ++ owner ∷ [];
        is = is ∙ ap (λ (w : List ℕ). w ++ owner ∷ []) h.is ∙ append_assoc old h.more (owner ∷ []);
        are = append (take i rows) (take i names) h.more r.0 s.0 owner h.are (λ kept. one s.0 r.0 kept s.1 r.1);
      }))

  pub adds_all : (raw : List RawUnit) (names : List EntryName) (x : Index) (old new : List ℕ) (i : ℕ) → IsIndex names x → length x.steps ≡ entries_in raw → entries_in raw ≤ i
      → AddsOwners plan parts olds unit (take i (rows_of raw)) (take i names) old new
      → AddsOwners plan parts olds unit (rows_of raw) names old new
  adds_all raw names x old new i index many le h =
      let rows = rows_of raw in
      let long = rows-length raw in
      let len = index.len in
      subst (λ (w : List EntryRow). AddsOwners plan parts olds unit w names old new) (take_all i rows (omega (arith, long, le)))
      (subst (λ (w : List EntryName). AddsOwners plan parts olds unit (take i rows) w old new) (take_all i names (omega (arith, len, many, le))) h)

-- ---- the units of entries

abbrev own_units : List EntryRow → List ℕ
own_units rows = map (λ (row : EntryRow). row.unit) rows

pub units_more : (raw : List RawUnit) (old mid new : List ℕ) (i : ℕ) (x : EntryOfCode) → i < entries_in raw → slice_get (shown_entries raw) i ≡ Some x
    → mid ≡ old ++ map (λ (row : EntryRow). row.unit) (take i (rows_of raw)) → new ≡ mid ++ x.unit ∷ [] → new ≡ old ++ map (λ (row : EntryRow). row.unit) (take (i + 1) (rows_of raw))
units_more raw old mid new i x lt shown was is =
    let rows = rows_of raw in
    let long = rows-length raw in
    let low : i < length rows = omega (arith, long, lt) in
    let r = got_there rows i low in
    let same : r.0.unit ≡ x.unit = ap (λ (w : EntryOfCode). w.unit) (row_is raw i x r.0 shown r.1) in
    is ∙ ap (λ (w : List ℕ). w ++ x.unit ∷ []) was ∙ append_assoc old (own_units (take i rows)) (x.unit ∷ [])
    ∙ ap (λ (w : List ℕ). old ++ w) (ap (λ (n : ℕ). own_units (take i rows) ++ n ∷ []) (sym same) ∙ sym (map-append (λ (row : EntryRow). row.unit) (take i rows) (r.0 ∷ []))
    ∙ ap own_units (sym (taken rows i r.0 low r.1)))

pub units_all : (raw : List RawUnit) (old new : List ℕ) (i : ℕ) → entries_in raw ≤ i → new ≡ old ++ map (λ (row : EntryRow). row.unit) (take i (rows_of raw))
    → new ≡ old ++ map (λ (row : EntryRow). row.unit) (rows_of raw)
units_all raw old new i le is = (let long = rows-length raw in is ∙ ap (λ (w : List EntryRow). old ++ own_units w) (take_all i (rows_of raw) (omega (arith, long, le))))
