-- The rows of an entry by its number: by induction over sibling lists and over units.
use Rattle.std.proofs.Common.{◌≡◌, ℕ, zero, suc, ◌+◌, List, [], ◌∷◌, ◌++◌, length, drop, Ok, Some, slice_get, inl, inr, refl, sym, ap, subst, ◌∙◌, arith}
use Rattle.std.proofs.lemmas.List.{append-nil, append_assoc, length-append}
use Rattle.dwz_def_reading.specs.Documents.{DwUnit, Entries}
use Rattle.dwz_def_reading.specs.Entries.{RawEntry, root_position}
use Rattle.dwz_def_reading.specs.Meanings.{Around, MeanUnits, MeaningContext, scope_of}
use Rattle.dwz_def_reading.specs.Meant.{entries_meaning}
use Rattle.dwz_def_reading.specs.Trees.{End, Entry, Forest, Position, behind, first_below, size}
use Rattle.dwz_def_reading.specs.Units.{RawUnit, entry_count}
use Rattle.dwz_def_reading.proofs.ListFacts.{drop_first}
use Rattle.dwz_def_reading.proofs.MeaningUnits.{entries_agree, units_agree}
use Rattle.dwz_unit.specs.Rows.{EntryRow, rows_below, rows_from, rows_in, rows_of}
use Rattle.dwz_unit.proofs.RowLemmas.{shown-length}
use Rattle.dwz_graph.proofs.ListMeans.{means_size}
use Rattle.dwz_graph.proofs.TopLemmas.{get_cases}
use Rattle.dwz_graph.proofs.TopThere.{alone_means, left_behind}
use Rattle.dwz_graph.proofs.TreeLemmas.{no_more, parts, same_size}
use Rattle.dwz_check_index.specs.EntryRows.{EntryRowLaw, IsEntryRow}
use Rattle.dwz_check_index.specs.Index.{ListedEntry, listed, listed_units}

listed_many : (g : Entries ℕ) → length (listed g) ≡ size g
unfolding listed
listed_many End = refl
listed_many (Entry d c n) = omega (arith, length-append (listed c) (listed n), listed_many c, listed_many n)

-- from that number on stand the rows of one entry, and they mean this one
record Stands (s : MeaningContext ℕ) (rows : List EntryRow) (unit i : ℕ) (d : ListedEntry ℕ) : Type 0 where
  e : RawEntry
  c : Forest RawEntry
  p : Position
  after : List EntryRow
  at : p.before ≡ i
  rows_are : drop i rows ≡ rows_below (Entry e c End) unit p ++ after
  means : entries_meaning s (Entry e c End) ≡ Ok (Entry d.0 d.1 End)

module _ (s : MeaningContext ℕ) (rows : List EntryRow) (unit : ℕ) where
  stands_to : (m n : ℕ) (d : ListedEntry ℕ) → m ≡ n → Stands s rows unit m d → Stands s rows unit n d
  stands_to m n d e h = subst (λ (k : ℕ). Stands s rows unit k d) e h

  alone_rows : (e : RawEntry) (c n : Forest RawEntry) (p : Position) (after : List EntryRow)
      → rows_below (Entry e c n) unit p ++ after ≡ rows_below (Entry e c End) unit p ++ (rows_below n unit (behind p c) ++ after)
  unfolding rows_below
  alone_rows e c n p after =
      let row : EntryRow = record { entry = e; unit = unit; depth = p.depth; end = (behind p c).before } in
      let inside = rows_below c unit (first_below p) in
      let others = rows_below n unit (behind p c) in
      ap (λ (w : List EntryRow). row ∷ w) (append_assoc inside others after ∙ ap (λ (w : List EntryRow). w ++ (others ++ after)) (sym (append-nil inside)))

  below_rows : (e : RawEntry) (c n : Forest RawEntry) (p : Position) (after : List EntryRow) → drop p.before rows ≡ rows_below (Entry e c n) unit p ++ after
      → drop (first_below p).before rows ≡ rows_below c unit (first_below p) ++ (rows_below n unit (behind p c) ++ after)
  unfolding rows_below
  below_rows e c n p after h =
      let row : EntryRow = record { entry = e; unit = unit; depth = p.depth; end = (behind p c).before } in
      let inside = rows_below c unit (first_below p) in
      let others = rows_below n unit (behind p c) in
      (drop_first rows p.before row ((inside ++ others) ++ after) h).1 ∙ append_assoc inside others after

  later_rows : (e : RawEntry) (c n : Forest RawEntry) (p : Position) (after : List EntryRow) → drop p.before rows ≡ rows_below (Entry e c n) unit p ++ after
      → drop (behind p c).before rows ≡ rows_below n unit (behind p c) ++ after
  later_rows e c n p after h =
      left_behind rows (p.before + 1) (behind p c).before (rows_below c unit (first_below p)) (rows_below n unit (behind p c) ++ after) (below_rows e c n p after h)
      (omega (arith, shown-length c unit (first_below p)))

  list_stands : (f : Forest RawEntry) (g : Entries ℕ) (from : Position) (after : List EntryRow) → entries_meaning s f ≡ Ok g → drop from.before rows ≡ rows_below f unit from ++ after
      → (k : ℕ) (d : ListedEntry ℕ) → slice_get (listed g) k ≡ Some d → Stands s rows unit (from.before + k) d
  unfolding listed
  list_stands End g from after means h k d found =
      absurd (let none : slice_get (listed {P = ℕ} End) k ≡ Some d = ap (λ (w : Entries ℕ). slice_get (listed w) k) (no_more s g means) ∙ found in cc)
  list_stands (Entry e c n) g from after means h k d found =
      let x = parts s e c n g means in
      by k (ap (λ (w : Entries ℕ). slice_get (listed w) k) x.is ∙ found)
      (λ j is. list_stands c x.below (first_below from) (rows_below n unit (behind from c) ++ after) x.of_below (below_rows e c n from after h) j d is)
      (λ j is. list_stands n x.next (behind from c) after x.of_next (later_rows e c n from after h) j d is)
    where
      by : (k : ℕ) → slice_get (listed (Entry (parts s e c n g means).d (parts s e c n g means).below (parts s e c n g means).next)) k ≡ Some d
          → ((j : ℕ) → slice_get (listed (parts s e c n g means).below) j ≡ Some d → Stands s rows unit ((first_below from).before + j) d)
          → ((j : ℕ) → slice_get (listed (parts s e c n g means).next) j ≡ Some d → Stands s rows unit ((behind from c).before + j) d)
          → Stands s rows unit (from.before + k) d
      by zero is inside later =
          let x = parts s e c n g means in
          let same : (x.d, x.below) ≡ d = cc in
          let none : from.before ≡ from.before + 0 = omega arith in
          stands_to from.before (from.before + 0) d none
          (record {
            e = e;
            c = c;
            p = from;
            after = rows_below n unit (behind from c) ++ after;
            at = refl;
            rows_are = h ∙ alone_rows e c n from after;
            means = alone_means s e c x.d x.below x.node x.of_below ∙ ap (λ (w : ListedEntry ℕ). Ok (Entry w.0 w.1 End)) same;
          })
      by (suc j) is inside later =
          let x = parts s e c n g means in
          elim (get_cases (listed x.below) (listed x.next) j d is) [
            | inl a ↦ stands_to ((first_below from).before + j) (from.before + suc j) d (omega arith) (inside j a)
            | inr b ↦
                let many = listed_many x.below in
                let same = same_size s c x.below x.of_below in
                let at = b.1 in
                stands_to ((behind from c).before + b.0) (from.before + suc j) d (omega arith) (later b.0 b.2)
          ]

-- ---- unit by unit

module _ (around : Around ℕ) (raw : List RawUnit) where
  row_of : (number : ℕ) (u : RawUnit) (i : ℕ) (d : ListedEntry ℕ) → slice_get raw number ≡ Some u → Stands (scope_of around u) (rows_of raw) number i d → IsEntryRow around raw i d
  row_of number u i d is h = record { number = number; unit = u; is_unit = is; e = h.e; c = h.c; p = h.p; after = h.after; at = h.at; rows = h.rows_are; means = h.means }

  units_stand : (number before : ℕ) (us : List RawUnit) (vs : List (DwUnit ℕ)) → MeanUnits around us vs → drop number raw ≡ us → drop before (rows_of raw) ≡ rows_from us number before
      → (k : ℕ) (d : ListedEntry ℕ) → slice_get (listed_units vs) k ≡ Some d → IsEntryRow around raw (before + k) d
  unfolding rows_from listed listed_units
  units_stand number before [] [] h at rows k d found = absurd cc
  units_stand number before [] (v ∷ vs) h at rows k d found = absurd h
  units_stand number before (u ∷ us) [] h at rows k d found = absurd h
  units_stand number before (u ∷ us) (v ∷ vs) h at rows k d found =
      let s = scope_of around u in
      let here = drop_first raw number u us at in
      let means : entries_meaning s (Entry u.root u.below End) ≡ Ok (Entry v.root v.below End) = ((entries_agree s (Entry u.root u.below End)).ok (Entry v.root v.below End)).1 (h.0.root, h.0.below, tt) in
      let own = listed (Entry v.root v.below End) in
      let alone : own ++ listed_units vs ≡ listed_units (v ∷ vs) = ap (λ (w : List (ListedEntry ℕ)). ((v.root, v.below) ∷ w) ++ listed_units vs) (append-nil (listed v.below)) in
      let many = listed_many (Entry v.root v.below End) in
      let same = means_size s u.below v.below h.0.below in
      let long = shown-length (Entry u.root u.below End) number (root_position before) in
      elim (get_cases own (listed_units vs) k d (ap (λ (w : List (ListedEntry ℕ)). slice_get w k) alone ∙ found)) [
        | inl a ↦ row_of number u (before + k) d here.0
            (list_stands s (rows_of raw) number (Entry u.root u.below End) (Entry v.root v.below End) (root_position before) (rows_from us (number + 1) (before + entry_count u)) means rows k d a)
        | inr b ↦
            let is = b.1 in
            let next : before + entry_count u + b.0 ≡ before + k = omega arith in
            subst (λ (i : ℕ). IsEntryRow around raw i d) next
            (units_stand (number + 1) (before + entry_count u) us vs h.1 here.1
            (left_behind (rows_of raw) before (before + entry_count u) (rows_in u number before) (rows_from us (number + 1) (before + entry_count u)) rows (omega arith)) b.0 d b.2)
      ]

pub entry_rows : EntryRowLaw
entry_rows around raw said means i d found =
    let none : 0 + i ≡ i = omega arith in
    subst (λ (k : ℕ). IsEntryRow around raw k d) none (units_stand around raw 0 0 raw said (((units_agree around raw).ok said).0 means) refl refl i d found)
