-- The rows of the entries of a file, in step with the entries of the document that they mean.
use Rattle.std.proofs.Common.{◌≡◌, ℕ, zero, suc, ◌+◌, ◌<◌, ◌≤◌, ◌==◌, Bool, true, false, List, [], ◌∷◌, ◌++◌, length, drop, map, Some, slice_get, refl, sym, ap, subst, ◌∙◌, inl, inr, arith}
use Rattle.std.specs.Prelude.{cond, count_by, if◌then◌else◌, not}
use Rattle.std.specs.List.{filter}
use Rattle.std.proofs.lemmas.List.Sums.{length-filter}
use Rattle.std.proofs.lemmas.List.{append_assoc, drop_at, length-append}
use Rattle.dwz_def_reading.specs.Documents.{Attr, DwUnit, Entries}
use Rattle.dwz_def_reading.specs.Entries.{RawAttr, RawEntry, root_position}
use Rattle.dwz_def_reading.specs.Meanings.{Around, MeanAttrs, MeanEntries, MeanUnits, MeaningContext, scope_of, without_siblings}
use Rattle.dwz_def_reading.specs.Trees.{End, Entry, Forest, Position, behind, first_below, size}
use Rattle.dwz_def_reading.specs.Units.{RawUnit, entries_in, entry_count}
use Rattle.dwz_def_reading.proofs.ListFacts.{drop_first, got_below, same_got}
use Rattle.dwz_graph.proofs.ListLemmas.{drop_more}
use Rattle.dwz_graph.proofs.ListMeans.{means_size}
use Rattle.dwz_unit.proofs.RowsFound.{entry_row}
use Rattle.dwz_graph.proofs.TopLemmas.{get_cases}
use Rattle.dwz_unit.specs.Rows.{EntryRow, rows_below, rows_from, rows_in, rows_of, shown_entries}
use Rattle.dwz_unit.specs.declared.rows.RawEntry.{RawEntry as EntryOfCode}
use Rattle.dwz_model.specs.declared.place.Pair.{Pair}
use Rattle.dwz_unit.proofs.RowLemmas.{shown-length}
use Rattle.dwz_unit.proofs.ShownLemmas.{rows_in-length}
use Rattle.dwz_graph_view.specs.EntryRows.{HasChildren, HasSiblings, IsRowOf}
use Rattle.dwz_graph_view.specs.EntryViews.{EntrySpot, spots_below, spots_from}

-- ---- how many attributes

pub means_many : (s : MeaningContext ℕ) (raw : List RawAttr) (attrs : List (Attr ℕ)) → MeanAttrs s raw attrs → length attrs ≡ length raw
means_many s [] [] h = refl
means_many s [] (b ∷ attrs) h = absurd h
means_many s (a ∷ raw) [] h = absurd h
means_many s (a ∷ raw) (b ∷ attrs) h = ap suc (means_many s raw attrs h.1)

-- ---- how many entries

spots_long : (unit : ℕ) (g : Entries ℕ) → length (spots_below unit g) ≡ size g
unfolding spots_below
spots_long unit End = refl
spots_long unit (Entry d g o) = omega (arith, length-append (spots_below unit g) (spots_below unit o), spots_long unit g, spots_long unit o)

-- ---- what is behind a list

-- the first row behind it is of another unit, or stands higher
abbrev Beyond : ℕ → ℕ → List EntryRow → Type 0
Beyond unit depth [] = Unit {0}
Beyond unit depth (r ∷ rows) = r.unit ≡ unit → r.depth < depth

beyond_more : (unit depth : ℕ) (rows : List EntryRow) → Beyond unit depth rows → Beyond unit (depth + 1) rows
beyond_more unit depth [] h = tt
beyond_more unit depth (r ∷ rows) h = λ same. (let lt = h same in omega arith)

beyond_list : (unit : ℕ) (p : Position) (f : Forest RawEntry) (after : List EntryRow) → Beyond unit p.depth after → Beyond unit (p.depth + 1) (rows_below f unit p ++ after)
unfolding rows_below
beyond_list unit p End after h = beyond_more unit p.depth after h
beyond_list unit p (Entry x c l) after h = λ same. (omega arith)

beyond_units : (unit before : ℕ) (raw : List RawUnit) → Beyond unit 1 (rows_from raw (unit + 1) before)
unfolding rows_from rows_below
beyond_units unit before [] = tt
beyond_units unit before (u ∷ raw) = λ same. absurd (let e : unit + 1 ≡ unit = same in omega arith)

-- ---- in step

module _ (raw : List RawUnit) (around : Around ℕ) (first : ℕ) where
  abbrev rows : List EntryRow
  rows = rows_of raw

  -- the rows from that number on mean these entries
  abbrev pub InStep : ℕ → List EntrySpot → Type 0
  InStep i [] = Unit {0}
  InStep i (e ∷ spots) = IsRowOf raw around first i e × InStep (i + 1) spots

  step_append : (xs ys : List EntrySpot) (i j : ℕ) → j ≡ i + length xs → InStep i xs → InStep j ys → InStep i (xs ++ ys)
  step_append [] ys i j e h k = (let same : j ≡ i = omega arith in subst (λ (n : ℕ). InStep n ys) same k)
  step_append (x ∷ xs) ys i j e h k = (h.0, step_append xs ys (i + 1) j (omega arith) h.1 k)

  -- the row at a place
  head_is : (i : ℕ) (row r : EntryRow) (rest : List EntryRow) → drop i rows ≡ row ∷ rest → slice_get rows i ≡ Some r → row ≡ r
  head_is i row r rest e got = same_got rows i row r (drop_first rows i row rest e).0 got

  children_are : (s : MeaningContext ℕ) → ((n : ℕ) → s.around.place n ≡ n) → (i unit : ℕ) (p : Position) (row : EntryRow) (c : Forest RawEntry) (g : Entries ℕ) (after : List EntryRow) → MeanEntries s c g
      → row.end ≡ i + 1 + size c → drop (i + 1) rows ≡ rows_below c unit p ++ after
      → HasChildren rows i row g
  unfolding rows_below
  children_are s same i unit p row End End after h ends e = record { some = λ lt. absurd (omega arith); none = λ le. refl }
  children_are s same i unit p row End (Entry d g o) after h ends e = absurd h
  children_are s same i unit p row (Entry x c l) End after h ends e = absurd h
  children_are s same i unit p row (Entry x c l) (Entry d g o) after h ends e = record {
    some = λ lt r got. h.0.place ∙ same x.at ∙ ap (λ (w : EntryRow). w.entry.at) (head_is (i + 1) _ r _ e got);
    none = λ le. absurd (omega arith);
  }

  siblings_are : (s : MeaningContext ℕ) → ((n : ℕ) → s.around.place n ≡ n) → (unit : ℕ) (p : Position) (row : EntryRow) (l : Forest RawEntry) (o : Entries ℕ) (after : List EntryRow) → MeanEntries s l o
      → row.unit ≡ unit → row.depth ≡ p.depth → Beyond unit p.depth after → drop row.end rows ≡ rows_below l unit p ++ after → HasSiblings rows row o
  unfolding rows_below
  siblings_are s same unit p row End End [] h is deep far e = record {
    some = λ r got. absurd (let lt = got_below rows row.end r got in none row.end rows e lt);
    none = λ r got other. refl;
    last = λ le. refl;
  } where
    none : (i : ℕ) (xs : List EntryRow) → drop i xs ≡ [] → i < length xs → ⊥
    none zero [] e lt = omega arith
    none zero (x ∷ xs) e lt = cc
    none (suc i) [] e lt = omega arith
    none (suc i) (x ∷ xs) e lt = none i xs e (omega arith)
  siblings_are s same unit p row End End (a ∷ after) h is deep far e = record {
    some = λ r got of_unit of_depth. absurd (
        let one = head_is row.end a r after e got in
        let lt = far (ap (λ (w : EntryRow). w.unit) one ∙ of_unit ∙ is) in
        let depth = ap (λ (w : EntryRow). w.depth) one in
        omega arith);
    none = λ r got other. refl;
    last = λ le. refl;
  }
  siblings_are s same unit p row End (Entry d g o) after h is deep far e = absurd h
  siblings_are s same unit p row (Entry x c l) End after h is deep far e = absurd h
  siblings_are s same unit p row (Entry x c l) (Entry d g o) after h is deep far e = record {
    some = λ r got of_unit of_depth. h.0.place ∙ same x.at ∙ ap (λ (w : EntryRow). w.entry.at) (head_is row.end _ r _ e got);
    none = λ r got other. absurd (
        let one = head_is row.end _ r _ e got in
        other (sym (ap (λ (w : EntryRow). w.unit) one) ∙ sym is) (sym (ap (λ (w : EntryRow). w.depth) one) ∙ sym deep));
    last = λ le. absurd (let lt = got_below rows row.end _ (drop_first rows row.end _ _ e).0 in omega arith);
  }

  below_in_step : ((n : ℕ) → around.place n ≡ n) → (u : RawUnit) (f : Forest RawEntry) (g : Entries ℕ) (unit : ℕ) (p : Position) (after : List EntryRow) → slice_get raw unit ≡ Some u → MeanEntries (scope_of around u) f g
      → drop p.before rows ≡ rows_below f unit p ++ after → Beyond unit p.depth after
      → InStep p.before (spots_below (first + unit) g)
  unfolding rows_below spots_below
  below_in_step same u End End unit p after is h e far = tt
  below_in_step same u End (Entry d g o) unit p after is h e far = absurd h
  below_in_step same u (Entry x c l) End unit p after is h e far = absurd h
  below_in_step same u (Entry x c l) (Entry d g o) unit p after is h e far =
      let s : MeaningContext ℕ = scope_of around u in
      let i = p.before in
      let row : EntryRow = record { entry = x; unit = unit; depth = p.depth; end = i + 1 + size c } in
      let below = rows_below c unit (first_below p) in
      let others = rows_below l unit (behind p c) in
      let d = drop_first rows i row ((below ++ others) ++ after) e in
      let rest : drop (i + 1) rows ≡ below ++ (others ++ after) = d.1 ∙ append_assoc below others after in
      let len : length below ≡ size c = shown-length c unit (first_below p) in
      let back : drop (i + 1 + size c) rows ≡ others ++ after = drop_more rows (i + 1) (size c) ∙ ap (drop (size c)) rest ∙ drop_at below (others ++ after) (size c) len in
      let long = spots_long (first + unit) g in
      let sizes = means_size s c g h.1 in (
        record {
          row = row;
          found = d.0;
          unit_is = refl;
          at = h.0.place ∙ same x.at;
          tag_is = h.0.tag;
          u = u;
          is_unit = is;
          attrs_mean = h.0.attrs;
          children = children_are s same i unit (first_below p) row c g (others ++ after) h.1 refl rest;
          siblings = siblings_are s same unit (behind p c) row l o after h.2 refl refl far back;
        },
        step_append (spots_below (first + unit) g) (spots_below (first + unit) o) (i + 1) (i + 1 + size c) (omega arith)
            (below_in_step same u c g unit (first_below p) (others ++ after) is h.1 rest (beyond_list unit (behind p c) l after far))
            (below_in_step same u l o unit (behind p c) after is h.2 back far),
      )

  units_in_step : ((n : ℕ) → around.place n ≡ n) → (us : List RawUnit) (vs : List (DwUnit ℕ)) (unit before : ℕ) → drop unit raw ≡ us → MeanUnits around us vs → drop before rows ≡ rows_from us unit before
      → InStep before (spots_from (first + unit) vs)
  unfolding rows_from spots_from
  units_in_step same [] [] unit before own_units h e = tt
  units_in_step same [] (v ∷ vs) unit before own_units h e = absurd h
  units_in_step same (u ∷ us) [] unit before own_units h e = absurd h
  units_in_step same (u ∷ us) (v ∷ vs) unit before own_units h e =
      let here = drop_first raw unit u us own_units in
      let own = rows_in u unit before in
      let others = rows_from us (unit + 1) (before + entry_count u) in
      let s : MeaningContext ℕ = scope_of around u in
      let long = spots_long (first + unit) (Entry v.root v.below End) in
      let sizes = means_size s u.below v.below h.0.below in
      let one : first + (unit + 1) ≡ suc (first + unit) = omega arith in
      let back : drop (before + entry_count u) rows ≡ others = drop_more rows before (entry_count u) ∙ ap (drop (entry_count u)) e ∙ drop_at own others (entry_count u) (rows_in-length u unit before) in
      step_append (spots_below (first + unit) (Entry v.root v.below End)) (spots_from (suc (first + unit)) vs) before (before + entry_count u) (omega arith)
      (below_in_step same u (Entry u.root u.below End) (Entry v.root v.below End) unit (root_position before) others here.0 (h.0.root, h.0.below, tt) e (beyond_units unit (before + entry_count u) us))
      (subst (λ (n : ℕ). InStep (before + entry_count u) (spots_from n vs)) one (units_in_step same us vs (unit + 1) (before + entry_count u) here.1 h.1 back))

  -- ---- one by its number

  pub step_at : (spots : List EntrySpot) (i j : ℕ) (e : EntrySpot) → InStep i spots → slice_get spots j ≡ Some e → IsRowOf raw around first (i + j) e
  step_at [] i j e h got = absurd cc
  step_at (x ∷ spots) i zero e h got =
      let one : x ≡ e = cc in
      let same : i ≡ i + 0 = omega arith in
      subst (λ (w : EntrySpot). IsRowOf raw around first (i + 0) w) one (subst (λ (n : ℕ). IsRowOf raw around first n x) same h.0)
  step_at (x ∷ spots) i (suc j) e h got =
      let same : i + 1 + j ≡ i + suc j = omega arith in
      subst (λ (n : ℕ). IsRowOf raw around first n e) same (step_at spots (i + 1) j e h.1 got)

-- ---- of a file

pub all_in_step : (raw : List RawUnit) (around : Around ℕ) (first : ℕ) (vs : List (DwUnit ℕ)) → ((n : ℕ) → around.place n ≡ n) → MeanUnits around raw vs → InStep raw around first 0 (spots_from first vs)
all_in_step raw around first vs same h =
    let none : first + 0 ≡ first = omega arith in
    subst (λ (n : ℕ). InStep raw around first 0 (spots_from n vs)) none (units_in_step raw around first same raw vs 0 0 refl h refl)

pub all_long : (around : Around ℕ) (raw : List RawUnit) (vs : List (DwUnit ℕ)) (unit : ℕ) → MeanUnits around raw vs → length (spots_from unit vs) ≡ entries_in raw
unfolding spots_from entries_in
all_long around [] [] unit h = refl
all_long around [] (v ∷ vs) unit h = absurd h
all_long around (u ∷ raw) [] unit h = absurd h
all_long around (u ∷ raw) (v ∷ vs) unit h =
    let own = spots_below unit (Entry v.root v.below End) in
    let long = spots_long unit (Entry v.root v.below End) in
    let sizes = means_size (scope_of around u) u.below v.below h.0.below in
    let more = all_long around raw vs (suc unit) h.1 in
    let both = length-append own (spots_from (suc unit) vs) in
    omega arith

-- ---- a row ends behind it, among all

below_end : (f : Forest RawEntry) (unit : ℕ) (p : Position) (i : ℕ) (row : EntryRow) → slice_get (rows_below f unit p) i ≡ Some row → (p.before + i < row.end) × (row.end ≤ p.before + size f)
unfolding rows_below
below_end End unit p i row e = absurd cc
below_end (Entry x c l) unit p zero row e =
    let one : EntryRow = record { entry = x; unit = unit; depth = p.depth; end = (behind p c).before } in
    let same : one ≡ row = cc in
    let end = ap (λ (w : EntryRow). w.end) same in
    (omega arith, omega arith)
below_end (Entry x c l) unit p (suc i) row e =
    let len = shown-length c unit (first_below p) in
    elim (get_cases (rows_below c unit (first_below p)) (rows_below l unit (behind p c)) i row e) [
      | inl a ↦ (let r = below_end c unit (first_below p) i row a in let low = r.0 in let high = r.1 in (omega arith, omega arith))
      | inr b ↦ (let r = below_end l unit (behind p c) b.0 row b.2 in let at = b.1 in let low = r.0 in let high = r.1 in (omega arith, omega arith))
    ]

units_end : (raw : List RawUnit) (unit before i : ℕ) (row : EntryRow) → slice_get (rows_from raw unit before) i ≡ Some row → (before + i < row.end) × (row.end ≤ before + entries_in raw)
unfolding rows_from entries_in
units_end [] unit before i row e = absurd cc
units_end (u ∷ raw) unit before i row e =
    let len = rows_in-length u unit before in
    elim (get_cases (rows_in u unit before) (rows_from raw (unit + 1) (before + entry_count u)) i row e) [
      | inl a ↦ (let r = below_end (Entry u.root u.below End) unit (root_position before) i row a in let low = r.0 in let high = r.1 in (omega arith, omega arith))
      | inr b ↦ (let r = units_end raw (unit + 1) (before + entry_count u) b.0 row b.2 in let at = b.1 in let low = r.0 in let high = r.1 in (omega arith, omega arith))
    ]

pub row_end : (raw : List RawUnit) (i : ℕ) (row : EntryRow) → slice_get (rows_of raw) i ≡ Some row → (i < row.end) × (row.end ≤ entries_in raw)
row_end raw i row e = let r = units_end raw 0 0 i row e in let low = r.0 in let high = r.1 in (omega arith, omega arith)

-- the same, of an entry as it is shown
pub shown_end : (raw : List RawUnit) (i : ℕ) (x : EntryOfCode) → slice_get (shown_entries raw) i ≡ Some x → (i < x.end) × (x.end ≤ entries_in raw)
shown_end raw i x shown =
    let r = entry_row raw i x shown in
    let b = row_end raw i r.0 r.1 in
    let same = ap (λ (w : EntryOfCode). w.end) r.2 in
    let low = b.0 in
    let high = b.1 in
    (omega arith, omega arith)

-- ---- attributes are counted by their pairs

abbrev pub counts : Pair → Bool
counts pair = not (pair.name == 0x01)

counted : (raw : List RawAttr) → length (filter counts (map (λ (a : RawAttr). a.pair) raw)) ≡ length (without_siblings raw)
unfolding without_siblings
counted [] = refl
counted (a ∷ raw) = by (a.pair.name == 0x01) (counted raw) where
  by : (t : Bool) → length (filter counts (map (λ (a : RawAttr). a.pair) raw)) ≡ length (without_siblings raw)
      → length (cond (not t) (a.pair ∷ filter counts (map (λ (a : RawAttr). a.pair) raw)) (filter counts (map (λ (a : RawAttr). a.pair) raw))) ≡ length (if t then without_siblings raw else a ∷ without_siblings raw)
  by true more = more
  by false more = ap suc more

pub attrs_many : (raw : List RawAttr) → count_by counts (map (λ (a : RawAttr). a.pair) raw) ≡ length (without_siblings raw)
attrs_many raw = sym (length-filter counts (map (λ (a : RawAttr). a.pair) raw)) ∙ counted raw
