-- Units in stretches: one unit more, two stretches together, and the whole.
use Rattle.std.proofs.Common.{◌≡◌, ℕ, ◌+◌, ◌-◌, ◌^◌, ◌<◌, ◌≤◌, List, [], ◌∷◌, ◌++◌, length, map, drop, Ok, refl, sym, ap, subst, ◌∙◌, append_assoc, arith}
use Rattle.std.proofs.Math.ListN.{drop_of_length-le}
use Rattle.std.proofs.lemmas.List.{append-nil, length-append, length-map, map-append}
use Rattle.dwz_bytes.specs.Input.{input}
use Rattle.dwz_def_reading.specs.Entries.{Mode, RawEntry}
use Rattle.dwz_def_reading.specs.Trees.{End, Entry, Forest, Position, behind, size}
use Rattle.dwz_def_reading.specs.Units.{RawUnit, SpellsUnits, entries_in, entry_count, units_at}
use Rattle.dwz_def_reading.proofs.RoomLemmas.{units_fit}
use Rattle.dwz_def_reading.proofs.UnitLemmas.{unit_found}
use Rattle.dwz_def_reading.proofs.UnitListLemmas.{units_again}
use Rattle.dwz_model.specs.declared.place.Pair.{Pair}
use Rattle.dwz_unit.specs.declared.mode.Mode.{Mode as ModeOfCode}
use Rattle.dwz_unit.specs.declared.rows.RawUnit.{RawUnit as UnitOfCode}
use Rattle.dwz_unit.specs.declared.rows.Row.{Row}
use Rattle.dwz_unit.specs.declared.stretches.Stretch.{Stretch}
use Rattle.dwz_unit.specs.Kept.{AreKept, KeepsUnit, known_in}
use Rattle.dwz_unit.specs.Known.{KnownRow, known_entries, known_row, row_view}
use Rattle.dwz_unit.specs.Modes.{mode_view}
use Rattle.dwz_unit.specs.Rows.{EntryRow, rows_below, rows_from, rows_in, shown_from, shown_units, unit_shown}
use Rattle.dwz_unit.specs.Stretches.{AreRead, IsWhole, later_row, later_unit}
use Rattle.dwz_unit.specs.Tables.{Stored}
use Rattle.dwz_unit.proofs.ReadLemmas.{shown-push, units-push, units_so}
use Rattle.dwz_unit.proofs.ShownLemmas.{known_entries-length, shown_units-length, units_few}

-- ---- units behind others

entries_both : (us vs : List RawUnit) → entries_in (us ++ vs) ≡ entries_in us + entries_in vs
unfolding entries_in
entries_both [] vs = omega arith
entries_both (u ∷ us) vs = omega (arith, entries_both us vs)

spells_both : (us vs : List RawUnit) (abbrevs : List ℕ) (mode : Mode) (before start : ℕ) (a b : List ℕ) → SpellsUnits abbrevs mode before us start a
    → SpellsUnits abbrevs mode (before + entries_in us) vs (start + length a) b → SpellsUnits abbrevs mode before (us ++ vs) start (a ++ b)
unfolding entries_in
spells_both [] vs abbrevs mode before start a b is more =
    let place : start + length a ≡ start = omega (arith, ap length is) in
    let count : before + 0 ≡ before = omega arith in
    subst (λ (w : List ℕ). SpellsUnits abbrevs mode before vs start (w ++ b)) (sym is)
    (subst (λ (n : ℕ). SpellsUnits abbrevs mode before vs n b) place (subst (λ (n : ℕ). SpellsUnits abbrevs mode n vs (start + length a) b) count more))
spells_both (u ∷ us) vs abbrevs mode before start a b is more =
    let x = is.first_bytes in
    let y = is.second_bytes in
    let place : start + length a ≡ start + length x + length y = omega (arith, ap length is.parts, length-append x y) in
    let count : before + (entry_count u + entries_in us) ≡ before + entry_count u + entries_in us = omega arith in
    record {
      first_bytes = x;
      first = is.first;
      second_bytes = y ++ b;
      second = spells_both us vs abbrevs mode (before + entry_count u) (start + length x) y b is.second
          (subst (λ (n : ℕ). SpellsUnits abbrevs mode (before + entry_count u + entries_in us) vs n b) place (subst (λ (n : ℕ). SpellsUnits abbrevs mode n vs (start + length a) b) count more));
      parts = ap (λ (w : List ℕ). w ++ b) is.parts ∙ append_assoc x y b;
    }

-- ---- what is shown of them

shown_both : (us vs : List RawUnit) (first : ℕ) → shown_from (us ++ vs) first ≡ shown_from us first ++ shown_from vs (first + entries_in us)
unfolding shown_from entries_in
shown_both [] vs first = let place : first ≡ first + 0 = omega arith in ap (shown_from vs) place
shown_both (u ∷ us) vs first =
    let place : first + entry_count u + entries_in us ≡ first + (entry_count u + entries_in us) = omega arith in
    ap (λ (w : List UnitOfCode). unit_shown first u ∷ w) (shown_both us vs (first + entry_count u) ∙ ap (λ (n : ℕ). shown_from us (first + entry_count u) ++ shown_from vs n) place)

shown_later : (us : List RawUnit) (n first : ℕ) → map (later_unit n) (shown_from us first) ≡ shown_from us (n + first)
unfolding shown_from
shown_later [] n first = refl
shown_later (u ∷ us) n first =
    let place : n + (first + entry_count u) ≡ n + first + entry_count u = omega arith in
    ap (λ (w : List UnitOfCode). unit_shown (n + first) u ∷ w) (shown_later us n (first + entry_count u) ∙ ap (shown_from us) place)

shown_joined : (us vs : List RawUnit) → shown_units us ++ map (later_unit (entries_in us)) (shown_units vs) ≡ shown_units (us ++ vs)
shown_joined us vs =
    let place : entries_in us + 0 ≡ 0 + entries_in us = omega arith in
    ap (λ (w : List UnitOfCode). shown_units us ++ w) (shown_later vs (entries_in us) 0 ∙ ap (shown_from vs) place) ∙ sym (shown_both us vs 0)

-- ---- their entries

abbrev later_entry : ℕ → ℕ → EntryRow → EntryRow
later_entry units entries r = record { entry = r.entry; unit = units + r.unit; depth = r.depth; end = entries + r.end }

abbrev later_known : ℕ → ℕ → KnownRow → KnownRow
later_known units entries r = record { at = r.at; tag = r.tag; unit = units + r.unit; depth = r.depth; end = entries + r.end; pairs = r.pairs }

abbrev position : ℕ → ℕ → Position
position before depth = record { before = before; depth = depth }

below_later : (f : Forest RawEntry) (m n unit before depth : ℕ) → map (later_entry m n) (rows_below f unit (position before depth)) ≡ rows_below f (m + unit) (position (n + before) depth)
unfolding rows_below
below_later End m n unit before depth = refl
below_later (Entry e children next) m n unit before depth =
    let below : n + (before + 1) ≡ n + before + 1 = omega arith in
    let end : n + (before + 1 + size children) ≡ n + before + 1 + size children = omega arith in
    let row : ℕ → EntryRow = λ k. record { entry = e; unit = m + unit; depth = depth; end = k } in
    ap (λ (w : List EntryRow). row (n + (before + 1 + size children)) ∷ w)
    (map-append (later_entry m n) (rows_below children unit (position (before + 1) (depth + 1))) (rows_below next unit (position (before + 1 + size children) depth))
    ∙ ap (λ (w : List EntryRow). w ++ map (later_entry m n) (rows_below next unit (position (before + 1 + size children) depth))) (below_later children m n unit (before + 1) (depth + 1))
    ∙ ap (λ (w : List EntryRow). rows_below children (m + unit) (position (n + (before + 1)) (depth + 1)) ++ w) (below_later next m n unit (before + 1 + size children) depth))
    ∙ ap (λ (k : ℕ). row k ∷ (rows_below children (m + unit) (position (n + (before + 1)) (depth + 1)) ++ rows_below next (m + unit) (position k depth))) end
    ∙ ap (λ (k : ℕ). row (n + before + 1 + size children) ∷ (rows_below children (m + unit) (position k (depth + 1)) ++ rows_below next (m + unit) (position (n + before + 1 + size children) depth))) below

from_later : (us : List RawUnit) (m n unit before : ℕ) → map (later_entry m n) (rows_from us unit before) ≡ rows_from us (m + unit) (n + before)
unfolding rows_from
from_later [] m n unit before = refl
from_later (u ∷ us) m n unit before =
    let next : m + (unit + 1) ≡ m + unit + 1 = omega arith in
    let place : n + (before + entry_count u) ≡ n + before + entry_count u = omega arith in
    map-append (later_entry m n) (rows_in u unit before) (rows_from us (unit + 1) (before + entry_count u))
    ∙ ap (λ (w : List EntryRow). w ++ map (later_entry m n) (rows_from us (unit + 1) (before + entry_count u))) (below_later (Entry u.root u.below End) m n unit before 1)
    ∙ ap (λ (w : List EntryRow). rows_in u (m + unit) (n + before) ++ w) (from_later us m n (unit + 1) (before + entry_count u))
    ∙ ap (λ (k : ℕ). rows_in u (m + unit) (n + before) ++ rows_from us k (n + (before + entry_count u))) next
    ∙ ap (λ (k : ℕ). rows_in u (m + unit) (n + before) ++ rows_from us (m + unit + 1) k) place

from_both : (us vs : List RawUnit) (unit before : ℕ) → rows_from (us ++ vs) unit before ≡ rows_from us unit before ++ rows_from vs (unit + length us) (before + entries_in us)
unfolding rows_from entries_in
from_both [] vs unit before =
    let first : unit ≡ unit + 0 = omega arith in
    let place : before ≡ before + 0 = omega arith in
    ap (λ (k : ℕ). rows_from vs k before) first ∙ ap (λ (k : ℕ). rows_from vs (unit + 0) k) place
from_both (u ∷ us) vs unit before =
    let next : unit + 1 + length us ≡ unit + length (u ∷ us) = omega arith in
    let place : before + entry_count u + entries_in us ≡ before + (entry_count u + entries_in us) = omega arith in
    ap (λ (w : List EntryRow). rows_in u unit before ++ w) (from_both us vs (unit + 1) (before + entry_count u))
    ∙ sym (append_assoc (rows_in u unit before) (rows_from us (unit + 1) (before + entry_count u)) (rows_from vs (unit + 1 + length us) (before + entry_count u + entries_in us)))
    ∙ ap (λ (k : ℕ). rows_in u unit before ++ rows_from us (unit + 1) (before + entry_count u) ++ rows_from vs k (before + entry_count u + entries_in us)) next
    ∙ ap (λ (k : ℕ). rows_in u unit before ++ rows_from us (unit + 1) (before + entry_count u) ++ rows_from vs (unit + length (u ∷ us)) k) place

-- rows that are counted on say so
rows_later : (decls : List (List Pair)) (m n : ℕ) (rows : List Row) → map (row_view decls) (map (later_row m n) rows) ≡ map (later_known m n) (map (row_view decls) rows)
rows_later decls m n [] = refl
rows_later decls m n (row ∷ rows) = ap (λ (w : List KnownRow). row_view decls (later_row m n row) ∷ w) (rows_later decls m n rows)

known_later : (m n : ℕ) (rows : List EntryRow) → map (later_known m n) (map known_row rows) ≡ map known_row (map (later_entry m n) rows)
known_later m n [] = refl
known_later m n (row ∷ rows) = ap (λ (w : List KnownRow). known_row (later_entry m n row) ∷ w) (known_later m n rows)

entries_joined : (s : Stored) (us vs : List RawUnit) (m n : ℕ) (rows more : List Row) → m ≡ length us → n ≡ entries_in us → known_in s rows ≡ known_entries us → known_in s more ≡ known_entries vs
    → known_in s (rows ++ map (later_row m n) more) ≡ known_entries (us ++ vs)
entries_joined s us vs m n rows more units entries front back =
    let number : m + 0 ≡ 0 + length us = omega (arith, units) in
    let place : n + 0 ≡ 0 + entries_in us = omega (arith, entries) in
    map-append (row_view s.decls) rows (map (later_row m n) more)
    ∙ ap (λ (w : List KnownRow). w ++ known_in s (map (later_row m n) more)) front
    ∙ ap (λ (w : List KnownRow). known_entries us ++ w)
    (rows_later s.decls m n more ∙ ap (map (later_known m n)) back ∙ known_later m n (rows_from vs 0 0) ∙ ap (map known_row) (from_later vs m n 0 0)
    ∙ ap (λ (k : ℕ). map known_row (rows_from vs k (n + 0))) number ∙ ap (λ (k : ℕ). map known_row (rows_from vs (0 + length us) k)) place)
    ∙ sym (map-append known_row (rows_from us 0 0) (rows_from vs (0 + length us) (0 + entries_in us)))
    ∙ sym (ap (map known_row) (from_both us vs 0 0))

-- ---- stretches

module _ (info : List ℕ) (mode : ModeOfCode) (s : Stored) where
  -- no unit yet
  pub none_read : (at : ℕ) → at ≤ length info → AreRead info mode s at at [] []
  unfolding shown_from rows_from
  none_read at le = record {
    units = [];
    bytes = [];
    place = omega arith;
    parts = refl;
    within = le;
    spelled = refl;
    shown = refl;
    entries = refl;
    few = omega arith;
  }

  module _ (first at : ℕ) (kept : List UnitOfCode) (rows : List Row) (r : AreRead info mode s first at kept rows) where
    -- the entries are those of the units
    so_many : length rows ≡ entries_in r.units
    so_many = sym (length-map rows (row_view s.decls)) ∙ ap length r.entries ∙ known_entries-length r.units

    so_many_units : length kept ≡ length r.units
    so_many_units = ap length r.shown ∙ shown_units-length r.units

    pub fewer_units : length kept ≤ length rows
    fewer_units = omega (arith, so_many, so_many_units, units_few r.units)

    -- one unit more
    pub one_read : (number : ℕ) (k : UnitOfCode) (all : List UnitOfCode) (new : List Row) → number ≡ length kept → KeepsUnit info at (mode_view mode) number s (known_in s rows) (known_in s new) k
        → length new ≤ mode.room → all ≡ kept ++ k ∷ [] → AreRead info mode s first k.end all new
    one_read number k all new count is few pushed =
        let many : length (known_in s rows) ≡ entries_in r.units = length-map rows (row_view s.decls) ∙ so_many in
        let t = unit_found s.section (mode_view mode) (length (known_in s rows)) (input info at) is.unit (input info k.end) is.read in
        let zero : length (known_in s rows) ≡ 0 + entries_in r.units = omega (arith, many) in
        let of_units : number ≡ length r.units = count ∙ so_many_units in
        let place = t.takes.place in
        let last : SpellsUnits s.section (mode_view mode) (length (known_in s rows)) (is.unit ∷ []) at t.bytes = record {
          first_bytes = t.bytes;
          first = t.spelled;
          second_bytes = [];
          second = refl;
          parts = sym (append-nil t.bytes);
        } in
        record {
          units = r.units ++ is.unit ∷ [];
          bytes = r.bytes ++ t.bytes;
          place = omega (arith, r.place, place, length-append r.bytes t.bytes);
          parts = r.parts ∙ ap (λ (w : List ℕ). r.bytes ++ w) t.takes.parts ∙ sym (append_assoc r.bytes t.bytes (drop k.end info));
          within = is.within;
          spelled = spells_both r.units (is.unit ∷ []) s.section (mode_view mode) 0 first r.bytes t.bytes r.spelled
              (subst (λ (n : ℕ). SpellsUnits s.section (mode_view mode) (0 + entries_in r.units) (is.unit ∷ []) n t.bytes) r.place
              (subst (λ (n : ℕ). SpellsUnits s.section (mode_view mode) n (is.unit ∷ []) at t.bytes) zero last));
          shown =
              pushed ∙ ap (λ (w : List UnitOfCode). w ++ k ∷ []) r.shown
              ∙ ap (λ (w : UnitOfCode). shown_units r.units ++ w ∷ []) (is.shown ∙ ap (λ (n : ℕ). unit_shown n is.unit) zero) ∙ sym (units-push r.units is.unit 0);
          entries =
              is.rows ∙ ap (λ (w : List KnownRow). w ++ map known_row (rows_in is.unit number (length (known_in s rows)))) r.entries
              ∙ ap (λ (n : ℕ). known_entries r.units ++ map known_row (rows_in is.unit n (length (known_in s rows)))) of_units
              ∙ ap (λ (n : ℕ). known_entries r.units ++ map known_row (rows_in is.unit (length r.units) n)) many ∙ sym (shown-push r.units is.unit);
          few = few;
        }

    -- units behind them
    pub both_read : (end : ℕ) (more : List UnitOfCode) (others : List Row) → AreRead info mode s at end more others → (m n : ℕ) (all : List UnitOfCode) (new : List Row) → m ≡ length kept → n ≡ length rows
        → length rows + length others ≤ mode.room → all ≡ kept ++ map (later_unit n) more → new ≡ rows ++ map (later_row m n) others → AreRead info mode s first end all new
    both_read end more others q m n all new units entries few all_is new_is =
        let many : n ≡ entries_in r.units = entries ∙ so_many in
        let others_are : length others ≡ entries_in q.units = sym (length-map others (row_view s.decls)) ∙ ap length q.entries ∙ known_entries-length q.units in
        let room : 0 + entries_in r.units + entries_in q.units ≤ mode.room = omega (arith, few, so_many, others_are) in
        let behind_them = units_fit mode.room s.section (mode_view mode) 0 (0 + entries_in r.units) q.units at q.bytes room q.spelled in
        record {
          units = r.units ++ q.units;
          bytes = r.bytes ++ q.bytes;
          place = omega (arith, r.place, q.place, length-append r.bytes q.bytes);
          parts = r.parts ∙ ap (λ (w : List ℕ). r.bytes ++ w) q.parts ∙ sym (append_assoc r.bytes q.bytes (drop end info));
          within = q.within;
          spelled = spells_both r.units q.units s.section (mode_view mode) 0 first r.bytes q.bytes r.spelled
              (subst (λ (k : ℕ). SpellsUnits s.section (mode_view mode) (0 + entries_in r.units) q.units k q.bytes) r.place behind_them);
          shown =
              all_is ∙ ap (λ (w : List UnitOfCode). w ++ map (later_unit n) more) r.shown ∙ ap (λ (w : List UnitOfCode). shown_units r.units ++ map (later_unit n) w) q.shown
              ∙ ap (λ (k : ℕ). shown_units r.units ++ map (later_unit k) (shown_units q.units)) many ∙ shown_joined r.units q.units;
          entries =
              ap (known_in s) new_is ∙ entries_joined s r.units q.units m n rows others (units ∙ so_many_units) many r.entries q.entries;
          few = omega (arith, few, ap length new_is, length-append rows (map (later_row m n) others), length-map others (later_row m n));
        }

  -- all units
  pub whole_read : (kept : List UnitOfCode) (rows : List Row) (abbrevs : List ℕ) → AreRead info mode s 0 (length info) kept rows → s.section ≡ abbrevs → length info < 2 ^ 32 → length abbrevs < 2 ^ 32
      → AreKept info abbrevs mode kept rows s.decls
  whole_read kept rows abbrevs r section short short_abbrevs =
      let none : drop (length info) info ≡ [] = let le : length info ≤ length info = omega arith in drop_of_length-le info le in
      let bytes : info ≡ r.bytes = r.parts ∙ ap (λ (w : List ℕ). r.bytes ++ w) none ∙ append-nil r.bytes in
      let read : units_at abbrevs (mode_view mode) 0 (input info 0) ≡ Ok r.units =
      ap (λ (w : List ℕ). units_at abbrevs (mode_view mode) 0 (record { at = 0; rest = w })) bytes
      ∙ units_again abbrevs (mode_view mode) 0 r.units 0 r.bytes (subst (λ (w : List ℕ). SpellsUnits w (mode_view mode) 0 r.units 0 r.bytes) section r.spelled) in
      let same = units_so info abbrevs mode r.units read in
      record {
        read = read ∙ ap (λ (w : List RawUnit). Ok w) (sym same);
        units = r.shown ∙ ap shown_units (sym same);
        entries = r.entries ∙ ap known_entries (sym same);
        few = let few = r.few in let narrow = mode.few in omega arith;
        short = short;
        short_abbrevs = short_abbrevs;
      }

  -- the same of a stretch
  pub whole_kept : (x : Stretch) (abbrevs : List ℕ) → IsWhole info mode s x → s.section ≡ abbrevs → length info < 2 ^ 32 → length abbrevs < 2 ^ 32
      → AreKept info abbrevs mode x.units.items x.entries.items s.decls
  whole_kept x abbrevs is section short short_abbrevs =
      let from : AreRead info mode s 0 x.end x.units.items x.entries.items = subst (λ (n : ℕ). AreRead info mode s n x.end x.units.items x.entries.items) is.first is.stretch in
      let all : AreRead info mode s 0 (length info) x.units.items x.entries.items = subst (λ (n : ℕ). AreRead info mode s 0 n x.units.items x.entries.items) is.end from in
      whole_read x.units.items x.entries.items abbrevs all section short short_abbrevs
