-- The places of entries that are read rise with their numbers.
use Rattle.std.proofs.Common.{◌≡◌, ℕ, zero, suc, ◌+◌, ◌-◌, ◌<◌, ◌≤◌, Bool, true, false, List, [], ◌∷◌, ◌++◌, length, map, get_or, take, drop, Some, Result, Ok, Err, slice_get, refl, sym, ap, subst}
use Rattle.std.proofs.Common.{◌∙◌, arith}
use Rattle.std.specs.Prelude.{slice_range}
use Rattle.std.specs.Option.{option_map}
use Rattle.std.proofs.lemmas.Option.{get_or_from_slice_get, slice_get-map}
use Rattle.std.proofs.lemmas.List.{append-nil, get_or-drop, get_or-take, length-append, length-drop, length-map, length-take, map-append, take_all}
use Rattle.dwz_model.specs.declared.fault.Fault.{Fault}
use Rattle.dwz_def_reading.specs.Input.{input}
use Rattle.dwz_def_reading.specs.Entries.{Mode, RawEntry, SpellsFront, UnitContext, root_position}
use Rattle.dwz_def_reading.specs.Meanings.{all_places, has, places_in, places_of}
use Rattle.dwz_def_reading.specs.Trees.{End, Entry, Forest, IfChildren, Position, SpellsForest, behind, first_below}
use Rattle.dwz_def_reading.specs.Units.{CompileUnit, PartialUnit, RawKind, RawUnit, SpellsUnit, SpellsUnits, TypeUnit, entries_in, entry_count, header_size, units_at}
use Rattle.dwz_def_reading.proofs.EntryLemmas.{some_front}
use Rattle.dwz_def_reading.proofs.UnitListLemmas.{units_found}
use Rattle.dwz_unit.specs.declared.rows.RawEntry.{RawEntry as EntryOfCode}
use Rattle.dwz_unit.specs.Modes.{mode_of}
use Rattle.dwz_unit.specs.Rows.{EntryRow, Source, or_none, rows_below, rows_from, rows_in, rows_of, shown_entries, units_of}
use Rattle.dwz_unit.proofs.RowsFound.{entry_row, rows-length}
use Rattle.dwz_graph_resolve.proofs.SearchLemmas.{Rise, has_none, has_there}
use Rattle.dwz_graph_resolve.specs.Resolved.{place_at, places}

-- ---- rising numbers

-- they rise from one place to below another
abbrev pub Ascend : ℕ → List ℕ → ℕ → Type 0
Ascend from [] to = from ≤ to
Ascend from (p ∷ ps) to = (from ≤ p) × Ascend (p + 1) ps to

pub ascend_lower : (ps : List ℕ) (a b c : ℕ) → c ≤ a → Ascend a ps b → Ascend c ps b
ascend_lower [] a b c le h = omega (arith, le, h)
ascend_lower (p ∷ ps) a b c le h = (omega (arith, le, h.0), h.1)

pub ascend_higher : (ps : List ℕ) (a b d : ℕ) → b ≤ d → Ascend a ps b → Ascend a ps d
ascend_higher [] a b d le h = omega (arith, le, h)
ascend_higher (p ∷ ps) a b d le h = (h.0, ascend_higher ps (p + 1) b d le h.1)

pub ascend_append : (ps qs : List ℕ) (a b c : ℕ) → Ascend a ps b → Ascend b qs c → Ascend a (ps ++ qs) c
ascend_append [] qs a b c h k = ascend_lower qs b c a h k
ascend_append (p ∷ ps) qs a b c h k = (h.0, ascend_append ps qs (p + 1) b c h.1 k)

ascend_from : (ps : List ℕ) (a b i : ℕ) → Ascend a ps b → i < length ps → a ≤ get_or ps i 0
ascend_from [] a b i h l = absurd (omega arith)
ascend_from (p ∷ ps) a b zero h l = h.0
ascend_from (p ∷ ps) a b (suc i) h l = let r = ascend_from ps (p + 1) b i h.1 (omega arith) in let low = h.0 in omega arith

pub ascend_at : (ps : List ℕ) (a b i j : ℕ) → Ascend a ps b → i < j → j < length ps → get_or ps i 0 < get_or ps j 0
ascend_at [] a b i j h l m = absurd (omega arith)
ascend_at (p ∷ ps) a b zero zero h l m = absurd (omega arith)
ascend_at (p ∷ ps) a b zero (suc j) h l m = let r = ascend_from ps (p + 1) b j h.1 (omega arith) in omega arith
ascend_at (p ∷ ps) a b (suc i) zero h l m = absurd (omega arith)
ascend_at (p ∷ ps) a b (suc i) (suc j) h l m = ascend_at ps (p + 1) b i j h.1 (omega arith) (omega arith)

pub ascend_long : (ps : List ℕ) (a b : ℕ) → Ascend a ps b → a + length ps ≤ b
ascend_long [] a b h = omega (arith, h)
ascend_long (p ∷ ps) a b h = omega (arith, h.0, ascend_long ps (p + 1) b h.1)

-- ---- what is spelled rises

abbrev parent : RawEntry → Bool
parent e = e.children

module _ (c : UnitContext) where
  if_ascend : (flag : Bool) (f : Forest RawEntry) (at : ℕ) (bytes : List ℕ) (Spelled : Type 0) → IfChildren flag f Spelled bytes → (Spelled → Ascend at (places_in f) (at + length bytes))
      → Ascend at (places_in f) (at + length bytes)
  unfolding places_in
  if_ascend true f at bytes Spelled is deep = deep is
  if_ascend false f at bytes Spelled is deep = subst (λ (g : Forest RawEntry). Ascend at (places_in g) (at + length bytes)) (sym is.0) (omega arith)

  entries_ascend : (f : Forest RawEntry) (p : Position) (start : ℕ) (bytes : List ℕ) → SpellsForest parent (SpellsFront c) f p start bytes → Ascend start (places_in f) (start + length bytes)
  unfolding places_in
  entries_ascend End p start bytes is = omega arith
  entries_ascend (Entry e children next) p start bytes is =
      let a = is.first_bytes in
      let b = is.second_bytes in
      let d = is.third_bytes in
      let first = is.first in
      let some = some_front c p start (Some e) a first in
      let len : start + length a + length b + length d ≡ start + length bytes = omega (arith, ap length is.parts, length-append a (b ++ d), length-append b d) in
      let below = if_ascend e.children children (start + length a) b _ is.second (λ q. entries_ascend children _ (start + length a) b q) in
      let after = entries_ascend next _ (start + length a + length b) d is.third in
      let both = ascend_append (places_in children) (places_in next) (start + length a) (start + length a + length b) (start + length a + length b + length d) below after in
      let both' = subst (λ (k : ℕ). Ascend (start + length a) (places_in children ++ places_in next) k) len both in
      (omega (arith, first.place), ascend_lower (places_in children ++ places_in next) (start + length a) (start + length bytes) (e.at + 1) (omega (arith, first.place, some)) both')

header_some : (kind : RawKind) → 0 < header_size kind
header_some CompileUnit = omega arith
header_some (TypeUnit signature type_offset) = omega arith
header_some PartialUnit = omega arith

-- the places of units, and of their entries
unfoldable pub unit_and_entries : List RawUnit → List ℕ
unit_and_entries [] = []
unit_and_entries (u ∷ raw) = (u.at ∷ places_of u) ++ unit_and_entries raw

module _ (abbrevs : List ℕ) (mode : Mode) where
  unit_ascends : (u : RawUnit) (before start : ℕ) (bytes : List ℕ) → SpellsUnit abbrevs mode before u start bytes → Ascend start (u.at ∷ places_of u) (start + length bytes)
  unit_ascends u before start bytes is =
      let c = is.context in
      let head = is.header in
      let t = is.is_tree in
      let first = t.first in
      let front = t.first_bytes in
      let inner = t.second_bytes in
      let some = some_front c (root_position before) (start + length head) (Some u.root) front first in
      let header = header_some u.kind in
      let size = is.is_header.size in
      let at = is.place in
      let len : start + length bytes ≡ start + length head + length front + length inner + length is.padding
      = omega (arith, ap length is.parts, length-append head (is.tree ++ is.padding), length-append is.tree is.padding, ap length t.parts, length-append front inner) in
      let below = if_ascend c u.root.children u.below (start + length head + length front) inner _ t.second (λ q. entries_ascend c u.below _ (start + length head + length front) inner q) in
      let whole = ascend_higher (places_in u.below) (start + length head + length front) (start + length head + length front + length inner) (start + length bytes) (omega (arith, len)) below in
      let root : u.root.at ≡ start + length head = first.place in (
        omega (arith, at),
        (
          omega (arith, root, header, size, at),
          ascend_lower (places_in u.below) (start + length head + length front) (start + length bytes) (u.root.at + 1)
              (omega (arith, root, some)) whole,
        ),
      )

  pub units_and_entries_ascend : (raw : List RawUnit) (before start : ℕ) (bytes : List ℕ) → SpellsUnits abbrevs mode before raw start bytes → Ascend start (unit_and_entries raw) (start + length bytes)
  unfolding unit_and_entries
  units_and_entries_ascend [] before start bytes is = omega arith
  units_and_entries_ascend (u ∷ raw) before start bytes is =
      let a = is.first_bytes in
      let b = is.second_bytes in
      let len : start + length a + length b ≡ start + length bytes = omega (arith, ap length is.parts, length-append a b) in
      let one = unit_ascends u before start a is.first in
      let rest = units_and_entries_ascend raw _ (start + length a) b is.second in
      subst (λ (k : ℕ). Ascend start ((u.at ∷ places_of u) ++ unit_and_entries raw) k) len
      (ascend_append (u.at ∷ places_of u) (unit_and_entries raw) start (start + length a) (start + length a + length b) one rest)

  units_ascend : (raw : List RawUnit) (before start : ℕ) (bytes : List ℕ) → SpellsUnits abbrevs mode before raw start bytes → Ascend start (all_places raw) (start + length bytes)
  unfolding all_places
  units_ascend [] before start bytes is = omega arith
  units_ascend (u ∷ raw) before start bytes is =
      let a = is.first_bytes in
      let b = is.second_bytes in
      let len : start + length a + length b ≡ start + length bytes = omega (arith, ap length is.parts, length-append a b) in
      let both = unit_ascends u before start a is.first in
      let low = both.0 in
      let one = ascend_lower (places_of u) (u.at + 1) (start + length a) start (omega arith) both.1 in
      let rest = units_ascend raw _ (start + length a) b is.second in
      subst (λ (k : ℕ). Ascend start (places_of u ++ all_places raw) k) len (ascend_append (places_of u) (all_places raw) start (start + length a) (start + length a + length b) one rest)

-- ---- the places of rows

below_places : (f : Forest RawEntry) (unit : ℕ) (p : Position) → map (λ (row : EntryRow). row.entry.at) (rows_below f unit p) ≡ places_in f
unfolding rows_below places_in
below_places End unit p = refl
below_places (Entry e c n) unit p =
    ap (λ (w : List ℕ). e.at ∷ w) (
    map-append (λ (row : EntryRow). row.entry.at) (rows_below c unit (first_below p)) (rows_below n unit (behind p c))
    ∙ (λ i. below_places c unit (first_below p) i ++ below_places n unit (behind p c) i))

pub in_places : (u : RawUnit) (unit before : ℕ) → map (λ (row : EntryRow). row.entry.at) (rows_in u unit before) ≡ places_of u
unfolding places_in
in_places u unit before = below_places (Entry u.root u.below End) unit (root_position before) ∙ ap (λ (w : List ℕ). u.root.at ∷ w) (append-nil (places_in u.below))

from_places : (raw : List RawUnit) (unit before : ℕ) → map (λ (row : EntryRow). row.entry.at) (rows_from raw unit before) ≡ all_places raw
unfolding rows_from all_places
from_places [] unit before = refl
from_places (u ∷ raw) unit before =
    map-append (λ (row : EntryRow). row.entry.at) (rows_in u unit before) (rows_from raw (unit + 1) (before + entry_count u))
    ∙ (λ i. in_places u unit before i ++ from_places raw (unit + 1) (before + entry_count u) i)

pub places_are : (raw : List RawUnit) → places raw ≡ all_places raw
places_are raw = from_places raw 0 0

-- ---- the places of units that are read

read_ascend : (abbrevs : List ℕ) (mode : Mode) (info : List ℕ) (r : Result (List RawUnit) Fault) → units_at abbrevs mode 0 (input info 0) ≡ r → Ascend 0 (all_places (or_none r)) (length info)
unfolding all_places
read_ascend abbrevs mode info (Err f) e = omega arith
read_ascend abbrevs mode info (Ok raw) e =
    let up = units_ascend abbrevs mode raw 0 0 info (units_found abbrevs mode 0 (input info 0) raw e) in
    let same : 0 + length info ≡ length info = omega arith in
    subst (λ (n : ℕ). Ascend 0 (all_places raw) n) same up

pub places_rise : (s : Source) → Rise (places (units_of s))
unfolding units_of
places_rise s i j l m =
    let raw = units_of s in
    let up : Ascend 0 (places raw) (length s.info) = subst (λ (ps : List ℕ). Ascend 0 ps (length s.info)) (sym (places_are raw))
    (read_ascend s.abbrevs (mode_of s.kind s.room) s.info (units_at s.abbrevs (mode_of s.kind s.room) 0 (input s.info 0)) refl) in
    ascend_at (places raw) 0 (length s.info) i j up l m

-- ---- what is found by a number

pub entry_place : (raw : List RawUnit) (i : ℕ) (e : EntryOfCode) → slice_get (shown_entries raw) i ≡ Some e → place_at raw i ≡ e.at
entry_place raw i e is =
    let r = entry_row raw i e is in
    get_or_from_slice_get (places raw) i r.0.entry.at 0 (slice_get-map (λ (row : EntryRow). row.entry.at) (rows_of raw) i ∙ ap (option_map (λ (row : EntryRow). row.entry.at)) r.1)
    ∙ ap (λ (x : EntryOfCode). x.at) r.2

pub places_many : (raw : List RawUnit) → length (places raw) ≡ entries_in raw
places_many raw = length-map (rows_of raw) (λ (row : EntryRow). row.entry.at) ∙ rows-length raw

-- a file has no more entries than bytes of `.debug_info`
pub entries_within : (s : Source) → entries_in (units_of s) ≤ length s.info
unfolding units_of
entries_within s =
    let raw = units_of s in
    let long = ascend_long (all_places raw) 0 (length s.info) (read_ascend s.abbrevs (mode_of s.kind s.room) s.info (units_at s.abbrevs (mode_of s.kind s.room) 0 (input s.info 0)) refl) in
    omega (arith, long, ap (λ (w : List ℕ). length w) (places_are raw), places_many raw)

-- ---- among some of the places

range_at : (ps : List ℕ) (first end k : ℕ) → k < end - first → get_or (slice_range ps first end) k 0 ≡ get_or ps (first + k) 0
range_at ps first end k l = get_or-take (end - first) (drop first ps) k 0 l ∙ get_or-drop first ps k 0

range_many : (ps : List ℕ) (first end : ℕ) → length (slice_range ps first end) ≤ end - first
range_many ps first end = omega (arith, length-take (end - first) (drop first ps))

range_length : (ps : List ℕ) (first end : ℕ) → end ≤ length ps → length (slice_range ps first end) ≡ end - first
range_length ps first end l = omega (arith, length-take (end - first) (drop first ps), length-drop first ps)

pub among_there : (raw : List RawUnit) (first end i p : ℕ) (own : List ℕ) → slice_range (places raw) first end ≡ own → end ≤ entries_in raw → first ≤ i → i < end → place_at raw i ≡ p
    → has p own ≡ true
among_there raw first end i p own is le low high e =
    let many = places_many raw in
    let ps = places raw in
    let len = range_length ps first end (omega arith) in
    let at : first + (i - first) ≡ i = omega arith in
    subst (λ (qs : List ℕ). has p qs ≡ true) is
    (has_there (slice_range ps first end) (i - first) p (omega arith) (range_at ps first end (i - first) (omega arith) ∙ ap (λ (k : ℕ). get_or ps k 0) at ∙ e))

pub among_none : (raw : List RawUnit) (first end p : ℕ) (own : List ℕ) → slice_range (places raw) first end ≡ own → ((i : ℕ) → first ≤ i → i < end → place_at raw i ≡ p → ⊥) → has p own ≡ false
among_none raw first end p own is none =
    let ps = places raw in
    subst (λ (qs : List ℕ). has p qs ≡ false) is
    (has_none (slice_range ps first end) p (λ k l e. let m = range_many ps first end in none (first + k) (omega arith) (omega arith) (sym (range_at ps first end k (omega arith)) ∙ e)))

-- all places are those of all entries
pub all_are : (raw : List RawUnit) → slice_range (places raw) 0 (entries_in raw) ≡ all_places raw
all_are raw =
    let many = places_many raw in
    let none : entries_in raw - 0 ≡ entries_in raw = omega arith in
    ap (λ (n : ℕ). take n (places raw)) none ∙ take_all (entries_in raw) (places raw) (omega arith) ∙ places_are raw
