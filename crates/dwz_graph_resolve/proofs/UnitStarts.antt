-- Units begin at rising places, one begins where a search finds it, and none of a file by itself is partial.
use Rattle.std.proofs.Common.{◌≡◌, ℕ, zero, suc, ◌+◌, ◌<◌, ◌≤◌, Bool, true, false, List, [], ◌∷◌, ◌++◌, length, map, get_or, Some, Result, Ok, Err, slice_get, refl, sym, ap, subst, ◌∙◌, inl, inr, arith}
use Rattle.std.specs.Prelude.{◌==◌, not, if◌then◌else◌}
use Rattle.std.specs.Option.{option_map}
use Rattle.std.proofs.lemmas.Bool.{cases_lt, cond-false, cond-true, eq-eqb, eqb-true, false≢true, ne_eqb}
use Rattle.std.proofs.lemmas.List.{length-append, length-map}
use Rattle.std.proofs.lemmas.Option.{get_or_from_slice_get, slice_get-map}
use Rattle.dwz_model.specs.declared.fault.Fault.{Fault}
use Rattle.dwz_def_reading.specs.Input.{input}
use Rattle.dwz_def_reading.specs.Entries.{Mode, given}
use Rattle.dwz_def_reading.specs.Units.{CompileUnit, PartialUnit, RawKind, RawUnit, SpellsHeader, TypeUnit, SpellsUnits, is_read, kind_by, unit_type, units_at}
use Rattle.dwz_def_reading.proofs.UnitListLemmas.{units_found}
use Rattle.dwz_def_reading.proofs.HeaderLemmas.{header_some}
use Rattle.dwz_def_reading.specs.Files.{place_if_whole, unit_places}
use Rattle.dwz_def_reading.specs.Rows.{has}
use Rattle.dwz_unit.specs.declared.rows.RawUnit.{RawUnit as UnitOfCode}
use Rattle.dwz_unit.specs.Modes.{mode_of}
use Rattle.dwz_unit.specs.Rows.{Source, kind_number, or_none, shown_units, units_of}
use Rattle.dwz_unit.specs.declared.mode.FileKind.{FileKind}
use Rattle.dwz_graph_resolve.specs.Given.{AreGiven}
use Rattle.dwz_graph_resolve.specs.ListRows.{AreDistinct}
use Rattle.dwz_graph_resolve.proofs.PlaceLemmas.{Ascend, ascend_at}
use Rattle.dwz_unit.proofs.RowsFound.{unit_there}
use Rattle.dwz_graph_resolve.proofs.SearchLemmas.{Rise}

-- where units begin
abbrev pub starts : List RawUnit → List ℕ
starts raw = map (λ u. u.at) raw

-- ---- no unit is partial

whole_by : (bytes : List ℕ) (room at : ℕ) (is_type is_partial : Bool) → (unit_type bytes == 3) ≡ is_partial → is_read (given room) (unit_type bytes) ≡ true
    → place_if_whole (kind_by is_type is_partial bytes) at ≡ at ∷ []
whole_by bytes room at true is_partial e h = refl
whole_by bytes room at false false e h = refl
whole_by bytes room at false true e h =
    let three = eqb-true (unit_type bytes) 3 e in
    absurd (false≢true (ap (λ (n : ℕ). is_read (given room) n) (sym three) ∙ h))

whole_place : (kind : RawKind) (room len offset at : ℕ) (bytes : List ℕ) → SpellsHeader (given room) kind len offset bytes → place_if_whole kind at ≡ at ∷ []
whole_place kind room len offset at bytes is = ap (λ (k : RawKind). place_if_whole k at) is.of_kind ∙ whole_by bytes room at (unit_type bytes == 2) (unit_type bytes == 3) refl is.unit_type

module _ (abbrevs : List ℕ) (room : ℕ) where
  pub places_whole : (raw : List RawUnit) (before start : ℕ) (bytes : List ℕ) → SpellsUnits abbrevs (given room) before raw start bytes → unit_places raw ≡ starts raw
  unfolding unit_places
  places_whole [] before start bytes is = refl
  places_whole (u ∷ raw) before start bytes is =
      (λ i. whole_place u.kind room _ u.table_offset u.at is.first.header is.first.is_header i ++ places_whole raw _ _ is.second_bytes is.second i)

module _ (abbrevs : List ℕ) (mode : Mode) where
  starts_ascend : (raw : List RawUnit) (before start : ℕ) (bytes : List ℕ) → SpellsUnits abbrevs mode before raw start bytes → Ascend start (starts raw) (start + length bytes)
  starts_ascend [] before start bytes is = omega arith
  starts_ascend (u ∷ raw) before start bytes is =
      let a = is.first_bytes in
      let b = is.second_bytes in
      let one = is.first in
      let at = one.place in
      let head = one.is_header.size in
      let some = header_some u.kind in
      let len : start + length a + length b ≡ start + length bytes = omega (arith, ap length is.parts, length-append a b) in
      let wide = ap length one.parts in
      let parts = length-append one.header (one.tree ++ one.padding) in
      let rest = starts_ascend raw _ (start + length a) b is.second in
      (omega arith, lower (starts raw) (start + length a) (u.at + 1) (start + length bytes) (omega arith) (subst (λ (k : ℕ). Ascend (start + length a) (starts raw) k) len rest)) where
        lower : (ps : List ℕ) (a c b : ℕ) → c ≤ a → Ascend a ps b → Ascend c ps b
        lower [] a c b le h = omega (arith, le, h)
        lower (p ∷ ps) a c b le h = (omega (arith, le, h.0), h.1)

-- ---- of units that are read

read_whole : (abbrevs : List ℕ) (room : ℕ) (info : List ℕ) (r : Result (List RawUnit) Fault) → units_at abbrevs (given room) 0 (input info 0) ≡ r → unit_places (or_none r) ≡ starts (or_none r)
unfolding unit_places
read_whole abbrevs room info (Err f) e = refl
read_whole abbrevs room info (Ok raw) e = places_whole abbrevs room raw 0 0 info (units_found abbrevs (given room) 0 (input info 0) raw e)

read_ascend : (abbrevs : List ℕ) (mode : Mode) (info : List ℕ) (r : Result (List RawUnit) Fault) → units_at abbrevs mode 0 (input info 0) ≡ r → Ascend 0 (starts (or_none r)) (0 + length info)
read_ascend abbrevs mode info (Err f) e = omega arith
read_ascend abbrevs mode info (Ok raw) e = starts_ascend abbrevs mode raw 0 0 info (units_found abbrevs mode 0 (input info 0) raw e)

pub all_whole : (s : Source) → AreGiven s → unit_places (units_of s) ≡ starts (units_of s)
unfolding units_of
all_whole s is =
    subst (λ (k : FileKind). unit_places (or_none (units_at s.abbrevs (mode_of k s.room) 0 (input s.info 0))) ≡ starts (or_none (units_at s.abbrevs (mode_of k s.room) 0 (input s.info 0)))) (sym is)
    (read_whole s.abbrevs s.room s.info (units_at s.abbrevs (given s.room) 0 (input s.info 0)) refl)

pub starts_rise : (s : Source) → Rise (starts (units_of s))
unfolding units_of
starts_rise s i j l m = ascend_at (starts (units_of s)) 0 (0 + length s.info) i j (read_ascend s.abbrevs (mode_of s.kind s.room) s.info (units_at s.abbrevs (mode_of s.kind s.room) 0 (input s.info 0)) refl) l m

pub unit_start : (raw : List RawUnit) (n : ℕ) (x : UnitOfCode) → slice_get (shown_units raw) n ≡ Some x → get_or (starts raw) n 0 ≡ x.at
unit_start raw n x e =
    let t = unit_there raw 0 n x e in
    get_or_from_slice_get (starts raw) n t.0.at 0 (slice_get-map (λ (u : RawUnit). u.at) raw n ∙ ap (option_map (λ (u : RawUnit). u.at)) t.1) ∙ ap (λ (w : UnitOfCode). w.at) t.3

pub starts_many : (raw : List RawUnit) → length (starts raw) ≡ length raw
starts_many raw = length-map raw (λ (u : RawUnit). u.at)

-- two units don't begin at one place
pub starts_distinct : (s : Source) → AreDistinct (units_of s)
starts_distinct s m n lm ln e =
    let many = starts_many (units_of s) in
    elim (cases_lt m n) [
      | inl lt ↦ absurd (let up = starts_rise s m n lt (omega arith) in omega arith)
      | inr ge ↦ elim (cases_lt n m) [
        | inl lt ↦ absurd (let up = starts_rise s n m lt (omega arith) in omega arith)
        | inr le ↦ (let same : m ≡ n = omega arith in same)
      ]
    ]

-- ---- whether a unit that isn't partial begins at a place

abbrev is_whole : RawKind → Bool
is_whole kind = not (kind_number kind == 3)

first_or : (kind : RawKind) (at p : ℕ) (rest : List ℕ) → has p (place_if_whole kind at ++ rest) ≡ (if at == p then (if is_whole kind then true else has p rest) else has p rest)
unfolding has
first_or CompileUnit at p rest = refl
first_or (TypeUnit signature type_offset) at p rest = refl
first_or PartialUnit at p rest = by (at == p) where
  by : (b : Bool) → has p rest ≡ (if b then has p rest else has p rest)
  by true = refl
  by false = refl

-- another unit begins there, or none
behind_first : (u : RawUnit) (raw : List RawUnit) (p : ℕ) → (u.at ≡ p → ⊥) → has p (unit_places (u ∷ raw)) ≡ has p (unit_places raw)
unfolding unit_places
behind_first u raw p other = first_or u.kind u.at p (unit_places raw)
    ∙ cond-false (u.at == p) (if is_whole u.kind then true else has p (unit_places raw)) (has p (unit_places raw)) (ne_eqb u.at p other)

pub no_whole : (raw : List RawUnit) (p : ℕ) → ((k : ℕ) → k < length raw → get_or (starts raw) k 0 ≡ p → ⊥) → has p (unit_places raw) ≡ false
unfolding unit_places has
no_whole [] p none = refl
no_whole (u ∷ raw) p none = behind_first u raw p (none 0 (omega arith)) ∙ no_whole raw p (λ k lt e. none (suc k) (omega arith) e)

none_before : (raw : List RawUnit) (p from to : ℕ) → p < from → Ascend from (starts raw) to → has p (unit_places raw) ≡ false
unfolding unit_places has
none_before [] p from to lt up = refl
none_before (u ∷ raw) p from to lt up = let low = up.0 in behind_first u raw p (λ e. omega arith) ∙ none_before raw p (u.at + 1) to (omega arith) up.1

start_low : (raw : List RawUnit) (from to k : ℕ) (u : RawUnit) → Ascend from (starts raw) to → slice_get raw k ≡ Some u → from ≤ u.at
start_low [] from to k u up is = absurd cc
start_low (v ∷ raw) from to zero u up is = let same : v ≡ u = cc in subst (λ (w : RawUnit). from ≤ w.at) same up.0
start_low (v ∷ raw) from to (suc k) u up is = let low = up.0 in let rest = start_low raw (v.at + 1) to k u up.1 is in omega arith

whole_at : (raw : List RawUnit) (p from to k : ℕ) (u : RawUnit) → Ascend from (starts raw) to → slice_get raw k ≡ Some u → u.at ≡ p → has p (unit_places raw) ≡ is_whole u.kind
unfolding unit_places
whole_at [] p from to k u up is at = absurd cc
whole_at (v ∷ raw) p from to zero u up is at =
    let same : v ≡ u = cc in
    subst (λ (w : RawUnit). has p (unit_places (v ∷ raw)) ≡ is_whole w.kind) same
    (let here : v.at ≡ p = ap (λ (w : RawUnit). w.at) same ∙ at in
    first_or v.kind v.at p (unit_places raw)
    ∙ cond-true (v.at == p) (if is_whole v.kind then true else has p (unit_places raw)) (has p (unit_places raw)) (eq-eqb v.at p here)
    ∙ ap (λ (b : Bool). if is_whole v.kind then true else b) (none_before raw p (v.at + 1) to (omega arith) up.1)
    ∙ by (is_whole v.kind)) where
      by : (b : Bool) → (if b then true else false) ≡ b
      by true = refl
      by false = refl
whole_at (v ∷ raw) p from to (suc k) u up is at =
    let low = start_low raw (v.at + 1) to k u up.1 is in
    behind_first v raw p (λ e. omega arith) ∙ whole_at raw p (v.at + 1) to k u up.1 is at

pub whole_there : (s : Source) (k p : ℕ) (x : UnitOfCode) → slice_get (shown_units (units_of s)) k ≡ Some x → x.at ≡ p → has p (unit_places (units_of s)) ≡ not (x.kind == 3)
unfolding units_of
whole_there s k p x e at =
    let raw = units_of s in
    let t = unit_there raw 0 k x e in
    let up = read_ascend s.abbrevs (mode_of s.kind s.room) s.info (units_at s.abbrevs (mode_of s.kind s.room) 0 (input s.info 0)) refl in
    whole_at raw p 0 (0 + length s.info) k t.0 up t.1 (ap (λ (w : UnitOfCode). w.at) t.3 ∙ at) ∙ ap (λ (w : UnitOfCode). not (w.kind == 3)) t.3
