-- Unit by unit: the list below a root, and what is left of all units.
use Rattle.std.proofs.Common.{◌≡◌, ℕ, zero, suc, ◌+◌, ◌<◌, ◌≤◌, List, [], ◌∷◌, ◌++◌, length, drop, Some, slice_get, refl, sym, ap, subst, ◌∙◌, arith}
use Rattle.std.proofs.lemmas.List.{append-nil, drop_all, drop_at, length-append}
use Rattle.dwz_def_reading.specs.Entries.{root_position}
use Rattle.dwz_def_reading.specs.Trees.{Position, behind, first_below, size}
use Rattle.dwz_def_reading.specs.Units.{CompileUnit, PartialUnit, RawKind, RawUnit, TypeUnit, entries_in, entry_count}
use Rattle.dwz_def_reading.proofs.ListFacts.{drop_first, drop_here}
use Rattle.dwz_unit.specs.declared.rows.RawEntry.{RawEntry as EntryOfCode}
use Rattle.dwz_unit.specs.declared.rows.RawUnit.{RawUnit as UnitOfCode}
use Rattle.dwz_unit.specs.Rows.{EntryRow, rows_below, rows_of, shown_entries, shown_from, shown_units, unit_shown}
use Rattle.dwz_graph_resolve.proofs.UnitThere.{same_unit}
use Rattle.dwz_unit.proofs.UnitThere.{UnitThere, root_ends, unit_ends, unit_there}
use Rattle.dwz_graph.specs.declared.index.SpaceEntry.{SpaceEntry}
use Rattle.dwz_graph.specs.declared.index.Starts.{Starts}
use Rattle.dwz_graph.specs.declared.index.Step.{Step}
use Rattle.dwz_graph.specs.declared.index.TopEntry.{TopEntry}
use Rattle.dwz_graph.specs.Building.{HasList, IsFew, IsList, with_below, with_list, with_steps, with_unit, with_units}
use Rattle.dwz_graph.specs.Index.{Index}
use Rattle.dwz_graph.specs.Steps.{step, steps_below}
use Rattle.dwz_graph.proofs.ListBuilding.{below_long, few_list, few_more, list_long, starts_kept}

-- ---- the list below a root

list_there : (raw : List RawUnit) (n : ℕ) (x : UnitOfCode) (e : EntryOfCode) (t : UnitThere (rows_of raw) raw 0 n x) → slice_get (shown_entries raw) x.first ≡ Some e
    → IsList raw (x.first + 1) e.end t.u.below
unfolding rows_below
list_there raw n x e t shown =
    let p : Position = root_position x.first in
    let below = rows_below t.u.below t.unit (first_below p) in
    let row : EntryRow = record { entry = t.u.root; unit = t.unit; depth = 1; end = (behind p t.u.below).before } in
    let many = t.many in
    let all : drop x.first (rows_of raw) ≡ row ∷ ((below ++ []) ++ t.after) = ap (drop x.first) t.rows ∙ drop_at t.before _ x.first (omega arith) in
    let d = drop_first (rows_of raw) x.first row ((below ++ []) ++ t.after) all in
    let end = root_ends raw n x e t shown in
    record {
      unit = t.unit;
      depth = 2;
      after = t.after;
      rows = d.1 ∙ ap (λ (w : List EntryRow). w ++ t.after) (append-nil below);
      ends = omega arith;
    }

pub unit_list : (raw : List RawUnit) (n : ℕ) (x : UnitOfCode) (e : EntryOfCode) (u : RawUnit) → slice_get (shown_units raw) n ≡ Some x → slice_get (shown_entries raw) x.first ≡ Some e
    → slice_get raw n ≡ Some u → IsList raw (x.first + 1) e.end u.below
unit_list raw n x e u shown entry found =
    let t = unit_there raw n x shown in
    subst (λ (v : RawUnit). IsList raw (x.first + 1) e.end v.below) (same_unit raw n t.u u t.is_unit found) (list_there raw n x e t entry)

pub some_list : (raw : List RawUnit) (n : ℕ) (x : UnitOfCode) (e : EntryOfCode) → slice_get (shown_units raw) n ≡ Some x → slice_get (shown_entries raw) x.first ≡ Some e
    → HasList raw (x.first + 1) e.end
some_list raw n x e shown entry =
    let t = unit_there raw n x shown in
    record { list = t.u.below; is = list_there raw n x e t entry }

pub root_within : (raw : List RawUnit) (n : ℕ) (x : UnitOfCode) → slice_get (shown_units raw) n ≡ Some x → x.first < entries_in raw
root_within raw n x shown =
    let t = unit_there raw n x shown in
    let all = unit_ends raw n x t in
    omega arith

number_from : (raw : List RawUnit) (before n : ℕ) (x : UnitOfCode) → slice_get (shown_from raw before) n ≡ Some x → before + n ≤ x.first
unfolding shown_from
number_from [] before n x e = absurd cc
number_from (u ∷ raw) before zero x e = let is : before ≡ x.first = (let same : unit_shown before u ≡ x = cc in ap (λ (w : UnitOfCode). w.first) same) in omega arith
number_from (u ∷ raw) before (suc n) x e = let r = number_from raw (before + entry_count u) n x e in omega arith

-- no unit has a greater number than its root
pub number_within : (raw : List RawUnit) (n : ℕ) (x : UnitOfCode) → slice_get (shown_units raw) n ≡ Some x → n ≤ x.first
number_within raw n x shown = let r = number_from raw 0 n x shown in omega arith

-- ---- the kind of a unit

pub kind_is : (raw : List RawUnit) (n : ℕ) (x : UnitOfCode) (u : RawUnit) → slice_get (shown_units raw) n ≡ Some x → slice_get raw n ≡ Some u → unit_shown x.first u ≡ x
kind_is raw n x u shown found =
    let t = unit_there raw n x shown in
    subst (λ (v : RawUnit). unit_shown x.first v ≡ x) (same_unit raw n t.u u t.is_unit found) t.shown

abbrev pub kind_in : UnitOfCode → ℕ
kind_in x = x.kind

pub below_compile : (raw : List RawUnit) (n : ℕ) (x : UnitOfCode) (u : RawUnit) (unit : ℕ) (w : Index) → slice_get (shown_units raw) n ≡ Some x → slice_get raw n ≡ Some u → x.kind ≡ 1
    → with_list unit 0 x.first 0 (x.first + 1) u.below w ≡ with_below unit x.first u.kind u.below w
below_compile raw n x u unit w shown found one = by u.kind (ap kind_in (kind_is raw n x u shown found) ∙ one) where
  by : (k : RawKind) → kind_in (unit_shown x.first (record u { kind = k })) ≡ 1 → with_list unit 0 x.first 0 (x.first + 1) u.below w ≡ with_below unit x.first k u.below w
  by CompileUnit e = refl
  by (TypeUnit signature type_offset) e = absurd (omega (arith, e))
  by PartialUnit e = absurd (omega (arith, e))

pub below_type : (raw : List RawUnit) (n : ℕ) (x : UnitOfCode) (u : RawUnit) (unit : ℕ) (w : Index) → slice_get (shown_units raw) n ≡ Some x → slice_get raw n ≡ Some u → (x.kind ≡ 1 → ⊥)
    → with_steps (steps_below 0 x.first 0 (x.first + 1) u.below) w ≡ with_below unit x.first u.kind u.below w
below_type raw n x u unit w shown found other = by u.kind (ap kind_in (kind_is raw n x u shown found)) where
  by : (k : RawKind) → kind_in (unit_shown x.first (record u { kind = k })) ≡ x.kind → with_steps (steps_below 0 x.first 0 (x.first + 1) u.below) w ≡ with_below unit x.first k u.below w
  by CompileUnit e = absurd (other (sym e))
  by (TypeUnit signature type_offset) e = refl
  by PartialUnit e = refl

-- ---- how many tops and spaces

pub few_unit : (unit first : ℕ) (u : RawUnit) (x : Index) → IsFew x first → IsFew (with_unit unit first u x) (first + entry_count u)
few_unit unit first u x h = by u.kind where
  opened : Index
  opened = with_steps (step first 0 0 ∷ []) x

  by : (k : RawKind) → IsFew (with_below unit first k u.below opened) (first + entry_count u)
  by CompileUnit =
      few_more (with_list unit 0 first 0 (first + 1) u.below opened) (first + 1 + size u.below) (first + entry_count u) (omega arith)
      (few_list unit 0 first 0 (first + 1) u.below opened (few_more opened first (first + 1) (omega arith) (record { tops = h.tops; spaces = h.spaces })))
  by (TypeUnit signature type_offset) = few_more (with_steps (steps_below 0 first 0 (first + 1) u.below) opened) first (first + entry_count u) (omega arith)
      (record { tops = h.tops; spaces = h.spaces })
  by PartialUnit = few_more (with_steps (steps_below 0 first 0 (first + 1) u.below) opened) first (first + entry_count u) (omega arith) (record { tops = h.tops; spaces = h.spaces })

unit_starts : (unit first : ℕ) (u : RawUnit) (x : Index) → (with_unit unit first u x).starts ≡ x.starts
unit_starts unit first u x = by u.kind where
  opened : Index
  opened = with_steps (step first 0 0 ∷ []) x

  by : (k : RawKind) → (with_below unit first k u.below opened).starts ≡ x.starts
  by CompileUnit = starts_kept unit 0 first 0 (first + 1) u.below opened
  by (TypeUnit signature type_offset) = refl
  by PartialUnit = refl

-- ---- the loop over units

-- behind n units: where the next one's root is, and what is left
pub record UnitsGo (raw : List RawUnit) (old : Index) (n : ℕ) (x : Index) : Type 0 where
  pub first : ℕ
  pub shown : drop n (shown_units raw) ≡ shown_from (drop n raw) first
  pub few : IsFew x first
  pub starts : x.starts ≡ old.starts
  pub built : with_units (old.starts.unit + n) first (drop n raw) x ≡ with_units old.starts.unit 0 raw old

pub units_begin : (raw : List RawUnit) (old : Index) → IsFew old 0 → UnitsGo raw old 0 old
units_begin raw old few =
    let none : old.starts.unit + 0 ≡ old.starts.unit = omega arith in
    record { first = 0; shown = refl; few = few; starts = refl; built = ap (λ (k : ℕ). with_units k 0 raw old) none }

-- the next unit
pub record NextUnit (raw : List RawUnit) (n first : ℕ) (x : UnitOfCode) : Type 0 where
  pub u : RawUnit
  pub found : slice_get raw n ≡ Some u
  pub at : x.first ≡ first
  pub shown : drop (n + 1) (shown_units raw) ≡ shown_from (drop (n + 1) raw) (first + entry_count u)
  pub rest : drop n raw ≡ u ∷ drop (n + 1) raw

pub next_unit : (raw : List RawUnit) (n first : ℕ) (x : UnitOfCode) → drop n (shown_units raw) ≡ shown_from (drop n raw) first → slice_get (shown_units raw) n ≡ Some x → NextUnit raw n first x
unfolding shown_from
next_unit raw n first x e shown =
    let t = unit_there raw n x shown in
    let here = drop_here raw n t.u t.is_unit in
    let there = drop_here (shown_units raw) n x shown in
    let both : x ∷ drop (n + 1) (shown_units raw) ≡ unit_shown first t.u ∷ shown_from (drop (n + 1) raw) (first + entry_count t.u) = sym there ∙ e
    ∙ ap (λ (w : List RawUnit). shown_from w first) here in
    let one : x ≡ unit_shown first t.u = cc in
    record { u = t.u; found = t.is_unit; at = ap (λ (w : UnitOfCode). w.first) one; shown = cc; rest = here }

pub first_is : (raw : List RawUnit) (old : Index) (n : ℕ) (x : Index) (v : UnitOfCode) → UnitsGo raw old n x → slice_get (shown_units raw) n ≡ Some v → IsFew x v.first
first_is raw old n x v g shown = let u = next_unit raw n g.first v g.shown shown in subst (IsFew x) (sym u.at) g.few

abbrev unit_number : ℕ → Starts → ℕ
unit_number n s = s.unit + n

pub units_on : (raw : List RawUnit) (old : Index) (n : ℕ) (x new : Index) (v : UnitOfCode) → UnitsGo raw old n x → slice_get (shown_units raw) n ≡ Some v
    → ((u : RawUnit) → slice_get raw n ≡ Some u → new ≡ with_unit (x.starts.unit + n) v.first u x) → UnitsGo raw old (n + 1) new
unfolding with_units
units_on raw old n x new v g shown made =
    let u = next_unit raw n g.first v g.shown shown in
    let first = g.first in
    let same : new ≡ with_unit (old.starts.unit + n) first u.u x = made u.u u.found ∙ (λ k. with_unit (unit_number n (g.starts k)) (u.at k) u.u x) in
    let more : old.starts.unit + (n + 1) ≡ old.starts.unit + n + 1 = omega arith in
    let here : with_units (old.starts.unit + n) first (drop n raw) x ≡ with_units (old.starts.unit + n + 1) (first + entry_count u.u) (drop (n + 1) raw) (with_unit (old.starts.unit + n) first u.u x) =
    ap (λ (w : List RawUnit). with_units (old.starts.unit + n) first w x) (drop_here raw n u.u u.found) in
    record {
      first = first + entry_count u.u;
      shown = u.shown;
      few = subst (λ (w : Index). IsFew w (first + entry_count u.u)) (sym same) (few_unit (old.starts.unit + n) first u.u x g.few);
      starts = ap (λ (w : Index). w.starts) same ∙ unit_starts (old.starts.unit + n) first u.u x ∙ g.starts;
      built = (λ k. with_units (more k) (first + entry_count u.u) (drop (n + 1) raw) (same k)) ∙ sym here ∙ g.built;
    }

pub units_end : (raw : List RawUnit) (old : Index) (n : ℕ) (x : Index) → UnitsGo raw old n x → length raw ≤ n → x ≡ with_units old.starts.unit 0 raw old
unfolding with_units
units_end raw old n x g le = sym (ap (λ (w : List RawUnit). with_units (old.starts.unit + n) g.first w x) (drop_all n raw le)) ∙ g.built

-- ---- what was pushed

abbrev index_of : List Step → List TopEntry → List SpaceEntry → Starts → Index
index_of steps tops spaces starts = record { steps = steps; tops = tops; spaces = spaces; starts = starts }

module _ (x : Index) (steps : List Step) (tops : List TopEntry) (spaces : List SpaceEntry) (starts : Starts) (is : index_of steps tops spaces starts ≡ x) where
  pub with_pushed : (pushed : List Step) (s : Step) → pushed ≡ steps ++ s ∷ [] → index_of pushed tops spaces starts ≡ with_steps (s ∷ []) x
  with_pushed pushed s e = (λ k. index_of (e k) tops spaces starts) ∙ ap (with_steps (s ∷ [])) is

  pub with_more : (pushed all : List Step) (s : Step) (more : List Step) → pushed ≡ steps ++ s ∷ [] → all ≡ pushed ++ more → index_of all tops spaces starts ≡ with_steps more (with_steps (s ∷ []) x)
  with_more pushed all s more e f = (λ k. index_of (f k) tops spaces starts) ∙ ap (with_steps more) (with_pushed pushed s e)

-- ---- how many ways up

unit_long : (unit first : ℕ) (u : RawUnit) (x : Index) → length (with_unit unit first u x).steps ≡ length x.steps + entry_count u
unit_long unit first u x = by u.kind where
  opened : Index
  opened = with_steps (step first 0 0 ∷ []) x

  one : length opened.steps ≡ length x.steps + 1
  one = length-append x.steps (step first 0 0 ∷ [])

  plain : length (with_steps (steps_below 0 first 0 (first + 1) u.below) opened).steps ≡ length x.steps + entry_count u
  plain = omega (arith, one, length-append opened.steps (steps_below 0 first 0 (first + 1) u.below), below_long 0 first 0 (first + 1) u.below)

  by : (k : RawKind) → length (with_below unit first k u.below opened).steps ≡ length x.steps + entry_count u
  by CompileUnit = omega (arith, one, list_long unit 0 first 0 (first + 1) u.below opened)
  by (TypeUnit signature type_offset) = plain
  by PartialUnit = plain

-- there is one for each entry
pub units_long : (unit first : ℕ) (raw : List RawUnit) (x : Index) → length (with_units unit first raw x).steps ≡ length x.steps + entries_in raw
unfolding with_units entries_in
units_long unit first [] x = omega arith
units_long unit first (u ∷ raw) x = omega (arith, units_long (unit + 1) (first + entry_count u) raw (with_unit unit first u x), unit_long unit first u x)

pub few_units : (unit first : ℕ) (raw : List RawUnit) (x : Index) → IsFew x first → IsFew (with_units unit first raw x) (first + entries_in raw)
unfolding with_units entries_in
few_units unit first [] x h = few_more x first (first + 0) (omega arith) h
few_units unit first (u ∷ raw) x h =
    let r = few_units (unit + 1) (first + entry_count u) raw (with_unit unit first u x) (few_unit unit first u x h) in
    few_more (with_units (unit + 1) (first + entry_count u) raw (with_unit unit first u x)) (first + entry_count u + entries_in raw) (first + (entry_count u + entries_in raw)) (omega arith) r
