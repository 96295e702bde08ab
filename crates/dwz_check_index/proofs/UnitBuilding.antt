-- Unit by unit: what is built, and what is left of all units.
use Rattle.std.proofs.Common.{◌≡◌, ℕ, suc, ◌+◌, ◌≤◌, List, [], ◌∷◌, ◌++◌, length, drop, Some, slice_get, refl, sym, ap, subst, ◌∙◌, arith}
use Rattle.std.proofs.lemmas.List.{drop_all, length-append}
use Rattle.dwz_def_reading.specs.Trees.{size}
use Rattle.dwz_def_reading.specs.Units.{CompileUnit, PartialUnit, RawKind, RawUnit, TypeUnit, entries_in, entry_count}
use Rattle.dwz_def_reading.proofs.ListFacts.{drop_here}
use Rattle.dwz_unit.specs.declared.rows.RawUnit.{RawUnit as UnitOfCode}
use Rattle.dwz_unit.specs.Rows.{shown_from, shown_units, unit_shown}
use Rattle.dwz_unit.proofs.UnitThere.{unit_there}
use Rattle.dwz_graph.proofs.UnitBuilding.{NextUnit, kind_in, kind_is, next_unit}
use Rattle.dwz_graph.specs.Spaces.{stored_space}
use Rattle.dwz_check_index.specs.declared.index.Stands.{Stands}
use Rattle.dwz_check_index.specs.declared.index.Stands.TheVariants.{InTop, PartialRoot, PartialSpace, UnitRoot, UnitSpace}
use Rattle.dwz_check_index.specs.Building.{IsFew, step, whole_after, whole_behind, with_below, with_outer, with_root, with_start, with_top, with_unit, with_units}
use Rattle.dwz_check_index.specs.Index.{CrossIndex}
use Rattle.dwz_check_index.proofs.BelowBuilding.{steps_long}
use Rattle.dwz_check_index.proofs.ListBuilding.{few_list, few_more, few_outer, few_top, list_long, starts_kept}

-- ---- the kind of a unit

module _ (raw : List RawUnit) (n : ℕ) (x : UnitOfCode) (u : RawUnit) (shown : slice_get (shown_units raw) n ≡ Some x) (found : slice_get raw n ≡ Some u) where
  kind_same : kind_in (unit_shown x.first u) ≡ x.kind
  kind_same = ap kind_in (kind_is raw n x u shown found)

  pub of_compile : (unit whole : ℕ) (w : CrossIndex) → x.kind ≡ 1 → with_root unit (UnitRoot whole) (UnitSpace whole) x.first u.below w ≡ with_below unit whole x.first u.kind u.below w
  of_compile unit whole w one = by u.kind (kind_same ∙ one) where
    by : (k : RawKind) → kind_in (unit_shown x.first (record u { kind = k })) ≡ 1
        → with_root unit (UnitRoot whole) (UnitSpace whole) x.first u.below w ≡ with_below unit whole x.first k u.below w
    by CompileUnit e = refl
    by (TypeUnit signature type_offset) e = absurd (omega (arith, e))
    by PartialUnit e = absurd (omega (arith, e))

  pub of_partial : (unit whole : ℕ) (w : CrossIndex) → x.kind ≡ 3 → with_root unit PartialRoot PartialSpace x.first u.below w ≡ with_below unit whole x.first u.kind u.below w
  of_partial unit whole w three = by u.kind (kind_same ∙ three) where
    by : (k : RawKind) → kind_in (unit_shown x.first (record u { kind = k })) ≡ 3
        → with_root unit PartialRoot PartialSpace x.first u.below w ≡ with_below unit whole x.first k u.below w
    by CompileUnit e = absurd (omega (arith, e))
    by (TypeUnit signature type_offset) e = absurd (omega (arith, e))
    by PartialUnit e = refl

  pub of_type : (unit whole : ℕ) (w : CrossIndex) → (x.kind ≡ 1 → ⊥) → (x.kind ≡ 3 → ⊥) → with_top unit x.first x.first u.below w ≡ with_below unit whole x.first u.kind u.below w
  of_type unit whole w one three = by u.kind kind_same where
    by : (k : RawKind) → kind_in (unit_shown x.first (record u { kind = k })) ≡ x.kind → with_top unit x.first x.first u.below w ≡ with_below unit whole x.first k u.below w
    by CompileUnit e = absurd (one (sym e))
    by (TypeUnit signature type_offset) e = refl
    by PartialUnit e = absurd (three (sym e))

  whole_same : (whole : ℕ) → whole_after x.kind whole ≡ whole_behind u.kind whole
  whole_same whole = ap (λ (k : ℕ). whole_after k whole) (sym kind_same) ∙ by u.kind where
    by : (k : RawKind) → whole_after (kind_in (unit_shown x.first (record u { kind = k }))) whole ≡ whole_behind k whole
    by CompileUnit = (let e : whole + 1 ≡ suc whole = omega arith in e)
    by (TypeUnit signature type_offset) = (let e : whole + 1 ≡ suc whole = omega arith in e)
    by PartialUnit = refl

whole_few : (k : RawKind) (whole n : ℕ) → whole ≤ n → whole_behind k whole ≤ n + 1
whole_few CompileUnit whole n le = omega arith
whole_few (TypeUnit signature type_offset) whole n le = omega arith
whole_few PartialUnit whole n le = omega arith

-- ---- how many tops and roots

pub few_start : (first : ℕ) (x : CrossIndex) → IsFew x first → IsFew (with_start x) first
few_start first x h = record { tops = h.tops; lone = h.lone }

pub few_unit : (unit whole first : ℕ) (u : RawUnit) (x : CrossIndex) → IsFew x first → IsFew (with_unit unit whole first u x) (first + entry_count u)
few_unit unit whole first u x h = by u.kind where
  rooted : (root space : Stands) → IsFew (with_root unit root space first u.below (with_start x)) (first + entry_count u)
  rooted root space =
      few_more (with_root unit root space first u.below (with_start x)) (first + 1 + size u.below) (first + entry_count u) (omega arith)
      (few_list stored_space unit space first 0 (first + 1) u.below (with_outer root first 0 first (with_start x)) (few_outer root first 0 first (with_start x) (few_start first x h)))

  by : (k : RawKind) → IsFew (with_below unit whole first k u.below (with_start x)) (first + entry_count u)
  by CompileUnit = rooted (UnitRoot whole) (UnitSpace whole)
  by PartialUnit = rooted PartialRoot PartialSpace
  by (TypeUnit signature type_offset) = few_more (with_top unit first first u.below (with_start x)) (first + 1) (first + entry_count u) (omega arith)
      (few_top unit first first u.below (with_start x) (few_start first x h))

pub unit_starts : (unit whole first : ℕ) (u : RawUnit) (x : CrossIndex) → (with_unit unit whole first u x).starts ≡ x.starts
unit_starts unit whole first u x = by u.kind where
  by : (k : RawKind) → (with_below unit whole first k u.below (with_start x)).starts ≡ x.starts
  by CompileUnit = starts_kept stored_space unit (UnitSpace whole) first 0 (first + 1) u.below (with_outer (UnitRoot whole) first 0 first (with_start x))
  by PartialUnit = starts_kept stored_space unit PartialSpace first 0 (first + 1) u.below (with_outer PartialRoot first 0 first (with_start x))
  by (TypeUnit signature type_offset) = refl

-- ---- the loop over units

-- behind n units: where the next one's root is, and what is left
pub record UnitsGo (raw : List RawUnit) (old : CrossIndex) (n whole : ℕ) (x : CrossIndex) : Type 0 where
  pub first : ℕ
  pub shown : drop n (shown_units raw) ≡ shown_from (drop n raw) first
  pub few : IsFew x first
  pub starts : x.starts ≡ old.starts
  pub wholes : whole ≤ n
  pub built : with_units n whole first (drop n raw) x ≡ with_units 0 0 0 raw old

pub units_begin : (raw : List RawUnit) (old : CrossIndex) → IsFew old 0 → UnitsGo raw old 0 0 old
units_begin raw old few = record { first = 0; shown = refl; few = few; starts = refl; wholes = omega arith; built = refl }

pub first_is : (raw : List RawUnit) (old : CrossIndex) (n whole : ℕ) (x : CrossIndex) (v : UnitOfCode) → UnitsGo raw old n whole x → slice_get (shown_units raw) n ≡ Some v → IsFew x v.first
first_is raw old n whole x v g shown = let u = next_unit raw n g.first v g.shown shown in subst (IsFew x) (sym u.at) g.few

pub units_on : (raw : List RawUnit) (old : CrossIndex) (n whole more : ℕ) (x new : CrossIndex) (v : UnitOfCode) → UnitsGo raw old n whole x → slice_get (shown_units raw) n ≡ Some v
    → ((u : RawUnit) → slice_get raw n ≡ Some u → new ≡ with_unit n whole v.first u x) → more ≡ whole_after v.kind whole → UnitsGo raw old (n + 1) more new
unfolding with_units
units_on raw old n whole more x new v g shown made counted =
    let u = next_unit raw n g.first v g.shown shown in
    let first = g.first in
    let same : new ≡ with_unit n whole first u.u x = made u.u u.found ∙ ap (λ (k : ℕ). with_unit n whole k u.u x) u.at in
    let behind : more ≡ whole_behind u.u.kind whole = counted ∙ whole_same raw n v u.u shown u.found whole in
    let here : with_units n whole first (drop n raw) x ≡ with_units (n + 1) (whole_behind u.u.kind whole) (first + entry_count u.u) (drop (n + 1) raw) (with_unit n whole first u.u x) =
    ap (λ (w : List RawUnit). with_units n whole first w x) (drop_here raw n u.u u.found) in
    record {
      first = first + entry_count u.u;
      shown = u.shown;
      few = subst (λ (w : CrossIndex). IsFew w (first + entry_count u.u)) (sym same) (few_unit n whole first u.u x g.few);
      starts = ap (λ (w : CrossIndex). w.starts) same ∙ unit_starts n whole first u.u x ∙ g.starts;
      wholes = subst (λ (k : ℕ). k ≤ n + 1) (sym behind) (whole_few u.u.kind whole n g.wholes);
      built = (λ k. with_units (n + 1) (behind k) (first + entry_count u.u) (drop (n + 1) raw) (same k)) ∙ sym here ∙ g.built;
    }

pub units_end : (raw : List RawUnit) (old : CrossIndex) (n whole : ℕ) (x : CrossIndex) → UnitsGo raw old n whole x → length raw ≤ n → x ≡ with_units 0 0 0 raw old
unfolding with_units
units_end raw old n whole x g le = sym (ap (λ (w : List RawUnit). with_units n whole g.first w x) (drop_all n raw le)) ∙ g.built

-- ---- how many ways up

unit_long : (unit whole first : ℕ) (u : RawUnit) (x : CrossIndex) → length (with_unit unit whole first u x).steps ≡ length x.steps + entry_count u
unit_long unit whole first u x = by u.kind where
  rooted : (root space : Stands) → length (with_root unit root space first u.below (with_start x)).steps ≡ length x.steps + entry_count u
  rooted root space =
      omega (arith, list_long stored_space unit space first 0 (first + 1) u.below (with_outer root first 0 first (with_start x)), length-append x.steps (step first 0 root ∷ []))

  by : (k : RawKind) → length (with_below unit whole first k u.below (with_start x)).steps ≡ length x.steps + entry_count u
  by CompileUnit = rooted (UnitRoot whole) (UnitSpace whole)
  by PartialUnit = rooted PartialRoot PartialSpace
  by (TypeUnit signature type_offset) =
      let stands = InTop (x.starts.top + length x.tops) in
      omega (arith, steps_long stands first 0 (first + 1) u.below (x.steps ++ step first 0 stands ∷ []), length-append x.steps (step first 0 stands ∷ []))

-- there is one for each entry
pub units_long : (unit whole first : ℕ) (raw : List RawUnit) (x : CrossIndex) → length (with_units unit whole first raw x).steps ≡ length x.steps + entries_in raw
unfolding with_units entries_in
units_long unit whole first [] x = omega arith
units_long unit whole first (u ∷ raw) x =
    omega (arith, units_long (unit + 1) (whole_behind u.kind whole) (first + entry_count u) raw (with_unit unit whole first u x), unit_long unit whole first u x)

pub few_units : (unit whole first : ℕ) (raw : List RawUnit) (x : CrossIndex) → IsFew x first → IsFew (with_units unit whole first raw x) (first + entries_in raw)
unfolding with_units entries_in
few_units unit whole first [] x h = few_more x first (first + 0) (omega arith) h
few_units unit whole first (u ∷ raw) x h =
    let y = with_unit unit whole first u x in
    let rest = few_units (unit + 1) (whole_behind u.kind whole) (first + entry_count u) raw y (few_unit unit whole first u x h) in
    few_more (with_units (unit + 1) (whole_behind u.kind whole) (first + entry_count u) raw y) (first + entry_count u + entries_in raw) (first + (entry_count u + entries_in raw)) (omega arith) rest
