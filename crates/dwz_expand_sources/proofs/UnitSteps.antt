-- Unit by unit: what is added of each, and what is left of all.
use Rattle.std.proofs.Common.{◌≡◌, ℕ, zero, suc, ◌+◌, ◌<◌, ◌≤◌, Bool, true, false, List, [], ◌∷◌, ◌++◌, length, drop, map, Some, slice_get, refl, sym, ap, ◌∙◌, arith}
use Rattle.std.specs.Prelude.{if◌then◌else◌, slice_index_or, ◌==◌}
use Rattle.std.proofs.lemmas.Bool.{eq-eqb, ne_eqb}
use Rattle.std.proofs.lemmas.List.{drop_all}
use Rattle.dwz_def_reading.specs.Lists.{Each}
use Rattle.dwz_def_reading.specs.Trees.{size}
use Rattle.dwz_def_reading.specs.Units.{RawUnit, entries_in, entry_count}
use Rattle.dwz_def_reading.proofs.ListFacts.{drop_here, got_below}
use Rattle.dwz_unit.specs.declared.rows.RawEntry.{RawEntry as EntryOfCode}
use Rattle.dwz_unit.specs.declared.rows.RawUnit.{RawUnit as UnitOfCode}
use Rattle.dwz_unit.specs.Rows.{kind_number, shown_entries, shown_from, shown_units, unit_shown}
use Rattle.dwz_graph.proofs.UnitBuilding.{NextUnit, kind_in, kind_is, next_unit}
use Rattle.dwz_graph.proofs.UnitThere.{same_unit}
use Rattle.dwz_unit.proofs.UnitThere.{root_ends, unit_ends, unit_there}
use Rattle.dwz_expand_sources.specs.declared.sources.NewUnit.{NewUnit}
use Rattle.dwz_expand_sources.specs.declared.sources.SourceRange.{SourceRange}
use Rattle.dwz_expand_sources.specs.Building.{Known, kept_ranges, part_ranges, range_if, ranges_in, stored_shape, with_new, with_unit, with_units}
use Rattle.dwz_expand_sources.specs.Sources.{Sources}

-- behind n units: where the next one's root is, and what is left
pub record UnitsGo (k : Known) (raw : List RawUnit) (old : Sources) (n : ℕ) (x : Sources) : Type 0 where
  pub first : ℕ
  pub shown : drop n (shown_units raw) ≡ shown_from (drop n raw) first
  pub built : with_units k n first (map stored_shape (drop n raw)) x ≡ with_units k 0 0 (map stored_shape raw) old

module _ (k : Known) (raw : List RawUnit) (old : Sources) where
  pub units_begin : UnitsGo k raw old 0 old
  units_begin = record { first = 0; shown = refl; built = refl }

  pub units_on : (n : ℕ) (x new : Sources) (v : UnitOfCode) → UnitsGo k raw old n x → slice_get (shown_units raw) n ≡ Some v
      → ((u : RawUnit) → slice_get raw n ≡ Some u → new ≡ with_unit k n v.first (stored_shape u) x) → UnitsGo k raw old (n + 1) new
  unfolding with_units
  units_on n x new v g shown made =
      let u = next_unit raw n g.first v g.shown shown in
      let first = g.first in
      let same : new ≡ with_unit k n first (stored_shape u.u) x = made u.u u.found ∙ ap (λ (r : ℕ). with_unit k n r (stored_shape u.u) x) u.at in
      let here : with_units k n first (map stored_shape (drop n raw)) x
      ≡ with_units k (n + 1) (first + entry_count u.u) (map stored_shape (drop (n + 1) raw)) (with_unit k n first (stored_shape u.u) x) =
      ap (λ (w : List RawUnit). with_units k n first (map stored_shape w) x) u.rest in
      record {
        first = first + entry_count u.u;
        shown = u.shown;
        built = (λ j. with_units k (n + 1) (first + entry_count u.u) (map stored_shape (drop (n + 1) raw)) (same j)) ∙ sym here ∙ g.built;
      }

  pub units_end : (n : ℕ) (x : Sources) → UnitsGo k raw old n x → length raw ≤ n → x ≡ with_units k 0 0 (map stored_shape raw) old
  unfolding with_units
  units_end n x g le = sym (ap (λ (w : List RawUnit). with_units k n g.first (map stored_shape w) x) (drop_all n raw le)) ∙ g.built

-- where the root with that number ends
pub root_end : (raw : List RawUnit) (n : ℕ) (x : UnitOfCode) (e : EntryOfCode) (u : RawUnit) → slice_get (shown_units raw) n ≡ Some x → slice_get (shown_entries raw) x.first ≡ Some e
    → slice_get raw n ≡ Some u → e.end ≡ x.first + entry_count u
root_end raw n x e u shown entry found =
    let t = unit_there raw n x shown in
    let same = same_unit raw n t.u u t.is_unit found in
    root_ends raw n x e t entry ∙ ap (λ (w : RawUnit). x.first + entry_count w) same

-- it has an entry at least, and all are there
pub record RootRoom (raw : List RawUnit) (x : UnitOfCode) (e : EntryOfCode) : Type 0 where
  pub some : x.first < e.end
  pub within : e.end ≤ entries_in raw

pub root_room : (raw : List RawUnit) (n : ℕ) (x : UnitOfCode) (e : EntryOfCode) → slice_get (shown_units raw) n ≡ Some x → slice_get (shown_entries raw) x.first ≡ Some e → RootRoom raw x e
root_room raw n x e shown entry =
    let t = unit_there raw n x shown in
    let a = root_ends raw n x e t entry in
    let b = unit_ends raw n x t in
    record { some = omega arith; within = omega arith }

-- ---- what is added of one unit

pub each_at : (P : List ℕ → Type 0) (lists : List (List ℕ)) (n : ℕ) → Each P lists → n < length lists → P (slice_index_or lists n [])
each_at P [] n h lt = absurd (omega arith)
each_at P (x ∷ lists) zero h lt = h.0
each_at P (x ∷ lists) (suc n) h lt = each_at P lists n h.1 (omega arith)

module _ (raw : List RawUnit) (n : ℕ) (x : UnitOfCode) (e : EntryOfCode) (shown : slice_get (shown_units raw) n ≡ Some x) (entry : slice_get (shown_entries raw) x.first ≡ Some e) where
  pub number_there : n < length raw
  number_there = let t = unit_there raw n x shown in got_below raw n t.u t.is_unit

  module _ (u : RawUnit) (found : slice_get raw n ≡ Some u) (k : Known) where
    kind_same : kind_number u.kind ≡ x.kind
    kind_same = ap kind_in (kind_is raw n x u shown found)

    abbrev kept : List SourceRange
    kept = kept_ranges k.importing (x.first + 1) (x.first + 1) u.below ++ part_ranges k.spans (slice_index_or k.imports n [])

    abbrev plain : List SourceRange
    plain = range_if (x.first + 1) (x.first + 1 + size u.below)

    pub ranges_plain : (x.kind ≡ 1 → ⊥) → range_if (x.first + 1) e.end ≡ ranges_in k n x.first (stored_shape u)
    ranges_plain other =
        let no : (kind_number u.kind == 1) ≡ false = ne_eqb (kind_number u.kind) 1 (λ one. other (sym kind_same ∙ one)) in
        let to : e.end ≡ x.first + 1 + size u.below = (let end = root_end raw n x e u shown entry found in omega arith) in
        ap (range_if (x.first + 1)) to ∙ sym (ap (λ (b : Bool). if b then kept else plain) no)

    pub ranges_compile : x.kind ≡ 1 → kept_ranges k.importing (x.first + 1) (x.first + 1) u.below ++ part_ranges k.spans (slice_index_or k.imports n []) ≡ ranges_in k n x.first (stored_shape u)
    ranges_compile one = let yes : (kind_number u.kind == 1) ≡ true = eq-eqb (kind_number u.kind) 1 (kind_same ∙ one) in sym (ap (λ (b : Bool). if b then kept else plain) yes)

module _ (raw : List RawUnit) (n : ℕ) (x : UnitOfCode) (shown : slice_get (shown_units raw) n ≡ Some x) (u : RawUnit) (found : slice_get raw n ≡ Some u) (k : Known) (s : Sources) where
  kind_of : kind_number u.kind ≡ x.kind
  kind_of = ap kind_in (kind_is raw n x u shown found)

  abbrev new : Sources
  new = with_new n x.first (ranges_in k n x.first (stored_shape u)) s

  pub unit_partial : x.kind ≡ 3 → s ≡ with_unit k n x.first (stored_shape u) s
  unit_partial three = let yes : (kind_number u.kind == 3) ≡ true = eq-eqb (kind_number u.kind) 3 (kind_of ∙ three) in sym (ap (λ (b : Bool). if b then s else new) yes)

  pub unit_whole : (x.kind ≡ 3 → ⊥) → with_new n x.first (ranges_in k n x.first (stored_shape u)) s ≡ with_unit k n x.first (stored_shape u) s
  unit_whole other =
      let no : (kind_number u.kind == 3) ≡ false = ne_eqb (kind_number u.kind) 3 (λ three. other (sym kind_of ∙ three)) in
      sym (ap (λ (b : Bool). if b then s else new) no)

-- what was pushed of it
pub unit_put : (n root : ℕ) (added : List SourceRange) (s : Sources) (units new_units : List NewUnit) (ranges new_ranges : List SourceRange) (first end : ℕ)
    → record { units = units; ranges = ranges } ≡ s → new_ranges ≡ ranges ++ added → first ≡ length ranges → end ≡ length new_ranges
    → new_units ≡ units ++ record { unit = n; root = root; first = first; end = end } ∷ [] → record { units = new_units; ranges = new_ranges } ≡ with_new n root added s
unit_put n root added s units new_units ranges new_ranges first end is put from to pushed =
    let a : record { units = new_units; ranges = new_ranges } ≡ with_new n root added (record { units = units; ranges = ranges }) =
    (λ j. record { units = pushed j; ranges = put j })
    ∙ (λ j. record { units = units ++ record { unit = n; root = root; first = from j; end = (to ∙ ap (λ (w : List SourceRange). length w) put) j } ∷ []; ranges = ranges ++ added }) in
    a ∙ ap (with_new n root added) is
