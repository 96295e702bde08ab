-- Where units begin and end: what was added, and what is left.
use Rattle.std.proofs.Common.{◌≡◌, ℕ, ◌+◌, ◌≤◌, List, [], ◌∷◌, ◌++◌, length, drop, map, Some, slice_get, refl, sym, ap, subst, ◌∙◌, arith}
use Rattle.std.proofs.lemmas.List.{append-nil, append_assoc, drop_all, length-append, length-map, map-append}
use Rattle.dwz_def_reading.specs.Trees.{size}
use Rattle.dwz_def_reading.specs.Units.{RawUnit, entries_in, entry_count}
use Rattle.dwz_unit.specs.declared.rows.RawEntry.{RawEntry as EntryOfCode}
use Rattle.dwz_unit.specs.declared.rows.RawUnit.{RawUnit as UnitOfCode}
use Rattle.dwz_unit.specs.Rows.{shown_entries, shown_from, shown_units}
use Rattle.dwz_expand_sources.specs.declared.spans.UnitSpan.{UnitSpan}
use Rattle.dwz_expand_sources.specs.Building.{AreSpans, Shape, shape_count, spans_from, stored_shape, unit_span}
use Rattle.dwz_expand_sources.proofs.Shapes.{spans_append, spans_long, stored_count}
use Rattle.dwz_graph.proofs.UnitBuilding.{next_unit}
use Rattle.dwz_expand_sources.proofs.UnitSteps.{root_end}

pub record SpansGo (raw : List RawUnit) (before : ℕ) (old : List UnitSpan) (n : ℕ) (now : List UnitSpan) : Type 0 where
  pub first : ℕ
  pub shown : drop n (shown_units raw) ≡ shown_from (drop n raw) first
  pub built : now ++ spans_from (before + first) (map stored_shape (drop n raw)) ≡ old ++ spans_from before (map stored_shape raw)

module _ (raw : List RawUnit) (before : ℕ) (old : List UnitSpan) where
  pub spans_begin : SpansGo raw before old 0 old
  spans_begin =
      let e : before + 0 ≡ before = omega arith in
      record { first = 0; shown = refl; built = ap (λ (r : ℕ). old ++ spans_from r (map stored_shape raw)) e }

  pub spans_on : (n : ℕ) (now new : List UnitSpan) (v : UnitOfCode) (e : EntryOfCode) → SpansGo raw before old n now → slice_get (shown_units raw) n ≡ Some v
      → slice_get (shown_entries raw) v.first ≡ Some e → new ≡ now ++ unit_span (before + v.first) (before + e.end) ∷ [] → SpansGo raw before old (n + 1) new
  unfolding spans_from
  spans_on n now new v e g shown entry put =
      let u = next_unit raw n g.first v g.shown shown in
      let first = g.first in
      let at = u.at in
      let end = root_end raw n v e u.u shown entry u.found in
      let root : before + v.first ≡ before + first = omega arith in
      let to : before + e.end ≡ before + first + entry_count u.u = omega arith in
      let next : before + (first + entry_count u.u) ≡ before + first + entry_count u.u = omega arith in
      let left = spans_from (before + first + entry_count u.u) (map stored_shape (drop (n + 1) raw)) in
      let here : spans_from (before + first) (map stored_shape (drop n raw)) ≡ unit_span (before + first) (before + first + entry_count u.u) ∷ left =
      ap (λ (w : List RawUnit). spans_from (before + first) (map stored_shape w)) u.rest in
      record {
        first = first + entry_count u.u;
        shown = u.shown;
        built = (λ j. put j ++ spans_from (next j) (map stored_shape (drop (n + 1) raw)))
            ∙ append_assoc now (unit_span (before + v.first) (before + e.end) ∷ []) left
            ∙ (λ j. now ++ (unit_span (root j) (to j) ∷ left))
            ∙ ap (λ (w : List UnitSpan). now ++ w) (sym here)
            ∙ g.built;
      }

  pub spans_end : (n : ℕ) (now : List UnitSpan) → SpansGo raw before old n now → length raw ≤ n → now ≡ old ++ spans_from before (map stored_shape raw)
  unfolding spans_from
  spans_end n now g le =
      sym (append-nil now) ∙ ap (λ (w : List RawUnit). now ++ spans_from (before + g.first) (map stored_shape w)) (sym (drop_all n raw le)) ∙ g.built

-- those of two files
pub both_spans : (own others : List RawUnit) (old mid new : List UnitSpan) → old ≡ [] → mid ≡ old ++ spans_from 0 (map stored_shape own)
    → new ≡ mid ++ spans_from (entries_in own) (map stored_shape others) → new ≡ spans_from 0 (map stored_shape (own ++ others))
both_spans own others old mid new none a b =
    let first : mid ≡ spans_from 0 (map stored_shape own) = a ∙ ap (λ (w : List UnitSpan). w ++ spans_from 0 (map stored_shape own)) none in
    let count : entries_in own ≡ 0 + shape_count (map stored_shape own) = omega (arith, stored_count own) in
    b ∙ (λ j. first j ++ spans_from (count j) (map stored_shape others)) ∙ sym (spans_append 0 (map stored_shape own) (map stored_shape others))
    ∙ ap (spans_from 0) (sym (map-append stored_shape own others))

-- each has its root
pub each_rooted : {E : Type 0} (root : ℕ) (shapes : List (Shape E)) → AreSpans (spans_from root shapes)
unfolding spans_from
each_rooted root [] = tt
each_rooted root (s ∷ shapes) = (omega arith, each_rooted (root + (size s.below + 1)) shapes)

pub spans_many : (own others : List RawUnit) (spans : List UnitSpan) → spans ≡ spans_from 0 (map stored_shape (own ++ others)) → length spans ≡ length own + length others
spans_many own others spans e =
    ap (λ (w : List UnitSpan). length w) e ∙ spans_long 0 (map stored_shape (own ++ others)) ∙ length-map (own ++ others) stored_shape ∙ length-append own others

pub spans_rooted : (own others : List RawUnit) (spans : List UnitSpan) → spans ≡ spans_from 0 (map stored_shape (own ++ others)) → AreSpans spans
spans_rooted own others spans e = subst AreSpans (sym e) (each_rooted 0 (map stored_shape (own ++ others)))
