-- The number of a row of operands leads to the row's entry: an entry stands behind the first byte of its unit.
use Rattle.std.proofs.Common.{◌≡◌, ℕ, ◌+◌, ◌-◌, ◌<◌, true, List, map, refl, sym, ap, subst, ◌∙◌, ⊎_elim, arith}
use Rattle.std.proofs.lemmas.Bool.{cases_lt}
use Rattle.dwz_model.specs.declared.place.Base.{Base}
use Rattle.dwz_model.specs.declared.place.Base.TheVariants.{Unit as FromUnit, Info as FromInfo}
use Rattle.dwz_def_reading.specs.Lists.{In}
use Rattle.dwz_def_reading.specs.Units.{RawUnit}
use Rattle.dwz_def_reading.proofs.ListFacts.{in_map}
use Rattle.dwz_def_reading.specs.Documents.{DwUnit}
use Rattle.dwz_def_reading.specs.Meanings.{Around, MeanUnits, Sources, alone, entries_for, expr_context, leads_to, places_of, scope_of, target_of}
use Rattle.dwz_def_reading.specs.NamedLists.{lists_of_units}
use Rattle.dwz_def_reading.specs.Shared.{AreRows, own_operands}
use Rattle.dwz_def_reading.proofs.MeaningLemmas.{has_in}
use Rattle.dwz_graph.specs.ListOperand.{ListOperand as Row}
use Rattle.dwz_graph.specs.ListRows.{number_for, operand_view, start_of}
use Rattle.dwz_graph.specs.Resolved.{place_at}
use Rattle.dwz_graph.proofs.PlaceLemmas.{unit_and_entries}
use Rattle.dwz_def_tops.specs.Lists.{NoneTwice}
use Rattle.dwz_def_encoding.specs.Meant.{led_to, place_counted}
use Rattle.dwz_def_output.proofs.ListsWritten.{owner}
use Rattle.dwz_move_files.proofs.ListNames.{list_from}
use Rattle.dwz_move_files.proofs.OperandNumbers.{list_stands, one_named}
use Rattle.dwz_move_files.proofs.RowNames.{unit_apart}

module _ (sources : Sources) (raw : List RawUnit) (said : List (DwUnit ℕ)) (means : MeanUnits (alone sources raw) raw said) (once : NoneTwice (unit_and_entries raw))
    (rows : List Row) (are : AreRows (lists_of_units (alone sources raw) raw) (map (operand_view raw) rows)) where
  abbrev around : Around ℕ
  around = alone sources raw

  before : (o : Row) → In o rows → o.base ≡ FromUnit → o.place.offset < start_of raw o.unit → ⊥
  before o there e lt =
      let view = operand_view raw o in
      let r = owner (lists_of_units around raw) view (are.from view (in_map (operand_view raw) o rows there)) in
      let l = r.list in
      let p = view.operand in
      let f = list_from around raw said means l r.there in
      let u = f.2.u in
      let s = scope_of around u in
      let good = list_stands sources.lists (expr_context s 7) l.list l.from f.2.is.stands in
      let named : (expr_context s 7).names p ≡ true = one_named sources.lists _ (own_operands l) good.0 p r.own in
      let number : p.number ≡ number_for FromUnit (start_of raw o.unit) o.place.offset = ap (λ (b : Base). number_for b (start_of raw o.unit) o.place.offset) e in
      let none : p.number ≡ 0 = omega (arith, number, lt) in
      let here : target_of s p ≡ u.at = (λ i. leads_to s (e i) (none i)) ∙ (let z : u.at + 0 ≡ u.at = omega arith in z) in
      let own : In (target_of s p) (entries_for s FromUnit) = subst (λ (b : Base). In (target_of s p) (entries_for s b)) e (has_in (target_of s p) (entries_for s p.base) named) in
      unit_apart raw once u f.2.in_raw (subst (λ (n : ℕ). In n (places_of u)) here own)

  pub row_led : (o : Row) → In o rows → place_at raw o.entry ≡ o.place.offset → led_to (start_of raw o.unit) (operand_view raw o).operand ≡ place_at raw o.entry
  row_led o there stand = by o.base refl ∙ sym stand where
    by : (b : Base) → o.base ≡ b → place_counted b (start_of raw o.unit) (number_for b (start_of raw o.unit) o.place.offset) ≡ o.place.offset
    by FromInfo e = refl
    by FromUnit e = ⊎_elim (λ lt. absurd (before o there e lt)) (λ ge. (let z : start_of raw o.unit + (o.place.offset - start_of raw o.unit) ≡ o.place.offset = omega (arith, ge) in z))
        (cases_lt o.place.offset (start_of raw o.unit))
