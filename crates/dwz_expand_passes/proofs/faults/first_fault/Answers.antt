use Rattle.std.proofs.Common.{◌∙◌, ℕ, ◌<◌, ◌≤◌, List, Option, None, Err, length, get_or, ap, arith, refl, sym, subst}
use Rattle.std.proofs.lemmas.Result.{err_from_is_err_and}
use Rattle.dwz_def_expand.specs.Chosen.{choice, paths_at}
use Rattle.dwz_def_expand.specs.Refusals.{Site, with_numbers}
use Rattle.dwz_def_expand.specs.Source.{source_unit, source_units}
use Rattle.dwz_def_reading.specs.FirstOf.{OfFirst}
use Rattle.dwz_graph.specs.Here.{Here}
use Rattle.dwz_graph.specs.Surroundings.{sources_view}
use Rattle.dwz_expand_sources.specs.Imports.{same}
use Rattle.dwz_def_cross.specs.Tops.{units_with_common}
use Rattle.dwz_expand_sources.specs.declared.sources.NewUnit.{NewUnit}
use Rattle.dwz_expand_sources.specs.declared.sources.SourceRange.{SourceRange}
use Rattle.dwz_expand_sources.specs.Sources.{IsNewUnit}
use Rattle.dwz_expand_passes.specs.Faults.{AreReady, FirstRefusalIs, ValueRefusal}
use Rattle.dwz_expand_passes.specs.Files.{raw_in}
use Rattle.dwz_expand_passes.specs.Paths.{IsPathsOf}
use Rattle.dwz_expand_passes.proofs.FaultLemmas.{Nothing, flat_all, flat_answer, flat_none, flat_step, numbered, numbered_sites}
use Rattle.dwz_expand_passes.proofs.FaultSteps.{knows_at, new_at, number_at, numbers_many}
use Rattle.dwz_expand_passes.proofs.OperandLemmas.{each_at, got_or_default}
use Rattle.dwz_expand_passes.proofs.faults.first_fault.Goals as goal

pub loop-n-init : goal.loop-n-init
loop-n-init c = record {
  ready = c.requires;
  paths = subst (λ (o : Option ℕ). IsPathsOf (paths_at (sources_view c.args.own.now.sections.now) o) c.in_ok-paths.paths) (sym c.in_ok-paths.ensures.place) c.in_ok-paths.ensures.rows;
  none = λ w keys stands know are. flat_none (ValueRefusal w (choice same w (sources_view c.args.own.now.sections.now)) stands) numbered_sites (with_numbers 0 (source_units same w)) 0 refl;
}

pub loop-n-preserved : goal.loop-n-preserved
loop-n-preserved c =
    let r = c.loop-n.invariant.ready in
    record {
      ready = record { own_ready = r.own_ready; refs = r.refs; common_ready = r.common_ready; units = r.units; copies = c.enter.ensures.copies; many = c.enter.ensures.entries ∙ r.many; few = r.few };
      paths = subst (λ (o : Option ℕ). IsPathsOf (paths_at (sources_view c.args.own.now.sections.now) o) c.in_ok-paths-2.paths) (sym c.in_ok-paths-2.ensures.place) c.in_ok-paths-2.ensures.rows;
      none = λ w keys stands know are. (
          let s = c.args.sources.now in
          let n = c.loop-n.n in
          let none : NewUnit = record { unit = 0; root = 0; first = 0; end = 0 } in
          let nowhere : Here = record { number = 0; at = 0; first = 0; end = 0; offsets = None; lists = None; line = None } in
          let x = get_or s.units n none in
          let own = c.args.own.now in
          let us = with_numbers 0 (source_units same w) in
          let units = c.units-units.ensures in
          let lt : n < length s.units = (let t = c.loop-n-test.true in let m = ap (λ (xs : List NewUnit). length xs) units in omega (arith, t, m)) in
          let there = got_or_default s.units n none lt in
          let a = new_at w s are n x there in
          let r = c.loop-n.invariant.ready in
          let entered : AreReady own c.args.common.now s c.args.numbers.now.roots c.enter.new.self =
          record { own_ready = r.own_ready; refs = r.refs; common_ready = r.common_ready; units = r.units; copies = c.enter.ensures.copies; many = c.enter.ensures.entries ∙ r.many; few = r.few } in
          let in_raw = each_at (λ (y : NewUnit). y.unit < length (raw_in own)) s.units n x r.units there in
          let heres = r.own_ready.heres.many in
          let here = got_or_default own.heres.now x.unit nowhere (omega (arith, in_raw, heres)) in
          let paths = subst (λ (xs : List NewUnit). IsPathsOf (paths_at (sources_view own.sections.now) (get_or own.heres.now (get_or xs n none).unit nowhere).line) c.in_ok-paths-2.paths) units
          c.in_ok-paths-2.ensures.rows in
          let is_new : IsNewUnit w c.ranges-in-loop-n.result.now (get_or c.units-units.result.now n none) a.u =
          subst (λ (z : List SourceRange × List NewUnit). IsNewUnit w z.0 (get_or z.1 n none) a.u) (λ i. (sym c.ranges-in-loop-n.ensures i, sym units i)) a.is in
          flat_step (ValueRefusal w (choice same w (sources_view own.sections.now)) stands) numbered_sites us n _ (number_at w s are n x a) (c.loop-n.invariant.none w keys stands know are)
          (c.in_ok-check_unit.ensures w keys stands a.u (source_unit same (units_with_common w) a.u)
          (knows_at _ w keys stands s c.args.numbers.now.roots are x (get_or own.heres.now x.unit nowhere) know entered c.enter.ensures.unit there here paths) is_new refl));
    }

pub returns-in_err-check_unit : goal.returns-in_err-check_unit
returns-in_err-check_unit c = λ w keys stands know are. (
    let s = c.args.sources.now in
    let n = c.loop-n.n in
    let none : NewUnit = record { unit = 0; root = 0; first = 0; end = 0 } in
    let nowhere : Here = record { number = 0; at = 0; first = 0; end = 0; offsets = None; lists = None; line = None } in
    let x = get_or s.units n none in
    let own = c.args.own.now in
    let us = with_numbers 0 (source_units same w) in
    let units = c.units-units.ensures in
    let lt : n < length s.units = (let t = c.loop-n-test.true in let m = ap (λ (xs : List NewUnit). length xs) units in omega (arith, t, m)) in
    let there = got_or_default s.units n none lt in
    let a = new_at w s are n x there in
    let r = c.loop-n.invariant.ready in
    let entered : AreReady own c.args.common.now s c.args.numbers.now.roots c.enter.new.self =
    record { own_ready = r.own_ready; refs = r.refs; common_ready = r.common_ready; units = r.units; copies = c.enter.ensures.copies; many = c.enter.ensures.entries ∙ r.many; few = r.few } in
    let in_raw = each_at (λ (y : NewUnit). y.unit < length (raw_in own)) s.units n x r.units there in
    let heres = r.own_ready.heres.many in
    let here = got_or_default own.heres.now x.unit nowhere (omega (arith, in_raw, heres)) in
    let paths = subst (λ (xs : List NewUnit). IsPathsOf (paths_at (sources_view own.sections.now) (get_or own.heres.now (get_or xs n none).unit nowhere).line) c.in_ok-paths-2.paths) units
    c.in_ok-paths-2.ensures.rows in
    let is_new : IsNewUnit w c.ranges-in-loop-n.result.now (get_or c.units-units.result.now n none) a.u =
    subst (λ (z : List SourceRange × List NewUnit). IsNewUnit w z.0 (get_or z.1 n none) a.u) (λ i. (sym c.ranges-in-loop-n.ensures i, sym units i)) a.is in
    let p = err_from_is_err_and c.from_residual-in_err-check_unit.result c.from_residual-in_err-check_unit.ensures.1 in
    let Has = ValueRefusal w (choice same w (sources_view own.sections.now)) stands in
    rw (p.1, p.2) (subst (λ (z : List (Site ℕ)). FirstRefusalIs {Y = Unit {0}} Has z (Err c.in_err-check_unit.field-0.0)) (sym (numbered 0 (source_units same w)))
    (flat_answer Has numbered_sites us n _ c.in_err-check_unit.field-0.0 (number_at w s are n x a) (c.loop-n.invariant.none w keys stands know are)
    (c.in_err-check_unit.ensures w keys stands a.u (source_unit same (units_with_common w) a.u)
    (knows_at _ w keys stands s c.args.numbers.now.roots are x (get_or own.heres.now x.unit nowhere) know entered c.enter.ensures.unit there here paths) is_new refl))))

pub returns : goal.returns
returns c = λ w keys stands know are. (
    let n = c.loop-n.n in
    let s = c.args.sources.now in
    let units = c.units-units.ensures in
    let many = numbers_many w s are in
    let le : length s.units ≤ n = (let t = c.loop-n-test.false in let m = ap (λ (xs : List NewUnit). length xs) units in omega (arith, t, m)) in
    let Has = ValueRefusal w (choice same w (sources_view c.args.own.now.sections.now)) stands in
    subst (λ (z : List (Site ℕ)). Nothing (OfFirst Has z)) (sym (numbered 0 (source_units same w)))
    (flat_all Has numbered_sites (with_numbers 0 (source_units same w)) n (omega (arith, le, many)) (c.loop-n.invariant.none w keys stands know are)))
