use Rattle.std.proofs.Common.{◌≡◌, ◌<◌, List, None, Some, length, slice_get, sym, subst, ◌∙◌, arith}
use Rattle.std.specs.Prelude.{slice_index_or}
use Rattle.dwz_graph.specs.Here.{Here}
use Rattle.dwz_expand_sources.specs.declared.sources.NewUnit.{NewUnit}
use Rattle.dwz_expand_passes.specs.Files.{raw_in}
use Rattle.dwz_expand_passes.proofs.KindLemmas.{here_there}
use Rattle.dwz_expand_passes.proofs.SaidLemmas.{all_many}
use Rattle.dwz_expand_passes.proofs.UnitLemmas.{got_item, knows_here, paths_told, planned_unit}
use Rattle.dwz_expand_passes.specs.Noted.{AreNotedOf}
use Rattle.dwz_expand_passes.specs.Passes.{Says}
use Rattle.dwz_expand_sources.specs.Walk.{sources_of}
use Rattle.dwz_model.proofs.ListFacts.{same_got}
use Rattle.std.proofs.lemmas.Result.{on_ok_weaker}
use Rattle.dwz_expand_passes.proofs.units.pass_here.Goals as goal

pub bounds-file-new : goal.bounds-file-new
bounds-file-new g c =
    let x = c.args.file.now in
    let none : NewUnit = record { unit = 0; root = 0; first = 0; end = 0 } in
    let found = got_item x.sources.now.units c.args.n none c.requires.unit in
    let there = subst (λ (us : List NewUnit). slice_get x.sources.now.units c.args.n ≡ Some (slice_index_or us c.args.n none)) (sym c.units.ensures) found in
    let lt = planned_unit x c.requires.ready.planned c.args.n (slice_index_or c.units.result.now c.args.n none) there in
    let many = c.requires.ready.own.heres.many in
    omega (arith, lt, many)

pub kind_of-kind-requires-clause-unit : goal.kind_of-kind-requires-clause-unit
kind_of-kind-requires-clause-unit g c =
    let x = c.args.file.now in
    let none : NewUnit = record { unit = 0; root = 0; first = 0; end = 0 } in
    let found = got_item x.sources.now.units c.args.n none c.requires.unit in
    let there = subst (λ (us : List NewUnit). slice_get x.sources.now.units c.args.n ≡ Some (slice_index_or us c.args.n none)) (sym c.units.ensures) found in
    planned_unit x c.requires.ready.planned c.args.n (slice_index_or c.units.result.now c.args.n none) there

pub pass_known-requires-clause-new : goal.pass_known-requires-clause-new
pass_known-requires-clause-new g c =
    let x = c.args.file.now in
    let none : NewUnit = record { unit = 0; root = 0; first = 0; end = 0 } in
    let found = got_item x.sources.now.units c.args.n none c.requires.unit in
    subst (λ (us : List NewUnit). slice_get x.sources.now.units c.args.n ≡ Some (slice_index_or us c.args.n none)) (sym c.units.ensures) found

pub pass_known-requires-clause-knows : goal.pass_known-requires-clause-knows
pass_known-requires-clause-knows g c = λ w stands says. (
    let x = c.args.file.now in
    let none : NewUnit = record { unit = 0; root = 0; first = 0; end = 0 } in
    let blank : Here = record { number = 0; at = 0; first = 0; end = 0; offsets = None; lists = None; line = None } in
    let found = got_item x.sources.now.units c.args.n none c.requires.unit in
    let there = subst (λ (us : List NewUnit). slice_get x.sources.now.units c.args.n ≡ Some (slice_index_or us c.args.n none)) (sym c.units.ensures) found in
    let new = slice_index_or c.units.result.now c.args.n none in
    let lt = planned_unit x c.requires.ready.planned c.args.n new there in
    let here = here_there (raw_in x.own) x.own.heres.now new.unit blank c.requires.ready.own.heres lt in
    let unit = c.requires.unit in
    let at = c.requires.here in
    let inside : c.args.copies.now.unit < length x.sources.now.units = omega (arith, unit, at) in
    let paths = paths_told x w stands says c.args.n new there (slice_index_or x.own.heres.now new.unit blank) lt here c.go_to.new.self.paths c.in_ok-go_to.ensures.paths in
    knows_here _ w stands x.sources.now c.requires.copies.0 says.own says.own_stands says.common says.are says.apart c.requires.copies.1
    (all_many x w stands says ∙ sym c.requires.many) inside at paths)

pub returns-clause-noted : goal.returns-clause-noted
returns-clause-noted g c =
    let x = c.args.file.now in
    let none : NewUnit = record { unit = 0; root = 0; first = 0; end = 0 } in
    let found = got_item x.sources.now.units c.args.n none c.requires.unit in
    let there = subst (λ (us : List NewUnit). slice_get x.sources.now.units c.args.n ≡ Some (slice_index_or us c.args.n none)) (sym c.units.ensures) found in
    let new = slice_index_or c.units.result.now c.args.n none in
    on_ok_weaker c.pass_known.result (λ p. (
      p.0,
      (λ y at. subst (λ (z : NewUnit). AreNotedOf (Says x) x.own x.common c.args.n (sources_of x.sources.now.ranges z) p.0) (same_got x.sources.now.units c.args.n new y there at) p.1),
      p.2,
    )) c.pass_known.ensures.noted
