use Rattle.std.specs.Prelude.{slice_index_or}
use Rattle.dwz_def_reading.specs.Units.{RawUnit}
use Rattle.dwz_def_reading.specs.declared.exprs.Operand.{Operand}
use Rattle.dwz_model.specs.declared.place.Base.TheVariants as Base
use Rattle.std.proofs.Common.{false, ◌+◌, None, refl, ap, subst, sym}
use Rattle.dwz_graph.proofs.UnitBuilding.{kind_is}
use Rattle.dwz_graph.specs.Here.{Here}
use Rattle.dwz_unit.specs.declared.rows.RawUnit.{RawUnit as UnitOfCode}
use Rattle.dwz_graph.specs.Resolved.{IsHere, scope_in}
use Rattle.dwz_expand_passes.specs.Files.{raw_in}
use Rattle.dwz_expand_passes.proofs.KindLemmas.{here_there, main_told}
use Rattle.dwz_model.proofs.ListFacts.{same_got}
use Rattle.dwz_expand_passes.proofs.kinds.main_of.Goals as goal

pub entry_of-requires : goal.entry_of-requires
entry_of-requires c =
    let none : Here = record { number = 0; at = 0; first = 0; end = 0; offsets = None; lists = None; line = None } in
    (here_there (raw_in c.args.file.now) c.args.file.now.heres.now c.args.unit none c.requires.ready.heres c.requires.unit).within

pub returns-clause-main : goal.returns-clause-main
returns-clause-main c = λ u found. (
    let none : Here = record { number = 0; at = 0; first = 0; end = 0; offsets = None; lists = None; line = None } in
    let raw = raw_in c.args.file.now in
    let h = here_there raw c.args.file.now.heres.now c.args.unit none c.requires.ready.heres c.requires.unit in
    let one = same_got raw c.args.unit h.u u h.is_unit found in
    let o : Operand = record { at = 0; width = 4; uleb = false; base = Base.Unit; number = c.unit.result.type_offset } in
    let kind = kind_is raw c.args.unit c.unit.result u c.unit.ensures found in
    main_told raw (scope_in c.args.file.now.sections.now raw u) u o c.entry_of.result (ap (λ (x : UnitOfCode). u.at + x.type_offset) (sym kind)) refl
    (c.entry_of.ensures.looks u (subst (λ (v : RawUnit). IsHere raw v (slice_index_or c.args.file.now.heres.now c.args.unit none)) one h.here)))
