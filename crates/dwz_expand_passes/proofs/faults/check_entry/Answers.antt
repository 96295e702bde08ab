use Rattle.std.proofs.Common.{Err, sym, subst}
use Rattle.dwz_model.specs.declared.fault.GraphErr.{GraphErr}
use Rattle.dwz_def_expand.specs.Refusals.{SiteFault, sites_of}
use Rattle.dwz_def_expand.specs.Source.{source_places}
use Rattle.dwz_expand_sources.specs.Imports.{same}
use Rattle.dwz_expand_passes.specs.Faults.{FirstRefusalIs, ValueRefusal, file_number}
use Rattle.dwz_expand_passes.specs.Files.{forms_of}
use Rattle.dwz_expand_passes.proofs.FaultLemmas.{none_in_one}
use Rattle.dwz_expand_passes.proofs.FaultSteps.{entry_err, entry_file}
use Rattle.dwz_expand_passes.proofs.faults.check_entry.Goals as goal

pub returns-in-Ok : goal.returns-in-Ok
returns-in-Ok c = λ w keys stands d know found. (
    let k = c.args.known.now in
    none_in_one (SiteFault same (source_places same w) (forms_of k w) stands) (λ p. file_number ((forms_of k w).role p)) k.unit d.0.at 0 d.0.attrs
    (c.in-Ok.ensures.copies w keys stands d know found).1)

pub returns-in-Err : goal.returns-in-Err
returns-in-Err c = λ w keys stands d know found. (
    let k = c.args.known.now in
    let file = entry_file k w keys stands know c.args.entry c.file_of.result d c.requires.there c.file_of.ensures.own c.file_of.ensures.other found in
    subst (λ (e : GraphErr). FirstRefusalIs {Y = Unit {0}} (ValueRefusal w (forms_of k w) stands) (sites_of k.unit d.0.at 0 d.0.attrs) (Err e)) (sym c.in_file.ensures)
    (entry_err k w keys stands know c.file_of.result d c.put_attrs.new.attrs.items c.put_attrs.new.operands.items c.in-Err.error file (c.in-Err.ensures.copies w keys stands d know found)))
