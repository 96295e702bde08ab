use Rattle.std.proofs.Common.{◌≡◌, List, ℕ, Option, Some, Err, ap, subst, ◌∙◌}
use Rattle.dwz_model.specs.declared.fault.ReadErr.TheVariants.{Refused}
use Rattle.dwz_def_output.specs.Changed.{changes_by}
use Rattle.dwz_elf.specs.Rebuilds.{Finishes}
use Rattle.dwz_def_output.specs.declared.new_file.NewFile.{NewFile}
use Rattle.dwz_run_output.specs.Making.{CanMake}
use Rattle.dwz_run_output.proofs.FileAnswers.{can_give, file_made, file_refused, view_of}
use Rattle.dwz_run_output.proofs.making.made_file.Goals as goal

pub returns-in-Ok : goal.returns-in-Ok
returns-in-Ok c k name r is can =
    let n = c.in-Some.new in
    let bytes = c.args.bytes.now in
    let sup = c.in_ok-own.own in
    let so = subst (λ (new : Option NewFile). CanMake k r c.args.file bytes new) c.in-Some.is can in
    let says = c.in_ok-own.ensures k name r c.args.file is so.is_new.imports in
    let made = file_made k name r c.args.file bytes n sup so says c.in-Ok.out.items (c.in-Ok.ensures (can_give k name r c.args.file bytes n sup so says)) in
    (made.0, ap (λ (b : List ℕ). Some b) c.new.ensures ∙ made.1)

pub returns-in-Err-Refused : goal.returns-in-Err-Refused
returns-in-Err-Refused c k name r is can =
    let n = c.in-Some.new in
    let bytes = c.args.bytes.now in
    let sup = c.in_ok-own.own in
    let fault = c.in-Err-Refused.fault in
    let so = subst (λ (new : Option NewFile). CanMake k r c.args.file bytes new) c.in-Some.is can in
    let says = c.in_ok-own.ensures k name r c.args.file is so.is_new.imports in
    let refused : c.rebuild_file.result ≡ Err (Refused fault) = c.in-Err-Refused.is ∙ ap Err c.in-Err-Refused.field-0-is in
    let why = subst (Finishes (λ out. out.items) (view_of bytes (changes_by n.sections sup)) bytes) refused
    (c.rebuild_file.ensures (can_give k name r c.args.file bytes n sup so says)) in
    (fault, file_refused k name r c.args.file bytes n sup so says fault why, c.in_file.ensures)
