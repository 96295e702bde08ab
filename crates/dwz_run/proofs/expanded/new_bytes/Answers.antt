use Rattle.std.proofs.Common.{ℕ, Ok, Err, Vec, Global, refl, subst}
use Rattle.dwz_model.specs.declared.fault.ReadErr.{ReadErr}
use Rattle.dwz_model.specs.declared.fault.ReadErr.TheVariants.{Refused}
use Rattle.dwz_expand_file.specs.Answers.{AnswersFile}
use Rattle.dwz_run.proofs.OneExpanded.{of_file}
use Rattle.dwz_run.proofs.expanded.new_bytes.Goals as goal

pub returns-in-Ok : goal.returns-in-Ok
returns-in-Ok c f reads content new =
    of_file f c.args.input.now c.args.sections (λ (v : Vec ℕ Global). v.items) (Ok c.in-Ok.out) content new (c.in-Ok.ensures f reads content new)

pub returns-in-Err-Refused : goal.returns-in-Err-Refused
returns-in-Err-Refused c f reads content new =
    let fault = c.in-Err-Refused.fault in
    let answers = subst (λ (e : ReadErr). AnswersFile (λ (v : Vec ℕ Global). v.items) c.args.input.now c.args.sections (Err e)) c.in-Err-Refused.field-0-is
    (c.in-Err-Refused.ensures f reads content new) in
    (fault, of_file f c.args.input.now c.args.sections (λ (v : Vec ℕ Global). v.items) (Err (Refused fault)) content new answers, refl)
