use Rattle.std.proofs.Common.{◌≡◌, ℕ, List, None, Err, Vec, Global, ap, subst, ◌∙◌}
use Rattle.std.proofs.lemmas.Result.{err_from_is_err_and}
use Rattle.dwz_model.specs.declared.fault.ReadErr.TheVariants.{Refused}
use Rattle.dwz_def_expand.specs.Dropped.{without_sup}
use Rattle.dwz_def_output.specs.Changed.{changes_by}
use Rattle.dwz_elf.specs.Rebuilds.{Finishes}
use Rattle.dwz_expand_file.proofs.AnswerLemmas.{bytes_read, can_be_given, input_reads, is_made, is_refused, no_reading, view_of}
use Rattle.dwz_expand_file.proofs.file.expanded_file.Goals as goal

pub returns-in_err-_read : goal.returns-in_err-_read
returns-in_err-_read c = λ f reads is_input is_sections.
    let p = err_from_is_err_and c.from_residual.result c.from_residual.ensures.1 in
    rw (p.1, p.2) (no_reading {A = Vec ℕ Global} (λ out. out.items) c.args.input.now c.args.sections c.in_err-_read.field-0.0 _ _ (input_reads f reads c.args.input.now is_input) c.in_err-_read.ensures.gives)

pub returns-in_err-elf : goal.returns-in_err-elf
returns-in_err-elf c = λ f reads is_input is_sections.
    let p = err_from_is_err_and c.from_residual-in_err-elf.result c.from_residual-in_err-elf.ensures.1 in
    let base : c.deref.result.now ≡ without_sup c.args.input.now = c.deref.ensures.value ∙ c.in_ok-moved.ensures.bytes_are in
    rw (p.1, p.2)
    (no_reading {A = Vec ℕ Global} (λ out. out.items) c.args.input.now c.args.sections c.in_err-elf.field-0.0 _ _ (bytes_read f reads c.args.input.now is_input c.look_at.ensures.bytes c.deref.result.now base)
    c.in_err-elf.ensures.gives)

pub returns-in-Ok : goal.returns-in-Ok
returns-in-Ok c = λ f reads is_input is_sections.
    let input = c.args.input.now in
    let s = c.args.sections in
    let base : c.deref-2.result.now ≡ without_sup input = c.deref-2.ensures.value ∙ c.in_ok-moved.ensures.bytes_are in
    let can = can_be_given f reads input is_input c.look_at.ensures.bytes c.deref-2.result.now base s is_sections in
    let made = subst (λ (b : List ℕ). Finishes (λ out. out.items) (view_of b (changes_by s None)) b c.rebuild_file.result) base (c.rebuild_file.ensures can) in
    is_made input (input_reads f reads input is_input) c.look_at.ensures.bytes c.look_at.ensures.few s c.in-Ok.out.items
    (subst (Finishes (λ out. out.items) (view_of (without_sup input) (changes_by s None)) (without_sup input)) c.in-Ok.is made)

pub returns-in-Err-Refused : goal.returns-in-Err-Refused
returns-in-Err-Refused c = λ f reads is_input is_sections.
    let input = c.args.input.now in
    let s = c.args.sections in
    let fault = c.in-Err-Refused.fault in
    let moved = c.in_ok-moved.ensures in
    let base : c.deref-2.result.now ≡ without_sup input = c.deref-2.ensures.value ∙ moved.bytes_are in
    let can = can_be_given f reads input is_input c.look_at.ensures.bytes c.deref-2.result.now base s is_sections in
    let made = subst (λ (b : List ℕ). Finishes (λ out. out.items) (view_of b (changes_by s None)) b c.rebuild_file.result) base (c.rebuild_file.ensures can) in
    let refused : c.rebuild_file.result ≡ Err (Refused fault) = c.in-Err-Refused.is ∙ ap Err c.in-Err-Refused.field-0-is in
    is_refused input (input_reads f reads input is_input) c.look_at.ensures.bytes c.look_at.ensures.few s fault c.at_header.result c.in_ok-moved.moved.began c.in_ok-moved.moved.headers_at
    moved.began_at moved.headers_are (subst (Finishes (λ out. out.items) (view_of (without_sup input) (changes_by s None)) (without_sup input)) refused made) c.at_header.ensures.header
    c.at_header.ensures.whole
