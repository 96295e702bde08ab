use Rattle.std.proofs.Common.{◌≡◌, ℕ, List, true, false, sym, ap, subst, ◌∙◌}
use Rattle.std.proofs.lemmas.Result.{err_from_is_err_and}
use Rattle.dwz_model.specs.declared.fault.ReadErr.{ReadErr}
use Rattle.dwz_def_reading.specs.Faults.{Fails}
use Rattle.dwz_def_reading.specs.Files.{file_meaning_by, is_other_machine, machine_of}
use Rattle.dwz_graph.specs.ByRule.{rule_view}
use Rattle.dwz_graph.specs.Files.{limits_view}
use Rattle.dwz_graph.proofs.FileLemmas.{bytes_short, content_is, elf_fails, machine_is, other_machine, sup_fails, too_long}
use Rattle.dwz_graph.proofs.file.headed_by.Goals as goal

pub returns-then-is_too_long-clause-err : goal.returns-then-is_too_long-clause-err
returns-then-is_too_long-clause-err c =
    subst (λ (e : ReadErr). Fails e (file_meaning_by (rule_view c.args.rule.now) (limits_view c.args.left.now) c.args.bytes.now)) (sym c.fault.ensures)
    (too_long (rule_view c.args.rule.now) (limits_view c.args.left.now) c.args.bytes.now (sym c.is_too_long.ensures ∙ c.if-is_too_long.true))

pub returns-in_err-elf-clause-err : goal.returns-in_err-elf-clause-err
returns-in_err-elf-clause-err c =
    let p = err_from_is_err_and c.from_residual.result c.from_residual.ensures.1 in
    let rule = rule_view c.args.rule.now in
    let l = limits_view c.args.left.now in
    let bytes : List ℕ = c.args.bytes.now in
    let size = sym c.is_too_long.ensures ∙ c.if-is_too_long.false in
    rw (p.1, p.2) (elf_fails rule c.in_err-elf.field-0.0 l bytes _ size c.in_err-elf.ensures)

pub returns-then-is_other_machine-clause-err : goal.returns-then-is_other_machine-clause-err
returns-then-is_other_machine-clause-err c =
    let rule = rule_view c.args.rule.now in
    let l = limits_view c.args.left.now in
    let bytes : List ℕ = c.args.bytes.now in
    let size = sym c.is_too_long.ensures ∙ c.if-is_too_long.false in
    let elf = c.in_ok-elf.ensures in
    let m = machine_is bytes c.in_ok-elf.elf c.machine.result elf.1 c.machine.ensures in
    let other : is_other_machine l.machine (machine_of bytes) ≡ true = ap (λ (k : ℕ). is_other_machine l.machine k) (sym m) ∙ sym c.is_other_machine.ensures ∙ c.if-is_other_machine.true in
    subst (λ (e : ReadErr). Fails e (file_meaning_by rule l bytes)) (sym c.fault-then-is_other_machine.ensures) (other_machine rule l bytes size elf.0 other)

pub returns-in-Some-clause-err : goal.returns-in-Some-clause-err
returns-in-Some-clause-err c =
    let rule = rule_view c.args.rule.now in
    let l = limits_view c.args.left.now in
    let bytes : List ℕ = c.args.bytes.now in
    let size = sym c.is_too_long.ensures ∙ c.if-is_too_long.false in
    let elf = c.in_ok-elf.ensures in
    let m = machine_is bytes c.in_ok-elf.elf c.machine.result elf.1 c.machine.ensures in
    let machine : is_other_machine l.machine (machine_of bytes) ≡ false = ap (λ (k : ℕ). is_other_machine l.machine k) (sym m) ∙ sym c.is_other_machine.ensures ∙ c.if-is_other_machine.false in
    sup_fails rule l bytes c.in-Some.fault size elf.0 machine (sym c.sup_fault.ensures ∙ c.in-Some.is)

pub returns-clause-ok : goal.returns-clause-ok
returns-clause-ok c =
    let rule = rule_view c.args.rule.now in
    let l = limits_view c.args.left.now in
    let bytes : List ℕ = c.args.bytes.now in
    let size = sym c.is_too_long.ensures ∙ c.if-is_too_long.false in
    let elf = c.in_ok-elf.ensures in
    let m = machine_is bytes c.in_ok-elf.elf c.machine.result elf.1 c.machine.ensures in
    let machine : is_other_machine l.machine (machine_of bytes) ≡ false = ap (λ (k : ℕ). is_other_machine l.machine k) (sym m) ∙ sym c.is_other_machine.ensures ∙ c.if-is_other_machine.false in
    record {
      size = size;
      faultless = elf.0;
      machine = machine;
      sup = sym c.sup_fault.ensures ∙ c.in_default.is;
      elf = elf.1;
      info = content_is bytes c.content-info.result.now c.in_ok-elf.elf 1 elf.1 c.content-info.ensures;
      abbrevs = content_is bytes c.content-abbrevs.result.now c.in_ok-elf.elf 2 elf.1 c.content-abbrevs.ensures;
    }

pub sup_fault-requires-clause-short : goal.sup_fault-requires-clause-short
sup_fault-requires-clause-short c = bytes_short (limits_view c.args.left.now) c.args.bytes.now (sym c.is_too_long.ensures ∙ c.if-is_too_long.false)
