use Rattle.std.proofs.Common.{◌≡◌, ℕ, false, sym, ap, ◌∙◌, arith}
use Rattle.std.proofs.lemmas.Bool.{leb-true}
use Rattle.dwz_def_reading.specs.Files.{is_other_machine}
use Rattle.dwz_graph.specs.Files.{limits_view}
use Rattle.dwz_graph.proofs.FileLemmas.{for_machine, machine_is, not_too_long}
use Rattle.dwz_graph.proofs.ahead.is_enough.Goals as goal

pub returns : goal.returns
returns c = λ yes elf. (
    let l = limits_view c.args.left.now in
    let bytes = c.args.bytes.now in
    let m = machine_is bytes c.args.file.now.elf c.machine.result elf c.machine.ensures in
    let same : is_other_machine l.machine _ ≡ false = ap (λ (k : ℕ). is_other_machine l.machine k) (sym m) ∙ sym c.is_other_machine.ensures ∙ c.if-is_other_machine.false in
    record {
      size = not_too_long l bytes (sym c.is_too_long.ensures ∙ c.if-is_too_long.false);
      machine = for_machine l.machine _ same;
      entries = (let few = leb-true c.entries.result l.entries yes in omega (arith, c.entries.ensures));
    })
