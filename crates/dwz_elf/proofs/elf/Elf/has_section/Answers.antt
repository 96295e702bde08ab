use Rattle.std.proofs.Common.{◌∙◌, ap, length, arith, get_or, take, List}
use Rattle.dwz_def_reading.specs.declared.elf.Section.{Section}
use Rattle.dwz_elf.proofs.CalledLemmas.{answered, some_table, table_is}
use Rattle.dwz_elf.proofs.elf.Elf.has_section.Goals as goal

pub returns-in_default : goal.returns-in_default
returns-in_default c = λ is none.
    absurd (some_table c.args.file.now _ _ _ (c.self.view_is ∙ is) none
    (let far = c.in_default.ensures.lookup.3 in let many = ap (λ (w : List Section). length w) c.deref.ensures.value in omega (arith, far, many)))

pub returns : goal.returns
returns c = λ is none. (
    let view = c.self.view_is ∙ is in
    let at = c.in-Some.ensures.lookup.1 ∙ ap (λ (w : List Section). get_or w c.self.inside.file.names c.in-Some.names.now) c.deref.ensures.value in
    let made = c.run_of-table.ensures ∙ ap (λ w. take c.in-Some.names.now.header.size w) c.run_from.ensures in
    answered c.args.file.now _ _ _ view none c.args.name.now c.run_of-table.result.now c.deref-2.result.now c.any_called.result
    (table_is c.args.file.now _ _ _ view none c.in-Some.names.now c.run_of-table.result.now at made) c.deref-2.ensures.value c.any_called.ensures)
