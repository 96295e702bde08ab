use Rattle.std.proofs.Common.{ℕ, List, Option, Some, sym, ap, subst, ◌∙◌}
use Rattle.std.proofs.Common.{length}
use Rattle.dwz_def_reading.specs.Files.{around_of}
use Rattle.dwz_def_reading.specs.LineTables.{FileTable}
use Rattle.dwz_graph_pruning.proofs.FileLemmas.{bad_lines, bad_macro, bad_slots, no_fault, offsets_short, other_use, prunable, same_use, units_mean}
use Rattle.dwz_graph_pruning.proofs.SlotLemmas.{slots_rise}
use Rattle.dwz_graph.specs.Parts.{HaveLines}
use Rattle.dwz_unit.specs.Rows.{units_of}
use Rattle.dwz_graph_pruning.proofs.files.is_prunable.Goals as goal

pub returns-then-has_section : goal.returns-then-has_section
returns-then-has_section c = λ l number is. bad_macro l number c.args.bytes.now c.args.file.now is (sym (c.has_section.ensures is.elf (no_fault l number c.args.bytes.now c.args.file.now is))
    ∙ c.if-has_section.true)

pub slots-requires : goal.slots-requires
slots-requires c = offsets_short c.requires.limits c.requires.number c.args.bytes.now c.args.file.now c.requires.read

pub returns-in_default : goal.returns-in_default
returns-in_default c = λ l number is. bad_slots l number c.args.bytes.now c.args.file.now is (sym c.in_ok-slots.ensures ∙ c.in_default.is)

pub returns-then-ne : goal.returns-then-ne
returns-then-ne c = λ l number is.
    bad_lines l number c.args.bytes.now c.args.file.now is c.in_ok-uses_strp.field-0 c.in_ok-uses_strp.ensures (other_use c.in_ok-uses_strp.field-0 (sym c.ne.ensures ∙ c.if-ne.true))

pub units_stay-requires-clause-slots : goal.units_stay-requires-clause-slots
units_stay-requires-clause-slots c = slots_rise c.args.file.now.sections.offsets.now c.as_slice.result.now
    (sym c.in_ok-slots.ensures ∙ c.in-Some.is ∙ ap (λ (w : List ℕ). Some w) (sym c.as_slice.ensures))

pub returns : goal.returns
returns c = λ l number is. (
    let bytes = c.args.bytes.now in
    let f = c.args.file.now in
    let raw = units_of f.units in
    let lines = subst (λ (w : List (Option ℕ)). HaveLines (around_of bytes raw) raw (length raw) c.deref.result.now w) (sym c.deref-2.ensures.value)
    (subst (λ (w : List FileTable). HaveLines (around_of bytes raw) raw (length raw) w f.resolved.lines.items) (sym c.deref.ensures.value) is.lines) in
    prunable l number bytes f is c.as_slice.result.now c.in_ok-uses_strp.field-0 c.in_ok-units_stay.field-0
    (sym (c.has_section.ensures is.elf (no_fault l number bytes f is)) ∙ c.if-has_section.false)
    (sym c.in_ok-slots.ensures ∙ c.in-Some.is ∙ ap (λ (w : List ℕ). Some w) (sym c.as_slice.ensures))
    c.in_ok-uses_strp.ensures (same_use c.in_ok-uses_strp.field-0 (sym c.ne.ensures ∙ c.if-ne.false))
    (c.in_ok-units_stay.ensures (around_of bytes raw) is.doc.units (units_mean l number bytes f is) lines))
