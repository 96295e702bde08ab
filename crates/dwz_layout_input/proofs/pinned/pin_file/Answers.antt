use Rattle.std.proofs.Common.{◌∙◌, List, Option, ℕ, ap, subst, map}
use Rattle.dwz_def_reading.specs.Files.{around_of}
use Rattle.dwz_move.specs.Marked.{Marks}
use Rattle.dwz_unit.specs.Rows.{units_of}
use Rattle.dwz_graph.specs.Across.{name_at}
use Rattle.dwz_graph.proofs.FileEntries.{all_entries}
use Rattle.dwz_move_files.proofs.FileMarks.{units_mean}
use Rattle.dwz_layout_input.specs.Places.{list_spaces, number_at}
use Rattle.dwz_layout_input.proofs.FilePins.{file_pins, knows}
use Rattle.dwz_layout_input.proofs.PinNames.{numbered}
use Rattle.dwz_layout_input.proofs.pinned.pin_file.Goals as goal

pub returns : goal.returns
returns c = λ contents k bytes spots is apart many. (
    let f = c.args.file.now in
    let x = c.args.index.now in
    let raw = units_of f.units in
    let doc = is.kept.read.doc in
    let name = name_at x.starts doc in
    let numbers = c.in_ok-numbers.numbers.items in
    let long = c.in_ok-numbers.ensures.len ∙ all_entries contents k bytes f x is in
    let are = c.in_ok-numbers.ensures.each in
    let refs = c.as_slice-2.result.now in
    let into = c.as_slice-3.ensures.value ∙ c.in_ok-into.ensures ∙ ap (λ (w : List (Option ℕ)). map (number_at w) refs) c.as_slice.ensures.value in
    let know = knows contents k bytes f x is spots apart numbers long are refs c.as_slice-4.result.now c.as_slice-3.result.now c.as_slice-2.ensures.value c.as_slice-4.ensures.value into in
    let mid = c.in_ok-pin_units.ensures (around_of bytes raw) f.resolved.refs.items (numbered spots name) doc.units know (units_mean contents k bytes f x is) in
    let rows = c.as_slice-6.result.now in
    let lists = subst (λ (w : List (Option ℕ)). Marks (list_spaces w rows) c.pin_units.new.named.by_uleb.items c.pin_lists.new.flags.items) c.as_slice-5.ensures.value c.pin_lists.ensures in
    file_pins contents k bytes f x is spots apart numbers long are rows c.as_slice-6.ensures.value c.args.named.now.by_uleb.items c.pin_units.new.named.by_uleb.items c.pin_lists.new.flags.items many
    mid lists)
