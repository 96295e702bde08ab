use Rattle.std.proofs.Common.{arith}
use Rattle.dwz_label_words.proofs.FoundLemmas.{path_again, path_kept}
use Rattle.dwz_label_words.proofs.file_names.FileNames.path.Goals as goal

pub invariant_of-self : goal.invariant_of-self
invariant_of-self c =
    let x = c.self-2.inside in
    let h = c.in_ok-number.ensures in
    let again = path_again c.args.self.now c.new_path-2.new.self x.strs.now x.tables.now x.declarations x.names c.self-2.view_is h.stays
    c.args.table c.args.row c.in-Some-2.number c.in_ok-number.field-0 c.in-Some-2.is h.found in
    path_kept x.names x.strs.now x.tables.now x.declarations x.texts x.paths x.shapes c.self-2.invariant c.put.new.self c.args.table c.args.row c.in-Some-2.number
    (omega arith) again c.put.ensures
