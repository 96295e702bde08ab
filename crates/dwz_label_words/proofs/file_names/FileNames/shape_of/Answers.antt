use Rattle.std.proofs.Common.{arith}
use Rattle.dwz_label_words.proofs.FoundLemmas.{shape_again, shape_kept}
use Rattle.dwz_label_words.proofs.file_names.FileNames.shape_of.Goals as goal

pub invariant_of-self : goal.invariant_of-self
invariant_of-self c =
    let x = c.self-2.inside in
    let h = c.in_ok-number.ensures in
    let again = shape_again c.args.self.now c.new_shape-2.new.self x.strs.now x.tables.now x.declarations x.names c.self-2.view_is h.stays
    c.args.decl c.args.tag c.in_ok-number.number h.found in
    shape_kept x.names x.strs.now x.tables.now x.declarations x.texts x.paths x.shapes c.self-2.invariant c.put.new.self c.args.decl c.args.tag c.in_ok-number.number
    (omega arith) again c.put.ensures
