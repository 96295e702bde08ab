use Rattle.dwz_label_words.proofs.FoundLemmas.{found_kept, stays_named}
use Rattle.dwz_label_words.proofs.file_names.FileNames.other.Goals as goal

pub invariant_of-self : goal.invariant_of-self
invariant_of-self c =
    let x = c.self.inside in
    found_kept x.names x.strs.now x.tables.now x.declarations x.texts x.paths x.shapes c.self.invariant c.number.new.self c.number.ensures.kept

pub returns-clause-stays : goal.returns-clause-stays
returns-clause-stays c =
    let x = c.self.inside in
    stays_named c.args.self.now x.strs.now x.tables.now x.declarations x.names c.number.new.self c.self.view_is c.number.ensures.kept
