use Rattle.std.proofs.Common.{◌≡◌, List, Some, slice_get, sym, ap, subst, ◌∙◌}
use Rattle.std.specs.Prelude.{IfOk}
use Rattle.dwz_def_reading.specs.TextRows.{text_number}
use Rattle.dwz_label_words.specs.Known.{FileNames}
use Rattle.dwz_label_words.specs.Shapes.{pairs_shape}
use Rattle.dwz_label_words.proofs.FoundLemmas.{found_kept, some_same, stays_named}
use Rattle.dwz_model.specs.declared.place.Pair.{Pair}
use Rattle.dwz_label_words.proofs.file_names.FileNames.new_shape.Goals as goal

pub invariant_of-self : goal.invariant_of-self
invariant_of-self c =
    let x = c.self.inside in
    found_kept x.names x.strs.now x.tables.now x.declarations x.texts x.paths x.shapes c.self.invariant c.name_shape.new.names c.name_shape.ensures.kept

pub returns-clause-stays : goal.returns-clause-stays
returns-clause-stays c =
    let x = c.self.inside in
    stays_named c.args.self.now x.strs.now x.tables.now x.declarations x.names c.name_shape.new.names c.self.view_is c.name_shape.ensures.kept

pub returns-clause-found : goal.returns-clause-found
returns-clause-found c = λ pairs g. (
    let here = ap (λ (x : FileNames). slice_get x.declarations.pairs c.args.decl) c.self.view_is ∙ g in
    let same : c.pairs-pairs.result.now ≡ pairs = some_same (sym c.pairs-pairs.ensures ∙ here) in
    subst (λ (w : List Pair). IfOk c.name_shape.result (λ n. text_number c.name_shape.new.names (pairs_shape c.args.tag w) ≡ Some n)) same c.name_shape.ensures.number)
