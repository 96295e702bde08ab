use Rattle.std.proofs.Common.{◌<◌, ◌++◌, [], ℕ, List, ap, append-nil, get_or, length, ◌∙◌, sym, arith}
use Rattle.dwz_model.proofs.ListFacts.{in_at}
use Rattle.dwz_model.proofs.Members.{each_in}
use Rattle.dwz_check_rows.proofs.ListLemmas.{flat_more}
use Rattle.dwz_check_rows.proofs.key_lists.joined.Goals as goal

pub loop-import-init : goal.loop-import-init
loop-import-init c = c.in_ok-keys.ensures.items ∙ (c.get.ensures ∙ sym (append-nil (get_or c.args.lists.now c.args.unit [])))

pub get-requires-in-loop-import : goal.get-requires-in-loop-import
get-requires-in-loop-import c =
    let l : c.loop-import.import-index < length c.args.imports.now = omega arith in
    each_in (λ y. y < length c.args.lists.now) (get_or c.args.imports.now c.loop-import.import-index 0) c.args.imports.now c.requires.imports (in_at c.args.imports.now c.loop-import.import-index l)

pub loop-import-preserved : goal.loop-import-preserved
loop-import-preserved c =
    let l : c.loop-import.import-index < length c.args.imports.now = omega arith in
    flat_more (λ y. get_or c.args.lists.now y []) c.args.unit c.args.imports.now c.loop-import.import-index c.loop-import.keys.items c.extend_from_slice.new.self.items l c.loop-import.invariant
    (c.in_ok-extend_from_slice.ensures.items ∙ ap (λ (ns : List ℕ). c.loop-import.keys.items ++ ns) c.get-in-loop-import.ensures)
