use Rattle.std.proofs.Common.{ℕ, List, [], ◌∷◌, get_or, subst, sym}
use Rattle.std.proofs.lemmas.List.{drop-drop}
use Rattle.dwz_def_reading.proofs.ListFacts.{drop_pairs}
use Rattle.dwz_graph.specs.Rows.{AreTargets}
use Rattle.dwz_label_entries.proofs.TargetLemmas.{name_there}
use Rattle.dwz_label_marks.specs.Marks.{Plainly, target_marks}
use Rattle.dwz_label_marks.proofs.AddsLemmas.{adds_both, adds_plainly}
use Rattle.dwz_label_words.proofs.values.put_entry.Goals as goal

pub returns : goal.returns
returns c = λ told raw name p k t. (
    let refs = c.args.source.now.refs.now in
    let index = c.args.source.now.index.now in
    let next = c.args.next in
    let i = get_or refs next 0 in
    let first = subst (λ (w : List ℕ). AreTargets raw w (p ∷ [])) (drop_pairs refs next 0 c.if-next-source.false) t in
    let target = c.in_ok-put_target.ensures told k.names (name p) k.shown (name_there raw name index i p k first.0 first.1) in
    let one = adds_plainly told 3 c.args.out.now.items c.put_plainly.new.out.items c.in_ok-put_plainly.ensures in (
      adds_both told (Plainly 3 ∷ []) (target_marks (name p)) c.args.out.now.items c.put_plainly.new.out.items c.put_target.new.out.items one target,
      sym (drop-drop 1 next refs),
    ))
