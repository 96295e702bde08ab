use Rattle.std.proofs.Common.{◌≡◌, ◌+◌, ◌++◌, ◌∷◌, [], ℕ, List, ap, arith, length, sym, subst, ◌∙◌}
use Rattle.std.proofs.lemmas.List.{length-append}
use Rattle.dwz_label_marks.specs.Marks.{marks_of}
use Rattle.dwz_label_marks.specs.Told.{Tells}
use Rattle.dwz_label_files.proofs.MarkedLemmas.{adds_alone, from_more}
use Rattle.dwz_label_files.proofs.marked.put_labels.Goals as goal

pub loop-n-init : goal.loop-n-init
loop-n-init c = record { len = omega arith; told = λ units names own first numbers before more. before }

pub loop-n-preserved : goal.loop-n-preserved
loop-n-preserved c =
    let i = c.loop-n.invariant in
    let grown = c.in_ok-push.ensures.ok in
    let label = c.put_renumbered.new.out.items in
    record {
      len = (let long = ap (λ (w : List (List ℕ)). length w) grown ∙ length-append c.loop-n.labels (c.as_slice.result.now ∷ []) in let before = i.len in omega arith);
      told = λ units names own first numbers before more. from_more units names first c.loop-n.labels c.push.new.self label
          (grown ∙ ap (λ (w : List ℕ). c.loop-n.labels ++ w ∷ []) c.as_slice.ensures.value) (i.told units names own first numbers before more)
          (λ t there free number. (
          let at : t.number ≡ first + length c.args.labels.now + c.loop-n.n = (let long = i.len in omega arith) in
          let told = more t c.loop-n.n there free at (omega arith) in
          let here = subst (λ (w : List ℕ). Tells own (marks_of t) w) (sym c.get.ensures) told in
          adds_alone names (marks_of t) _ label c.clear.ensures.items (c.in_ok-put_renumbered.ensures own names (marks_of t) here numbers)));
    }

pub returns-clause-len : goal.returns-clause-len
returns-clause-len c = let long = c.loop-n.invariant.len in let many = c.len-n-end.ensures in omega arith
