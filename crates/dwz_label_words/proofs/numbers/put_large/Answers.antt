use Rattle.std.proofs.Common.{◌∙◌, ◌/◌, ◌%◌, ◌+◌, ◌*◌, ◌++◌, ◌∷◌, [], List, ℕ, ap, sym}
use Rattle.std.proofs.lemmas.List.{append_assoc}
use Rattle.std.proofs.lemmas.Result.{on_ok_weaker}
use Rattle.dwz_label.specs.Labels.{number}
use Rattle.dwz_label_words.proofs.StepsLemmas.{large}
use Rattle.dwz_label_words.proofs.numbers.put_large.Goals as goal

pub returns : goal.returns
returns c =
    let v = c.args.value in
    let out = c.args.out.now.items in
    let rest = number (v / 64) in
    on_ok_weaker c.put_number.result (λ e. e ∙ ap (λ (w : List ℕ). w ++ rest) c.in_ok-push.ensures.items ∙ append_assoc out ((v % 64 * 2 + 128) ∷ []) rest
    ∙ ap (λ (w : List ℕ). out ++ w) (sym (large v c.requires))) c.put_number.ensures
