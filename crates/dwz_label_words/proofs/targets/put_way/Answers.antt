use Rattle.std.proofs.Common.{◌≡◌, ◌++◌, ◌+◌, ◌*◌, suc, List, ℕ, ap, length, ◌∙◌, arith}
use Rattle.std.specs.List.{flat_map}
use Rattle.std.proofs.lemmas.List.{append_assoc}
use Rattle.std.proofs.lemmas.Result.{on_ok_weaker}
use Rattle.dwz_graph.specs.Names.{path_in}
use Rattle.dwz_label.specs.Labels.{number}
use Rattle.dwz_label_words.specs.Plain.{plainly}
use Rattle.dwz_label_words.proofs.targets.put_way.Goals as goal

pub returns : goal.returns
returns c = λ names s index found. (
    let old = c.args.out.now.items in
    let way = path_in s in
    let path = c.in_ok-put_path.ensures names s index found ∙ ap (λ (w : List ℕ). w ++ way) c.clear.ensures.items in
    let shown = c.as_slice.ensures.value ∙ path in
    let other = c.deref.ensures.value ∙ path in
    let count : length c.as_slice.result.now + 1 ≡ suc (length way) = (let l = ap (λ (w : List ℕ). length w) shown in omega arith) in
    let mid = c.in_ok-put_plainly.ensures ∙ ap (λ (k : ℕ). old ++ number (2 * k)) count in
    on_ok_weaker c.put_steps.result (λ e. e ∙ ap (λ (w : List ℕ). c.put_plainly.new.out.items ++ flat_map plainly w) other ∙ ap (λ (w : List ℕ). w ++ flat_map plainly way) mid
    ∙ append_assoc old (plainly (suc (length way))) (flat_map plainly way)) c.put_steps.ensures)
