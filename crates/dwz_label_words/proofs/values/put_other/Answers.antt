use Rattle.std.proofs.Common.{◌∙◌, ◌++◌, List, ℕ, ap}
use Rattle.std.proofs.lemmas.Result.{on_ok_weaker}
use Rattle.dwz_label.specs.Labels.{plain_label}
use Rattle.dwz_label_words.proofs.NumLemmas.{adds_other}
use Rattle.dwz_label_words.proofs.values.put_other.Goals as goal

pub returns-clause-told : goal.returns-clause-told
returns-clause-told c = λ s at v scope line means none. (
    let t = c.in_ok-_unused.ensures s at v scope line means in
    let is = c.as_slice.ensures.value ∙ t.bytes ∙ ap (λ (w : List ℕ). w ++ plain_label v.plain) c.clear.ensures.items in
    on_ok_weaker c.put_named.result (λ e. adds_other c.other.new.self.names v.plain c.as_slice.result.now c.in_ok-name.name c.args.out.now.items c.put_named.new.out.items none is
    c.in_ok-name.ensures.found e) c.put_named.ensures)
