use Rattle.std.proofs.Common.{◌∙◌, ◌++◌, List, ℕ, ℤ, ap}
use mir.Syntax.{w128}
use Rattle.std.proofs.lemmas.Int.{to_z-of_z}
use Rattle.std.proofs.lemmas.Result.{on_ok_weaker}
use Rattle.dwz_def_reading.specs.Documents.{Num}
use Rattle.dwz_label.specs.Labels.{plain_label}
use Rattle.dwz_label_words.proofs.NumLemmas.{adds_other}
use Rattle.dwz_label_words.proofs.numbers.put_named_num.Goals as goal

pub returns-clause-told : goal.returns-clause-told
returns-clause-told c =
    let p = Num c.args.width c.args.value in
    let front = c.clear.new.self.items in
    let put = c.in_ok-put_num.ensures ∙ ap (λ (z : ℤ). front ++ plain_label (Num c.args.width z)) (to_z-of_z w128 c.args.value c.ranges.value) in
    let is = c.as_slice.ensures.value ∙ put ∙ ap (λ (w : List ℕ). w ++ plain_label p) c.clear.ensures.items in
    on_ok_weaker c.put_named.result (λ e none. adds_other c.other.new.self.names p c.as_slice.result.now c.in_ok-name.name c.args.out.now.items c.put_named.new.out.items none is
    c.in_ok-name.ensures.found e) c.put_named.ensures
