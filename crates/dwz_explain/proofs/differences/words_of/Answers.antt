use Rattle.std.proofs.Common.{◌≡◌, ◌++◌, sym, ap, ◌∙◌}
use Rattle.std.specs.Prelude.{codes}
use Rattle.std.proofs.lemmas.Result.{IfOk-weaker}
use Rattle.dwz_def_explain.specs.Texts.{tag_text, what_words}
use Rattle.dwz_def_explain.specs.declared.verdict.What.{What}
use Rattle.dwz_explain.proofs.differences.words_of.Goals as goal

pub returns-in-Tag : goal.returns-in-Tag
returns-in-Tag c = λ x y h k. (
    let a = c.stored-a in
    let b = c.stored-b in
    let p = a.ensures.tag x h in
    let q = b.ensures.tag y k in
    IfOk-weaker c.tag_words.result (λ text. text.items ≡ codes "tag " ++ tag_text a.result.tag ++ codes " " ++ tag_text b.result.tag) (λ text. text.items ≡ what_words c.args.what.now x.node y.node)
    (λ text e. e ∙ (λ i. codes "tag " ++ tag_text (sym p i) ++ codes " " ++ tag_text (sym q i)) ∙ sym (ap (λ (w : What). what_words w x.node y.node) c.in-Tag.is)) c.tag_words.ensures)
