use Rattle.std.proofs.Common.{ℕ, List, Option, length, ap, subst, arith}
use Rattle.std.proofs.lemmas.Result.{on_ok_weaker}
use Rattle.dwz_def_reading.specs.Documents.{Text}
use Rattle.dwz_label.specs.Labels.{plain_label}
use Rattle.dwz_label_words.specs.Known.{HasName}
use Rattle.dwz_label_marks.proofs.AddsLemmas.{adds_named}
use Rattle.dwz_label_words.proofs.RowLemmas.{none_behind}
use Rattle.dwz_label_words.proofs.texts.put_text_mark.Goals as goal

pub returns-then-offset-strs-clause-told : goal.returns-then-offset-strs-clause-told
returns-then-offset-strs-clause-told c = λ text at. absurd (none_behind c.args.names.now.strs c.args.offset text (let h = c.if-offset-strs.true in let e = ap (λ (w : List ℕ). length w) c.requires in omega arith) at)

pub returns-in-Some-clause-told : goal.returns-in-Some-clause-told
returns-in-Some-clause-told c = λ text at. (
    let names = c.text.new.self.names in
    let has = subst (λ (o : Option ℕ). HasName names (plain_label (Text text)) o) c.in-Some.is (c.in_ok-text.ensures.found text at) in
    on_ok_weaker c.put_named.result (λ e. adds_named names (plain_label (Text text)) c.in-Some.name c.args.out.now.items c.put_named.new.out.items has e)
    c.put_named.ensures)
