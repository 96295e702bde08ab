use Rattle.std.proofs.Common.{List, sym, subst}
use Rattle.std.proofs.lemmas.Result.{on_ok_weaker}
use Rattle.dwz_graph.specs.Names.{path_in}
use Rattle.dwz_label_marks.specs.Marks.{Mark, Plainly}
use Rattle.dwz_label_marks.specs.Told.{Adds}
use Rattle.dwz_label_marks.proofs.AddsLemmas.{adds_plainly}
use Rattle.dwz_label_words.proofs.StepsLemmas.{adds_path}
use Rattle.dwz_label_words.proofs.TargetLemmas.{no_path, some_path, top_marks}
use Rattle.dwz_label_words.proofs.targets.put_target.Goals as goal

pub returns-in-None : goal.returns-in-None
returns-in-None c = λ told names s index found. (
    let marks = no_path s (sym (c.in-None.ensures names s index found)) in
    on_ok_weaker c.put_plainly.result (λ e. subst (λ (m : List Mark). Adds told m c.args.out.now.items c.put_plainly.new.out.items) (sym marks)
    (adds_plainly told 0 c.args.out.now.items c.put_plainly.new.out.items e)) c.put_plainly.ensures)

pub returns-then-is_outermost : goal.returns-then-is_outermost
returns-then-is_outermost c = λ told names s index found. (
    let none = (c.is_outermost.ensures names s index found).0 c.if-is_outermost.true in
    let marks = top_marks s c.in-Some.field-0 (sym (c.in-Some.ensures names s index found)) none in
    on_ok_weaker c.put_plainly-then-is_outermost.result (λ e. subst (λ (m : List Mark). Adds told m c.args.out.now.items c.put_plainly-then-is_outermost.new.out.items) (sym marks)
    (adds_plainly told 1 c.args.out.now.items c.put_plainly-then-is_outermost.new.out.items e)) c.put_plainly-then-is_outermost.ensures)

pub returns-else-is_outermost : goal.returns-else-is_outermost
returns-else-is_outermost c = λ told names s index found. (
    let marks = some_path s c.in-Some.field-0 (sym (c.in-Some.ensures names s index found)) in
    on_ok_weaker c.put_way.result (λ e. subst (λ (m : List Mark). Adds told m c.args.out.now.items c.put_way.new.out.items) (sym marks)
    (adds_path told (path_in s) c.args.out.now.items c.put_way.new.out.items e)) (c.put_way.ensures names s index found))
