use Rattle.std.proofs.Common.{Bool, [], ◌∷◌, subst, sym}
use Rattle.std.proofs.lemmas.Result.{on_ok_weaker}
use Rattle.dwz_def_reading.specs.Documents.{Flag}
use Rattle.dwz_label_marks.specs.Marks.{plain_mark}
use Rattle.dwz_label_marks.specs.Told.{Adds}
use Rattle.dwz_label_marks.proofs.AddsLemmas.{adds_plainly}
use Rattle.dwz_label_words.proofs.numbers.put_flag_mark.Goals as goal

pub returns-then-flag : goal.returns-then-flag
returns-then-flag c = λ names.
    on_ok_weaker c.put_plainly.result (λ e. subst (λ (b : Bool). Adds names (plain_mark (Flag b) ∷ []) c.args.out.now.items c.put_plainly.new.out.items) (sym c.if-flag.true)
    (adds_plainly names 1 c.args.out.now.items c.put_plainly.new.out.items e)) c.put_plainly.ensures

pub returns : goal.returns
returns c = λ names.
    on_ok_weaker c.put_plainly-2.result (λ e. subst (λ (b : Bool). Adds names (plain_mark (Flag b) ∷ []) c.args.out.now.items c.put_plainly-2.new.out.items) (sym c.if-flag.false)
    (adds_plainly names 0 c.args.out.now.items c.put_plainly-2.new.out.items e)) c.put_plainly-2.ensures
