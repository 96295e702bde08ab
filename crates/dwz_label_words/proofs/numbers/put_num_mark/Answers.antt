use Rattle.std.proofs.Common.{◌≡◌, ℕ, ℤ, pos, zero, ◌+◌, [], ◌∷◌, subst, sym, ◌∙◌}
use mir.Syntax.{w128}
use Rattle.std.proofs.lemmas.Int.{to_z-of_z}
use Rattle.std.proofs.lemmas.Result.{on_ok_weaker}
use Rattle.dwz_def_reading.specs.Documents.{Num}
use Rattle.dwz_label_marks.specs.Marks.{plain_mark}
use Rattle.dwz_label_marks.specs.Told.{Adds}
use Rattle.dwz_label_marks.proofs.AddsLemmas.{adds_plainly}
use Rattle.dwz_label_words.proofs.numbers.put_num_mark.Goals as goal

pub returns-clause-told : goal.returns-clause-told
returns-clause-told c =
    let names = c.args.names.now.names in
    let old = c.args.out.now.items in
    let k = c.unsigned.result in
    let value : c.args.value ≡ pos k = sym (to_z-of_z w128 c.args.value c.ranges.value) ∙ c.unsigned.ensures.value in
    on_ok_weaker c.put_direct.result (λ e.
    subst (λ (w : ℕ). Adds names (plain_mark (Num w c.args.value) ∷ []) old c.put_direct.new.out.items) (sym c.if-width-ne0.false)
    (subst (λ (z : ℤ). Adds names (plain_mark (Num zero z) ∷ []) old c.put_direct.new.out.items) (sym value)
    (adds_plainly names (k + 5) old c.put_direct.new.out.items e))) c.put_direct.ensures
