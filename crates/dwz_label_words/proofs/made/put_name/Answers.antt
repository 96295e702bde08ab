use Rattle.std.proofs.Common.{◌≡◌, ◌++◌, ℕ, List, subst}
use Rattle.std.specs.Prelude.{OnOk}
use Rattle.dwz_label_words.proofs.NameLemmas.{other_name, sibling_name}
use Rattle.dwz_label_words.proofs.made.put_name.Goals as goal

pub returns-then-pair-eq-DW_AT_SIBLING : goal.returns-then-pair-eq-DW_AT_SIBLING
returns-then-pair-eq-DW_AT_SIBLING c = sibling_name c.args.pair.now c.args.out.now.items c.if-pair-eq-DW_AT_SIBLING.true

pub returns : goal.returns
returns c =
    subst (λ (w : List ℕ). OnOk c.put_number.result (c.put_number.new.out.items ≡ c.args.out.now.items ++ w))
    (other_name c.args.pair.now c.if-pair-eq-DW_AT_SIBLING.false) c.put_number.ensures
