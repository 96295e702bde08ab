use Rattle.std.proofs.Common.{◌≡◌, ◌+◌, ◌<◌, ◌≤◌, ◌^◌, ℕ, List, ap, length, subst, sym, ◌∙◌, arith}
use Rattle.std.proofs.lemmas.Result.{IfOk-weaker}
use Rattle.dwz_model.specs.Lists.{Each}
use Rattle.dwz_def_check.specs.Answer.{SameBy}
use Rattle.dwz_def_check.specs.declared.same.Same.TheVariants.{Units}
use Rattle.dwz_check_rows.specs.Rows.{IsWholeUnit, UnitsSame, whole_between}
use Rattle.dwz_check_rows.specs.declared.columns.Columns.{Columns}
use Rattle.dwz_check_rows.specs.UnitRows.{AreColumns}
use Rattle.dwz_check_rows.proofs.NumberLemmas.{answer_of}
use Rattle.dwz_check_rows.proofs.UnitLemmas.{whole_each, whole_few}
use Rattle.dwz_check_rows.proofs.answer.compare.Goals as goal

-- so many are few
few_whole : (c : Columns) (count a b : ℕ) (numbers : List ℕ) → AreColumns count c → b ≤ c.old + c.new → numbers ≡ whole_between c a b → length numbers < 2 ^ 32
few_whole c count a b numbers columns l is =
    let same = ap (λ (ns : List ℕ). length ns) is in
    let most = whole_few c a b in
    let files = columns.files in
    let few = columns.few in
    omega (arith, same, most, files, few, l)

pub overflow_cast-result : goal.overflow_cast-result
overflow_cast-result c =
    let few = few_whole c.args.columns.now (length c.args.classes.now) 0 c.args.columns.now.old c.in_ok-old.old.items c.requires (omega arith) c.in_ok-old.ensures in
    let len = c.len-first.ensures in
    record { fits = omega (arith, few, len) }

pub overflow_cast-result-then-first-second : goal.overflow_cast-result-then-first-second
overflow_cast-result-then-first-second c =
    let few = few_whole c.args.columns.now (length c.args.classes.now) c.args.columns.now.old (c.args.columns.now.old + c.args.columns.now.new) c.in_ok-new.new.items c.requires (omega arith) c.in_ok-new.ensures in
    let len = c.len-second.ensures in
    record { fits = omega (arith, few, len) }

pub returns-then-first-second : goal.returns-then-first-second
returns-then-first-second c lists numbering =
    let first = c.len-first.ensures in
    let second = c.len-second.ensures in
    answer_of c.args.classes.now c.args.columns.now c.requires c.type_inv.classes lists numbering (Units c.len-first.result c.len-second.result) (
      sym (ap (λ (ns : List ℕ). length ns) c.in_ok-old.ensures) ∙ (let e : length c.in_ok-old.old.items ≡ c.len-first.result = omega (arith, first) in e),
      sym (ap (λ (ns : List ℕ). length ns) c.in_ok-new.ensures) ∙ (let e : length c.in_ok-new.new.items ≡ c.len-second.result = omega (arith, second) in e),
      c.if-first-second.true,
    )

pub compare_each-requires-clause-old : goal.compare_each-requires-clause-old
compare_each-requires-clause-old c =
    let columns = c.args.columns.now in
    let files = c.requires.files in
    subst (λ (ns : List ℕ). Each (IsWholeUnit columns) ns) (sym (c.deref.ensures.value ∙ c.in_ok-old.ensures)) (whole_each columns 0 columns.old (omega (arith, files)))

pub compare_each-requires-clause-new : goal.compare_each-requires-clause-new
compare_each-requires-clause-new c =
    let columns = c.args.columns.now in
    let files = c.requires.files in
    subst (λ (ns : List ℕ). Each (IsWholeUnit columns) ns) (sym (c.deref-2.ensures.value ∙ c.in_ok-new.ensures)) (whole_each columns columns.old (columns.old + columns.new) files)

pub compare_each-requires-clause-few : goal.compare_each-requires-clause-few
compare_each-requires-clause-few c =
    few_whole c.args.columns.now (length c.args.classes.now) 0 c.args.columns.now.old c.deref.result.now c.requires (omega arith) (c.deref.ensures.value ∙ c.in_ok-old.ensures)

pub returns : goal.returns
returns c =
    IfOk-weaker c.compare_each.result _ _
    (λ same h lists numbering. answer_of c.args.classes.now c.args.columns.now c.requires c.type_inv.classes lists numbering same
    (subst (λ (ns : List ℕ). SameBy (UnitsSame c.args.classes.now c.args.columns.now) ns (whole_between c.args.columns.now c.args.columns.now.old (c.args.columns.now.old + c.args.columns.now.new)) same)
    (c.deref.ensures.value ∙ c.in_ok-old.ensures)
    (subst (λ (ns : List ℕ). SameBy (UnitsSame c.args.classes.now c.args.columns.now) c.deref.result.now ns same) (c.deref-2.ensures.value ∙ c.in_ok-new.ensures) h)))
    c.compare_each.ensures
