use Rattle.std.proofs.Common.{◌≡◌, ◌++◌, ◌<◌, ℕ, List, length, get_or, ap, subst, ◌∙◌, arith}
use Rattle.dwz_check_rows.specs.Keys.{IsInOrder}
use Rattle.dwz_check_rows.specs.Rows.{node_keys}
use Rattle.dwz_check_rows.specs.UnitRows.{no_unit, plain_tops, unit_at}
use Rattle.dwz_check_rows.specs.declared.columns.UnitNodes.{UnitNodes}
use Rattle.dwz_check_rows.specs.declared.columns.RowKind.TheVariants.{Compile}
use Rattle.std.proofs.lemmas.List.{get_or_default}
use Rattle.dwz_check_rows.proofs.ListLemmas.{listed-all, listed-more}
use Rattle.dwz_check_rows.proofs.key_lists.sorted_tops.Goals as goal

-- what is read where there is no item
abbrev first_unit : UnitNodes
first_unit = record { kind = Compile 0 0; top = 0; tops_end = 0 }

pub loop-unit-preserved : goal.loop-unit-preserved
loop-unit-preserved c =
    let classes : List ℕ = c.args.classes.now in
    let columns = c.args.columns.now in
    let n = c.loop-unit.unit-index in
    let numbers : ℕ → List ℕ = λ x. node_keys classes columns (plain_tops columns (unit_at columns x)) in
    let items : c.as_slice-unit-items.result.now ≡ columns.units = c.as_slice-unit-items.ensures in
    let there : n < length c.as_slice-unit-items.result.now = omega arith in
    let one : get_or c.as_slice-unit-items.result.now n first_unit ≡ unit_at columns n =
    get_or_default c.as_slice-unit-items.result.now n first_unit no_unit there ∙ ap (λ (us : List UnitNodes). get_or us n no_unit) items in
    let sorted : IsInOrder (numbers n) c.sort_keys-sorted.result.items =
    subst (λ (ns : List ℕ). IsInOrder ns c.sort_keys-sorted.result.items)
    (c.in_ok-top_keys.ensures ∙ ap (λ (u : UnitNodes). node_keys classes columns (plain_tops columns u)) one) c.sort_keys-sorted.ensures in
    listed-more numbers n c.loop-unit.ends.items c.loop-unit.keys.items c.push.new.self.items c.extend_from_slice.new.self.items c.sort_keys-sorted.result.items c.len.result
    (c.in_ok-extend_from_slice.ensures.items ∙ ap (λ (ns : List ℕ). c.loop-unit.keys.items ++ ns) c.deref.ensures.value) (let len = c.len.ensures in omega arith) c.in_ok-push.ensures.items sorted c.loop-unit.invariant

pub invariant_of-result : goal.invariant_of-result
invariant_of-result c = c.loop-unit.invariant.parted.rise

pub returns : goal.returns
returns c =
    let all = listed-all (λ x. node_keys c.args.classes.now c.args.columns.now (plain_tops c.args.columns.now (unit_at c.args.columns.now x))) c.loop-unit.unit-index c.loop-unit.ends.items c.loop-unit.keys.items
    c.loop-unit.invariant in
    let items = ap (λ (us : List UnitNodes). length us) c.as_slice-unit-items.ensures in
    let count : c.loop-unit.unit-index ≡ length c.args.columns.now.units = omega (arith, items) in
    record { long = all.0 ∙ count; each = λ x l. all.1 x (omega (arith, l, count)) }
