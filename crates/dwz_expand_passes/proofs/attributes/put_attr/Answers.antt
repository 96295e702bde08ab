use Rattle.std.proofs.Common.{◌∙◌, ℕ, ◌++◌, ◌∷◌, [], List, length, ap, map, drop, sym, subst}
use Rattle.std.proofs.lemmas.Result.{err_from_is_err_and}
use Rattle.dwz_def_reading.specs.Entries.{RawAttr}
use Rattle.dwz_graph.specs.Named.{attrs_refs}
use Rattle.dwz_graph.specs.Resolved.{stored}
use Rattle.dwz_expand_layout.specs.declared.entries.NewAttr.{NewAttr}
use Rattle.dwz_expand_passes.specs.Attributes.{Remain}
use Rattle.dwz_expand_passes.proofs.AttrSteps.{asks, attr_put, n, put_err, skip_attr}
use Rattle.dwz_expand_passes.proofs.SpokenLemmas.{other_spoken, sibling_spoken}
use Rattle.dwz_expand_passes.proofs.attributes.put_attr.Goals as goal

pub returns-then-pair-eq-DW_AT_SIBLING-clause-puts : goal.returns-then-pair-eq-DW_AT_SIBLING-clause-puts
returns-then-pair-eq-DW_AT_SIBLING-clause-puts c = λ q values all fits h. (
    let values_at : RawAttr = stored c.args.at c.args.end c.args.pair.now c.args.raw.now in
    skip_attr c.args.x.now q values_at values c.args.refs.now all c.args.attrs.now.items c.args.operands.now.items c.if-pair-eq-DW_AT_SIBLING.true h)

pub returns-in_err-new-clause-puts : goal.returns-in_err-new-clause-puts
returns-in_err-new-clause-puts c = λ q values all fits h. (
    let values_at : RawAttr = stored c.args.at c.args.end c.args.pair.now c.args.raw.now in
    let other = c.if-pair-eq-DW_AT_SIBLING.false in
    let next = n c.args.x.now q values_at values c.args.refs.now all c.args.attrs.now.items c.args.operands.now.items other h in
    let e = err_from_is_err_and c.from_residual.result c.from_residual.ensures.1 in
    rw (e.1, e.2) (put_err c.args.x.now q values_at values c.args.refs.now all c.args.attrs.now.items c.args.operands.now.items other h c.copied_attr.new.operands.items c.args.attrs.now.items
    c.in_err-new.field-0.0
    (c.in_err-new.ensures.copies q (length c.args.attrs.now.items) next.value (map q.place (attrs_refs next.left))
    (asks c.args.x.now q values_at values c.args.refs.now all c.args.attrs.now.items c.args.operands.now.items other h fits))))

pub returns-clause-puts : goal.returns-clause-puts
returns-clause-puts c = λ q values all fits h. (
    let values_at : RawAttr = stored c.args.at c.args.end c.args.pair.now c.args.raw.now in
    let other = c.if-pair-eq-DW_AT_SIBLING.false in
    let next = n c.args.x.now q values_at values c.args.refs.now all c.args.attrs.now.items c.args.operands.now.items other h in
    let is = c.in_ok-new.ensures.copies q (length c.args.attrs.now.items) next.value (map q.place (attrs_refs next.left))
    (asks c.args.x.now q values_at values c.args.refs.now all c.args.attrs.now.items c.args.operands.now.items other h fits) in
    let put = attr_put c.args.x.now q values_at values c.args.refs.now all c.args.attrs.now.items c.args.operands.now.items other h c.in_ok-new.new c.copied_attr.new.operands.items is.0 is.1 in
    subst (λ (w : List NewAttr). Remain c.args.x.now q values c.behind.result.now all w c.copied_attr.new.operands.items) (sym c.in_ok-push.ensures.items)
    (subst (λ (w : List ℕ). Remain c.args.x.now q values w all (c.args.attrs.now.items ++ c.in_ok-new.new ∷ []) c.copied_attr.new.operands.items)
    (sym (c.behind.ensures ∙ ap (λ (k : ℕ). drop k c.args.refs.now) c.count_of.ensures)) put))

pub returns-then-pair-eq-DW_AT_SIBLING-clause-speaks : goal.returns-then-pair-eq-DW_AT_SIBLING-clause-speaks
returns-then-pair-eq-DW_AT_SIBLING-clause-speaks c = λ q values all fits h. (
    let values_at : RawAttr = stored c.args.at c.args.end c.args.pair.now c.args.raw.now in
    sibling_spoken q values_at c.args.operands.now.items c.if-pair-eq-DW_AT_SIBLING.true)

pub returns-clause-speaks : goal.returns-clause-speaks
returns-clause-speaks c = λ q values all fits h. (
    let values_at : RawAttr = stored c.args.at c.args.end c.args.pair.now c.args.raw.now in
    let other = c.if-pair-eq-DW_AT_SIBLING.false in
    let next = n c.args.x.now q values_at values c.args.refs.now all c.args.attrs.now.items c.args.operands.now.items other h in
    other_spoken q values_at c.args.operands.now.items c.copied_attr.new.operands.items other
    (c.in_ok-new.ensures.speaks q (length c.args.attrs.now.items) next.value (map q.place (attrs_refs next.left))
    (asks c.args.x.now q values_at values c.args.refs.now all c.args.attrs.now.items c.args.operands.now.items other h fits)))
