use Rattle.std.proofs.Common.{◌≡◌, ◌<◌, ℕ, All, List, Option, Some, length, get_or, slice_get, refl, sym, ap, subst, ◌∙◌, arith}
use Rattle.dwz_def_reading.proofs.ListFacts.{item_got}
use Rattle.dwz_layout_order.specs.Parts.{IsPart}
use Rattle.dwz_layout.specs.declared.order.Sort.TheVariants.{Partial as PartialSort}
use Rattle.dwz_plan.specs.declared.plan.Partial.{Partial}
use Rattle.dwz_layout_order.proofs.PartSteps.{put_more}
use Rattle.dwz_layout_order.proofs.orders.parts_items.Goals as goal

part_there : (ps all : List Partial) (n : ℕ) (part : Partial) → ps ≡ all → n < length all → part ≡ get_or ps n part → slice_get all n ≡ Some part
part_there ps all n part same lt is =
    let long = ap (λ (w : List Partial). length w) same in
    ap (λ (w : List Partial). slice_get w n) (sym same) ∙ item_got ps n part (omega arith) is

pub part_items-requires-clause-inside : goal.part_items-requires-clause-inside
part_items-requires-clause-inside c =
    let s = c.args.settled.now in
    let numbers = c.args.numbers.now in
    let i = c.loop-number.number-index in
    let n = get_or numbers i 0 in
    let part = c.index-partials-number.result in
    let less : n < length s.plan.now.partials = c.requires.there i 0 c.loop-number-test.true in
    let there = part_there c.partials-partials.result.now s.plan.now.partials n part c.partials-partials.ensures less c.index-partials-number.is in
    subst (λ (ts : List ℕ). All (λ t. t < length s.of_tops.now) ts) (ap (λ (w : Partial). w.tops) c.index-partials-number.is ∙ sym c.as_slice-tops.ensures)
    (c.requires.inside i 0 c.loop-number-test.true part there)

pub loop-number-preserved : goal.loop-number-preserved
loop-number-preserved c =
    let s = c.args.settled.now in
    let numbers = c.args.numbers.now in
    let i = c.loop-number.number-index in
    let n = get_or numbers i 0 in
    let part = c.index-partials-number.result in
    let o = c.in_ok-unit.unit in
    let less : n < length s.plan.now.partials = c.requires.there i 0 c.loop-number-test.true in
    let there = part_there c.partials-partials.result.now s.plan.now.partials n part c.partials-partials.ensures less c.index-partials-number.is in
    put_more s numbers i n part c.loop-number.order.items c.push.new.self.items o c.loop-number-test.true refl there
    (record {
      items = subst (λ (ts : List ℕ). IsPart s.rows.now s.of_tops.now ts o.items) (c.as_slice-tops.ensures ∙ ap (λ (w : Partial). w.tops) (sym c.index-partials-number.is)) c.in_ok-unit.ensures.items;
      sort = c.in_ok-unit.ensures.sort ∙ ap (λ (w : Option ℕ). PartialSort w) c.line_at-line.ensures;
    })
    c.loop-number.invariant c.in_ok-push.ensures.items
