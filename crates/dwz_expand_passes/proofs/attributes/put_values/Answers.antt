use Rattle.std.proofs.Common.{◌≡◌, ◌∙◌, ◌+◌, List, drop, slice_get, get_or, Some, arith, refl, sym, subst}
use Rattle.std.specs.Prelude.{IsOk}
use Rattle.std.proofs.lemmas.Result.{err_from_is_err_and}
use Rattle.dwz_def_reading.specs.Entries.{RawAttr}
use Rattle.dwz_graph.specs.Resolved.{stored}
use Rattle.dwz_expand_passes.specs.Attributes.{Remain}
use Rattle.dwz_expand_passes.proofs.AttrSteps.{all_put}
use Rattle.dwz_model.specs.Lists.{Each}
use Rattle.dwz_expand_layout.specs.Entries.{CanStore}
use Rattle.dwz_expand_layout.specs.declared.entries.NewAttr.{NewAttr}
use Rattle.dwz_forms.specs.RawValues.{raw_view}
use Rattle.dwz_unit.proofs.ReadsLemmas.{reads_count, reads_next}
use Rattle.dwz_unit.proofs.RowsFound.{row_there}
use Rattle.dwz_graph.proofs.ValueSteps.{next_read, no_pair}
use Rattle.dwz_expand_passes.specs.Known.{raw_of}
use Rattle.dwz_expand_passes.proofs.RawLemmas.{keeps_constant}
use Rattle.dwz_expand_passes.proofs.ValuesSteps.{drop_one, drop_whole, puts_err, values_left}
use Rattle.dwz_expand_passes.proofs.SpokenLemmas.{next_spoken, start_spoken, whole_spoken}
use Rattle.dwz_expand_passes.proofs.attributes.put_values.Goals as goal

pub loop-pair-init : goal.loop-pair-init
loop-pair-init c = record {
  reads = c.values-cursor.ensures.read;
  stores = subst (λ (w : List NewAttr). Each CanStore w) (sym c.clear.ensures.items) tt;
  within = c.refs_of-rest.ensures.within;
  remain = λ q row d fits is. values_left c.args.x.now q c.args.i row d c.refs_of-rest.result.now _ _ is c.requires.there c.refs_of-rest.ensures.refs c.clear.ensures.items;
  spoken = λ q row d fits is. start_spoken q row.entry.attrs _ c.clear-2.ensures.items;
}

pub known_value-raw-requires : goal.known_value-raw-requires
known_value-raw-requires c =
    let pairs = c.values-cursor.result.pairs.now in
    let r = row_there (raw_of c.args.x.now) c.args.i c.requires.there in
    let x = reads_next r.0.entry.at pairs c.loop-pair.pair-index no_pair c.loop-pair.cursor r.0.entry.attrs c.loop-pair-test.true (c.loop-pair.invariant.reads r.0 r.1) in
    subst IsOk (sym x.value) refl

pub put_attr-requires-clause-constant : goal.put_attr-requires-clause-constant
put_attr-requires-clause-constant c =
    let pairs = c.values-cursor.result.pairs.now in
    keeps_constant (get_or pairs c.loop-pair.pair-index no_pair) c.loop-pair.cursor c.known_value-raw.new.cursor (raw_view c.known_value-raw.result)
    (c.values-cursor.ensures.plain c.loop-pair.pair-index no_pair c.loop-pair-test.true) c.known_value-raw.ensures.value

pub loop-pair-preserved : goal.loop-pair-preserved
loop-pair-preserved c =
    let pairs = c.values-cursor.result.pairs.now in
    let j = c.loop-pair.pair-index in
    let value = raw_view c.known_value-raw.result in
    record {
      reads = λ row found. (next_read row.entry.at pairs j no_pair c.loop-pair.cursor c.known_value-raw.new.cursor value row.entry.attrs c.loop-pair-test.true (c.loop-pair.invariant.reads row found)
          c.known_value-raw.ensures.value).rest;
      stores = c.in_ok-rest.ensures.stores c.loop-pair.invariant.stores;
      within = c.in_ok-rest.ensures.within;
      remain = λ q row d fits is. (
          let a : RawAttr = stored c.at-at.result c.at-end.result (get_or pairs j no_pair) c.known_value-raw.result in
          let next = next_read row.entry.at pairs j no_pair c.loop-pair.cursor c.known_value-raw.new.cursor value row.entry.attrs c.loop-pair-test.true (c.loop-pair.invariant.reads row is.found)
          c.known_value-raw.ensures.value in
          let at : slice_get row.entry.attrs j ≡ Some a =
          next.is ∙ (λ i. let b : RawAttr = record { at = sym c.at-at.ensures i; end = sym c.at-end.ensures i; pair = get_or pairs j no_pair; raw = value } in Some b) in
          let here = subst (λ (w : List RawAttr). Remain c.args.x.now q w c.loop-pair.rest.now d.attrs c.loop-pair.attrs.items c.loop-pair.operands.items) (drop_one row.entry.attrs j a at)
          (c.loop-pair.invariant.remain q row d fits is) in
          c.in_ok-rest.ensures.puts q (drop (j + 1) row.entry.attrs) d.attrs fits here);
      spoken = λ q row d fits is. (
          let a : RawAttr = stored c.at-at.result c.at-end.result (get_or pairs j no_pair) c.known_value-raw.result in
          let next = next_read row.entry.at pairs j no_pair c.loop-pair.cursor c.known_value-raw.new.cursor value row.entry.attrs c.loop-pair-test.true (c.loop-pair.invariant.reads row is.found)
          c.known_value-raw.ensures.value in
          let at : slice_get row.entry.attrs j ≡ Some a =
          next.is ∙ (λ i. let b : RawAttr = record { at = sym c.at-at.ensures i; end = sym c.at-end.ensures i; pair = get_or pairs j no_pair; raw = value } in Some b) in
          let here = subst (λ (w : List RawAttr). Remain c.args.x.now q w c.loop-pair.rest.now d.attrs c.loop-pair.attrs.items c.loop-pair.operands.items) (drop_one row.entry.attrs j a at)
          (c.loop-pair.invariant.remain q row d fits is) in
          next_spoken q row.entry.attrs j a c.loop-pair.operands.items c.put_attr.new.operands.items at (c.loop-pair.invariant.spoken q row d fits is)
          (c.in_ok-rest.ensures.speaks q (drop (j + 1) row.entry.attrs) d.attrs fits here));
    }

pub returns-in_err-rest-clause-copies : goal.returns-in_err-rest-clause-copies
returns-in_err-rest-clause-copies c = λ q row d fits is. (
    let pairs = c.values-cursor.result.pairs.now in
    let j = c.loop-pair.pair-index in
    let value = raw_view c.known_value-raw.result in
    let a : RawAttr = stored c.at-at.result c.at-end.result (get_or pairs j no_pair) c.known_value-raw.result in
    let next = next_read row.entry.at pairs j no_pair c.loop-pair.cursor c.known_value-raw.new.cursor value row.entry.attrs c.loop-pair-test.true (c.loop-pair.invariant.reads row is.found)
    c.known_value-raw.ensures.value in
    let at : slice_get row.entry.attrs j ≡ Some a =
    next.is ∙ (λ i. let b : RawAttr = record { at = sym c.at-at.ensures i; end = sym c.at-end.ensures i; pair = get_or pairs j no_pair; raw = value } in Some b) in
    let here = subst (λ (w : List RawAttr). Remain c.args.x.now q w c.loop-pair.rest.now d.attrs c.loop-pair.attrs.items c.loop-pair.operands.items) (drop_one row.entry.attrs j a at)
    (c.loop-pair.invariant.remain q row d fits is) in
    let e = err_from_is_err_and c.from_residual.result c.from_residual.ensures.1 in
    rw (e.1, e.2) (puts_err c.args.x.now q (drop (j + 1) row.entry.attrs) d.attrs c.put_attr.new.attrs.items c.put_attr.new.operands.items c.in_err-rest.field-0.0
    (c.in_err-rest.ensures.puts q (drop (j + 1) row.entry.attrs) d.attrs fits here)))

pub returns-clause-copies : goal.returns-clause-copies
returns-clause-copies c = λ q row d fits is. (
    let pairs = c.values-cursor.result.pairs.now in
    let count = reads_count row.entry.at pairs c.values-cursor.result.cursor row.entry.attrs (c.values-cursor.ensures.read row is.found) in
    all_put c.args.x.now q c.loop-pair.rest.now d.attrs c.loop-pair.attrs.items c.loop-pair.operands.items
    (subst (λ (w : List RawAttr). Remain c.args.x.now q w c.loop-pair.rest.now d.attrs c.loop-pair.attrs.items c.loop-pair.operands.items)
    (drop_whole row.entry.attrs c.loop-pair.pair-index (omega (arith, count, c.loop-pair-test.false))) (c.loop-pair.invariant.remain q row d fits is)))

pub returns-in_err-rest-clause-speaks : goal.returns-in_err-rest-clause-speaks
returns-in_err-rest-clause-speaks c = λ q row d fits is. (
    let e = err_from_is_err_and c.from_residual.result c.from_residual.ensures.1 in
    rw e.1 tt)

pub returns-clause-speaks : goal.returns-clause-speaks
returns-clause-speaks c = λ q row d fits is. (
    let pairs = c.values-cursor.result.pairs.now in
    let count = reads_count row.entry.at pairs c.values-cursor.result.cursor row.entry.attrs (c.values-cursor.ensures.read row is.found) in
    whole_spoken q row.entry.attrs c.loop-pair.pair-index c.loop-pair.operands.items (omega (arith, count, c.loop-pair-test.false)) (c.loop-pair.invariant.spoken q row d fits is))
