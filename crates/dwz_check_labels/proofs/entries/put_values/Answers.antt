use Rattle.std.proofs.Common.{◌+◌, ℕ, Some, ap, arith, drop, get_or, refl, subst, sym, ◌∙◌}
use Rattle.std.specs.Prelude.{IsOk}
use Rattle.dwz_def_reading.specs.Entries.{RawAttr}
use Rattle.dwz_forms.specs.RawValues.{raw_view}
use Rattle.dwz_unit.proofs.ReadsLemmas.{reads_count, reads_next}
use Rattle.dwz_unit.proofs.RowsFound.{row_there}
use Rattle.dwz_graph.proofs.ValueSteps.{next_read, no_pair}
use Rattle.dwz_label_entries.proofs.AttrsLemmas.{entry_in, line_for}
use Rattle.dwz_label_entries.proofs.KeptLemmas.{kept_reads}
use Rattle.dwz_check_labels.specs.Files.{around_at, place_of, raw_of, scope_at}
use Rattle.dwz_check_labels.proofs.AttrLemmas.{entry_meant}
use Rattle.dwz_check_labels.proofs.ValueLemmas.{left_all, left_means, left_more, left_none}
use Rattle.dwz_check_labels.proofs.entries.put_values.Goals as goal

pub loop-pair-init : goal.loop-pair-init
loop-pair-init c = record {
  reads = c.values-cursor.ensures.read;
  left = λ said name n row d k h line is. (
      let x = c.args.source.now in
      let count = kept_reads row.entry.at c.values-cursor.result.pairs.now c.values-cursor.result.cursor row.entry.attrs (c.values-cursor.ensures.read row is.found) in
      left_all (scope_at x h.u) (place_of x) row.entry.attrs name d.attrs c.refs_of-refs.result.now c.args.out.now.items c.put_number.new.out.items c.args.tops.now.items c.count_of.result
      (entry_meant x said name k n c.args.i row d h.u h.is_unit is c.refs_of-refs.result.now c.requires.there c.refs_of-refs.ensures.refs) (c.count_of.ensures ∙ count) c.in_ok-put_number.ensures);
}

pub known_value-raw-requires : goal.known_value-raw-requires
known_value-raw-requires c =
    let pairs = c.values-cursor.result.pairs.now in
    let r = row_there (raw_of c.args.source.now) c.args.i c.requires.there in
    let x = reads_next r.0.entry.at pairs c.loop-pair.pair-index no_pair c.loop-pair.cursor r.0.entry.attrs c.loop-pair-test.true (c.loop-pair.invariant.reads r.0 r.1) in
    subst IsOk (sym x.value) refl

pub loop-pair-preserved : goal.loop-pair-preserved
loop-pair-preserved c =
    let x = c.args.source.now in
    let pairs = c.values-cursor.result.pairs.now in
    let j = c.loop-pair.pair-index in
    let value = raw_view c.known_value-raw.result in
    let value_to : ℕ → RawAttr = λ e. record { at = c.loop-pair.cursor.at; end = e; pair = get_or pairs j no_pair; raw = value } in
    let a = value_to c.at-end.result in
    record {
      reads = λ row found. (next_read row.entry.at pairs j no_pair c.loop-pair.cursor c.known_value-raw.new.cursor value row.entry.attrs c.loop-pair-test.true (c.loop-pair.invariant.reads row found)
          c.known_value-raw.ensures.value).rest;
      left = λ said name n row d k h line is. (
          let at = (next_read row.entry.at pairs j no_pair c.loop-pair.cursor c.known_value-raw.new.cursor value row.entry.attrs c.loop-pair-test.true (c.loop-pair.invariant.reads row is.found)
          c.known_value-raw.ensures.value).is ∙ ap (λ (e : ℕ). Some (value_to e)) (sym c.at-end.ensures) in
          let left = c.loop-pair.invariant.left said name n row d k h line is in
          let mid = drop c.loop-pair.behind c.refs_of-refs.result.now in
          let s = scope_at x h.u in
          let of_line = line_for (around_at x) h.u x.tables.now c.args.line row.entry j a (k.lines.line n h.u c.args.line h.is_unit line)
          (entry_in (raw_of x) c.args.i n row h.u is.found is.unit h.is_unit) at in
          let means = left_means s (place_of x) mid row.entry.attrs j a left.left at left.rest in
          left_more s (place_of x) (drop j row.entry.attrs) (drop (j + 1) row.entry.attrs) name mid (drop c.in_ok-behind.behind c.refs_of-refs.result.now) c.loop-pair.out.items
          c.put_attr.new.out.items _ c.loop-pair.tops.items c.put_attr.new.tops.items _ left
          (c.in_ok-behind.ensures said name h.u c.loop-pair.cursor.at (drop (j + 1) row.entry.attrs) left.left k h.here of_line means));
    }

pub returns : goal.returns
returns c = λ said name n row d k h line is. (
    let x = c.args.source.now in
    let pairs = c.values-cursor.result.pairs.now in
    let count = reads_count row.entry.at pairs c.values-cursor.result.cursor row.entry.attrs (c.values-cursor.ensures.read row is.found) in
    left_none (scope_at x h.u) (place_of x) row.entry.attrs c.loop-pair.pair-index name (drop c.loop-pair.behind c.refs_of-refs.result.now) c.loop-pair.out.items _ c.args.out.now.items
    c.loop-pair.tops.items c.args.tops.now.items _ (omega (arith, count, c.loop-pair-test.false)) (c.loop-pair.invariant.left said name n row d k h line is))
