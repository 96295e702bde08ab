use Rattle.std.proofs.Common.{◌+◌, ℕ, Some, ap, arith, drop, get_or, refl, subst, sym, ◌∙◌}
use Rattle.std.specs.Prelude.{IsOk}
use Rattle.dwz_def_reading.specs.Entries.{RawAttr}
use Rattle.dwz_forms.specs.RawValues.{raw_view}
use Rattle.dwz_unit.proofs.ReadsLemmas.{reads_count, reads_next}
use Rattle.dwz_unit.proofs.RowsFound.{row_there}
use Rattle.dwz_graph.proofs.ValueSteps.{next_read, no_pair}
use Rattle.dwz_graph.specs.Resolved.{around}
use Rattle.dwz_graph.proofs.StepLemmas.{entry}
use Rattle.dwz_label_entries.specs.Sources.{raw_of, scope_at}
use Rattle.dwz_label_entries.proofs.AttrsLemmas.{entry_in, left_all, left_means, left_more, left_none, line_for}
use Rattle.dwz_label_entries.proofs.KeptLemmas.{kept_reads}
use Rattle.dwz_label_entries.proofs.entries.put_values.Goals as goal

pub loop-pair-init : goal.loop-pair-init
loop-pair-init c = record {
  reads = c.values-cursor.ensures.read;
  left = λ u name row d k number m. (
      let x = c.args.source.now in
      let refs = drop c.args.next x.refs.now in
      let count = kept_reads row.entry.at c.values-cursor.result.pairs.now c.values-cursor.result.cursor row.entry.attrs (c.values-cursor.ensures.read row m.found) in
      left_all (raw_of x) (scope_at x u) row.entry.attrs name d.attrs refs c.args.out.now.items c.put_number.new.out.items c.count_of.result (entry (raw_of x) (scope_at x u) c.args.i refs row d m)
      (c.count_of.ensures ∙ count) c.in_ok-put_number.ensures);
}

pub known_value-raw-requires : goal.known_value-raw-requires
known_value-raw-requires c =
    let pairs = c.values-cursor.result.pairs.now in
    let r = row_there (raw_of c.args.source.now) c.args.i c.requires.row in
    let x = reads_next r.0.entry.at pairs c.loop-pair.pair-index no_pair c.loop-pair.cursor r.0.entry.attrs c.loop-pair-test.true (c.loop-pair.invariant.reads r.0 r.1) in
    subst IsOk (sym x.value) refl

pub loop-pair-preserved : goal.loop-pair-preserved
loop-pair-preserved c =
    let x = c.args.source.now in
    let pairs = c.values-cursor.result.pairs.now in
    let j = c.loop-pair.pair-index in
    let value = raw_view c.known_value-raw.result in
    let value_to : ℕ → RawAttr = λ e. record { at = c.loop-pair.cursor.at; end = e; pair = get_or pairs j no_pair; raw = value } in
    let a = value_to c.at-end.result in
    record {
      reads = λ row found. (next_read row.entry.at pairs j no_pair c.loop-pair.cursor c.known_value-raw.new.cursor value row.entry.attrs c.loop-pair-test.true (c.loop-pair.invariant.reads row found)
          c.known_value-raw.ensures.value).rest;
      left = λ u name row d k number m. (
          let is = (next_read row.entry.at pairs j no_pair c.loop-pair.cursor c.known_value-raw.new.cursor value row.entry.attrs c.loop-pair-test.true (c.loop-pair.invariant.reads row m.found)
          c.known_value-raw.ensures.value).is ∙ ap (λ (e : ℕ). Some (value_to e)) (sym c.at-end.ensures) in
          let h = c.loop-pair.invariant.left u name row d k number m in
          let mid = drop c.loop-pair.behind x.refs.now in
          let line = line_for (around x.sections.now (raw_of x)) u x.tables.now c.args.line row.entry j a k.line
          (entry_in (raw_of x) c.args.i c.args.here.now.number row u m.found number k.here.is_unit) is in
          let means = left_means (raw_of x) (scope_at x u) mid row.entry.attrs j a h.left is h.rest in
          left_more (raw_of x) (scope_at x u) (drop j row.entry.attrs) (drop (j + 1) row.entry.attrs) name d.attrs (drop c.args.next x.refs.now) mid (drop c.in_ok-behind.behind x.refs.now)
          c.loop-pair.out.items c.put_attr.new.out.items _ h
          (c.in_ok-behind.ensures u name c.loop-pair.cursor.at (drop (j + 1) row.entry.attrs) h.left k line means));
    }

pub returns : goal.returns
returns c = λ u name row d k number m. (
    let x = c.args.source.now in
    let pairs = c.values-cursor.result.pairs.now in
    let count = reads_count row.entry.at pairs c.values-cursor.result.cursor row.entry.attrs (c.values-cursor.ensures.read row m.found) in
    left_none (raw_of x) (scope_at x u) row.entry.attrs c.loop-pair.pair-index name d.attrs (drop c.args.next x.refs.now) (drop c.loop-pair.behind x.refs.now) c.loop-pair.out.items
    c.args.out.now.items (omega (arith, count, c.loop-pair-test.false)) (c.loop-pair.invariant.left u name row d k number m))
