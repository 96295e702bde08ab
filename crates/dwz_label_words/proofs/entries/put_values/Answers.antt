use Rattle.std.proofs.Common.{◌≡◌, ◌+◌, ℕ, ap, arith, drop, get_or, refl, subst, sym}
use Rattle.std.specs.Prelude.{IsOk}
use Rattle.std.proofs.lemmas.Result.{IfOk-at_ok}
use Rattle.dwz_bytes.specs.Input.{Input}
use Rattle.dwz_unit.specs.Values.{Reads}
use Rattle.dwz_unit.proofs.ReadsLemmas.{reads_count, reads_next}
use Rattle.dwz_unit.proofs.RowsFound.{row_there}
use Rattle.dwz_graph.proofs.ValueSteps.{no_pair}
use Rattle.dwz_graph.specs.Resolved.{around, value_between}
use Rattle.dwz_graph.proofs.StepLemmas.{entry}
use Rattle.dwz_label_entries.specs.Sources.{raw_of, scope_at}
use Rattle.dwz_label_entries.proofs.AttrsLemmas.{entry_in, left_means, line_for}
use Rattle.dwz_label_words.proofs.AttrLemmas.{all_told, more_told, none_told, stays_both, stays_same, still_of}
use Rattle.dwz_label_words.proofs.entries.put_values.Goals as goal

pub loop-pair-init : goal.loop-pair-init
loop-pair-init c = record {
  reads = c.values-cursor.ensures.read;
  stays = stays_same c.args.names.now;
  told = λ u name row d k number m each. (
      let x = c.args.source.now in
      let refs = drop c.args.next x.refs.now in
      none_told (raw_of x) (scope_at x u) name row.entry.attrs d.attrs c.args.names.now.names refs c.args.out.now.items (entry (raw_of x) (scope_at x u) c.args.i refs row d m) each);
}

pub put_by_form-requires-clause-read : goal.put_by_form-requires-clause-read
put_by_form-requires-clause-read c =
    let pairs = c.values-cursor.result.pairs.now in
    let r = row_there (raw_of c.args.source.now) c.args.i c.requires.row in
    let x = reads_next r.0.entry.at pairs c.loop-pair.pair-index no_pair c.loop-pair.cursor r.0.entry.attrs c.loop-pair-test.true (c.loop-pair.invariant.reads r.0 r.1) in
    subst IsOk (sym x.value) refl

pub put_by_form-requires-clause-names : goal.put_by_form-requires-clause-names
put_by_form-requires-clause-names c = still_of c.args.source.now c.args.names.now c.loop-pair.names c.requires.names c.loop-pair.invariant.stays

pub loop-pair-preserved : goal.loop-pair-preserved
loop-pair-preserved c =
    let x = c.args.source.now in
    let pairs = c.values-cursor.result.pairs.now in
    let j = c.loop-pair.pair-index in
    let from = c.loop-pair.cursor in
    let to = c.put_by_form.new.cursor in
    record {
      reads = λ row found. (
          let n = reads_next row.entry.at pairs j no_pair from row.entry.attrs c.loop-pair-test.true (c.loop-pair.invariant.reads row found) in
          let behind : to ≡ n.place = IfOk-at_ok _ n.value c.put_by_form.ensures.read in
          subst (λ (i : Input). Reads row.entry.at (drop (j + 1) pairs) i (drop (j + 1) row.entry.attrs)) (sym behind) n.rest);
      stays = stays_both c.args.names.now c.loop-pair.names c.put_by_form.new.names c.loop-pair.invariant.stays c.in_ok-behind.ensures.stays;
      told = λ u name row d k number m each. (
          let n = reads_next row.entry.at pairs j no_pair from row.entry.attrs c.loop-pair-test.true (c.loop-pair.invariant.reads row m.found) in
          let a = value_between from n.place (get_or pairs j no_pair) n.raw in
          let h = c.loop-pair.invariant.told u name row d k number m each in
          let mid = drop c.loop-pair.behind x.refs.now in
          let line = line_for (around x.sections.now (raw_of x)) u x.tables.now c.args.line row.entry j a k.line
          (entry_in (raw_of x) c.args.i c.args.here.now.number row u m.found number k.here.is_unit) n.is in
          let means = left_means (raw_of x) (scope_at x u) mid row.entry.attrs j a h.left n.is h.rest in
          more_told (raw_of x) (scope_at x u) name (drop j row.entry.attrs) (drop (j + 1) row.entry.attrs) d.attrs c.loop-pair.names.names c.put_by_form.new.names.names
          (drop c.args.next x.refs.now) mid (drop c.in_ok-behind.behind x.refs.now) c.args.out.now.items c.loop-pair.out.items c.put_by_form.new.out.items h
          c.in_ok-behind.ensures.stays.kept
          (IfOk-at_ok _ n.value c.in_ok-behind.ensures.told u name (drop (j + 1) row.entry.attrs) h.left k line means h.usual_are));
    }

pub returns-clause-told : goal.returns-clause-told
returns-clause-told c = λ u name row d k number m each. (
    let x = c.args.source.now in
    let pairs = c.values-cursor.result.pairs.now in
    let count = reads_count row.entry.at pairs c.values-cursor.result.cursor row.entry.attrs (c.values-cursor.ensures.read row m.found) in
    all_told (raw_of x) (scope_at x u) name row.entry.attrs c.loop-pair.pair-index d.attrs c.loop-pair.names.names (drop c.args.next x.refs.now) (drop c.loop-pair.behind x.refs.now)
    c.args.out.now.items c.loop-pair.out.items (omega (arith, count, c.loop-pair-test.false)) (c.loop-pair.invariant.told u name row d k number m each))
