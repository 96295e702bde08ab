use Rattle.std.proofs.Common.{drop}
use Rattle.dwz_label_entries.specs.Sources.{raw_of, scope_at}
use Rattle.dwz_label_words.specs.Told.{rows_marks}
use Rattle.dwz_label_words.proofs.AttrLemmas.{stays_both, stays_same, still_of}
use Rattle.dwz_label_words.proofs.RowsLemmas.{begin, done, next}
use Rattle.dwz_label_words.proofs.tops.put_rows.Goals as goal

pub loop-i-init : goal.loop-i-init
loop-i-init c = record {
  stays = stays_same c.args.names.now;
  told = λ u name rows after ds k own m usual. (
      let x = c.args.source.now in
      begin (raw_of x) (scope_at x u) name c.args.here.now.number c.args.first c.args.end (drop c.args.next x.refs.now) rows after ds c.args.names.now.names c.args.out.now.items own m usual);
}

pub put_entry_marks-requires-clause-names : goal.put_entry_marks-requires-clause-names
put_entry_marks-requires-clause-names c = still_of c.args.source.now c.args.names.now c.loop-i.names c.requires.names c.loop-i.invariant.stays

pub loop-i-preserved : goal.loop-i-preserved
loop-i-preserved c = record {
  stays = stays_both c.args.names.now c.loop-i.names c.put_entry_marks.new.names c.loop-i.invariant.stays c.in_ok-at.ensures.stays;
  told = λ u name rows after ds k own m usual. (
      let x = c.args.source.now in
      let h = c.loop-i.invariant.told u name rows after ds k own m usual in
      let n = next (raw_of x) (scope_at x u) name c.args.here.now.number c.args.end after c.args.out.now.items (rows_marks name c.args.first rows ds) c.loop-i.i
      (drop c.loop-i.at x.refs.now) c.loop-i.names.names c.loop-i.out.items c.loop-i-test.true h in
      n.more (drop c.in_ok-at.at x.refs.now) c.put_entry_marks.new.out.items c.put_entry_marks.new.names.names c.in_ok-at.ensures.stays.kept
      (c.in_ok-at.ensures.told u name n.row n.d k n.own n.entry n.usual_are));
}

pub returns-clause-told : goal.returns-clause-told
returns-clause-told c = λ u name rows after ds k own m usual. (
    let x = c.args.source.now in
    done (raw_of x) (scope_at x u) name c.args.here.now.number c.args.end after c.args.out.now.items (rows_marks name c.args.first rows ds) c.loop-i.i (drop c.loop-i.at x.refs.now)
    c.loop-i.names.names c.loop-i.out.items c.loop-i-test.false (c.loop-i.invariant.told u name rows after ds k own m usual))
