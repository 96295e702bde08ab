use Rattle.std.proofs.Common.{sym, ◌∙◌, arith}
use Rattle.std.proofs.lemmas.Option.{slice_get-get_or}
use Rattle.dwz_graph_resolve.proofs.ApartLemmas.{foreign_all, foreign_here, foreign_past, own_begins, own_more}
use Rattle.dwz_graph_resolve.proofs.shared.foreign.Goals as goal

pub loop-k-init : goal.loop-k-init
loop-k-init c = record {
  from = omega arith;
  own = λ top high rows own. own_begins c.args.kept.now (record { from = c.args.from; end = c.args.end; own = c.args.own.now }) c.behind-first.result
      (c.behind-first.ensures.behind top rows);
}

pub returns-then-row-end : goal.returns-then-row-end
returns-then-row-end c = λ top high rows own. foreign_past c.args.kept.now (record { from = c.args.from; end = c.args.end; own = c.args.own.now }) top c.loop-k.k _ rows
    (slice_get-get_or c.args.kept.now c.loop-k.k _ c.loop-k-test.true) c.if-row-end.true (c.loop-k.invariant.own top high rows own)

pub returns-then-not-owns : goal.returns-then-not-owns
returns-then-not-owns c = λ top high rows own. foreign_here c.args.kept.now (record { from = c.args.from; end = c.args.end; own = c.args.own.now }) top c.behind-first.result c.loop-k.k _ rows
    (c.behind-first.ensures.behind top rows) c.loop-k.invariant.from (slice_get-get_or c.args.kept.now c.loop-k.k _ c.loop-k-test.true) c.if-row-end.false
    (sym (c.owns.ensures high own) ∙ c.if-not-owns.true) (c.loop-k.invariant.own top high rows own)

pub loop-k-preserved : goal.loop-k-preserved
loop-k-preserved c =
    let from = c.loop-k.invariant.from in
    record {
      from = omega arith;
      own = λ top high rows own. own_more c.args.kept.now (record { from = c.args.from; end = c.args.end; own = c.args.own.now }) c.loop-k.k _
          (slice_get-get_or c.args.kept.now c.loop-k.k _ c.loop-k-test.true) (sym (c.owns.ensures high own) ∙ c.if-not-owns.false) (c.loop-k.invariant.own top high rows own);
    }

pub returns : goal.returns
returns c = λ top high rows own. foreign_all c.args.kept.now (record { from = c.args.from; end = c.args.end; own = c.args.own.now }) c.loop-k.k c.loop-k-test.false
    (c.loop-k.invariant.own top high rows own)
