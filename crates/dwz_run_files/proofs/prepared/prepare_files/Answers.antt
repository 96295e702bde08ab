use Rattle.std.proofs.Common.{List, Option, sym, subst, refl}
use Rattle.dwz_def_reading.specs.Values.{AreBytes}
use Rattle.dwz_def_reading.specs.Lists.{Each}
use Rattle.dwz_layout.specs.declared.order.UnitItems.{UnitItems}
use Rattle.dwz_encode_texts.specs.declared.pruning.PrunedFile.{PrunedFile}
use Rattle.dwz_law_layout.specs.Beside.{Alone}
use Rattle.dwz_run_files.specs.Common.{AreWhole}
use Rattle.dwz_run_files.specs.Moved.{AreMoved, ArePruned}
use Rattle.dwz_run_files.proofs.FactsJoined.{AreJoined, before, joined, told, whole_so}
use Rattle.dwz_run_files.proofs.FilesTold.{files_written_are, ranks_long, texts_named}
use Rattle.dwz_run_files.proofs.FilesReady.{is_ready}
use Rattle.dwz_run_files.proofs.prepared.prepare_files.Goals as goal

pub whole_lists-requires : goal.whole_lists-requires
whole_lists-requires g c =
    let contents = c.args.graph.now.given in
    let files = c.files-files.result.now in
    let prunes = c.args.prunes.now in
    let a = c.in_ok-run.run' in
    let o = c.in_ok-ordered.ordered in
    let k = c.in_ok-known.known in
    let j : AreJoined contents files prunes a o k = record {
      bytes = subst (Each AreBytes) (sym c.requires.read) c.look_at_all.ensures;
      kept = c.files-files.ensures;
      prunable = c.requires.prunes;
      settled = c.in_ok-run.ensures.settled;
      ordered = c.in_ok-ordered.ensures;
      listed = c.in_ok-known.ensures;
    } in
    let f = joined contents files prunes a o k j in (
      f,
      j.ordered.order.lent,
      j.listed.texts,
      before contents files prunes a o k j c.as_slice-importing.result.now c.as_slice-importing.ensures.value c.as_slice-orders.result.now
          c.as_slice-orders.ensures.value,
    )

pub prune_files-requires-clause-many : goal.prune_files-requires-clause-many
prune_files-requires-clause-many g c =
    let contents = c.args.graph.now.given in
    let files = c.files-files.result.now in
    let prunes = c.args.prunes.now in
    let a = c.in_ok-run.run' in
    let o = c.in_ok-ordered.ordered in
    let k = c.in_ok-known.known in
    let j : AreJoined contents files prunes a o k = record {
      bytes = subst (Each AreBytes) (sym c.requires.read) c.look_at_all.ensures;
      kept = c.files-files.ensures;
      prunable = c.requires.prunes;
      settled = c.in_ok-run.ensures.settled;
      ordered = c.in_ok-ordered.ensures;
      listed = c.in_ok-known.ensures;
    } in
    let f = joined contents files prunes a o k j in
    let whole : AreWhole f j.ordered.order.lent o.orders.items c.in_ok-whole.whole =
    whole_so contents files prunes a o k j c.as_slice-importing.result.now c.as_slice-importing.ensures.value c.as_slice-orders.result.now
    c.as_slice-orders.ensures.value c.in_ok-whole.whole c.in_ok-whole.ensures in
    let w = c.as_written.ensures in
    ranks_long f contents prunes j.ordered.order.lent o c.in_ok-whole.whole.known
    (told contents files prunes a o k j c.in_ok-whole.whole whole) c.as_written.result w.ranks w.orders w.firsts

pub prune_files-requires-clause-texts : goal.prune_files-requires-clause-texts
prune_files-requires-clause-texts g c =
    let contents = c.args.graph.now.given in
    let files = c.files-files.result.now in
    let prunes = c.args.prunes.now in
    let a = c.in_ok-run.run' in
    let o = c.in_ok-ordered.ordered in
    let k = c.in_ok-known.known in
    let j : AreJoined contents files prunes a o k = record {
      bytes = subst (Each AreBytes) (sym c.requires.read) c.look_at_all.ensures;
      kept = c.files-files.ensures;
      prunable = c.requires.prunes;
      settled = c.in_ok-run.ensures.settled;
      ordered = c.in_ok-ordered.ensures;
      listed = c.in_ok-known.ensures;
    } in
    let f = joined contents files prunes a o k j in
    let whole : AreWhole f j.ordered.order.lent o.orders.items c.in_ok-whole.whole =
    whole_so contents files prunes a o k j c.as_slice-importing.result.now c.as_slice-importing.ensures.value c.as_slice-orders.result.now
    c.as_slice-orders.ensures.value c.in_ok-whole.whole c.in_ok-whole.ensures in
    let w = c.as_written.ensures in
    texts_named f contents prunes j.ordered.order.lent o c.in_ok-whole.whole.known
    (told contents files prunes a o k j c.in_ok-whole.whole whole) c.as_written.result w.ranks w.orders w.firsts

pub returns-clause-ready : goal.returns-clause-ready
returns-clause-ready g c =
    let contents = c.args.graph.now.given in
    let files = c.files-files.result.now in
    let prunes = c.args.prunes.now in
    let a = c.in_ok-run.run' in
    let o = c.in_ok-ordered.ordered in
    let k = c.in_ok-known.known in
    let v = c.in_ok-whole.whole in
    let m = c.in_ok-known-2.known in
    let j : AreJoined contents files prunes a o k = record {
      bytes = subst (Each AreBytes) (sym c.requires.read) c.look_at_all.ensures;
      kept = c.files-files.ensures;
      prunable = c.requires.prunes;
      settled = c.in_ok-run.ensures.settled;
      ordered = c.in_ok-ordered.ensures;
      listed = c.in_ok-known.ensures;
    } in
    let f = joined contents files prunes a o k j in
    let whole : AreWhole f j.ordered.order.lent o.orders.items v =
    whole_so contents files prunes a o k j c.as_slice-importing.result.now c.as_slice-importing.ensures.value c.as_slice-orders.result.now
    c.as_slice-orders.ensures.value v c.in_ok-whole.ensures in
    let w = c.as_written.ensures in
    let pruned = c.in_ok-pruned.pruned.items in
    let are = subst (λ (orders : List (List UnitItems)). ArePruned f v.known orders pruned) w.orders
    (c.in_ok-pruned.ensures Alone f
    (files_written_are f contents prunes j.ordered.order.lent o v.known (told contents files prunes a o k j v whole) c.as_written.result w.ranks w.orders w.firsts)) in
    let moved = subst (λ (ps : List (Option PrunedFile)). AreMoved ps v.known m) c.deref.ensures.value c.in_ok-known-2.ensures in
    is_ready contents files prunes a o k j v whole pruned m are moved _ refl refl refl refl refl refl
