use Rattle.std.proofs.Common.{List, Option, length, refl, ap, subst, ◌∙◌}
use Rattle.dwz_def_reading.specs.Units.{RawUnit}
use Rattle.dwz_layout.specs.declared.order.UnitItems.{UnitItems}
use Rattle.dwz_law_layout.specs.Beside.{Over}
use Rattle.dwz_law_layout.specs.CommonRows.{standing_beside}
use Rattle.dwz_encode_texts.specs.declared.pruning.PrunedFile.{PrunedFile}
use Rattle.dwz_run_files.specs.Moved.{AreMoved, ArePruned}
use Rattle.dwz_run_files.proofs.OverJoined.{AreJoinedOver, joined}
use Rattle.dwz_run_files.proofs.OverReady.{long, named, ready_over, rows_many, written_are}
use Rattle.dwz_run_files.proofs.over.prepare_over.Goals as goal

pub settle_over-requires-clause-standing : goal.settle_over-requires-clause-standing
settle_over-requires-clause-standing g c = λ lifetimes lives. ((standing_beside c.requires.standing.0, c.requires.standing.1.standing))

pub order_over-requires-clause-run : goal.order_over-requires-clause-run
order_over-requires-clause-run g c =
    let s = standing_beside c.requires.standing.0 in (s, c.in_ok-run.ensures s c.requires.standing.1.standing)

pub list_over-requires-clause-run : goal.list_over-requires-clause-run
list_over-requires-clause-run g c =
    let s = standing_beside c.requires.standing.0 in
    let is = c.requires.standing.1.standing in
    (s, c.in_ok-run.ensures s is, is)

pub with_standing-requires : goal.with_standing-requires
with_standing-requires g c =
    let s = standing_beside c.requires.standing.0 in
    let graph = c.args.graph.now in
    let files = c.files-files.result.now in
    let prunes = c.args.prunes.now in
    let b = c.args.standing.now in
    let a = c.in_ok-run.run' in
    let o = c.in_ok-ordered.ordered in
    let k = c.in_ok-known.known in
    let settled = c.in_ok-run.ensures s c.requires.standing.1.standing in
    let j : AreJoinedOver graph files prunes b c.requires.standing.0 a o k = record {
      standing = c.requires.standing.1;
      kept = c.files-files.ensures;
      settled = settled;
      ordered = c.in_ok-ordered.ensures s settled (c.len.ensures ∙ ap (λ (us : List RawUnit). length us) c.requires.standing.1.standing.raw_is);
      listed = c.in_ok-known.ensures s settled c.requires.standing.1.standing;
    } in
    rows_many graph files prunes b c.requires.standing.0 a o k j

pub prune_files-requires-clause-many : goal.prune_files-requires-clause-many
prune_files-requires-clause-many g c =
    let s = standing_beside c.requires.standing.0 in
    let graph = c.args.graph.now in
    let files = c.files-files.result.now in
    let prunes = c.args.prunes.now in
    let b = c.args.standing.now in
    let a = c.in_ok-run.run' in
    let o = c.in_ok-ordered.ordered in
    let k = c.in_ok-known.known in
    let settled = c.in_ok-run.ensures s c.requires.standing.1.standing in
    let j : AreJoinedOver graph files prunes b c.requires.standing.0 a o k = record {
      standing = c.requires.standing.1;
      kept = c.files-files.ensures;
      settled = settled;
      ordered = c.in_ok-ordered.ensures s settled (c.len.ensures ∙ ap (λ (us : List RawUnit). length us) c.requires.standing.1.standing.raw_is);
      listed = c.in_ok-known.ensures s settled c.requires.standing.1.standing;
    } in
    let w = c.as_written.ensures in
    long graph files prunes b c.requires.standing.0 a o k j c.as_slice-importing.result.now c.as_slice-importing.ensures.value c.in_ok-texts.texts
    c.in_ok-texts.ensures c.in_ok-known-2.known c.in_ok-known-2.ensures.made (λ f t are. c.in_ok-known-2.ensures.listed (Over s) f t are)
    c.as_written.result w.ranks w.orders w.firsts

pub prune_files-requires-clause-texts : goal.prune_files-requires-clause-texts
prune_files-requires-clause-texts g c =
    let s = standing_beside c.requires.standing.0 in
    let graph = c.args.graph.now in
    let files = c.files-files.result.now in
    let prunes = c.args.prunes.now in
    let b = c.args.standing.now in
    let a = c.in_ok-run.run' in
    let o = c.in_ok-ordered.ordered in
    let k = c.in_ok-known.known in
    let settled = c.in_ok-run.ensures s c.requires.standing.1.standing in
    let j : AreJoinedOver graph files prunes b c.requires.standing.0 a o k = record {
      standing = c.requires.standing.1;
      kept = c.files-files.ensures;
      settled = settled;
      ordered = c.in_ok-ordered.ensures s settled (c.len.ensures ∙ ap (λ (us : List RawUnit). length us) c.requires.standing.1.standing.raw_is);
      listed = c.in_ok-known.ensures s settled c.requires.standing.1.standing;
    } in
    let w = c.as_written.ensures in
    named graph files prunes b c.requires.standing.0 a o k j c.as_slice-importing.result.now c.as_slice-importing.ensures.value c.in_ok-texts.texts
    c.in_ok-texts.ensures c.in_ok-known-2.known c.in_ok-known-2.ensures.made (λ f t are. c.in_ok-known-2.ensures.listed (Over s) f t are)
    c.as_written.result w.ranks w.orders w.firsts

pub returns : goal.returns
returns g c x st =
    let s = standing_beside x in
    let graph = c.args.graph.now in
    let files = c.files-files.result.now in
    let prunes = c.args.prunes.now in
    let b = c.args.standing.now in
    let a = c.in_ok-run.run' in
    let o = c.in_ok-ordered.ordered in
    let k = c.in_ok-known.known in
    let settled = c.in_ok-run.ensures s st.standing in
    let j : AreJoinedOver graph files prunes b x a o k = record {
      standing = st;
      kept = c.files-files.ensures;
      settled = settled;
      ordered = c.in_ok-ordered.ensures s settled (c.len.ensures ∙ ap (λ (us : List RawUnit). length us) st.standing.raw_is);
      listed = c.in_ok-known.ensures s settled st.standing;
    } in
    let f = joined graph files prunes b x a o k j in
    let v = c.in_ok-known-2.known in
    let m = c.in_ok-known-3.known in
    let w = c.as_written.ensures in
    let pruned = c.in_ok-pruned.pruned.items in
    let are = subst (λ (orders : List (List UnitItems)). ArePruned f v orders pruned) w.orders
    (c.in_ok-pruned.ensures (Over s) f
    (written_are graph files prunes b x a o k j c.as_slice-importing.result.now c.as_slice-importing.ensures.value c.in_ok-texts.texts
    c.in_ok-texts.ensures v c.in_ok-known-2.ensures.made (λ f t are. c.in_ok-known-2.ensures.listed (Over s) f t are) c.as_written.result
    w.ranks w.orders w.firsts)) in
    let moved = subst (λ (ps : List (Option PrunedFile)). AreMoved ps v m) c.deref.ensures.value c.in_ok-known-3.ensures in
    ready_over graph files prunes b x a o k j c.as_slice-importing.result.now c.as_slice-importing.ensures.value c.in_ok-texts.texts
    c.in_ok-texts.ensures v c.in_ok-known-2.ensures.made (λ f t are. c.in_ok-known-2.ensures.listed (Over s) f t are) c.requires.few pruned m
    are moved _ refl refl refl refl refl
