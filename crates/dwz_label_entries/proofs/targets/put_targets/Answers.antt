use Rattle.std.proofs.Common.{◌+◌, ◌<◌, drop, get_or, length, arith}
use Rattle.std.proofs.lemmas.List.{length-drop}
use Rattle.dwz_def_reading.proofs.ListFacts.{drop_pairs}
use Rattle.dwz_label_entries.proofs.TargetLemmas.{first_left, name_there, none_left}
use Rattle.dwz_label_entries.proofs.ListFacts.{each_rest}
use Rattle.dwz_label_entries.proofs.targets.put_targets.Goals as goal

pub loop-entry-preserved : goal.loop-entry-preserved
loop-entry-preserved c =
    let xs = c.args.entries.now in
    let i = c.loop-entry.entry-index in
    let x = get_or xs i 0 in
    let lt : i < length xs = c.loop-entry-test.true in
    record {
      within = each_rest (λ n. n < length c.args.index.now.steps) xs i lt c.loop-entry.invariant.within;
      left = λ raw name places k t many. (
          let f = first_left raw name (drop i xs) x (drop (i + 1) xs) c.loop-entry.out.items _ (drop_pairs xs i 0 lt) (c.loop-entry.invariant.left raw name places k t many) in
          f.3 c.put_target.new.out.items (c.in_ok-put_target.ensures k.names (name f.0) k.shown (name_there raw name c.args.index.now x f.0 k f.1 f.2)));
    }

pub returns : goal.returns
returns c = λ raw name places k t many.
    none_left raw name (drop c.loop-entry.entry-index c.args.entries.now) c.loop-entry.out.items _ (omega (arith, length-drop c.loop-entry.entry-index c.args.entries.now, c.loop-entry-test.false))
    (c.loop-entry.invariant.left raw name places k t many)
