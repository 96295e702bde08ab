use Rattle.std.proofs.Common.{◌+◌, ◌<◌, drop, get_or, length}
use Rattle.std.proofs.lemmas.List.{drop_all}
use Rattle.dwz_def_reading.proofs.ListFacts.{drop_pairs}
use Rattle.dwz_graph.specs.Surroundings.{entries_among}
use Rattle.dwz_label_entries.proofs.ListFacts.{each_rest}
use Rattle.dwz_check_labels.specs.Files.{common_of, place_of, raw_of}
use Rattle.dwz_check_labels.proofs.RefLemmas.{first_into, first_label, names_none, into_none}
use Rattle.dwz_check_labels.proofs.ToldLemmas.{left_all, left_done, left_more}
use Rattle.dwz_check_labels.proofs.refs.put_entry_names.Goals as goal

pub loop-entry-init : goal.loop-entry-init
loop-entry-init c = record {
  within = c.requires.there;
  left = λ said name k. left_all _ _ c.args.out.now.items c.args.tops.now.items;
}

pub loop-entry-preserved : goal.loop-entry-preserved
loop-entry-preserved c =
    let x = c.args.source.now in
    let xs = c.args.entries.now in
    let i = c.loop-entry.entry-index in
    let lt : i < length xs = c.loop-entry-test.true in
    record {
      within = each_rest (λ n. n < entries_among (common_of x.common) (raw_of x)) xs i lt c.loop-entry.invariant.within;
      left = λ said name k. left_more _ _ _ _ _ _ c.loop-entry.out.items c.args.out.now.items c.put_entry_name.new.out.items _ c.loop-entry.tops.items c.put_entry_name.new.tops.items
          c.args.tops.now.items _ (first_label name (place_of x) (drop i xs) (get_or xs i 0) (drop (i + 1) xs) (drop_pairs xs i 0 lt))
          (first_into name (place_of x) (drop i xs) (get_or xs i 0) (drop (i + 1) xs) (drop_pairs xs i 0 lt)) (c.in_ok-put_entry_name.ensures said name k)
          (c.loop-entry.invariant.left said name k);
    }

pub returns : goal.returns
returns c = λ said name k. (
    let x = c.args.source.now in
    let none = drop_all c.loop-entry.entry-index c.args.entries.now c.loop-entry-test.false in
    left_done _ _ c.loop-entry.out.items c.args.out.now.items _ c.loop-entry.tops.items c.args.tops.now.items _ (names_none name (place_of x) _ none) (into_none name (place_of x) _ none)
    (c.loop-entry.invariant.left said name k))
