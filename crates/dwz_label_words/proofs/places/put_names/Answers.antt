use Rattle.std.proofs.Common.{◌+◌, ◌<◌, ◌++◌, ℕ, List, ap, drop, get_or, length, ◌∙◌}
use Rattle.std.proofs.lemmas.List.{drop_all}
use Rattle.dwz_def_reading.specs.Units.{entries_in}
use Rattle.dwz_def_reading.proofs.ListFacts.{drop_pairs}
use Rattle.dwz_label.specs.Labels.{counted}
use Rattle.dwz_graph.specs.Resolved.{around}
use Rattle.dwz_unit.specs.Rows.{units_of}
use Rattle.dwz_label_entries.proofs.NamesLemmas.{names_all, next_name, no_name, space_means, space_named}
use Rattle.dwz_label_entries.proofs.ListFacts.{each_rest}
use Rattle.dwz_label_words.proofs.places.put_names.Goals as goal

pub loop-space-init : goal.loop-space-init
loop-space-init c = record {
  within = c.requires;
  left = λ u names at h. (
      let raw = units_of c.args.units.now in
      names_all raw (around c.args.sections.now raw) c.args.here.now.number names c.args.spaces.now c.args.out.now.items c.put_number.new.out.items h c.in_ok-put_number.ensures);
}

pub loop-space-preserved : goal.loop-space-preserved
loop-space-preserved c =
    let raw = units_of c.args.units.now in
    let xs = c.args.spaces.now in
    let k = c.loop-space.space-index in
    let e = get_or xs k 0 in
    let lt : k < length xs = c.loop-space-test.true in
    record {
      within = each_rest (λ n. n < entries_in raw) xs k lt c.loop-space.invariant.within;
      left = λ u names at h. (
          let a = around c.args.sections.now raw in
          let n = c.args.here.now.number in
          let x = next_name raw a n e (drop k xs) (drop (k + 1) xs) c.loop-space.out.items _ (drop_pairs xs k 0 lt) (c.loop-space.invariant.left u names at h) in
          x.2 c.put_name.new.out.items (c.in_ok-put_name.ensures u x.1.row x.1.d x.1.text at x.1.found (space_means raw a n e x.0 u x.1 at.is_unit) x.1.is_space
          ∙ ap (λ (w : List ℕ). c.loop-space.out.items ++ counted w) (space_named raw a n e x.0 x.1)));
    }

pub returns : goal.returns
returns c = λ u names at h. (
    let raw = units_of c.args.units.now in
    let xs = c.args.spaces.now in
    let k = c.loop-space.space-index in
    no_name raw (around c.args.sections.now raw) c.args.here.now.number (drop k xs) c.loop-space.out.items _ (drop_all k xs c.loop-space-test.false) (c.loop-space.invariant.left u names at h))
