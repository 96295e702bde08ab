use Rattle.std.proofs.Common.{◌≡◌, ℕ, ◌<◌, List, get_or, length, Some, slice_get, ap, subst, ◌∙◌, arith}
use Rattle.dwz_def_reading.specs.Units.{entries_in}
use Rattle.dwz_check_labels.specs.Files.{raw_of}
use Rattle.dwz_check_labels.proofs.FileLemmas.{each_got, one_more}
use Rattle.dwz_check_labels.proofs.StepLemmas.{found_or, lone_next, lones_all}
use Rattle.dwz_check_labels.proofs.files.put_lones.Goals as goal

-- an item of the list is a root or a space of the file
lone_found : (list lone : List ℕ) (i : ℕ) → list ≡ lone → i < length list → slice_get lone i ≡ Some (get_or list i 0)
lone_found list lone i same lt = subst (λ (w : List ℕ). slice_get w i ≡ Some (get_or list i 0)) same (found_or list i 0 lt)

pub put_lone-requires-clause-there : goal.put_lone-requires-clause-there
put_lone-requires-clause-there c =
    each_got (λ i. i < entries_in (raw_of c.args.source.now)) c.args.source.now.own.index.now.lone c.loop-entry.entry-index (get_or c.lone-list.result.now c.loop-entry.entry-index 0) c.requires.within
    (lone_found c.lone-list.result.now c.args.source.now.own.index.now.lone c.loop-entry.entry-index c.lone-list.ensures c.loop-entry-test.true)

pub put_label-requires-clause-few : goal.put_label-requires-clause-few
put_label-requires-clause-few c =
    let n = c.loop-entry.invariant.count in
    let lt = c.loop-entry-test.true in
    let len : length c.lone-list.result.now ≡ length c.args.source.now.own.index.now.lone = ap (λ (w : List ℕ). length w) c.lone-list.ensures in
    let few = c.requires.few in
    omega arith

pub loop-entry-preserved : goal.loop-entry-preserved
loop-entry-preserved c = record {
  count = one_more c.deref.result.now c.deref-in-loop-entry.result.now c.loop-entry.labels c.put_label.new.labels c.loop-entry.edges.items c.put_label.new.edges.items c.in_ok-put_label.ensures.adds
      ∙ (let n = c.loop-entry.invariant.count in omega arith);
  keys = c.in_ok-put_label.ensures.keys;
  adds = λ said name k.
      lone_next c.args.source.now said name k c.args.labels.now c.loop-entry.labels c.put_label.new.labels c.args.edges.now.items c.loop-entry.edges.items c.put_label.new.edges.items
      c.loop-entry.entry-index
      (get_or c.lone-list.result.now c.loop-entry.entry-index 0) c.clear.new.self.items c.clear-in-loop-entry.new.self.items c.put_lone.new.out.items c.put_lone.new.tops.items c.deref.result.now
      c.deref-in-loop-entry.result.now (lone_found c.lone-list.result.now c.args.source.now.own.index.now.lone c.loop-entry.entry-index c.lone-list.ensures c.loop-entry-test.true)
      (λ d is. c.in_ok-put_lone.ensures said name d k is) c.clear.ensures.items c.clear-in-loop-entry.ensures.items c.deref.ensures.value c.deref-in-loop-entry.ensures.value
      (c.loop-entry.invariant.adds said name k) c.in_ok-put_label.ensures.adds;
}

pub returns-clause-adds : goal.returns-clause-adds
returns-clause-adds c = λ said name k.
    lones_all c.args.source.now said name k c.args.labels.now c.loop-entry.labels c.args.edges.now.items c.loop-entry.edges.items c.loop-entry.entry-index
    (let le = c.loop-entry-test.false in let len : length c.lone-list.result.now ≡ length c.args.source.now.own.index.now.lone = ap (λ (w : List ℕ). length w) c.lone-list.ensures in omega arith)
    (c.loop-entry.invariant.adds said name k)
