use Rattle.std.proofs.Common.{◌≡◌, ℕ, ◌<◌, List, get_or, length, Some, slice_get, ap, subst, ◌∙◌, arith}
use Rattle.dwz_def_reading.specs.Units.{entries_in}
use Rattle.dwz_check_index.specs.declared.index.TopEntry.{TopEntry}
use Rattle.dwz_check_labels.specs.Files.{raw_of}
use Rattle.dwz_check_labels.specs.Rows.{AreTopsWithin}
use Rattle.dwz_check_labels.proofs.FileLemmas.{each_got, one_more}
use Rattle.dwz_check_labels.proofs.StepLemmas.{found_or, top_next, tops_all}
use Rattle.dwz_check_labels.proofs.files.put_tops.Goals as goal

-- an item of the list is a top of the file
top_found : (list tops : List TopEntry) (i : ℕ) (d : TopEntry) → list ≡ tops → i < length list → slice_get tops i ≡ Some (get_or list i d)
top_found list tops i d same lt = subst (λ (w : List TopEntry). slice_get w i ≡ Some (get_or list i d)) same (found_or list i d lt)

top_within : (count : ℕ) (list tops : List TopEntry) (i : ℕ) (d : TopEntry) → list ≡ tops → i < length list → AreTopsWithin count tops
    → ((get_or list i d).entry < count) × ((get_or list i d).outer < count)
top_within count list tops i d same lt h = each_got (λ t. (t.entry < count) × (t.outer < count)) tops i (get_or list i d) h (top_found list tops i d same lt)

pub put_top-requires-clause-there : goal.put_top-requires-clause-there
put_top-requires-clause-there c =
    (top_within (entries_in (raw_of c.args.source.now)) c.tops-list.result.now c.args.source.now.own.index.now.tops c.loop-top.top-index (record { entry = 0; unit = 0; outer = 0 }) c.tops-list.ensures
    c.loop-top-test.true c.requires.within).0

pub put_top-requires-clause-outer : goal.put_top-requires-clause-outer
put_top-requires-clause-outer c =
    (top_within (entries_in (raw_of c.args.source.now)) c.tops-list.result.now c.args.source.now.own.index.now.tops c.loop-top.top-index (record { entry = 0; unit = 0; outer = 0 }) c.tops-list.ensures
    c.loop-top-test.true c.requires.within).1

pub put_label-requires-clause-few : goal.put_label-requires-clause-few
put_label-requires-clause-few c =
    let n = c.loop-top.invariant.count in
    let lt = c.loop-top-test.true in
    let len : length c.tops-list.result.now ≡ length c.args.source.now.own.index.now.tops = ap (λ (w : List TopEntry). length w) c.tops-list.ensures in
    let few = c.requires.few in
    omega arith

pub loop-top-preserved : goal.loop-top-preserved
loop-top-preserved c = record {
  count = one_more c.deref.result.now c.deref-in-loop-top.result.now c.loop-top.labels c.put_label.new.labels c.loop-top.edges.items c.put_label.new.edges.items c.in_ok-put_label.ensures.adds
      ∙ (let n = c.loop-top.invariant.count in omega arith);
  keys = c.in_ok-put_label.ensures.keys;
  adds = λ said name k.
      top_next c.args.source.now said name k c.args.labels.now c.loop-top.labels c.put_label.new.labels c.args.edges.now.items c.loop-top.edges.items c.put_label.new.edges.items c.loop-top.top-index
      (get_or c.tops-list.result.now c.loop-top.top-index (record { entry = 0; unit = 0; outer = 0 })) c.clear.new.self.items c.clear-in-loop-top.new.self.items c.put_top.new.out.items
      c.put_top.new.tops.items
      c.deref.result.now c.deref-in-loop-top.result.now
      (top_found c.tops-list.result.now c.args.source.now.own.index.now.tops c.loop-top.top-index (record { entry = 0; unit = 0; outer = 0 }) c.tops-list.ensures c.loop-top-test.true)
      (λ n t is. c.in_ok-put_top.ensures said name n t k is) c.clear.ensures.items c.clear-in-loop-top.ensures.items c.deref.ensures.value c.deref-in-loop-top.ensures.value
      (c.loop-top.invariant.adds said name k) c.in_ok-put_label.ensures.adds;
}

pub returns-clause-adds : goal.returns-clause-adds
returns-clause-adds c = λ said name k.
    tops_all c.args.source.now said name k c.args.labels.now c.loop-top.labels c.args.edges.now.items c.loop-top.edges.items c.loop-top.top-index
    (let le = c.loop-top-test.false in let len : length c.tops-list.result.now ≡ length c.args.source.now.own.index.now.tops = ap (λ (w : List TopEntry). length w) c.tops-list.ensures in omega arith)
    (c.loop-top.invariant.adds said name k)
