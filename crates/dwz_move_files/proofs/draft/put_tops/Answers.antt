use Rattle.std.proofs.Common.{◌≡◌, ℕ, ◌+◌, ◌-◌, List, length, get_or, Some, slice_get, sym, ap, subst, ◌∙◌, arith}
use Rattle.std.proofs.lemmas.Option.{slice_get-get_or}
use Rattle.dwz_def_reading.proofs.ListFacts.{same_got}
use Rattle.dwz_def_tops.specs.Spots.{Top, tops_of, units_of}
use Rattle.dwz_graph.specs.Files.{docs_of}
use Rattle.dwz_graph.specs.declared.index.Starts.{Starts}
use Rattle.dwz_graph.specs.declared.index.TopEntry.{TopEntry}
use Rattle.dwz_move.specs.Bound.{HasTops}
use Rattle.dwz_graph.proofs.FileEntries.{gives_top}
use Rattle.dwz_move_files.specs.Drafts.{IsDraft}
use Rattle.dwz_move_files.specs.Ranges.{HaveUnits}
use Rattle.dwz_move_files.proofs.UnitOrder.{have_units}
use Rattle.dwz_move_files.proofs.draft.put_tops.Goals as goal

-- what stands for an item that isn't there
abbrev none : TopEntry
none = record { entry = 0; unit = 0; inner = 0 }

pub loop-i-init : goal.loop-i-init
loop-i-init c = record {
  own = c.range_before-own.ensures;
  draft = λ contents bytes is named from count sum d. (
      let at : count ≡ count + (c.args.start - c.args.start) = omega arith in subst (λ (n : ℕ). IsDraft (docs_of contents) from n c.args.draft.now) at d);
}

pub put_top-requires-clause-entry : goal.put_top-requires-clause-entry
put_top-requires-clause-entry c =
    let len : length c.tops-tops.result.now ≡ length c.args.index.now.tops = ap (λ (w : List TopEntry). length w) c.tops-tops.ensures in
    let got = slice_get-get_or c.tops-tops.result.now c.loop-i.i none (omega arith) in
    (c.requires.tops c.loop-i.i (get_or c.tops-tops.result.now c.loop-i.i none) (ap (λ (w : List TopEntry). slice_get w c.loop-i.i) (sym c.tops-tops.ensures) ∙ got)).0

pub put_top-requires-clause-end : goal.put_top-requires-clause-end
put_top-requires-clause-end c =
    let len : length c.tops-tops.result.now ≡ length c.args.index.now.tops = ap (λ (w : List TopEntry). length w) c.tops-tops.ensures in
    let got = slice_get-get_or c.tops-tops.result.now c.loop-i.i none (omega arith) in
    (c.requires.tops c.loop-i.i (get_or c.tops-tops.result.now c.loop-i.i none) (ap (λ (w : List TopEntry). slice_get w c.loop-i.i) (sym c.tops-tops.ensures) ∙ got)).1

pub loop-i-preserved : goal.loop-i-preserved
loop-i-preserved c = (
    let x = c.args.index.now in
    let f = c.args.file.now in
    let number = c.args.number in
    let tops = c.tops-tops.result.now in
    let i = c.loop-i.i in
    let start = c.args.start in
    let top : TopEntry = get_or tops i none in
    let first = c.starts-first.result.top in
    let len : length tops ≡ length x.tops = ap (λ (w : List TopEntry). length w) c.tops-tops.ensures in
    let got : slice_get tops i ≡ Some top = slice_get-get_or tops i none (omega arith) in
    let first_is : first ≡ x.starts.top = ap (λ (s : Starts). s.top) c.starts-first.ensures in
    record {
      own = λ all j y h e q. (
          let at : j ≡ i = omega arith in
          let same : top ≡ y = same_got tops i top y got (subst (λ (k : ℕ). slice_get tops k ≡ Some y) at q) in
          subst (λ (w : TopEntry). HasTops all w.unit c.range_at-own.result) same (c.range_at-own.ensures all top h got (λ k z p r. c.loop-i.invariant.own all k z h p r)));
      draft = λ contents bytes is named from count sum d. (
          let docs = docs_of contents in
          let all : List Top = tops_of (units_of docs) in
          let g = gives_top contents number bytes f x is i top (ap (λ (w : List TopEntry). slice_get w i) (sym c.tops-tops.ensures) ∙ got) in
          let t = g.top in
          let number_is = g.top_is.number in
          let at : first + i ≡ t.number = omega arith in
          let into = c.as_slice.ensures.value ∙ c.requires.known.into contents number bytes is in
          let units : HaveUnits all first tops = subst (λ (w : List TopEntry). HaveUnits all first w) (sym c.tops-tops.ensures)
          (subst (λ (m : ℕ). HaveUnits all m x.tops) (sym first_is) (have_units contents number bytes f x is)) in
          let own = subst (λ (u : ℕ). HasTops all u c.range_at-own.result) (sym g.top_is.unit) (c.range_at-own.ensures all top units got (λ k z p q. c.loop-i.invariant.own all k z units p q)) in
          let before : x.starts.top + i ≡ first + i = omega arith in
          let behind : count + (i - start) + 1 ≡ count + (i + 1 - start) = omega arith in
          let at_count : from + (count + (i - start)) ≡ first + i = omega arith in
          let there : slice_get all (first + i) ≡ Some t = ap (slice_get all) (sym before) ∙ g.top_is.there in
          subst (λ (n : ℕ). IsDraft docs from n c.put_top.new.draft) behind
          (c.in_ok-put_top.ensures contents bytes x is i t g.top_is at into own named there from (count + (i - start)) at_count (c.loop-i.invariant.draft contents bytes is named from count sum d)));
    })

pub returns : goal.returns
returns c = λ contents bytes is named from count sum d. (
    let all : count + (c.loop-i.i - c.args.start) ≡ count + (c.args.end - c.args.start) = omega arith in
    subst (λ (n : ℕ). IsDraft (docs_of contents) from n c.loop-i.draft) all (c.loop-i.invariant.draft contents bytes is named from count sum d))
