use Rattle.std.proofs.Common.{◌≡◌, ◌<◌, ◌∙◌, ℕ, Bool, length, map, get_or, slice_get, sym, subst, ap, List, arith}
use Rattle.std.proofs.lemmas.List.{take_all}
use Rattle.dwz_plan.specs.declared.plan.Partial.{Partial}
use Rattle.dwz_move.specs.Marked.{Marks}
use Rattle.dwz_layout_order.proofs.ImportingLemmas.{Flagged, flags_so, part_marked, part_passed}
use Rattle.dwz_layout_order.proofs.importing.importing_files.Goals.{else-part-files, then-part-files}
use Rattle.dwz_layout_order.proofs.importing.importing_files.Goals as goal

pub loop-part-preserved : goal.loop-part-preserved
loop-part-preserved c =
    let count = c.args.files in
    let files = c.args.tops.now.files_of_units in
    let parts = c.args.plan.now.partials in
    let i = c.loop-part.part-index in
    let x = c.part-item.result in
    let listed = c.partials-part-items.ensures in
    let all : length parts ≡ length c.partials-part-items.result.now = ap (λ (w : List Partial). length w) (sym listed) in
    let lt : i < length parts = omega (arith, all, c.loop-part-test.true) in
    let is : x ≡ get_or parts i x = c.part-item.is ∙ ap (λ (w : List Partial). get_or w i x) listed in
    elim c.if-part-files.branch [
      | then-part-files w ↦
          let old = c.loop-part.flags.items in
          let new = w.mark_files.new.flags.items in
          let users = subst (λ (us : List ℕ). Marks (map (slice_get c.as_slice-files_of_units.result.now) us) old new) w.as_slice.ensures w.mark_files.ensures in
          let marks = subst (λ (fs : List ℕ). Marks (map (slice_get fs) x.users) old new) c.as_slice-files_of_units.ensures users in
          let same : new ≡ c.if-part-files.flags.items = sym (λ j. (w.flags-is j).items) in
          part_marked count files parts i x lt is old c.if-part-files.flags.items c.loop-part.invariant w.if-part-files.true
          (subst (λ (v : List Bool). Marks (map (slice_get files) x.users) old v) same marks)
      | else-part-files w ↦
          part_passed count files parts i x lt is c.loop-part.flags.items c.if-part-files.flags.items c.loop-part.invariant w.if-part-files.false (λ j. (w.flags-is j).items)
    ]

pub returns : goal.returns
returns c = λ docs m many planned. (
    let count = c.args.files in
    let files = c.args.tops.now.files_of_units in
    let parts = c.args.plan.now.partials in
    let i = c.loop-part.part-index in
    let all : length parts ≡ length c.partials-part-items.result.now = ap (λ (w : List Partial). length w) (sym c.partials-part-items.ensures) in
    let whole = subst (λ (ps : List Partial). Flagged count files ps c.loop-part.flags.items) (take_all i parts (omega (arith, all, c.loop-part-test.false))) c.loop-part.invariant in
    flags_so docs m c.args.tops.now c.args.plan.now planned count c.loop-part.flags.items many whole)
