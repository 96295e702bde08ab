use Rattle.std.proofs.Common.{◌≡◌, List, Option, None, length, ap, subst, sym, arith}
use Rattle.std.proofs.lemmas.List.{with_items_is}
use Rattle.dwz_def_tops.specs.Spots.{tops_of, units_of}
use Rattle.dwz_graph.specs.Files.{docs_of}
use Rattle.dwz_move_files.specs.declared.draft.Draft.{Draft}
use Rattle.dwz_move_files.specs.Drafts.{AreParts}
use Rattle.dwz_move_files.proofs.StretchSteps.{parts_are}
use Rattle.dwz_move_files.proofs.stretches.stretch_parts.Goals as goal

pub returns : goal.returns
returns g c = λ named. (
    let w = c.args.work.now in
    let docs = docs_of w.graph.now.given in
    let new : List (Option Draft) = c.fill_slots.new.slots in
    let len : length new ≡ length c.as_mut_slice.result.now = c.fill_slots.auto.slots in
    let slots = ap (λ (v : List (Option Draft)). length v) c.as_mut_slice.ensures.value in
    let asked = c.in_ok-slots.ensures in
    let kept = c.in_ok-slots.slots.ok.0 in
    let own = w.stretches.ok.0 in
    let many : length new ≡ length w.stretches.items = omega arith in
    let all = length (tops_of (units_of docs)) in
    subst (λ (parts : List (Option Draft)). AreParts docs 0 all parts) (sym (with_items_is c.in_ok-slots.slots new (omega arith)))
    (parts_are docs w.indexes.now 0 all w.stretches.items new many c.requires.work.stretches (λ k s lt there. c.fill_slots.ensures named k None s (omega arith) there)))
