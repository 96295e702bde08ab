use Rattle.std.proofs.Common.{arith}
use Rattle.dwz_bytes.specs.Input.{input}
use Rattle.dwz_def_reading.specs.Ranges.{bad_ranges}
use Rattle.dwz_aranges.specs.Views.{set_view}
use Rattle.dwz_aranges.proofs.PatchLemmas.{all_written, has_room, must_stand, one_less, some_left}
use Rattle.dwz_aranges.proofs.patching.patched.Goals as goal
use Rattle.dwz_aranges.proofs.patching.patched.Goals.{in-Some, in_default}

pub set_there-requires : goal.set_there-requires
set_there-requires c = some_left c.args.section.now c.as_slice-place-items.result.now c.loop-place.out.items c.loop-place.at c.loop-place.place-index c.loop-place.invariant c.loop-place-test.true

pub put-requires : goal.put-requires
put-requires c =
    let there = some_left c.args.section.now c.as_slice-place-items.result.now c.loop-place.out.items c.loop-place.at c.loop-place.place-index c.loop-place.invariant c.loop-place-test.true in
    let is = c.in-Some.ensures in
    let room = has_room c.args.section.now c.loop-place.at (set_view c.in-Some.field-0-0) (input c.args.section.now c.in-Some.behind) there is.read in
    omega (arith, room, c.loop-place.invariant.size)

pub loop-place-preserved : goal.loop-place-preserved
loop-place-preserved c =
    let numbers = c.as_slice-place-items.result.now in
    let out = c.loop-place.out.items in
    elim c.match-set_there.branch [
      | in-Some w ↦ (
          let is = w.in-Some.ensures in
          rw (w.out-is, w.at-is) (one_less c.args.section.now numbers out c.loop-place.at c.loop-place.place-index c.loop-place.invariant c.loop-place-test.true (set_view w.in-Some.field-0-0)
          w.in-Some.behind w.put.new.out.items is.read w.put.ensures)
          )
      | in_default w ↦ absurd (must_stand c.args.section.now numbers out c.loop-place.at c.loop-place.place-index c.loop-place.invariant c.loop-place-test.true (bad_ranges c.loop-place.at)
          w.in_default.ensures)
    ]

pub returns : goal.returns
returns c =
    rw (← c.as_slice-place-items.ensures) (all_written c.args.section.now c.as_slice-place-items.result.now c.loop-place.out.items c.loop-place.at c.loop-place.place-index c.loop-place.invariant
    c.loop-place-test.false)
