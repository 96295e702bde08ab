use Rattle.std.proofs.Common.{◌∙◌, ap, arith, get_or, ℕ}
use Rattle.std.proofs.lemmas.List.{length-drop}
use Rattle.dwz_def_reading.specs.Spelling.{le_bytes}
use Rattle.dwz_def_reading.proofs.ListFacts.{whole_rest}
use Rattle.dwz_def_encoding.specs.Pruned.{number_in_slot}
use Rattle.dwz_encode_sections.specs.Slots.{moved_or_same}
use Rattle.dwz_encode_sections.proofs.SlotLemmas.{end_of, stand}
use Rattle.dwz_def_output.specs.Contents.{with_slots}
use Rattle.dwz_encode_texts.proofs.SlotSteps.{front_is, same_len, written_end, written_step}
use Rattle.dwz_encode_texts.proofs.pruning.new_slots.Goals as goal

pub slice_bounds-front_number-count : goal.slice_bounds-front_number-count
slice_bounds-front_number-count c =
    let end = end_of c.args.offsets.now c.args.places.now c.loop-place.place-index (stand c.args.offsets.now c.args.places.now c.requires) c.loop-place-test.true in
    omega (arith, end)

pub slice_bounds-front_number-start : goal.slice_bounds-front_number-start
slice_bounds-front_number-start c =
    let end = end_of c.args.offsets.now c.args.places.now c.loop-place.place-index (stand c.args.offsets.now c.args.places.now c.requires) c.loop-place-test.true in
    omega (arith, end)

pub front_number-number-requires : goal.front_number-number-requires
front_number-number-requires c =
    let at = get_or c.args.places.now c.loop-place.place-index 0 in
    let end = end_of c.args.offsets.now c.args.places.now c.loop-place.place-index (stand c.args.offsets.now c.args.places.now c.requires) c.loop-place-test.true in
    rw (whole_rest c.args.offsets.now at) (omega (arith, end, length-drop at c.args.offsets.now))

pub put_four-requires : goal.put_four-requires
put_four-requires c =
    let end = end_of c.args.offsets.now c.args.places.now c.loop-place.place-index (stand c.args.offsets.now c.args.places.now c.requires) c.loop-place-test.true in
    let len = c.loop-place.invariant.len in
    omega (arith, end, len, c.loop-place.out.ok.0)

pub loop-place-preserved : goal.loop-place-preserved
loop-place-preserved c =
    let offsets = c.args.offsets.now in
    let places = c.args.places.now in
    let i = c.loop-place.place-index in
    let at = get_or places i 0 in
    let number = λ (place : ℕ). moved_or_same c.args.pruned.now (number_in_slot offsets place) in
    let is = c.new_number.ensures ∙ ap (moved_or_same c.args.pruned.now) (front_is offsets at c.front_number-number.result c.front_number-number.ensures) in
    record {
      len = same_len at (le_bytes 4 c.new_number.result) offsets c.put_four.new.out.items c.loop-place.out.items c.put_four.ensures c.loop-place.invariant.len;
      left = written_step number places i c.new_number.result c.loop-place.out.items c.put_four.new.out.items
          (with_slots number places offsets) c.loop-place-test.true is c.put_four.ensures c.loop-place.invariant.left;
    }

pub returns : goal.returns
returns c =
    let number = λ (place : ℕ). moved_or_same c.args.pruned.now (number_in_slot c.args.offsets.now place) in
    written_end number c.args.places.now c.loop-place.place-index c.loop-place.out.items (with_slots number c.args.places.now c.args.offsets.now) c.loop-place-test.false c.loop-place.invariant.left
