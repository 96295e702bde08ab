use Rattle.std.proofs.Common.{◌≡◌, drop, length}
use Rattle.dwz_def_encoding.specs.Pruned.{number_in_slot}
use Rattle.dwz_encode_sections.specs.Slots.{moved_or_same}
use Rattle.dwz_def_output.specs.Contents.{with_slots}
use Rattle.dwz_encode_texts.proofs.pruning.new_slots.Given as goal

abbrev pub invariant-loop-place : goal.invariant-loop-place
invariant-loop-place l = record {
  len : length l.out.items ≡ length l.offsets;
  left : with_slots (λ place. moved_or_same l.pruned (number_in_slot l.offsets place)) (drop l.place-index l.places) l.out.items
      ≡ with_slots (λ place. moved_or_same l.pruned (number_in_slot l.offsets place)) l.places l.offsets;
}
