use Rattle.std.proofs.Common.{ℕ, length, sym, subst}
use Rattle.dwz_layout_numbers.proofs.MakeLemmas.{begins, ends, goes_on}
use Rattle.dwz_layout_numbers.proofs.MakeCounts.{Small, small_first, small_fits, small_next, small_olds, small_parts}
use Rattle.dwz_layout_numbers.proofs.numbers.UnitNumbers.make.Goals as goal

pub add_parts-requires : goal.add_parts-requires
add_parts-requires c = small_fits c.args.partials.now c.args.counts.now c.in_ok-parts.parts.items 0 0 (length c.args.counts.now)
    (small_first c.args.partials.now c.args.counts.now c.in_ok-parts.parts.items c.in_ok-parts.ensures.items) c.requires.few

pub loop-file-init : goal.loop-file-init
loop-file-init c = record {
  small = subst (λ (n : ℕ). Small c.args.partials.now c.args.counts.now 0 n c.add_parts.new.parts.items) (sym c.in_ok-commons.ensures.next)
      (small_parts c.args.partials.now c.args.counts.now c.in_ok-parts.parts.items c.add_parts.new.parts.items 0 0 (length c.args.counts.now)
      (small_first c.args.partials.now c.args.counts.now c.in_ok-parts.parts.items c.in_ok-parts.ensures.items) c.in_ok-commons.ensures.numbers);
  going = λ docs m h. (begins docs m c.args.partials.now c.args.counts.now c.args.written.now h c.in_ok-commons.commons c.in_ok-parts.parts.items c.add_parts.new.parts.items
      c.new-olds.result.items c.in_ok-parts.ensures.items c.new-olds.ensures.items
      c.in_ok-commons.ensures.next c.in_ok-commons.ensures.numbers c.requires.flags).0;
  commons = λ docs m h. (begins docs m c.args.partials.now c.args.counts.now c.args.written.now h c.in_ok-commons.commons c.in_ok-parts.parts.items c.add_parts.new.parts.items
      c.new-olds.result.items c.in_ok-parts.ensures.items c.new-olds.ensures.items
      c.in_ok-commons.ensures.next c.in_ok-commons.ensures.numbers c.requires.flags).1;
}

pub add_parts-requires-in-loop-file : goal.add_parts-requires-in-loop-file
add_parts-requires-in-loop-file c = small_fits c.args.partials.now c.args.counts.now c.loop-file.parts.items c.loop-file.file c.loop-file.next c.loop-file.file c.loop-file.invariant.small
    c.requires.few

pub add_olds-requires : goal.add_olds-requires
add_olds-requires c =
    small_olds c.args.partials.now c.args.counts.now c.add_parts-in-loop-file.new.parts.items c.loop-file.file c.in_ok-first.first
    (subst (λ (n : ℕ). Small c.args.partials.now c.args.counts.now c.loop-file.file n c.add_parts-in-loop-file.new.parts.items) (sym c.in_ok-first.ensures.next)
    (small_parts c.args.partials.now c.args.counts.now c.loop-file.parts.items c.add_parts-in-loop-file.new.parts.items c.loop-file.file c.loop-file.next c.loop-file.file
    c.loop-file.invariant.small c.in_ok-first.ensures.numbers)) c.loop-file-test.true c.requires.few

pub loop-file-preserved : goal.loop-file-preserved
loop-file-preserved c = record {
  small = small_next c.args.partials.now c.args.counts.now c.add_parts-in-loop-file.new.parts.items c.loop-file.file c.in_ok-first.first c.in_ok-next.next _
      (subst (λ (n : ℕ). Small c.args.partials.now c.args.counts.now c.loop-file.file n c.add_parts-in-loop-file.new.parts.items) (sym c.in_ok-first.ensures.next)
      (small_parts c.args.partials.now c.args.counts.now c.loop-file.parts.items c.add_parts-in-loop-file.new.parts.items c.loop-file.file c.loop-file.next c.loop-file.file
      c.loop-file.invariant.small c.in_ok-first.ensures.numbers)) c.loop-file-test.true c.in_ok-next.ensures.next;
  going = λ docs m h. goes_on docs m c.args.partials.now c.args.counts.now c.args.written.now h c.loop-file.file c.loop-file.next c.in_ok-first.first c.in_ok-next.next
      c.loop-file.parts.items c.add_parts-in-loop-file.new.parts.items c.loop-file.olds.items
      c.add_olds.new.olds.items c.loop-file-test.true c.requires.flags
      (c.loop-file.invariant.going docs m h) c.in_ok-first.ensures.next c.in_ok-first.ensures.numbers c.in_ok-next.ensures.numbers c.in_ok-next.ensures.next;
  commons = c.loop-file.invariant.commons;
}

pub returns : goal.returns
returns c = λ docs m h. ends docs m c.args.partials.now c.args.counts.now c.args.written.now h c.loop-file.file c.loop-file.next c.in_ok-commons.commons c.loop-file.parts.items
    c.loop-file.olds.items c.loop-file-test.false (c.loop-file.invariant.going docs m h)
    (c.loop-file.invariant.commons docs m h)
