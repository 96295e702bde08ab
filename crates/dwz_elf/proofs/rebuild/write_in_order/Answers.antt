use Rattle.std.proofs.Common.{subst, ◌≤◌, ◌<◌, ℕ}
use Rattle.dwz_def_reading.specs.ElfLayout.{too_large}
use Rattle.dwz_elf.specs.Rebuilds.{changes_of}
use Rattle.dwz_elf.proofs.RebuildLemmas.{kept_too_long, placed_too_far, sup_too_long, the_bytes, the_length, the_places}
use Rattle.dwz_elf.proofs.rebuild.write_in_order.Goals as goal

pub returns-then-keep : goal.returns-then-keep
returns-then-keep c = kept_too_long c.args.elf.now (changes_of c.args.edits.now) c.args.input.now c.args.order.now c.args.keep c.requires c.if-keep.true

pub returns-in_default : goal.returns-in_default
returns-in_default c =
    placed_too_far c.args.elf.now (changes_of c.args.edits.now) c.args.input.now c.args.order.now c.args.keep c.in_ok-places.field-0 c.requires c.in_ok-places.ensures c.in_default.is

pub returns-then-sup_end : goal.returns-then-sup_end
returns-then-sup_end c =
    sup_too_long c.args.elf.now (changes_of c.args.edits.now) c.args.input.now c.sup_bytes.result.now c.args.order.now c.in-Some.places
    (the_places c.args.elf.now (changes_of c.args.edits.now) c.args.input.now c.args.order.now c.args.keep c.in_ok-places.field-0 c.in-Some.places c.requires c.in_ok-places.ensures c.in-Some.is)
    c.sup_bytes.ensures c.if-sup_end.true

pub returns-then-headers_at-new_count : goal.returns-then-headers_at-new_count
returns-then-headers_at-new_count c =
    let places = the_places c.args.elf.now (changes_of c.args.edits.now) c.args.input.now c.args.order.now c.args.keep c.in_ok-places.field-0 c.in-Some.places c.requires c.in_ok-places.ensures
    c.in-Some.is in
    let len = the_length c.args.elf.now (changes_of c.args.edits.now) c.args.input.now c.sup_bytes.result.now c.args.order.now c.in-Some.places _ _ places c.sup_bytes.ensures c.up-headers_at.ensures
    c.new_count.ensures in
    subst (λ (n : ℕ). too_large ≤ n) len c.if-headers_at-new_count.true

pub returns : goal.returns
returns c =
    let places = the_places c.args.elf.now (changes_of c.args.edits.now) c.args.input.now c.args.order.now c.args.keep c.in_ok-places.field-0 c.in-Some.places c.requires c.in_ok-places.ensures
    c.in-Some.is in
    let len = the_length c.args.elf.now (changes_of c.args.edits.now) c.args.input.now c.sup_bytes.result.now c.args.order.now c.in-Some.places _ _ places c.sup_bytes.ensures c.up-headers_at.ensures
    c.new_count.ensures in (
      subst (λ (n : ℕ). n < too_large) len c.if-headers_at-new_count.false,
      the_bytes c.args.elf.now (changes_of c.args.edits.now) c.args.input.now c.in_ok-out.out.items c.args.order.now c.in-Some.places places c.in_ok-out.ensures,
    )
