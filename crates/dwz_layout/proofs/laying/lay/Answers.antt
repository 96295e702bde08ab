use Rattle.std.proofs.Common.{◌≡◌, ◌+◌, ◌∙◌, ap, ℕ}
use Rattle.dwz_layout.specs.Attributes.{here_of, here_view}
use Rattle.dwz_layout.specs.Entries.{entries_of}
use Rattle.dwz_layout.specs.Laid.{Laying, header_size, laying_of, with_entries}
use Rattle.dwz_layout.proofs.LaidLemmas.{entries_done, entries_more, walk_smaller}
use Rattle.dwz_layout.proofs.laying.lay.Goals as goal

pub loop-entry-init : goal.loop-entry-init
loop-entry-init c =
    let at : c.in_ok-more.field-0 ≡ c.args.at + header_size c.args.unit.now.sort = c.in_ok-more.ensures ∙ ap (λ (n : ℕ). c.args.at + n) c.header_size.ensures in
    (λ i. with_entries c.args.known.now (here_of c.args.known.now c.args.here c.args.unit.now.sort) (entries_of (c.new-walk.ensures i))
    (let l : Laying = record { shapes = c.shapes_room.ensures i; at = at i; codes = c.codes_room.ensures i; places = c.args.places.now } in l))

pub loop-entry-smaller : goal.loop-entry-smaller
loop-entry-smaller c = walk_smaller c.in-Some.entry c.loop-entry.walk c.next.new.self c.in-Some.ensures

pub loop-entry-preserved : goal.loop-entry-preserved
loop-entry-preserved c =
    entries_more c.args.known.now (here_of c.args.known.now c.args.here c.args.unit.now.sort) (here_view c.here_of-of.result) c.in-Some.entry c.loop-entry.walk c.next.new.self
    (laying_of c.loop-entry.laying c.loop-entry.places) (laying_of c.entry.new.self c.entry.new.places) _ c.here_of-of.ensures c.in-Some.ensures c.in_ok-entry.ensures c.loop-entry.invariant

pub returns : goal.returns
returns c =
    entries_done c.args.known.now (here_of c.args.known.now c.args.here c.args.unit.now.sort) c.loop-entry.walk (laying_of c.loop-entry.laying c.loop-entry.places) _ c.in_default.ensures
    c.loop-entry.invariant
