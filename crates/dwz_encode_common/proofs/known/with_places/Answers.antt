use Rattle.std.proofs.Common.{ap, arith}
use Rattle.dwz_def_reading.proofs.CaseFacts.{none_left}
use Rattle.dwz_encode_common.specs.WithCommon.{files_with, kept_numbers}
use Rattle.dwz_encode_common.proofs.WithSteps.{files_next, out_of_files, out_of_texts}
use Rattle.dwz_encode_common.proofs.known.with_places.Goals as goal

pub returns-in_default : goal.returns-in_default
returns-in_default c =
    let l = c.loop-places in
    let none = none_left c.next-in-loop-places.result _ c.next-in-loop-places.ensures.variant c.in_default.not-Some in
    out_of_files l.left.rest.items l.places-iterator.rest.items (kept_numbers l.left.rest.items) l.made.items
    (files_with c.args.rows.items c.args.texts.items (kept_numbers c.args.rows.items)) l.invariant (omega (arith, l.left.rest.ok, none))

pub loop-places-preserved : goal.loop-places-preserved
loop-places-preserved c =
    let l = c.loop-places in
    files_next l.left.rest.items c.next-in-loop-places.new.self.rest.items l.places-iterator.rest.items c.next.new.self.rest.items
    (kept_numbers l.left.rest.items) (kept_numbers c.next-in-loop-places.new.self.rest.items) l.made.items c.push.new.self.items
    (files_with c.args.rows.items c.args.texts.items (kept_numbers c.args.rows.items)) c.in-Some-next.row c.row_with_texts.result
    c.in-Some.places c.in-Some-next.row.files l.invariant c.in-Some-next.ensures.items c.in-Some.ensures.steps.0
    (ap kept_numbers c.in-Some-next.ensures.items) c.in_ok-push.ensures.items c.row_with_texts.ensures

pub returns : goal.returns
returns c =
    let l = c.loop-places in
    out_of_texts l.left.rest.items l.places-iterator.rest.items (kept_numbers l.left.rest.items) l.made.items
    (files_with c.args.rows.items c.args.texts.items (kept_numbers c.args.rows.items)) l.invariant
    (omega (arith, l.places-iterator.rest.ok, c.in-None.ensures.steps.0))
