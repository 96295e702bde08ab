use Rattle.std.proofs.Common.{ℕ, Option, Ok, subst}
use Rattle.std.proofs.lemmas.Result.{err_from_is_err_and}
use Rattle.dwz_expr.specs.Gathering.{added}
use Rattle.dwz_lists.specs.Entries.{ReadsEntry}
use Rattle.dwz_graph_resolve.proofs.ListPasses.{turn_ends, turn_fails, turn_more, turn_stops, up_begins}
use Rattle.dwz_graph_resolve.proofs.list_parts.read_up.Goals as goal

pub loop-operands-init : goal.loop-operands-init
loop-operands-init c =
    record { within = c.requires; up = λ none nowhere. up_begins c.args.section.now c.args.from c.args.operands.now.items c.args.places.now.items none nowhere c.requires }

pub returns-in_err-entry_into : goal.returns-in_err-entry_into
returns-in_err-entry_into c = λ none nowhere. (
    let p = err_from_is_err_and c.from_residual-in_err-entry_into.result c.from_residual-in_err-entry_into.ensures.1 in
    rw (p.1, p.2) (turn_fails c.args.section.now c.args.from c.loop-operands.place c.loop-operands.operands.items c.entry_into.new.operands.items c.loop-operands.places.items c.push.new.self.items
    (c.loop-operands.invariant.up none nowhere) c.in_err-entry_into.ensures.grows c.in_ok-push.ensures.items c.args.rows.now c.args.marks.now c.args.unit c.in_err-entry_into.field-0.0
    c.in_err-entry_into.ensures.found))

pub returns-in-None : goal.returns-in-None
returns-in-None c = λ none nowhere. (
    let own = added c.loop-operands.operands.items c.entry_into.new.operands.items in
    let found = subst (λ (o : Option ℕ). ReadsEntry c.args.section.now c.loop-operands.place own (Ok o)) c.in-None.is c.in_ok-entry_into.ensures.found in
    turn_ends c.args.section.now c.args.from c.loop-operands.place c.loop-operands.operands.items c.entry_into.new.operands.items c.loop-operands.places.items c.push.new.self.items
    (c.loop-operands.invariant.up none nowhere) c.in_ok-entry_into.ensures.grows c.in_ok-push.ensures.items c.args.rows.now c.args.marks.now c.args.unit found.0 found.1)

pub returns-in-Some-stop_at : goal.returns-in-Some-stop_at
returns-in-Some-stop_at c = λ none nowhere. (
    let own = added c.loop-operands.operands.items c.entry_into.new.operands.items in
    let found = subst (λ (o : Option ℕ). ReadsEntry c.args.section.now c.loop-operands.place own (Ok o)) c.in-Some.is c.in_ok-entry_into.ensures.found in
    turn_stops c.args.section.now c.args.from c.loop-operands.place c.loop-operands.operands.items c.entry_into.new.operands.items c.loop-operands.places.items c.push.new.self.items
    (c.loop-operands.invariant.up none nowhere) c.in_ok-entry_into.ensures.grows c.in_ok-push.ensures.items c.args.rows.now c.args.marks.now c.args.unit c.in-Some.next c.in-Some-stop_at.stop found
    c.in-Some-stop_at.ensures)

pub loop-operands-preserved : goal.loop-operands-preserved
loop-operands-preserved c =
    let own = added c.loop-operands.operands.items c.entry_into.new.operands.items in
    let found = subst (λ (o : Option ℕ). ReadsEntry c.args.section.now c.loop-operands.place own (Ok o)) c.in-Some.is c.in_ok-entry_into.ensures.found in
    record {
      within = found.within;
      up = λ none nowhere. turn_more c.args.section.now c.args.from c.loop-operands.place c.loop-operands.operands.items c.entry_into.new.operands.items c.loop-operands.places.items c.push.new.self.items
          (c.loop-operands.invariant.up none nowhere) c.in_ok-entry_into.ensures.grows c.in_ok-push.ensures.items c.in-Some.next found;
    }
