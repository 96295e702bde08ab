use Rattle.std.proofs.Common.{◌∙◌, ℕ, ◌-◌, List, Ok, Err, ap, sym, refl, subst, length}
use Rattle.std.proofs.lemmas.Result.{err_from_is_err_and}
use Rattle.dwz_model.specs.declared.fault.ReadErr.TheVariants.{Refused}
use Rattle.dwz_def_reading.specs.declared.exprs.Operand.{Operand}
use Rattle.dwz_def_reading.specs.Entries.{RawAttr}
use Rattle.dwz_def_reading.specs.Meanings.{bytes_of}
use Rattle.dwz_forms.specs.RawValues.{raw_view}
use Rattle.dwz_graph.specs.Resolved.{stored}
use Rattle.dwz_def_encoding.proofs.StoredClasses.{expression_form}
use Rattle.dwz_expand_layout.proofs.StoreLemmas.{can_express}
use Rattle.dwz_expand_passes.specs.Copied.{AddsAll}
use Rattle.dwz_expand_passes.specs.Known.{scope}
use Rattle.dwz_expand_passes.proofs.ExprAnswers.{expr_err, expr_ok, expr_refused, many, means, named, places, reads_row}
use Rattle.dwz_expand_passes.proofs.NamedLemmas.{expr_read}
use Rattle.dwz_expand_passes.proofs.SpokenLemmas.{expr_spoken}
use Rattle.dwz_expand_passes.proofs.contents.copied_expression.Goals as goal

pub returns-in_err-put_operands-in-Ok-clause-copies : goal.returns-in_err-put_operands-in-Ok-clause-copies
returns-in_err-put_operands-in-Ok-clause-copies c = λ q index at v others class asks. (
    let own = bytes_of (raw_view c.args.raw.now) in
    let a : RawAttr = stored at c.args.end c.args.pair.now c.args.raw.now in
    let reads = reads_row c.saturating_sub-start.result c.args.end c.bytes_of-bytes.result.now own c.clear.new.self.items c.read_into.new.operands.items c.read_into.new.operands.items
    (Ok c.in-Ok._address)
    c.bytes_of-bytes.ensures c.saturating_sub-start.ensures c.clear.ensures.items refl c.in-Ok.ensures.found in
    let is = expr_read (scope q) a v c.read_into.new.operands.items c.in-Ok._address
    (means c.args.x.now q index at c.args.end c.args.pair.now c.args.raw.now v c.args.refs.now others c.requires.constant c.requires.spelled class asks) reads in
    let e = err_from_is_err_and c.from_residual.result c.from_residual.ensures.1 in
    rw (e.1, e.2) (expr_err c.args.x.now q index at c.args.end c.args.pair.now c.args.raw.now v c.args.refs.now others c.requires.constant c.requires.spelled class asks c.read_into.new.operands.items
    is c.args.operands.now.items c.put_operands.new.operands.items c.in_err-put_operands-in-Ok.field-0.0
    (subst (λ (w : List Operand). AddsAll {Y = Unit {0}} q w (places c.args.x.now q index at c.args.end c.args.pair.now c.args.raw.now v c.args.refs.now others c.requires.constant c.requires.spelled
    class asks c.read_into.new.operands.items is) c.args.operands.now.items c.put_operands.new.operands.items (Err c.in_err-put_operands-in-Ok.field-0.0)) c.deref.ensures.value
    (c.in_err-put_operands-in-Ok.ensures q (places c.args.x.now q index at c.args.end c.args.pair.now c.args.raw.now v c.args.refs.now others c.requires.constant c.requires.spelled class asks
    c.read_into.new.operands.items is) others asks.fits asks.among (named c.args.x.now q index at c.args.end c.args.pair.now c.args.raw.now v c.args.refs.now others c.requires.constant
    c.requires.spelled class asks c.read_into.new.operands.items is)
    (many c.args.x.now q index at c.args.end c.args.pair.now c.args.raw.now v c.args.refs.now others c.requires.constant c.requires.spelled class asks c.read_into.new.operands.items is
    ∙ ap (λ (w : List Operand). length w) (sym c.deref.ensures.value))))))

pub returns-in-Err-Refused-clause-copies : goal.returns-in-Err-Refused-clause-copies
returns-in-Err-Refused-clause-copies c = λ q index at v others class asks. (
    let own = bytes_of (raw_view c.args.raw.now) in
    let a : RawAttr = stored at c.args.end c.args.pair.now c.args.raw.now in
    let reads = reads_row c.saturating_sub-start.result c.args.end c.bytes_of-bytes.result.now own c.clear.new.self.items c.read_into.new.operands.items c.read_into.new.operands.items (Err
    (Refused c.in-Err-Refused._fault))
    c.bytes_of-bytes.ensures c.saturating_sub-start.ensures c.clear.ensures.items refl (rw c.in-Err-Refused.field-0-is at c.in-Err-Refused.ensures.found) in
    absurd (expr_refused (scope q) a v c.read_into.new.operands.items c.in-Err-Refused._fault
    (means c.args.x.now q index at c.args.end c.args.pair.now c.args.raw.now v c.args.refs.now others c.requires.constant c.requires.spelled class asks) reads))

pub returns-in_ok-put_operands-in-Ok-clause-copies : goal.returns-in_ok-put_operands-in-Ok-clause-copies
returns-in_ok-put_operands-in-Ok-clause-copies c = λ q index at v others class asks. (
    let own = bytes_of (raw_view c.args.raw.now) in
    let a : RawAttr = stored at c.args.end c.args.pair.now c.args.raw.now in
    let reads = reads_row c.saturating_sub-start.result c.args.end c.bytes_of-bytes.result.now own c.clear.new.self.items c.read_into.new.operands.items c.read_into.new.operands.items
    (Ok c.in-Ok._address)
    c.bytes_of-bytes.ensures c.saturating_sub-start.ensures c.clear.ensures.items refl c.in-Ok.ensures.found in
    let is = expr_read (scope q) a v c.read_into.new.operands.items c.in-Ok._address
    (means c.args.x.now q index at c.args.end c.args.pair.now c.args.raw.now v c.args.refs.now others c.requires.constant c.requires.spelled class asks) reads in
    let os = c.read_into.new.operands.items in
    let ps = places c.args.x.now q index at c.args.end c.args.pair.now c.args.raw.now v c.args.refs.now others c.requires.constant c.requires.spelled class asks os is in
    let added = c.in_ok-put_operands-in-Ok.ensures q ps others asks.fits asks.among
    (named c.args.x.now q index at c.args.end c.args.pair.now c.args.raw.now v c.args.refs.now others c.requires.constant c.requires.spelled class asks os is)
    (many c.args.x.now q index at c.args.end c.args.pair.now c.args.raw.now v c.args.refs.now others c.requires.constant c.requires.spelled class asks os is
    ∙ ap (λ (w : List Operand). length w) (sym c.deref.ensures.value)) in
    expr_ok c.args.x.now q index at c.args.end c.args.pair.now c.args.raw.now v c.args.refs.now others c.requires.constant c.requires.spelled class asks os is c.args.operands.now.items
    c.put_operands.new.operands.items _ _
    (subst (λ (w : List Operand). AddsAll {Y = Unit {0}} q w ps c.args.operands.now.items c.put_operands.new.operands.items (Ok tt)) c.deref.ensures.value added)
    (c.saturating_sub-start.ensures ∙ ap (λ (w : List ℕ). c.args.end - length w) c.bytes_of-bytes.ensures) c.bytes_of-bytes.ensures (c.len-first.ensures ∙ c.args.operands.now.ok.0) (c.len.ensures
    ∙ c.put_operands.new.operands.ok.0) refl)

pub returns-in_ok-put_operands-in-Ok-clause-stores : goal.returns-in_ok-put_operands-in-Ok-clause-stores
returns-in_ok-put_operands-in-Ok-clause-stores c = λ class. can_express c.args.pair.now _ c.requires.plain (expression_form c.args.pair.now.form class)

pub returns-in_err-put_operands-in-Ok-clause-speaks : goal.returns-in_err-put_operands-in-Ok-clause-speaks
returns-in_err-put_operands-in-Ok-clause-speaks c = λ q index at v others class asks. (
    let e = err_from_is_err_and c.from_residual.result c.from_residual.ensures.1 in
    rw e.1 tt)

pub returns-in-Err-Refused-clause-speaks : goal.returns-in-Err-Refused-clause-speaks
returns-in-Err-Refused-clause-speaks c = λ q index at v others class asks. (
    let own = bytes_of (raw_view c.args.raw.now) in
    let a : RawAttr = stored at c.args.end c.args.pair.now c.args.raw.now in
    let reads = reads_row c.saturating_sub-start.result c.args.end c.bytes_of-bytes.result.now own c.clear.new.self.items c.read_into.new.operands.items c.read_into.new.operands.items (Err
    (Refused c.in-Err-Refused._fault))
    c.bytes_of-bytes.ensures c.saturating_sub-start.ensures c.clear.ensures.items refl (rw c.in-Err-Refused.field-0-is at c.in-Err-Refused.ensures.found) in
    absurd (expr_refused (scope q) a v c.read_into.new.operands.items c.in-Err-Refused._fault
    (means c.args.x.now q index at c.args.end c.args.pair.now c.args.raw.now v c.args.refs.now others c.requires.constant c.requires.spelled class asks) reads))

pub returns-in_ok-put_operands-in-Ok-clause-speaks : goal.returns-in_ok-put_operands-in-Ok-clause-speaks
returns-in_ok-put_operands-in-Ok-clause-speaks c = λ q index at v others class asks. (
    let own = bytes_of (raw_view c.args.raw.now) in
    let a : RawAttr = stored at c.args.end c.args.pair.now c.args.raw.now in
    let reads = reads_row c.saturating_sub-start.result c.args.end c.bytes_of-bytes.result.now own c.clear.new.self.items c.read_into.new.operands.items c.read_into.new.operands.items
    (Ok c.in-Ok._address)
    c.bytes_of-bytes.ensures c.saturating_sub-start.ensures c.clear.ensures.items refl c.in-Ok.ensures.found in
    let is = expr_read (scope q) a v c.read_into.new.operands.items c.in-Ok._address
    (means c.args.x.now q index at c.args.end c.args.pair.now c.args.raw.now v c.args.refs.now others c.requires.constant c.requires.spelled class asks) reads in
    let os = c.read_into.new.operands.items in
    let ps = places c.args.x.now q index at c.args.end c.args.pair.now c.args.raw.now v c.args.refs.now others c.requires.constant c.requires.spelled class asks os is in
    let added = c.in_ok-put_operands-in-Ok.ensures q ps others asks.fits asks.among
    (named c.args.x.now q index at c.args.end c.args.pair.now c.args.raw.now v c.args.refs.now others c.requires.constant c.requires.spelled class asks os is)
    (many c.args.x.now q index at c.args.end c.args.pair.now c.args.raw.now v c.args.refs.now others c.requires.constant c.requires.spelled class asks os is
    ∙ ap (λ (w : List Operand). length w) (sym c.deref.ensures.value)) in
    let all = subst (λ (w : List Operand). AddsAll {Y = Unit {0}} q w ps c.args.operands.now.items c.put_operands.new.operands.items (Ok tt)) c.deref.ensures.value added in
    expr_spoken q a v os c.args.operands.now.items c.put_operands.new.operands.items class is all.0)
