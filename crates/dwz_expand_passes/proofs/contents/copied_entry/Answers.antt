use Rattle.std.proofs.Common.{◌∙◌, ◌+◌, ℕ, List, ap, get_or, length, sym, subst, ◌==◌, if◌then◌else◌, arith, eqb-true}
use Rattle.std.proofs.lemmas.Result.{err_from_is_err_and}
use Rattle.dwz_layout.specs.Attributes.{plain_pair}
use Rattle.dwz_expand_layout.specs.declared.entries.Content.TheVariants.{OfCopy}
use Rattle.dwz_expand_layout.specs.declared.entries.NewAttr.{NewAttr}
use Rattle.dwz_expand_passes.specs.Known.{StandsAt}
use Rattle.dwz_expand_passes.proofs.EntryAnswers.{entry_copied, entry_refused, first, one}
use Rattle.dwz_expand_passes.proofs.contents.copied_entry.Goals as goal

pub returns-then-is_empty-clause-copies : goal.returns-then-is_empty-clause-copies
returns-then-is_empty-clause-copies c = λ q index end v others operands class asks. (
    let f = first c.args.x.now q index c.args.at end c.args.pair.now c.args.raw.now v c.args.refs.now others class asks in
    let none = eqb-true (length c.args.refs.now) 0 (sym c.is_empty.ensures ∙ c.if-is_empty.true) in
    let some = ap (λ (w : List ℕ). length w) f.refs_are in
    absurd (omega (arith, none, some)))

pub returns-in_err-copy-clause-copies : goal.returns-in_err-copy-clause-copies
returns-in_err-copy-clause-copies c = λ q index end v others operands class asks. (
    let f = first c.args.x.now q index c.args.at end c.args.pair.now c.args.raw.now v c.args.refs.now others class asks in
    let p = q.place (one c.args.x.now q index c.args.at end c.args.pair.now c.args.raw.now v c.args.refs.now others class asks).p in
    let e = err_from_is_err_and c.from_residual.result c.from_residual.ensures.1 in
    rw (e.1, e.2) (entry_refused c.args.x.now q index c.args.at end c.args.pair.now c.args.raw.now v c.args.refs.now others class asks operands c.in_err-copy.field-0.0
    (c.in_err-copy.ensures q p asks.fits (subst (λ (w : List ℕ). StandsAt q.w (c.args.x.now.first + get_or w 0 0) p) (sym f.refs_are) f.stands))))

pub returns-clause-copies : goal.returns-clause-copies
returns-clause-copies c = λ q index end v others operands class asks. (
    let f = first c.args.x.now q index c.args.at end c.args.pair.now c.args.raw.now v c.args.refs.now others class asks in
    let p = q.place (one c.args.x.now q index c.args.at end c.args.pair.now c.args.raw.now v c.args.refs.now others class asks).p in
    entry_copied c.args.x.now q index c.args.at end c.args.pair.now c.args.raw.now v c.args.refs.now others class asks operands c.in_ok-copy.copy c.of_form.result
    (c.in_ok-copy.ensures q p asks.fits (subst (λ (w : List ℕ). StandsAt q.w (c.args.x.now.first + get_or w 0 0) p) (sym f.refs_are) f.stands))
    (c.of_form.ensures ∙ ap (λ (form : ℕ). let n : NewAttr = record { pair = plain_pair c.args.pair.now.name form; content = OfCopy c.in_ok-copy.copy.number } in n)
    (c.entry_form-form.ensures ∙ ap (λ (u : ℕ). if c.in_ok-copy.copy.unit == u then 0x13 else 0x10) asks.fits.unit_is)))
