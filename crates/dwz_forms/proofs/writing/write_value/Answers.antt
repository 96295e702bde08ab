use Rattle.std.proofs.Common.{ap, rules}
use mir.Syntax.{w128}
use mir.Val.{SFits}
use Rattle.dwz_forms.specs.RawValues.{raw_view}
use Rattle.dwz_forms.proofs.RawLemmas.{appended, number_fits, number_is, run_is}
use Rattle.dwz_forms.proofs.writing.write_value.Goals as goal

pub put_number-requires : goal.put_number-requires
put_number-requires c =
    let range : SFits w128 c.in-Number.number = search rules in
    number_fits c.args.form c.args.raw.now c.in-Number.number c.written_shape-shape.result range c.in-Number.is c.written_shape-shape.ensures c.requires

pub returns-in-Number-clause-ok : goal.returns-in-Number-clause-ok
returns-in-Number-clause-ok c =
    let range : SFits w128 c.in-Number.number = search rules in
    appended _ _ _ _ _ (number_is c.args.form c.args.raw.now c.in-Number.number c.written_shape-shape.result range c.in-Number.is c.written_shape-shape.ensures) c.put_number.ensures.ok

pub returns-in-Bytes-clause-ok : goal.returns-in-Bytes-clause-ok
returns-in-Bytes-clause-ok c =
    appended _ _ _ _ _ (run_is c.args.form c.args.raw.now c.in-Bytes.content.now c.written_shape-shape.result (ap raw_view c.in-Bytes.is) c.written_shape-shape.ensures) c.put_run.ensures.ok
