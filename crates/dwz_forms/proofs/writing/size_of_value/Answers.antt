use Rattle.std.proofs.Common.{ap, rules}
use mir.Syntax.{w128}
use mir.Val.{SFits}
use Rattle.dwz_forms.specs.RawValues.{raw_view}
use Rattle.dwz_forms.proofs.RawLemmas.{number_fits, number_size_is, run_size_is}
use Rattle.dwz_forms.proofs.writing.size_of_value.Goals as goal

pub number_size-requires : goal.number_size-requires
number_size-requires c =
    let range : SFits w128 c.in-Number.number = search rules in
    number_fits c.args.form c.args.raw.now c.in-Number.number c.written_shape-shape.result range c.in-Number.is c.written_shape-shape.ensures c.requires

pub returns-in-Number : goal.returns-in-Number
returns-in-Number c =
    let range : SFits w128 c.in-Number.number = search rules in
    number_size_is c.args.form c.args.raw.now c.in-Number.number c.written_shape-shape.result range c.in-Number.is c.written_shape-shape.ensures c.number_size.result c.number_size.ensures

pub returns-in-Bytes : goal.returns-in-Bytes
returns-in-Bytes c =
    run_size_is c.args.form c.args.raw.now c.in-Bytes.content.now c.written_shape-shape.result (ap raw_view c.in-Bytes.is) c.written_shape-shape.ensures c.run_size.result c.run_size.ensures
