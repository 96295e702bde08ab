use Rattle.dwz_layout.specs.Attributes.{line_attrs, no_numbers}
use Rattle.dwz_layout.proofs.SizeLemmas.{line_sized, none_sized, ok_sized}
use Rattle.dwz_layout.proofs.sizes.measure_line.Goals as goal

pub returns-in-None-clause-size : goal.returns-in-None-clause-size
returns-in-None-clause-size c = rw c.in-None.is (none_sized no_numbers)

pub returns-in-Some-clause-size : goal.returns-in-Some-clause-size
returns-in-Some-clause-size c = ok_sized c.measure_stored.result 4 (line_attrs c.args.line) c.measure_stored.ensures.size (rw c.in-Some.is (line_sized no_numbers c.in-Some.field-0))
