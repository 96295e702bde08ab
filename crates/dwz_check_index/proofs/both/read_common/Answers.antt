use Rattle.std.proofs.Common.{List, Bor, Option, ap, subst, ◌∙◌, sym}
use Rattle.std.specs.Option.{option_map}
use Rattle.dwz_def_reading.specs.Meant.{units_meaning}
use Rattle.dwz_def_reading.specs.Units.{RawUnit}
use Rattle.dwz_unit.specs.Rows.{Source}
use Rattle.dwz_check_index.specs.declared.index.CrossStarts.{CrossStarts}
use Rattle.dwz_check_index.specs.Both.{raw_beside}
use Rattle.dwz_check_index.specs.Index.{IsCrossIndex}
use Rattle.dwz_check_index.proofs.BothLemmas.{none_said}
use Rattle.dwz_check_index.proofs.both.read_common.Goals as goal

abbrev raw_of : Option (Bor Source) → List RawUnit
raw_of o = raw_beside (option_map (λ u. u.now) o)

pub returns-in-None-clause-names : goal.returns-in-None-clause-names
returns-in-None-clause-names c = λ around said means. none_said around (raw_of c.args.common) said (ap raw_of c.in-None.is) means

pub returns-in_ok-read-in-Some-clause-names : goal.returns-in_ok-read-in-Some-clause-names
returns-in_ok-read-in-Some-clause-names c = λ around said means. subst (λ (s : CrossStarts). IsCrossIndex s said c.in_ok-read-in-Some.field-0) c.from_top.ensures
    (c.in_ok-read-in-Some.ensures.names around said (ap (λ (w : List RawUnit). units_meaning around w) (sym (ap raw_of c.in-Some.is)) ∙ means))
