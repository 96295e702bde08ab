use Rattle.std.proofs.Common.{◌++◌, List, Bor, Option, map, ap, sym, ◌∙◌}
use Rattle.std.specs.Option.{option_map}
use Rattle.dwz_def_reading.specs.Units.{RawUnit}
use Rattle.dwz_imports.specs.Said.{raw_beside}
use Rattle.dwz_unit.specs.Rows.{Source, units_of}
use Rattle.dwz_expand_sources.specs.Building.{spans_from, stored_shape}
use Rattle.dwz_expand_sources.proofs.SpanSteps.{both_spans}
use Rattle.dwz_expand_sources.proofs.spans.unit_spans.Goals as goal

abbrev raw_of : Option (Bor Source) → List RawUnit
raw_of o = raw_beside (option_map (λ u. u.now) o)

pub returns-in_ok-put_spans-in-Some : goal.returns-in_ok-put_spans-in-Some
returns-in_ok-put_spans-in-Some c =
    let same = sym (ap raw_of c.in-Some.is) in
    both_spans (units_of c.args.own.now) (raw_of c.args.common) c.new-spans.result.items c.put_spans.new.spans.items c.put_spans-in-Some.new.spans.items c.new-spans.ensures.items
    c.in_ok-put_spans.ensures
    (c.in_ok-put_spans-in-Some.ensures ∙ (λ j. c.put_spans.new.spans.items ++ spans_from (c.entries.ensures j) (map stored_shape (same j))))
