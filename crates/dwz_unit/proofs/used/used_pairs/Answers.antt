use Rattle.std.proofs.Common.{List, map, ap, sym, subst, ◌∙◌}
use Rattle.dwz_model.specs.declared.place.Pair.{Pair}
use Rattle.dwz_unit.specs.declared.flat_rows.Span.{Span}
use Rattle.dwz_unit.specs.Known.{row_view}
use Rattle.dwz_unit.specs.Spans.{KeepsUsed}
use Rattle.dwz_unit.proofs.FlatLemmas.{used_rows}
use Rattle.dwz_unit.proofs.used.used_pairs.Goals as goal

pub returns : goal.returns
returns c =
    let pairs = c.into_parts-pairs.result.0.items in
    let spans = c.into_parts-pairs.result.1.items in
    let kept = subst (λ (w : List Span). KeepsUsed w c.in_ok-used.used.items c.args.entries.now) c.as_slice.ensures.value c.in_ok-used.ensures in
    ap (λ (d : List (List Pair)). map (row_view d) c.args.entries.now) c.from_parts.ensures
    ∙ used_rows pairs c.in_ok-used.used.items spans c.args.entries.now kept.used
    ∙ ap (λ (d : List (List Pair)). map (row_view d) c.args.entries.now) (sym c.into_parts-pairs.ensures.lists)
