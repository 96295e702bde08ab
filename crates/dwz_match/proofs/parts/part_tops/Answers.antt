use Rattle.std.proofs.Common.{◌≡◌, ℕ, ◌<◌, All, List, length, sym, ap, subst, ◌∙◌}
use Rattle.dwz_def_taken.specs.Beside.{reused_of}
use Rattle.dwz_groups.specs.declared.groups.Edge.{Edge}
use Rattle.dwz_groups.specs.Groups.{grouped}
use Rattle.dwz_match.specs.Parts.{HavePartTops, edge_to, spans}
use Rattle.dwz_match.proofs.SpanFacts.{span_keys, spans_have}
use Rattle.dwz_takes.specs.Steps.{edges_from}
use Rattle.dwz_match.proofs.parts.part_tops.Goals as goal

pub group-requires : goal.group-requires
group-requires c = subst (λ (w : List Edge). All (λ (e : Edge). e.key < length c.args.starts.now) w) (sym (c.as_slice.ensures.value ∙ c.in_ok-edges.ensures)) (span_keys c.args.end c.args.starts.now)

pub returns : goal.returns
returns c docs common are =
    let starts : List ℕ = c.args.starts.now in
    let made : c.in_ok-tops.tops ≡ grouped (length starts) (edges_from edge_to 0 (spans c.args.end starts)) =
    c.in_ok-tops.ensures ∙ ap (grouped (length starts)) (c.as_slice.ensures.value ∙ c.in_ok-edges.ensures) in
    subst (HavePartTops (reused_of docs common)) (sym made) (spans_have docs common are.partial starts c.args.end are.starts_are are.end_is)
