use Rattle.std.proofs.Common.{Some, not, ap, ◌∙◌}
use Rattle.dwz_graph_view.proofs.TopSteps.{has_path}
use Rattle.dwz_graph_view.proofs.tops.path_of.Goals as goal

pub returns : goal.returns
returns c =
    let n = c.in-Some.ensures.found in
    ap Some (c.in_ok-path_to.ensures n.names _ n.shows n.there)
    ∙ has_path _ c.top_of.result (c.top_of.ensures n.names _ n.shows n.there) (c.is_none.ensures ∙ ap not c.if-is_none.false)
