use Rattle.std.proofs.Common.{◌≡◌, ℕ, suc, ◌<◌, List, length, get_or, sym, ap, subst, ◌∙◌}
use Rattle.std.proofs.lemmas.Grind.{get_or_default_zero}
use Rattle.dwz_nodes_chains.proofs.LinkLemmas.{climb_more}
use Rattle.dwz_nodes_chains.proofs.links.peak_of.Goals as goal

pub up-preserved : goal.up-preserved
up-preserved c =
    let above : List ℕ = c.args.links.now.above.items in
    let at : ℕ = c.up.at in
    let inside : at < length above = c.up.invariant.inside in
    let e : c.index-at.result.now ≡ get_or above at 0 = c.index-at.ensures ∙ get_or_default_zero above at c.index-at.result.now inside in
    let up = c.up.invariant.up in record {
      inside = subst (λ (x : ℕ). x < length above) (sym e) (c.requires.links.inside at inside);
      up = (suc up.0, climb_more above up.0 c.args.a ∙ (ap (λ (x : ℕ). get_or above x 0) up.1 ∙ sym e));
    }
