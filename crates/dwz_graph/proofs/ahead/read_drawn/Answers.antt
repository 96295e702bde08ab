use Rattle.std.proofs.Common.{◌≡◌, ℕ, true, List, [], ◌∷◌, ◌++◌, All, map, sym, ap, subst, not, ◌∙◌}
use Rattle.std.specs.Result.{is_ok}
use Rattle.std.proofs.lemmas.Bool.{cond-true}
use Rattle.std.proofs.lemmas.List.Elements.{All-push}
use Rattle.dwz_graph.specs.Ahead.{IsFound}
use Rattle.dwz_graph.specs.declared.ahead.Found.{Found}
use Rattle.dwz_graph.proofs.ahead.read_drawn.Goals as goal

pub loop-draw-preserved : goal.loop-draw-preserved
loop-draw-preserved g c =
    let contents : List (List ℕ) = map (λ v. v.items) c.args.files.now in
    let old : List Found = c.loop-draw.found.items in
    let one = c.in-Ok.one in
    let ok : is_ok c.push.result ≡ true = c.is_err.ensures.negation ∙ ap not c.if-is_err.false in
    let items : c.push.new.self.items ≡ old ++ one ∷ [] = c.push.ensures.items ∙ cond-true (is_ok c.push.result) (old ++ one ∷ []) old ok in
    subst (All (IsFound contents)) (sym items) (All-push (IsFound contents) old one c.loop-draw.invariant c.in-Ok.ensures)
