use Rattle.std.proofs.Common.{ℕ, suc, ◌<◌, [], ◌∷◌, ◌++◌, List, length, sym, ap, subst, ◌∙◌}
use Rattle.std.specs.Prelude.{codes, decimal}
use Rattle.dwz_def_explain.specs.Explained.{IsExplained}
use Rattle.dwz_def_explain.specs.Texts.{explained_text, reference_lines}
use Rattle.dwz_def_explain.specs.declared.verdict.Verdict.{Verdict}
use Rattle.dwz_def_tops.specs.Spots.{tops_of, units_of}
use Rattle.dwz_graph.specs.Files.{docs_of}
use Rattle.dwz_label.proofs.NodeLooks.{movable_below}
use Rattle.dwz_text.specs.Lines.{line}
use Rattle.dwz_explain.specs.Leading.{LeadsOn}
use Rattle.dwz_explain.proofs.ChainText.{explained_leads}
use Rattle.dwz_explain.proofs.texts.explain_text.Goals as goal

pub lines_of-requires-clause-first : goal.lines_of-requires-clause-first
lines_of-requires-clause-first c =
    subst (λ (w : List (List ℕ)). c.args.a < length (tops_of (units_of (docs_of w)))) (sym c.asked_of-run.ensures.graph)
    (movable_below (units_of (docs_of c.args.graph.now.given)) c.args.a c.requires.first)

pub lines_of-requires-clause-second : goal.lines_of-requires-clause-second
lines_of-requires-clause-second c =
    subst (λ (w : List (List ℕ)). c.args.b < length (tops_of (units_of (docs_of w)))) (sym c.asked_of-run.ensures.graph)
    (movable_below (units_of (docs_of c.args.graph.now.given)) c.args.b c.requires.second)

pub returns-in_ok-text-in-Differ : goal.returns-in_ok-text-in-Differ
returns-in_ok-text-in-Differ c = λ x y i j p q said. (
    let docs = docs_of c.args.graph.now.given in
    let e = c.asked_of-run.ensures.graph in
    let s = c.as_slice.ensures in
    let chain = c.in-Differ.chain in
    let what = c.in-Differ.what in
    let is = c.in-Differ.is in
    let known = subst (λ (v : Verdict). IsExplained (units_of docs) x y v) is said in
    let leads = explained_leads (units_of docs) chain what c.args.a c.args.b x y i j p q c.requires.first c.requires.second known.1 in
    let here = subst (λ (w : List (List ℕ)). LeadsOn (units_of (docs_of w)) c.as_slice.result.now c.args.a c.args.b x y) (sym e)
    (subst (λ (w : List ℕ). LeadsOn (units_of docs) w c.args.a c.args.b x y) (sym s) leads) in
    c.new-in-Differ.ensures ∙ c.in_ok-text-in-Differ.ensures x y here
    ∙ (λ k. line (codes "depth " ∷ decimal (suc (length (s k))) ∷ []) ++ reference_lines (docs_of (e k)) (tops_of (units_of (docs_of (e k)))) (s k) what x y)
    ∙ ap (λ (v : Verdict). explained_text docs x y v) (sym is))
