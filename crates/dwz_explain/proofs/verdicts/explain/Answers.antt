use Rattle.std.proofs.Common.{◌<◌, ◌^◌, All, subst, sym, ◌∙◌}
use Rattle.std.specs.Prelude.{IfSome}
use Rattle.std.proofs.lemmas.Result.{IfOk-weaker}
use Rattle.dwz_def_tops.specs.Alike.{Movable}
use Rattle.dwz_def_tops.specs.Spots.{units_of}
use Rattle.dwz_def_explain.specs.Explained.{IsExplained}
use Rattle.dwz_graph.specs.Files.{docs_of}
use Rattle.dwz_label.proofs.NodeLooks.{movable_below}
use Rattle.dwz_explain.specs.Verdicts.{LeadsApart, TellsDifference}
use Rattle.dwz_explain.proofs.ChainTops.{end_label}
use Rattle.dwz_explain.proofs.ExplainSteps.{flags_many, label_ends, shown_by, targets_low}
use Rattle.dwz_explain.proofs.verdicts.explain.Goals as goal

pub labels-requires-clause-movable : goal.labels-requires-clause-movable
labels-requires-clause-movable g c κs within = flags_many (docs_of c.args.graph.now.given) c.args.tops.now c.as_slice-flags.result.now c.requires.tops (c.as_slice-flags.ensures.value ∙ c.in_ok-movable.ensures)

pub chain_of-requires-clause-movable : goal.chain_of-requires-clause-movable
chain_of-requires-clause-movable g c =
    flags_many (docs_of c.args.graph.now.given) c.args.tops.now c.as_slice-flags.result.now c.requires.tops (c.as_slice-flags.ensures.value ∙ c.in_ok-movable.ensures) ∙ sym c.in_ok-labels.ensures.len

pub chain_of-requires-clause-targets : goal.chain_of-requires-clause-targets
chain_of-requires-clause-targets g c = c.requires.tops.shows.len ∙ sym c.in_ok-labels.ensures.len

pub chain_of-requires-clause-inside : goal.chain_of-requires-clause-inside
chain_of-requires-clause-inside g c = targets_low (docs_of c.args.graph.now.given) c.args.tops.now c.requires.tops

pub chain_of-requires-clause-first : goal.chain_of-requires-clause-first
chain_of-requires-clause-first g c =
    let many = flags_many (docs_of c.args.graph.now.given) c.args.tops.now c.as_slice-flags.result.now c.requires.tops (c.as_slice-flags.ensures.value ∙ c.in_ok-movable.ensures) in
    subst (λ n. c.args.a < n) (sym many) (movable_below (units_of (docs_of c.args.graph.now.given)) c.args.a c.requires.first)

pub chain_of-requires-clause-second : goal.chain_of-requires-clause-second
chain_of-requires-clause-second g c =
    let many = flags_many (docs_of c.args.graph.now.given) c.args.tops.now c.as_slice-flags.result.now c.requires.tops (c.as_slice-flags.ensures.value ∙ c.in_ok-movable.ensures) in
    subst (λ n. c.args.b < n) (sym many) (movable_below (units_of (docs_of c.args.graph.now.given)) c.args.b c.requires.second)

pub verdict_at-requires-clause-ends : goal.verdict_at-requires-clause-ends
verdict_at-requires-clause-ends g c =
    let units = units_of (docs_of c.args.graph.now.given) in
    let labels = c.in_ok-labels.labels in
    let flags = c.as_slice-flags.result.now in
    let shown = shown_by c.args.graph.now.given labels c.args.tops.now flags c.requires.tops (c.as_slice-flags.ensures.value ∙ c.in_ok-movable.ensures) c.in_ok-labels.ensures.labels in
    let x = c.requires.first in
    let y = c.requires.second in
    let u = subst (Movable units) (sym x.number) x in
    let v = subst (Movable units) (sym y.number) y in
    let h = subst (λ o. IfSome o (LeadsApart units x.top y.top)) c.in-Some.is (c.in_ok-chain_of.ensures.apart units x.top y.top shown x.is_top y.is_top u v x.number y.number) in
    let few = subst (λ o. IfSome o (λ apart. All (λ n. n < 2 ^ 32) apart.chain.items)) c.in-Some.is (c.in_ok-chain_of.ensures.narrow units shown c.look_at_tops.ensures.few) in
    label_ends units labels flags c.args.tops.now.targets shown c.look_at_tops.ensures.short x.top y.top c.in-Some.apart h few

pub returns-in-None : goal.returns-in-None
returns-in-None g c = λ x y i j p q. (
    let units = units_of (docs_of c.args.graph.now.given) in
    let shown = shown_by c.args.graph.now.given c.in_ok-labels.labels c.args.tops.now c.as_slice-flags.result.now c.requires.tops (c.as_slice-flags.ensures.value ∙ c.in_ok-movable.ensures) c.in_ok-labels.ensures.labels in
    c.in_ok-chain_of.ensures.alike units x y shown i j (subst (Movable units) (sym p) c.requires.first) (subst (Movable units) (sym q) c.requires.second) p q c.in-None.is)

pub returns : goal.returns
returns g c = λ x y i j p q. (
    let units = units_of (docs_of c.args.graph.now.given) in
    let labels = c.in_ok-labels.labels in
    let flags = c.as_slice-flags.result.now in
    let targets = c.args.tops.now.targets in
    let shown = shown_by c.args.graph.now.given labels c.args.tops.now flags c.requires.tops (c.as_slice-flags.ensures.value ∙ c.in_ok-movable.ensures) c.in_ok-labels.ensures.labels in
    let u = subst (Movable units) (sym p) c.requires.first in
    let v = subst (Movable units) (sym q) c.requires.second in
    let h = subst (λ o. IfSome o (LeadsApart units x y)) c.in-Some.is (c.in_ok-chain_of.ensures.apart units x y shown i j u v p q) in
    IfOk-weaker c.verdict_at.result (TellsDifference h.first h.second c.in-Some.apart.chain.items) (IsExplained units x y)
    (λ verdict t. subst (λ v. IsExplained units x y v) (sym t.is) (h.explained t.what t.differs))
    (c.verdict_at.ensures h.first h.second (end_label units labels flags targets shown h.first h.first_there h.first_moves c.in-Some.apart.first h.first_is)
    (end_label units labels flags targets shown h.second h.second_there h.second_moves c.in-Some.apart.second h.second_is) (c.look_at_tops.ensures.short h.first h.first_there)))
