use Rattle.std.proofs.Common.{ℕ, ◌<◌, ◌^◌, All, List, Option, ap, subst, sym, ◌∙◌}
use Rattle.dwz_def_explain.specs.declared.verdict.What.{What}
use Rattle.dwz_label_differences.specs.Told.{TellsWhat}
use Rattle.dwz_def_explain.specs.declared.verdict.Verdict.TheVariants.{Differ}
use Rattle.dwz_explain.proofs.verdicts.verdict_at.Goals as goal

pub unreachable-requires : goal.unreachable-requires
unreachable-requires c =
    let e = c.requires.ends in
    e.differ (subst (λ (o : Option What). TellsWhat e.first e.second o) c.in-None.is (c.in_ok-what_differs.ensures e.first e.second (c.get-first.ensures ∙ e.first_label) (c.get-second.ensures ∙ e.second_label) e.short))

pub narrowed-requires : goal.narrowed-requires
narrowed-requires c = subst (λ (ns : List ℕ). All (λ n. n < 2 ^ 32) ns) (sym c.as_slice.ensures.value) c.requires.ends.few

pub returns : goal.returns
returns c = λ x y a b short. record {
  what = c.in-Some.what;
  differs = subst (λ (o : Option What). TellsWhat x y o) c.in-Some.is (c.in_ok-what_differs.ensures x y (c.get-first.ensures ∙ a) (c.get-second.ensures ∙ b) short);
  is = ap (λ (n : List ℕ). Differ n c.in-Some.what) (c.in_ok-chain-in-Some.ensures ∙ c.as_slice.ensures.value);
}
