use Rattle.std.proofs.Common.{◌≡◌, sym, subst}
use Rattle.std.proofs.lemmas.Result.{IfOk-weaker}
use Rattle.dwz_def_explain.specs.Places.{IsMovableAt, IsTextOf}
use Rattle.dwz_def_explain.specs.Texts.{explained_text}
use Rattle.dwz_graph.specs.Files.{docs_of}
use Rattle.dwz_explain.proofs.places.text_of.Goals as goal

pub returns : goal.returns
returns g c = λ p q m n. (
    let docs = docs_of c.args.graph.now.given in
    let x = c.requires.first in
    let y = c.requires.second in
    let verdict = c.in_ok-verdict.verdict in
    let explained = c.in_ok-verdict.ensures x.top y.top x.is_top y.is_top x.number y.number in
    IfOk-weaker c.explain_text.result (λ text. text ≡ explained_text docs x.top y.top verdict) (IsTextOf docs p q)
    (λ text e. record {
      first = x.top;
      second = y.top;
      first_there = x.is_top;
      second_there = y.is_top;
      first_at = subst (IsMovableAt docs p) (sym x.number) m;
      second_at = subst (IsMovableAt docs q) (sym y.number) n;
      verdict = verdict;
      explained = explained;
      text_is = e;
    }) (c.explain_text.ensures x.top y.top x.is_top y.is_top x.number y.number explained))
