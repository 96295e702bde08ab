use Rattle.std.proofs.Common.{ℕ, suc, [], ◌∷◌, ◌++◌, List, get_or, length, ap, ◌∙◌}
use Rattle.std.specs.Prelude.{codes, decimal}
use Rattle.std.proofs.lemmas.Option.{slice_get-get_or}
use Rattle.dwz_graph.specs.Files.{docs_of}
use Rattle.dwz_text.specs.Lines.{line}
use Rattle.dwz_explain.proofs.ChainText.{printed_more}
use Rattle.dwz_explain.proofs.texts.lines_of.Goals as goal

pub loop-number-preserved : goal.loop-number-preserved
loop-number-preserved c =
    let chain = c.args.chain.now in
    let k = c.loop-number.number-index in
    let text = c.loop-number.text.items in
    record {
      first = c.target_of-first.ensures.there;
      second = c.target_of-second.ensures.there;
      printed =
          printed_more (docs_of c.args.run.now.graph.now.given) chain c.args.what.now c.args.a c.args.b (line (codes "depth " ∷ decimal (suc (length chain)) ∷ [])) k c.loop-number.first c.loop-number.second
          c.target_of-first.result c.target_of-second.result (get_or chain k 0) text c.in_ok-line.line.items c.extend_from_slice.new.self.items c.loop-number.invariant.printed
          (slice_get-get_or chain k 0 c.loop-number-test.true) c.target_of-first.ensures.target c.target_of-second.ensures.target c.in_ok-line.ensures
          (c.in_ok-extend_from_slice.ensures.items ∙ ap (λ (w : List ℕ). text ++ w) c.deref.ensures.value);
    }
