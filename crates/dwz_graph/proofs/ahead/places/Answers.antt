use Rattle.std.proofs.Common.{◌≡◌, ℕ, List, [], ◌∷◌, ◌++◌, None, Option, length, length-append, map, sym, ap, subst, ◌∙◌, arith}
use Rattle.dwz_graph.specs.Ahead.{AreAhead}
use Rattle.dwz_graph.specs.declared.file.File.{File}
use Rattle.dwz_graph.proofs.AheadLemmas.{none_more, nothing}
use Rattle.dwz_graph.proofs.ahead.places.Goals as goal

pub loop-file-init : goal.loop-file-init
loop-file-init c =
    let contents : List (List ℕ) = map (λ v. v.items) c.args.files.now in
    record { len = ap (λ (slots : List (Option File)). length slots) c.in_ok-ahead.ensures.items; none = subst (AreAhead contents) (sym c.in_ok-ahead.ensures.items) (nothing contents) }

pub loop-file-preserved : goal.loop-file-preserved
loop-file-preserved c =
    let contents : List (List ℕ) = map (λ v. v.items) c.args.files.now in
    let slots : List (Option File) = c.loop-file.ahead.items in
    let items : c.push.new.self.items ≡ slots ++ None ∷ [] = c.in_ok-push.ensures.items in
    let len = c.loop-file.invariant.len in
    record {
      len = ap (λ (xs : List (Option File)). length xs) items ∙ omega (arith, length-append slots (None ∷ []));
      none = subst (AreAhead contents) (sym items) (none_more contents slots c.loop-file.invariant.none);
    }
