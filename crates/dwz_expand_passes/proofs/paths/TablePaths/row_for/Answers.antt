use Rattle.std.proofs.Common.{ℕ, List, Option, ap, sym, ◌∙◌}
use Rattle.std.specs.Borrow.{Bor}
use Rattle.std.specs.Option.{option_map}
use Rattle.dwz_def_expand.specs.Chosen.{row_for}
use Rattle.dwz_def_reading.specs.Documents.{File}
use Rattle.dwz_expand_passes.proofs.PathLemmas.{row_in_is}
use Rattle.dwz_expand_passes.proofs.paths.TablePaths.row_for.Goals as goal

pub returns-in-Some : goal.returns-in-Some
returns-in-Some c = λ paths is. (c.copied.ensures ∙ c.get.ensures.value ∙ is.rows c.in-Some.path.now ∙ row_in_is paths c.in-Some.path.now
    ∙ ap (λ (o : Option (Bor (List ℕ))). row_for paths (File (option_map (λ (p : Bor (List ℕ)). p.now) o))) (sym c.in-Some.is))
