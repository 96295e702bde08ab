-- Facts over a common file are those of what was planned: where lists, rule and plan are equal, so are the facts.
use Rattle.std.proofs.Common.{◌≡◌, ℕ, ◌∷◌, ◌++◌, [], List, length, sym, ap, subst, ◌∙◌}
use Rattle.dwz_def_tops.specs.Spots.{file_numbers, units_of}
use Rattle.dwz_graph.specs.Files.{docs_of}
use Rattle.dwz_graph.specs.Index.{Index}
use Rattle.dwz_def_images.specs.Homes.{Rule}
use Rattle.dwz_def_taken.specs.Beside.{compile_doc, reused_of}
use Rattle.dwz_def_taken.specs.Laws.{ArePlacedOver}
use Rattle.dwz_def_taken.specs.Over.{move_over}
use Rattle.dwz_def_taken.specs.Takes.{IsFixed, free_rule}
use Rattle.dwz_layout_order.specs.Behind.{ArePlannedFirst}
use Rattle.dwz_plan.specs.Planned.{Planned}
use Rattle.dwz_plan.specs.ShowsMove.{ShowsMove}
use Rattle.dwz_layout_input.specs.declared.planned.PlannedFiles.{PlannedFiles}
use Rattle.dwz_layout_numbers.specs.Images.{ShowsStandIns}
use Rattle.dwz_law_layout.specs.Beside.{Over, Standing}
use Rattle.dwz_law_layout.specs.Facts.{IsMade, RunFacts, docs, move, units}
use Rattle.dwz_law_layout.specs.Moving.{MovesSo}
use Rattle.dwz_law_layout.proofs.OverMoves.{over_moves}
use Rattle.dwz_layout_input.specs.Parts.{ArePlannedOf}
use Rattle.dwz_layout_input.specs.SettledOver.{AreFactsOver, AreOverLaw}
use Rattle.dwz_layout_input.proofs.FirstOver.{first_over}

-- the facts with these contents and indexes, and so on
abbrev facts_with : (s : Standing) → List (List ℕ) → List Index → Rule → Planned → RunFacts (Over s) → RunFacts (Over s)
facts_with s contents indexes rule planned f = record {
  contents = contents;
  files = f.files;
  indexes = indexes;
  rule = rule;
  input = f.input;
  planned = planned;
  commons = f.commons;
  parts = f.parts;
  olds = f.olds;
}

module _ (contents : List (List ℕ)) (indexes : List Index) (p : PlannedFiles) (s : Standing) (f : RunFacts (Over s)) (of : AreFactsOver contents indexes p s f) where
  facts_same : facts_with s contents indexes (free_rule (reused_of (docs_of contents) s.doc) s.fixed) p.plan f ≡ f
  facts_same = λ i. record {
    contents = sym of.contents_are i;
    files = f.files;
    indexes = sym of.indexes_are i;
    rule = sym of.rule_is i;
    input = f.input;
    planned = sym of.plan_is i;
    commons = f.commons;
    parts = f.parts;
    olds = f.olds;
  }

  -- their plan shows their move
  pub planned_over : ArePlannedOf contents indexes p f
  planned_over = record {
    contents_are = of.contents_are;
    indexes_are = of.indexes_are;
    plan_is = of.plan_is;
    first = subst (λ (w : RunFacts (Over s)). ArePlannedFirst (move w) (units w) (length (docs w)) p.tops p.plan) facts_same (first_over (docs_of contents) s.doc s.fixed p of.planned);
    goes = subst (λ (w : RunFacts (Over s)). MovesSo (IsMade w) (move w) (units w)) facts_same (over_moves (docs_of contents) s.doc s.fixed of.placed of.fixed);
  }

pub are_over : AreOverLaw
are_over contents indexes p s f of stored so numbers =
    let back = sym of.contents_are in
    record {
      rule = of.rule_is ∙ ap (λ (w : List (List ℕ)). free_rule (reused_of (docs_of w) s.doc) s.fixed) back;
      placed = subst (λ (w : List (List ℕ)). ArePlacedOver (docs_of w) s.doc) back of.placed;
      fixed = subst (λ (w : List (List ℕ)). IsFixed (reused_of (docs_of w) s.doc) s.fixed) back of.fixed;
      stands = so.stands;
      around = so.around;
      means = so.means;
      rows = so.rows;
      bytes = stored.bytes;
      kept = stored.kept;
      indexed = stored.indexed;
      stored = stored.stored;
      shows = subst (λ (w : Planned). ShowsMove (move_over (reused_of (docs f) s.doc) s.fixed (file_numbers 0 (docs f))) (units_of (docs f)) (length (docs f)) w) (sym of.plan_is)
          (subst (λ (w : List (List ℕ)). ShowsMove (move_over (reused_of (docs_of w) s.doc) s.fixed (file_numbers 0 (docs_of w))) (units_of (docs_of w)) (length (docs_of w)) p.plan) back
          of.planned.shows.own);
      stand_ins = subst (λ (w : Planned). ShowsStandIns (docs f ++ compile_doc s.doc ∷ []) (move_over (reused_of (docs f) s.doc) s.fixed (file_numbers 0 (docs f))) w) (sym of.plan_is)
          (subst (λ (w : List (List ℕ)). ShowsStandIns (docs_of w ++ compile_doc s.doc ∷ []) (move_over (reused_of (docs_of w) s.doc) s.fixed (file_numbers 0 (docs_of w))) p.plan) back
          of.planned.stand_ins);
      numbers = numbers;
      few = so.few;
    }
