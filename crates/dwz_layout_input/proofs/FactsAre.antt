-- Facts are those of what was planned: where lists, rule and plan are equal, so are the facts.
use Rattle.std.proofs.Common.{ℕ, ◌≡◌, ◌+◌, ◌<◌, ◌^◌, List, arith, length, sym, subst, ◌∙◌}
use Rattle.dwz_def_reading.specs.Lists.{Each}
use Rattle.dwz_def_reading.specs.Values.{AreBytes}
use Rattle.dwz_def_reading.proofs.ListFacts.{got_below}
use Rattle.dwz_def_tops.specs.Spots.{Within, file_numbers, tops_of, units_of}
use Rattle.dwz_graph.proofs.FilesFew.{names_few}
use Rattle.dwz_graph.specs.declared.file.File.{File}
use Rattle.dwz_graph.specs.Files.{AreKept, docs_of}
use Rattle.dwz_graph.specs.Index.{Index}
use Rattle.dwz_graph.specs.Indexed.{AreIndexes}
use Rattle.dwz_layout_order.specs.Behind.{ArePlannedFirst}
use Rattle.dwz_layout_order.proofs.BehindLemmas.{planned_alone}
use Rattle.dwz_layout_order.proofs.FitLemmas.{parts_fit}
use Rattle.dwz_def_images.specs.Homes.{Rule}
use Rattle.dwz_def_images.specs.Moves.{plan}
use Rattle.dwz_plan.specs.declared.plan.Scope.{Scope}
use Rattle.dwz_plan.specs.Planned.{Planned}
use Rattle.dwz_plan.specs.ShowsMove.{ShowsMove}
use Rattle.dwz_plan.proofs.BridgeLemmas.{file_numbers_are}
use Rattle.dwz_plan.proofs.ShownMoves.{plan_moves}
use Rattle.dwz_layout_input.specs.declared.planned.PlannedFiles.{PlannedFiles}
use Rattle.dwz_layout_input.specs.Rules.{alike_scope, rule_by}
use Rattle.dwz_layout_input.proofs.PlanFits.{alike_is, choice_is}
use Rattle.dwz_layout_numbers.specs.Images.{IsPlanned}
use Rattle.dwz_graph.specs.AllNames.{AreTopEntries, all_names}
use Rattle.dwz_layout_numbers.specs.OwnerLaws.{HoldTops}
use Rattle.dwz_plan.specs.MoveOf.{move_of}
use Rattle.dwz_layout_numbers.proofs.PlanMoves.{plan_holds, plan_stands}
use Rattle.dwz_law_layout.specs.Beside.{Alone}
use Rattle.dwz_law_layout.specs.Facts.{IsMade, RunFacts, StandBehind, common, docs, every, move, run, units}
use Rattle.dwz_law_layout.specs.Moving.{MovesSo}
use Rattle.dwz_law_layout.specs.Whole.{AreWhole}
use Rattle.dwz_def_images.proofs.FairLemmas.{fair_by}
use Rattle.dwz_law_layout.proofs.ReadFiles.{files_placed}
use Rattle.dwz_law_layout.proofs.RuleMoves.{moves_so}
use Rattle.dwz_law_layout.proofs.WholeRuns.{whole_runs}
use Rattle.dwz_layout_input.specs.Parts.{ArePlannedOf, HoldSome}
use Rattle.dwz_layout_input.specs.Settled.{AreFactsOf, ArePlanned, FactsLaw}

-- the facts with these contents and indexes, and so on
abbrev pub facts_with : List (List ℕ) → List Index → Rule → Planned → RunFacts Alone → RunFacts Alone
facts_with contents indexes rule planned f = record {
  contents = contents;
  files = f.files;
  indexes = indexes;
  rule = rule;
  input = f.input;
  planned = planned;
  commons = f.commons;
  parts = f.parts;
  olds = f.olds;
}

module _ (contents : List (List ℕ)) (indexes : List Index) (sharing : Scope) (p : PlannedFiles) (f : RunFacts Alone) (of : AreFactsOf contents indexes sharing p f) where
  pub facts_same : facts_with contents indexes (rule_by sharing (docs_of contents)) p.plan f ≡ f
  facts_same = λ i. record {
    contents = sym of.contents_are i;
    files = f.files;
    indexes = sym of.indexes_are i;
    rule = sym of.rule_is i;
    input = f.input;
    planned = sym of.plan_is i;
    commons = f.commons;
    parts = f.parts;
    olds = f.olds;
  }

  -- their plan shows their move
  pub planned_of : ArePlanned sharing (docs_of contents) p → ArePlannedOf contents indexes p f
  planned_of planned =
      let ds = docs_of contents in
      let rule = rule_by sharing ds in
      record {
        contents_are = of.contents_are;
        indexes_are = of.indexes_are;
        plan_is = of.plan_is;
        first = subst (λ (w : RunFacts Alone). ArePlannedFirst (move w) (units w) (length (docs w)) p.tops p.plan) facts_same
            (planned_alone ds rule p.tops p.plan planned.outline.shows planned.plan (planned.fits.homes ∙ sym planned.fits.rows));
        goes = subst (λ (w : RunFacts Alone). MovesSo (IsMade w) (move w) (units w)) facts_same
            (moves_so (units_of ds) rule (fair_by (alike_scope sharing) (units_of ds) rule (alike_is sharing ds) (choice_is sharing ds)) (file_numbers 0 ds));
      }

-- the partial units hold tops of the files
pub hold_alone : (contents : List (List ℕ)) (files : List File) (indexes : List Index) (sharing : Scope) (p : PlannedFiles) → AreKept contents files → AreIndexes (docs_of contents) indexes
    → ArePlanned sharing (docs_of contents) p → HoldSome (length contents + 1) (length (tops_of (units_of (docs_of contents)))) p.plan.partials
hold_alone contents files indexes sharing p kept indexed planned =
    let fit = parts_fit contents files indexes (rule_by sharing (docs_of contents)) p.plan kept indexed planned.plan in
    record {
      few = omega (arith, planned.fits.few_parts, planned.fits.few_rows);
      few_tops = fit.few_tops;
      inside = λ k d lt low. fit.inside k d lt;
    }

-- what is known of a move, of what is written by it, and of entries
pub record AreRuled (f : RunFacts Alone) : Type 0 where
  pub goes : MovesSo (IsMade f) (move f) (units f)
  pub whole : AreWhole (common f) (docs f) (run f)
  pub holds : HoldTops (units f) (move f)
  pub images : (tops : List ℕ) → AreTopEntries (every f) tops → IsPlanned (every f) (move f) f.planned tops
  pub behind : StandBehind f
  pub shows : ShowsMove (move f) (units f) (length (docs f)) f.planned
  pub few : length (all_names (every f)) < 2 ^ 32

-- so it is by the rule, where nothing stands beside the files
ruled : (contents : List (List ℕ)) (indexes : List Index) (sharing : Scope) (p : PlannedFiles) (f : RunFacts Alone) → ArePlanned sharing (docs_of contents) p
    → AreKept contents f.files → Each AreBytes contents → AreRuled (facts_with contents indexes (rule_by sharing (docs_of contents)) p.plan f)
ruled contents indexes sharing p f planned kept bytes =
    let ds = docs_of contents in
    let us = units_of ds in
    let rule = rule_by sharing ds in
    let alike = alike_is sharing ds in
    let choice = choice_is sharing ds in
    let few = names_few contents f.files kept in
    let shows : ShowsMove (move_of rule ds) us (length ds) p.plan =
    subst (λ (fs : List ℕ). ShowsMove (plan rule us fs) us (length ds) p.plan) (sym (file_numbers_are 0 ds)) (plan_moves rule us (length ds) p.plan planned.plan) in
    record {
      goes = moves_so us rule (fair_by (alike_scope sharing) us rule alike choice) (file_numbers 0 ds);
      whole = whole_runs (alike_scope sharing) ds rule (files_placed contents f.files kept bytes) alike choice f.input;
      holds = plan_holds rule us (file_numbers 0 ds);
      images = λ tops are. record {
        few = omega (arith, few);
        stand = plan_stands (alike_scope sharing) ds rule alike (file_numbers 0 ds);
        shows = λ t there. shows.stand_ins t there;
        tops_are = are;
      };
      behind = record {
        many = omega arith;
        stand = λ j top path e. (let lt = got_below (all_names ds) (length (all_names ds) + j) (Within top path) e in absurd (omega (arith, lt)));
      };
      shows = shows;
      few = omega (arith, few);
    }

pub facts_are : FactsLaw
facts_are contents indexes sharing p f planned of stored numbers =
    let kept = subst (λ (w : List (List ℕ)). AreKept w f.files) of.contents_are stored.kept in
    let bytes = subst (λ (w : List (List ℕ)). Each AreBytes w) of.contents_are stored.bytes in
    let r = subst AreRuled (facts_same contents indexes sharing p f of) (ruled contents indexes sharing p f planned kept bytes) in
    record {
      bytes = stored.bytes;
      kept = stored.kept;
      indexed = stored.indexed;
      stored = stored.stored;
      goes = r.goes;
      whole = r.whole;
      holds = r.holds;
      images = r.images;
      behind = r.behind;
      shows = r.shows;
      numbers = numbers;
      few = r.few;
    }
