-- What is new in each file is new in the files of the run, with as many partial units as the plan has; and so is the common file.
use Rattle.std.proofs.Common.{[], ◌++◌, ◌+◌, ◌∙◌, ◌∷◌, ◌≡◌, Bool, List, Option, ℕ, ap, arith, inl, inr, length, subst, suc, sym}
use Rattle.std.specs.List.{range_with_len}
use Rattle.std.proofs.lemmas.List.{length-map}
use Rattle.dwz_model.specs.declared.sections.Sections.{Sections}
use Rattle.dwz_def_tops.specs.Lists.{Nth}
use Rattle.dwz_def_tops.proofs.FileNumbers.{numbers_long}
use Rattle.dwz_def_readback.specs.Back.{run_of}
use Rattle.dwz_def_readback.specs.Files.{CommonFile, Made, Run}
use Rattle.dwz_def_output.specs.Written.{stored_of}
use Rattle.dwz_plan.specs.declared.plan.Scope.{Scope}
use Rattle.dwz_plan.specs.Shows.{shown_part}
use Rattle.dwz_plan.proofs.BridgeLemmas.{file_numbers_are}
use Rattle.dwz_layout_input.specs.Rules.{rule_by}
use Rattle.dwz_graph.specs.Files.{docs_of}
use Rattle.dwz_law_layout.specs.Beside.{Alone, Beside}
use Rattle.dwz_law_layout.specs.Facts.{AreFacts, RunFacts, docs, move, run}
use Rattle.dwz_run_files.specs.declared.prepared.PreparedFiles.{PreparedFiles}
use Rattle.dwz_run_files.specs.Ready.{AreFactsOf}
use Rattle.dwz_def_output.specs.declared.new_file.NewFile.{NewFile}
use Rattle.dwz_def_output.specs.NewFiles.{AreNew, AreNewBy, IsNewCommon, IsNewOrOldBy}
use Rattle.dwz_run_files.specs.Works.{AreNewFiles}

pub parts_many : {beside : Beside} (f : RunFacts beside) → AreFacts f → length f.planned.partials ≡ length (move f).parts
parts_many f facts =
    ap length (sym facts.shows.partials) ∙ length-map (move f).parts (shown_part (length (docs f)))

-- as many partial units are in the run as in its plan
pub are_new_by : {beside : Beside} (c : CommonFile) (f : RunFacts beside) → AreFacts f → (made : List (Option NewFile)) (partials : ℕ)
    → AreNewFiles c (run f) made → partials ≡ length f.planned.partials → AreNewBy c (run f) made partials
are_new_by c f facts made partials are parts =
    let many : length (docs f) ≡ length made = sym (are.many ∙ numbers_long 0 (docs f)) in
    record {
      files = file_numbers_are 0 (docs f) ∙ ap (range_with_len 0) many;
      each = are.each;
      parts = parts ∙ parts_many f facts;
    }

module _ (contents : List (List ℕ)) (prunes : List Bool) (sharing : Scope) (p : PreparedFiles) (f : RunFacts Alone)
    (shares : p.run.settled.scope ≡ sharing) (of : AreFactsOf contents prunes p f) where
  abbrev run_made : Run
  run_made = run_of (rule_by sharing (docs_of contents)) (docs_of contents) (stored_of contents prunes)

  same_run : run f ≡ run_made
  same_run =
      let rule : f.rule ≡ rule_by sharing (docs_of contents) = of.rule_is ∙ ap (λ (s : Scope). rule_by s (docs_of contents)) shares in
      (λ i. run_of (rule i) (docs_of (of.contents_are i)) (of.input_is i))

  pub is_new_common : (common : Option Sections) → IsNewCommon (run f) common → IsNewCommon run_made common
  is_new_common common is = subst (λ (r : Run). IsNewCommon r common) same_run is

  pub are_new : AreFacts f → (made : List (Option NewFile)) (partials : ℕ) → AreNewFiles Made (run f) made
      → partials ≡ length f.planned.partials → AreNew run_made made partials
  are_new facts made partials are parts =
      subst (λ (r : Run). AreNew r made partials) same_run (are_new_by Made f facts made partials are parts)

-- ---- one file after another

abbrev pub EachIs : CommonFile → Run → ℕ → List (Option NewFile) → Type 0
EachIs c r start made = (file : ℕ) (new : Option NewFile) → Nth start made file new → IsNewOrOldBy c r file new

pub each_push : (c : CommonFile) (r : Run) (start : ℕ) (made : List (Option NewFile)) (new : Option NewFile) (n : ℕ) → EachIs c r start made
    → start + length made ≡ n → IsNewOrOldBy c r n new → EachIs c r start (made ++ new ∷ [])
each_push c r start [] new n each at is file other (inl here) =
    let same : n ≡ file = omega (arith, at, here.0) in
    subst (λ (o : Option NewFile). IsNewOrOldBy c r file o) here.1 (subst (λ (k : ℕ). IsNewOrOldBy c r k new) same is)
each_push c r start [] new n each at is file other (inr later) = absurd later
each_push c r start (y ∷ made) new n each at is file other (inl here) = each file other (inl here)
each_push c r start (y ∷ made) new n each at is file other (inr later) =
    each_push c r (suc start) made new n (λ g o nth. each g o (inr nth)) (omega arith) is file other later
