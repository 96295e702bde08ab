-- The flags of what is settled are those of the facts, and so are the numbers of units that are given by them.
use Rattle.std.proofs.Common.{◌≡◌, ℕ, Bool, false, List, [], length, map, refl, sym, ap, subst, ◌∙◌}
use Rattle.dwz_def_reading.specs.Files.{no_files_before}
use Rattle.dwz_def_readback.specs.Files.{Stored}
use Rattle.dwz_graph.specs.declared.file.File.{File}
use Rattle.dwz_graph.specs.Files.{docs_of}
use Rattle.dwz_graph.proofs.GraphLemmas.{as_many}
use Rattle.dwz_graph.proofs.FileCounts.{files_many}
use Rattle.dwz_graph.specs.Index.{Index}
use Rattle.dwz_layout_numbers.specs.declared.numbers.UnitNumbers.{UnitNumbers}
use Rattle.dwz_layout_numbers.specs.Owners.{AreUnitNumbers}
use Rattle.dwz_plan.specs.MoveOf.{move_of}
use Rattle.dwz_layout_numbers.proofs.PlanMoves.{plan_order, plan_still}
use Rattle.dwz_def_tops.specs.Spots.{units_of}
use Rattle.dwz_def_images.specs.Plan.{partials}
use Rattle.dwz_def_images.proofs.StandLemmas.{fair}
use Rattle.dwz_plan.specs.Shows.{shown_part}
use Rattle.dwz_plan.proofs.BridgeLemmas.{file_numbers_are}
use Rattle.dwz_def_images.specs.Units.{changes}
use Rattle.dwz_layout_order.specs.declared.orders.Settled.{Settled as Lent}
use Rattle.dwz_law_layout.specs.Settled.{IsSettled}
use Rattle.dwz_plan.specs.declared.plan.Scope.{Scope}
use Rattle.dwz_layout_input.specs.declared.planned.PlannedFiles.{PlannedFiles}
use Rattle.dwz_layout_input.specs.Rules.{alike_scope, rule_by}
use Rattle.dwz_layout_input.proofs.PlanFits.{alike_is, choice_is}
use Rattle.dwz_law_layout.specs.Beside.{Alone}
use Rattle.dwz_law_layout.specs.Facts.{RunFacts, move, units, written}
use Rattle.dwz_layout_input.specs.declared.settled.SettledFiles.{SettledFiles}
use Rattle.dwz_layout_input.specs.Settled.{AreFactsOf, ArePlanned, Lends}
use Rattle.dwz_layout_input.proofs.FactsAre.{facts_are, facts_same, facts_with}
use Rattle.dwz_run_files.specs.NumberLaws.{FlagsLaw, HasNumbers, PlannedFactsLaw, SettledFactsLaw}
use Rattle.dwz_run_files.specs.Numbered.{AreNumbersOf}
use Rattle.dwz_run_files.proofs.WrittenFiles.{flags_many}

-- ---- flags

pub nothing_stored : Stored
nothing_stored = record { bytes = λ n. []; raw = λ n. []; prunes = λ n. false }

-- some facts of these files
abbrev some_facts : List (List ℕ) → List File → List Index → Scope → PlannedFiles → RunFacts Alone
some_facts contents files indexes sharing p = record {
  contents = contents;
  files = files;
  indexes = indexes;
  rule = rule_by sharing (docs_of contents);
  input = nothing_stored;
  planned = p.plan;
  commons = 0;
  parts = [];
  olds = [];
}

settled_flags : (f : RunFacts Alone) (r : SettledFiles) (s : Lent) → Lends r s → IsSettled f s → r.written.items ≡ written f
settled_flags f r s lends settled = sym lends.files ∙ settled.files

pub flags_are : FlagsLaw
flags_are contents files indexes sharing p r s kept lends settled =
    let f = some_facts contents files indexes sharing p in
    let of : AreFactsOf contents indexes sharing p f =
    record { contents_are = refl; indexes_are = refl; rule_is = refl; plan_is = refl } in
    let docs_many : length (docs_of contents) ≡ length contents =
    sym (files_many contents files kept) ∙ as_many no_files_before 0 contents files kept.end kept.are in
    record {
      many = ap (λ (w : List Bool). length w) (settled_flags f r s lends (settled f s of lends))
          ∙ flags_many (changes (move f) (units f)) (docs_of contents) ∙ docs_many;
      are = λ g is. settled_flags g r s lends (settled g s is lends);
    }

-- ---- numbers

abbrev NumbersOf : RunFacts Alone → Type 0
NumbersOf f = AreUnitNumbers (move f) (units f) (written f) f.commons f.parts f.olds

module _ (contents : List (List ℕ)) (indexes : List Index) (sharing : Scope) (p : PlannedFiles) (f : RunFacts Alone)
    (planned : ArePlanned sharing (docs_of contents) p) (of : AreFactsOf contents indexes sharing p f) where
  abbrev same_facts : RunFacts Alone
  same_facts = facts_with contents indexes (rule_by sharing (docs_of contents)) p.plan f

  numbered : (flags : List Bool) (n : UnitNumbers) → flags ≡ written f → AreNumbersOf (docs_of contents) p.plan flags n
      → AreUnitNumbers (move same_facts) (units same_facts) (written same_facts) n.commons n.parts.items n.olds.items
  numbered flags n flagged are =
      let g = same_facts in
      let docs = docs_of contents in
      let by : flags ≡ written g = flagged ∙ ap written (sym (facts_same contents indexes sharing p f of)) in
      subst (λ (w : List Bool). AreUnitNumbers (move g) (units g) w n.commons n.parts.items n.olds.items) by
      (are (move_of (rule_by sharing docs) docs)
      (ap (λ (ns : List ℕ). map (shown_part (length docs)) (partials (rule_by sharing docs) (units_of docs) ns)) (file_numbers_are 0 docs)
      ∙ planned.plan.partials)
      (plan_order docs (rule_by sharing docs))
      (plan_still docs (rule_by sharing docs)
      (fair (alike_scope sharing) (units_of docs) (rule_by sharing docs) (alike_is sharing docs) (choice_is sharing docs)))
      by)

  facts_numbered : (flags : List Bool) (n : UnitNumbers) → flags ≡ written f → AreNumbersOf (docs_of contents) p.plan flags n
      → HasNumbers f n → NumbersOf f
  facts_numbered flags n flagged are has =
      let g = same_facts in
      let made = numbered flags n flagged are in
      let olds = subst (λ (w : List ℕ). AreUnitNumbers (move g) (units g) (written g) n.commons n.parts.items w) (sym has.olds) made in
      let parts = subst (λ (w : List ℕ). AreUnitNumbers (move g) (units g) (written g) n.commons w f.olds) (sym has.parts) olds in
      let own : NumbersOf g = subst (λ (w : ℕ). AreUnitNumbers (move g) (units g) (written g) w f.parts f.olds) (sym has.commons) parts in
      subst NumbersOf (facts_same contents indexes sharing p f of) own

pub planned_facts : PlannedFactsLaw
planned_facts contents indexes sharing p f planned of stored flags n flagged are has =
    facts_are contents indexes sharing p f planned of stored
    (facts_numbered contents indexes sharing p f planned of flags n flagged are has)

pub settled_facts : SettledFactsLaw
settled_facts contents indexes sharing p r f planned same has_flags of stored n are has =
    let own : AreNumbersOf (docs_of contents) p.plan r.written.items n =
    subst (λ (w : PlannedFiles). AreNumbersOf (docs_of contents) w.plan r.written.items n) same are in
    planned_facts contents indexes sharing p f planned of stored r.written.items n (has_flags.are f of) own has
