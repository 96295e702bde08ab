-- Labels of the tops of a file that was read by itself.
use Rattle.std.proofs.Common.{◌≡◌, ℕ, ◌+◌, List, [], ◌++◌, None, Result, Ok, Err, length, refl, sym, ap, subst, ◌∙◌}
use Rattle.std.specs.Prelude.{IfOk}
use Rattle.dwz_groups.specs.declared.groups.Edge.{Edge}
use Rattle.dwz_groups.specs.Groups.{grouped}
use Rattle.dwz_graph.specs.declared.file.File.{File}
use Rattle.dwz_check_index.specs.Index.{CrossIndex}
use Rattle.dwz_check_labels.specs.declared.source.Source.{Source}
use Rattle.dwz_check_labels.specs.Both.{KnowsNamed, Named, top_labels, top_targets}
use Rattle.dwz_check_labels.specs.Files.{IsCommonReady, KnowsCommon}
use Rattle.dwz_check_labels.specs.FilesSaid.{AreTopLabels, IsIndexed}
use Rattle.dwz_check_labels.specs.Rows.{Adds, edges_from}
use Rattle.dwz_check_labels.proofs.EdgeLemmas.{grouped_back}
use Rattle.dwz_check_labels.proofs.SaidLemmas.{IsSourceOf, SourceReady, source_known, source_ready}
use Rattle.dwz_check_labels.proofs.StepLemmas.{as_many_tops}

module _ (n : Named) (l0 l1 : List (List ℕ)) (e0 e1 : List Edge) (no_labels : l0 ≡ []) (no_edges : e0 ≡ [])
    (adds : Adds (top_labels n.name n.said) (top_targets n.name n.said) l0 l1 e0 e1) where
  pub tops_said : (count : ℕ) (shown : List Edge) (groups : List (List ℕ)) → count ≡ length l1 → shown ≡ e1 → groups ≡ grouped count shown
      → (l1 ≡ top_labels n.name n.said) × (groups ≡ top_targets n.name n.said)
  tops_said count shown groups many is made =
      let labels : l1 ≡ top_labels n.name n.said = adds.labels_are ∙ ap (λ (w : List (List ℕ)). w ++ top_labels n.name n.said) no_labels in (
        labels,
        made ∙ grouped_back count shown (top_targets n.name n.said) (many ∙ ap (λ (w : List (List ℕ)). length w) labels ∙ as_many_tops n.name n.said)
            (is ∙ adds.edges_are ∙ (λ i. no_edges i ++ edges_from (length (no_labels i)) (top_targets n.name n.said))),
      )

-- whatever is known, these are the labels of the tops
abbrev pub ToldTops : Source → List (List ℕ) → List (List ℕ) → Type 0
ToldTops x labels targets = (n : Named) → KnowsNamed x n → (labels ≡ top_labels n.name n.said) × (targets ≡ top_targets n.name n.said)

pub told_tops : {X E : Type 0} (x : Source) (l t : X → List (List ℕ)) (r : Result X E)
    → ((n : Named) → KnowsNamed x n → IfOk r (λ w. (l w ≡ top_labels n.name n.said) × (t w ≡ top_targets n.name n.said))) → IfOk r (λ w. ToldTops x (l w) (t w))
told_tops x l t (Ok w) h = h
told_tops x l t (Err e) h = tt

-- what is told of the tops of a file without a common one
module _ (x : Source) (f : File) (index : CrossIndex) (s : IsSourceOf x f [] index None) (none : x.common ≡ None) where
  pub tops_ready : IsIndexed f index → SourceReady x
  tops_ready k = source_ready x f [] index None s k.said k.top k.is k.index (subst IsCommonReady (sym none) tt)

  pub tops_told : (labels targets : List (List ℕ)) → ToldTops x labels targets → AreTopLabels f index labels targets
  tops_told labels targets h n top is k named =
      h n (source_known x f [] index None s n.said top n.name is k refl named (subst (λ o. KnowsCommon o n.name) (sym none) tt))
