-- Labels of both files and of the common one, appended one file behind the other.
use Rattle.std.proofs.Common.{◌≡◌, ℕ, ◌+◌, List, [], ◌++◌, length, sym, ap, ◌∙◌}
use Rattle.std.proofs.lemmas.List.{length-append}
use Rattle.dwz_groups.specs.declared.groups.Edge.{Edge}
use Rattle.dwz_groups.specs.Groups.{grouped}
use Rattle.dwz_check_labels.specs.Both.{Named, all_labels, all_targets, lone_into, lone_labels, top_labels, top_targets}
use Rattle.dwz_check_labels.specs.Rows.{Adds, edges_from}
use Rattle.dwz_check_labels.proofs.EdgeLemmas.{grouped_back}
use Rattle.dwz_check_labels.proofs.FileLemmas.{adds_both}
use Rattle.dwz_check_labels.proofs.StepLemmas.{as_many_lones, as_many_tops}

long_both : (ls ts ms us : List (List ℕ)) → length ls ≡ length ts → length ms ≡ length us → length (ls ++ ms) ≡ length (ts ++ us)
long_both ls ts ms us p q = length-append ls ms ∙ (λ i. p i + q i) ∙ sym (length-append ts us)

module _ (a b c : Named) (l0 l1 l2 l3 l4 l5 : List (List ℕ)) (e0 e1 e2 e3 e4 e5 : List Edge) (no_labels : l0 ≡ []) (no_edges : e0 ≡ []) (first : Adds (top_labels a.name a.said) (top_targets a.name
    a.said) l0 l1 e0 e1)
    (second : Adds (top_labels b.name b.said) (top_targets b.name b.said) l1 l2 e1 e2) (third : Adds (top_labels c.name c.said) (top_targets c.name c.said) l2 l3 e2 e3)
    (fourth : Adds (lone_labels a.name a.said) (lone_into a.name a.said) l3 l4 e3 e4) (fifth : Adds (lone_labels b.name b.said) (lone_into b.name b.said) l4 l5 e4 e5) where
  many_lone : length (lone_labels a.name a.said ++ lone_labels b.name b.said) ≡ length (lone_into a.name a.said ++ lone_into b.name b.said)
  many_lone = long_both (lone_labels a.name a.said) (lone_into a.name a.said) (lone_labels b.name b.said) (lone_into b.name b.said) (as_many_lones a.name a.said) (as_many_lones b.name b.said)

  many_all : length (all_labels a b c) ≡ length (all_targets a b c)
  many_all =
      long_both (top_labels a.name a.said) (top_targets a.name a.said) _ _ (as_many_tops a.name a.said)
      (long_both (top_labels b.name b.said) (top_targets b.name b.said) _ _ (as_many_tops b.name b.said) (long_both (top_labels c.name c.said) (top_targets c.name c.said) _ _ (as_many_tops c.name
      c.said) many_lone))

  lone_added : Adds (lone_labels a.name a.said ++ lone_labels b.name b.said) (lone_into a.name a.said ++ lone_into b.name b.said) l3 l5 e3 e5
  lone_added = adds_both (lone_labels a.name a.said) (lone_into a.name a.said) (lone_labels b.name b.said) (lone_into b.name b.said) l3 l4 l5 e3 e4 e5 (as_many_lones a.name a.said) fourth fifth

  all_added : Adds (all_labels a b c) (all_targets a b c) l0 l5 e0 e5
  all_added =
      adds_both (top_labels a.name a.said) (top_targets a.name a.said) _ _ l0 l1 l5 e0 e1 e5 (as_many_tops a.name a.said) first
      (adds_both (top_labels b.name b.said) (top_targets b.name b.said) _ _ l1 l2 l5 e1 e2 e5 (as_many_tops b.name b.said) second
      (adds_both (top_labels c.name c.said) (top_targets c.name c.said) _ _ l2 l3 l5 e2 e3 e5 (as_many_tops c.name c.said) third lone_added))

  labels_said : l5 ≡ all_labels a b c
  labels_said = all_added.labels_are ∙ ap (λ (w : List (List ℕ)). w ++ all_labels a b c) no_labels

  pub all_said : (count : ℕ) (shown : List Edge) (groups : List (List ℕ)) → count ≡ length l5 → shown ≡ e5 → groups ≡ grouped count shown → (l5 ≡ all_labels a b c) × (groups ≡ all_targets a b c)
  all_said count shown groups many is made = (
    labels_said,
    made ∙ grouped_back count shown (all_targets a b c) (many ∙ ap (λ (w : List (List ℕ)). length w) labels_said ∙ many_all)
        (is ∙ all_added.edges_are ∙ (λ i. no_edges i ++ edges_from (length (no_labels i)) (all_targets a b c))),
  )
