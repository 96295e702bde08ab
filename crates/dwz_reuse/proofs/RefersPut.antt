-- Edges between own numbers are what the tops of a file refer into.
use Rattle.std.proofs.Common.{◌≡◌, ℕ, ◌+◌, ◌<◌, List, [], ◌∷◌, length, map, Option, Some, refl, subst, inl, inr, ⊎_elim, arith}
use Rattle.std.specs.List.{range_with_len}
use Rattle.dwz_model.proofs.ListFacts.{got_in, in_cases}
use Rattle.dwz_def_reading.specs.Documents.{Compile, DwUnit, Kind, OfType, Partial}
use Rattle.dwz_def_reading.specs.Lists.{In}
use Rattle.dwz_def_tops.specs.Seen.{IsPartial}
use Rattle.dwz_def_tops.specs.Spaces.{tops_under}
use Rattle.dwz_def_tops.specs.Spots.{in_file, named, top_count, tops_among, tops_from}
use Rattle.dwz_def_images.specs.After.{ArePlaced}
use Rattle.dwz_def_check.specs.CrossNames.{cross_names_from}
use Rattle.dwz_check_labels.specs.Both.{top_targets}
use Rattle.dwz_groups.specs.declared.groups.Edge.{Edge}
use Rattle.dwz_groups.proofs.MarkLemmas.{inside_at}
use Rattle.dwz_match.proofs.SpanFacts.{in_range}
use Rattle.dwz_reuse.specs.Refers.{IsEdgeBefore, PutsLists, PutsRefers, own_in, own_numbers}
use Rattle.dwz_reuse.proofs.FileRefers.{edge_refers, refers_edge, some_at}
use Rattle.dwz_reuse.proofs.PlaceNames.{name_at, names_found}

unsome : (xs : List ℕ) (m : ℕ) → In (Some m) (map Some xs) → In m xs
unsome [] m i = absurd i
unsome (x ∷ xs) m (inl e) = inl cc
unsome (x ∷ xs) m (inr i) = inr (unsome xs m i)

own_in_low : (top : ℕ) (u : DwUnit ℕ) (k : Kind ℕ) → (IsPartial k → ⊥) → (m : ℕ) → In (Some m) (own_in top k u) → m < top + top_count k u.below
own_in_low top u Compile plain m i = (in_range m top (tops_under u.below) (unsome (range_with_len top (tops_under u.below)) m i)).1
own_in_low top u (OfType signature main) plain m (inl e) = absurd cc
own_in_low top u (OfType signature main) plain m (inr i) = absurd i
own_in_low top u Partial plain m i = absurd (plain tt)

-- numbers of tops are below the one behind them
own_low : (top : ℕ) (units : List (DwUnit ℕ)) → ((u : DwUnit ℕ) → In u units → IsPartial u.kind → ⊥) → (m : ℕ) → In (Some m) (own_numbers top units) → m < top + tops_among units
unfolding own_numbers tops_among
own_low top [] plain m i = absurd i
own_low top (u ∷ units) plain m i = ⊎_elim
    (λ (a : In (Some m) (own_in top u.kind u)). let first = own_in_low top u u.kind (plain u (inl refl)) m a in omega arith)
    (λ (b : In (Some m) (own_numbers (top + top_count u.kind u.below) units)).
    let later = own_low (top + top_count u.kind u.below) units (λ v there. plain v (inr there)) m b in omega arith)
    (in_cases (Some m) (own_in top u.kind u) (own_numbers (top + top_count u.kind u.below) units) i)

module _ (number unit first : ℕ) (said : List (DwUnit ℕ)) (placed : ArePlaced said) where
  pub puts_refers : (own : List (Option ℕ)) (targets : List (List ℕ)) (old new : List Edge) → own ≡ own_numbers first said → targets ≡ top_targets (name_at (cross_names_from 0 0 said)) said
      → PutsLists own targets (length targets) old new → PutsRefers (tops_from unit first (map (in_file number) (named unit first said))) (first + tops_among said) old new
  puts_refers own targets old new own_is targets_is puts =
      let f = name_at (cross_names_from 0 0 said) in
      let is = names_found 0 said placed.apart in
      let p : PutsLists (own_numbers first said) (top_targets f said) (length (top_targets f said)) old new =
      subst (λ (w : List (Option ℕ) × List (List ℕ)). PutsLists w.0 w.1 (length w.1) old new) (λ i. (own_is i, targets_is i)) puts in
      record {
        only = λ e i. ⊎_elim (λ (a : In e old). inl a) (λ (b : IsEdgeBefore (own_numbers first said) (top_targets f said) (length (top_targets f said)) e).
            let r = edge_refers number unit first said placed f is e.key e.value b.edge in
            inr (record { top = r.one; there = r.there; from = r.number; refers = r.refers })) (p.only e i);
        kept = p.kept;
        low = λ e i. ⊎_elim (λ (a : In e old). inl a) (λ (b : IsEdgeBefore (own_numbers first said) (top_targets f said) (length (top_targets f said)) e).
            inr (own_low first said placed.kinds e.value (got_in (own_numbers first said) b.edge.t (Some e.value) (some_at (own_numbers first said) b.edge.t e.value b.edge.to)))) (p.only e i);
        found = λ t m i r. (
            let e = refers_edge number unit first said placed f is t m i r in
            p.found t.number m e (inside_at (top_targets f said) e.k e.t e.there));
      }
