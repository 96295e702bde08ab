-- What is built of entries as they are stored is what is built of those that they mean.
use Rattle.std.proofs.Common.{◌≡◌, ℕ, suc, ◌+◌, true, false, List, [], ◌∷◌, ◌++◌, length, refl, ap, ◌∙◌}
use Rattle.dwz_def_reading.specs.Entries.{RawEntry}
use Rattle.dwz_def_reading.specs.Trees.{End, Entry, Forest, size}
use Rattle.dwz_def_reading.specs.Documents.{Entries}
use Rattle.dwz_def_reading.specs.Meanings.{MeanEntries, MeaningContext}
use Rattle.dwz_graph.specs.Spaces.{stored_space}
use Rattle.dwz_graph.specs.Steps.{is_space}
use Rattle.dwz_graph.proofs.ListMeans.{means_size}
use Rattle.dwz_graph.proofs.SpaceMeans.{space_means}
use Rattle.dwz_check_index.specs.declared.index.Stands.{Stands}
use Rattle.dwz_check_index.specs.declared.index.Stands.TheVariants.{InTop}
use Rattle.dwz_check_index.specs.declared.index.Step.{Step}
use Rattle.dwz_check_index.specs.Building.{step, top_entry, with_list, with_outer, with_steps, with_top}
use Rattle.dwz_check_index.specs.Index.{CrossIndex}

module _ (s : MeaningContext ℕ) where
  steps_mean : (stands : Stands) (up i first : ℕ) (f : Forest RawEntry) (g : Entries ℕ) (steps : List Step) → MeanEntries s f g
      → with_steps stands up i first f steps ≡ with_steps stands up i first g steps
  unfolding with_steps
  steps_mean stands up i first End End steps h = refl
  steps_mean stands up i first End (Entry d c n) steps h = absurd h
  steps_mean stands up i first (Entry e c n) End steps h = absurd h
  steps_mean stands up i first (Entry e c n) (Entry d c' n') steps h =
      steps_mean stands up (suc i) (first + 1 + size c) n n' (with_steps stands first 0 (first + 1) c (steps ++ step up i stands ∷ [])) h.2
      ∙ (λ j. with_steps stands up (suc i) (first + 1 + means_size s c c' h.1 j) n' (steps_mean stands first 0 (first + 1) c c' (steps ++ step up i stands ∷ []) h.1 j))

  pub top_means : (unit outer first : ℕ) (f : Forest RawEntry) (g : Entries ℕ) (x : CrossIndex) → MeanEntries s f g → with_top unit outer first f x ≡ with_top unit outer first g x
  top_means unit outer first f g x h =
      let stands = InTop (x.starts.top + length x.tops) in
      ap (λ (w : List Step). record x { steps = w; tops = x.tops ++ top_entry first unit outer ∷ [] }) (steps_mean stands first 0 (first + 1) f g (x.steps ++ step first 0 stands ∷ []) h)

  pub list_means : (unit : ℕ) (stands : Stands) (up i first : ℕ) (f : Forest RawEntry) (g : Entries ℕ) (x : CrossIndex) → MeanEntries s f g
      → with_list stored_space unit stands up i first f x ≡ with_list is_space unit stands up i first g x
  unfolding with_list
  list_means unit stands up i first End End x h = refl
  list_means unit stands up i first End (Entry d c n) x h = absurd h
  list_means unit stands up i first (Entry e c n) End x h = absurd h
  list_means unit stands up i first (Entry e c n) (Entry d c' n') x h =
      let len = means_size s c c' h.1 in
      let y = with_outer stands up i first x in
      let top : with_list stored_space unit stands up (suc i) (first + 1 + size c) n (with_top unit up first c x) ≡ with_list is_space unit stands up (suc i) (first + 1 + size c') n' (with_top unit up first c' x)
      = list_means unit stands up (suc i) (first + 1 + size c) n n' (with_top unit up first c x) h.2
      ∙ (λ j. with_list is_space unit stands up (suc i) (first + 1 + len j) n' (top_means unit up first c c' x h.1 j)) in
      let inside : with_list stored_space unit stands up (suc i) (first + 1 + size c) n (with_list stored_space unit stands first 0 (first + 1) c y)
      ≡ with_list is_space unit stands up (suc i) (first + 1 + size c') n' (with_list is_space unit stands first 0 (first + 1) c' y)
      = list_means unit stands up (suc i) (first + 1 + size c) n n' (with_list stored_space unit stands first 0 (first + 1) c y) h.2
      ∙ (λ j. with_list is_space unit stands up (suc i) (first + 1 + len j) n' (list_means unit stands first 0 (first + 1) c c' y h.1 j)) in
      (λ j. elim (space_means s e d h.0 j) as (λ _. CrossIndex) [ false ↦ top j | true ↦ inside j ])
