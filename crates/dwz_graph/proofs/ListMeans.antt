-- What is built of a sibling list is what the definitions say of the entries that it means.
use Rattle.std.proofs.Common.{◌≡◌, ℕ, suc, ◌+◌, Bool, true, false, List, [], ◌∷◌, ◌++◌, length, refl, sym, ap, ◌∙◌, arith}
use Rattle.std.proofs.lemmas.List.{append-nil, append_assoc, length-append}
use Rattle.dwz_def_reading.specs.Entries.{RawEntry}
use Rattle.dwz_def_reading.specs.Trees.{End, Entry, Forest, size}
use Rattle.dwz_def_reading.specs.Documents.{Entries, Node}
use Rattle.dwz_def_reading.specs.Meanings.{MeanEntries, MeaningContext}
use Rattle.dwz_graph.specs.declared.index.SpaceEntry.{SpaceEntry}
use Rattle.dwz_graph.specs.declared.index.Step.{Step}
use Rattle.dwz_graph.specs.declared.index.TopEntry.{TopEntry}
use Rattle.dwz_graph.specs.Building.{space_behind, with_list, with_space, with_top}
use Rattle.dwz_graph.specs.Index.{Index}
use Rattle.dwz_graph.specs.Spaces.{stored_space}
use Rattle.dwz_graph.specs.Steps.{is_space, space_entry, spaces_among, spaces_by, step, steps_among, steps_below, top_entry, tops_among, tops_by}
use Rattle.dwz_graph.proofs.AmongLemmas.{spaces_many, spaces_space, spaces_top, steps_space, steps_top, tops_many, tops_space, tops_top}
use Rattle.dwz_graph.proofs.ListBuilding.{list_space, list_top}
use Rattle.dwz_graph.proofs.SpaceMeans.{space_means}

-- ---- with what a list adds

abbrev pub next_top : Index → ℕ
next_top x = x.starts.top + length x.tops

abbrev pub next_space : Index → ℕ
next_space x = x.starts.space + length x.spaces

abbrev pub listed : (unit inner up index first : ℕ) → Entries ℕ → Index → Index
listed unit inner up i first g x = record {
  steps = x.steps ++ steps_among is_space (next_top x) up i first g;
  tops = x.tops ++ tops_among is_space unit inner (next_space x) first g;
  spaces = x.spaces ++ spaces_among is_space inner (next_space x) first g;
  starts = x.starts;
}

one_more : {X : Type 0} (s : ℕ) (xs : List X) (x : X) → s + length (xs ++ x ∷ []) ≡ suc (s + length xs)
one_more s xs x = omega (arith, length-append xs (x ∷ []))

pub many_more : {X : Type 0} (s : ℕ) (xs ys : List X) (n : ℕ) → length ys ≡ n → s + length (xs ++ ys) ≡ s + length xs + n
many_more s xs ys n e = omega (arith, length-append xs ys, e)

front : {X : Type 0} (xs : List X) (x : X) (ys zs : List X) → ((xs ++ x ∷ []) ++ ys) ++ zs ≡ xs ++ (x ∷ (ys ++ zs))
front {X} xs x ys zs = append_assoc (xs ++ x ∷ []) ys zs ∙ append_assoc xs (x ∷ []) (ys ++ zs)

module _ (s : MeaningContext ℕ) where
  pub means_size : (f : Forest RawEntry) (g : Entries ℕ) → MeanEntries s f g → size f ≡ size g
  means_size End End h = refl
  means_size End (Entry d c n) h = absurd h
  means_size (Entry e c n) End h = absurd h
  means_size (Entry e c n) (Entry d c' n') h = (λ j. means_size c c' h.1 j + means_size n n' h.2 j + 1)

  pub means_below : (top up i first : ℕ) (f : Forest RawEntry) (g : Entries ℕ) → MeanEntries s f g → steps_below top up i first f ≡ steps_below top up i first g
  unfolding steps_below
  means_below top up i first End End h = refl
  means_below top up i first End (Entry d c n) h = absurd h
  means_below top up i first (Entry e c n) End h = absurd h
  means_below top up i first (Entry e c n) (Entry d c' n') h =
      (λ j. step up i top ∷ (means_below top first 0 (first + 1) c c' h.1 j ++ means_below top up (suc i) (first + 1 + means_size c c' h.1 j) n n' h.2 j))

  -- with a top, and then what is behind it
  then_top : (unit inner up i first : ℕ) (d : Node ℕ) (c : Forest RawEntry) (c' n' : Entries ℕ) (x : Index) → MeanEntries s c c' → is_space d ≡ false
      → listed unit inner up (suc i) (first + 1 + size c) n' (with_top unit inner first c x) ≡ listed unit inner up i first (Entry d c' n') x
  then_top unit inner up i first d c c' n' x h plain =
      let top = next_top x in
      let k = next_space x in
      let more : x.starts.top + length (x.tops ++ top_entry first unit inner ∷ []) ≡ suc top = one_more x.starts.top x.tops (top_entry first unit inner) in
      let len = means_size c c' h in
      let steps : ((x.steps ++ step first 0 (suc top) ∷ []) ++ steps_below (suc top) first 0 (first + 1) c) ++ steps_among is_space (x.starts.top + length (x.tops ++ top_entry first unit inner ∷ []))
      up (suc i) (first + 1 + size c) n'
      ≡ x.steps ++ steps_among is_space top up i first (Entry d c' n')
      = (λ j. ((x.steps ++ step first 0 (suc top) ∷ []) ++ means_below (suc top) first 0 (first + 1) c c' h j) ++ steps_among is_space (more j) up (suc i) (first + 1 + len j) n')
      ∙ front x.steps (step first 0 (suc top)) (steps_below (suc top) first 0 (first + 1) c') (steps_among is_space (suc top) up (suc i) (first + 1 + size c') n')
      ∙ ap (λ (w : List Step). x.steps ++ w) (sym (steps_top is_space d c' n' top up i first plain)) in
      let tops : (x.tops ++ top_entry first unit inner ∷ []) ++ tops_among is_space unit inner k (first + 1 + size c) n' ≡ x.tops ++ tops_among is_space unit inner k first (Entry d c' n')
      = (λ j. (x.tops ++ top_entry first unit inner ∷ []) ++ tops_among is_space unit inner k (first + 1 + len j) n')
      ∙ append_assoc x.tops (top_entry first unit inner ∷ []) (tops_among is_space unit inner k (first + 1 + size c') n')
      ∙ ap (λ (w : List TopEntry). x.tops ++ w) (sym (tops_top is_space d c' n' unit inner k first plain)) in
      let spaces : x.spaces ++ spaces_among is_space inner k (first + 1 + size c) n' ≡ x.spaces ++ spaces_among is_space inner k first (Entry d c' n')
      = (λ j. x.spaces ++ spaces_among is_space inner k (first + 1 + len j) n') ∙ ap (λ (w : List SpaceEntry). x.spaces ++ w) (sym (spaces_top is_space d c' n' inner k first plain)) in
      (λ j. record { steps = steps j; tops = tops j; spaces = spaces j; starts = x.starts })

  -- with a space and what is in it, and then what is behind it
  then_space : (unit inner up i first : ℕ) (d : Node ℕ) (c : Forest RawEntry) (c' n' : Entries ℕ) (x : Index) → MeanEntries s c c' → is_space d ≡ true
      → listed unit inner up (suc i) (first + 1 + size c) n' (listed unit (space_behind x) first 0 (first + 1) c' (with_space up i inner first x)) ≡ listed unit inner up i first (Entry d c' n') x
  then_space unit inner up i first d c c' n' x h is =
      let top = next_top x in
      let k = next_space x in
      let len = means_size c c' h in
      let opened = space_entry first inner in
      let one : x.starts.space + length (x.spaces ++ opened ∷ []) ≡ suc k = one_more x.starts.space x.spaces opened in
      let inside_steps = steps_among is_space top first 0 (first + 1) c' in
      let inside_tops = tops_among is_space unit (suc k) (x.starts.space + length (x.spaces ++ opened ∷ [])) (first + 1) c' in
      let inside_spaces = spaces_among is_space (suc k) (x.starts.space + length (x.spaces ++ opened ∷ [])) (first + 1) c' in
      let more_tops : x.starts.top + length (x.tops ++ inside_tops) ≡ top + tops_by is_space c' = many_more x.starts.top x.tops inside_tops (tops_by is_space c')
      (tops_many is_space unit (suc k) _ (first + 1) c') in
      let more_spaces : x.starts.space + length ((x.spaces ++ opened ∷ []) ++ inside_spaces) ≡ suc k + spaces_by is_space c' =
      many_more x.starts.space (x.spaces ++ opened ∷ []) inside_spaces (spaces_by is_space c') (spaces_many is_space (suc k) _ (first + 1) c') ∙ ap (λ (w : ℕ). w + spaces_by is_space c') one in
      let steps : ((x.steps ++ step up i 0 ∷ []) ++ inside_steps) ++ steps_among is_space (x.starts.top + length (x.tops ++ inside_tops)) up (suc i) (first + 1 + size c) n' ≡ x.steps
      ++ steps_among is_space top up i first (Entry d c' n')
      = (λ j. ((x.steps ++ step up i 0 ∷ []) ++ inside_steps) ++ steps_among is_space (more_tops j) up (suc i) (first + 1 + len j) n')
      ∙ front x.steps (step up i 0) inside_steps (steps_among is_space (top + tops_by is_space c') up (suc i) (first + 1 + size c') n')
      ∙ ap (λ (w : List Step). x.steps ++ w) (sym (steps_space is_space d c' n' top up i first is)) in
      let tops : (x.tops ++ inside_tops) ++ tops_among is_space unit inner (x.starts.space + length ((x.spaces ++ opened ∷ []) ++ inside_spaces)) (first + 1 + size c) n' ≡ x.tops
      ++ tops_among is_space unit inner k first (Entry d c' n')
      = append_assoc x.tops inside_tops _
      ∙ (λ j. x.tops ++ (tops_among is_space unit (suc k) (one j) (first + 1) c' ++ tops_among is_space unit inner (more_spaces j) (first + 1 + len j) n'))
      ∙ ap (λ (w : List TopEntry). x.tops ++ w) (sym (tops_space is_space d c' n' unit inner k first is)) in
      let spaces : ((x.spaces ++ opened ∷ []) ++ inside_spaces) ++ spaces_among is_space inner (x.starts.space + length ((x.spaces ++ opened ∷ []) ++ inside_spaces)) (first + 1 + size c) n' ≡ x.spaces
      ++ spaces_among is_space inner k first (Entry d c' n')
      = front x.spaces opened inside_spaces _
      ∙ (λ j. x.spaces ++ (opened ∷ (spaces_among is_space (suc k) (one j) (first + 1) c' ++ spaces_among is_space inner (more_spaces j) (first + 1 + len j) n')))
      ∙ ap (λ (w : List SpaceEntry). x.spaces ++ w) (sym (spaces_space is_space d c' n' inner k first is)) in
      (λ j. record { steps = steps j; tops = tops j; spaces = spaces j; starts = x.starts })

  pub list_means : (unit inner up i first : ℕ) (f : Forest RawEntry) (g : Entries ℕ) (x : Index) → MeanEntries s f g → with_list unit inner up i first f x ≡ listed unit inner up i first g x
  unfolding with_list steps_among tops_among spaces_among
  list_means unit inner up i first End End x h =
      let a = sym (append-nil x.steps) in
      let b = sym (append-nil x.tops) in
      let d = sym (append-nil x.spaces) in
      (λ j. record { steps = a j; tops = b j; spaces = d j; starts = x.starts })
  list_means unit inner up i first End (Entry d c n) x h = absurd h
  list_means unit inner up i first (Entry e c n) End x h = absurd h
  list_means unit inner up i first (Entry e c n) (Entry d c' n') x h =
      by (λ y. list_means unit inner up (suc i) (first + 1 + size c) n n' y h.2) (list_means unit (space_behind x) first 0 (first + 1) c c' (with_space up i inner first x) h.1) (is_space d) refl
    where
      a : Index
      a = with_top unit inner first c x

      b : Index
      b = with_space up i inner first x

      same : stored_space e ≡ is_space d
      same = space_means s e d h.0

      by : ((y : Index) → with_list unit inner up (suc i) (first + 1 + size c) n y ≡ listed unit inner up (suc i) (first + 1 + size c) n' y)
          → with_list unit (space_behind x) first 0 (first + 1) c b ≡ listed unit (space_behind x) first 0 (first + 1) c' b
          → (t : Bool) → is_space d ≡ t → with_list unit inner up i first (Entry e c n) x ≡ listed unit inner up i first (Entry d c' n') x
      by behind inside false t = list_top unit inner up i first e c n x (sym (same ∙ t)) ∙ behind a ∙ then_top unit inner up i first d c c' n' x h.1 t
      by behind inside true t =
          list_space unit inner up i first e c n x (sym (same ∙ t))
          ∙ ap (with_list unit inner up (suc i) (first + 1 + size c) n) inside
          ∙ behind (listed unit (space_behind x) first 0 (first + 1) c' b)
          ∙ then_space unit inner up i first d c c' n' x h.1 t
