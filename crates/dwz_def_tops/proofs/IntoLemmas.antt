-- The targets of a top are just the tops that it refers to: for references, attributes and entries in turn.
use Rattle.std.proofs.Common.{◌≡◌, ℕ, ◌==◌, true, List, [], ◌∷◌, ◌++◌, inl, inr, ⊎_elim, eqb-true, eq-eqb}
use Rattle.std.proofs.lemmas.Bool.{or_cases}
use Rattle.std.specs.List.{list_any}
use Rattle.dwz_def_reading.specs.Documents.{Attr, Entries}
use Rattle.dwz_def_reading.specs.Lists.{In}
use Rattle.dwz_def_reading.specs.Trees.{End, Entry}
use Rattle.dwz_def_reading.proofs.ListFacts.{in_cases, in_left, in_right}
use Rattle.dwz_def_tops.specs.Alike.{any_attr, any_entry, is_in, refers_to}
use Rattle.dwz_def_tops.specs.Spots.{EntryName, Top, Within}
use Rattle.dwz_def_tops.specs.Targets.{attrs_into, entries_into, refs_into, targets_of}
use Rattle.dwz_def_tops.proofs.Targets.{or_first, or_second}

module _ (n : ℕ) where
  refs_found : (refs : List EntryName) → list_any (is_in n) refs ≡ true → In n (refs_into refs)
  refs_found [] e = absurd cc
  refs_found (Within t path ∷ refs) e = ⊎_elim (λ h. inl (eqb-true t n h)) (λ h. inr (refs_found refs h)) (or_cases (t == n) (list_any (is_in n) refs) e)
  refs_found (_ ∷ refs) e = refs_found refs e

  refs_find : (refs : List EntryName) → In n (refs_into refs) → list_any (is_in n) refs ≡ true
  refs_find [] i = absurd i
  refs_find (Within t path ∷ refs) i = ⊎_elim (λ h. or_first (t == n) (list_any (is_in n) refs) (eq-eqb t n h)) (λ j. or_second (t == n) (list_any (is_in n) refs) (refs_find refs j)) i
  refs_find (_ ∷ refs) i = refs_find refs i

  attrs_found : (attrs : List (Attr EntryName)) → list_any (λ a. list_any (is_in n) a.value.refs) attrs ≡ true → In n (attrs_into attrs)
  attrs_found [] e = absurd cc
  attrs_found (a ∷ attrs) e = ⊎_elim
      (λ h. in_left n (refs_into a.value.refs) (attrs_into attrs) (refs_found a.value.refs h))
      (λ h. in_right n (refs_into a.value.refs) (attrs_into attrs) (attrs_found attrs h))
      (or_cases (list_any (is_in n) a.value.refs) _ e)

  attrs_find : (attrs : List (Attr EntryName)) → In n (attrs_into attrs) → list_any (λ a. list_any (is_in n) a.value.refs) attrs ≡ true
  attrs_find [] i = absurd i
  attrs_find (a ∷ attrs) i = ⊎_elim
      (λ j. or_first (list_any (is_in n) a.value.refs) _ (refs_find a.value.refs j))
      (λ j. or_second (list_any (is_in n) a.value.refs) _ (attrs_find attrs j))
      (in_cases n (refs_into a.value.refs) (attrs_into attrs) i)

  entries_found : (f : Entries EntryName) → any_entry (any_attr (λ a. list_any (is_in n) a.value.refs)) f ≡ true → In n (entries_into f)
  unfolding any_entry entries_into
  entries_found End e = absurd cc
  entries_found (Entry d f g) e = ⊎_elim
      (λ h. in_left n (attrs_into d.attrs) (entries_into f ++ entries_into g) (attrs_found d.attrs h))
      (λ h. in_right n (attrs_into d.attrs) (entries_into f ++ entries_into g) (⊎_elim
      (λ k. in_left n (entries_into f) (entries_into g) (entries_found f k))
      (λ k. in_right n (entries_into f) (entries_into g) (entries_found g k))
      (or_cases (any_entry (any_attr (λ a. list_any (is_in n) a.value.refs)) f) _ h)))
      (or_cases (any_attr (λ a. list_any (is_in n) a.value.refs) d) _ e)

  entries_find : (f : Entries EntryName) → In n (entries_into f) → any_entry (any_attr (λ a. list_any (is_in n) a.value.refs)) f ≡ true
  unfolding any_entry entries_into
  entries_find End i = absurd i
  entries_find (Entry d f g) i = ⊎_elim
      (λ j. or_first (any_attr (λ a. list_any (is_in n) a.value.refs) d) _ (attrs_find d.attrs j))
      (λ j. or_second (any_attr (λ a. list_any (is_in n) a.value.refs) d) _ (⊎_elim
      (λ k. or_first (any_entry (any_attr (λ a. list_any (is_in n) a.value.refs)) f) _ (entries_find f k))
      (λ k. or_second (any_entry (any_attr (λ a. list_any (is_in n) a.value.refs)) f) _ (entries_find g k))
      (in_cases n (entries_into f) (entries_into g) j)))
      (in_cases n (attrs_into d.attrs) (entries_into f ++ entries_into g) i)

  pub targets_found : (t : Top) → refers_to n t ≡ true → In n (targets_of t)
  targets_found t e = ⊎_elim
      (λ h. in_left n (attrs_into t.node.attrs) (entries_into t.below) (attrs_found t.node.attrs h))
      (λ h. in_right n (attrs_into t.node.attrs) (entries_into t.below) (entries_found t.below h))
      (or_cases (any_attr (λ a. list_any (is_in n) a.value.refs) t.node) _ e)

  pub targets_find : (t : Top) → In n (targets_of t) → refers_to n t ≡ true
  targets_find t i = ⊎_elim
      (λ j. or_first (any_attr (λ a. list_any (is_in n) a.value.refs) t.node) _ (attrs_find t.node.attrs j))
      (λ j. or_second (any_attr (λ a. list_any (is_in n) a.value.refs) t.node) _ (entries_find t.below j))
      (in_cases n (attrs_into t.node.attrs) (entries_into t.below) i)
