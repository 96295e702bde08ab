-- What is written down of a list that was read is what is of the entries that it means, with names in place of places.
use Rattle.std.proofs.Common.{◌≡◌, ℕ, suc, ◌+◌, Bool, true, false, List, ◌∷◌, ◌++◌, ◌||◌, ◌&&◌, length, refl, sym, ap, ◌∙◌}
use Rattle.std.specs.Option.{is_some}
use Rattle.dwz_def_reading.specs.Entries.{RawEntry}
use Rattle.dwz_def_reading.specs.Trees.{End, Entry, Forest}
use Rattle.dwz_def_reading.specs.Documents.{Entries, entries_map}
use Rattle.dwz_def_reading.specs.Meanings.{MeanEntries, MeaningContext}
use Rattle.dwz_def_tops.proofs.SpaceLemmas.{text_map}
use Rattle.dwz_def_tops.specs.Spots.{EntryName}
use Rattle.dwz_graph.specs.Spaces.{stored_space}
use Rattle.dwz_graph.specs.Steps.{is_space, spaces_by, tops_by}
use Rattle.dwz_graph.proofs.SpaceMeans.{space_means}
use Rattle.dwz_layout_items.specs.declared.order.Outer.{Outer}
use Rattle.dwz_layout_order.specs.declared.marks.Marks.{Marks}
use Rattle.dwz_layout_order.specs.declared.outline.Next.{Next}
use Rattle.dwz_layout_order.specs.Marks.{flag_at, mark_at}
use Rattle.dwz_layout_order.specs.Outline.{behind_list, behind_space, behind_top, closed, outers_in, pinned_in, space_opened, top_outer}

-- lists of one shape, where the one test is true of an entry just where the other is
abbrev pub Agree : {A B : Type 0} → (A → Bool) → (B → Bool) → Forest A → Forest B → Type 0
Agree p q End End = Unit {0}
Agree p q (Entry a c x) (Entry b d y) = (p a ≡ q b) × Agree p q c d × Agree p q x y
Agree p q _ _ = ⊥

module _ {A B : Type 0} (p : A → Bool) (q : B → Bool) where
  pub tops_agree : (f : Forest A) (g : Forest B) → Agree p q f g → tops_by p f ≡ tops_by q g
  unfolding tops_by
  tops_agree End End h = refl
  tops_agree End (Entry b d y) h = absurd h
  tops_agree (Entry a c x) End h = absurd h
  tops_agree (Entry a c x) (Entry b d y) h =
      (λ i. elim (h.0 i) as (λ _. ℕ) [ false ↦ suc (tops_agree x y h.2 i) | true ↦ tops_agree c d h.1 i + tops_agree x y h.2 i ])

  pub spaces_agree : (f : Forest A) (g : Forest B) → Agree p q f g → spaces_by p f ≡ spaces_by q g
  unfolding spaces_by
  spaces_agree End End h = refl
  spaces_agree End (Entry b d y) h = absurd h
  spaces_agree (Entry a c x) End h = absurd h
  spaces_agree (Entry a c x) (Entry b d y) h =
      (λ i. elim (h.0 i) as (λ _. ℕ) [ false ↦ spaces_agree x y h.2 i | true ↦ suc (spaces_agree c d h.1 i + spaces_agree x y h.2 i) ])

  pub behind_agree : (f : Forest A) (g : Forest B) (n : Next) → Agree p q f g → behind_list p f n ≡ behind_list q g n
  behind_agree f g n h = (λ i. record { top = n.top + tops_agree f g h i; space = n.space + spaces_agree f g h i })

  module _ (m : Marks) where
    pub pinned_agree : (f : Forest A) (g : Forest B) (n : Next) → Agree p q f g → pinned_in p m n f ≡ pinned_in q m n g
    unfolding pinned_in
    pinned_agree End End n h = refl
    pinned_agree End (Entry b d y) n h = absurd h
    pinned_agree (Entry a c x) End n h = absurd h
    pinned_agree (Entry a c x) (Entry b d y) n h =
        let others : pinned_in p m (behind_list p c (behind_space n)) x ≡ pinned_in q m (behind_list q d (behind_space n)) y =
        pinned_agree x y (behind_list p c (behind_space n)) h.2 ∙ ap (λ (w : Next). pinned_in q m w y) (behind_agree c d (behind_space n) h.1) in
        (λ i. elim (h.0 i) as (λ _. Bool) [
          | false ↦ (mark_at m.tops.now n.top).stays && (mark_at m.tops.now n.top).pinned || pinned_agree x y (behind_top n) h.2 i
          | true ↦ (flag_at m.spaces.now n.space || pinned_agree c d (behind_space n) h.1 i) || others i
        ])

    pub outers_agree : (f : Forest A) (g : Forest B) (n : Next) → Agree p q f g → outers_in p m n f ≡ outers_in q m n g
    unfolding outers_in
    outers_agree End End n h = refl
    outers_agree End (Entry b d y) n h = absurd h
    outers_agree (Entry a c x) End n h = absurd h
    outers_agree (Entry a c x) (Entry b d y) n h =
        let inner = outers_agree c d (behind_space n) h.1 in
        let any = pinned_agree c d (behind_space n) h.1 in
        let others : outers_in p m (behind_list p c (behind_space n)) x ≡ outers_in q m (behind_list q d (behind_space n)) y =
        outers_agree x y (behind_list p c (behind_space n)) h.2 ∙ ap (λ (w : Next). outers_in q m w y) (behind_agree c d (behind_space n) h.1) in
        (λ i. elim (h.0 i) as (λ _. List Outer) [
          | false ↦ top_outer m n.top ∷ outers_agree x y (behind_top n) h.2 i
          | true ↦ closed (space_opened m n.space) (length (inner i)) (any i) ∷ (inner i ++ others i)
        ])

-- names in place of places make no difference
pub same_agree : (name : ℕ → EntryName) (f : Entries ℕ) → Agree is_space is_space f (entries_map name f)
unfolding entries_map
same_agree name End = tt
same_agree name (Entry d c x) = (ap (λ (o : _). is_some {T = List ℕ} o) (sym (text_map name d)), same_agree name c, same_agree name x)

pub means_agree : (s : MeaningContext ℕ) (name : ℕ → EntryName) (f : Forest RawEntry) (g : Entries ℕ) → MeanEntries s f g → Agree stored_space is_space f (entries_map name g)
unfolding entries_map
means_agree s name End End h = tt
means_agree s name End (Entry d c x) h = absurd h
means_agree s name (Entry e c x) End h = absurd h
means_agree s name (Entry e c x) (Entry d c' x') h = (
  space_means s e d h.0 ∙ ap (λ (o : _). is_some {T = List ℕ} o) (sym (text_map name d)),
  means_agree s name c c' h.1,
  means_agree s name x x' h.2,
)
