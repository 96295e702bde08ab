-- The operands that values tell, one value after the other.
use Rattle.std.proofs.Common.{◌≡◌, ◌∙◌, ℕ, ◌+◌, Bool, true, false, ◌==◌, if◌then◌else◌, List, [], ◌∷◌, ◌++◌, slice_get, take, Some, zero, suc, Ok, append_assoc, refl, sym, ap, subst}
use Rattle.std.proofs.lemmas.List.{append-nil}
use Rattle.dwz_def_reading.specs.declared.exprs.Operand.{Operand}
use Rattle.dwz_def_reading.specs.Documents.{Value}
use Rattle.dwz_def_reading.specs.Entries.{RawAttr}
use Rattle.dwz_def_reading.specs.Meanings.{MeaningContext, without_siblings}
use Rattle.dwz_def_reading.specs.Meant.{meaning}
use Rattle.dwz_def_reading.specs.Units.{RawUnit}
use Rattle.dwz_def_cross.specs.Tops.{WithCommon}
use Rattle.dwz_def_expand.specs.OneFile.{OneFile}
use Rattle.dwz_expand_passes.specs.declared.new_file.NewFile.{NewFile}
use Rattle.dwz_graph.proofs.StepLemmas as Steps
use Rattle.dwz_expand_passes.proofs.OperandLemmas.{take_one}
use Rattle.dwz_expand.specs.Gathered.{AllKept, CanBeRead, list_operands, own_scope, told_at, told_in}

module _ (f : OneFile) (n : ℕ) (s : MeaningContext ℕ) where
  pub told_skip : (a : RawAttr) (items : List Operand) → a.pair.name ≡ 0x01 → items ≡ items ++ told_in f n s (without_siblings (a ∷ []))
  unfolding told_in without_siblings
  told_skip a items is = sym (append-nil items) ∙ ap (λ (w : List RawAttr). items ++ told_in f n s w) (sym (Steps.skipped a [] is))

  pub told_one : (a : RawAttr) → (a.pair.name ≡ 0x01 → ⊥) → told_at f n s (list_operands s a) ≡ told_in f n s (without_siblings (a ∷ []))
  unfolding told_in without_siblings
  told_one a other = sym (append-nil (told_at f n s (list_operands s a))) ∙ ap (λ (w : List RawAttr). told_in f n s w) (sym (Steps.taken a [] other))

  pub told_none : (a : RawAttr) (items : List Operand) → (a.pair.name ≡ 0x01 → ⊥) → list_operands s a ≡ [] → items ≡ items ++ told_in f n s (without_siblings (a ∷ []))
  told_none a items other none =
      sym (append-nil items) ∙ ap (λ (w : List Operand). items ++ told_at f n s w) (sym none) ∙ ap (λ (w : List Operand). items ++ w) (told_one a other)

  told_joined : (front back : List RawAttr) → told_in f n s (front ++ back) ≡ told_in f n s front ++ told_in f n s back
  unfolding told_in
  told_joined [] back = refl
  told_joined (a ∷ front) back =
      ap (λ (w : List Operand). told_at f n s (list_operands s a) ++ w) (told_joined front back)
      ∙ sym (append_assoc (told_at f n s (list_operands s a)) (told_in f n s front) (told_in f n s back))

siblings_joined : (front back : List RawAttr) → without_siblings (front ++ back) ≡ without_siblings front ++ without_siblings back
unfolding without_siblings
siblings_joined [] back = refl
siblings_joined (a ∷ front) back = by (siblings_joined front back) (a.pair.name == 0x01) where
  by : without_siblings (front ++ back) ≡ without_siblings front ++ without_siblings back → (b : Bool) → (if b then without_siblings (front ++ back) else a ∷ without_siblings (front ++ back)) ≡ (if b then without_siblings front else a ∷ without_siblings front) ++ without_siblings back
  by later true = later
  by later false = ap (λ (w : List RawAttr). a ∷ w) later

module _ (f : OneFile) (n : ℕ) (s : MeaningContext ℕ) (attrs : List RawAttr) (items : List Operand) where
  pub told_start : items ≡ items ++ told_in f n s (without_siblings (take 0 attrs))
  unfolding told_in without_siblings
  told_start = sym (append-nil items)

  pub told_next : (j : ℕ) (a : RawAttr) (mid new : List Operand) → slice_get attrs j ≡ Some a → mid ≡ items ++ told_in f n s (without_siblings (take j attrs))
      → new ≡ mid ++ told_in f n s (without_siblings (a ∷ [])) → new ≡ items ++ told_in f n s (without_siblings (take (j + 1) attrs))
  told_next j a mid new there before one =
      one ∙ ap (λ (w : List Operand). w ++ told_in f n s (without_siblings (a ∷ []))) before
      ∙ append_assoc items (told_in f n s (without_siblings (take j attrs))) (told_in f n s (without_siblings (a ∷ [])))
      ∙ ap (λ (w : List Operand). items ++ w)
      (sym (told_joined f n s (without_siblings (take j attrs)) (without_siblings (a ∷ [])))
      ∙ ap (λ (w : List RawAttr). told_in f n s w) (sym (siblings_joined (take j attrs) (a ∷ [])))
      ∙ ap (λ (w : List RawAttr). told_in f n s (without_siblings w)) (sym (take_one attrs j a there)))

-- ---- what can be read

module _ (x : NewFile) (w : WithCommon ℕ) (n : ℕ) (u : RawUnit) where
  pub read_one : (a : RawAttr) → (a.pair.name ≡ 0x01 → ⊥) → CanBeRead x w n u (without_siblings (a ∷ []))
      → (v : Value ℕ) × (meaning (own_scope x u) a ≡ Ok v) × AllKept x w n u (list_operands (own_scope x u) a)
  unfolding without_siblings
  read_one a other h = (subst (λ (front : List RawAttr). CanBeRead x w n u front) (Steps.taken a [] other) h).0

  can_skip : (front back : List RawAttr) → CanBeRead x w n u (front ++ back) → CanBeRead x w n u back
  can_skip [] back h = h
  can_skip (a ∷ front) back h = can_skip front back h.1

  can_front : (front back : List RawAttr) → CanBeRead x w n u (front ++ back) → CanBeRead x w n u front
  can_front [] back h = tt
  can_front (a ∷ front) back h = (h.0, can_front front back h.1)

  pub read_at : (attrs : List RawAttr) (j : ℕ) (a : RawAttr) → slice_get attrs j ≡ Some a → CanBeRead x w n u (without_siblings attrs) → CanBeRead x w n u (without_siblings (a ∷ []))
  unfolding without_siblings
  read_at [] j a got h = absurd cc
  read_at (b ∷ attrs) zero a got h =
      let same : b ≡ a = cc in
      subst (λ (c : RawAttr). CanBeRead x w n u (without_siblings (c ∷ []))) same
      (can_front (without_siblings (b ∷ [])) (without_siblings attrs) (subst (CanBeRead x w n u) (siblings_joined (b ∷ []) attrs) h))
  read_at (b ∷ attrs) (suc j) a got h =
      read_at attrs j a got (can_skip (without_siblings (b ∷ [])) (without_siblings attrs) (subst (CanBeRead x w n u) (siblings_joined (b ∷ []) attrs) h))
