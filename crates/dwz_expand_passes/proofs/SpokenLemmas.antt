-- The operands that were added are those of the attributes that were copied.
use Rattle.std.proofs.Common.{◌≡◌, ℕ, ◌+◌, ◌≤◌, ◌==◌, if◌then◌else◌, Bool, true, false, List, [], ◌∷◌, ◌++◌, length, map, take, Some, slice_get, refl, sym, ap, subst, ◌∙◌}
use Rattle.std.proofs.lemmas.List.{append-nil, append_assoc, map-append}
use Rattle.dwz_def_reading.specs.Classes.{Class, OfExpression, class_of}
use Rattle.dwz_def_reading.specs.Documents.{Value}
use Rattle.dwz_def_reading.specs.Entries.{RawAttr}
use Rattle.dwz_def_reading.specs.declared.exprs.Operand.{Operand}
use Rattle.dwz_def_reading.specs.Meanings.{MeaningContext, target_of, without_siblings}
use Rattle.dwz_def_output.specs.Refusals.{operands_as, operands_of_attr, operands_of_attrs}
use Rattle.dwz_graph.proofs.StepLemmas as Steps
use Rattle.dwz_expand_layout.specs.declared.entries.NewOperand.{NewOperand}
use Rattle.dwz_expand_passes.specs.Attributes.{SpeaksAttrs}
use Rattle.dwz_expand_passes.specs.Copied.{Added, Speaks, SpeaksAttr}
use Rattle.dwz_expand_passes.specs.Known.{Setting, copied, scope}
use Rattle.dwz_expand_passes.proofs.NamedLemmas.{IsRead}
use Rattle.dwz_expand_passes.proofs.OperandLemmas.{none_added, take_one, take_whole}

-- ---- one attribute

no_operands : (s : MeaningContext ℕ) (a : RawAttr) (c : Class) → (c ≡ OfExpression → ⊥) → operands_as c s a ≡ []
no_operands s a OfExpression other = absurd (other refl)
no_operands s a _ other = refl

pub none_spoken : (q : Setting) (a : RawAttr) (c : Class) → class_of a.pair.form ≡ c → (c ≡ OfExpression → ⊥) → (operands : List NewOperand) → SpeaksAttr q a operands operands
unfolding operands_of_attr
none_spoken q a c class other operands =
    subst (λ (os : List Operand). Speaks q os operands operands) (sym (ap (λ (d : Class). operands_as d (scope q) a) class ∙ no_operands (scope q) a c other)) (none_added q operands)

pub expr_spoken : (q : Setting) (a : RawAttr) (v : Value ℕ) (read : List Operand) (old new : List NewOperand) → class_of a.pair.form ≡ OfExpression → IsRead (scope q) a v read
    → Added q read (map q.place v.refs) old new → SpeaksAttr q a old new
unfolding operands_of_attr
expr_spoken q a v read old new class is added =
    let all : operands_as (class_of a.pair.form) (scope q) a ≡ read = ap (λ (d : Class). operands_as d (scope q) a) class ∙ is.operands in
    subst (λ (os : List Operand). Speaks q os old new) (sym all) (subst (λ (ps : List ℕ). Added q read (map q.place ps) old new) is.refs added)

-- ---- attributes one after the other

pub spoken_after : (q : Setting) (first second : List Operand) (old mid new : List NewOperand) → Speaks q first old mid → Speaks q second mid new → Speaks q (first ++ second) old new
spoken_after q first second old mid new x y =
    let lead : Operand → ℕ = λ o. q.around.place (target_of (scope q) o) in
    record {
      more = x.more ++ y.more;
      grown = y.grown ∙ ap (λ (w : List NewOperand). w ++ y.more) x.grown ∙ append_assoc old x.more y.more;
      operands = map-append (λ (n : NewOperand). n.operand) x.more y.more ∙ (λ i. x.operands i ++ y.operands i);
      keys = map-append (λ (n : NewOperand). q.keys.row n.copy) x.more y.more ∙ (λ i. x.keys i ++ y.keys i)
          ∙ sym (ap (map (copied q)) (ap (map q.place) (map-append lead first second) ∙ map-append q.place (map lead first) (map lead second))
          ∙ map-append (copied q) (map q.place (map lead first)) (map q.place (map lead second)));
    }

pub sibling_spoken : (q : Setting) (a : RawAttr) (operands : List NewOperand) → a.pair.name ≡ 0x01 → SpeaksAttrs q (a ∷ []) operands operands
unfolding operands_of_attrs without_siblings
sibling_spoken q a operands is =
    subst (λ (front : List RawAttr). Speaks q (operands_of_attrs (scope q) front) operands operands) (sym (Steps.skipped a [] is)) (none_added q operands)

pub other_spoken : (q : Setting) (a : RawAttr) (old new : List NewOperand) → (a.pair.name ≡ 0x01 → ⊥) → SpeaksAttr q a old new → SpeaksAttrs q (a ∷ []) old new
unfolding operands_of_attrs without_siblings
other_spoken q a old new other spoken =
    subst (λ (front : List RawAttr). Speaks q (operands_of_attrs (scope q) front) old new) (sym (Steps.taken a [] other))
    (subst (λ (os : List Operand). Speaks q os old new) (sym (append-nil (operands_of_attr (scope q) a))) spoken)

abbrev all_of : MeaningContext ℕ → List RawAttr → List Operand
all_of s attrs = operands_of_attrs s (without_siblings attrs)

attrs_joined : (s : MeaningContext ℕ) (front back : List RawAttr) → operands_of_attrs s (front ++ back) ≡ operands_of_attrs s front ++ operands_of_attrs s back
unfolding operands_of_attrs
attrs_joined s [] back = refl
attrs_joined s (a ∷ front) back =
    ap (λ (w : List Operand). operands_of_attr s a ++ w) (attrs_joined s front back) ∙ sym (append_assoc (operands_of_attr s a) (operands_of_attrs s front) (operands_of_attrs s back))

siblings_joined : (front back : List RawAttr) → without_siblings (front ++ back) ≡ without_siblings front ++ without_siblings back
unfolding without_siblings
siblings_joined [] back = refl
siblings_joined (a ∷ front) back = by (siblings_joined front back) (a.pair.name == 0x01) where
  by : without_siblings (front ++ back) ≡ without_siblings front ++ without_siblings back → (b : Bool) → (if b then without_siblings (front ++ back) else a ∷ without_siblings (front ++ back)) ≡ (if b then without_siblings front else a ∷ without_siblings front) ++ without_siblings back
  by later true = later
  by later false = ap (λ (w : List RawAttr). a ∷ w) later

all_joined : (s : MeaningContext ℕ) (front back : List RawAttr) → all_of s (front ++ back) ≡ all_of s front ++ all_of s back
all_joined s front back = ap (operands_of_attrs s) (siblings_joined front back) ∙ attrs_joined s (without_siblings front) (without_siblings back)

pub start_spoken : (q : Setting) (attrs : List RawAttr) (operands : List NewOperand) → operands ≡ [] → SpeaksAttrs q (take 0 attrs) [] operands
unfolding operands_of_attrs without_siblings
start_spoken q attrs operands none = subst (λ (w : List NewOperand). SpeaksAttrs q [] [] w) (sym none) (none_added q [])

pub next_spoken : (q : Setting) (attrs : List RawAttr) (j : ℕ) (a : RawAttr) (mid new : List NewOperand) → slice_get attrs j ≡ Some a → SpeaksAttrs q (take j attrs) [] mid
    → SpeaksAttrs q (a ∷ []) mid new → SpeaksAttrs q (take (j + 1) attrs) [] new
next_spoken q attrs j a mid new there before one =
    subst (λ (os : List Operand). Speaks q os [] new) (sym (ap (all_of (scope q)) (take_one attrs j a there) ∙ all_joined (scope q) (take j attrs) (a ∷ [])))
    (spoken_after q (all_of (scope q) (take j attrs)) (all_of (scope q) (a ∷ [])) [] mid new before one)

pub whole_spoken : (q : Setting) (attrs : List RawAttr) (j : ℕ) (operands : List NewOperand) → length attrs ≤ j → SpeaksAttrs q (take j attrs) [] operands → SpeaksAttrs q attrs [] operands
whole_spoken q attrs j operands le spoken = subst (λ (w : List RawAttr). SpeaksAttrs q w [] operands) (take_whole attrs j le) spoken
