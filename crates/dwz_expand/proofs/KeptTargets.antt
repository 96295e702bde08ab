-- The entries that the operands of a value's list name are those that the value names.
use Rattle.std.proofs.Common.{◌≡◌, ℕ, ◌+◌, Bool, true, false, List, [], map, Ok, inl, inr, refl, sym, subst}
use Rattle.dwz_model.specs.Lists.{In}
use Rattle.dwz_model.proofs.ListFacts.{in_map}
use Rattle.dwz_def_reading.specs.declared.exprs.Operand.{Operand}
use Rattle.dwz_def_reading.specs.Classes.{OfListIndex, OfOffset, class_of, names_list}
use Rattle.dwz_def_reading.specs.Documents.{Value}
use Rattle.dwz_def_reading.specs.Entries.{RawAttr}
use Rattle.dwz_def_reading.specs.Meanings.{loclists_base, offset_of, target_of}
use Rattle.dwz_def_reading.specs.Meant.{meaning}
use Rattle.dwz_def_reading.specs.Shared.{operands_of}
use Rattle.dwz_def_reading.specs.Units.{RawUnit}
use Rattle.dwz_label_entries.proofs.PlainLemmas.{list_means}
use Rattle.dwz_expand_passes.specs.declared.new_file.NewFile.{NewFile}
use Rattle.dwz_expand_passes.proofs.ContentLemmas.{as_class_of}
use Rattle.dwz_expand_passes.proofs.NamedLemmas.{list_at_place, list_by_slot}
use Rattle.dwz_expand.specs.Gathered.{list_operands, own_scope}
use Rattle.dwz_expand.proofs.ListOperands.{class_cases, no_list, offset_operands, other_none, slot_operands}

module _ (x : NewFile) (u : RawUnit) (a : RawAttr) (v : Value ℕ) (means : meaning (own_scope x u) a ≡ Ok v) (o : Operand) (there : In o (list_operands (own_scope x u) a)) where
  of_list : (os : List Operand) → list_operands (own_scope x u) a ≡ os → v.refs ≡ map (λ (r : Operand). target_of (own_scope x u) r) os → In (target_of (own_scope x u) o) v.refs
  of_list os is refs =
      subst (λ (ns : List ℕ). In (target_of (own_scope x u) o) ns) (sym refs)
      (in_map (λ (r : Operand). target_of (own_scope x u) r) o os (subst (λ (w : List Operand). In o w) is there))

  none_there : list_operands (own_scope x u) a ≡ [] → In (target_of (own_scope x u) o) v.refs
  none_there is = absurd (subst (λ (w : List Operand). In o w) is there)

  by_offset : class_of a.pair.form ≡ OfOffset → (b : Bool) → names_list a.pair.name ≡ b → In (target_of (own_scope x u) o) v.refs
  by_offset e true name =
      let listed = list_means (own_scope x u) a v name (as_class_of (own_scope x u) a v OfOffset e means) in
      let n = list_at_place (own_scope x u) a v (offset_of a) listed in
      of_list (operands_of n.list.exprs) (offset_operands (own_scope x u) a e name n.list n.read) n.is.refs
  by_offset e false name = none_there (no_list (own_scope x u) a e name)

  by_index : class_of a.pair.form ≡ OfListIndex → In (target_of (own_scope x u) o) v.refs
  by_index e =
      let b = list_by_slot (own_scope x u) a v (loclists_base (own_scope x u)) (as_class_of (own_scope x u) a v OfListIndex e means) in
      let n = list_at_place (own_scope x u) a v (b.at + b.offset) b.means in
      of_list (operands_of n.list.exprs) (slot_operands (own_scope x u) a e v b n.list n.read) n.is.refs

  pub targets_kept : In (target_of (own_scope x u) o) v.refs
  targets_kept = elim (class_cases (class_of a.pair.form)) [
    | inl e ↦ by_offset e (names_list a.pair.name) refl
    | inr (inl e) ↦ by_index e
    | inr (inr e) ↦ none_there (other_none (own_scope x u) a (class_of a.pair.form) refl e.0 e.1)
  ]
