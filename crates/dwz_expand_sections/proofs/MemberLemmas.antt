-- Numbers that are written over bytes are the same for operands that are the same, however often and in whatever order they come.
use Rattle.std.proofs.Common.{◌≡◌, ◌↔◌, ℕ, ◌+◌, ◌-◌, ◌≤◌, List, length, get_or, sym, ap, ◌∙◌, inl, inr}
use Rattle.std.proofs.lemmas.List.{ext_get_or}
use Rattle.dwz_def_reading.specs.declared.exprs.Operand.{Operand}
use Rattle.dwz_def_reading.specs.Lists.{In}
use Rattle.dwz_def_reading.specs.PatchedLists.{with_operands}
use Rattle.dwz_def_reading.specs.Shared.{HasByte}
use Rattle.dwz_def_output.proofs.ListsWritten.{over_byte, over_len, spelled}

-- two with a byte in common are one
abbrev pub OneAByte : List Operand → Type 0
OneAByte os = (p q : Operand) (b : ℕ) → In p os → In q os → HasByte p b → HasByte q b → p ≡ q

module _ (xs ys : List Operand) (bytes : List ℕ) (same : (o : Operand) → In o xs ↔ In o ys) (one : OneAByte xs) (within : (o : Operand) → In o xs → o.at + o.width ≤ length bytes) where
  byte_same : (b : ℕ) → get_or (with_operands xs bytes) b 0 ≡ get_or (with_operands ys bytes) b 0
  byte_same b = elim (over_byte xs bytes within b) [
    | inl x ↦ elim (over_byte ys bytes (λ o there. within o ((same o).1 there)) b) [
      | inl y ↦
          let e = one x.operand y.operand b x.there ((same y.operand).1 y.there) x.has y.has in
          x.value_is ∙ ap (λ (o : Operand). get_or (spelled o) (b - o.at) 0) e ∙ sym y.value_is
      | inr none ↦ absurd (none.0 x.operand ((same x.operand).0 x.there) x.has)
    ]
    | inr free ↦ elim (over_byte ys bytes (λ o there. within o ((same o).1 there)) b) [
      | inl y ↦ absurd (free.0 y.operand ((same y.operand).1 y.there) y.has)
      | inr none ↦ free.1 ∙ sym none.1
    ]
  ]

  pub members_written : with_operands xs bytes ≡ with_operands ys bytes
  members_written = ext_get_or 0 (with_operands xs bytes) (with_operands ys bytes) (over_len xs bytes ∙ sym (over_len ys bytes)) (λ i lt. byte_same i)
