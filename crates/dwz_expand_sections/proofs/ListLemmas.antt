-- Operands that have new numbers: they end where they did, and two with a byte in common are one.
use Rattle.std.proofs.Common.{◌≡◌, ℕ, suc, ◌+◌, ◌<◌, ◌≤◌, List, [], ◌∷◌, ◌++◌, drop, get_or, length, map, Option, Some, None, refl, sym}
use Rattle.std.proofs.Common.{ap, subst, ◌∙◌, inl, inr, arith}
use Rattle.std.proofs.lemmas.List.{append-nil, append_assoc, drop_all, drop_more}
use Rattle.dwz_def_reading.specs.declared.exprs.Operand.{Operand}
use Rattle.dwz_def_reading.specs.Lists.{In}
use Rattle.dwz_def_reading.specs.Patching.{renumbered}
use Rattle.dwz_def_reading.specs.PatchedLists.{with_operands}
use Rattle.dwz_def_reading.specs.Shared.{HasByte, StandApart}
use Rattle.dwz_def_reading.specs.Units.{RawUnit}
use Rattle.dwz_def_expand.specs.OneFile.{OneFile}
use Rattle.dwz_def_expand.specs.Output.{in_lists, new_lists}
use Rattle.dwz_graph_resolve.specs.declared.operands.ListOperand.{ListOperand}
use Rattle.dwz_graph_resolve.specs.ListRows.{operand_view}
use Rattle.dwz_encode_sections.specs.Numbers.{EndIn, with_numbers}
use Rattle.dwz_expand_sections.specs.Lists.{HasNumbers, numbered, numbers_of, rows_with}
use Rattle.dwz_expand_sections.specs.Narrow.{operand_after}
use Rattle.dwz_expand_sections.proofs.MemberLemmas.{OneAByte, members_written}

-- no new number
pub none_unless : (o : Option ℕ) → ((n : ℕ) → o ≡ Some n → ⊥) → o ≡ None
none_unless None none = refl
none_unless (Some n) none = absurd (none n refl)

-- ---- one more

-- what was kept, and what is kept of those that are left, is all
pub record IsKept (operands : List ListOperand) (numbers : List (Option ℕ)) (rows : List ListOperand) (new : List ℕ) (i : ℕ) : Type 0 where
  pub rows_are : rows ++ rows_with (drop i operands) (drop i numbers) ≡ rows_with operands numbers
  pub numbers_are : new ++ numbers_of (drop i operands) (drop i numbers) ≡ numbers_of operands numbers

module _ (operands : List ListOperand) (numbers : List (Option ℕ)) (rows : List ListOperand) (new : List ℕ) (i : ℕ) (d : ListOperand) (lt : i < length operands)
    (many : length numbers ≡ length operands) (h : IsKept operands numbers rows new i) where
  first : drop i operands ≡ get_or operands i d ∷ drop (i + 1) operands
  first = drop_more operands i d lt

  pub kept_more : (n : ℕ) → get_or numbers i None ≡ Some n → (rows' : List ListOperand) (new' : List ℕ) → rows' ≡ rows ++ get_or operands i d ∷ [] → new' ≡ new ++ n ∷ []
      → IsKept operands numbers rows' new' (i + 1)
  unfolding rows_with numbers_of
  kept_more n is rows' new' more one =
      let o = get_or operands i d in
      let number : drop i numbers ≡ Some n ∷ drop (i + 1) numbers =
      drop_more numbers i None (omega (arith, many, lt)) ∙ ap (λ (x : Option ℕ). x ∷ drop (i + 1) numbers) is in
      record {
        rows_are =
            ap (λ (w : List ListOperand). w ++ rows_with (drop (i + 1) operands) (drop (i + 1) numbers)) more
            ∙ append_assoc rows (o ∷ []) (rows_with (drop (i + 1) operands) (drop (i + 1) numbers))
            ∙ (λ j. rows ++ rows_with (sym first j) (sym number j)) ∙ h.rows_are;
        numbers_are =
            ap (λ (w : List ℕ). w ++ numbers_of (drop (i + 1) operands) (drop (i + 1) numbers)) one
            ∙ append_assoc new (n ∷ []) (numbers_of (drop (i + 1) operands) (drop (i + 1) numbers))
            ∙ (λ j. new ++ numbers_of (sym first j) (sym number j)) ∙ h.numbers_are;
      }

  pub kept_same : get_or numbers i None ≡ None → IsKept operands numbers rows new (i + 1)
  unfolding rows_with numbers_of
  kept_same is =
      let number : drop i numbers ≡ None ∷ drop (i + 1) numbers =
      drop_more numbers i None (omega (arith, many, lt)) ∙ ap (λ (x : Option ℕ). x ∷ drop (i + 1) numbers) is in
      record { rows_are = (λ j. rows ++ rows_with (sym first j) (sym number j)) ∙ h.rows_are; numbers_are = (λ j. new ++ numbers_of (sym first j) (sym number j)) ∙ h.numbers_are }

module _ (operands : List ListOperand) (numbers : List (Option ℕ)) (rows : List ListOperand) (new : List ℕ) (i : ℕ) (le : length operands ≤ i) (h : IsKept operands numbers rows new i) where
  none_left : drop i operands ≡ []
  none_left = drop_all i operands le

  pub rows_kept : rows ≡ rows_with operands numbers
  unfolding rows_with
  rows_kept = sym (append-nil rows) ∙ (λ j. rows ++ rows_with (sym none_left j) (drop i numbers)) ∙ h.rows_are

  pub numbers_kept : new ≡ numbers_of operands numbers
  unfolding numbers_of
  numbers_kept = sym (append-nil new) ∙ (λ j. new ++ numbers_of (sym none_left j) (drop i numbers)) ∙ h.numbers_are

pub none_kept : (operands : List ListOperand) (numbers : List (Option ℕ)) → IsKept operands numbers [] [] 0
none_kept operands numbers = record { rows_are = refl; numbers_are = refl }

-- ---- what is kept

pub as_many_kept : (operands : List ListOperand) (numbers : List (Option ℕ)) → length (numbers_of operands numbers) ≡ length (rows_with operands numbers)
unfolding rows_with numbers_of
as_many_kept [] numbers = refl
as_many_kept (o ∷ operands) [] = refl
as_many_kept (o ∷ operands) (Some n ∷ numbers) = ap suc (as_many_kept operands numbers)
as_many_kept (o ∷ operands) (None ∷ numbers) = as_many_kept operands numbers

pub kept_end : (end : ℕ) (operands : List ListOperand) (numbers : List (Option ℕ)) → EndIn end operands → EndIn end (rows_with operands numbers)
unfolding rows_with
kept_end end [] numbers h = tt
kept_end end (o ∷ operands) [] h = tt
kept_end end (o ∷ operands) (Some n ∷ numbers) h = (h.0, kept_end end operands numbers h.1)
kept_end end (o ∷ operands) (None ∷ numbers) h = kept_end end operands numbers h.1

numbered_end : (end : ℕ) (operands : List ListOperand) (numbers : List (Option ℕ)) → EndIn end operands → (p : Operand) → In p (numbered operands numbers) → p.at + p.width ≤ end
unfolding rows_with numbers_of renumbered
numbered_end end [] numbers h p there = absurd there
numbered_end end (o ∷ operands) [] h p there = absurd there
numbered_end end (o ∷ operands) (Some n ∷ numbers) h p (inl is) = subst (λ (x : Operand). x.at + x.width ≤ end) is h.0
numbered_end end (o ∷ operands) (Some n ∷ numbers) h p (inr later) = numbered_end end operands numbers h.1 p later
numbered_end end (o ∷ operands) (None ∷ numbers) h p there = numbered_end end operands numbers h.1 p there

-- ---- apart

module _ (raw : List RawUnit) where
  abbrev Apart : List ListOperand → Type 0
  Apart operands = StandApart (map (operand_view raw) operands)

  fewer : (o : ListOperand) (operands : List ListOperand) → Apart (o ∷ operands) → Apart operands
  fewer o [] h = tt
  fewer o (p ∷ operands) h = h.1

  behind : (o : ListOperand) (operands : List ListOperand) (numbers : List (Option ℕ)) → Apart (o ∷ operands) → (p : Operand) → In p (numbered operands numbers) → o.at + o.width ≤ p.at
  unfolding rows_with numbers_of renumbered
  behind o [] numbers h p there = absurd there
  behind o (q ∷ operands) [] h p there = absurd there
  behind o (q ∷ operands) (Some n ∷ numbers) h p (inl is) = subst (λ (x : Operand). o.at + o.width ≤ x.at) is h.0
  behind o (q ∷ operands) (Some n ∷ numbers) h p (inr later) = (let le = behind q operands numbers h.1 p later in let next = h.0 in omega (arith, le, next))
  behind o (q ∷ operands) (None ∷ numbers) h p there = (let le = behind q operands numbers h.1 p there in let next = h.0 in omega (arith, le, next))

  one_a_byte : (operands : List ListOperand) (numbers : List (Option ℕ)) → Apart operands → OneAByte (numbered operands numbers)
  unfolding rows_with numbers_of renumbered
  one_a_byte [] numbers h p q b there other has has' = absurd there
  one_a_byte (o ∷ operands) [] h p q b there other has has' = absurd there
  one_a_byte (o ∷ operands) (None ∷ numbers) h p q b there other has has' = one_a_byte operands numbers (fewer o operands h) p q b there other has has'
  one_a_byte (o ∷ operands) (Some n ∷ numbers) h p q b (inl is) (inl same) has has' = sym is ∙ same
  one_a_byte (o ∷ operands) (Some n ∷ numbers) h p q b (inl is) (inr later) has has' =
      let le = behind o operands numbers h q later in
      let first = subst (λ (x : Operand). HasByte x b) (sym is) has in
      let high = first.1 in
      let low = has'.0 in absurd (omega (arith, le, high, low))
  one_a_byte (o ∷ operands) (Some n ∷ numbers) h p q b (inr later) (inl is) has has' =
      let le = behind o operands numbers h p later in
      let first = subst (λ (x : Operand). HasByte x b) (sym is) has' in
      let high = first.1 in
      let low = has.0 in absurd (omega (arith, le, high, low))
  one_a_byte (o ∷ operands) (Some n ∷ numbers) h p q b (inr later) (inr also) has has' = one_a_byte operands numbers (fewer o operands h) p q b later also has has'

-- ---- of a file

pub lists_new : (f : OneFile) (section : List ℕ) (operands : List ListOperand) (numbers : List (Option ℕ)) → HasNumbers f section operands numbers → EndIn (length section) operands
    → (out : List ℕ) → out ≡ with_numbers (rows_with operands numbers) (numbers_of operands numbers) section → out ≡ new_lists f
unfolding new_lists
lists_new f section operands numbers has end out is =
    is
    ∙ members_written (numbered operands numbers) (map (operand_after f) (in_lists f)) section has.same (one_a_byte f.file.raw operands numbers has.apart)
    (numbered_end (length section) operands numbers end)
    ∙ ap (with_operands (map (operand_after f) (in_lists f))) has.section_is
