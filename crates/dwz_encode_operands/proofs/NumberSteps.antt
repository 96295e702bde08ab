-- Operands get their new numbers one after the other.
use Rattle.std.proofs.Common.{◌≡◌, ℕ, ◌+◌, ◌<◌, ◌≤◌, false, List, [], ◌∷◌, ◌++◌, length, take, get_or, sym, subst}
use Rattle.std.proofs.lemmas.List.{take_all, take_more}
use Rattle.dwz_model.specs.declared.place.Base.TheVariants.{Unit as FromUnit}
use Rattle.dwz_def_tops.specs.Spots.{EntryName}
use Rattle.dwz_def_reading.specs.Documents.{Doc}
use Rattle.dwz_def_plan.specs.Moves.{Move}
use Rattle.dwz_graph.specs.ListOperand.{ListOperand}
use Rattle.dwz_encode_operands.specs.Operands.{AreNewNumbers, IsNewNumber}

-- what stands for an operand where there is none
abbrev pub no_operand : ListOperand
no_operand = record { at = 0; width = 0; uleb = false; unit = 0; base = FromUnit; entry = 0; place = record { file = 0; offset = 0 } }

module _ (docs : List (Doc ℕ)) (m : Move) (names : List EntryName) (places units_at : List ℕ) where
  abbrev Are : List ListOperand → List ℕ → Type 0
  Are = AreNewNumbers docs m names places units_at

  append : (operands : List ListOperand) (numbers : List ℕ) (o : ListOperand) (number : ℕ) → Are operands numbers → IsNewNumber docs m names places units_at o number
      → Are (operands ++ o ∷ []) (numbers ++ number ∷ [])
  append [] [] o number h k = (k, tt)
  append [] (n ∷ numbers) o number h k = absurd h
  append (e ∷ operands) [] o number h k = absurd h
  append (e ∷ operands) (n ∷ numbers) o number h k = (h.0, append operands numbers o number h.1 k)

  pub numbers_more : (operands : List ListOperand) (old new : List ℕ) (i number : ℕ) (d : ListOperand) → i < length operands → Are (take i operands) old
      → IsNewNumber docs m names places units_at (get_or operands i d) number → new ≡ old ++ number ∷ [] → Are (take (i + 1) operands) new
  numbers_more operands old new i number d lt h k is =
      subst (λ (w : List ListOperand). Are w new) (sym (take_more operands i d lt))
      (subst (λ (w : List ℕ). Are (take i operands ++ get_or operands i d ∷ []) w) (sym is) (append (take i operands) old (get_or operands i d) number h k))

  pub numbers_all : (operands : List ListOperand) (numbers : List ℕ) (i : ℕ) → length operands ≤ i → Are (take i operands) numbers → Are operands numbers
  numbers_all operands numbers i le h = subst (λ (w : List ListOperand). Are w numbers) (take_all i operands le) h
