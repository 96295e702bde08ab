-- Where no operand is the first that is too narrow, none is.
use Rattle.std.proofs.Common.{◌⊎◌, ℕ, ◌^◌, ◌≤◌, Bool, true, false, List, [], ◌∷◌, refl, subst, inl, inr, arith}
use Rattle.std.proofs.lemmas.Bool.{cases_lt}
use Rattle.dwz_def_reading.specs.Lists.{In}
use Rattle.dwz_def_reading.specs.Shared.{ListOperand}
use Rattle.dwz_def_encoding.specs.Fitting.{FitsWidth}
use Rattle.dwz_def_readback.specs.Files.{Run, CommonFile}
use Rattle.dwz_def_output.specs.Refusals.{IsOver, narrow_at, FirstNarrowBy, IsNarrowBy}
use Rattle.dwz_def_output.proofs.FreeLemmas.{Nothing}
use Rattle.dwz_def_output.specs.Contents.{operand_number_after_by}

fits_or_not : (uleb : Bool) (width number : ℕ) → FitsWidth uleb width number ⊎ IsOver uleb width number
fits_or_not true width number = cases_lt number (128 ^ width)
fits_or_not false width number = cases_lt number (256 ^ width)

not_both : (uleb : Bool) (width number : ℕ) → FitsWidth uleb width number → IsOver uleb width number → ⊥
not_both true width number fits over = omega (arith, fits, over)
not_both false width number fits over = omega (arith, fits, over)

module _ (cf : CommonFile) (r : Run) (file : ℕ) where
  abbrev pub Fits : ListOperand → Type 0
  Fits o = FitsWidth o.operand.uleb o.operand.width (operand_number_after_by cf r file o)

  -- the narrow one with the least place
  pub record Least (os : List ListOperand) : Type 0 where
    pub operand : ListOperand
    pub there : In operand os
    pub narrow : IsNarrowBy cf r file operand
    pub least : (o : ListOperand) → In o os → IsNarrowBy cf r file o → operand.operand.at ≤ o.operand.at

  pub not_narrow : (o : ListOperand) → Fits o → IsNarrowBy cf r file o → ⊥
  not_narrow o fits over = not_both o.operand.uleb o.operand.width (operand_number_after_by cf r file o) fits over

  pub least_of : (os : List ListOperand) → ((o : ListOperand) → In o os → Fits o) ⊎ Least os
  least_of [] = inl (λ o there. absurd there)
  least_of (o ∷ os) = by (fits_or_not o.operand.uleb o.operand.width (operand_number_after_by cf r file o)) (least_of os) where
    by : Fits o ⊎ IsNarrowBy cf r file o → ((p : ListOperand) → In p os → Fits p) ⊎ Least os → ((p : ListOperand) → In p (o ∷ os) → Fits p) ⊎ Least (o ∷ os)
    by (inl fits) (inl rest) = inl (λ p there. elim there [ inl same ↦ subst Fits same fits | inr later ↦ rest p later ])
    by (inl fits) (inr l) = inr (record {
      operand = l.operand;
      there = inr l.there;
      narrow = l.narrow;
      least = λ p there narrow. elim there [ inl same ↦ absurd (not_narrow p (subst Fits same fits) narrow) | inr later ↦ l.least p later narrow ];
    })
    by (inr over) (inl rest) = inr (record {
      operand = o;
      there = inl refl;
      narrow = over;
      least = λ p there narrow. elim there [ inl same ↦ subst (λ (x : ListOperand). o.operand.at ≤ x.operand.at) same (omega arith) | inr later ↦ absurd (not_narrow p (rest p later) narrow) ];
    })
    by (inr over) (inr l) = elim (cases_lt o.operand.at l.operand.operand.at) [
      | inl less ↦ inr (record {
        operand = o;
        there = inl refl;
        narrow = over;
        least = λ p there narrow. elim there [
          | inl same ↦ subst (λ (x : ListOperand). o.operand.at ≤ x.operand.at) same (omega arith)
          | inr later ↦ (let le = l.least p later narrow in omega (arith, less, le))
        ];
      })
      | inr le ↦ inr (record {
        operand = l.operand;
        there = inr l.there;
        narrow = l.narrow;
        least = λ p there narrow. elim there [ inl same ↦ subst (λ (x : ListOperand). l.operand.operand.at ≤ x.operand.at) same le | inr later ↦ l.least p later narrow ];
      })
    ]

  pub all_fit : (section : ℕ) (os : List ListOperand) → Nothing (FirstNarrowBy cf r file section os) → (o : ListOperand) → In o os → Fits o
  all_fit section os free o there = elim (least_of os) [
    | inl fit ↦ fit o there
    | inr l ↦ absurd (free (narrow_at section l.operand.operand.at) (record { operand = l.operand; there = l.there; narrow = l.narrow; least = l.least; fault = refl }))
  ]
