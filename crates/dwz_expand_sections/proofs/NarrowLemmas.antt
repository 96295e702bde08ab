-- The first place of operands, with one operand more; and the first of a file that is too narrow.
use Rattle.std.proofs.Common.{◌≡◌, ◌↔◌, ℕ, suc, ◌+◌, ◌-◌, ◌*◌, ◌/◌, ◌^◌, ◌<◌, ◌≤◌, min, List, [], ◌∷◌, ◌++◌, map, Option, Some, None, refl, sym}
use Rattle.std.proofs.Common.{ap, subst, ◌∙◌, inl, inr, arith}
use Rattle.std.proofs.lemmas.Bool.{cases_lt}
use Rattle.std.proofs.Math.Nat.{le-div_iff_mul-le, pow-suc, pow-zero}
use Rattle.dwz_model.specs.declared.fault.Fault.{Fault}
use Rattle.dwz_model.proofs.ListFacts.{in_cases, in_left, in_map, in_right}
use Rattle.dwz_model.proofs.Members.{in_map_from}
use Rattle.dwz_def_reading.specs.declared.exprs.Operand.{Operand}
use Rattle.dwz_def_output.specs.NewFiles.{IsFound}
use Rattle.dwz_def_output.specs.Refusals.{narrow_at}
use Rattle.dwz_def_expand.specs.OneFile.{OneFile}
use Rattle.dwz_def_expand.specs.Output.{FirstTooNarrow, Spoken}
use Rattle.dwz_expand_sections.specs.Narrow.{FirstPlace, IsFirst, IsNarrow, operand_after}

-- ---- digits

-- what is left of a number has as many digits more than are left as the number has more than all
abbrev pub Left : (radix count number k rest : ℕ) → Type 0
Left radix count number k rest = (radix ^ (count - k) ≤ rest) ↔ (radix ^ count ≤ number)

pub digit_less : (radix count number k rest : ℕ) → 0 < radix → k < count → Left radix count number k rest → Left radix count number (k + 1) (rest / radix)
digit_less radix count number k rest some lt h =
    let n = count - (k + 1) in
    let one : count - k ≡ suc n = omega arith in
    let power : radix ^ (count - k) ≡ radix ^ n * radix = ap (λ (e : ℕ). radix ^ e) one ∙ pow-suc radix n in
    let both = le-div_iff_mul-le {k = radix} {x = radix ^ n} {y = rest} some in
    (λ le. h.0 (let m = both.0 le in omega (arith, m, power)), λ le. both.1 (let m = h.1 le in omega (arith, m, power)))

pub digits_done : (radix count number k rest : ℕ) → count ≤ k → Left radix count number k rest → (0 < rest) ↔ (radix ^ count ≤ number)
digits_done radix count number k rest le h =
    let none : count - k ≡ 0 = omega arith in
    let one : radix ^ (count - k) ≡ 1 = ap (λ (e : ℕ). radix ^ e) none ∙ pow-zero radix in
    (λ some. h.0 (omega (arith, some, one)), λ more. (let m = h.1 more in omega (arith, m, one)))

-- ---- one operand more

pub keeps_first : (noted : List Operand) (first : Option ℕ) (o : Operand) → ¬ IsNarrow o → FirstPlace noted first → FirstPlace (noted ++ o ∷ []) first
keeps_first noted None o fits h = λ p there narrow. elim (in_cases p noted (o ∷ []) there) [
  | inl old ↦ h p old narrow
  | inr new ↦ elim new [ inl same ↦ fits (subst IsNarrow (sym same) narrow) | inr never ↦ never ]
]
keeps_first noted (Some at) o fits h = record {
  one = h.one;
  there = in_left h.one noted (o ∷ []) h.there;
  narrow = h.narrow;
  least = λ p there narrow. elim (in_cases p noted (o ∷ []) there) [
    | inl old ↦ h.least p old narrow
    | inr new ↦ elim new [ inl same ↦ absurd (fits (subst IsNarrow (sym same) narrow)) | inr never ↦ absurd never ]
  ];
  stands = h.stands;
}

pub is_first : (noted : List Operand) (o : Operand) → IsNarrow o → FirstPlace noted None → FirstPlace (noted ++ o ∷ []) (Some o.at)
is_first noted o narrow h = record {
  one = o;
  there = in_right o noted (o ∷ []) (inl refl);
  narrow = narrow;
  least = λ p there over. elim (in_cases p noted (o ∷ []) there) [
    | inl old ↦ absurd (h p old over)
    | inr new ↦ elim new [ inl same ↦ (let e : o.at ≡ p.at = ap (λ (x : Operand). x.at) same in omega (arith, e)) | inr never ↦ absurd never ]
  ];
  stands = refl;
}

pub is_least : (noted : List Operand) (o : Operand) (at : ℕ) → IsNarrow o → IsFirst noted at → FirstPlace (noted ++ o ∷ []) (Some (min at o.at))
is_least noted o at narrow h = elim (cases_lt o.at at) [
  | inl less ↦ record {
    one = o;
    there = in_right o noted (o ∷ []) (inl refl);
    narrow = narrow;
    least = λ p there over. elim (in_cases p noted (o ∷ []) there) [
      | inl old ↦ (let le = h.least p old over in let stands = h.stands in omega (arith, le, less, stands))
      | inr new ↦ elim new [ inl same ↦ (let e : o.at ≡ p.at = ap (λ (x : Operand). x.at) same in omega (arith, e)) | inr never ↦ absurd never ]
    ];
    stands = omega (arith, less);
  }
  | inr more ↦ record {
    one = h.one;
    there = in_left h.one noted (o ∷ []) h.there;
    narrow = h.narrow;
    least = λ p there over. elim (in_cases p noted (o ∷ []) there) [
      | inl old ↦ h.least p old over
      | inr new ↦ elim new [
        | inl same ↦ (let e : o.at ≡ p.at = ap (λ (x : Operand). x.at) same in let stands = h.stands in omega (arith, e, more, stands))
        | inr never ↦ absurd never
      ]
    ];
    stands = (let stands = h.stands in omega (arith, more, stands));
  }
]

-- ---- of a file

pub found_narrow : (f : OneFile) (section : ℕ) (spoken : List Spoken) (at : ℕ) (fault : Fault) → fault ≡ narrow_at section at → IsFirst (map (operand_after f) spoken) at
    → FirstTooNarrow f section spoken fault
found_narrow f section spoken at fault is h =
    let o = in_map_from (operand_after f) h.one spoken h.there in
    record {
      one = o.source;
      there = o.there;
      narrow = subst IsNarrow (sym o.is) h.narrow;
      least = λ p there over.
          (let le = h.least (operand_after f p) (in_map (operand_after f) p spoken there) over in
          let same : o.source.operand.at ≡ h.one.at = ap (λ (x : Operand). x.at) o.is in omega (arith, le, same));
      is_fault = is ∙ ap (narrow_at section) (h.stands ∙ sym (ap (λ (x : Operand). x.at) o.is));
    }

pub none_narrow : (f : OneFile) (section : ℕ) (spoken : List Spoken) → FirstPlace (map (operand_after f) spoken) None → IsFound (FirstTooNarrow f section spoken) None
none_narrow f section spoken h x has = h (operand_after f has.one) (in_map (operand_after f) has.one spoken has.there) has.narrow
