-- The look into a table.
use Rattle.std.proofs.Common.{◌≡◌, ℕ, ◌+◌, ◌≤◌, List, [], ◌∷◌, Some, None, refl, sym, ap, ◌∙◌, ◌⊎◌, cond, ltb, eqb, false, true, Bool, arith}
use Rattle.std.proofs.lemmas.Bool.{ltb-false, eqb-true, eq-eqb}
use Rattle.std.proofs.Math.Logic.{inl, inr}
use Rattle.dwz_codes.specs.Rows.{HaveOwnCodes, IsRow, RowView, ascends, row_of}

chosen : {A : Type 0} (b : Bool) (x y z : A) → cond b x y ≡ z → ((b ≡ true) × (x ≡ z)) ⊎ ((b ≡ false) × (y ≡ z))
chosen true x y z e = inl (refl, e)
chosen false x y z e = inr (refl, e)

pub found : (rows : List RowView) (code : ℕ) (r : RowView) → row_of rows code ≡ Some r → IsRow r rows × (r.code ≡ code)
found [] code r e = absurd cc
found (s ∷ rows) code r e =
    elim (chosen (eqb s.code code) (Some s) (row_of rows code) (Some r) e) [
      | inl p ↦
          let same : s ≡ r = cc in
          (inl same, ap (λ (q : RowView). q.code) (sym same) ∙ eqb-true s.code code p.0)
      | inr p ↦ let t = found rows code r p.1 in (inr t.0, t.1)
    ]

pub none : (rows : List RowView) (code : ℕ) → row_of rows code ≡ None → (r : RowView) → IsRow r rows → r.code ≡ code → ⊥
none [] code e r is = absurd is
none (s ∷ rows) code e r is =
    elim (chosen (eqb s.code code) (Some s) (row_of rows code) None e) [
      | inl p ↦ absurd cc
      | inr p ↦ λ h. elim is [
        | inl same ↦
            let test : eqb s.code code ≡ true = eq-eqb s.code code (ap (λ (q : RowView). q.code) same ∙ h) in
            absurd cc
        | inr more ↦ none rows code p.1 r more h
      ]
    ]

-- every row that follows has a code that is at least so much
at_least : (least : ℕ) (rows : List RowView) → ascends least rows ≡ true → (r : RowView) → IsRow r rows → least ≤ r.code
at_least least [] e r is = absurd is
at_least least (s ∷ rows) e r is =
    elim (chosen (ltb s.code least) false (ascends (s.code + 1) rows) true e) [
      | inl p ↦ absurd cc
      | inr p ↦ elim is [
        | inl same ↦ let le : least ≤ s.code = ltb-false _ _ p.0 in let code : s.code ≡ r.code = ap (λ (q : RowView). q.code) same in omega arith
        | inr more ↦ let le : least ≤ s.code = ltb-false _ _ p.0 in let above = at_least (s.code + 1) rows p.1 r more in omega arith
      ]
    ]

different : (least : ℕ) (rows : List RowView) → ascends least rows ≡ true → HaveOwnCodes rows
different least [] e r s p q same = absurd p
different least (t ∷ rows) e r s p q same =
    elim (chosen (ltb t.code least) false (ascends (t.code + 1) rows) true e) [
      | inl h ↦ absurd cc
      | inr h ↦ elim p [
        | inl first ↦ elim q [
          | inl also ↦ sym first ∙ also
          | inr behind ↦ let above = at_least (t.code + 1) rows h.1 s behind in let code : t.code ≡ r.code = ap (λ (w : RowView). w.code) first in absurd (omega arith)
        ]
        | inr later ↦ elim q [
          | inl also ↦ let above = at_least (t.code + 1) rows h.1 r later in let code : t.code ≡ s.code = ap (λ (w : RowView). w.code) also in absurd (omega arith)
          | inr behind ↦ different (t.code + 1) rows h.1 r s later behind same
        ]
      ]
    ]

pub ascending_different : (rows : List RowView) → ascends 0 rows ≡ true → HaveOwnCodes rows
ascending_different rows e = different 0 rows e
