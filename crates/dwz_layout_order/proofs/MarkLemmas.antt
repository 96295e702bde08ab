-- What is known of the first tops.
use Rattle.std.proofs.Common.{◌≡◌, ℕ, zero, suc, ◌+◌, ◌<◌, List, [], ◌∷◌, ◌++◌, length, get_or, inl, inr, sym, ap, ◌∙◌, arith}
use Rattle.std.proofs.lemmas.Bool.Decides.{eqb_tells}
use Rattle.std.proofs.lemmas.List.{get_or_append_left, get_or_push, length-append}
use Rattle.dwz_groups.specs.declared.tops.TopRow.{TopRow}
use Rattle.dwz_plan.specs.declared.plan.Home.{Home}
use Rattle.dwz_layout_order.specs.declared.marks.TopMark.{TopMark}
use Rattle.dwz_layout_order.specs.Marks.{mark_at, mark_of, no_mark, pinned_row}

-- of the first n
pub record AreMarks (rows : List TopRow) (homes : List Home) (n : ℕ) (marks : List TopMark) : Type 0 where
  pub len : length marks ≡ n
  pub each : (k : ℕ) → k < n → mark_at marks k ≡ mark_of rows homes k

pub pinned_there : (rows : List TopRow) (n : ℕ) (row : TopRow) → n < length rows → row ≡ get_or rows n row → row.pinned ≡ pinned_row rows n
pinned_there [] n row lt e = absurd (omega arith)
pinned_there (x ∷ rows) zero row lt e = ap (λ (w : TopRow). w.pinned) e
pinned_there (x ∷ rows) (suc n) row lt e = pinned_there rows n row (omega arith) e

pub marks_more : (rows : List TopRow) (homes : List Home) (n : ℕ) (marks new : List TopMark) (x : TopMark) → AreMarks rows homes n marks → new ≡ marks ++ x ∷ [] → x ≡ mark_of rows homes n
    → AreMarks rows homes (n + 1) new
marks_more rows homes n marks new x h put is = record {
  len = (let long = ap (λ (w : List TopMark). length w) put in let one = length-append marks (x ∷ []) in let len = h.len in omega arith);
  each = λ k lt. elim (eqb_tells k n) [
    | inl p ↦ (λ i. mark_at (put i) (p.1 i)) ∙ get_or_push marks x no_mark n h.len ∙ is ∙ ap (mark_of rows homes) (sym p.1)
    | inr p ↦ (let differ = p.1 in let len = h.len in ap (λ (w : List TopMark). mark_at w k) put ∙ get_or_append_left marks (x ∷ []) no_mark k (omega arith) ∙ h.each k (omega arith))
  ];
}
