-- The row, the tops and the spaces of one of several units, by how many units, tops and spaces there are before it.
use Rattle.std.proofs.Common.{◌≡◌, ℕ, suc, ◌+◌, Bool, true, false, List, [], ◌∷◌, ◌++◌, length, ◌==◌, refl, sym, ap, subst, ◌∙◌, arith}
use Rattle.std.proofs.lemmas.Bool.{eq-eqb, eqb-true}
use Rattle.std.proofs.lemmas.List.{append_assoc}
use Rattle.dwz_def_reading.specs.Documents.{Node}
use Rattle.dwz_def_reading.specs.Lists.{Each}
use Rattle.dwz_def_tops.proofs.Members.{each_split}
use Rattle.dwz_def_tops.specs.Spots.{EntryName, FileUnit, Row, Top, row_below, row_from, row_tops, rows_of_root, top_count, tops_from, tops_of}
use Rattle.dwz_layout_order.specs.Shown.{tops_in}
use Rattle.dwz_layout_order.specs.Spaces.{Numbered, spaces_below, spaces_of}
use Rattle.dwz_layout_order.proofs.RowLemmas.{numbered_split}

same_number : (n : ℕ) → (n == n) ≡ true
same_number n = eq-eqb n n refl

pub tops_append : (before after : List (FileUnit EntryName)) → tops_in (before ++ after) ≡ tops_in before + tops_in after
unfolding tops_in
tops_append [] after = omega arith
tops_append (f ∷ before) after = omega (arith, tops_append before after)

pub spaces_append : (before after : List (FileUnit EntryName)) → spaces_of (before ++ after) ≡ spaces_of before ++ spaces_of after
unfolding spaces_of
spaces_append [] after = refl
spaces_append (f ∷ before) after = ap (λ (w : List (Node EntryName)). spaces_below f.unit.kind f.unit.below ++ w) (spaces_append before after)
    ∙ sym (append_assoc (spaces_below f.unit.kind f.unit.below) (spaces_of before) (spaces_of after))

-- the row of the unit behind those before it
row_behind : (unit n : ℕ) (before : List (FileUnit EntryName)) (f : FileUnit EntryName) (after : List (FileUnit EntryName))
    → row_from unit n (before ++ f ∷ after) (unit + length before) ≡ row_below f.file (unit + length before) (n + tops_in before) f.unit f.unit.kind
unfolding row_from tops_in
row_behind unit n [] f after =
    let same : unit + 0 ≡ unit = omega arith in
    let none : n + 0 ≡ n = omega arith in
    (λ i. row_from unit n (f ∷ after) (same i)) ∙ here (unit == unit) (same_number unit) ∙ (λ i. row_below f.file (sym same i) (sym none i) f.unit f.unit.kind)
  where
    here : (b : Bool) → b ≡ true → (elim b as (λ _. Row) [ true ↦ row_below f.file unit n f.unit f.unit.kind | false ↦ row_from (suc unit) (n + top_count f.unit.kind f.unit.below) after unit ])
        ≡ row_below f.file unit n f.unit f.unit.kind
    here true e = refl
    here false e = absurd cc
row_behind unit n (g ∷ before) f after =
    let next : unit + suc (length before) ≡ suc unit + length before = omega arith in
    let count : n + top_count g.unit.kind g.unit.below + tops_in before ≡ n + (top_count g.unit.kind g.unit.below + tops_in before) = omega arith in
    there (unit == unit + suc (length before)) (other (unit == unit + suc (length before)) refl)
    ∙ ap (row_from (suc unit) (n + top_count g.unit.kind g.unit.below) (before ++ f ∷ after)) next
    ∙ row_behind (suc unit) (n + top_count g.unit.kind g.unit.below) before f after
    ∙ (λ i. row_below f.file (sym next i) (count i) f.unit f.unit.kind)
  where
    other : (b : Bool) → (unit == unit + suc (length before)) ≡ b → b ≡ false
    other false e = refl
    other true e = absurd (let same = eqb-true unit (unit + suc (length before)) e in omega (arith, same))

    rest : Row
    rest = row_from (suc unit) (n + top_count g.unit.kind g.unit.below) (before ++ f ∷ after) (unit + suc (length before))

    there : (b : Bool) → b ≡ false → (elim b as (λ _. Row) [ true ↦ row_below g.file unit n g.unit g.unit.kind | false ↦ rest ]) ≡ rest
    there false e = refl
    there true e = absurd cc

pub row_at : (before : List (FileUnit EntryName)) (f : FileUnit EntryName) (after : List (FileUnit EntryName))
    → rows_of_root (before ++ f ∷ after) (length before) ≡ row_below f.file (length before) (tops_in before) f.unit f.unit.kind
row_at before f after =
    let none : 0 + length before ≡ length before = omega arith in
    let same : 0 + tops_in before ≡ tops_in before = omega arith in
    ap (row_from 0 0 (before ++ f ∷ after)) (sym none) ∙ row_behind 0 0 before f after ∙ (λ i. row_below f.file (none i) (same i) f.unit f.unit.kind)

-- what holds of all tops holds of those of the unit
pub tops_behind : (P : Top → Type 0) (unit n : ℕ) (before : List (FileUnit EntryName)) (f : FileUnit EntryName) (after : List (FileUnit EntryName)) → Each P (tops_from unit n (before ++ f ∷ after))
    → Each P (row_tops (row_below f.file (unit + length before) (n + tops_in before) f.unit f.unit.kind))
unfolding tops_from tops_in
tops_behind P unit n [] f after h =
    let same : unit ≡ unit + 0 = omega arith in
    let none : n ≡ n + 0 = omega arith in
    subst (λ (r : Row). Each P (row_tops r)) (λ i. row_below f.file (same i) (none i) f.unit f.unit.kind)
    (each_split P (row_tops (row_below f.file unit n f.unit f.unit.kind)) (tops_from (suc unit) (n + top_count f.unit.kind f.unit.below) after) h).0
tops_behind P unit n (g ∷ before) f after h =
    let next : suc unit + length before ≡ unit + suc (length before) = omega arith in
    let count : n + top_count g.unit.kind g.unit.below + tops_in before ≡ n + (top_count g.unit.kind g.unit.below + tops_in before) = omega arith in
    subst (λ (r : Row). Each P (row_tops r)) (λ i. row_below f.file (next i) (count i) f.unit f.unit.kind)
    (tops_behind P (suc unit) (n + top_count g.unit.kind g.unit.below) before f after
    (each_split P (row_tops (row_below g.file unit n g.unit g.unit.kind)) (tops_from (suc unit) (n + top_count g.unit.kind g.unit.below) (before ++ f ∷ after)) h).1)

pub tops_there : (P : Top → Type 0) (before : List (FileUnit EntryName)) (f : FileUnit EntryName) (after : List (FileUnit EntryName)) → Each P (tops_of (before ++ f ∷ after))
    → Each P (row_tops (row_below f.file (length before) (tops_in before) f.unit f.unit.kind))
tops_there P before f after h =
    let none : 0 + length before ≡ length before = omega arith in
    let same : 0 + tops_in before ≡ tops_in before = omega arith in
    subst (λ (r : Row). Each P (row_tops r)) (λ i. row_below f.file (none i) (same i) f.unit f.unit.kind) (tops_behind P 0 0 before f after h)

-- and so do spaces
pub spaces_there : (P : ℕ → Node EntryName → Type 0) (before : List (FileUnit EntryName)) (f : FileUnit EntryName) (after : List (FileUnit EntryName)) → Numbered P 0 (spaces_of (before ++ f ∷ after))
    → Numbered P (length (spaces_of before)) (spaces_below f.unit.kind f.unit.below)
unfolding spaces_of
spaces_there P before f after h =
    let own = spaces_below f.unit.kind f.unit.below in
    let parted = subst (Numbered P 0) (spaces_append before (f ∷ after)) h in
    let behind = (numbered_split P 0 (spaces_of before) (own ++ spaces_of after) parted).1 in
    let none : 0 + length (spaces_of before) ≡ length (spaces_of before) = omega arith in
    subst (λ (n : ℕ). Numbered P n own) none (numbered_split P (0 + length (spaces_of before)) own (spaces_of after) behind).0
