-- What units take, one after the other.
use Rattle.std.proofs.Common.{◌≡◌, ◌⊎◌, ℕ, zero, suc, ◌+◌, ◌<◌, ◌≤◌, Bool, false, List, [], ◌∷◌, ◌++◌, length, get_or, replicate, filter, refl, sym, ap, subst, ◌∙◌, inl, inr, ⊎_elim, arith, length-append}
use Rattle.std.proofs.lemmas.Bool.{false≢true}
use Rattle.dwz_model.specs.Lists.{In, Rising}
use Rattle.dwz_model.proofs.Members.{in_filter, in_filter_from, pair_filter}
use Rattle.dwz_groups.proofs.MarkLemmas.{inside_at}
use Rattle.dwz_takes.specs.declared.rows.Rows.{Rows}
use Rattle.dwz_takes.specs.Steps.{AreClear, AreTakenMarks}
use Rattle.dwz_takes.specs.Takes.{AreTaken, AreTakes, FitsIn, TakesPart, list_at}
use Rattle.dwz_takes.proofs.MissFacts.{takes_fits}

pub clear_new : (n : ℕ) → AreClear (replicate n false)
clear_new zero k h = false≢true h
clear_new (suc n) zero h = false≢true h
clear_new (suc n) (suc k) h = clear_new n k h

-- those that fit and are still marked
pub taken_by_marks : (rows : Rows) (u : ℕ) (fits : List ℕ) (flags : List Bool) → ((p : ℕ) → (In p fits → FitsIn rows u p) × (FitsIn rows u p → In p fits)) → Rising fits → AreTakenMarks rows u flags
    → AreTaken rows u (filter (λ (n : ℕ). get_or flags n false) fits)
taken_by_marks rows u fits flags each rising marks = record {
  each = λ p. (
    λ i. (marks p).0 (in_filter_from (λ (n : ℕ). get_or flags n false) p fits i).1,
    λ t. in_filter (λ (n : ℕ). get_or flags n false) p fits ((each p).1 (takes_fits rows u p t)) ((marks p).1 t),
  );
  rising = pair_filter (λ m n. m < n) (λ (n : ℕ). get_or flags n false) fits rising;
}

-- ---- a stretch of units, as far as it was gone through

pub record AreTakenFrom (rows : Rows) (from unit : ℕ) (classes names parts : List Bool) (lists : List (List ℕ)) : Type 0 where
  pub classes_len : length classes ≡ length rows.classes
  pub names_len : length names ≡ rows.names
  pub parts_len : length parts ≡ length rows.part_tops
  pub classes_clear : AreClear classes
  pub names_clear : AreClear names
  pub parts_clear : AreClear parts
  pub len : length lists + from ≡ unit
  pub each : (i : ℕ) → i < length lists → AreTaken rows (from + i) (get_or lists i [])

last_one : (lists : List (List ℕ)) (xs : List ℕ) (i : ℕ) → i < length (lists ++ xs ∷ []) → (i < length lists) × (get_or (lists ++ xs ∷ []) i [] ≡ get_or lists i []) ⊎ (i ≡ length lists) × (get_or (lists ++ xs ∷ []) i [] ≡ xs)
last_one [] xs zero l = inr (refl, refl)
last_one [] xs (suc i) l = absurd (omega arith)
last_one (ys ∷ lists) xs zero l = inl (omega arith, refl)
last_one (ys ∷ lists) xs (suc i) l = ⊎_elim
    (λ (r : (i < length lists) × (get_or (lists ++ xs ∷ []) i [] ≡ get_or lists i [])). let low = r.0 in inl (omega arith, r.1))
    (λ (r : (i ≡ length lists) × (get_or (lists ++ xs ∷ []) i [] ≡ xs)). inr (ap suc r.0, r.1))
    (last_one lists xs i (omega arith))

pub taken_next : (rows : Rows) (from unit : ℕ) (lists : List (List ℕ)) (xs : List ℕ) → length lists + from ≡ unit → ((i : ℕ) → i < length lists → AreTaken rows (from + i) (get_or lists i [])) → AreTaken rows unit xs
    → (i : ℕ) → i < length (lists ++ xs ∷ []) → AreTaken rows (from + i) (get_or (lists ++ xs ∷ []) i [])
taken_next rows from unit lists xs len h t i l = ⊎_elim
    (λ (r : (i < length lists) × (get_or (lists ++ xs ∷ []) i [] ≡ get_or lists i [])). subst (λ (ys : List ℕ). AreTaken rows (from + i) ys) (sym r.1) (h i r.0))
    (λ (r : (i ≡ length lists) × (get_or (lists ++ xs ∷ []) i [] ≡ xs)).
    let at = r.0 in
    let e : unit ≡ from + i = omega arith in
    subst (λ (ys : List ℕ). AreTaken rows (from + i) ys) (sym r.1) (subst (λ (n : ℕ). AreTaken rows n xs) e t))
    (last_one lists xs i l)

-- what no unit is takes nothing
pub takes_inside : (rows : Rows) (u p : ℕ) → TakesPart rows u p → u < length rows.unit_tops
takes_inside rows u p t = let f = takes_fits rows u p t in let h = f.tops f.some.0 f.some.1 in inside_at rows.unit_tops u h.0 h.1

pub takes_by : (rows : Rows) (lists : List (List ℕ)) → length lists ≡ length rows.unit_tops → ((i : ℕ) → i < length lists → AreTaken rows i (get_or lists i [])) → AreTakes rows lists
takes_by rows lists len h = record {
  len = len;
  each = λ u p. (λ i. ((h u (inside_at lists u p i)).each p).0 i, λ t. ((h u (let low = takes_inside rows u p t in omega arith)).each p).1 t);
  rising = λ u. ⊎_elim (λ (l : u < length lists). (h u l).rising) (λ (l : length lists ≤ u). subst Rising (sym (behind lists u l)) tt) (let P : Type 0 = (u < length lists) ⊎ (length lists ≤ u) in let r : P = grind arith in r);
}
  where
    behind : (xs : List (List ℕ)) (n : ℕ) → length xs ≤ n → get_or xs n [] ≡ []
    behind [] n l = refl
    behind (x ∷ xs) zero l = absurd (omega arith)
    behind (x ∷ xs) (suc n) l = behind xs n (omega arith)

pub fits_low : (rows : Rows) (u p : ℕ) → FitsIn rows u p → p < length rows.part_tops
fits_low rows u p f = inside_at rows.part_tops p f.some.0 f.some.1

pub taken_step : (rows : Rows) (from unit : ℕ) (classes names parts classes' names' parts' : List Bool) (lists : List (List ℕ)) (xs : List ℕ) → AreTakenFrom rows from unit classes names parts lists
    → length classes' ≡ length classes → length names' ≡ length names → length parts' ≡ length parts → AreClear classes' → AreClear names' → AreClear parts' → AreTaken rows unit xs
    → AreTakenFrom rows from (unit + 1) classes' names' parts' (lists ++ xs ∷ [])
taken_step rows from unit classes names parts classes' names' parts' lists xs h cl nl pl cc nc pc t = record {
  classes_len = cl ∙ h.classes_len;
  names_len = nl ∙ h.names_len;
  parts_len = pl ∙ h.parts_len;
  classes_clear = cc;
  names_clear = nc;
  parts_clear = pc;
  len = (let a = length-append lists (xs ∷ []) in let l = h.len in omega arith);
  each = taken_next rows from unit lists xs h.len h.each t;
}

at_default : (lists : List (List ℕ)) (n : ℕ) (xs : List ℕ) → n < length lists → get_or lists n xs ≡ list_at lists n
at_default [] n xs l = absurd (omega arith)
at_default (y ∷ lists) zero xs l = refl
at_default (y ∷ lists) (suc n) xs l = at_default lists n xs (omega arith)

-- what stands at a unit's number is what it takes
pub taken_at : (rows : Rows) (lists : List (List ℕ)) (u : ℕ) (xs : List ℕ) → AreTakes rows lists → u < length lists → xs ≡ get_or lists u xs → AreTaken rows u xs
taken_at rows lists u xs t l e = subst (λ (ys : List ℕ). AreTaken rows u ys) (sym (e ∙ at_default lists u xs l)) (record { each = t.each u; rising = t.rising u })
