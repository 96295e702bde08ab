-- Flags are set in rows one after the other.
use Rattle.std.proofs.Common.{◌≡◌, ℕ, zero, suc, ◌+◌, ◌<◌, ◌≤◌, Bool, List, [], ◌∷◌, ◌++◌, length, get_or, set, take, drop, refl, ap, ◌∙◌, arith}
use Rattle.std.proofs.lemmas.List.{append-nil, drop_all, take_all}
use Rattle.dwz_groups.specs.declared.tops.TopRow.{TopRow}
use Rattle.dwz_move_files.specs.Rows.{with_flags}

-- the first so many rows have their flags
abbrev pub flagged : List TopRow → List Bool → ℕ → List TopRow
flagged rows flags k = with_flags (take k rows) (take k flags) ++ drop k rows

one_flag : (rows : List TopRow) (flags : List Bool) (k : ℕ) (d : TopRow) (e : Bool) → k < length rows → k < length flags
    → set (flagged rows flags k) k (record (get_or (flagged rows flags k) k d) { movable = get_or flags k e }) ≡ flagged rows flags (suc k)
unfolding with_flags
one_flag [] flags k d e lt le = absurd (omega arith)
one_flag (r ∷ rows) [] k d e lt le = absurd (omega arith)
one_flag (r ∷ rows) (f ∷ flags) zero d e lt le = refl
one_flag (r ∷ rows) (f ∷ flags) (suc k) d e lt le = ap (λ (w : List TopRow). record r { movable = f } ∷ w) (one_flag rows flags k d e (omega arith) (omega arith))

pub none_flagged : (rows : List TopRow) (flags : List Bool) → rows ≡ flagged rows flags 0
unfolding with_flags
none_flagged rows flags = refl

pub flag_more : (rows : List TopRow) (flags : List Bool) (k : ℕ) (d : TopRow) (e : Bool) (now : List TopRow) → k < length rows → k < length flags → now ≡ flagged rows flags k
    → set now k (record (get_or now k d) { movable = get_or flags k e }) ≡ flagged rows flags (k + 1)
flag_more rows flags k d e now lt le is =
    let one : suc k ≡ k + 1 = omega arith in
    (λ i. set (is i) k (record (get_or (is i) k d) { movable = get_or flags k e }))
    ∙ one_flag rows flags k d e lt le
    ∙ ap (flagged rows flags) one

pub all_flagged : (rows : List TopRow) (flags : List Bool) (k : ℕ) → length rows ≤ k → length flags ≤ k → flagged rows flags k ≡ with_flags rows flags
all_flagged rows flags k le lf = (λ i. with_flags (take_all k rows le i) (take_all k flags lf i) ++ drop_all k rows le i) ∙ append-nil (with_flags rows flags)
