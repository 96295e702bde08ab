-- Numbers that are written one after the other: what is written, and what is left.
use Rattle.std.proofs.Common.{◌≡◌, ℕ, ◌+◌, ◌<◌, List, ◌++◌, length, drop, get_or, refl, append_assoc, ◌≤◌, [], sym, ◌∙◌}
use Rattle.std.proofs.lemmas.List.{append-nil, drop_all, drop_more}
use Rattle.dwz_bytes.specs.Spelling.{le_bytes}
use Rattle.dwz_def_reading.specs.ElfLayout.{numbers}

pub one_number : (fields : List (ℕ × ℕ)) (i : ℕ) (d : ℕ × ℕ) (old new all : List ℕ) → i < length fields → new ≡ old ++ le_bytes (get_or fields i d).0 (get_or fields i d).1
    → old ++ numbers (drop i fields) ≡ all → new ++ numbers (drop (i + 1) fields) ≡ all
unfolding numbers
one_number fields i d old new all less is so_far =
    let parts : numbers (drop i fields) ≡ le_bytes (get_or fields i d).0 (get_or fields i d).1 ++ numbers (drop (i + 1) fields) = rw (drop_more fields i d less) refl in
    rw (is, append_assoc, ← parts) so_far

pub all_numbers : (fields : List (ℕ × ℕ)) (i : ℕ) (old all : List ℕ) → length fields ≤ i → old ++ numbers (drop i fields) ≡ all → old ≡ all
unfolding numbers
all_numbers fields i old all done so_far =
    let none : drop i fields ≡ [] = drop_all i fields done in
    sym (append-nil old) ∙ (rw none at so_far)
