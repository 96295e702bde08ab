-- The section headers, one after another.
use Rattle.std.proofs.Common.{◌≡◌, ℕ, suc, ◌+◌, ◌-◌, ◌*◌, ◌<◌, ◌≤◌, List, [], ◌∷◌, ◌++◌, refl, sym, ap, ◌∙◌, append_assoc, arith}
use Rattle.dwz_def_reading.specs.declared.elf.Header.{Header}
use Rattle.dwz_def_reading.specs.ElfHeaders.{header_at, headers_from}

pub none_left : (bytes : List ℕ) (at n : ℕ) → n ≡ 0 → headers_from bytes at n ≡ []
unfolding headers_from
none_left bytes at n is = rw is refl

pub one_more : (bytes : List ℕ) (at n m : ℕ) → n ≡ m + 1 → headers_from bytes at n ≡ header_at bytes at ∷ headers_from bytes (at + 64) m
unfolding headers_from
one_more bytes at n m is = let e : n ≡ suc m = omega (arith, is) in rw e refl

pub pushed : (bytes : List ℕ) (first index count : ℕ) (h : Header) (old new all : List Header) → new ≡ old ++ h ∷ [] → h ≡ header_at bytes (first + 64 * index) → index < count
    → old ++ headers_from bytes (first + 64 * index) (count - index) ≡ all → new ++ headers_from bytes (first + 64 * (index + 1)) (count - (index + 1)) ≡ all
pushed bytes first index count h old new all is_new is_h more so_far =
    let left = one_more bytes (first + 64 * index) (count - index) (count - (index + 1)) (omega arith) in
    let place : first + 64 * (index + 1) ≡ first + 64 * index + 64 = omega arith in
    rw (is_new, append_assoc, place, is_h, ← left) so_far

append_nothing : (xs : List Header) → xs ++ [] ≡ xs
append_nothing [] = refl
append_nothing (x ∷ xs) = ap (λ l. x ∷ l) (append_nothing xs)

pub all_read : (bytes : List ℕ) (first index count : ℕ) (read all : List Header) → count ≤ index → read ++ headers_from bytes (first + 64 * index) (count - index) ≡ all → read ≡ all
all_read bytes first index count read all done so_far =
    let left = none_left bytes (first + 64 * index) (count - index) (omega arith) in
    sym (append_nothing read) ∙ (rw left at so_far)
