-- Bytes that are written one after another.
use Rattle.std.proofs.Common.{◌≡◌, ℕ, zero, suc, ◌+◌, ◌-◌, ◌/◌, ◌%◌, ◌<◌, ◌≤◌, List, [], ◌∷◌, ◌++◌, length, take, drop, get_or, replicate, Option, Some, None, refl, sym, ap, ◌∙◌, append_assoc}
use Rattle.std.proofs.Common.{length-append, length-take, arith}
use Rattle.std.proofs.lemmas.List.{append-nil, drop_all, drop_more, length-replicate}
use Rattle.std.specs.Prelude.{slice_get}
use Rattle.dwz_bytes.specs.Spelling.{le_bytes}
use Rattle.dwz_def_reading.specs.declared.elf.Moved.{Moved}
use Rattle.dwz_def_reading.specs.declared.elf.Section.{Section}
use Rattle.dwz_def_reading.specs.ElfLayout.{kept_bytes, moved_header, moved_in, names_size, new_headers, numbers, spread, sup_fields, sup_header}
use Rattle.dwz_def_reading.specs.ElfReading.{ElfView}
use Rattle.dwz_elf.specs.Places.{AreByIndex}

more_digits : (k m n : ℕ) → k ≡ m + 1 → le_bytes k n ≡ n % 256 ∷ le_bytes m (n / 256)
unfolding le_bytes
more_digits k m n is = let e : k ≡ suc m = omega (arith, is) in rw e refl

no_digits : (k n : ℕ) → k ≡ 0 → le_bytes k n ≡ []
unfolding le_bytes
no_digits k n is = rw is refl

pub digit : (width i rest : ℕ) (old new all : List ℕ) → i < width → new ≡ old ++ rest % 256 ∷ [] → old ++ le_bytes (width - i) rest ≡ all → new ++ le_bytes (width - (i + 1)) (rest / 256) ≡ all
digit width i rest old new all less is so_far =
    let left = more_digits (width - i) (width - (i + 1)) rest (omega (arith, less)) in
    rw (is, append_assoc, ← left) so_far

pub digits : (width i rest : ℕ) (old all : List ℕ) → width ≤ i → old ++ le_bytes (width - i) rest ≡ all → old ≡ all
digits width i rest old all done so_far =
    let left = no_digits (width - i) rest (omega (arith, done)) in
    sym (append-nil old) ∙ (rw left at so_far)

pub length_of_number : (k n : ℕ) → length (le_bytes k n) ≡ k
unfolding le_bytes
length_of_number zero n = refl
length_of_number (suc k) n = let rest = length_of_number k (n / 256) in omega (arith, rest)

five : (o p q r s : List ℕ) → (((o ++ p) ++ q) ++ r) ++ s ≡ o ++ (p ++ ((q ++ r) ++ s))
five o p q r s = simp append_assoc

-- ---- section headers

pub header_moved : (old a b c d out : List ℕ) (m : Moved) → a ≡ out ++ take 24 old → b ≡ a ++ le_bytes 8 m.at → c ≡ b ++ le_bytes 8 m.size → d ≡ c ++ drop 40 old → d ≡ out ++ moved_header old (Some m)
header_moved old a b c d out m first second third fourth =
    let len : 24 + length (le_bytes 8 m.at ++ le_bytes 8 m.size) ≡ 40 = omega (arith, length-append (le_bytes 8 m.at) (le_bytes 8 m.size), length_of_number 8 m.at, length_of_number 8 m.size) in
    let all : d ≡ ((((out ++ take 24 old) ++ le_bytes 8 m.at) ++ le_bytes 8 m.size) ++ drop 40 old) = cc in
    let back : drop (24 + length (le_bytes 8 m.at ++ le_bytes 8 m.size)) old ≡ drop 40 old = ap (λ n. drop n old) len in
    all ∙ (five out (take 24 old) (le_bytes 8 m.at) (le_bytes 8 m.size) (drop 40 old) ∙ ap (λ tail. out ++ (take 24 old ++ ((le_bytes 8 m.at ++ le_bytes 8 m.size) ++ tail))) (sym back))

pub moved_end : (old front back a b c d out : List ℕ) (m : Moved) (place : Option Moved) → place ≡ Some m → front ≡ take 24 old → back ≡ drop 40 old → a ≡ out ++ front → b ≡ a ++ le_bytes 8 m.at
    → c ≡ b ++ le_bytes 8 m.size → d ≡ c ++ back → d ≡ out ++ moved_header old place
moved_end old front back a b c d out m place is front_is back_is first second third fourth =
    rw is (header_moved old a b c d out m (rw front_is at first) second third (rw back_is at fourth))

pub one_header : (input : List ℕ) (moved : List Moved) (places : List (Option Moved)) (xs : List Section) (i : ℕ) (d : Section) (old new header all : List ℕ) → AreByIndex (length xs) moved places
    → i < length xs → header ≡ take 64 (drop (get_or xs i d).header.at input) → new ≡ old ++ moved_header header (get_or places i None) → old ++ new_headers input moved i (drop i xs) ≡ all
    → new ++ new_headers input moved (i + 1) (drop (i + 1) xs) ≡ all
unfolding new_headers
one_header input moved places xs i d old new header all by_index less is_header is so_far =
    let place : get_or places i None ≡ moved_in moved i = by_index.each i less in
    let parts : new_headers input moved i (drop i xs) ≡ moved_header header (get_or places i None) ++ new_headers input moved (i + 1) (drop (i + 1) xs) =
    rw (drop_more xs i d less, place, is_header) refl in
    rw (is, append_assoc, ← parts) so_far

pub all_headers : (input : List ℕ) (moved : List Moved) (xs : List Section) (i : ℕ) (old all : List ℕ) → length xs ≤ i → old ++ new_headers input moved i (drop i xs) ≡ all → old ≡ all
unfolding new_headers
all_headers input moved xs i old all done so_far =
    let none : drop i xs ≡ [] = drop_all i xs done in
    sym (append-nil old) ∙ (rw none at so_far)

-- ---- sections

pub one_section : (contents : ℕ → List ℕ) (xs : List Moved) (i end gap : ℕ) (d : Moved) (front back old a b c all : List ℕ) → i < length xs → gap ≡ (get_or xs i d).at - end
    → front ++ back ≡ contents (get_or xs i d).index → a ≡ old ++ replicate gap 0 → b ≡ a ++ front → c ≡ b ++ back → old ++ spread contents end (drop i xs) ≡ all
    → c ++ spread contents ((get_or xs i d).at + (get_or xs i d).size) (drop (i + 1) xs) ≡ all
unfolding spread
one_section contents xs i end gap d front back old a b c all less is_gap is_content first second third so_far =
    let rest = spread contents ((get_or xs i d).at + (get_or xs i d).size) (drop (i + 1) xs) in
    let parts : spread contents end (drop i xs) ≡ replicate gap 0 ++ ((front ++ back) ++ rest) = rw (drop_more xs i d less, is_gap, is_content) refl in
    let whole : c ++ rest ≡ old ++ (replicate gap 0 ++ ((front ++ back) ++ rest)) = rw (third, second, first) (five old (replicate gap 0) front back rest) in
    whole ∙ (rw parts at so_far)

pub all_sections : (contents : ℕ → List ℕ) (xs : List Moved) (i end : ℕ) (old all : List ℕ) → length xs ≤ i → old ++ spread contents end (drop i xs) ≡ all → old ≡ all
unfolding spread
all_sections contents xs i end old all done so_far =
    let none : drop i xs ≡ [] = drop_all i xs done in
    sym (append-nil old) ∙ (rw none at so_far)

pub length_number : (width value : ℕ) (old new : List ℕ) → new ≡ old ++ le_bytes width value → length new ≡ length old + width
length_number width value old new is = ap length is ∙ (length-append old (le_bytes width value) ∙ ap (λ n. length old + n) (length_of_number width value))

pub length_kept : (keep : ℕ) (input old new : List ℕ) → new ≡ old ++ kept_bytes keep input → length new ≡ length old + keep
length_kept keep input old new is = ap length is ∙ simp (length-append, length-take, length-replicate) (omega arith)

-- ---- numbers

pub sup_written : (e : ElfView) (at name size : ℕ) (added : Option (List ℕ)) (sup out new : List ℕ) → added ≡ Some sup → name ≡ names_size (slice_get e.sections e.file.names) → size ≡ length sup
    → new ≡ out ++ numbers (sup_fields name at size) → new ≡ out ++ sup_header e at added
unfolding sup_header
sup_written e at name size added sup out new is name_is size_is written =
    rw (is, ← name_is, ← size_is) written
