-- Sections that are written again, one after another.
use Rattle.std.proofs.Common.{◌≡◌, ℕ, ◌+◌, ◌-◌, ◌<◌, ◌≤◌, List, [], ◌∷◌, ◌++◌, length, take, drop, get_or, Some, None, Bool, true, false, refl, sym, ap, ◌∙◌}
use Rattle.std.proofs.Common.{append_assoc, length-append, arith}
use Rattle.std.specs.Int.{next_multiple_of}
use Rattle.std.proofs.lemmas.List.{append-nil, drop_all, drop_more}
use Rattle.std.proofs.lemmas.Grind.{common_steps}
use Rattle.dwz_model.specs.declared.fault.Reason.TheVariants.{Layout}
use Rattle.dwz_def_reading.specs.declared.elf.Moved.{Moved}
use Rattle.dwz_def_reading.specs.declared.elf.Section.{Section}
use Rattle.dwz_def_reading.specs.ElfFaults.{file_fault}
use Rattle.dwz_def_reading.specs.ElfLayout.{Changes, align_at, keep_end, inside_fault, is_inside, is_moving, moving, placed_end, placed_from, too_large}
use Rattle.dwz_def_reading.specs.ElfReading.{ElfView}
use Rattle.dwz_def_reading.proofs.PlacedLemmas.{placed_end-least}
use Rattle.dwz_elf.specs.Places.{IsPlacedUpTo}

taken : (xs : List Section) (i : ℕ) → i < length xs → length (take i xs) ≡ i
taken xs i less = grind (arith, common_steps)

pub inside_some : (e : ElfView) (changes : Changes) (xs : List Section) (i : ℕ) (s : Section) (inside : Bool) → i < length xs → inside ≡ is_inside e changes i s → inside ≡ true
    → inside_fault e changes (take i xs) s ≡ Some (file_fault Layout s.header.at)
unfolding inside_fault
inside_some e changes xs i s inside less is holds =
    let test : is_inside e changes (length (take i xs)) s ≡ true = ap (λ n. is_inside e changes n s) (taken xs i less) ∙ (sym is ∙ holds) in
    rw test refl

pub inside_none : (e : ElfView) (changes : Changes) (xs : List Section) (i : ℕ) (s : Section) (inside : Bool) → i < length xs → inside ≡ is_inside e changes i s → inside ≡ false
    → inside_fault e changes (take i xs) s ≡ None
unfolding inside_fault
inside_none e changes xs i s inside less is holds =
    let test : is_inside e changes (length (take i xs)) s ≡ false = ap (λ n. is_inside e changes n s) (taken xs i less) ∙ (sym is ∙ holds) in
    rw test refl

-- ---- which sections are written again

pub one_moves : (keep : ℕ) (xs : List Section) (i : ℕ) (d : Section) (moves : Bool) (old new all : List (ℕ × ℕ)) → i < length xs → moves ≡ is_moving keep (get_or xs i d).header → moves ≡ true
    → new ≡ old ++ ((get_or xs i d).header.offset, i) ∷ [] → old ++ moving keep i (drop i xs) ≡ all → new ++ moving keep (i + 1) (drop (i + 1) xs) ≡ all
unfolding moving
one_moves keep xs i d moves old new all less is holds is_new so_far =
    let test : is_moving keep (get_or xs i d).header ≡ true = sym is ∙ holds in
    let parts : moving keep i (drop i xs) ≡ ((get_or xs i d).header.offset, i) ∷ moving keep (i + 1) (drop (i + 1) xs) = rw (drop_more xs i d less, test) refl in
    rw (is_new, append_assoc, ← parts) so_far

pub one_stays : (keep : ℕ) (xs : List Section) (i : ℕ) (d : Section) (moves : Bool) (old all : List (ℕ × ℕ)) → i < length xs → moves ≡ is_moving keep (get_or xs i d).header → moves ≡ false
    → old ++ moving keep i (drop i xs) ≡ all → old ++ moving keep (i + 1) (drop (i + 1) xs) ≡ all
unfolding moving
one_stays keep xs i d moves old all less is holds so_far =
    let test : is_moving keep (get_or xs i d).header ≡ false = sym is ∙ holds in
    let parts : moving keep i (drop i xs) ≡ moving keep (i + 1) (drop (i + 1) xs) = rw (drop_more xs i d less, test) refl in
    rw (← parts) so_far

pub all_looked_at : (keep : ℕ) (xs : List Section) (i : ℕ) (old all : List (ℕ × ℕ)) → length xs ≤ i → old ++ moving keep i (drop i xs) ≡ all → old ≡ all
unfolding moving
all_looked_at keep xs i old all done so_far =
    let none : drop i xs ≡ [] = drop_all i xs done in
    sym (append-nil old) ∙ (rw none at so_far)

pub keep_least : (e : ElfView) → 64 ≤ keep_end e
unfolding keep_end
keep_least e = omega arith

-- ---- their places

pub too_far : (e : ElfView) (contents : ℕ → List ℕ) (keep : ℕ) (order : List (ℕ × ℕ)) (end : ℕ) (placed : List Moved) (i : ℕ) (d : ℕ × ℕ) (at size : ℕ)
    → IsPlacedUpTo e contents keep order end placed (drop i order) → i < length order → at ≡ next_multiple_of end (align_at e (get_or order i d).1) → size ≡ length (contents (get_or order i d).1)
    → too_large ≤ at + size → too_large ≤ placed_end keep (placed_from e contents keep order)
unfolding placed_from
too_far e contents keep order end placed i d at size so_far less is_at is_size large =
    let more : at + size ≤ placed_end (at + size) (placed_from e contents (at + size) (drop (i + 1) order)) = placed_end-least e contents (at + size) (drop (i + 1) order) in
    let step : placed_end end (placed_from e contents end (drop i order)) ≡ placed_end (at + size) (placed_from e contents (at + size) (drop (i + 1) order)) =
    rw (drop_more order i d less, is_at, is_size) refl in
    omega (arith, more, step, so_far.last, large)

pub next_place : (e : ElfView) (contents : ℕ → List ℕ) (keep : ℕ) (order : List (ℕ × ℕ)) (end : ℕ) (placed new : List Moved) (i : ℕ) (d : ℕ × ℕ) (at size : ℕ)
    → IsPlacedUpTo e contents keep order end placed (drop i order) → i < length order → at ≡ next_multiple_of end (align_at e (get_or order i d).1) → size ≡ length (contents (get_or order i d).1)
    → at + size < too_large → new ≡ placed ++ record { index = (get_or order i d).1; at = at; size = size } ∷ [] → IsPlacedUpTo e contents keep order (at + size) new (drop (i + 1) order)
unfolding placed_from
next_place e contents keep order end placed new i d at size so_far less is_at is_size small is_new =
    let step : placed_from e contents end (drop i order) ≡ record { index = (get_or order i d).1; at = at; size = size } ∷ placed_from e contents (at + size) (drop (i + 1) order) =
    rw (drop_more order i d less, is_at, is_size) refl in
    record {
      places = rw (is_new, append_assoc, ← step) so_far.places;
      last = sym (ap (placed_end end) step) ∙ so_far.last;
      small = small;
    }

pub all_placed : (e : ElfView) (contents : ℕ → List ℕ) (keep : ℕ) (order : List (ℕ × ℕ)) (end : ℕ) (placed : List Moved) (i : ℕ) → IsPlacedUpTo e contents keep order end placed (drop i order)
    → length order ≤ i → (placed ≡ placed_from e contents keep order) × (end ≡ placed_end keep (placed_from e contents keep order)) × (end < too_large)
unfolding placed_from
all_placed e contents keep order end placed i so_far done =
    let none : drop i order ≡ [] = drop_all i order done in
    (sym (append-nil placed) ∙ (rw none at so_far.places), (rw none at so_far.last), so_far.small)

pub two_parts : (front back all : List ℕ) → front ++ back ≡ all → length front + length back ≡ length all
two_parts front back all is = sym (length-append front back) ∙ ap length is
