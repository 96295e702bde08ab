-- Numbers of units stay in bounds, file by file.
use Rattle.std.proofs.Common.{◌≡◌, ℕ, ◌+◌, ◌-◌, ◌<◌, ◌≤◌, ◌^◌, Bool, true, false, List, [], ◌++◌, drop, get_or, length, ap, ◌∙◌}
use Rattle.std.proofs.Common.{arith, if◌then◌else◌}
use Rattle.std.specs.Prelude.{sum}
use Rattle.std.specs.List.{range_with_len}
use Rattle.std.proofs.lemmas.List.{length-append, length-drop}
use Rattle.std.proofs.lemmas.List.FromFn.{length-range_with_len}
use Rattle.std.proofs.lemmas.List.Sums.{sum_by-drop_more}
use Rattle.dwz_def_images.specs.Plan.{partials}
use Rattle.dwz_plan.specs.declared.plan.Partial.{Partial}
use Rattle.dwz_layout_numbers.specs.Numbering.{leading}
use Rattle.dwz_layout_numbers.proofs.NumberingLemmas.{leading_le}

-- ---- numbers stay in bounds

pub record Small (partials : List Partial) (counts : List ℕ) (i next : ℕ) (parts : List ℕ) : Type 0 where
  pub within : length parts ≤ length partials
  pub room : next + (length partials - length parts) + sum (drop i counts) ≤ length partials + sum counts

pub small_first : (partials : List Partial) (counts parts : List ℕ) → parts ≡ [] → Small partials counts 0 0 parts
small_first partials counts parts none = let e : length parts ≡ 0 = ap (λ (w : List ℕ). length w) none in record { within = omega (arith, e); room = omega (arith, e) }

pub small_parts : (partials : List Partial) (counts parts new : List ℕ) (i next file : ℕ) → Small partials counts i next parts
    → new ≡ parts ++ range_with_len next (leading file (drop (length parts) partials)) → Small partials counts i (next + leading file (drop (length parts) partials)) new
small_parts partials counts parts new i next file h is =
    let k = leading file (drop (length parts) partials) in
    let le = leading_le file (drop (length parts) partials) in
    let left = length-drop (length parts) partials in
    let long : length new ≡ length parts + k = ap (λ (w : List ℕ). length w) is ∙ length-append parts (range_with_len next k) ∙ ap (λ (n : ℕ). length parts + n) (length-range_with_len next k) in
    let within = h.within in
    let room = h.room in
    record { within = omega (arith, le, left, long, within); room = omega (arith, le, left, long, within, room) }

pub small_fits : (partials : List Partial) (counts parts : List ℕ) (i next file : ℕ) → Small partials counts i next parts → length partials + sum counts < 2 ^ 32
    → next + leading file (drop (length parts) partials) < 2 ^ 32
small_fits partials counts parts i next file h few =
    let le = leading_le file (drop (length parts) partials) in
    let left = length-drop (length parts) partials in
    let within = h.within in
    let room = h.room in
    omega (arith, le, left, within, room, few)

sum_next : (counts : List ℕ) (i : ℕ) → i < length counts → sum (drop i counts) ≡ get_or counts i 0 + sum (drop (i + 1) counts)
sum_next counts i lt = sum_by-drop_more (λ (x : ℕ). x) counts i 0 lt

pub small_olds : (partials : List Partial) (counts parts : List ℕ) (i next : ℕ) → Small partials counts i next parts → i < length counts → length partials + sum counts < 2 ^ 32
    → next + get_or counts i 0 < 2 ^ 32
small_olds partials counts parts i next h lt few = let s = sum_next counts i lt in let room = h.room in omega (arith, s, room, few)

pub small_next : (partials : List Partial) (counts parts : List ℕ) (i next after : ℕ) (b : Bool) → Small partials counts i next parts → i < length counts
    → after ≡ next + (if b then get_or counts i 0 else 0) → Small partials counts (i + 1) after parts
small_next partials counts parts i next after true h lt e = let s = sum_next counts i lt in let room = h.room in record { within = h.within; room = omega (arith, s, room, e) }
small_next partials counts parts i next after false h lt e = let s = sum_next counts i lt in let room = h.room in record { within = h.within; room = omega (arith, s, room, e) }
