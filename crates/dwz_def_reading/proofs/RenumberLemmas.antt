-- Numbers in the order of operands are numbers by their places; an expression with other numbers has the same parts.
use Rattle.std.proofs.Common.{◌≡◌, ℕ, ◌+◌, ◌-◌, ◌<◌, ◌≤◌, Bool, true, false, cond, eqb, List, [], ◌∷◌, ◌++◌, length, take, drop, map, refl, sym, ap, ◌∙◌, arith, append_assoc}
use Rattle.std.proofs.lemmas.Bool.{eq-eqb, ne_eqb}
use Rattle.std.proofs.lemmas.List.{length-append, length-take-le}
use Rattle.std.proofs.Math.Seq.{drop-append_seam, take-append_seam}
use Rattle.dwz_def_reading.specs.declared.exprs.Operand.{Operand}
use Rattle.dwz_def_reading.specs.Documents.{Part, Same}
use Rattle.dwz_def_reading.specs.Documents as document
use Rattle.dwz_def_reading.specs.Exprs.{AreNamed, parts_from}
use Rattle.dwz_def_reading.specs.PatchedLists.{number_for_place, with_number}
use Rattle.dwz_def_reading.specs.Patching.{AllFit, moved, number_in_width, renumbered}
use Rattle.dwz_def_reading.proofs.CutLemmas.{Lie, behind_end, lie_le, number_len, patch}
use Rattle.dwz_def_reading.proofs.FilledLemmas.{GoAlong, Good, with_place}

-- operands behind one have the numbers of those behind it
later_numbers : (o : Operand) (os : List Operand) (n : ℕ) (numbers : List ℕ) (at end : ℕ) (ps : List Operand) → o.at < at → Lie at end ps
    → map (with_number (number_for_place (o ∷ os) (n ∷ numbers))) ps ≡ map (with_number (number_for_place os numbers)) ps
unfolding number_for_place
later_numbers o os n numbers at end [] lt h = refl
later_numbers o os n numbers at end (p ∷ ps) lt h =
    let other : eqb o.at p.at ≡ false = ne_eqb o.at p.at (λ same. omega (arith, same, lt, h.0)) in
    let rest = later_numbers o os n numbers (p.at + p.width) end ps (omega (arith, lt, h.0, h.1)) h.2 in
    ap (λ (b : Bool). record { at = p.at; width = p.width; uleb = p.uleb; base = p.base; number = cond b n (number_for_place os numbers p.at) } ∷ map (with_number (number_for_place (o ∷ os) (n ∷
    numbers))) ps)
    other
    ∙ ap (λ (w : List Operand). with_number (number_for_place os numbers) p ∷ w) rest

pub numbered : (at end : ℕ) (os : List Operand) (numbers : List ℕ) → Lie at end os → length numbers ≡ length os → map (with_number (number_for_place os numbers)) os ≡ renumbered os numbers
unfolding number_for_place renumbered
numbered at end [] numbers h many = refl
numbered at end (o ∷ os) [] h many = absurd (omega (arith, many))
numbered at end (o ∷ os) (n ∷ numbers) h many =
    let own : eqb o.at o.at ≡ true = eq-eqb o.at o.at refl in
    let rest = later_numbers o os n numbers (o.at + o.width) end os (omega (arith, h.1)) h.2 ∙ numbered (o.at + o.width) end os numbers h.2 (omega (arith, many)) in
    ap (λ (b : Bool). record { at = o.at; width = o.width; uleb = o.uleb; base = o.base; number = cond b n (number_for_place os numbers o.at) } ∷ map (with_number (number_for_place (o ∷ os) (n ∷
    numbers))) os) own
    ∙ ap (λ (w : List Operand). record { at = o.at; width = o.width; uleb = o.uleb; base = o.base; number = n } ∷ w) rest

-- the numbers that operands have
pub own_numbers : (os : List Operand) → renumbered os (map (λ o. o.number) os) ≡ os
unfolding renumbered
own_numbers [] = refl
own_numbers (o ∷ os) = ap (λ (w : List Operand). o ∷ w) (own_numbers os)

-- ---- the same parts

module _ (from : ℕ) (there : ℕ → ℕ) (along : GoAlong from there) (number : ℕ → ℕ) where
  gap : (at place : ℕ) → from ≤ at → at ≤ place → there place - there at ≡ place - at
  gap at place le h =
      let far : there place ≡ there at + (place - at) = ap there (let e : place ≡ at + (place - at) = omega (arith, h) in e) ∙ along at (place - at) le in
      omega (arith, far)

  pub parts_moved : (at : ℕ) (bytes : List ℕ) (os : List Operand) → from ≤ at → Lie at (at + length bytes) os
      → parts_from (there at) (patch at bytes (map (with_number number) os)) (map (λ o. with_place there (with_number number o)) os) ≡ parts_from at bytes os
  unfolding parts_from
  parts_moved at bytes [] le h = refl
  parts_moved at bytes (o ∷ os) le h =
      let end = lie_le (o.at + o.width) (at + length bytes) os h.2 in
      let front = take (o.at - at) bytes in
      let spelled = number_in_width o.uleb o.width (number o.at) in
      let rest = patch (o.at + o.width) (drop (o.at + o.width - at) bytes) (map (with_number number) os) in
      let front_len : length front ≡ o.at - at = length-take-le (o.at - at) bytes (omega (arith, end, h.0)) in
      let place : there (o.at + o.width) ≡ there o.at + o.width = along o.at o.width (omega (arith, le, h.0)) in
      let first : take (there o.at - there at) (front ++ (spelled ++ rest)) ≡ front =
      ap (λ (k : ℕ). take k (front ++ (spelled ++ rest))) (gap at o.at le h.0 ∙ sym front_len) ∙ take-append_seam front (spelled ++ rest) in
      let both_len : there o.at + o.width - there at ≡ length (front ++ spelled) =
      ap (λ (k : ℕ). k - there at) (sym place) ∙ gap at (o.at + o.width) le (omega (arith, h.0))
      ∙ omega (arith, length-append front spelled, front_len, number_len o.uleb o.width (number o.at), h.0) in
      let second : drop (there o.at + o.width - there at) (front ++ (spelled ++ rest)) ≡ rest =
      ap (λ (w : List ℕ). drop (there o.at + o.width - there at) w) (sym (append_assoc front spelled rest)) ∙ ap (λ (k : ℕ). drop k ((front ++ spelled) ++ rest)) both_len
      ∙ drop-append_seam (front ++ spelled) rest in
      let out : List Operand = map (λ o. with_place there (with_number number o)) os in
      let others : parts_from (there o.at + o.width) rest out ≡ parts_from (o.at + o.width) (drop (o.at + o.width - at) bytes) os =
      ap (λ (n : ℕ). parts_from n rest out) (sym place) ∙ parts_moved (o.at + o.width) (drop (o.at + o.width - at) bytes) os (omega (arith, le, h.0)) (behind_end at bytes o os h) in
      ap (λ (w : List ℕ). Same w ∷ document.Operand o.width o.uleb o.base ∷ parts_from (there o.at + o.width) (drop (there o.at + o.width - there at) (front ++ (spelled ++ rest))) out) first
      ∙ ap (λ (w : List ℕ). Same front ∷ document.Operand o.width o.uleb o.base ∷ parts_from (there o.at + o.width) w out) second
      ∙ ap (λ (w : List Part). Same front ∷ document.Operand o.width o.uleb o.base ∷ w) others

-- ---- to a place

-- from a place to another
abbrev pub shift : ℕ → ℕ → ℕ → ℕ
shift from to s = to + (s - from)

pub shift_along : (from to : ℕ) → GoAlong from (shift from to)
shift_along from to s n le = omega (arith, le)

pub shift_start : (from to : ℕ) → shift from to from ≡ to
shift_start from to = omega arith

pub moved_numbers : (from to : ℕ) (number : ℕ → ℕ) (os : List Operand) → map (λ o. with_place (shift from to) (with_number number o)) os ≡ map (moved from to) (map (with_number number) os)
moved_numbers from to number [] = refl
moved_numbers from to number (o ∷ os) = ap (λ (w : List Operand). moved from to (with_number number o) ∷ w) (moved_numbers from to number os)

-- numbers that fit and name entries
pub all_good : (from to : ℕ) (number : ℕ → ℕ) (names : Operand → Bool) (os : List Operand) → AllFit (map (with_number number) os) → AreNamed names (map (moved from to) (map (with_number number) os))
    → Good from (shift from to) (shift_along from to) number names os
all_good from to number names [] fit named = tt
all_good from to number names (o ∷ os) fit named = ((fit.0, named.0), all_good from to number names os fit.1 named.1)
