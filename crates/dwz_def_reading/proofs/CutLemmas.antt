-- Bytes in which operands stand, with the numbers that these have: over bytes one behind the other, it is one thing behind the other.
use Rattle.std.proofs.Common.{◌≡◌, ℕ, ◌+◌, ◌-◌, ◌<◌, ◌≤◌, Bool, true, false, zero, suc, ◌/◌, List, [], ◌∷◌, ◌++◌, length, take, drop, refl, sym, ap, subst, ◌∙◌, arith, append_assoc, append-nil}
use Rattle.std.proofs.lemmas.List.{drop-append-le, length-append, length-drop, length-take-le, take-append-le}
use Rattle.std.proofs.Math.Seq.{drop-append-add, take-append-add}
use Rattle.dwz_bytes.specs.Spelling.{le_bytes}
use Rattle.dwz_bytes.proofs.PaddedLemmas.{padded_len}
use Rattle.dwz_def_reading.specs.declared.exprs.Operand.{Operand}
use Rattle.dwz_def_reading.specs.Exprs.{parts_from}
use Rattle.dwz_def_reading.specs.Patching.{filled, number_in_width, renumbered}

-- ---- operands in order, each of a byte at least

abbrev pub Lie : ℕ → ℕ → List Operand → Type 0
Lie at end [] = at ≤ end
Lie at end (o ∷ os) = (at ≤ o.at) × (0 < o.width) × Lie (o.at + o.width) end os

pub lie_le : (at end : ℕ) (os : List Operand) → Lie at end os → at ≤ end
lie_le at end [] h = h
lie_le at end (o ∷ os) h = let rest = lie_le (o.at + o.width) end os h.2 in omega (arith, h.0, rest)

pub lie_from : (a b end : ℕ) (os : List Operand) → a ≤ b → Lie b end os → Lie a end os
lie_from a b end [] le h = omega (arith, le, h)
lie_from a b end (o ∷ os) le h = (omega (arith, le, h.0), h.1, h.2)

pub lie_both : (a b c : ℕ) (os ps : List Operand) → Lie a b os → Lie b c ps → Lie a c (os ++ ps)
lie_both a b c [] ps h k = lie_from a b c ps h k
lie_both a b c (o ∷ os) ps h k = (h.0, h.1, lie_both (o.at + o.width) b c os ps h.2 k)

-- ---- bytes from a place on, with the numbers of these operands

abbrev pub patch : ℕ → List ℕ → List Operand → List ℕ
patch at bytes [] = bytes
patch at bytes (o ∷ os) = take (o.at - at) bytes ++ (number_in_width o.uleb o.width o.number ++ patch (o.at + o.width) (drop (o.at + o.width - at) bytes) os)

pub le_len : (k n : ℕ) → length (le_bytes k n) ≡ k
unfolding le_bytes
le_len zero n = refl
le_len (suc k) n = let rest = le_len k (n / 256) in omega arith

pub number_len : (uleb : Bool) (width n : ℕ) → length (number_in_width uleb width n) ≡ width
number_len true width n = padded_len width n
number_len false width n = le_len width n

-- what is left behind an operand
pub behind_end : (at : ℕ) (bytes : List ℕ) (o : Operand) (os : List Operand) → Lie at (at + length bytes) (o ∷ os)
    → Lie (o.at + o.width) (o.at + o.width + length (drop (o.at + o.width - at) bytes)) os
behind_end at bytes o os h =
    let le = lie_le (o.at + o.width) (at + length bytes) os h.2 in
    let end : at + length bytes ≡ o.at + o.width + length (drop (o.at + o.width - at) bytes) = omega (arith, length-drop (o.at + o.width - at) bytes, le, h.0) in
    subst (λ (n : ℕ). Lie (o.at + o.width) n os) end h.2

pub patch_len : (at : ℕ) (bytes : List ℕ) (os : List Operand) → Lie at (at + length bytes) os → length (patch at bytes os) ≡ length bytes
patch_len at bytes [] h = refl
patch_len at bytes (o ∷ os) h =
    let le = lie_le (o.at + o.width) (at + length bytes) os h.2 in
    let rest = patch_len (o.at + o.width) (drop (o.at + o.width - at) bytes) os (behind_end at bytes o os h) in
    let tail = patch (o.at + o.width) (drop (o.at + o.width - at) bytes) os in
    let front : length (take (o.at - at) bytes) ≡ o.at - at = length-take-le (o.at - at) bytes (omega (arith, le, h.0)) in
    omega (
      arith,
      length-append (take (o.at - at) bytes) (number_in_width o.uleb o.width o.number ++ tail),
      length-append (number_in_width o.uleb o.width o.number) tail,
      number_len o.uleb o.width o.number,
      rest,
      front,
      length-drop (o.at + o.width - at) bytes,
      le,
      h.0,
    )

-- no operand stands in the first bytes
patch_behind : (at end : ℕ) (a b : List ℕ) (os : List Operand) → Lie (at + length a) end os → patch at (a ++ b) os ≡ a ++ patch (at + length a) b os
patch_behind at end a b [] h = refl
patch_behind at end a b (o ∷ os) h =
    let n = o.at - (at + length a) in
    let m = o.at + o.width - (at + length a) in
    let front : take (o.at - at) (a ++ b) ≡ a ++ take n b =
    ap (λ (k : ℕ). take k (a ++ b)) (let e : o.at - at ≡ length a + n = omega (arith, h.0) in e) ∙ take-append-add a b n in
    let rest : drop (o.at + o.width - at) (a ++ b) ≡ drop m b =
    ap (λ (k : ℕ). drop k (a ++ b)) (let e : o.at + o.width - at ≡ length a + m = omega (arith, h.0) in e) ∙ drop-append-add a b m in
    let spelled = number_in_width o.uleb o.width o.number in
    ap (λ (w : List ℕ). w ++ (spelled ++ patch (o.at + o.width) (drop (o.at + o.width - at) (a ++ b)) os)) front
    ∙ ap (λ (w : List ℕ). (a ++ take n b) ++ (spelled ++ patch (o.at + o.width) w os)) rest
    ∙ append_assoc a (take n b) (spelled ++ patch (o.at + o.width) (drop m b) os)

pub patch_append : (at end : ℕ) (a b : List ℕ) (os ps : List Operand) → Lie at (at + length a) os → Lie (at + length a) end ps
    → patch at (a ++ b) (os ++ ps) ≡ patch at a os ++ patch (at + length a) b ps
patch_append at end a b [] ps h k = patch_behind at end a b ps k
patch_append at end a b (o ∷ os) ps h k =
    let le = lie_le (o.at + o.width) (at + length a) os h.2 in
    let cut = o.at + o.width - at in
    let front : take (o.at - at) (a ++ b) ≡ take (o.at - at) a = take-append-le (o.at - at) a b (omega (arith, le, h.0)) in
    let rest : drop cut (a ++ b) ≡ drop cut a ++ b = drop-append-le cut a b (omega (arith, le, h.0)) in
    let same : at + length a ≡ o.at + o.width + length (drop cut a) = omega (arith, length-drop cut a, le, h.0) in
    let others = patch_append (o.at + o.width) end (drop cut a) b os ps (behind_end at a o os h) (subst (λ (n : ℕ). Lie n end ps) same k) in
    let spelled = number_in_width o.uleb o.width o.number in
    let tail = patch (o.at + o.width) (drop cut a) os in
    let last = patch (at + length a) b ps in
    ap (λ (w : List ℕ). w ++ (spelled ++ patch (o.at + o.width) (drop cut (a ++ b)) (os ++ ps))) front
    ∙ ap (λ (w : List ℕ). take (o.at - at) a ++ (spelled ++ w)) (ap (λ (w : List ℕ). patch (o.at + o.width) w (os ++ ps)) rest ∙ others ∙ ap (λ (n : ℕ). tail ++ patch n b ps) (sym same))
    ∙ ap (λ (w : List ℕ). take (o.at - at) a ++ w) (sym (append_assoc spelled tail last))
    ∙ sym (append_assoc (take (o.at - at) a) (spelled ++ tail) last)

-- ---- parts

-- what fills the parts that are cut at operands
pub filled_cut : (at : ℕ) (bytes : List ℕ) (os : List Operand) (numbers : List ℕ) → length numbers ≡ length os → filled (parts_from at bytes os) numbers ≡ patch at bytes (renumbered os numbers)
unfolding filled parts_from renumbered
filled_cut at bytes [] numbers many = append-nil bytes
filled_cut at bytes (o ∷ os) [] many = absurd (omega (arith, many))
filled_cut at bytes (o ∷ os) (n ∷ numbers) many =
    let rest = filled_cut (o.at + o.width) (drop (o.at + o.width - at) bytes) os numbers (omega (arith, many)) in
    ap (λ (w : List ℕ). take (o.at - at) bytes ++ (number_in_width o.uleb o.width n ++ w)) rest
