-- Numbers written one by one at the places of operands leave a section that is patched.
use Rattle.std.proofs.Common.{◌≡◌, ◌⊎◌, ℕ, ◌+◌, ◌-◌, ◌<◌, ◌≤◌, List, [], ◌∷◌, ◌++◌, length, take, drop, get_or, set, map, refl, sym, ap, subst, ◌∙◌, inl, inr, arith, zero, suc}
use Rattle.std.proofs.Math.ListN.{length-set}
use Rattle.std.proofs.lemmas.Bool.{cases_lt}
use Rattle.std.proofs.lemmas.List.{get_or-set_other, get_or-set_same, length-drop, length-map, length-take-le}
use Rattle.std.proofs.Math.Seq.{drop-append_seam, take-append_seam}
use Rattle.dwz_model.specs.Lists.{In}
use Rattle.dwz_model.proofs.ListFacts.{in_map as map_in}
use Rattle.dwz_def_reading.specs.declared.exprs.Operand.{Operand}
use Rattle.dwz_def_reading.specs.PatchedLists.{EndWithin, IsPatched, number_for_place, with_number, with_operands}
use Rattle.dwz_def_reading.specs.Patching.{number_in_width, renumbered, written_at}
use Rattle.dwz_def_reading.specs.Shared.{AreRows, HasByte, ListOperand, NamedList, StandApart, operands_in_lists}
use Rattle.dwz_def_reading.proofs.CutLemmas.{Lie, lie_le, number_len}
use Rattle.dwz_def_reading.proofs.InPlaceLemmas.{begins_behind, between, between_same}
use Rattle.dwz_def_reading.proofs.NamedAgain.{in_map}
use Rattle.dwz_def_reading.proofs.PatchedListLemmas.{cut_at}
use Rattle.dwz_def_reading.proofs.PatchedSets.{over}
use Rattle.dwz_def_reading.proofs.RenumberLemmas.{numbered}

-- ---- bytes written over others

pub written_len : (at : ℕ) (new bytes : List ℕ) → length (written_at at new bytes) ≡ length bytes
unfolding written_at
written_len at [] bytes = refl
written_len at (b ∷ new) bytes = written_len (at + 1) new (set bytes at b) ∙ length-set bytes at b

-- a byte before them or behind them
pub written_other : (at : ℕ) (new bytes : List ℕ) (place : ℕ) → (place < at) ⊎ (at + length new ≤ place) → get_or (written_at at new bytes) place 0 ≡ get_or bytes place 0
unfolding written_at
written_other at [] bytes place out = refl
written_other at (b ∷ new) bytes place out =
    let apart : place ≡ at → ⊥ = λ same. elim out [ inl before ↦ omega (arith, same, before) | inr behind ↦ omega (arith, same, behind) ] in
    let rest : (place < at + 1) ⊎ (at + 1 + length new ≤ place) = elim out [ inl before ↦ inl (omega (arith, before)) | inr behind ↦ inr (omega (arith, behind)) ] in
    written_other (at + 1) new (set bytes at b) place rest ∙ get_or-set_other bytes at place b 0 apart

written_here : (at : ℕ) (new bytes : List ℕ) → at + length new ≤ length bytes → take (length new) (drop at (written_at at new bytes)) ≡ new
written_here at new bytes le =
    let front = take at bytes in
    let old = between at (at + length new) bytes in
    let rest = drop (at + length new) bytes in
    let front_len : length front ≡ at = length-take-le at bytes (omega (arith, le)) in
    let old_len : length old ≡ length new = length-take-le (at + length new - at) (drop at bytes) (omega (arith, length-drop at bytes, le)) ∙ omega arith in
    let whole : written_at at new bytes ≡ front ++ (new ++ rest) =
    ap (written_at at new) (cut_at at (at + length new) bytes (omega arith)) ∙ ap (λ (n : ℕ). written_at n new (front ++ (old ++ rest))) (sym front_len) ∙ over front old new rest old_len in
    ap (λ (w : List ℕ). take (length new) (drop at w)) whole
    ∙ ap (λ (n : ℕ). take (length new) (drop n (front ++ (new ++ rest)))) (sym front_len)
    ∙ ap (take (length new)) (drop-append_seam front (new ++ rest))
    ∙ take-append_seam new rest

-- ---- operand by operand

module _ (number : ℕ → ℕ) where
  abbrev spelled : Operand → List ℕ
  spelled o = number_in_width o.uleb o.width (number o.at)

  abbrev after : List Operand → List ℕ → List ℕ
  after os bytes = with_operands (map (with_number number) os) bytes

  after_len : (os : List Operand) (bytes : List ℕ) → length (after os bytes) ≡ length bytes
  unfolding with_operands
  after_len [] bytes = refl
  after_len (o ∷ os) bytes = after_len os (written_at o.at (spelled o) bytes) ∙ written_len o.at (spelled o) bytes

  after_other : (os : List Operand) (bytes : List ℕ) (place : ℕ) → ((o : Operand) → In o os → HasByte o place → ⊥) → get_or (after os bytes) place 0 ≡ get_or bytes place 0
  unfolding with_operands
  after_other [] bytes place none = refl
  after_other (o ∷ os) bytes place none = after_other os (written_at o.at (spelled o) bytes) place (λ p there. none p (inr there)) ∙ written_other o.at (spelled o) bytes place out where
    len : length (spelled o) ≡ o.width
    len = number_len o.uleb o.width (number o.at)

    out : (place < o.at) ⊎ (o.at + length (spelled o) ≤ place)
    out = elim (cases_lt place o.at) [
      | inl before ↦ inl before
      | inr from ↦ elim (cases_lt place (o.at + o.width)) [
        | inl to ↦ absurd (none o (inl refl) (from, to))
        | inr behind ↦ inr (omega (arith, behind, len))
      ]
    ]

  after_here : (at end : ℕ) (os : List Operand) (bytes : List ℕ) → Lie at end os → end ≤ length bytes → (o : Operand) → In o os → take o.width (drop o.at (after os bytes)) ≡ spelled o
  unfolding with_operands
  after_here at end [] bytes h le o there = absurd there
  after_here at end (p ∷ os) bytes h le o (inr later) = after_here (p.at + p.width) end os (written_at p.at (spelled p) bytes) h.2
      (let len = written_len p.at (spelled p) bytes in omega (arith, len, le)) o later
  after_here at end (p ∷ os) bytes h le o (inl same) = subst (λ (q : Operand). take q.width (drop q.at (after (p ∷ os) bytes)) ≡ spelled q) same own where
    first : List ℕ
    first = written_at p.at (number_in_width p.uleb p.width (number p.at)) bytes

    len : length (number_in_width p.uleb p.width (number p.at)) ≡ p.width
    len = number_len p.uleb p.width (number p.at)

    within : p.at + p.width ≤ length bytes
    within = let more = lie_le (p.at + p.width) end os h.2 in omega (arith, more, le)

    size : length first ≡ length bytes
    size = written_len p.at (number_in_width p.uleb p.width (number p.at)) bytes

    -- those behind it leave it as it is
    left : between p.at (p.at + p.width) (after os first) ≡ between p.at (p.at + p.width) first
    left = between_same p.at (p.at + p.width) first (after os first)
        (after_len os first) (omega arith) (omega (arith, within, size))
        (λ b from to. after_other os first b (λ q there has. let begins = begins_behind (p.at + p.width) end os h.2 q there in omega (arith, begins, to, has.0)))

    count : p.at + p.width - p.at ≡ p.width
    count = omega arith

    here : take p.width (drop p.at first) ≡ number_in_width p.uleb p.width (number p.at)
    here = ap (λ (n : ℕ). take n (drop p.at first)) (sym len) ∙ written_here p.at (number_in_width p.uleb p.width (number p.at)) bytes (omega (arith, len, within))

    own : take p.width (drop p.at (after os first)) ≡ number_in_width p.uleb p.width (number p.at)
    own = ap (λ (n : ℕ). take n (drop p.at (after os first))) (sym count) ∙ left ∙ ap (λ (n : ℕ). take n (drop p.at first)) count ∙ here

-- ---- rows of operands

abbrev operands : List ListOperand → List Operand
operands rows = map (λ r. r.operand) rows

rows_lie : (end : ℕ) (rows : List ListOperand) → StandApart rows → ((o : ListOperand) → In o rows → 0 < o.operand.width) → EndWithin end rows → (at : ℕ) → at ≤ end
    → ((o : ListOperand) (others : List ListOperand) → rows ≡ o ∷ others → at ≤ o.operand.at) → Lie at end (operands rows)
rows_lie end [] apart some within at le first = le
rows_lie end (o ∷ []) apart some within at le first = (first o [] refl, some o (inl refl), within.0)
rows_lie end (o ∷ p ∷ rows) apart some within at le first = (
  first o (p ∷ rows) refl,
  some o (inl refl),
  rows_lie end (p ∷ rows) apart.1 (λ q there. some q (inr there)) within.1 (o.operand.at + o.operand.width) within.0
      (λ q others same. let is : p ≡ q = cc in subst (λ (w : ListOperand). o.operand.at + o.operand.width ≤ w.operand.at) is apart.0),
)

pub rows_patched : (lists : List NamedList) (rows : List ListOperand) (numbers section : List ℕ) → AreRows lists rows → StandApart rows → length numbers ≡ length rows → EndWithin (length section) rows
    → IsPatched lists (number_for_place (operands rows) numbers) section (with_operands (renumbered (operands rows) numbers) section)
rows_patched lists rows numbers section are apart many within = subst (IsPatched lists number section) (ap (λ (w : List Operand). with_operands w section) same) patched where
  number : ℕ → ℕ
  number = number_for_place (operands rows) numbers

  lie : Lie 0 (length section) (operands rows)
  lie = rows_lie (length section) rows apart are.some within 0 (omega arith) (λ o others same. omega arith)

  same : map (with_number number) (operands rows) ≡ renumbered (operands rows) numbers
  same = numbered 0 (length section) (operands rows) numbers lie (many ∙ sym (length-map rows (λ (r : ListOperand). r.operand)))

  written : (o : ListOperand) → In o (operands_in_lists lists) → take o.operand.width (drop o.operand.at (after number (operands rows) section))
      ≡ number_in_width o.operand.uleb o.operand.width (number o.operand.at)
  written o there =
      let new = after number (operands rows) section in
      let r = are.all o there in
      let is = r.2 in
      let own = after_here number 0 (length section) (operands rows) section lie (omega arith) r.0.operand (map_in (λ (q : ListOperand). q.operand) r.0 rows r.1) in
      sym (λ i. take (is.width i) (drop (is.at i) new)) ∙ own ∙ (λ i. number_in_width (is.uleb i) (is.width i) (number (is.at i)))

  others : (b : ℕ) → ((o : ListOperand) → In o (operands_in_lists lists) → HasByte o.operand b → ⊥) → get_or (after number (operands rows) section) b 0 ≡ get_or section b 0
  others b none = after_other number (operands rows) section b (λ o there has.
      let r = in_map (λ (r : ListOperand). r.operand) o rows there in
      none r.0 (are.from r.0 r.1) (subst (λ (w : Operand). HasByte w b) (sym r.2) has))

  patched : IsPatched lists number section (after number (operands rows) section)
  patched = record { len = after_len number (operands rows) section; written = written; others = others }

pub written_in : (at : ℕ) (new bytes : List ℕ) (k : ℕ) → k < length new → at + length new ≤ length bytes → get_or (written_at at new bytes) (at + k) 0 ≡ get_or new k 0
unfolding written_at
written_in at [] bytes k lt le = absurd (omega (arith, lt))
written_in at (n ∷ new) bytes zero lt le =
    let here : at + 0 ≡ at = omega arith in
    ap (λ (b : ℕ). get_or (written_at (at + 1) new (set bytes at n)) b 0) here
    ∙ written_other (at + 1) new (set bytes at n) at (inl (omega arith))
    ∙ get_or-set_same bytes at n 0 (omega (arith, le))
written_in at (n ∷ new) bytes (suc k) lt le =
    let next : at + suc k ≡ at + 1 + k = omega arith in
    ap (λ (b : ℕ). get_or (written_at (at + 1) new (set bytes at n)) b 0) next
    ∙ written_in (at + 1) new (set bytes at n) k (omega (arith, lt)) (omega (arith, le, length-set bytes at n))
