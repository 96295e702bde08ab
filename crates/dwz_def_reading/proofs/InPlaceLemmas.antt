-- Bytes of a section whose operands were written over are those bytes with the new numbers.
use Rattle.std.proofs.Common.{◌≡◌, ℕ, ◌+◌, ◌-◌, ◌<◌, ◌≤◌, List, [], ◌∷◌, ◌++◌, length, take, drop, get_or, map, refl, sym, ap, subst, ◌∙◌, inl, inr, arith}
use Rattle.std.proofs.lemmas.List.{drop-drop, drop-take, ext_get_or, get_or-drop, get_or-take, length-drop, length-take-le, take-append-drop, take-take}
use Rattle.dwz_model.specs.Lists.{In}
use Rattle.dwz_def_reading.specs.declared.exprs.Operand.{Operand}
use Rattle.dwz_def_reading.specs.PatchedLists.{with_number}
use Rattle.dwz_def_reading.specs.Patching.{number_in_width}
use Rattle.dwz_def_reading.specs.Shared.{HasByte}
use Rattle.dwz_def_reading.proofs.CutLemmas.{Lie, lie_le, patch}

-- the bytes of a section between two places
abbrev pub between : ℕ → ℕ → List ℕ → List ℕ
between from to section = take (to - from) (drop from section)

pub between_len : (from to : ℕ) (section : List ℕ) → from ≤ to → to ≤ length section → length (between from to section) ≡ to - from
between_len from to section le within = length-take-le (to - from) (drop from section) (omega (arith, length-drop from section, within))

-- they are of two parts
pub between_both : (from middle to : ℕ) (section : List ℕ) → from ≤ middle → middle ≤ to → between from to section ≡ between from middle section ++ between middle to section
between_both from middle to section le more =
    let k = middle - from in
    let m = to - middle in
    let whole : to - from ≡ k + m = omega (arith, le, more) in
    let first : take k (take (to - from) (drop from section)) ≡ take k (drop from section) = take-take k (to - from) (drop from section) (omega (arith, le, more)) in
    let place : k + from ≡ middle = omega (arith, le) in
    let second : drop k (take (to - from) (drop from section)) ≡ take m (drop middle section) =
    ap (λ (n : ℕ). drop k (take n (drop from section))) whole ∙ drop-take k m (drop from section)
    ∙ ap (take m) (drop-drop k from section ∙ ap (λ (n : ℕ). drop n section) (let e : from + k ≡ middle = omega (arith, le) in e)) in
    sym (take-append-drop k (take (to - from) (drop from section))) ∙ ap (λ (w : List ℕ). w ++ drop k (take (to - from) (drop from section))) first
    ∙ ap (λ (w : List ℕ). take k (drop from section) ++ w) second

-- where each byte is the same
pub between_same : (from to : ℕ) (section new : List ℕ) → length new ≡ length section → from ≤ to → to ≤ length section → ((b : ℕ) → from ≤ b → b < to → get_or new b 0 ≡ get_or section b 0)
    → between from to new ≡ between from to section
between_same from to section new len le within same = ext_get_or 0 (between from to new) (between from to section) lens each where
  new_len : length (between from to new) ≡ to - from
  new_len = between_len from to new le (omega (arith, len, within))

  lens : length (between from to new) ≡ length (between from to section)
  lens = new_len ∙ sym (between_len from to section le within)

  each : (i : ℕ) → i < length (between from to new) → get_or (between from to new) i 0 ≡ get_or (between from to section) i 0
  each i lt =
      let less : i < to - from = omega (arith, lt, new_len) in
      get_or-take (to - from) (drop from new) i 0 less ∙ get_or-drop from new i 0
      ∙ same (from + i) (omega arith) (omega (arith, less))
      ∙ sym (get_or-drop from section i 0) ∙ sym (get_or-take (to - from) (drop from section) i 0 less)

-- operands in order begin behind where they may
pub begins_behind : (at end : ℕ) (os : List Operand) → Lie at end os → (o : Operand) → In o os → at ≤ o.at
begins_behind at end [] h o there = absurd there
begins_behind at end (p ∷ os) h o (inl same) = subst (λ (q : Operand). at ≤ q.at) same h.0
begins_behind at end (p ∷ os) h o (inr later) = let more = begins_behind (p.at + p.width) end os h.2 o later in let first = h.0 in omega (arith, more, first)

module _ (section new : List ℕ) (len : length new ≡ length section) (number : ℕ → ℕ) where
  abbrev Written : List Operand → Type 0
  Written os = (o : Operand) → In o os → take o.width (drop o.at new) ≡ number_in_width o.uleb o.width (number o.at)

  abbrev Others : ℕ → ℕ → List Operand → Type 0
  Others at end os = (b : ℕ) → at ≤ b → b < end → ((o : Operand) → In o os → HasByte o b → ⊥) → get_or new b 0 ≡ get_or section b 0

  pub new_between : (at end : ℕ) (os : List Operand) → Lie at end os → end ≤ length section → Written os → Others at end os
      → between at end new ≡ patch at (between at end section) (map (with_number number) os)
  new_between at end [] h within written others = between_same at end section new len h within (λ b from to. others b from to (λ o there. absurd there))
  new_between at end (o ∷ os) h within written others =
      let behind = o.at + o.width in
      let le : behind ≤ end = lie_le behind end os h.2 in
      let own : between o.at behind new ≡ number_in_width o.uleb o.width (number o.at) = ap (λ (n : ℕ). take n (drop o.at new)) (let e : behind - o.at ≡ o.width = omega arith in e)
      ∙ written o (inl refl) in
      let before : between at o.at new ≡ between at o.at section = between_same at o.at section new len h.0 (omega (arith, le, within))
      (λ b from to. others b from (omega (arith, to, le)) (none_before b to)) in
      let rest = new_between behind end os h.2 within (λ p there. written p (inr there)) (λ b from to none. others b (omega (arith, from, h.0)) to (none_behind b from none)) in
      let cut : between at end new ≡ between at o.at new ++ (between o.at behind new ++ between behind end new) =
      between_both at o.at end new h.0 (omega (arith, le)) ∙ ap (λ (w : List ℕ). between at o.at new ++ w) (between_both o.at behind end new (omega arith) le) in
      let first : take (o.at - at) (between at end section) ≡ between at o.at section = take-take (o.at - at) (end - at) (drop at section) (omega (arith, le)) in
      let last : drop (behind - at) (between at end section) ≡ between behind end section = dropped at behind end (omega (arith, h.0)) le in
      cut
      ∙ ap (λ (w : List ℕ). w ++ (between o.at behind new ++ between behind end new)) (before ∙ sym first)
      ∙ ap (λ (w : List ℕ). take (o.at - at) (between at end section) ++ w)
      (ap (λ (w : List ℕ). w ++ between behind end new) own
      ∙ ap (λ (w : List ℕ). number_in_width o.uleb o.width (number o.at) ++ w) (rest ∙ ap (λ (w : List ℕ). patch behind w (map (with_number number) os)) (sym last))) where
        none_before : (b : ℕ) → b < o.at → (p : Operand) → In p (o ∷ os) → HasByte p b → ⊥
        none_before b lt p there has = let from = begins_behind o.at end (o ∷ os) (omega arith, h.1, h.2) p there in let low = has.0 in omega (arith, lt, from, low)

        none_behind : (b : ℕ) → o.at + o.width ≤ b → ((p : Operand) → In p os → HasByte p b → ⊥) → (p : Operand) → In p (o ∷ os) → HasByte p b → ⊥
        none_behind b from none p (inl same) has = let high : b < o.at + o.width = subst (λ (q : Operand). b < q.at + q.width) (sym same) has.1 in omega (arith, from, high)
        none_behind b from none p (inr later) has = none p later has

        dropped : (from middle to : ℕ) → from ≤ middle → middle ≤ to → drop (middle - from) (between from to section) ≡ between middle to section
        dropped from middle to le more =
            let whole : to - from ≡ (middle - from) + (to - middle) = omega (arith, le, more) in
            ap (λ (n : ℕ). drop (middle - from) (take n (drop from section))) whole ∙ drop-take (middle - from) (to - middle) (drop from section)
            ∙ ap (take (to - middle)) (drop-drop (middle - from) from section ∙ ap (λ (n : ℕ). drop n section) (let e : from + (middle - from) ≡ middle = omega (arith, le) in e))
