-- The sections that are written again: which they are, where they are, and that their contents stand there.
use Rattle.std.proofs.Common.{◌≡◌, inl, inr, ℕ, zero, suc, ◌+◌, ◌-◌, ◌<◌, ◌≤◌, Bool, true, false, cond, eqb, List, [], ◌∷◌, ◌++◌, length, get_or, replicate, Option, Some, None, refl, sym, ap, subst}
use Rattle.std.proofs.Common.{◌∙◌, append_assoc, arith}
use Rattle.std.specs.Prelude.{All, Contains, slice_get}
use Rattle.std.specs.Int.{next_multiple_of}
use Rattle.std.proofs.lemmas.Bool.{eq-eqb, eqb-true}
use Rattle.std.proofs.lemmas.List.{length-append, length-replicate}
use Rattle.std.proofs.lemmas.List.Elements.{All-cons, All-head, All-nil, All-tail}
use Rattle.std.proofs.lemmas.List.Sorted.{All-permutation, Contains-permutation}
use Rattle.dwz_def_reading.proofs.GroupLemmas.{chosen}
use Rattle.dwz_def_reading.specs.declared.elf.Moved.{Moved}
use Rattle.dwz_def_reading.specs.declared.elf.Section.{Section}
use Rattle.dwz_def_reading.specs.ElfLayout.{IsOrder, align_at, is_moving, keep_end, moved_in, moving, placed_end, placed_from, spread}
use Rattle.dwz_def_reading.specs.ElfReading.{ElfView}
use Rattle.dwz_def_reading.proofs.PlacedLemmas.{placed_end-least, up_le}
use Rattle.dwz_def_output.proofs.PieceLemmas.{Has, has_middle}

-- ---- where they are

pub length-spread : (e : ElfView) (contents : ℕ → List ℕ) (start : ℕ) (order : List (ℕ × ℕ)) → start + length (spread contents start (placed_from e contents start order))
    ≡ placed_end start (placed_from e contents start order)
unfolding placed_from spread
length-spread e contents start [] = omega arith
length-spread e contents start (key ∷ order) =
    let at = next_multiple_of start (align_at e key.1) in
    let next = at + length (contents key.1) in
    let rest = spread contents next (placed_from e contents next order) in
    let here : start ≤ at = up_le start (align_at e key.1) in
    let more : next + length rest ≡ placed_end next (placed_from e contents next order) = length-spread e contents next order in
    omega (arith, here, more, length-append (replicate (at - start) 0) (contents key.1 ++ rest), length-append (contents key.1) rest, length-replicate {A = ℕ} (at - start) 0)

-- the content of an index stands where its section is, among bytes that begin at the start and end there or behind
pub record IsPlaced (contents : ℕ → List ℕ) (start end : ℕ) (bytes : List ℕ) (index : ℕ) (m : Moved) : Type 0 where
  pub size : m.size ≡ length (contents index)
  pub behind : start ≤ m.at
  pub within : m.at + m.size ≤ end
  pub here : Has bytes m.at (contents index)

five : (f z c s b : List ℕ) → f ++ ((z ++ (c ++ s)) ++ b) ≡ (f ++ (z ++ c)) ++ (s ++ b)
five f z c s b = simp append_assoc

four : (f z c s b : List ℕ) → f ++ ((z ++ (c ++ s)) ++ b) ≡ (f ++ z) ++ (c ++ (s ++ b))
four f z c s b = simp append_assoc

pub placed_there : (e : ElfView) (contents : ℕ → List ℕ) (start : ℕ) (order : List (ℕ × ℕ)) (front back : List ℕ) (index : ℕ) (m : Moved) → length front ≡ start
    → moved_in (placed_from e contents start order) index ≡ Some m → IsPlaced contents start (placed_end start (placed_from e contents start order))
    (front ++ (spread contents start (placed_from e contents start order) ++ back)) index m
unfolding placed_from spread
placed_there e contents start [] front back index m len is = absurd cc
placed_there e contents start (key ∷ order) front back index m len is =
    let at = next_multiple_of start (align_at e key.1) in
    let content = contents key.1 in
    let next = at + length content in
    let zeros : List ℕ = replicate (at - start) 0 in
    let placed = placed_from e contents next order in
    let rest = spread contents next placed in
    let end = placed_end next placed in
    let here : start ≤ at = up_le start (align_at e key.1) in
    let more : next ≤ end = placed_end-least e contents next order in
    let gap : length zeros ≡ at - start = length-replicate {A = ℕ} (at - start) 0 in
    elim (chosen (eqb key.1 index) (Some (record { index = key.1; at = at; size = length content })) (moved_in placed index) (Some m) is) [
      | inl p ↦
          let same : key.1 ≡ index = eqb-true key.1 index p.0 in
          let is_m : record { index = key.1; at = at; size = length content } ≡ m = cc in
          let before : length (front ++ zeros) ≡ at = omega (arith, length-append front zeros, gap, len, here) in
          let stands : Has (front ++ ((zeros ++ (content ++ rest)) ++ back)) at content =
          subst (λ (w : List ℕ). Has w at content) (sym (four front zeros content rest back)) (has_middle (front ++ zeros) content (rest ++ back) at before) in
          let all : IsPlaced contents start end (front ++ ((zeros ++ (content ++ rest)) ++ back)) key.1 (record { index = key.1; at = at; size = length content }) =
          record { size = refl; behind = here; within = more; here = stands } in
          subst (λ (i : ℕ). IsPlaced contents start end (front ++ ((zeros ++ (content ++ rest)) ++ back)) i m) same
          (subst (λ (n : Moved). IsPlaced contents start end (front ++ ((zeros ++ (content ++ rest)) ++ back)) key.1 n) is_m all)
      | inr p ↦
          let before : length (front ++ (zeros ++ content)) ≡ next = omega (arith, length-append front (zeros ++ content), length-append zeros content, gap, len, here) in
          let all = placed_there e contents next order (front ++ (zeros ++ content)) back index m before p.1 in
          subst (λ (w : List ℕ). IsPlaced contents start end w index m) (sym (five front zeros content rest back))
          (record { size = all.size; behind = omega (arith, all.behind, here); within = all.within; here = all.here })
    ]

-- ---- which they are

-- an index that has a place is in the order
placed_of_order : (e : ElfView) (contents : ℕ → List ℕ) (start : ℕ) (order : List (ℕ × ℕ)) (P : ℕ × ℕ → Type 0) (index : ℕ) (m : Moved) → All P order
    → moved_in (placed_from e contents start order) index ≡ Some m → (key : ℕ × ℕ) × (key.1 ≡ index) × P key
unfolding placed_from
placed_of_order e contents start [] P index m all is = absurd cc
placed_of_order e contents start (key ∷ order) P index m all is =
    let at = next_multiple_of start (align_at e key.1) in
    let next = at + length (contents key.1) in
    elim (chosen (eqb key.1 index) (Some (record { index = key.1; at = at; size = length (contents key.1) })) (moved_in (placed_from e contents next order) index) (Some m) is) [
      | inl p ↦ (key, eqb-true key.1 index p.0, All-head P key order all)
      | inr p ↦ placed_of_order e contents next order P index m (All-tail P key order all) p.1
    ]

-- an index that is in the order has a place
order_is_placed : (e : ElfView) (contents : ℕ → List ℕ) (start : ℕ) (order : List (ℕ × ℕ)) (key : ℕ × ℕ) → Contains order key
    → (m : Moved) × (moved_in (placed_from e contents start order) key.1 ≡ Some m)
unfolding placed_from
order_is_placed e contents start [] key (k, less, is) = absurd (omega (arith, less))
order_is_placed e contents start (first ∷ order) key (k, less, is) =
    by (order_is_placed e contents (next_multiple_of start (align_at e first.1) + length (contents first.1)) order key) k less is (eqb first.1 key.1) refl where
      here : Moved
      here = record { index = first.1; at = next_multiple_of start (align_at e first.1); size = length (contents first.1) }

      others : List Moved
      others = placed_from e contents (next_multiple_of start (align_at e first.1) + length (contents first.1)) order

      by : (Contains order key → (m : Moved) × (moved_in others key.1 ≡ Some m)) → (j : ℕ) → j < length (first ∷ order) → get_or (first ∷ order) j key ≡ key → (b : Bool) → eqb first.1 key.1 ≡ b
          → (m : Moved) × (cond b (Some here) (moved_in others key.1) ≡ Some m)
      by more j lt same true e = (here, refl)
      by more zero lt same false e = absurd (let yes : eqb first.1 key.1 ≡ true = eq-eqb first.1 key.1 (ap (λ (w : ℕ × ℕ). w.1) same) in cc)
      by more (suc j) lt same false test = more (j, omega (arith, lt), same)

-- the sections of a list from an index on
abbrev Begin : List Section → ℕ → List Section → Type 0
Begin all index xs = (k : ℕ) (s : Section) → slice_get xs k ≡ Some s → slice_get all (index + k) ≡ Some s

begin_next : (all : List Section) (index : ℕ) (x : Section) (xs : List Section) → Begin all index (x ∷ xs) → Begin all (index + 1) xs
begin_next all index x xs begin k s is =
    let place : index + suc k ≡ index + 1 + k = omega arith in
    ap (slice_get all) (sym place) ∙ begin (suc k) s is

-- a key is the offset and the index of a section that is written again
abbrev IsKey : ℕ → List Section → ℕ × ℕ → Type 0
IsKey keep all key = (s : Section) × (slice_get all key.1 ≡ Some s) × (is_moving keep s.header ≡ true)

moving_are_keys : (keep : ℕ) (all : List Section) (index : ℕ) (xs : List Section) → Begin all index xs → All (IsKey keep all) (moving keep index xs)
unfolding moving
moving_are_keys keep all index [] begin = All-nil (IsKey keep all)
moving_are_keys keep all index (x ∷ xs) begin =
    by (moving_are_keys keep all (index + 1) xs (begin_next all index x xs begin)) (is_moving keep x.header) refl where
      at_index : slice_get all index ≡ Some x
      at_index = let place : index + 0 ≡ index = omega arith in ap (slice_get all) (sym place) ∙ begin 0 x refl

      by : All (IsKey keep all) (moving keep (index + 1) xs) → (b : Bool) → is_moving keep x.header ≡ b
          → All (IsKey keep all) (cond b ((x.header.offset, index) ∷ moving keep (index + 1) xs) (moving keep (index + 1) xs))
      by rest true moves = All-cons (IsKey keep all) (x.header.offset, index) (moving keep (index + 1) xs) (x, at_index, moves) rest
      by rest false stays = rest

moving_has : (keep index : ℕ) (xs : List Section) (k : ℕ) (s : Section) → slice_get xs k ≡ Some s → is_moving keep s.header ≡ true → Contains (moving keep index xs) (s.header.offset, index + k)
unfolding moving
moving_has keep index [] k s is moves = absurd cc
moving_has keep index (x ∷ xs) zero s is moves =
    let same : x ≡ s = cc in
    let test : is_moving keep x.header ≡ true = ap (λ (w : Section). is_moving keep w.header) same ∙ moves in
    let offset = ap (λ (w : Section). (w.header.offset, index)) same in
    let place : index + 0 ≡ index = omega arith in
    rw (test, place) (0, omega arith, offset)
moving_has keep index (x ∷ xs) (suc k) s is moves =
    let rest = moving_has keep (index + 1) xs k s is moves in
    let place : index + 1 + k ≡ index + suc k = omega arith in
    let there : Contains (moving keep (index + 1) xs) (s.header.offset, index + suc k) = subst (λ (n : ℕ). Contains (moving keep (index + 1) xs) (s.header.offset, n)) place rest in
    elim (is_moving keep x.header) as (λ b. Contains (cond b ((x.header.offset, index) ∷ moving keep (index + 1) xs) (moving keep (index + 1) xs)) (s.header.offset, index + suc k)) [
      | true ↦ (suc there.0, omega (arith, there.1), there.2)
      | false ↦ there
    ]

module _ (e : ElfView) (order : List (ℕ × ℕ)) (is_order : IsOrder e order) (contents : ℕ → List ℕ) (start : ℕ) where
  -- a section that is written again has a place, and no other has
  pub moves_there : (index : ℕ) (s : Section) → slice_get e.sections index ≡ Some s → is_moving (keep_end e) s.header ≡ true
      → (m : Moved) × (moved_in (placed_from e contents start order) index ≡ Some m)
  moves_there index s is moves =
      let keep = keep_end e in
      let key : ℕ × ℕ = (s.header.offset, 0 + index) in
      let found : Contains order key = Contains-permutation (moving keep 0 e.sections) order key is_order.same (moving_has keep 0 e.sections index s is moves) in
      let there : (m : Moved) × (moved_in (placed_from e contents start order) (0 + index) ≡ Some m) = order_is_placed e contents start order key found in
      let place : 0 + index ≡ index = omega arith in
      (there.0, ap (moved_in (placed_from e contents start order)) (sym place) ∙ there.1)

  pub stays_there : (index : ℕ) (s : Section) → slice_get e.sections index ≡ Some s → is_moving (keep_end e) s.header ≡ false → moved_in (placed_from e contents start order) index ≡ None
  stays_there index s is stays = by (moved_in (placed_from e contents start order) index) refl where
    keys : All (IsKey (keep_end e) e.sections) order
    keys = All-permutation (IsKey (keep_end e) e.sections) (moving (keep_end e) 0 e.sections) order is_order.same
        (moving_are_keys (keep_end e) e.sections 0 e.sections (λ k t here. let place : 0 + k ≡ k = omega arith in ap (slice_get e.sections) place ∙ here))

    by : (o : Option Moved) → moved_in (placed_from e contents start order) index ≡ o → o ≡ None
    by None here = refl
    by (Some m) here =
        let found = placed_of_order e contents start order (IsKey (keep_end e) e.sections) index m keys here in
        let at_index : slice_get e.sections index ≡ Some found.2.0 = ap (slice_get e.sections) (sym found.1) ∙ found.2.1 in
        let same : found.2.0 ≡ s = cc in
        let moves : is_moving (keep_end e) s.header ≡ true = ap (λ (w : Section). is_moving (keep_end e) w.header) (sym same) ∙ found.2.2 in
        absurd cc
