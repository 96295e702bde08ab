-- Pruning use by use, in ascending order: a use lies in the range of the one before, or begins a range behind all of them.
use Rattle.std.proofs.Common.{◌≡◌, ◌⊎◌, ℕ, zero, suc, ◌+◌, ◌-◌, ◌<◌, ◌≤◌, max, Bool, true, false, cond, leb, ltb, eqb, List, [], ◌∷◌, ◌++◌, length, get_or, take, drop, position, Option, Some, None}
use Rattle.std.proofs.Common.{IsSome, Contains, All, refl, sym, ap, subst, ◌∙◌, inl, inr, arith, append-nil, length-append, length-take, length-drop}
use Rattle.std.specs.Prelude.{SomeIff, ◌&&◌}
use Rattle.std.specs.Option.{option_map}
use Rattle.std.specs.List.Sorted.{IsStrictlyIncreasing}
use Rattle.std.proofs.lemmas.Bool.{cases_lt, eq-eqb, eqb-true, false≢true, le-ltb, leb-false, leb-true, lt-leb}
use Rattle.std.proofs.lemmas.List.{drop-drop, get_or_default, get_or_append_left, get_or_push, take-append-drop}
use Rattle.std.proofs.lemmas.List.Folds.{list_any_none}
use Rattle.std.proofs.lemmas.List.Kept.{AllPairs-from_increasing}
use Rattle.std.proofs.lemmas.List.Sums.{fails_before_first}
use Rattle.std.proofs.lemmas.List.Quantifiers.{position-Some}
use Rattle.dwz_def_reading.specs.Pruning.{bytes_kept, is_in_range, is_kept, new_number, pruned, range_end}
use Rattle.dwz_def_reading.specs.Texts.{NoZero, text_at, text_in}
use Rattle.dwz_def_reading.proofs.PruneLemmas.{all_kept, end_of_text, kept-append, kept_in_range, length_kept, none_kept, some_text}
use Rattle.dwz_def_reading.proofs.TextRowLemmas.{place_of_none}
use Rattle.dwz_def_reading.proofs.TextLemmas.{text_again, text_begins}
use Rattle.dwz_strs.specs.Pruned.{IsPruned, RisesAlong, pruning}
use Rattle.dwz_strs.specs.Steps.{end_behind}

-- ---- ranges

-- from a later place of a text on the rest of the text stands
rest_of_text : (text after : List ℕ) (k : ℕ) → NoZero text → k ≤ length text → text_in (drop k (text ++ 0 ∷ after)) ≡ Some (drop k text)
rest_of_text text after zero n le = text_again text after n
rest_of_text [] after (suc k) n le = absurd (omega (arith, le))
rest_of_text (b ∷ text) after (suc k) n le = rest_of_text text after k n.1 (omega (arith, le))

module _ (section : List ℕ) (used : ℕ) (some : IsSome (text_at section used)) where
  -- what stands at a use
  record Ranged : Type 0 where
    text : List ℕ
    after : List ℕ
    no_zero : NoZero text
    at : text_at section used ≡ Some text
    parts : drop used section ≡ text ++ 0 ∷ after
    end : range_end section used ≡ used + (length text + 1)
    within : used + (length text + 1) ≤ length section

  ranged : Ranged
  ranged =
      let t = some_text (text_at section used) some in
      let b = text_begins (drop used section) t.0 t.1 in
      record {
        text = t.0;
        after = b.after;
        no_zero = b.no_zero;
        at = t.1;
        parts = b.parts;
        end = end_of_text section t.0 used t.1;
        within = omega (arith, ap length b.parts, length-append t.0 (0 ∷ b.after), length-drop used section);
      }

  pub some_bytes : used < range_end section used
  some_bytes = let r = ranged in omega (arith, r.end)

  pub end_within : range_end section used ≤ length section
  end_within = let r = ranged in omega (arith, r.end, r.within)

  -- the range of a place in a range ends with it
  pub same_end : (at : ℕ) → used ≤ at → at < range_end section used → range_end section at ≡ range_end section used
  same_end at le lt =
      let r = ranged in
      let k = at - used in
      let bound : k ≤ length r.text = omega (arith, le, lt, r.end) in
      let place : used + k ≡ at = omega (arith, le) in
      let there : drop at section ≡ drop k (r.text ++ 0 ∷ r.after) = ap (λ (n : ℕ). drop n section) (sym place) ∙ sym (drop-drop k used section) ∙ ap (drop k) r.parts in
      let text = ap text_in there ∙ rest_of_text r.text r.after k r.no_zero bound in
      omega (arith, end_of_text section (drop k r.text) at text, r.end, length-drop k r.text, place, bound)

-- ---- the ranges so far

pub record SoFar (section uses : List ℕ) (i end : ℕ) (out moved : List ℕ) : Type 0 where
  pub within : end ≤ length section
  pub ends : (k : ℕ) → k < i → range_end section (get_or uses k 0) ≤ end
  pub inside : (k : ℕ) → i ≤ k → k < length uses → get_or uses k 0 < end → range_end section (get_or uses k 0) ≡ end
  pub bytes : out ≡ bytes_kept (is_kept section uses) 0 (take end section)
  pub count : length moved ≡ i
  pub numbers : (k : ℕ) → k < i → get_or moved k 0 ≡ new_number section uses (get_or uses k 0)

pub none_yet : (section uses : List ℕ) → SoFar section uses 0 0 [] []
unfolding bytes_kept
none_yet section uses = record {
  within = omega arith;
  ends = λ k lt. absurd (omega (arith, lt));
  inside = λ k le lt less. absurd (omega (arith, less));
  bytes = refl;
  count = refl;
  numbers = λ k lt. absurd (omega (arith, lt));
}

-- a front in two parts
take_parts : (a b : ℕ) (xs : List ℕ) → a ≤ b → b ≤ length xs → take b xs ≡ take a xs ++ take (b - a) (drop a xs)
take_parts zero b xs le within = ap (λ (n : ℕ). take n xs) (omega arith)
take_parts (suc a) zero xs le within = absurd (omega (arith, le))
take_parts (suc a) (suc b) [] le within = absurd (omega (arith, within))
take_parts (suc a) (suc b) (x ∷ xs) le within =
    ap (λ (w : List ℕ). x ∷ w) (take_parts a b xs (omega (arith, le)) (omega (arith, within)) ∙ ap (λ (n : ℕ). take a xs ++ take n (drop a xs)) (omega arith))

part_len : (a b : ℕ) (xs : List ℕ) → a ≤ b → b ≤ length xs → length (take (b - a) (drop a xs)) ≡ b - a
part_len a b xs le within = omega (arith, le, within, length-take (b - a) (drop a xs), length-drop a xs)

-- a place that is in no range of the uses
nowhere : (section uses : List ℕ) (at : ℕ) → ((k : ℕ) → k < length uses → (at < get_or uses k 0) ⊎ (range_end section (get_or uses k 0) ≤ at)) → is_kept section uses at ≡ false
unfolding is_kept
nowhere section uses at each = list_any_none (is_in_range section at) uses (λ k d lt. out k d lt (each k lt))
  where
    test : (k d : ℕ) → k < length uses → (at < get_or uses k 0) ⊎ (range_end section (get_or uses k 0) ≤ at) → is_in_range section at (get_or uses k 0) ≡ false
    test k d lt (inl below) = ap (λ (b : Bool). b && ltb at (range_end section (get_or uses k 0))) (lt-leb (get_or uses k 0) at below)
    test k d lt (inr behind) = go (leb (get_or uses k 0) at) (le-ltb at (range_end section (get_or uses k 0)) behind) where
      go : (b : Bool) → ltb at (range_end section (get_or uses k 0)) ≡ false → (b && ltb at (range_end section (get_or uses k 0))) ≡ false
      go true e = e
      go false e = refl

    out : (k d : ℕ) → k < length uses → (at < get_or uses k 0) ⊎ (range_end section (get_or uses k 0) ≤ at) → is_in_range section at (get_or uses k d) ≡ false
    out k d lt where_it_is = ap (is_in_range section at) (get_or_default uses k d 0 lt) ∙ test k d lt where_it_is

-- ---- the next use

module _ (section uses : List ℕ) (i end : ℕ) (out moved : List ℕ) (so_far : SoFar section uses i end out moved) (rises : IsStrictlyIncreasing uses) (lt : i < length uses)
    (used : ℕ) (is : used ≡ get_or uses i 0) (some : IsSome (text_at section used)) where
  later : (k : ℕ) → i < k → k < length uses → used < get_or uses k 0
  later k less within = let pair = AllPairs-from_increasing uses rises i k 0 less within in omega (arith, pair, is)

  there : Contains uses used
  there = (i, lt, get_or_default uses i used 0 lt ∙ sym is)

  -- wherever the use lies, the ranges end behind it where its own does
  pub next_is : end_behind section used end ≡ range_end section used
  next_is = go (leb end used) refl where
    go : (b : Bool) → leb end used ≡ b → cond b (range_end section used) end ≡ range_end section used
    go true e = refl
    go false e =
        let less : used < end = leb-false end used e in
        sym (subst (λ (u : ℕ). range_end section u ≡ end) (sym is) (so_far.inside i (omega arith) lt (subst (λ (u : ℕ). u < end) is less)))

  pub grows : end ≤ range_end section used
  grows = go (leb end used) refl where
    go : (b : Bool) → leb end used ≡ b → end ≤ range_end section used
    go true e = let le = leb-true end used e in omega (arith, le, some_bytes section used some)
    go false e = let n = next_is in let same : end_behind section used end ≡ end = ap (λ (b : Bool). cond b (range_end section used) end) e in omega (arith, n, same)

  -- nothing stays between the ranges before and the use
  gap : (at : ℕ) → end ≤ at → at < max used end → is_kept section uses at ≡ false
  gap at le less = nowhere section uses at (λ k within. side k within (cases_lt k i)) where
    side : (k : ℕ) → k < length uses → (k < i) ⊎ (i ≤ k) → (at < get_or uses k 0) ⊎ (range_end section (get_or uses k 0) ≤ at)
    side k within (inl before) = inr (omega (arith, so_far.ends k before, le))
    side k within (inr behind) = inl (go (cases_lt i k)) where
      go : (i < k) ⊎ (k ≤ i) → at < get_or uses k 0
      go (inl above) = omega (arith, later k above within, less, le)
      go (inr below) = let same : k ≡ i = omega (arith, behind, below) in subst (λ (n : ℕ). at < get_or uses n 0) (sym same) (omega (arith, is, less, le))

  -- all bytes stay from the use to the end of its range
  whole : (at : ℕ) → used ≤ at → at < range_end section used → is_kept section uses at ≡ true
  whole at le less = kept_in_range section uses at used there le less

  abbrev keep : ℕ → Bool
  keep = is_kept section uses

  pub bytes_next : out ++ take (range_end section used - max used end) (drop (max used end) section) ≡ bytes_kept (is_kept section uses) 0 (take (range_end section used) section)
  bytes_next =
      let next = range_end section used in
      let start = max used end in
      let fits = end_within section used some in
      let more = some_bytes section used some in
      let longer = grows in
      let end_len : length (take end section) ≡ end = omega (arith, length-take end section, so_far.within) in
      let start_len : length (take start section) ≡ start = omega (arith, length-take start section, fits, more, longer) in
      let middle = take (start - end) (drop end section) in
      let last = take (next - start) (drop start section) in
      let middle_len = part_len end start section (omega arith) (omega (arith, fits, more, longer)) in
      let last_len = part_len start next section (omega (arith, more, longer)) fits in
      let first : take start section ≡ take end section ++ middle = take_parts end start section (omega arith) (omega (arith, fits, more, longer)) in
      let second : take next section ≡ take start section ++ last = take_parts start next section (omega (arith, more, longer)) fits in
      let none : bytes_kept keep (0 + length (take end section)) middle ≡ [] =
      none_kept keep (0 + length (take end section)) middle (λ k le less. gap k (omega (arith, le, end_len)) (omega (arith, less, end_len, middle_len))) in
      let all : bytes_kept keep (0 + length (take start section)) last ≡ last =
      all_kept keep (0 + length (take start section)) last (λ k le less. whole k (omega (arith, le, start_len)) (omega (arith, less, start_len, last_len, more, longer))) in
      let to_start : bytes_kept keep 0 (take start section) ≡ out =
      ap (bytes_kept keep 0) first ∙ kept-append keep 0 (take end section) middle ∙ ap (λ (w : List ℕ). bytes_kept keep 0 (take end section) ++ w) none
      ∙ append-nil (bytes_kept keep 0 (take end section)) ∙ sym so_far.bytes in
      sym (ap (bytes_kept keep 0) second ∙ kept-append keep 0 (take start section) last ∙ (λ j. to_start j ++ all j))

  -- what stays before the use, and its range behind that
  pub number_is : length (bytes_kept (is_kept section uses) 0 (take (range_end section used) section)) ≡ new_number section uses used + (range_end section used - used)
  number_is =
      let next = range_end section used in
      let fits = end_within section used some in
      let more = some_bytes section used some in
      let used_len : length (take used section) ≡ used = omega (arith, length-take used section, fits, more) in
      let last = take (next - used) (drop used section) in
      let last_len = part_len used next section (omega (arith, more)) fits in
      let parts : take next section ≡ take used section ++ last = take_parts used next section (omega (arith, more)) fits in
      let all : bytes_kept keep (0 + length (take used section)) last ≡ last =
      all_kept keep (0 + length (take used section)) last (λ k le less. whole k (omega (arith, le, used_len)) (omega (arith, less, used_len, last_len, more))) in
      ap (λ (w : List ℕ). length (bytes_kept keep 0 w)) parts
      ∙ ap length (kept-append keep 0 (take used section) last ∙ ap (λ (w : List ℕ). bytes_kept keep 0 (take used section) ++ w) all)
      ∙ length-append (bytes_kept keep 0 (take used section)) last ∙ ap (λ (n : ℕ). length (bytes_kept keep 0 (take used section)) + n) last_len

  pub number_below : new_number section uses used ≤ used
  number_below = omega (arith, length_kept keep 0 (take used section), length-take used section)

  -- what the code asks of the numbers
  pub record Bounds (next : ℕ) : Type 0 where
    pub start : max used end ≤ next
    pub inside : next ≤ length section
    pub behind : used ≤ next

  pub bounds : (next : ℕ) → next ≡ end_behind section used end → Bounds next
  bounds next is_next =
      let to : next ≡ range_end section used = is_next ∙ next_is in
      record {
        start = omega (arith, to, grows, some_bytes section used some);
        inside = omega (arith, to, end_within section used some);
        behind = omega (arith, to, some_bytes section used some);
      }

  pub record Counted (next : ℕ) (new : List ℕ) : Type 0 where
    pub enough : next - used ≤ length new
    pub small : length new - (next - used) ≤ used

  pub counted : (next : ℕ) (new : List ℕ) → next ≡ end_behind section used end → new ≡ out ++ take (next - max used end) (drop (max used end) section) → Counted next new
  counted next new is_next is_new =
      let to : next ≡ range_end section used = is_next ∙ next_is in
      let bytes : new ≡ bytes_kept (is_kept section uses) 0 (take (range_end section used) section) = is_new ∙ ap (λ (m : ℕ). out ++ take (m - max used end) (drop (max used end) section)) to
      ∙ bytes_next in
      record {
        enough = omega (arith, to, ap length bytes, number_is);
        small = omega (arith, to, ap length bytes, number_is, number_below);
      }

  pub next_use : (next n : ℕ) (new numbers : List ℕ) → next ≡ end_behind section used end → new ≡ out ++ take (next - max used end) (drop (max used end) section) → n ≡ length new - (next - used)
      → numbers ≡ moved ++ n ∷ []
      → SoFar section uses (i + 1) next new numbers
  next_use next n new numbers is_next is_new is_n is_numbers =
      let to : next ≡ range_end section used = is_next ∙ next_is in
      let bytes : new ≡ bytes_kept (is_kept section uses) 0 (take (range_end section used) section) = is_new ∙ ap (λ (m : ℕ). out ++ take (m - max used end) (drop (max used end) section)) to
      ∙ bytes_next in
      let number : n ≡ new_number section uses used = omega (arith, is_n, to, ap length bytes, number_is) in
      record {
        within = omega (arith, to, end_within section used some);
        ends = λ k less. end_of k (cases_lt k i) less to;
        inside = λ k le less below. omega (arith, to, same_end section used some (get_or uses k 0) (omega (arith, later k (omega (arith, le)) less)) (omega (arith, below, to)));
        bytes = bytes ∙ ap (λ (m : ℕ). bytes_kept (is_kept section uses) 0 (take m section)) (sym to);
        count = omega (arith, ap length is_numbers, length-append moved (n ∷ []), so_far.count);
        numbers = λ k less. ap (λ (w : List ℕ). get_or w k 0) is_numbers ∙ number_of k (cases_lt k i) less number;
      }
    where
      end_of : (k : ℕ) → (k < i) ⊎ (i ≤ k) → k < i + 1 → next ≡ range_end section used → range_end section (get_or uses k 0) ≤ next
      end_of k (inl before) less to = omega (arith, so_far.ends k before, to, grows)
      end_of k (inr behind) less to =
          let same : i ≡ k = omega (arith, behind, less) in
          let it : get_or uses k 0 ≡ used = ap (λ (m : ℕ). get_or uses m 0) (sym same) ∙ sym is in
          omega (arith, to, ap (range_end section) it)

      number_of : (k : ℕ) → (k < i) ⊎ (i ≤ k) → k < i + 1 → n ≡ new_number section uses used → get_or (moved ++ n ∷ []) k 0 ≡ new_number section uses (get_or uses k 0)
      number_of k (inl before) less number = get_or_append_left moved (n ∷ []) 0 k (omega (arith, so_far.count, before)) ∙ so_far.numbers k before
      number_of k (inr behind) less number =
          let same : i ≡ k = omega (arith, behind, less) in
          let it : used ≡ get_or uses k 0 = is ∙ ap (λ (m : ℕ). get_or uses m 0) same in
          get_or_push moved n 0 k (so_far.count ∙ same) ∙ number ∙ ap (new_number section uses) it

-- ---- the same, as the loop sees the uses

module _ (section uses given : List ℕ) (i end : ℕ) (out moved : List ℕ) (seen : uses ≡ given) (rises : IsStrictlyIncreasing given) (texts : All (λ used. IsSome (text_at section used)) given)
    (so_far : SoFar section uses i end out moved) (lt : i < length uses) where
  ascend : IsStrictlyIncreasing uses
  ascend = subst IsStrictlyIncreasing (sym seen) rises

  some : IsSome (text_at section (get_or uses i 0))
  some = subst (λ (us : List ℕ). IsSome (text_at section (get_or us i 0))) (sym seen) (texts i 0 (omega (arith, lt, ap length seen)))

  module _ (next start : ℕ) (is_next : next ≡ end_behind section (get_or uses i 0) end) (is_start : start ≡ max (get_or uses i 0) end) where
    pub bounds_at : (start ≤ next) × (next ≤ length section) × (get_or uses i 0 ≤ next)
    bounds_at =
        let b = bounds section uses i end out moved so_far ascend lt (get_or uses i 0) refl some next is_next in
        (omega (arith, b.start, is_start), b.inside, b.behind)

    module _ (new : List ℕ) (is_new : new ≡ out ++ take (next - start) (drop start section)) where
      as_max : new ≡ out ++ take (next - max (get_or uses i 0) end) (drop (max (get_or uses i 0) end) section)
      as_max = is_new ∙ ap (λ (m : ℕ). out ++ take (next - m) (drop m section)) is_start

      pub counted_at : (next - get_or uses i 0 ≤ length new) × (length new - (next - get_or uses i 0) ≤ get_or uses i 0)
      counted_at = let n = counted section uses i end out moved so_far ascend lt (get_or uses i 0) refl some next new is_next as_max in (n.enough, n.small)

      pub next_at : (n : ℕ) (numbers : List ℕ) → n ≡ length new - (next - get_or uses i 0) → numbers ≡ moved ++ n ∷ [] → SoFar section uses (i + 1) next new numbers
      next_at n numbers is_n is_numbers = next_use section uses i end out moved so_far ascend lt (get_or uses i 0) refl some next n new numbers is_next as_max is_n is_numbers

-- ---- all uses

module _ (section uses : List ℕ) (i end : ℕ) (out moved : List ℕ) (so_far : SoFar section uses i end out moved) (rises : IsStrictlyIncreasing uses) (done : length uses ≤ i)
    (within : i ≤ length uses) where
  pub rises_along : RisesAlong uses moved
  rises_along = record { rises = rises; long = omega (arith, so_far.count, done, within) }

  all_bytes : out ≡ pruned section uses
  all_bytes =
      let keep : ℕ → Bool = is_kept section uses in
      let behind = drop end section in
      let end_len : length (take end section) ≡ end = omega (arith, length-take end section, so_far.within) in
      let none : bytes_kept (is_kept section uses) (0 + length (take end section)) behind ≡ [] =
      none_kept (is_kept section uses) (0 + length (take end section)) behind
      (λ k le less. nowhere section uses k (λ m lt. inr (omega (arith, so_far.ends m (omega (arith, lt, done)), le, end_len)))) in
      sym (ap (bytes_kept (is_kept section uses) 0) (sym (take-append-drop end section)) ∙ kept-append (is_kept section uses) 0 (take end section) behind
      ∙ ap (λ (w : List ℕ). bytes_kept (is_kept section uses) 0 (take end section) ++ w) none ∙ append-nil (bytes_kept (is_kept section uses) 0 (take end section)) ∙ sym so_far.bytes)

  pub all_pruned : IsPruned section uses (pruning out uses moved)
  all_pruned = record { bytes = all_bytes; moved = λ offset. number offset (position (λ (u : ℕ). eqb u offset) uses) refl }
    where
      number : (offset : ℕ) (o : Option ℕ) → position (λ (u : ℕ). eqb u offset) uses ≡ o → SomeIff (option_map (λ (k : ℕ). get_or moved k 0) o) (Contains uses offset) (new_number section uses offset)
      number offset None none = λ c.
          let fails = fails_before_first (λ (u : ℕ). eqb u offset) uses c.0 offset (omega (arith, c.1, place_of_none (λ (u : ℕ). eqb u offset) uses none)) in
          false≢true (sym fails ∙ eq-eqb (get_or uses c.0 offset) offset c.2)
      number offset (Some k) some =
          let p = position-Some (λ (u : ℕ). eqb u offset) uses k 0 some in
          let at : get_or uses k 0 ≡ offset = eqb-true (get_or uses k 0) offset p.1 in
          ((k, p.0, get_or_default uses k offset 0 p.0 ∙ at), so_far.numbers k (omega (arith, p.0, within, done)) ∙ ap (new_number section uses) at)
