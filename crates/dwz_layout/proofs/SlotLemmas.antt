-- A shape that is put behind the others: it and those before it are found in slots and under keys.
use Rattle.std.proofs.Common.{◌≡◌, ℕ, zero, suc, ◌+◌, ◌<◌, ◌≤◌, ◌⊎◌, inl, inr, ⊎_elim, Bool, true, false, List, [], ◌∷◌, ◌++◌, All, Some, None, fold, get_or, length, length-append, take, refl, sym, ap, subst, ◌∙◌, arith}
use Rattle.std.specs.Prelude.{◌%◌, ◌^◌, map, slice_get, slice_index, slice_set}
use Rattle.std.specs.BTreeMap.{BTreeMap}
use Rattle.std.specs.Global.{Vec}
use Rattle.std.specs.Map.{update}
use Rattle.std.specs.Str.{bytes_eq}
use Rattle.std.proofs.lemmas.Bool.{cases_eq, cases_lt}
use Rattle.std.proofs.lemmas.Grind.{get_or-set_at}
use Rattle.std.proofs.lemmas.List.{get_or-map, get_or-set_other, length-map, length-set, map-set, take_more}
use Rattle.std.proofs.lemmas.List.Sums.{fold-append}
use Rattle.std.proofs.lemmas.Slice.Eq.{bytes_eq-Decides}
use Rattle.dwz_model.specs.declared.place.Pair.{Pair}
use Rattle.dwz_abbrev.specs.declared.decl.Decl.{Decl}
use Rattle.dwz_abbrev.specs.Views.{decl_view, views}
use Rattle.dwz_def_encoding.specs.Writing.{DeclarationShape, code_in, same_shape}
use Rattle.dwz_def_encoding.proofs.SameLemmas.{same_shape-same, same_shape-true}
use Rattle.dwz_def_encoding.proofs.WriteCodes.{code_grows, code_last}
use Rattle.dwz_layout.specs.declared.slots.Slots.{Slots}
use Rattle.dwz_layout.specs.Keys.{HasBits, key_of, mixed}
use Rattle.dwz_layout.specs.Maps.{FindsNone, FindsSame, Puts, look}
use Rattle.dwz_layout.specs.Shapes.{shape_in, shapes_in}
use Rattle.dwz_layout.specs.Slots.{AreFound, HoldOthers, HoldsOther, IsFree, home_of, mixed_pair, pair_word, place_by, places_in}
use Rattle.dwz_layout.proofs.KeyLemmas.{key_same}
use Rattle.dwz_layout.proofs.ShapeLemmas.{code_other, placed, shape_at}

shape_cases : (a b : DeclarationShape) → (a ≡ b) ⊎ (a ≡ b → ⊥)
shape_cases a b = go (same_shape a b) refl where
  go : (test : Bool) → same_shape a b ≡ test → (a ≡ b) ⊎ (a ≡ b → ⊥)
  go true e = inl (same_shape-true a b e)
  go false e = inr (λ same. absurd (let is : same_shape a b ≡ true = ap (same_shape a) (sym same) ∙ same_shape-same a in cc))

-- what stands at a place stays there
still : (shapes : List DeclarationShape) (s t : DeclarationShape) (p : ℕ) → slice_get shapes p ≡ Some t → slice_get (shapes ++ s ∷ []) p ≡ Some t
still [] s t zero is = absurd cc
still [] s t (suc p) is = absurd cc
still (u ∷ shapes) s t zero is = is
still (u ∷ shapes) s t (suc p) is = still shapes s t p is

last_there : (shapes : List DeclarationShape) (s : DeclarationShape) → slice_get (shapes ++ s ∷ []) (length shapes) ≡ Some s
last_there [] s = refl
last_there (u ∷ shapes) s = last_there shapes s

one_more : (shapes : List DeclarationShape) (s : DeclarationShape) → length (shapes ++ s ∷ []) ≡ length shapes + 1
one_more shapes s = omega (arith, length-append shapes (s ∷ []))

-- one slot more that holds another shape
pub others_more : (slots : List ℕ) (shapes : List DeclarationShape) (s : DeclarationShape) (start count : ℕ) → HoldOthers slots shapes s start count
    → (start + count < length slots → HoldsOther slots shapes s (start + count)) → HoldOthers slots shapes s start (count + 1)
others_more slots shapes s start count before here = λ step lt inside. ⊎_elim
    (λ (l : step < count). before step l inside)
    (λ (e : step ≡ count). subst (λ (k : ℕ). HoldsOther slots shapes s (start + k)) (sym e) (here (omega arith)))
    (grind arith)

-- nothing stands anywhere
pub found_none : (codes : BTreeMap (Vec ℕ) ℕ) (slots : List ℕ) → FindsNone codes → AreFound codes slots []
unfolding code_in
found_none codes slots none = record {
  own = λ place s is. absurd cc;
  free = λ s n f. refl;
  crowded = λ s bits h. none (key_of s);
  kept = λ s bits. inl (none (key_of s));
}

pub found_same : (codes after : BTreeMap (Vec ℕ) ℕ) (slots : List ℕ) (shapes : List DeclarationShape) → FindsSame codes after → AreFound codes slots shapes → AreFound after slots shapes
found_same codes after slots shapes same are = record {
  own = are.own;
  free = are.free;
  crowded = λ s bits h. same (key_of s) ∙ are.crowded s bits h;
  kept = λ s bits. ⊎_elim
      (λ (k : look codes (key_of s) ≡ None). inl (same (key_of s) ∙ k))
      (λ (k : look codes (key_of s) ≡ code_in 1 shapes s). inr (same (key_of s) ∙ k))
      (are.kept s bits);
}

-- what was put under a key that had nothing, and taken away again
pub forgotten : (codes put after : BTreeMap (Vec ℕ) ℕ) (key : List ℕ) (code : ℕ) → look codes key ≡ None → Puts codes put key (Some code) → Puts put after key None → FindsSame codes after
forgotten codes put after key code none first later = λ row. go row (bytes_eq key row) refl where
  go : (row : List ℕ) (test : Bool) → bytes_eq key row ≡ test → look after row ≡ look codes row
  go row true e =
      let same : key ≡ row = (bytes_eq-Decides key row).0 e in
      later row ∙ (rw e refl) ∙ sym (subst (λ (r : List ℕ). look codes r ≡ None) same none)
  go row false e = later row ∙ (rw e refl) ∙ first row ∙ (rw e refl)

-- ---- one shape more

module _ (shapes : List DeclarationShape) (s : DeclarationShape) (old new : List ℕ) (len : length new ≡ length old)
    (stays : (n : ℕ) → slice_index old n < length shapes → slice_index new n ≡ slice_index old n)
    (freed : (n : ℕ) → length shapes < slice_index new n → slice_index new n ≡ slice_index old n)
    (codes : BTreeMap (Vec ℕ) ℕ) (are : AreFound codes old shapes) where
  abbrev more : List DeclarationShape
  more = shapes ++ s ∷ []

  one_before : (t : DeclarationShape) (count : ℕ) → count < 16 → (home_of t + count < length new → HoldsOther new more t (home_of t + count)) → HoldOthers old shapes t (home_of t) count
      → (HoldOthers old shapes t (home_of t) (count + 1)) ⊎ (code_in 1 shapes t ≡ None)
  one_before t count few here before =
      let n : ℕ = home_of t + count in
      ⊎_elim
      (λ (inside : n < length old). ⊎_elim
      (λ (taken : slice_index old n < length shapes). inl (others_more old shapes t (home_of t) count before
      (λ l. (record { taken = taken; other = λ is. (here (omega (arith, len, inside))).other (ap (slice_get more) (stays n taken) ∙ still shapes s t (slice_index old n) is) }))))
      (λ (free : length shapes ≤ slice_index old n). inr (are.free t n (record { steps = count; few = few; place = refl; before = before; inside = inside; free = free })))
      (cases_lt (slice_index old n) (length shapes)))
      (λ (outside : length old ≤ n). inl (others_more old shapes t (home_of t) count before (λ l. absurd (omega (arith, l, outside)))))
      (cases_lt n (length old))

  -- where slots hold others than t, they did before, or one was free for t, which wasn't there
  others_before : (t : DeclarationShape) (count : ℕ) → count ≤ 16 → HoldOthers new more t (home_of t) count → (HoldOthers old shapes t (home_of t) count) ⊎ (code_in 1 shapes t ≡ None)
  others_before t zero few h = inl (λ step lt inside. absurd (omega (arith, lt)))
  others_before t (suc count) few h = ⊎_elim
      (λ (before : HoldOthers old shapes t (home_of t) count). ⊎_elim
      (λ (next : HoldOthers old shapes t (home_of t) (count + 1)). inl (λ step lt inside. next step (omega (arith, lt)) inside))
      (λ (none : code_in 1 shapes t ≡ None). inr none)
      (one_before t count (omega (arith, few)) (h count (omega arith)) before))
      (λ (none : code_in 1 shapes t ≡ None). inr none)
      (others_before t count (omega (arith, few)) (λ step lt inside. h step (omega (arith, lt)) inside))

  free_before : (t : DeclarationShape) (n : ℕ) → IsFree new more t (home_of t) n → code_in 1 shapes t ≡ None
  free_before t n f =
      let long = one_more shapes s in
      let high = f.free in
      let above : length shapes < slice_index new n = omega (arith, long, high) in
      let same = freed n above in
      let inside = f.inside in
      let few = f.few in
      ⊎_elim
      (λ (before : HoldOthers old shapes t (home_of t) f.steps). are.free t n (record {
        steps = f.steps;
        few = f.few;
        place = f.place;
        before = before;
        inside = omega (arith, len, inside);
        free = omega (arith, same, above);
      }))
      (λ (none : code_in 1 shapes t ≡ None). none)
      (others_before t f.steps (omega (arith, few)) f.before)

  module _ (none : code_in 1 shapes s ≡ None) (code : ℕ) (next : code ≡ length shapes + 1) (after : BTreeMap (Vec ℕ) ℕ)
      (others : (t : DeclarationShape) → All HasBits t.pairs → (s ≡ t → ⊥) → look after (key_of t) ≡ look codes (key_of t))
      (crowded : All HasBits s.pairs → HoldOthers new more s (home_of s) 16 → look after (key_of s) ≡ Some code)
      (kept : All HasBits s.pairs → (look after (key_of s) ≡ None) ⊎ (look after (key_of s) ≡ Some code))
      (filled : (n : ℕ) → IsFree new more s (home_of s) n → ⊥) where
    last : code_in 1 more s ≡ Some code
    last = code_last 1 shapes s none ∙ ap (λ (n : ℕ). Some n) (omega (arith, next))

    bits_there : (t : DeclarationShape) → s ≡ t → All HasBits t.pairs → All HasBits s.pairs
    bits_there t e bits = subst (λ (u : DeclarationShape). All HasBits u.pairs) (sym e) bits

    crowded_after : (t : DeclarationShape) → All HasBits t.pairs → HoldOthers new more t (home_of t) 16 → look after (key_of t) ≡ code_in 1 more t
    crowded_after t bits h = ⊎_elim
        (λ (e : s ≡ t). subst (λ (u : DeclarationShape). look after (key_of u) ≡ code_in 1 more u) e
        (crowded (bits_there t e bits) (subst (λ (u : DeclarationShape). HoldOthers new more u (home_of u) 16) (sym e) h) ∙ sym last))
        (λ (d : s ≡ t → ⊥). others t bits d ∙ ⊎_elim
        (λ (before : HoldOthers old shapes t (home_of t) 16). are.crowded t bits before)
        (λ (absent : code_in 1 shapes t ≡ None). ⊎_elim
        (λ (k : look codes (key_of t) ≡ None). k ∙ sym absent)
        (λ (k : look codes (key_of t) ≡ code_in 1 shapes t). k)
        (are.kept t bits))
        (others_before t 16 (omega arith) h) ∙ sym (code_other 1 shapes s t d))
        (shape_cases s t)

    kept_after : (t : DeclarationShape) → All HasBits t.pairs → (look after (key_of t) ≡ None) ⊎ (look after (key_of t) ≡ code_in 1 more t)
    kept_after t bits = ⊎_elim
        (λ (e : s ≡ t). subst (λ (u : DeclarationShape). (look after (key_of u) ≡ None) ⊎ (look after (key_of u) ≡ code_in 1 more u)) e
        (⊎_elim
        (λ (k : look after (key_of s) ≡ None). inl k)
        (λ (k : look after (key_of s) ≡ Some code). inr (k ∙ sym last))
        (kept (bits_there t e bits))))
        (λ (d : s ≡ t → ⊥). ⊎_elim
        (λ (k : look codes (key_of t) ≡ None). inl (others t bits d ∙ k))
        (λ (k : look codes (key_of t) ≡ code_in 1 shapes t). inr (others t bits d ∙ k ∙ sym (code_other 1 shapes s t d)))
        (are.kept t bits))
        (shape_cases s t)

    found_after : AreFound after new more
    found_after = record {
      own = λ place t is. ⊎_elim
          (λ (before : slice_get shapes place ≡ Some t). code_grows 1 shapes (s ∷ []) t (place + 1) (are.own place t before))
          (λ (lastly : (place ≡ length shapes) × (s ≡ t)).
          let at = lastly.0 in
          ap (code_in 1 more) (sym lastly.1) ∙ last ∙ ap (λ (n : ℕ). Some n) (omega (arith, next, at)))
          (placed shapes s place t is);
      free = λ t n f. ⊎_elim
          (λ (e : s ≡ t). absurd (filled n (subst (λ (u : DeclarationShape). IsFree new more u (home_of u) n) (sym e) f)))
          (λ (d : s ≡ t → ⊥). code_other 1 shapes s t d ∙ free_before t n f)
          (shape_cases s t);
      crowded = crowded_after;
      kept = kept_after;
    }

module _ (shapes : List DeclarationShape) (s : DeclarationShape) (old : List ℕ) (codes : BTreeMap (Vec ℕ) ℕ) (are : AreFound codes old shapes) (code : ℕ) (next : code ≡ length shapes + 1) where
  -- in a slot that was free for it
  module _ (n : ℕ) (free : IsFree old shapes s (home_of s) n) where
    abbrev filled_slots : List ℕ
    filled_slots = slice_set old n (length shapes)

    here : (m : ℕ) → m ≡ n → slice_index filled_slots m ≡ length shapes
    here m e = get_or-set_at old n m (length shapes) 0 e free.inside

    stays_put : (m : ℕ) → slice_index old m < length shapes → slice_index filled_slots m ≡ slice_index old m
    stays_put m taken = get_or-set_other old n m (length shapes) 0
        (λ (e : m ≡ n). let low : slice_index old n < length shapes = subst (λ (k : ℕ). slice_index old k < length shapes) e taken in let high = free.free in omega (arith, low, high))

    was_free : (m : ℕ) → length shapes < slice_index filled_slots m → slice_index filled_slots m ≡ slice_index old m
    was_free m above = ⊎_elim
        (λ (e : m ≡ n). absurd (let at = here m e in omega (arith, at, above)))
        (λ (d : m ≡ n → ⊥). get_or-set_other old n m (length shapes) 0 d)
        (cases_eq m n)

    -- its slot holds it
    not_other : (count : ℕ) → free.steps < count → HoldOthers filled_slots (shapes ++ s ∷ []) s (home_of s) count → ⊥
    not_other count lt h =
        let at : slice_index filled_slots (home_of s + free.steps) ≡ length shapes = here (home_of s + free.steps) (sym free.place) in
        let place = free.place in
        let inside = free.inside in
        let long : length filled_slots ≡ length old = length-set old n (length shapes) in
        (h free.steps lt (omega (arith, place, inside, long))).other (ap (slice_get (shapes ++ s ∷ [])) at ∙ last_there shapes s)

    not_free : (m : ℕ) → IsFree filled_slots (shapes ++ s ∷ []) s (home_of s) m → ⊥
    not_free m f =
        let long = one_more shapes s in
        let high = f.free in
        let mine = f.place in
        let theirs = free.place in
        let within = f.inside in
        let size : length filled_slots ≡ length old = length-set old n (length shapes) in
        ⊎_elim
        (λ (lt : f.steps < free.steps).
        let taken : slice_index old m < length shapes =
        subst (λ (k : ℕ). slice_index old k < length shapes) (sym f.place) (free.before f.steps lt (omega (arith, mine, within, size))).taken in
        let same = stays_put m taken in
        omega (arith, taken, same, high, long))
        (λ (ge : free.steps ≤ f.steps). ⊎_elim
        (λ (gt : free.steps < f.steps). not_other f.steps gt f.before)
        (λ (e : free.steps ≡ f.steps). let at = here m (omega (arith, mine, theirs, e)) in omega (arith, at, high, long))
        (grind arith))
        (cases_lt f.steps free.steps)

    pub found_slot : AreFound codes (slice_set old n (length shapes)) (shapes ++ s ∷ [])
    found_slot =
        let none = are.free s n free in
        found_after shapes s old filled_slots (length-set old n (length shapes)) stays_put was_free codes are none code next codes (λ t bits d. refl)
        (λ bits h. absurd (not_other 16 free.few h))
        (λ bits. ⊎_elim (λ (k : look codes (key_of s) ≡ None). inl k) (λ (k : look codes (key_of s) ≡ code_in 1 shapes s). inl (k ∙ none)) (are.kept s bits))
        not_free

  -- under its key, where others stand in its slots
  module _ (bits : All HasBits s.pairs) (others : HoldOthers old shapes s (home_of s) 16) (none : code_in 1 shapes s ≡ None) (after : BTreeMap (Vec ℕ) ℕ)
      (puts : Puts codes after (key_of s) (Some code)) where
    put_here : look after (key_of s) ≡ Some code
    put_here = let e : bytes_eq (key_of s) (key_of s) ≡ true = (bytes_eq-Decides (key_of s) (key_of s)).1 refl in puts (key_of s) ∙ (rw e refl)

    put_other : (t : DeclarationShape) → All HasBits t.pairs → (s ≡ t → ⊥) → look after (key_of t) ≡ look codes (key_of t)
    put_other t more d = puts (key_of t) ∙ go (bytes_eq (key_of s) (key_of t)) refl where
      go : (test : Bool) → bytes_eq (key_of s) (key_of t) ≡ test → update bytes_eq (look codes) (key_of s) (Some code) (key_of t) ≡ look codes (key_of t)
      go true e = absurd (d (key_same s t bits more ((bytes_eq-Decides (key_of s) (key_of t)).0 e)))
      go false e = rw e refl

    not_free_there : (m : ℕ) → IsFree old (shapes ++ s ∷ []) s (home_of s) m → ⊥
    not_free_there m f =
        let long = one_more shapes s in
        let high = f.free in
        let mine = f.place in
        let within = f.inside in
        let taken : slice_index old m < length shapes =
        subst (λ (k : ℕ). slice_index old k < length shapes) (sym f.place) (others f.steps f.few (omega (arith, mine, within))).taken in
        omega (arith, taken, high, long)

    pub found_key : AreFound after old (shapes ++ s ∷ [])
    found_key =
        found_after shapes s old old refl (λ n taken. refl) (λ n above. refl) codes are none code next after put_other (λ b h. put_here) (λ b. inr put_here) not_free_there

-- ---- what a slot holds

pub shapes_len : (decls : List Decl) → length (shapes_in (views decls)) ≡ length decls
shapes_len decls = length-map (views decls) shape_in ∙ length-map decls decl_view

-- the shape of the declaration at its place is another one
pub held_other : (decls : List Decl) (places : List ℕ) (slot place : ℕ) (d : Decl) (s : DeclarationShape) → place ≡ slice_index places slot → place < length decls → d ≡ get_or decls place d
    → (shape_in (decl_view d) ≡ s → ⊥) → HoldsOther places (shapes_in (views decls)) s slot
held_other decls places slot place d s is lt read differs = record {
  taken = omega (arith, is, lt, shapes_len decls);
  other = λ same.
      let there : slice_get (shapes_in (views decls)) place ≡ Some (shape_in (decl_view d)) = shape_at decls (views decls) place d (shape_in (decl_view d)) refl lt read refl in
      let both : Some (shape_in (decl_view d)) ≡ Some s = sym there ∙ ap (slice_get (shapes_in (views decls))) is ∙ same in
      let one : shape_in (decl_view d) ≡ s = cc in
      differs one;
}

-- ---- numbers in slots

pub slots_len : (s : Slots) → length (places_in s) ≡ length s.numbers.items
slots_len s = length-map s.numbers.items (place_by s.base)

pub place_there : (s : Slots) (n number place : ℕ) → n < length s.numbers.items → number ≡ slice_index s.numbers.items n → place ≡ place_by s.base number → place ≡ slice_index (places_in s) n
place_there s n number place lt numbered placed_by = placed_by ∙ ap (place_by s.base) numbered ∙ sym (get_or-map (place_by s.base) s.numbers.items n 0 0 lt)

-- a number that is that far behind the base stands for that place
number_back : (base place : ℕ) → base < 2 ^ 64 → place < 2 ^ 64 → place_by base ((base + place) % 2 ^ 64) ≡ place
number_back base place low small = omega (arith, low, small)

pub place_put : (numbers after : List ℕ) (base n place number : ℕ) → base < 2 ^ 64 → place < 2 ^ 64 → number ≡ (base + place) % 2 ^ 64 → after ≡ slice_set numbers n number
    → map (place_by base) after ≡ slice_set (map (place_by base) numbers) n place
place_put numbers after base n place number low small is put =
    ap (map (place_by base)) put
    ∙ map-set (place_by base) numbers n number
    ∙ ap (slice_set (map (place_by base) numbers) n) (ap (place_by base) is ∙ number_back base place low small)

-- ---- the hash of a shape
module _ (pairs : List Pair) (i : ℕ) (none : Pair) (lt : i < length pairs) where
  pub home_more : (start hash word next : ℕ) → hash ≡ fold mixed_pair start (take i pairs) → word ≡ pair_word (get_or pairs i none) → next ≡ mixed hash word → next ≡ fold mixed_pair start (take (i + 1) pairs)
  home_more start hash word next hashed worded mixed_is =
      mixed_is
      ∙ (λ j. mixed (hashed j) (worded j))
      ∙ sym (ap (fold mixed_pair start) (take_more pairs i none lt) ∙ fold-append mixed_pair start (take i pairs) (get_or pairs i none ∷ []))
