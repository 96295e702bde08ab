-- Items one behind the other: reading them and spelling them.
use Rattle.std.proofs.Common.{◌≡◌, ℕ, zero, suc, ◌+◌, ◌<◌, List, [], ◌∷◌, ◌++◌, length, Option, Some, None, Result, Ok, Err, refl, sym, ap, subst, ◌∙◌, arith, append_assoc}
use Rattle.std.proofs.lemmas.List.{append-nil, length-append}
use Rattle.dwz_bytes.specs.Input.{Input}
use Rattle.dwz_bytes.specs.Reading.{◌>>=◌}
use Rattle.dwz_bytes.proofs.FixedLemmas.{same_front}
use Rattle.dwz_def_reading.specs.Items.{NothingStands, SpellsItems, after_item, items_at, items_from}
use Rattle.dwz_def_reading.proofs.PartLemmas.{same_error, same_input, same_value}

-- what was read from i to j is some bytes
pub record Takes (Spells : List ℕ → Type 0) (i j : Input) : Type 0 where
  pub front : List ℕ
  pub spelled : Spells front
  pub parts : i.rest ≡ front ++ j.rest
  pub place : j.at ≡ i.at + length front

-- what reading an item, or the end, has to do with how they are spelled
pub record ItemLaws {X E : Type 0} (Item : List X → List ℕ → X → Type 0) (End : List ℕ → Type 0) (item : List X → Input → Result (Option X × Input) E) : Type 0 where
  pub found : (earlier : List X) (i j : Input) (x : X) → item earlier i ≡ Ok (Some x, j) → Takes (λ bytes. Item earlier bytes x) i j
  pub ended : (earlier : List X) (i j : Input) → item earlier i ≡ Ok (None, j) → Takes End i j
  pub again : (earlier : List X) (at : ℕ) (x : X) (front rest : List ℕ) → Item earlier front x → item earlier (record { at = at; rest = front ++ rest })
      ≡ Ok (Some x, record { at = at + length front; rest = rest })
  pub end_again : (earlier : List X) (at : ℕ) (front rest : List ℕ) → End front → item earlier (record { at = at; rest = front ++ rest }) ≡ Ok (None, record { at = at + length front; rest = rest })
  pub some_bytes : (earlier : List X) (front : List ℕ) (x : X) → Item earlier front x → 0 < length front

abbrev pub Input_at : ℕ → List ℕ → Input
Input_at at rest = record { at = at; rest = rest }

module _ {X E : Type 0} (Item : List X → List ℕ → X → Type 0) (End : List ℕ → Type 0) (item : List X → Input → Result (Option X × Input) E) (stop : E) (laws : ItemLaws Item End item) where
  -- an item takes a byte at least
  pub moves : (earlier : List X) (i j : Input) (x : X) → item earlier i ≡ Ok (Some x, j) → length j.rest < length i.rest
  moves earlier i j x e =
      let t = laws.found earlier i j x e in
      let some = laws.some_bytes earlier t.front x t.spelled in
      omega (arith, some, ap length t.parts, length-append t.front j.rest)

  -- one more step changes nothing, where there are as many as bytes
  enough : (k m : ℕ) (earlier : List X) (i : Input) → length i.rest < k → length i.rest < m → items_from item stop k earlier i ≡ items_from item stop m earlier i
  unfolding items_from
  enough zero m earlier i lt less = absurd (omega (arith, lt))
  enough (suc k) zero earlier i lt less = absurd (omega (arith, less))
  enough (suc k) (suc m) earlier i lt less = go (λ e j shorter less'. enough k m e j shorter less') (item earlier i) refl where
    go : ((e : List X) (j : Input) → length j.rest < k → length j.rest < m → items_from item stop k e j ≡ items_from item stop m e j) → (r : Result (Option X × Input) E) → item earlier i ≡ r
        → (r >>= after_item (items_from item stop k) earlier) ≡ (r >>= after_item (items_from item stop m) earlier)
    go below (Err e) is = refl
    go below (Ok (None, j)) is = refl
    go below (Ok (Some x, j)) is = let shorter = moves earlier i j x is in below (earlier ++ x ∷ []) j (omega (arith, shorter, lt)) (omega (arith, shorter, less))

  -- the items are the first of them, and those behind it
  pub items_step : (earlier : List X) (i : Input) → items_at item stop earlier i ≡ (item earlier i >>= after_item (items_at item stop) earlier)
  unfolding items_at items_from
  items_step earlier i = go (item earlier i) refl where
    go : (r : Result (Option X × Input) E) → item earlier i ≡ r → (r >>= after_item (items_from item stop (length i.rest)) earlier) ≡ (r >>= after_item (items_at item stop) earlier)
    go (Err e) is = refl
    go (Ok (None, j)) is = refl
    go (Ok (Some x, j)) is = let shorter = moves earlier i j x is in enough (length i.rest) (suc (length j.rest)) (earlier ++ x ∷ []) j shorter (omega arith)

  pub step_some : (earlier : List X) (i j : Input) (x : X) → item earlier i ≡ Ok (Some x, j) → items_at item stop earlier i ≡ items_at item stop (earlier ++ x ∷ []) j
  step_some earlier i j x e = items_step earlier i ∙ ap (λ (r : Result (Option X × Input) E). r >>= after_item (items_at item stop) earlier) e

  pub step_end : (earlier : List X) (i j : Input) → item earlier i ≡ Ok (None, j) → items_at item stop earlier i ≡ Ok (earlier, j)
  step_end earlier i j e = items_step earlier i ∙ ap (λ (r : Result (Option X × Input) E). r >>= after_item (items_at item stop) earlier) e

  pub step_fails : (earlier : List X) (i : Input) (f : E) → item earlier i ≡ Err f → items_at item stop earlier i ≡ Err f
  step_fails earlier i f e = items_step earlier i ∙ ap (λ (r : Result (Option X × Input) E). r >>= after_item (items_at item stop) earlier) e

  -- what was read behind the earlier items
  pub record Read (earlier : List X) (i : Input) (all : List X) (j : Input) : Type 0 where
    pub items : List X
    pub joined : all ≡ earlier ++ items
    pub taken : Takes (SpellsItems Item End earlier items) i j

  found_in : (n : ℕ) (earlier : List X) (i j : Input) (all : List X) → length i.rest < n → items_at item stop earlier i ≡ Ok (all, j) → Read earlier i all j
  found_in zero earlier i j all lt e = absurd (omega (arith, lt))
  found_in (suc n) earlier i j all lt e = go (λ e k g. found_in n e k j all g) (item earlier i) refl (sym (items_step earlier i) ∙ e) where
    go : ((e : List X) (k : Input) → length k.rest < n → items_at item stop e k ≡ Ok (all, j) → Read e k all j) → (r : Result (Option X × Input) E) → item earlier i ≡ r
        → (r >>= after_item (items_at item stop) earlier) ≡ Ok (all, j) → Read earlier i all j
    go below (Err e) is f = absurd cc
    go below (Ok (None, k)) is f =
        let same : earlier ≡ all = same_value earlier all k j (after_item (items_at item stop) earlier (None, k)) refl f in
        let to : k ≡ j = same_input earlier all k j (after_item (items_at item stop) earlier (None, k)) refl f in
        record { items = []; joined = sym same ∙ sym (append-nil earlier); taken = subst (λ (q : Input). Takes End i q) to (laws.ended earlier i k is) }
    go below (Ok (Some x, k)) is f =
        let t = laws.found earlier i k x is in
        let shorter = moves earlier i k x is in
        let more = below (earlier ++ x ∷ []) k (omega (arith, shorter, lt)) f in
        record {
          items = x ∷ more.items;
          joined = more.joined ∙ append_assoc earlier (x ∷ []) more.items;
          taken = record {
            front = t.front ++ more.taken.front;
            spelled = record { front = t.front; first = t.spelled; back = more.taken.front; second = more.taken.spelled; parts = refl };
            parts = t.parts ∙ ap (λ (w : List ℕ). t.front ++ w) more.taken.parts ∙ sym (append_assoc t.front more.taken.front j.rest);
            place = omega (arith, t.place, more.taken.place, length-append t.front more.taken.front);
          };
        }

  pub items_found : (earlier : List X) (i j : Input) (all : List X) → items_at item stop earlier i ≡ Ok (all, j) → Read earlier i all j
  items_found earlier i j all e = found_in (suc (length i.rest)) earlier i j all (omega arith) e

  -- an item is read, and then those behind it
  one_again : (earlier : List X) (at : ℕ) (x : X) (front rest : List ℕ) → Item earlier front x
      → items_at item stop earlier (Input_at at (front ++ rest)) ≡ items_at item stop (earlier ++ x ∷ []) (Input_at (at + length front) rest)
  one_again earlier at x front rest is = items_step earlier (Input_at at (front ++ rest)) ∙ ap (λ (r : Result (Option X × Input) E). r >>= after_item (items_at item stop) earlier)
      (laws.again earlier at x front rest is)

  two_parts : (bytes front back rest : List ℕ) → bytes ≡ front ++ back → bytes ++ rest ≡ front ++ (back ++ rest)
  two_parts bytes front back rest parts = ap (λ (w : List ℕ). w ++ rest) parts ∙ append_assoc front back rest

  place_behind : (at : ℕ) (bytes front back : List ℕ) → bytes ≡ front ++ back → at + length front + length back ≡ at + length bytes
  place_behind at bytes front back parts = omega (arith, ap length parts, length-append front back)

  pub items_again : (items earlier : List X) (at : ℕ) (front rest : List ℕ) → SpellsItems Item End earlier items front
      → items_at item stop earlier (Input_at at (front ++ rest)) ≡ Ok (earlier ++ items, Input_at (at + length front) rest)
  items_again [] earlier at front rest is =
      items_step earlier (Input_at at (front ++ rest))
      ∙ ap (λ (r : Result (Option X × Input) E). r >>= after_item (items_at item stop) earlier) (laws.end_again earlier at front rest is)
      ∙ ap (λ (all : List X). Ok (all, Input_at (at + length front) rest)) (sym (append-nil earlier))
  items_again (x ∷ items) earlier at bytes rest is =
      let more = items_again items (earlier ++ x ∷ []) (at + length is.front) is.back rest is.second in
      ap (λ (w : List ℕ). items_at item stop earlier (Input_at at w)) (two_parts bytes is.front is.back rest is.parts)
      ∙ one_again earlier at x is.front (is.back ++ rest) is.first
      ∙ more
      ∙ ap (λ (all : List X). Ok (all, Input_at (at + length is.front + length is.back) rest)) (append_assoc earlier (x ∷ []) items)
      ∙ ap (λ (n : ℕ). Ok (earlier ++ x ∷ items, Input_at n rest)) (place_behind at bytes is.front is.back is.parts)

  -- ---- where items break off

  -- the items before a fault, and the place behind them where no item is read
  pub record Stops (earlier : List X) (i : Input) (f : E) : Type 0 where
    pub items : List X
    pub front : List ℕ
    pub rest : List ℕ
    pub spelled : SpellsItems Item (λ b. b ≡ []) earlier items front
    pub parts : i.rest ≡ front ++ rest
    pub fails : item (earlier ++ items) (Input_at (i.at + length front) rest) ≡ Err f

  stops_in : (n : ℕ) (earlier : List X) (i : Input) (f : E) → length i.rest < n → items_at item stop earlier i ≡ Err f → Stops earlier i f
  stops_in zero earlier i f lt e = absurd (omega (arith, lt))
  stops_in (suc n) earlier i f lt e = go (λ e k g. stops_in n e k f g) (item earlier i) refl (sym (items_step earlier i) ∙ e) where
    go : ((e : List X) (k : Input) → length k.rest < n → items_at item stop e k ≡ Err f → Stops e k f) → (r : Result (Option X × Input) E) → item earlier i ≡ r
        → (r >>= after_item (items_at item stop) earlier) ≡ Err f → Stops earlier i f
    go below (Err d) is g =
        let same : d ≡ f = same_error d f (Err d >>= after_item (items_at item stop) earlier) refl g in
        let place : i.at + 0 ≡ i.at = omega arith in
        record {
          items = [];
          front = [];
          rest = i.rest;
          spelled = refl;
          parts = refl;
          fails = ap (λ (all : List X). item all (Input_at (i.at + 0) i.rest)) (append-nil earlier) ∙ ap (λ (at : ℕ). item earlier (Input_at at i.rest)) place ∙ is ∙ ap (λ (w : E). Err w) same;
        }
    go below (Ok (None, k)) is g = absurd cc
    go below (Ok (Some x, k)) is g =
        let t = laws.found earlier i k x is in
        let shorter = moves earlier i k x is in
        let more = below (earlier ++ x ∷ []) k (omega (arith, shorter, lt)) g in
        let place : i.at + length (t.front ++ more.front) ≡ k.at + length more.front = omega (arith, t.place, length-append t.front more.front) in
        record {
          items = x ∷ more.items;
          front = t.front ++ more.front;
          rest = more.rest;
          spelled = record { front = t.front; first = t.spelled; back = more.front; second = more.spelled; parts = refl };
          parts = t.parts ∙ ap (λ (w : List ℕ). t.front ++ w) more.parts ∙ sym (append_assoc t.front more.front more.rest);
          fails =
              ap (λ (all : List X). item all (Input_at (i.at + length (t.front ++ more.front)) more.rest)) (sym (append_assoc earlier (x ∷ []) more.items))
              ∙ ap (λ (at : ℕ). item ((earlier ++ x ∷ []) ++ more.items) (Input_at at more.rest)) place
              ∙ more.fails;
        }

  pub items_stop : (earlier : List X) (i : Input) (f : E) → items_at item stop earlier i ≡ Err f → Stops earlier i f
  items_stop earlier i f e = stops_in (suc (length i.rest)) earlier i f (omega arith) e

  -- items are read up to where they break off
  pub items_up_to : (items earlier : List X) (at : ℕ) (front rest : List ℕ) → SpellsItems Item (λ b. b ≡ []) earlier items front
      → items_at item stop earlier (Input_at at (front ++ rest)) ≡ items_at item stop (earlier ++ items) (Input_at (at + length front) rest)
  items_up_to [] earlier at front rest is =
      let place : at ≡ at + length front = omega (arith, ap length is) in
      ap (λ (w : List ℕ). items_at item stop earlier (Input_at at (w ++ rest))) is
      ∙ ap (λ (n : ℕ). items_at item stop earlier (Input_at n rest)) place
      ∙ ap (λ (all : List X). items_at item stop all (Input_at (at + length front) rest)) (sym (append-nil earlier))
  items_up_to (x ∷ items) earlier at bytes rest is =
      let more = items_up_to items (earlier ++ x ∷ []) (at + length is.front) is.back rest is.second in
      ap (λ (w : List ℕ). items_at item stop earlier (Input_at at w)) (two_parts bytes is.front is.back rest is.parts)
      ∙ one_again earlier at x is.front (is.back ++ rest) is.first
      ∙ more
      ∙ ap (λ (all : List X). items_at item stop all (Input_at (at + length is.front + length is.back) rest)) (append_assoc earlier (x ∷ []) items)
      ∙ ap (λ (n : ℕ). items_at item stop (earlier ++ x ∷ items) (Input_at n rest)) (place_behind at bytes is.front is.back is.parts)

  -- where an item isn't read, none stands, and the end neither
  pub fails_nothing : (earlier : List X) (at : ℕ) (rest : List ℕ) (f : E) → item earlier (Input_at at rest) ≡ Err f → NothingStands Item End earlier rest
  fails_nothing earlier at rest f e = record {
    no_item = λ x front behind is parts. let r = laws.again earlier at x front behind is in let g : item earlier (Input_at at (front ++ behind)) ≡ Err f =
        ap (λ (w : List ℕ). item earlier (Input_at at w)) (sym parts) ∙ e in cc;
    no_end = λ front behind is parts. let r = laws.end_again earlier at front behind is in let g : item earlier (Input_at at (front ++ behind)) ≡ Err f =
        ap (λ (w : List ℕ). item earlier (Input_at at w)) (sym parts) ∙ e in cc;
  }

  pub nothing_fails : (earlier : List X) (at : ℕ) (rest : List ℕ) → NothingStands Item End earlier rest → (f : E) × (item earlier (Input_at at rest) ≡ Err f)
  nothing_fails earlier at rest nothing = go (item earlier (Input_at at rest)) refl where
    go : (r : Result (Option X × Input) E) → item earlier (Input_at at rest) ≡ r → (f : E) × (item earlier (Input_at at rest) ≡ Err f)
    go (Err f) is = (f, is)
    go (Ok (None, j)) is = let t = laws.ended earlier (Input_at at rest) j is in absurd (nothing.no_end t.front j.rest t.spelled t.parts)
    go (Ok (Some x, j)) is = let t = laws.found earlier (Input_at at rest) j x is in absurd (nothing.no_item x t.front j.rest t.spelled t.parts)

  -- no spelling begins another, since both are read
  pub items_one : (a b more others : List ℕ) (xs ys : List X) → SpellsItems Item End [] xs a → SpellsItems Item End [] ys b → a ++ more ≡ b ++ others → (a ≡ b) × (xs ≡ ys)
  items_one a b more others xs ys p q e =
      let left = items_again xs [] 0 a more p in
      let right = items_again ys [] 0 b others q in
      let both = ap (λ (w : List ℕ). items_at item stop [] (Input_at 0 w)) e ∙ right in
      let same : xs ≡ ys = same_value xs ys (Input_at (0 + length a) more) (Input_at (0 + length b) others) (items_at item stop [] (Input_at 0 (a ++ more))) left both in
      let to = same_input xs ys (Input_at (0 + length a) more) (Input_at (0 + length b) others) (items_at item stop [] (Input_at 0 (a ++ more))) left both in
      let len : length a ≡ length b = let at = ap (λ (k : Input). k.at) to in omega arith in
      (same_front a b more others len e, same)
