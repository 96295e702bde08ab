-- Texts of attributes and of rows, one more at a time.
use Rattle.std.proofs.Common.{◌≡◌, ℕ, ◌+◌, ◌<◌, ◌≤◌, ◌^◌, Bool, true, false, List, [], ◌∷◌, ◌++◌, cond, length, map, take, Option, Some, slice_get, sym, ap, subst, ◌∙◌, arith}
use Rattle.std.specs.List.{filter, flat_map}
use Rattle.std.proofs.lemmas.List.{append-nil, append_assoc, map-append, take_all}
use Rattle.std.proofs.lemmas.List.Concat.{flat_map-append}
use Rattle.std.proofs.lemmas.List.Elements.{filter-append}
use Rattle.dwz_def_reading.specs.Spelling.{le_value, reach}
use Rattle.dwz_def_reading.specs.Shape.TheVariants.{Fixed4}
use Rattle.dwz_def_reading.specs.Forms.{form_rows}
use Rattle.dwz_def_reading.specs.Entries.{RawAttr}
use Rattle.dwz_def_reading.specs.Values.{HasSpelling, Raw, SpellsShape, constant_of, shape_of, written_rows}
use Rattle.dwz_def_reading.proofs.WrittenLemmas.{le_value-less}
use Rattle.dwz_def_reading.specs.Meanings.{number_of}
use Rattle.dwz_def_reading.specs.Classes.{OfTextInStr}
use Rattle.dwz_def_reading.specs.Classes.{class_of}
use Rattle.dwz_unit.proofs.RowsFound.{take_here}
use Rattle.dwz_def_encoding.proofs.StoredClasses.{strp_form}
use Rattle.dwz_layout.specs.declared.known.TextAt.{TextAt}
use Rattle.dwz_layout_numbers.specs.Befores.{is_pair_placed}
use Rattle.dwz_encode_texts.specs.Texts.{own_text, own_texts}

-- the number of DW_FORM_strp has 4 bytes
pub strp_small : (form : ℕ) (raw : Raw) → class_of form ≡ OfTextInStr → HasSpelling form raw → reach (number_of raw) < 4294967296
unfolding form_rows
strp_small form raw class h =
    let is = strp_form form class in
    let s : SpellsShape Fixed4 (constant_of h.pair) h.bytes raw = subst (λ (n : ℕ). SpellsShape (shape_of written_rows n) (constant_of h.pair) h.bytes raw) (h.of_form ∙ is) h.spelled in
    let value : reach (number_of raw) ≡ le_value h.bytes = ap (λ (r : Raw). reach (number_of r)) s.value ∙ s.spelled.value in
    let less : le_value h.bytes < 256 ^ 4 = subst (λ (k : ℕ). le_value h.bytes < 256 ^ k) s.spelled.len (le_value-less h.bytes h.are_bytes) in
    omega arith

-- ---- attributes

module _ (offsets : List ℕ) (base : Option ℕ) where
  abbrev placed : RawAttr → Bool
  placed a = is_pair_placed a.pair

  one : (a : RawAttr) (b : Bool) → is_pair_placed a.pair ≡ b → own_texts offsets base (a ∷ []) ≡ cond b (own_text offsets base a ∷ []) []
  one a true e = ap (λ (t : Bool). map (own_text offsets base) (cond t (a ∷ []) [])) e
  one a false e = ap (λ (t : Bool). map (own_text offsets base) (cond t (a ∷ []) [])) e

  -- one more
  pub texts_more : (attrs : List RawAttr) (j : ℕ) (a : RawAttr) (b : Bool) → slice_get attrs j ≡ Some a → is_pair_placed a.pair ≡ b
      → own_texts offsets base (take (j + 1) attrs) ≡ own_texts offsets base (take j attrs) ++ cond b (own_text offsets base a ∷ []) []
  texts_more attrs j a b e p =
      ap (own_texts offsets base) (take_here attrs j a e)
      ∙ ap (map (own_text offsets base)) (filter-append placed (take j attrs) (a ∷ []))
      ∙ map-append (own_text offsets base) (filter placed (take j attrs)) (filter placed (a ∷ []))
      ∙ ap (λ (w : List TextAt). own_texts offsets base (take j attrs) ++ w) (one a b p)

  -- it is a text
  pub texts_push : (attrs : List RawAttr) (j : ℕ) (a : RawAttr) (old now new : List TextAt) (t : TextAt) → slice_get attrs j ≡ Some a → is_pair_placed a.pair ≡ true
      → now ≡ old ++ own_texts offsets base (take j attrs) → t ≡ own_text offsets base a → new ≡ now ++ t ∷ [] → new ≡ old ++ own_texts offsets base (take (j + 1) attrs)
  texts_push attrs j a old now new t e p h is push =
      push ∙ (λ i. h i ++ is i ∷ []) ∙ append_assoc old (own_texts offsets base (take j attrs)) (own_text offsets base a ∷ [])
      ∙ ap (λ (w : List TextAt). old ++ w) (sym (texts_more attrs j a true e p))

  -- it is none
  pub texts_stay : (attrs : List RawAttr) (j : ℕ) (a : RawAttr) (old now : List TextAt) → slice_get attrs j ≡ Some a → is_pair_placed a.pair ≡ false
      → now ≡ old ++ own_texts offsets base (take j attrs) → now ≡ old ++ own_texts offsets base (take (j + 1) attrs)
  texts_stay attrs j a old now e p h =
      h ∙ ap (λ (w : List TextAt). old ++ w) (sym (append-nil (own_texts offsets base (take j attrs))) ∙ sym (texts_more attrs j a false e p))

  -- there is no other
  pub texts_all : (attrs : List RawAttr) (j : ℕ) (old now : List TextAt) → length attrs ≤ j → now ≡ old ++ own_texts offsets base (take j attrs) → now ≡ old ++ own_texts offsets base attrs
  texts_all attrs j old now le h = h ∙ ap (λ (w : List RawAttr). old ++ own_texts offsets base w) (take_all j attrs le)

-- ---- items one behind the other

pub flat_more : {X Y : Type 0} (f : X → List Y) (xs : List X) (i : ℕ) (x : X) → slice_get xs i ≡ Some x → flat_map f (take (i + 1) xs) ≡ flat_map f (take i xs) ++ f x
flat_more {X} {Y} f xs i x e =
    ap (flat_map f) (take_here xs i x e) ∙ flat_map-append f (take i xs) (x ∷ []) ∙ ap (λ (w : List Y). flat_map f (take i xs) ++ w) (append-nil (f x))

pub map_more : {X Y : Type 0} (f : X → Y) (xs : List X) (i : ℕ) (x : X) → slice_get xs i ≡ Some x → map f (take (i + 1) xs) ≡ map f (take i xs) ++ f x ∷ []
map_more f xs i x e = ap (map f) (take_here xs i x e) ∙ map-append f (take i xs) (x ∷ [])

-- one of a list's images more
pub map_push : {X Y : Type 0} (f : X → Y) (xs : List X) (i : ℕ) (x : X) (old now new : List Y) (y : Y) → slice_get xs i ≡ Some x → now ≡ old ++ map f (take i xs) → y ≡ f x → new ≡ now ++ y ∷ []
    → new ≡ old ++ map f (take (i + 1) xs)
map_push {X} {Y} f xs i x old now new y e h is push =
    push ∙ (λ j. h j ++ is j ∷ []) ∙ append_assoc old (map f (take i xs)) (f x ∷ []) ∙ ap (λ (w : List Y). old ++ w) (sym (map_more f xs i x e))

pub flat_all : {X Y : Type 0} (f : X → List Y) (xs : List X) (i : ℕ) (now : List Y) → length xs ≤ i → now ≡ flat_map f (take i xs) → now ≡ flat_map f xs
flat_all f xs i now le h = h ∙ ap (flat_map f) (take_all i xs le)

pub map_all : {X Y : Type 0} (f : X → Y) (xs : List X) (i : ℕ) (old now : List Y) → length xs ≤ i → now ≡ old ++ map f (take i xs) → now ≡ old ++ map f xs
map_all {X} {Y} f xs i old now le h = h ∙ ap (λ (w : List X). old ++ map f w) (take_all i xs le)

-- one more of two lists that show the same
pub maps_push : {X Y Z : Type 0} (f : X → Z) (g : Y → Z) (xs : List X) (i : ℕ) (x : X) (old new : List Y) (y : Y) → slice_get xs i ≡ Some x → map g old ≡ map f (take i xs) → g y ≡ f x
    → new ≡ old ++ y ∷ [] → map g new ≡ map f (take (i + 1) xs)
maps_push f g xs i x old new y e h is push = ap (map g) push ∙ map-append g old (y ∷ []) ∙ (λ j. h j ++ is j ∷ []) ∙ sym (map_more f xs i x e)
