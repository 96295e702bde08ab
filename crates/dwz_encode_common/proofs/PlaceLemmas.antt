-- One text after the other: what was found of the first is found of all.
use Rattle.std.proofs.Common.{◌≡◌, ◌⊎◌, ℕ, suc, ◌+◌, ◌<◌, ◌≤◌, Bool, true, false, List, [], ◌∷◌, ◌++◌, length, drop, Option, Some, None, BTreeMap, refl, sym, ap, subst, ◌∙◌, inl, inr, arith, ◌==◌}
use Rattle.std.specs.Prelude.{MatchOption, if◌then◌else◌}
use Rattle.std.specs.Option.{option_map}
use Rattle.std.specs.Str.{bytes_eq}
use Rattle.std.proofs.lemmas.Slice.Eq.{bytes_eq-Decides}
use Rattle.dwz_def_reading.specs.Texts.{text_in}
use Rattle.std.proofs.lemmas.List.{append-nil, append_assoc, drop-drop, length-drop}
use Rattle.dwz_def_tops.specs.Spots.{same_numbers}
use Rattle.dwz_def_tops.proofs.SpotLemmas.{numbers_same, numbers_true}
use Rattle.dwz_def_encoding.specs.Placing.{has_text, text_place}
use Rattle.dwz_def_readback.specs.Files.{texts_from}
use denote.Ref.{Bor}
use Rattle.dwz_encode_common.specs.Places.{IsPut, PlacesThem, look}

-- how many bytes texts have, each with a zero byte
unfoldable pub size : List (List ℕ) → ℕ
size [] = 0
size (t ∷ texts) = length t + 1 + size texts

-- ---- a text behind others

is_or_not : (b : Bool) → (b ≡ true) ⊎ (b ≡ false)
is_or_not true = inl refl
is_or_not false = inr refl

module _ (t q : List ℕ) where
  -- what is among the others keeps its place
  pub still : (texts : List (List ℕ)) → has_text texts q ≡ true → (has_text (texts ++ t ∷ []) q ≡ true) × (text_place (texts ++ t ∷ []) q ≡ text_place texts q)
  unfolding has_text text_place
  still [] is = absurd cc
  still (x ∷ texts) is = by (same_numbers x q) (λ is. still texts is) is where
    by : (b : Bool) → (has_text texts q ≡ true → (has_text (texts ++ t ∷ []) q ≡ true) × (text_place (texts ++ t ∷ []) q ≡ text_place texts q))
        → elim b as (λ _. Bool) [ true ↦ true | false ↦ has_text texts q ] ≡ true
        → (elim b as (λ _. Bool) [ true ↦ true | false ↦ has_text (texts ++ t ∷ []) q ] ≡ true)
        × (elim b as (λ _. ℕ) [ true ↦ 0 | false ↦ length x + 1 + text_place (texts ++ t ∷ []) q ] ≡ elim b as (λ _. ℕ) [ true ↦ 0 | false ↦ length x + 1 + text_place texts q ])
    by true go is = (refl, refl)
    by false go is = (let rest = go is in (rest.0, ap (λ n. length x + 1 + n) rest.1))

  -- what isn't is behind them, where it is the one
  pub new_there : (texts : List (List ℕ)) → has_text texts q ≡ false → same_numbers t q ≡ true
      → (has_text (texts ++ t ∷ []) q ≡ true) × (text_place (texts ++ t ∷ []) q ≡ size texts)
  unfolding has_text text_place size
  new_there [] free is =
      (ap (λ (b : Bool). elim b as (λ _. Bool) [ true ↦ true | false ↦ false ]) is, ap (λ (b : Bool). elim b as (λ _. ℕ) [ true ↦ 0 | false ↦ length t + 1 + 0 ]) is)
  new_there (x ∷ texts) free is = by (same_numbers x q) (λ never. new_there texts never is) free where
    by : (b : Bool) → (has_text texts q ≡ false → (has_text (texts ++ t ∷ []) q ≡ true) × (text_place (texts ++ t ∷ []) q ≡ size texts))
        → elim b as (λ _. Bool) [ true ↦ true | false ↦ has_text texts q ] ≡ false
        → (elim b as (λ _. Bool) [ true ↦ true | false ↦ has_text (texts ++ t ∷ []) q ] ≡ true)
        × (elim b as (λ _. ℕ) [ true ↦ 0 | false ↦ length x + 1 + text_place (texts ++ t ∷ []) q ] ≡ length x + 1 + size texts)
    by true go never = absurd cc
    by false go never = (let rest = go never in (rest.0, ap (λ n. length x + 1 + n) rest.1))

  -- or nowhere
  pub none_there : (texts : List (List ℕ)) → has_text texts q ≡ false → same_numbers t q ≡ false → has_text (texts ++ t ∷ []) q ≡ false
  unfolding has_text
  none_there [] free other = ap (λ (b : Bool). elim b as (λ _. Bool) [ true ↦ true | false ↦ false ]) other
  none_there (x ∷ texts) free other = by (same_numbers x q) (λ never. none_there texts never other) free where
    by : (b : Bool) → (has_text texts q ≡ false → has_text (texts ++ t ∷ []) q ≡ false)
        → elim b as (λ _. Bool) [ true ↦ true | false ↦ has_text texts q ] ≡ false
        → elim b as (λ _. Bool) [ true ↦ true | false ↦ has_text (texts ++ t ∷ []) q ] ≡ false
    by true go never = absurd cc
    by false go never = go never

pub size_behind : (texts : List (List ℕ)) (t : List ℕ) → size (texts ++ t ∷ []) ≡ size texts + (length t + 1)
unfolding size
size_behind [] t = let z : length t + 1 + 0 ≡ 0 + (length t + 1) = omega arith in z
size_behind (x ∷ texts) t = (let rest = size_behind texts t in omega (arith, rest))

-- ---- it is put under its place

abbrev PlacesOne : List (List ℕ) → List ℕ → Option ℕ → Type 0
PlacesOne texts q found = MatchOption found (has_text texts q ≡ false) (λ at. (has_text texts q ≡ true) × (at ≡ text_place texts q))

module _ (texts : List (List ℕ)) (t : List ℕ) (old after : List ℕ → Option ℕ) (places : PlacesThem texts old) where
  -- what is there already stays where it is
  kept : (q : List ℕ) (found : Option ℕ) → PlacesOne texts q found → (has_text texts q ≡ false → same_numbers t q ≡ false) → PlacesOne (texts ++ t ∷ []) q found
  kept q None none other = none_there t q texts none (other none)
  kept q (Some at) is other = (let more = still t q texts is.0 in (more.0, is.1 ∙ sym more.1))

  -- the text has a place
  had : (at : ℕ) → old t ≡ Some at → has_text texts t ≡ true
  had at e = by (old t) e (places t) where
    by : (found : Option ℕ) → found ≡ Some at → PlacesOne texts t found → has_text texts t ≡ true
    by None e is = absurd cc
    by (Some other) e is = is.0

  -- or it gets one
  there : (q : List ℕ) → t ≡ q → old t ≡ None → PlacesOne (texts ++ t ∷ []) q (Some (size texts))
  there q same e = by (old t) e (places t) where
    by : (found : Option ℕ) → found ≡ None → PlacesOne texts t found → PlacesOne (texts ++ t ∷ []) q (Some (size texts))
    by (Some at) e is = absurd cc
    by None e none =
        let no : has_text texts q ≡ false = subst (λ (w : List ℕ). has_text texts w ≡ false) same none in
        let is : same_numbers t q ≡ true = subst (λ (w : List ℕ). same_numbers t w ≡ true) same (numbers_same t) in
        let new = new_there t q texts no is in
        (new.0, sym new.1)

  other_numbers : (q : List ℕ) → (t ≡ q → ⊥) → same_numbers t q ≡ false
  other_numbers q apart = by (same_numbers t q) refl where
    by : (b : Bool) → same_numbers t q ≡ b → same_numbers t q ≡ false
    by true e = absurd (apart (numbers_true t q e))
    by false e = e

  pub put_text : IsPut old after t (size texts) → PlacesThem (texts ++ t ∷ []) after
  put_text (inl is) q =
      subst (PlacesOne (texts ++ t ∷ []) q) (sym (is.1 q)) (kept q (old q) (places q) (λ none. other_numbers q (λ same. absurd (
      let z : true ≡ false = sym (had is.0.0 is.0.1) ∙ subst (λ (w : List ℕ). has_text texts w ≡ false) (sym same) none in cc))))
  put_text (inr is) q = subst (PlacesOne (texts ++ t ∷ []) q) (sym (is.1 q)) (by (bytes_eq t q) refl) where
    by : (b : Bool) → bytes_eq t q ≡ b → PlacesOne (texts ++ t ∷ []) q (if b then Some (size texts) else old q)
    by true e = there q ((bytes_eq-Decides t q).0 e) is.0
    by false e = kept q (old q) (places q) (λ none. other_numbers q (λ same. absurd (let z : true ≡ false = sym ((bytes_eq-Decides t q).1 same) ∙ e in cc)))

-- ---- texts of a section

-- the first of what is left, and the others
pub first_text : (found bytes t : List ℕ) → text_in bytes ≡ Some t → texts_from found bytes ≡ (found ++ t) ∷ texts_from [] (drop (length t + 1) bytes)
unfolding text_in texts_from
first_text found [] t is = absurd cc
first_text found (b ∷ bytes) t is = by (b == 0) (λ more s front. first_text more bytes s front) is where
  Go : Type 0
  Go = (more s : List ℕ) → text_in bytes ≡ Some s → texts_from more bytes ≡ (more ++ s) ∷ texts_from [] (drop (length s + 1) bytes)

  some : Go → (m : Option (List ℕ)) → text_in bytes ≡ m → option_map (λ t. b ∷ t) m ≡ Some t
      → texts_from (found ++ b ∷ []) bytes ≡ (found ++ t) ∷ texts_from [] (drop (length t + 1) (b ∷ bytes))
  some go None front e = absurd cc
  some go (Some s) front e =
      let whole : b ∷ s ≡ t = cc in
      let is : texts_from (found ++ b ∷ []) bytes ≡ (found ++ b ∷ s) ∷ texts_from [] (drop (length s + 1) bytes) =
      go (found ++ b ∷ []) s front ∙ ap (λ (w : List ℕ). w ∷ texts_from [] (drop (length s + 1) bytes)) (append_assoc found (b ∷ []) s) in
      let next : drop (length s + 1) bytes ≡ drop (length (b ∷ s) + 1) (b ∷ bytes) =
      (let n : length (b ∷ s) + 1 ≡ suc (length s + 1) = omega arith in ap (λ k. drop k (b ∷ bytes)) (sym n)) in
      subst (λ (w : List ℕ). texts_from (found ++ b ∷ []) bytes ≡ (found ++ w) ∷ texts_from [] (drop (length w + 1) (b ∷ bytes))) whole
      (is ∙ ap (λ (w : List ℕ). (found ++ b ∷ s) ∷ texts_from [] w) next)

  by : (z : Bool) → Go → (if z then Some [] else option_map (λ t. b ∷ t) (text_in bytes)) ≡ Some t
      → elim z as (λ _. List (List ℕ)) [ true ↦ found ∷ texts_from [] bytes | false ↦ texts_from (found ++ b ∷ []) bytes ] ≡ (found ++ t) ∷ texts_from [] (drop (length t + 1) (b ∷ bytes))
  by true go e =
      let empty : [] ≡ t = cc in
      subst (λ (w : List ℕ). found ∷ texts_from [] bytes ≡ (found ++ w) ∷ texts_from [] (drop (length w + 1) (b ∷ bytes))) empty
      (ap (λ (w : List ℕ). w ∷ texts_from [] bytes) (sym (append-nil found)))
  by false go e = some go (text_in bytes) refl e

-- or there is none
pub no_text : (found bytes : List ℕ) → text_in bytes ≡ None → texts_from found bytes ≡ []
unfolding text_in texts_from
no_text found [] none = refl
no_text found (b ∷ bytes) none = by (b == 0) (λ front. no_text (found ++ b ∷ []) bytes front) none where
  some : (text_in bytes ≡ None → texts_from (found ++ b ∷ []) bytes ≡ []) → (m : Option (List ℕ)) → text_in bytes ≡ m → option_map (λ t. b ∷ t) m ≡ None
      → texts_from (found ++ b ∷ []) bytes ≡ []
  some go None front e = go front
  some go (Some s) front e = absurd cc

  by : (z : Bool) → (text_in bytes ≡ None → texts_from (found ++ b ∷ []) bytes ≡ []) → (if z then Some [] else option_map (λ t. b ∷ t) (text_in bytes)) ≡ None
      → elim z as (λ _. List (List ℕ)) [ true ↦ found ∷ texts_from [] bytes | false ↦ texts_from (found ++ b ∷ []) bytes ] ≡ []
  by true go e = absurd cc
  by false go e = some go (text_in bytes) refl e

-- its bytes, and the zero byte, are there
pub text_fits : (bytes t : List ℕ) → text_in bytes ≡ Some t → length t < length bytes
unfolding text_in
text_fits [] t is = absurd cc
text_fits (b ∷ bytes) t is = by (b == 0) (λ s front. text_fits bytes s front) is where
  some : ((s : List ℕ) → text_in bytes ≡ Some s → length s < length bytes) → (m : Option (List ℕ)) → text_in bytes ≡ m → option_map (λ t. b ∷ t) m ≡ Some t
      → length t < suc (length bytes)
  some go None front e = absurd cc
  some go (Some s) front e = (let whole : b ∷ s ≡ t = cc in let long : suc (length s) ≡ length t = ap length whole in let rest = go s front in omega (arith, long, rest))

  by : (z : Bool) → ((s : List ℕ) → text_in bytes ≡ Some s → length s < length bytes) → (if z then Some [] else option_map (λ t. b ∷ t) (text_in bytes)) ≡ Some t
      → length t < suc (length bytes)
  by true go e = (let empty : [] ≡ t = cc in let none : 0 ≡ length t = ap length empty in omega (arith, none))
  by false go e = some go (text_in bytes) refl e

-- what was gone through so far
pub record IsThrough (section : List ℕ) (found : List ℕ → Option ℕ) (at : ℕ) : Type 0 where
  pub before : List (List ℕ)
  pub parts : texts_from [] section ≡ before ++ texts_from [] (drop at section)
  pub place : at ≡ size before
  pub places : PlacesThem before found

pub none_through : (section : List ℕ) (found : List ℕ → Option ℕ) → ((q : List ℕ) → found q ≡ None) → IsThrough section found 0
unfolding has_text size
none_through section found empty = record {
  before = [];
  parts = refl;
  place = refl;
  places = λ q. subst (PlacesOne [] q) (sym (empty q)) refl;
}

-- behind a text there is room
pub text_room : (section t : List ℕ) (at : ℕ) → text_in (drop at section) ≡ Some t → at + (length t + 1) ≤ length section
text_room section t at is = (let fits = text_fits (drop at section) t is in let long = length-drop at section in omega (arith, fits, long))

pub next_text : (section t : List ℕ) (old after : List ℕ → Option ℕ) (at : ℕ) → IsThrough section old at → text_in (drop at section) ≡ Some t → IsPut old after t at
    → IsThrough section after (at + (length t + 1))
next_text section t old after at i is put = record {
  before = i.before ++ t ∷ [];
  parts = i.parts ∙ ap (λ (w : List (List ℕ)). i.before ++ w) (first_text [] (drop at section) t is)
      ∙ ap (λ (w : List ℕ). i.before ++ t ∷ texts_from [] w) (drop-drop (length t + 1) at section)
      ∙ sym (append_assoc i.before (t ∷ []) (texts_from [] (drop (at + (length t + 1)) section)));
  place = ap (λ n. n + (length t + 1)) i.place ∙ sym (size_behind i.before t);
  places = put_text i.before t old after i.places (subst (IsPut old after t) i.place put);
}

pub all_through : (section : List ℕ) (found : List ℕ → Option ℕ) (at : ℕ) → IsThrough section found at → text_in (drop at section) ≡ None
    → PlacesThem (texts_from [] section) found
all_through section found at i none =
    subst (λ (w : List (List ℕ)). PlacesThem w found)
    (sym (i.parts ∙ ap (λ (w : List (List ℕ)). i.before ++ w) (no_text [] (drop at section) none) ∙ append-nil i.before)) i.places

-- nothing is found in what is empty
pub none_found : (m : BTreeMap (Bor (List ℕ)) ℕ) → m.entries ≡ [] → (q : List ℕ) → look m q ≡ None
none_found m e q = rw e refl
