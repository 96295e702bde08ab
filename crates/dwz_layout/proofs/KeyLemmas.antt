-- Shapes with one key are one shape, so each shape's code is found under its own key alone.
use Rattle.std.proofs.Common.{◌≡◌, ℕ, ℤ, pos, negsuc, ◌+◌, ◌<◌, Bool, true, false, List, [], ◌∷◌, ◌++◌, All, fold, get_or, length, slice_set, take, refl, ap, ◌∙◌, arith}
use Rattle.std.specs.Int.{cast_unsigned, w64}
use Rattle.std.specs.List.{flat_map}
use Rattle.std.proofs.lemmas.Grind.{flat_map-append}
use Rattle.std.proofs.lemmas.List.{take_more}
use Rattle.std.proofs.lemmas.List.Elements.{All-head, All-tail}
use Rattle.std.proofs.lemmas.List.Sums.{fold-append}
use borrow.Author.Tests.{ltb-true}
use Rattle.dwz_model.specs.declared.place.Pair.{Pair}
use Rattle.dwz_def_reading.specs.Spelling.{fits_i64}
use Rattle.dwz_def_reading.specs.Abbrevs.{children_byte}
use Rattle.dwz_def_encoding.specs.Writing.{DeclarationShape}
use Rattle.dwz_layout.specs.Keys.{HasBits, key_of, mixed, pair_words, shape_words}

constant_same : (x y : ℤ) → fits_i64 x ≡ true → fits_i64 y ≡ true → cast_unsigned w64 x ≡ cast_unsigned w64 y → x ≡ y
constant_same (pos m) (pos n) x y e = ap pos e
constant_same (negsuc m) (negsuc n) x y e = ap negsuc (omega (arith, ltb-true _ _ x, ltb-true _ _ y, e))
constant_same (pos m) (negsuc n) x y e = absurd (omega (arith, ltb-true _ _ x, ltb-true _ _ y, e))
constant_same (negsuc m) (pos n) x y e = absurd (omega (arith, ltb-true _ _ x, ltb-true _ _ y, e))

pairs_same : (ps qs : List Pair) → All HasBits ps → All HasBits qs → flat_map pair_words ps ≡ flat_map pair_words qs → ps ≡ qs
pairs_same [] [] has more e = refl
pairs_same [] (q ∷ qs) has more e = absurd cc
pairs_same (p ∷ ps) [] has more e = absurd cc
pairs_same (p ∷ ps) (q ∷ qs) has more e =
    let name : p.name ≡ q.name = cc in
    let form : p.form ≡ q.form = cc in
    let word : cast_unsigned w64 p.constant ≡ cast_unsigned w64 q.constant = cc in
    let constant : p.constant ≡ q.constant = constant_same p.constant q.constant (All-head HasBits p ps has) (All-head HasBits q qs more) word in
    let rest : flat_map pair_words ps ≡ flat_map pair_words qs = cc in
    let others : ps ≡ qs = pairs_same ps qs (All-tail HasBits p ps has) (All-tail HasBits q qs more) rest in
    (λ i. record { name = name i; form = form i; constant = constant i } ∷ others i)

children_same : (a b : Bool) → children_byte a ≡ children_byte b → a ≡ b
children_same true true e = refl
children_same false false e = refl
children_same true false e = absurd cc
children_same false true e = absurd cc

words_same : (s t : DeclarationShape) → All HasBits s.pairs → All HasBits t.pairs → shape_words s ≡ shape_words t → s ≡ t
words_same s t has more e =
    let tag : s.tag ≡ t.tag = cc in
    let byte : children_byte s.children ≡ children_byte t.children = cc in
    let children = children_same s.children t.children byte in
    let rest : flat_map pair_words s.pairs ≡ flat_map pair_words t.pairs = cc in
    let pairs = pairs_same s.pairs t.pairs has more rest in
    (λ i. record { tag = tag i; children = children i; pairs = pairs i })

pub key_same : (s t : DeclarationShape) → All HasBits s.pairs → All HasBits t.pairs → key_of s ≡ key_of t → s ≡ t
unfolding key_of
key_same s t has more e = let words : shape_words s ≡ shape_words t = cc in words_same s t has more words

-- ---- how a key is made

module _ (pairs : List Pair) (i : ℕ) (none : Pair) (lt : i < length pairs) where
  -- one pair more
  pub words_more : flat_map pair_words (take (i + 1) pairs) ≡ flat_map pair_words (take i pairs) ++ pair_words (get_or pairs i none)
  words_more = ap (flat_map pair_words) (take_more pairs i none lt) ∙ flat_map-append pair_words (take i pairs) (get_or pairs i none ∷ [])

  pub hash_more : (hash : ℕ) → fold mixed hash (flat_map pair_words (take (i + 1) pairs)) ≡ fold mixed (fold mixed hash (flat_map pair_words (take i pairs))) (pair_words (get_or pairs i none))
  hash_more hash = ap (fold mixed hash) words_more ∙ fold-append mixed hash (flat_map pair_words (take i pairs)) (pair_words (get_or pairs i none))

-- the hash takes the place in front of the words
pub key_made : (s : DeclarationShape) (byte hash : ℕ) (key : List ℕ) → byte ≡ children_byte s.children → key ≡ 0 ∷ s.tag ∷ byte ∷ flat_map pair_words s.pairs
    → hash ≡ fold mixed 0 (s.tag ∷ byte ∷ flat_map pair_words s.pairs) → slice_set key 0 hash ≡ key_of s
unfolding key_of
key_made s byte hash key byte_is key_is hash_is =
    let words : List ℕ → List ℕ = λ w. slice_set w 0 hash in
    let same = hash_is ∙ ap (λ (n : ℕ). fold mixed 0 (s.tag ∷ n ∷ flat_map pair_words s.pairs)) byte_is in
    ap words key_is ∙ (λ i. same i ∷ s.tag ∷ byte_is i ∷ flat_map pair_words s.pairs)
