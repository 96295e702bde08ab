-- Which classes store bytes and which a number, and the one form of expressions.
use Rattle.std.proofs.Common.{◌≡◌, ℕ, ℤ, ◌<◌, ◌⊎◌, Bool, true, false, List, [], ◌∷◌, refl, sym, ap, ◌∙◌, arith, cond, eqb, eqb-true, length, ltb-true, ◌^◌}
use Rattle.std.proofs.Math.Logic.{inl, inr}
use Rattle.dwz_def_reading.specs.Shape.{Shape}
use Rattle.dwz_def_reading.specs.Shape.TheVariants.{Nothing, Fixed1, Fixed2, Fixed3, Fixed4, Fixed8, Fixed16, Uleb, Sleb, ZeroEnded, Block1, Block2, Block4, BlockUleb, Address}
use Rattle.dwz_def_reading.specs.Forms.{form_rows}
use Rattle.dwz_def_reading.specs.Meanings.{bytes_of, number_of}
use Rattle.dwz_def_reading.specs.Classes.{OfBlock, OfExpression, OfListIndex, OfOffset, OfText, OfTextInStr, Unread}
use Rattle.dwz_def_reading.specs.Classes.{Class, ClassRow, class_in, class_of, class_rows}
use Rattle.dwz_def_reading.specs.Values.{Bytes, Number, Raw, SpellsShape, shape_of, written_rows}

-- ---- which classes store bytes, and which a number

abbrev pub stores_bytes : Class → Bool
stores_bytes OfBlock = true
stores_bytes OfText = true
stores_bytes OfExpression = true
stores_bytes _ = false

abbrev holds_bytes : Shape → Bool
holds_bytes Fixed16 = true
holds_bytes ZeroEnded = true
holds_bytes Block1 = true
holds_bytes Block2 = true
holds_bytes Block4 = true
holds_bytes BlockUleb = true
holds_bytes _ = false

abbrev same_bool : Bool → Bool → Bool
same_bool true b = b
same_bool false true = false
same_bool false false = true

same_bool-true : (a b : Bool) → same_bool a b ≡ true → a ≡ b
same_bool-true true b e = sym e
same_bool-true false true e = absurd cc
same_bool-true false false e = refl

abbrev agree : List ClassRow → Bool
agree [] = true
agree (r ∷ rows) = cond (same_bool (stores_bytes r.class) (holds_bytes (shape_of written_rows r.form))) (agree rows) false

pub rows_agree : agree class_rows ≡ true
unfolding class_rows form_rows
rows_agree = refl

pub two_tests : (a b : Bool) → cond a b false ≡ true → (a ≡ true) × (b ≡ true)
two_tests true b e = (refl, e)
two_tests false b e = absurd cc

pub class_agrees : (rows : List ClassRow) (form : ℕ) → agree rows ≡ true → (class_in rows form ≡ Unread) ⊎ (stores_bytes (class_in rows form) ≡ holds_bytes (shape_of written_rows form))
unfolding class_in
class_agrees [] form e = inl refl
class_agrees (r ∷ rows) form e =
    let t = two_tests (same_bool (stores_bytes r.class) (holds_bytes (shape_of written_rows r.form))) (agree rows) e in
    go (same_bool-true _ _ t.0) (class_agrees rows form t.1) (eqb r.form form) refl where
      go : stores_bytes r.class ≡ holds_bytes (shape_of written_rows r.form) → (class_in rows form ≡ Unread) ⊎ (stores_bytes (class_in rows form) ≡ holds_bytes (shape_of written_rows form))
          → (b : Bool) → eqb r.form form ≡ b
          → (cond b r.class (class_in rows form) ≡ Unread) ⊎ (stores_bytes (cond b r.class (class_in rows form)) ≡ holds_bytes (shape_of written_rows form))
      go same rest true e = inr (same ∙ ap (λ (f : ℕ). holds_bytes (shape_of written_rows f)) (eqb-true r.form form e))
      go same rest false e = rest

module _ (number : ℤ) (bytes : List ℕ) (raw : Raw) where
  pub is_bytes : (shape : Shape) → holds_bytes shape ≡ true → SpellsShape shape number bytes raw → raw ≡ Bytes (bytes_of raw)
  is_bytes Fixed16 e is = is.value ∙ ap (λ (r : Raw). Bytes (bytes_of r)) (sym is.value)
  is_bytes ZeroEnded e is = is.value ∙ ap (λ (r : Raw). Bytes (bytes_of r)) (sym is.value)
  is_bytes Block1 e is = is.value ∙ ap (λ (r : Raw). Bytes (bytes_of r)) (sym is.value)
  is_bytes Block2 e is = is.value ∙ ap (λ (r : Raw). Bytes (bytes_of r)) (sym is.value)
  is_bytes Block4 e is = is.value ∙ ap (λ (r : Raw). Bytes (bytes_of r)) (sym is.value)
  is_bytes BlockUleb e is = is.value ∙ ap (λ (r : Raw). Bytes (bytes_of r)) (sym is.value)
  is_bytes _ e is = absurd cc

  pub is_number : (shape : Shape) → holds_bytes shape ≡ false → SpellsShape shape number bytes raw → raw ≡ Number (number_of raw)
  is_number Nothing e is = is.value ∙ ap (λ (r : Raw). Number (number_of r)) (sym is.value)
  is_number Fixed1 e is = is.value ∙ ap (λ (r : Raw). Number (number_of r)) (sym is.value)
  is_number Fixed2 e is = is.value ∙ ap (λ (r : Raw). Number (number_of r)) (sym is.value)
  is_number Fixed3 e is = is.value ∙ ap (λ (r : Raw). Number (number_of r)) (sym is.value)
  is_number Fixed4 e is = is.value ∙ ap (λ (r : Raw). Number (number_of r)) (sym is.value)
  is_number Fixed8 e is = is.value ∙ ap (λ (r : Raw). Number (number_of r)) (sym is.value)
  is_number Uleb e is = is.value ∙ ap (λ (r : Raw). Number (number_of r)) (sym is.value)
  is_number Sleb e is = is.value ∙ ap (λ (r : Raw). Number (number_of r)) (sym is.value)
  is_number Address e is = is.value ∙ ap (λ (r : Raw). Number (number_of r)) (sym is.value)
  is_number Fixed16 e is = absurd cc
  is_number ZeroEnded e is = absurd cc
  is_number Block1 e is = absurd cc
  is_number Block2 e is = absurd cc
  is_number Block4 e is = absurd cc
  is_number BlockUleb e is = absurd cc
  is_number _ e is = absurd is

-- ---- classes of one form

-- just the rows of that form pass the test
abbrev only_form : (Class → Bool) → ℕ → List ClassRow → Bool
only_form is f [] = true
only_form is f (r ∷ rows) = cond (same_bool (is r.class) (eqb r.form f)) (only_form is f rows) false

form_in : (is : Class → Bool) (f : ℕ) → is Unread ≡ false → (rows : List ClassRow) (form : ℕ) → only_form is f rows ≡ true → is (class_in rows form) ≡ true → form ≡ f
unfolding class_in
form_in is f none [] form e h = absurd (let z : false ≡ true = sym none ∙ h in cc)
form_in is f none (r ∷ rows) form e h =
    let t = two_tests (same_bool (is r.class) (eqb r.form f)) (only_form is f rows) e in
    go (same_bool-true _ _ t.0) (form_in is f none rows form t.1) (eqb r.form form) refl h where
      go : is r.class ≡ eqb r.form f → (is (class_in rows form) ≡ true → form ≡ f) → (b : Bool) → eqb r.form form ≡ b → is (cond b r.class (class_in rows form)) ≡ true → form ≡ f
      go same rest true p q = sym (eqb-true r.form form p) ∙ eqb-true r.form f (sym same ∙ q)
      go same rest false p q = rest q

-- exprloc, strp, sec_offset, loclistx
abbrev is_expression : Class → Bool
is_expression OfExpression = true
is_expression _ = false

abbrev is_strp : Class → Bool
is_strp OfTextInStr = true
is_strp _ = false

abbrev is_offset : Class → Bool
is_offset OfOffset = true
is_offset _ = false

abbrev is_list : Class → Bool
is_list OfListIndex = true
is_list _ = false

expressions_are : only_form is_expression 0x18 class_rows ≡ true
unfolding class_rows
expressions_are = refl

strps_are : only_form is_strp 0x0e class_rows ≡ true
unfolding class_rows
strps_are = refl

offsets_are : only_form is_offset 0x17 class_rows ≡ true
unfolding class_rows
offsets_are = refl

lists_are : only_form is_list 0x22 class_rows ≡ true
unfolding class_rows
lists_are = refl

pub expression_form : (form : ℕ) → class_of form ≡ OfExpression → form ≡ 0x18
expression_form form e = form_in is_expression 0x18 refl class_rows form expressions_are (ap is_expression e)

pub strp_form : (form : ℕ) → class_of form ≡ OfTextInStr → form ≡ 0x0e
strp_form form e = form_in is_strp 0x0e refl class_rows form strps_are (ap is_strp e)

pub offset_form : (form : ℕ) → class_of form ≡ OfOffset → form ≡ 0x17
offset_form form e = form_in is_offset 0x17 refl class_rows form offsets_are (ap is_offset e)

pub list_form : (form : ℕ) → class_of form ≡ OfListIndex → form ≡ 0x22
list_form form e = form_in is_list 0x22 refl class_rows form lists_are (ap is_list e)

pub exprloc_block : (number : ℤ) (bytes : List ℕ) (raw : Raw) → SpellsShape (shape_of written_rows 0x18) number bytes raw → length (bytes_of raw) < 2 ^ 64
unfolding form_rows
exprloc_block number bytes raw is =
    let fits = ltb-true (length is.content) (2 ^ 64) is.spelled.count.in_range in
    let same : length (bytes_of raw) ≡ length is.content = ap (λ (r : Raw). length (bytes_of r)) is.value in
    omega (arith, fits, same)

-- ---- offsets

pub offset_class : class_of 0x17 ≡ OfOffset
unfolding class_rows class_in
offset_class = refl
