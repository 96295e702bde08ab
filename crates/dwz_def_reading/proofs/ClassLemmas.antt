-- Each form that is read has a class, and no other form has one.
use Rattle.std.proofs.Common.{◌≡◌, ◌↔◌, ◌⊎◌, ℕ, Bool, true, false, List, [], ◌∷◌, Option, Some, None, refl, sym, ap, ◌∙◌, inl, inr, eqb}
use Rattle.std.specs.Prelude.{is_some}
use Rattle.std.specs.List.{list_all}
use Rattle.std.proofs.lemmas.Bool.{eqb-true}
use Rattle.dwz_bytes.proofs.GroupLemmas.{chosen}
use Rattle.dwz_codes.specs.declared.shape.Shape.{Shape}
use Rattle.dwz_codes.specs.declared.shape.Shape.TheVariants.{Nothing, Fixed1, Fixed2, Fixed3, Fixed4, Fixed8, Fixed16, Uleb, Sleb, ZeroEnded, Block1, Block2, Block4, BlockUleb, Address}
use Rattle.dwz_codes.specs.Forms.{form_rows}
use Rattle.dwz_codes.specs.Rows.{RowView, row_of}
use Rattle.dwz_def_reading.specs.Classes.{Unread}
use Rattle.dwz_def_reading.specs.Classes.{Class, ClassRow, class_in, class_of, class_rows}
use Rattle.dwz_def_reading.specs.Values.{IsUnread, shape_in, shape_of, written_rows}
use Rattle.dwz_def_reading.proofs.AbbrevLemmas.{and_true}

-- ---- as tests

abbrev is_read : Shape → Bool
is_read Nothing = true
is_read Fixed1 = true
is_read Fixed2 = true
is_read Fixed3 = true
is_read Fixed4 = true
is_read Fixed8 = true
is_read Fixed16 = true
is_read Uleb = true
is_read Sleb = true
is_read ZeroEnded = true
is_read Block1 = true
is_read Block2 = true
is_read Block4 = true
is_read BlockUleb = true
is_read Address = true
is_read _ = false

abbrev has_class : Class → Bool
has_class Unread = false
has_class _ = true

abbrev same_test : Bool → Bool → Bool
same_test true b = b
same_test false true = false
same_test false false = true

same_is : (a b : Bool) → same_test a b ≡ true → a ≡ b
same_is true b e = sym e
same_is false true e = absurd cc
same_is false false e = refl

shape_test : (shape : Shape) → IsUnread shape ↔ (is_read shape ≡ false)
shape_test Nothing = (λ is. absurd is, λ e. absurd cc)
shape_test Fixed1 = (λ is. absurd is, λ e. absurd cc)
shape_test Fixed2 = (λ is. absurd is, λ e. absurd cc)
shape_test Fixed3 = (λ is. absurd is, λ e. absurd cc)
shape_test Fixed4 = (λ is. absurd is, λ e. absurd cc)
shape_test Fixed8 = (λ is. absurd is, λ e. absurd cc)
shape_test Fixed16 = (λ is. absurd is, λ e. absurd cc)
shape_test Uleb = (λ is. absurd is, λ e. absurd cc)
shape_test Sleb = (λ is. absurd is, λ e. absurd cc)
shape_test ZeroEnded = (λ is. absurd is, λ e. absurd cc)
shape_test Block1 = (λ is. absurd is, λ e. absurd cc)
shape_test Block2 = (λ is. absurd is, λ e. absurd cc)
shape_test Block4 = (λ is. absurd is, λ e. absurd cc)
shape_test BlockUleb = (λ is. absurd is, λ e. absurd cc)
shape_test Address = (λ is. absurd is, λ e. absurd cc)
shape_test _ = (λ is. refl, λ e. tt)

class_test : (class : Class) → (class ≡ Unread) ↔ (has_class class ≡ false)
class_test Unread = (λ is. refl, λ e. refl)
class_test _ = (λ is. absurd cc, λ e. absurd cc)

-- ---- the two tables, row by row

-- the row of a form and the form's class agree
abbrev agrees_with : RowView → Bool
agrees_with r = same_test (is_read (shape_of written_rows r.code)) (has_class (class_of r.code))

-- a form that has a class has a row
abbrev has_row : ClassRow → Bool
has_row r = is_some (row_of written_rows r.form)

rows_agree : list_all agrees_with written_rows ≡ true
unfolding form_rows class_rows class_in
rows_agree = refl

rows_are_there : list_all has_row class_rows ≡ true
unfolding form_rows class_rows class_in
rows_are_there = refl

pub row_checked : (p : RowView → Bool) (rows : List RowView) (code : ℕ) (r : RowView) → list_all p rows ≡ true → row_of rows code ≡ Some r → (p r ≡ true) × (r.code ≡ code)
row_checked p [] code r all is = absurd cc
row_checked p (s ∷ rows) code r all is =
    let both = and_true (p s) (list_all p rows) all in
    elim (chosen (eqb s.code code) (Some s) (row_of rows code) (Some r) is) [
      | inl h ↦
          let same : s ≡ r = cc in
          (ap p (sym same) ∙ both.0, ap (λ (q : RowView). q.code) (sym same) ∙ eqb-true s.code code h.0)
      | inr h ↦ row_checked p rows code r both.1 h.1
    ]

-- the class of a form is that of a row, or there is none
class_checked : (p : ClassRow → Bool) (rows : List ClassRow) (form : ℕ) → list_all p rows ≡ true → (class_in rows form ≡ Unread) ⊎ ((r : ClassRow) × (p r ≡ true) × (r.form ≡ form))
unfolding class_in
class_checked p [] form all = inl refl
class_checked p (r ∷ rows) form all =
    let both = and_true (p r) (list_all p rows) all in
    elim (chosen (eqb r.form form) r.class (class_in rows form) (class_in (r ∷ rows) form) refl) [
      | inl h ↦ inr (r, both.0, eqb-true r.form form h.0)
      | inr h ↦ elim (class_checked p rows form both.1) [ inl none ↦ inl (sym h.1 ∙ none) | inr some ↦ inr some ]
    ]

abbrev is_there : Option RowView → Bool
is_there o = is_some o

none_is_some : (o : Option RowView) → o ≡ None → is_there o ≡ true → ⊥
none_is_some o none some = let off : false ≡ true = sym (ap is_there none) ∙ some in cc

tests_agree : (form : ℕ) → is_read (shape_of written_rows form) ≡ has_class (class_of form)
tests_agree form = by (row_of written_rows form) refl where
  by : (o : Option RowView) → row_of written_rows form ≡ o → is_read (shape_of written_rows form) ≡ has_class (class_of form)
  by (Some r) some =
      let h = row_checked agrees_with written_rows form r rows_agree some in
      let same = same_is (is_read (shape_of written_rows r.code)) (has_class (class_of r.code)) h.0 in
      ap (λ (n : ℕ). is_read (shape_of written_rows n)) (sym h.1) ∙ same ∙ ap (λ (n : ℕ). has_class (class_of n)) h.1
  by None none = elim (class_checked has_row class_rows form rows_are_there) [
    | inl unread ↦ ap (λ (o : Option RowView). is_read (shape_in o)) none ∙ ap has_class (sym unread)
    | inr h ↦ absurd (none_is_some (row_of written_rows form) none (ap (λ (n : ℕ). is_some (row_of written_rows n)) (sym h.2) ∙ h.1))
  ]

pub classes : (form : ℕ) → IsUnread (shape_of written_rows form) ↔ (class_of form ≡ Unread)
classes form =
    let shape = shape_test (shape_of written_rows form) in
    let class = class_test (class_of form) in
    (λ is. class.1 (sym (tests_agree form) ∙ shape.0 is), λ unread. shape.1 (tests_agree form ∙ class.0 unread))
