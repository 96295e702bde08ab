-- Which shapes the forms of a set have, and that what is read of one is read as it is written.
use Rattle.std.proofs.Common.{◌≡◌, ◌⊎◌, ℕ, Bool, true, false, cond, eqb, inl, inr, List, [], ◌∷◌, Option, Some, None, Ok, refl, sym, ap, subst, ◌∙◌}
use Rattle.std.specs.Prelude.{not}
use Rattle.std.specs.List.{filter}
use Rattle.std.proofs.lemmas.Bool.{eqb-true}
use Rattle.std.proofs.lemmas.Bool.Decides.{eqb_tells}
use Rattle.dwz_model.specs.declared.place.Pair.{Pair}
use Rattle.dwz_bytes.specs.Input.{Input}
use Rattle.dwz_codes.specs.declared.shape.Shape.{Shape}
use Rattle.dwz_codes.specs.declared.shape.Shape.TheVariants.{Refused}
use Rattle.dwz_codes.specs.Forms.{form_rows}
use Rattle.dwz_codes.specs.Rows.{RowView, has, row_of, shape_in, shape_of}
use Rattle.dwz_def_reading.specs.Entries.{codes_of_common, forms_of_common}
use Rattle.dwz_def_reading.specs.Modes.{binding_forms, free_forms}
use Rattle.dwz_def_reading.specs.Values.{Raw, SpellsShape, SpellsValue, constant_of, shaped_at, value_at, written_rows}
use Rattle.dwz_forms.specs.FormSets.{AreWritten, rows_of}
use Rattle.dwz_forms.specs.declared.form_set.FormSet.{FormSet}
use Rattle.dwz_forms.specs.declared.form_set.FormSet.TheVariants.{Own, Beside, OwnFree, BesideFree, Common, CommonRoot}

-- ---- rows that are chosen by their codes

abbrev nothing : Option RowView
nothing = None

module _ (chosen : ℕ → Bool) (code : ℕ) where
  abbrev among : List RowView → List RowView
  among rows = filter (λ r. chosen r.code) rows

  row_among : (rows : List RowView) → row_of (among rows) code ≡ cond (chosen code) (row_of rows code) None
  row_among [] = by (chosen code) where
    by : (b : Bool) → nothing ≡ cond b nothing nothing
    by true = refl
    by false = refl
  row_among (r ∷ rows) = by (chosen r.code) (eqb r.code code) refl refl (row_among rows) where
    by : (b t : Bool) → chosen r.code ≡ b → eqb r.code code ≡ t → row_of (among rows) code ≡ cond (chosen code) (row_of rows code) None
        → row_of (cond b (r ∷ among rows) (among rows)) code ≡ cond (chosen code) (cond t (Some r) (row_of rows code)) None
    by true true kept same later =
        let is : chosen code ≡ true = ap chosen (sym (eqb-true r.code code same)) ∙ kept in
        ap (λ (w : Bool). cond w (Some r) (row_of (among rows) code)) same ∙ ap (λ (w : Bool). cond w (Some r) None) (sym is)
    by true false kept other later = ap (λ (w : Bool). cond w (Some r) (row_of (among rows) code)) other ∙ later
    by false true left same later =
        let is : chosen code ≡ false = ap chosen (sym (eqb-true r.code code same)) ∙ left in
        later ∙ ap (λ (w : Bool). cond w (row_of rows code) None) is ∙ ap (λ (w : Bool). cond w (Some r) None) (sym is)
    by false false left other later = later

  pub shape_chosen : (rows : List RowView) → shape_of (among rows) code ≡ cond (chosen code) (shape_of rows code) Refused
  shape_chosen rows = ap shape_in (row_among rows) ∙ by (chosen code) where
    by : (b : Bool) → shape_in (cond b (row_of rows code) None) ≡ cond b (shape_of rows code) Refused
    by true = refl
    by false = refl

-- as the code has it
module _ (rows : List RowView) (form : ℕ) where
  free_shape : shape_of (free_forms rows) form ≡ cond (not (has form binding_forms)) (shape_of rows form) Refused
  free_shape = shape_chosen (λ (n : ℕ). not (has n binding_forms)) form rows

  pub free_kept : (shape : Shape) → has form binding_forms ≡ false → shape ≡ shape_of rows form → shape ≡ shape_of (free_forms rows) form
  free_kept shape is same = same ∙ ap (λ (b : Bool). cond (not b) (shape_of rows form) Refused) (sym is) ∙ sym free_shape

  pub free_refused : has form binding_forms ≡ true → Refused ≡ shape_of (free_forms rows) form
  free_refused is = ap (λ (b : Bool). cond (not b) (shape_of rows form) Refused) (sym is) ∙ sym free_shape

module _ (root : Bool) (form : ℕ) where
  common_is : shape_of (forms_of_common 0 root) form ≡ cond (has form (codes_of_common root)) (shape_of form_rows form) Refused
  common_is = shape_chosen (λ (n : ℕ). has n (codes_of_common root)) form form_rows

  pub common_kept : (shape : Shape) → has form (codes_of_common root) ≡ true → shape ≡ shape_of form_rows form → shape ≡ shape_of (forms_of_common 0 root) form
  common_kept shape is same = same ∙ ap (λ (b : Bool). cond b (shape_of form_rows form) Refused) (sym is) ∙ sym common_is

  pub common_refused : has form (codes_of_common root) ≡ false → Refused ≡ shape_of (forms_of_common 0 root) form
  common_refused is = ap (λ (b : Bool). cond b (shape_of form_rows form) Refused) (sym is) ∙ sym common_is

-- ---- what is read of a set is read as it is written

unread_sup4 : shape_of form_rows 0x1c ≡ Refused
unfolding form_rows
unread_sup4 = refl

unread_strp_sup : shape_of form_rows 0x1d ≡ Refused
unfolding form_rows
unread_strp_sup = refl

own_written : AreWritten form_rows
own_written form =
    elim (eqb_tells 0x1c form) [
      | inl p ↦ inl (ap (shape_of form_rows) (sym p.1) ∙ unread_sup4)
      | inr p ↦ elim (eqb_tells 0x1d form) [
        | inl q ↦ inl (ap (shape_of form_rows) (sym q.1) ∙ unread_strp_sup)
        | inr q ↦ inr (let same : shape_of written_rows form ≡ shape_of form_rows form = rw (p.0, q.0) refl in sym same)
      ]
    ]

all_written : AreWritten written_rows
all_written form = inr refl

chosen_written : (chosen : ℕ → Bool) (rows : List RowView) → AreWritten rows → AreWritten (filter (λ r. chosen r.code) rows)
chosen_written chosen rows are form = by (chosen form) refl where
  by : (b : Bool) → chosen form ≡ b → (shape_of (filter (λ r. chosen r.code) rows) form ≡ Refused) ⊎ (shape_of (filter (λ r. chosen r.code) rows) form ≡ shape_of written_rows form)
  by true is =
      let same = shape_chosen chosen form rows ∙ ap (λ (b : Bool). cond b (shape_of rows form) Refused) is in
      elim (are form) [ inl none ↦ inl (same ∙ none) | inr some ↦ inr (same ∙ some) ]
  by false is = inl (shape_chosen chosen form rows ∙ ap (λ (b : Bool). cond b (shape_of rows form) Refused) is)

pub set_written : (forms : FormSet) → AreWritten (rows_of forms)
set_written Own = own_written
set_written Beside = all_written
set_written OwnFree = chosen_written (λ (n : ℕ). not (has n binding_forms)) form_rows own_written
set_written BesideFree = chosen_written (λ (n : ℕ). not (has n binding_forms)) written_rows all_written
set_written Common = chosen_written (λ (n : ℕ). has n (codes_of_common false)) form_rows own_written
set_written CommonRoot = chosen_written (λ (n : ℕ). has n (codes_of_common true)) form_rows own_written

pub spelled_written : (rows : List RowView) → AreWritten rows → (pair : Pair) (bytes : List ℕ) (raw : Raw) → SpellsValue rows pair bytes raw → SpellsValue written_rows pair bytes raw
spelled_written rows are pair bytes raw is =
    elim (are pair.form) [
      | inl none ↦ absurd (subst (λ (s : Shape). SpellsShape s (constant_of pair) bytes raw) none is)
      | inr same ↦ subst (λ (s : Shape). SpellsShape s (constant_of pair) bytes raw) same is
    ]

pub value_written : (rows : List RowView) → AreWritten rows → (pair : Pair) (i : Input) (x : Raw × Input) → value_at rows pair i ≡ Ok x → value_at written_rows pair i ≡ Ok x
unfolding shaped_at
value_written rows are pair i x e =
    elim (are pair.form) [
      | inl none ↦ absurd (let never = ap (λ (s : Shape). shaped_at s pair i) (sym none) ∙ e in cc)
      | inr same ↦ ap (λ (s : Shape). shaped_at s pair i) (sym same) ∙ e
    ]
