-- The rows of sets of forms.
use Rattle.std.specs.Prelude.{◌≡◌, ◌⊎◌, ℕ, true, false, List}
use Rattle.dwz_codes.specs.declared.shape.Shape.TheVariants.{Refused}
use Rattle.dwz_codes.specs.Forms.{form_rows}
use Rattle.dwz_codes.specs.Rows.{RowView, shape_of}
use Rattle.dwz_def_reading.specs.Entries.{forms_of_common}
use Rattle.dwz_def_reading.specs.Modes.{free_forms}
use Rattle.dwz_def_reading.specs.Values.{written_rows}
use Rattle.dwz_forms.specs.declared.form_set.FormSet.{FormSet}
use Rattle.dwz_forms.specs.declared.form_set.FormSet.TheVariants.{Own, Beside, OwnFree, BesideFree, Common, CommonRoot}

abbrev pub rows_of : FormSet → List RowView
rows_of Own = form_rows
rows_of Beside = written_rows
rows_of OwnFree = free_forms form_rows
rows_of BesideFree = free_forms written_rows
rows_of Common = forms_of_common 0 false
rows_of CommonRoot = forms_of_common 0 true

-- a form is read as it is written, or it isn't read
abbrev pub AreWritten : List RowView → Type 0
AreWritten rows = (form : ℕ) → (shape_of rows form ≡ Refused) ⊎ (shape_of rows form ≡ shape_of written_rows form)
