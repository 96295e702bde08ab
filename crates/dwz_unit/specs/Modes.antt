-- What is read of a file, as the definitions see it.
use Rattle.std.specs.Prelude.{ℕ, Bool, true, false, List}
use Rattle.dwz_def_reading.specs.Entries.{Mode, forms_of_common, own_forms}
use Rattle.dwz_def_reading.specs.Modes.{forms_of_back}
use Rattle.dwz_def_reading.specs.Rows.{RowView}
use Rattle.dwz_unit.specs.declared.mode.FileKind.{FileKind}
use Rattle.dwz_unit.specs.declared.mode.FileKind.TheVariants.{Given, Common, Back}
use Rattle.dwz_unit.specs.declared.mode.Mode.{Mode as ModeOfCode}

abbrev pub reads_whole : FileKind → Bool
reads_whole Given = true
reads_whole Common = false
reads_whole (Back sup) = true

abbrev pub reads_partial : FileKind → Bool
reads_partial Given = false
reads_partial Common = true
reads_partial (Back sup) = true

abbrev pub forms_of : FileKind → ℕ → Bool → List RowView
forms_of Given = own_forms
forms_of Common = forms_of_common
forms_of (Back sup) = forms_of_back sup

-- `given`, `of_common` or `of_back`, by the kind of the file
abbrev pub mode_of : FileKind → ℕ → Mode
mode_of kind entries = record { entries = entries; depth = 256; whole = reads_whole kind; partial = reads_partial kind; forms = forms_of kind }

abbrev pub mode_view : ModeOfCode → Mode
mode_view m = mode_of m.kind m.room
