-- Whatever is read, each form is read as it is written.
use Rattle.std.proofs.Common.{ℕ, Bool, true, false}
use Rattle.std.specs.Prelude.{◌==◌, if◌then◌else◌}
use Rattle.dwz_def_reading.specs.Entries.{Mode}
use Rattle.dwz_forms.specs.FormSets.{AreWritten, rows_of}
use Rattle.dwz_forms.specs.declared.form_set.FormSet.TheVariants.{Own, Beside, OwnFree, BesideFree, Common, CommonRoot}
use Rattle.dwz_forms.proofs.FormLemmas.{set_written}
use Rattle.dwz_unit.specs.declared.mode.FileKind.{FileKind}
use Rattle.dwz_unit.specs.declared.mode.FileKind.TheVariants as file
use Rattle.dwz_unit.specs.declared.mode.Mode.{Mode as ModeOfCode}
use Rattle.dwz_unit.specs.Modes.{forms_of, mode_view}

-- each form that is read is read as it is written
abbrev pub HasWrittenForms : Mode → Type 0
HasWrittenForms mode = (tag : ℕ) (is_root : Bool) → AreWritten (mode.forms tag is_root)

kind_written : (kind : FileKind) (tag : ℕ) (is_root : Bool) → AreWritten (forms_of kind tag is_root)
kind_written file.Given tag is_root = set_written Own
kind_written file.Common tag true = set_written CommonRoot
kind_written file.Common tag false = set_written Common
kind_written (file.Back true) tag true = set_written Beside
kind_written (file.Back false) tag true = set_written Own
kind_written (file.Back true) tag false = by (tag == 0x3c) where
  by : (b : Bool) → AreWritten (if b then rows_of BesideFree else rows_of Beside)
  by true = set_written BesideFree
  by false = set_written Beside
kind_written (file.Back false) tag false = by (tag == 0x3c) where
  by : (b : Bool) → AreWritten (if b then rows_of OwnFree else rows_of Own)
  by true = set_written OwnFree
  by false = set_written Own

pub written_forms : (mode : ModeOfCode) → HasWrittenForms (mode_view mode)
written_forms mode = kind_written mode.kind
