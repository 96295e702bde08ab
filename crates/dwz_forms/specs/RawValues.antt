-- Raw values as clauses see them.
use Rattle.dwz_def_reading.specs.Values.{Raw, Number, Bytes}
use Rattle.dwz_forms.specs.declared.raw.Raw.{Raw as RawOfCode}
use Rattle.dwz_forms.specs.declared.raw.Raw.TheVariants as code

abbrev pub raw_view : RawOfCode → Raw
raw_view (code.Number n) = Number n
raw_view (code.Bytes bytes) = Bytes bytes.now
