-- Values whose length their form tells.
use Rattle.std.specs.Prelude.{ℕ, List, Option, Some, None}
use Rattle.dwz_codes.specs.declared.shape.Shape.{Shape}
use Rattle.dwz_codes.specs.declared.shape.Shape.TheVariants.{Nothing, Fixed1, Fixed2, Fixed3, Fixed4, Fixed8, Fixed16, Address}
use Rattle.dwz_codes.specs.Rows.{RowView}
use Rattle.dwz_def_reading.specs.Values.{shape_of, written_rows}

-- how many bytes a value of a shape has, where all have as many
abbrev pub shape_size : Shape → Option ℕ
shape_size Nothing = Some 0
shape_size Fixed1 = Some 1
shape_size Fixed2 = Some 2
shape_size Fixed3 = Some 3
shape_size Fixed4 = Some 4
shape_size Fixed8 = Some 8
shape_size Fixed16 = Some 16
shape_size Address = Some 8
shape_size _ = None

-- how many bytes a value of a form has, of the forms that are written, where all have as many
abbrev pub fixed_size : ℕ → Option ℕ
fixed_size form = shape_size (shape_of written_rows form)

-- the same, of the forms of these rows
abbrev pub size_among : List RowView → ℕ → Option ℕ
size_among rows form = shape_size (shape_of rows form)
