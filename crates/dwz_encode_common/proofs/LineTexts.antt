-- An offset of a line table is no text.
use Rattle.std.proofs.Common.{◌≡◌, [], pos, refl, ap}
use Rattle.dwz_def_reading.specs.Documents.{Sec}
use Rattle.dwz_def_reading.specs.Classes.{OfOffset, Class, class_in, class_of, class_rows}
use Rattle.dwz_def_images.specs.Moves.{line_attr}
use Rattle.dwz_encode_common.specs.Gathered.{text_by, text_said}

line_class : class_of 0x17 ≡ OfOffset
unfolding class_rows class_in
line_class = refl

pub line_none : text_said (line_attr (pos 0) (Sec 0)) ≡ []
line_none = ap (λ (c : Class). text_by c (line_attr (pos 0) (Sec 0))) line_class
