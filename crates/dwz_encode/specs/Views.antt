-- Numbers as clauses see them.
use Rattle.dwz_layout.specs.Attributes.{Numbers}
use Rattle.dwz_encode.specs.declared.numbers.Numbers.{Numbers as NumbersOfCode}

abbrev pub numbers_view : NumbersOfCode → Numbers
numbers_view n = record { places = n.places.now; roots = n.roots.now; unit = n.unit }
