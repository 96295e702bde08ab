-- The line of the answer on two files.
use Rattle.std.specs.Prelude.{[], ◌∷◌, codes, decimal}
use Rattle.dwz_text.specs.Lines.{Text, line}
use Rattle.dwz_def_check.specs.declared.same.Same.{Same}
use Rattle.dwz_def_check.specs.declared.same.Same.TheVariants.{Unit as OneUnit, Units, Yes}

abbrev pub check_text : Same → Text
check_text Yes = line (codes "same" ∷ [])
check_text (Units first second) = line (codes "differs: units " ∷ decimal first ∷ codes ", " ∷ decimal second ∷ [])
check_text (OneUnit n) = line (codes "differs: unit " ∷ decimal n ∷ [])
