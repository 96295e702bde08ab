-- What a declaration says of the shape of its entries (DWARF 5, 7.5.3): the tag, and the names of the attributes without DW_AT_sibling.
use Rattle.std.specs.Prelude.{ℕ, List, [], ◌∷◌, ◌++◌, ◌==◌, if◌then◌else◌}
use Rattle.dwz_label.specs.Labels.{number}
use Rattle.dwz_label_entries.specs.Words.{kept}
use Rattle.dwz_model.specs.declared.place.Pair.{Pair}

unfoldable pub pair_names : List Pair → List ℕ
pair_names [] = []
pair_names (p ∷ pairs) = if p.name == 0x01 then pair_names pairs else number p.name ++ pair_names pairs

abbrev pub pairs_shape : ℕ → List Pair → List ℕ
pairs_shape tag pairs = number tag ++ (number (kept pairs) ++ pair_names pairs)
