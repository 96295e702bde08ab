-- What is found of each declaration is so of each entry that has it.
use Rattle.std.proofs.Common.{◌≡◌, ℕ, List, Option, Some, map, get_or, slice_get, ap, ◌∙◌}
use Rattle.std.proofs.lemmas.Option.{get_or_from_slice_get, slice_get-map}
use Rattle.std.specs.Option.{option_map}
use Rattle.dwz_model.specs.declared.place.Pair.{Pair}
use Rattle.dwz_unit.specs.Declarations.{AreOf, Declarations}
use Rattle.dwz_unit.specs.Known.{pairs_of}
use Rattle.dwz_unit.proofs.DeclarationLemmas.{pairs_by_number}
use Rattle.dwz_unit.specs.Rows.{EntryRow}

-- what is found of the declaration of the entry with a number is so of its values
pub by_declaration : {B : Type 0} (f : List Pair → B) (rows : List EntryRow) (d : Declarations) → AreOf rows d → (declared : List B) → declared ≡ map f d.pairs → (i n : ℕ) (row : EntryRow)
    → slice_get d.numbers i ≡ Some n → slice_get rows i ≡ Some row → (got : B) → got ≡ get_or declared n got → got ≡ f (pairs_of row.entry)
by_declaration {B} f rows d are declared all i n row number found got is =
    let there : slice_get declared n ≡ Some (f (pairs_of row.entry)) =
    ap (λ (w : List B). slice_get w n) all
    ∙ slice_get-map f d.pairs n
    ∙ ap (λ (o : Option (List Pair)). option_map f o) (pairs_by_number rows d are i n row number found) in
    is ∙ get_or_from_slice_get declared n (f (pairs_of row.entry)) got there
