-- The places of texts, and the numbers of files.
use Rattle.std.specs.Prelude.{ℕ, List, [], ◌∷◌, map}
use Rattle.std.specs.Global.{Vec}
use Rattle.dwz_layout.specs.declared.known.FileRows.{FileRows}
use Rattle.dwz_layout.specs.declared.known.SpaceRow.{SpaceRow}
use Rattle.dwz_layout.specs.declared.known.TextAt.{TextAt}
use Rattle.dwz_law_layout.specs.Listed.{TextsAt}
use Rattle.dwz_layout_input.specs.declared.listing.FileTexts.{FileTexts}

abbrev pub texts_shown : FileTexts → TextsAt
texts_shown texts = record {
  files = map (λ t. t.items) texts.files.items;
  spaces = texts.spaces.items;
  commons = texts.commons.items;
  numbers = map (λ n. n.items) texts.numbers.items;
}

-- files with these places of texts, and these numbers of files
unfoldable pub files_with : List FileRows → List (Vec TextAt) → List (Vec ℕ) → List FileRows
files_with (r ∷ rows) (t ∷ texts) (n ∷ numbers) = record r { texts = t; files = n } ∷ files_with rows texts numbers
files_with _ _ _ = []

-- spaces with these places of their names, in a partial unit of their file and in one of the common file
unfoldable pub spaces_with : List SpaceRow → (texts commons : List TextAt) → List SpaceRow
spaces_with (s ∷ spaces) (t ∷ texts) (c ∷ commons) = record s { text = t; common = c } ∷ spaces_with spaces texts commons
spaces_with _ _ _ = []
