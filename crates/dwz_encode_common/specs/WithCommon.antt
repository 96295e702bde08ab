-- The lists of a layout once the common file has texts and paths, or stands with its texts.
use Rattle.std.specs.Prelude.{◌≡◌, ℕ, Bool, true, false, List, [], ◌∷◌, length, map}
use Rattle.std.specs.Global.{Vec}
use Rattle.dwz_graph.specs.declared.file.File.{File}
use Rattle.dwz_layout.specs.declared.known.FileRows.{FileRows}
use Rattle.dwz_layout.specs.declared.known.EntryTable.{EntryTable}
use Rattle.dwz_layout.specs.declared.known.SpaceRow.{SpaceRow}
use Rattle.dwz_layout.specs.declared.known.TextAt.{TextAt}
use Rattle.dwz_law_layout.specs.Listed.{TextsAt}
use Rattle.dwz_encode_common.specs.Numbers.{numbers_in_file}
use Rattle.dwz_encode_common.specs.Placed.{HavePlaces, space_placed}

-- files with these places of texts, and these numbers of paths; all else stays
unfoldable pub files_with : List FileRows → List (Vec TextAt) → List (Vec ℕ) → List FileRows
files_with (r ∷ rows) (t ∷ texts) (n ∷ numbers) = record r { texts = t; files = n } ∷ files_with rows texts numbers
files_with _ _ _ = []

-- the numbers of paths that files have
abbrev pub kept_numbers : List FileRows → List (Vec ℕ)
kept_numbers rows = map (λ (r : FileRows). r.files) rows

-- Lists are the same as before, but for texts and numbers of paths: the texts of files and the names of spaces are written where these are
-- the texts of the common file, which is made or stands, and these files share them.
pub record IsWithTexts (made : Bool) (files : List File) (texts : List (List ℕ)) (sharing : List Bool) (before after : EntryTable) : Type 0 where
  pub places : List (Vec TextAt)
  pub numbers : List (Vec ℕ)
  pub many_numbers : length numbers ≡ length files
  pub files_are : after.files.items ≡ files_with before.files.items places numbers
  pub places_are : HavePlaces made files texts sharing before (map (λ v. v.items) places)
  pub spaces_are : after.spaces.items ≡ map (space_placed files texts sharing) before.spaces.items
  pub owners_are : after.owners ≡ before.owners
  pub tops_are : after.tops ≡ before.tops
  pub parts_are : after.parts ≡ before.parts
  pub commons_are : after.commons ≡ before.commons

-- So they are with a common file that is made with these texts and paths: values that number files have the numbers of these paths.
pub record IsWithCommon (files : List File) (texts paths : List (List ℕ)) (sharing : List Bool) (before after : EntryTable) : Type 0 where
  pub with_texts : IsWithTexts true files texts sharing before after
  pub numbers_are : map (λ v. v.items) with_texts.numbers ≡ map (numbers_in_file paths) files

-- And over one that stands with these texts, where numbers of paths stay as they were.
pub record IsWithStanding (files : List File) (texts : List (List ℕ)) (sharing : List Bool) (before after : EntryTable) : Type 0 where
  pub with_texts : IsWithTexts false files texts sharing before after
  pub numbers_are : with_texts.numbers ≡ kept_numbers before.files.items

-- where texts are written by the lists, and the numbers of paths that they have
abbrev pub texts_held : EntryTable → TextsAt
texts_held k = record {
  files = map (λ (r : FileRows). r.texts.items) k.files.items;
  spaces = map (λ (s : SpaceRow). s.text) k.spaces.items;
  commons = map (λ (s : SpaceRow). s.common) k.spaces.items;
  numbers = map (λ (r : FileRows). r.files.items) k.files.items;
}
