-- Once the common file has its texts, no text that a unit of a file writes is one of that file's own, nor is the name of a space in a
-- partial unit of its file: where such a text is one of the common file, it is shared.
use Rattle.std.proofs.Common.{◌≡◌, ℕ, zero, suc, Bool, true, false, List, [], ◌∷◌, get_or, map, Some, cond, slice_get, sym, subst}
use Rattle.dwz_def_reading.specs.Lists.{Each}
use Rattle.dwz_def_tops.proofs.Members.{each_more}
use Rattle.dwz_graph.specs.declared.file.File.{File}
use Rattle.dwz_def_encoding.specs.Placing.{has_text, text_place}
use Rattle.dwz_def_readback.specs.Files.{texts_by}
use Rattle.dwz_layout.specs.declared.known.EntryTable.{EntryTable}
use Rattle.dwz_layout.specs.declared.known.SpaceRow.{SpaceRow}
use Rattle.dwz_layout.specs.declared.known.TextAt.{TextAt}
use Rattle.dwz_layout.specs.declared.known.TextAt.TheVariants.{Shared}
use Rattle.dwz_layout.specs.declared.order.UnitItems.{UnitItems}
use Rattle.dwz_layout.specs.Known.{no_space}
use Rattle.dwz_law_layout.specs.Beside.{Beside}
use Rattle.dwz_law_layout.specs.Facts.{AreFacts, RunFacts, common, file_read, run}
use Rattle.dwz_law_layout.specs.Listed.{AreListed, TextsAt}
use Rattle.dwz_encode_texts.specs.TextLaws.{StandAsRead}
use Rattle.dwz_encode_common.specs.Placed.{name_at, name_place, shares_in, space_placed}
use Rattle.dwz_encode_common.specs.Shared.{placed_text}
use Rattle.dwz_encode_common.specs.SharedLaws.{HasTexts}
use Rattle.dwz_encode_common.proofs.OwnTexts.{not_pooled}
use Rattle.dwz_run_files.specs.Stood.{FilesUnshared, WritesOwn}
use Rattle.dwz_run_files.specs.Whole.{EachText, IsNotPooled, OwnsNames}
use Rattle.dwz_run_files.proofs.NothingShared.{names_own}
use Rattle.dwz_run_files.proofs.SharedFiles.{wrote}

-- ---- names

shared_apart : (words : List (List ℕ)) (text : List ℕ) (own : TextAt) → IsNotPooled own → (b : Bool)
    → IsNotPooled (cond b (Shared (text_place words text)) own)
shared_apart words text own apart true = λ is. is
shared_apart words text own apart false = apart

placed_apart : (shares : Bool) (words : List (List ℕ)) (text : List ℕ) (own : TextAt) → IsNotPooled own
    → IsNotPooled (placed_text false shares words text own)
placed_apart true words text own apart = shared_apart words text own apart (has_text words text)
placed_apart false words text own apart = apart

name_apart : (shares : Bool) (words names : List (List ℕ)) (own : TextAt) → IsNotPooled own → IsNotPooled (name_place false shares words names own)
name_apart shares words [] own apart = apart
name_apart shares words (name ∷ names) own apart = placed_apart shares words name own apart

space_apart : (files : List File) (words : List (List ℕ)) (sharing : List Bool) (spaces : List SpaceRow) (s : ℕ)
    → IsNotPooled (get_or spaces s no_space).text → IsNotPooled (get_or (map (space_placed files words sharing) spaces) s no_space).text
space_apart files words sharing [] s apart = apart
space_apart files words sharing (x ∷ spaces) zero apart =
    name_apart (shares_in sharing x.row.file) words (name_at files x.row) x.text apart
space_apart files words sharing (x ∷ spaces) (suc s) apart = space_apart files words sharing spaces s apart

-- ---- orders

-- what holds of the units of a file holds of its order
order_own : {beside : Beside} (f : RunFacts beside) (k : EntryTable) (files : List ℕ) (orders : List (List UnitItems)) → FilesUnshared f k files orders
    → (rank n : ℕ) (order : List UnitItems) → slice_get files rank ≡ Some n → slice_get orders rank ≡ Some order
    → Each (WritesOwn f k n) order
order_own f k [] orders known rank n order file is = absurd cc
order_own f k (m ∷ files) [] known rank n order file is = absurd known
order_own f k (m ∷ files) (some ∷ orders) known zero n order file is =
    let number : m ≡ n = cc in
    let same : some ≡ order = cc in
    subst (λ (w : List UnitItems). Each (WritesOwn f k n) w) same (subst (λ (q : ℕ). Each (WritesOwn f k q) some) number known.1)
order_own f k (m ∷ files) (some ∷ orders) known (suc rank) n order file is = order_own f k files orders known.2 rank n order file is

module _ {beside : Beside} (f : RunFacts beside) (t : TextsAt) (sharing : List Bool) (before k : EntryTable) (facts : AreFacts f) (listed : AreListed f t before)
    (as_read : StandAsRead f t) (has : HasTexts f sharing before k) where
  texts_owned : (n : ℕ) (o : UnitItems) → WritesOwn f before n o → EachText IsNotPooled f k o n
  texts_owned n o own bytes x index h i r d read writes =
      not_pooled beside f t sharing before k facts listed as_read has n bytes x index h i r d read
      (own bytes x index h i r d read (wrote f t sharing before k facts listed has o (file_read f n bytes x) i writes))

  pub order_owned : (files : List ℕ) (orders : List (List UnitItems)) → FilesUnshared f before files orders
      → (rank n : ℕ) (order : List UnitItems) → slice_get files rank ≡ Some n → slice_get orders rank ≡ Some order
      → Each (λ o. EachText IsNotPooled f k o n) order
  order_owned files orders known rank n order file is =
      each_more (WritesOwn f before n) (λ o. EachText IsNotPooled f k o n) order (texts_owned n)
      (order_own f before files orders known rank n order file is)

  pub names_owned : (n : ℕ) → OwnsNames f k n
  names_owned n bytes x index h space i r d entry read =
      subst (λ (w : List SpaceRow). IsNotPooled (get_or w space no_space).text) (sym has.spaces_are)
      (space_apart f.files (texts_by (common f) (run f)) sharing before.spaces.items space
      (names_own f t before listed as_read n bytes x index h space i r d entry read))
