-- The texts of all files that are written, file by file: of each its partial units, and then its old ones.
use Rattle.std.proofs.Common.{◌≡◌, ℕ, suc, ◌+◌, ◌<◌, Bool, true, false, List, [], ◌∷◌, ◌++◌, Some, cond}
use Rattle.std.proofs.Common.{length, slice_get, refl, sym, ap, subst, ◌∙◌, arith}
use Rattle.std.specs.List.{filter}
use Rattle.std.specs.Prelude.{slice_index_or}
use Rattle.dwz_def_reading.specs.Documents.{Doc, DwUnit}
use Rattle.dwz_def_reading.specs.Files.{no_files_before}
use Rattle.dwz_def_reading.specs.Meanings.{IfSo}
use Rattle.dwz_def_tops.specs.Spots.{EntryName, file_numbers}
use Rattle.dwz_def_images.specs.Units.{changes, out_units}
use Rattle.dwz_unit.specs.Rows.{units_of as raw_units}
use Rattle.dwz_graph.specs.declared.file.File.{File}
use Rattle.dwz_graph.specs.Index.{Index}
use Rattle.dwz_graph.specs.Indexed.{first_starts}
use Rattle.dwz_graph.proofs.FileWalk.{is_among}
use Rattle.dwz_graph.specs.EntryCounts.{starts_from}
use Rattle.dwz_layout_order.specs.Kept.{imports_at}
use Rattle.dwz_layout_order.specs.Marks.{flag_at}
use Rattle.dwz_layout_order.specs.declared.orders.Settled.{Settled}
use Rattle.dwz_layout_order.specs.Ordered.{FilePut, FilesPut, FirstFile, from_index, next_index}
use Rattle.dwz_layout.specs.declared.known.EntryTable.{EntryTable}
use Rattle.dwz_layout.specs.declared.order.UnitItems.{UnitItems}
use Rattle.dwz_law_layout.specs.Beside.{Alone, Beside, Over}
use Rattle.dwz_law_layout.specs.Facts.{AreFacts, HasFile, RunFacts, docs, files_written, move, units, written}
use Rattle.dwz_law_layout.specs.Listed.{AreListed, TextsAt}
use Rattle.dwz_law_layout.specs.Settled.{IsSettled}
use Rattle.dwz_encode_texts.specs.TextLaws.{StandAsRead}
use Rattle.dwz_law_layout.proofs.OldUnits.{units_shown}
use Rattle.dwz_law_layout.specs.ShownKept.{olds_after}
use Rattle.dwz_law_layout.specs.ShownParts.{parts_after}
use Rattle.dwz_law_layout.proofs.FilesKnown.{files_put, flag_is, indexed_long}
use Rattle.dwz_graph.specs.Files.{AreKept}
use Rattle.dwz_run_files.specs.Prepared.{AreOrdersBy}
use Rattle.dwz_run_files.specs.Stood.{FilesUnshared, KnowUnshared, StoodLaw}
use Rattle.dwz_run_files.proofs.FileOwn.{file_own}
use Rattle.dwz_run_files.proofs.OldTexts.{olds_texts}
use Rattle.dwz_run_files.proofs.PartTexts.{parts_texts}

-- ---- files that were read have the same units

-- what is written of a file, and of those behind it
abbrev Own : Settled → ℕ → ℕ → File → Index → List UnitItems → Type 0
Own s n start x index order = FilePut s (raw_units x.units) (from_index n start index) (next_index index) order

abbrev Others : Settled → ℕ → ℕ → List File → List Index → Index → List (List UnitItems) → Type 0
Others s n start xs is index orders = FilesPut s (suc n) (start + length index.steps) xs is orders

-- ---- numbers of files

module _ {beside : Beside} (f : RunFacts beside) (t : TextsAt) (k : EntryTable) (facts : AreFacts f) (listed : AreListed f t k) (stand : StandAsRead f t)
    (s : Settled) (settled : IsSettled f s) where
  -- ---- a file

  texts_append : (n : ℕ) (xs ys : List UnitItems) (us vs : List (DwUnit EntryName)) → KnowUnshared f k n xs us → KnowUnshared f k n ys vs
      → KnowUnshared f k n (xs ++ ys) (us ++ vs)
  texts_append n [] ys [] vs first later = later
  texts_append n [] ys (u ∷ us) vs first later = absurd first
  texts_append n (x ∷ xs) ys [] vs first later = absurd first
  texts_append n (x ∷ xs) ys (u ∷ us) vs first later = (first.0, texts_append n xs ys us vs first.1 later)

  file_texts : (n : ℕ) (bytes : List ℕ) (x : File) (index : Index) → HasFile f n bytes x index → n < length (docs f)
      → (start : ℕ) → slice_get (starts_from 0 f.indexes) n ≡ Some start → (order : List UnitItems) → Own s n start x index order
      → KnowUnshared f k n order (out_units (move f) (units f) n)
  unfolding out_units
  file_texts n bytes x index h below start at order put =
      let olds = units_shown _ f t k facts listed n bytes x index h start at s.marks (imports_at s.plan.now) (from_index n start index)
      (next_index index) put.olds refl refl refl put.olds_kept in
      subst (λ (w : List UnitItems). KnowUnshared f k n w (parts_after f n ++ olds_after f n)) (sym put.order_is)
      (texts_append n put.parts put.olds (parts_after f n) (olds_after f n)
      (parts_texts f t k facts listed stand s settled n below put.parts put.parts_put)
      (olds_texts f t k facts listed stand n bytes x 0 (units f) put.olds olds))

  -- ---- all files

  abbrev some_of : ℕ → List (Doc ℕ) → List ℕ
  some_of n said = filter (changes (move f) (units f)) (file_numbers n said)

  abbrev Has : ℕ → List File → List Index → Type 0
  Has n xs is =
      (j : ℕ) (x : File) (index : Index) → slice_get xs j ≡ Some x → slice_get is j ≡ Some index
      → (bytes : List ℕ) × HasFile f (n + j) bytes x index

  abbrev Start : ℕ → ℕ → List Index → Type 0
  Start n start is = (j c : ℕ) → slice_get (starts_from start is) j ≡ Some c → slice_get (starts_from 0 f.indexes) (n + j) ≡ Some c

  abbrev Flags : ℕ → List (Doc ℕ) → Type 0
  Flags n said = (j : ℕ) → j < length said → slice_index_or (written f) (n + j) false ≡ changes (move f) (units f) (n + j)

  -- of a file and those behind it, by whether it is written
  abbrev PutIf : Bool → (n start : ℕ) → File → List File → Index → List Index → List (List UnitItems) → Type 0
  PutIf b n start x xs index is orders =
      IfSo b (FirstFile (Own s n start x index) (Others s n start xs is index) orders) (Others s n start xs is index orders)

  abbrev Texts : List ℕ → List (List UnitItems) → Type 0
  Texts files orders = FilesUnshared f k files orders

  texts_from : (n start : ℕ) (said : List (Doc ℕ)) (xs : List File) (is : List Index) (orders : List (List UnitItems))
      → length said ≡ length is → n + length said ≡ length (docs f) → Has n xs is → Start n start is → Flags n said
      → FilesPut s n start xs is orders → Texts (some_of n said) orders
  unfolding file_numbers starts_from
  texts_from n start [] [] [] orders long many has starts flags put = subst (λ (w : List (List UnitItems)). Texts [] w) (sym put) tt
  texts_from n start [] (x ∷ xs) [] orders long many has starts flags put = absurd put
  texts_from n start [] xs (index ∷ is) orders long many has starts flags put = absurd (omega (arith, long))
  texts_from n start (doc ∷ said) xs [] orders long many has starts flags put = absurd (omega (arith, long))
  texts_from n start (doc ∷ said) [] (index ∷ is) orders long many has starts flags put = absurd put
  texts_from n start (doc ∷ said) (x ∷ xs) (index ∷ is) orders long many has starts flags put =
      let zero_more : n + 0 ≡ n = omega arith in
      let flag : slice_index_or (written f) n false ≡ changes (move f) (units f) n =
      subst (λ (q : ℕ). slice_index_or (written f) q false ≡ changes (move f) (units f) q) zero_more (flags 0 (omega arith)) in
      let settled_flag : flag_at s.files.now n ≡ changes (move f) (units f) n =
      ap (λ (w : List Bool). slice_index_or w n false) settled.files ∙ flag in
      by (changes (move f) (units f) n) refl orders
      (subst (λ (b : Bool). PutIf b n start x xs index is orders) settled_flag put)
      (λ some put. texts_from (suc n) (start + length index.steps) said xs is some (omega (arith, long)) (omega (arith, many))
      (λ j y i e g. (
      let next : n + suc j ≡ suc n + j = omega arith in
      let o = has (suc j) y i e g in
      (o.0, subst (λ (q : ℕ). HasFile f q o.0 y i) next o.1)))
      (λ j c e. (let next : suc n + j ≡ n + suc j = omega arith in ap (slice_get (starts_from 0 f.indexes)) next ∙ starts (suc j) c e))
      (λ j lt. (
      let next : n + suc j ≡ suc n + j = omega arith in
      subst (λ (q : ℕ). slice_index_or (written f) q false ≡ changes (move f) (units f) q) next (flags (suc j) (omega (arith, lt)))))
      put)
    where
      by : (b : Bool) → changes (move f) (units f) n ≡ b → (orders : List (List UnitItems))
          → PutIf b n start x xs index is orders
          → ((some : List (List UnitItems)) → Others s n start xs is index some → Texts (some_of (suc n) said) some)
          → Texts (cond b (n ∷ some_of (suc n) said) (some_of (suc n) said)) orders
      by true moves [] put rest = absurd put
      by true moves (order ∷ orders) put rest =
          let zero_more : n + 0 ≡ n = omega arith in
          let o = has 0 x index refl refl in
          let h = subst (λ (q : ℕ). HasFile f q o.0 x index) zero_more o.1 in
          let at = ap (slice_get (starts_from 0 f.indexes)) (sym zero_more) ∙ starts 0 start refl in
          let below : n < length (docs f) = omega (arith, many) in (
            file_texts n o.0 x index h below start at order put.0,
            file_own _ f t k facts listed s settled n x index h.file h.index_is below moves start at order put.0,
            rest orders put.1,
          )
      by false moves orders put rest = rest orders put

-- whatever stands beside them, the orders of files come behind a first one
pub record ArePut (contents : List (List ℕ)) (indexes : List Index) (s : Settled) (orders : List (List UnitItems)) : Type 0 where
  pub files : List File
  pub kept : AreKept contents files
  pub common : List UnitItems
  pub others : List (List UnitItems)
  pub orders_are : orders ≡ common ∷ others
  pub files_put : FilesPut s 0 0 files indexes others

pub orders_put : (beside : Beside) (contents : List (List ℕ)) (indexes : List Index) (s : Settled) (orders : List (List UnitItems))
    → AreOrdersBy beside contents indexes s orders → ArePut contents indexes s orders
orders_put Alone contents indexes s orders are = record {
  files = are.files;
  kept = are.kept;
  common = are.common;
  others = are.others;
  orders_are = are.orders_are;
  files_put = are.files_put;
}
orders_put (Over c) contents indexes s orders are = record {
  files = are.files;
  kept = are.kept;
  common = [];
  others = are.others;
  orders_are = are.orders_are;
  files_put = are.files_put;
}

pub stood : StoodLaw
stood beside f s t k orders are stand common others same =
    let facts = are.facts in
    let put = orders_put beside f.contents f.indexes s orders are.ordered in
    let first : (n : ℕ) → 0 + n ≡ n = λ n. omega arith in
    let long = indexed_long first_starts (docs f) f.indexes facts.indexed.end facts.indexed.are in
    let kept = files_put s no_files_before 0 0 f.contents f.files put.files facts.kept.end put.kept.end facts.kept.are put.kept.are
    f.indexes put.others put.files_put in
    let all = texts_from f t k facts are.listed stand s are.settled 0 0 (docs f) f.files f.indexes put.others long
    (first (length (docs f)))
    (λ j x index e g. (
    let o = is_among f.contents f.files f.indexes j x index facts.kept facts.indexed e g in
    let h : HasFile f j o.bytes x index = record { file = e; index_is = g; read = o.is.kept } in
    (o.bytes, subst (λ (q : ℕ). HasFile f q o.bytes x index) (sym (first j)) h)))
    (λ j c e. ap (slice_get (starts_from 0 f.indexes)) (first j) ∙ e)
    (λ j lt. ap (λ (q : ℕ). slice_index_or (written f) q false) (first j) ∙ flag_is (changes (move f) (units f)) 0 (docs f) j lt)
    kept in
    subst (FilesUnshared f k (files_written f)) (let both : put.common ∷ put.others ≡ common ∷ others = sym put.orders_are ∙ same in cc) all
