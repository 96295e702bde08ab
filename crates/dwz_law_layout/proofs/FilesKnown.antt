-- What is written of the common file and of all files is known, file by file; and where nothing is in the common file, nothing is written of it.
use Rattle.std.proofs.Common.{◌≡◌, ℕ, zero, suc, ◌+◌, ◌<◌, Bool, true, false, List, [], ◌∷◌, Some, None, cond, length, map, slice_get, refl, sym, ap, subst, ◌∙◌, arith}
use Rattle.std.specs.List.{filter}
use Rattle.std.specs.Prelude.{slice_index_or}
use Rattle.dwz_def_reading.specs.Units.{RawUnit}
use Rattle.dwz_def_reading.proofs.ListFacts.{get_first}
use Rattle.dwz_def_reading.proofs.CaseFacts.{ok_same}
use Rattle.dwz_def_reading.specs.Documents.{Doc, DwUnit}
use Rattle.dwz_def_reading.specs.Files.{Limits, file_meaning, limits_after, no_files_before}
use Rattle.dwz_def_reading.specs.Meanings.{IfSo}
use Rattle.dwz_def_tops.specs.Spots.{EntryName, file_numbers}
use Rattle.dwz_def_images.specs.Units.{changes, common_units, file_units, out_units}
use Rattle.dwz_unit.specs.Rows.{units_of as raw_units}
use Rattle.dwz_graph.specs.declared.file.File.{File}
use Rattle.dwz_graph.specs.Files.{AreRead, IsRead}
use Rattle.dwz_graph.proofs.GraphLemmas.{as_many}
use Rattle.dwz_graph.specs.declared.index.Starts.{Starts}
use Rattle.dwz_graph.specs.Index.{Index}
use Rattle.dwz_graph.proofs.TopLemmas.{get_later}
use Rattle.dwz_graph.specs.Indexed.{AreIndexed, first_starts, starts_behind}
use Rattle.dwz_graph.proofs.FileWalk.{is_among}
use Rattle.dwz_graph.specs.EntryCounts.{starts_from}
use Rattle.dwz_layout_order.specs.Marks.{flag_at}
use Rattle.dwz_layout_order.specs.declared.orders.Settled.{Settled}
use Rattle.dwz_layout_order.specs.Ordered.{AreOrders, FilePut, FilesPut, FirstFile, PartsPut, from_index, next_index}
use Rattle.dwz_layout.specs.declared.known.FileRows.{FileRows}
use Rattle.dwz_layout.specs.declared.known.EntryTable.{EntryTable}
use Rattle.dwz_layout.specs.declared.known.TextAt.{TextAt}
use Rattle.dwz_layout.specs.declared.order.UnitItems.{UnitItems}
use Rattle.dwz_law_layout.specs.Fitted.{KnowFiles}
use Rattle.dwz_law_layout.specs.Knows.{NewNumbers}
use Rattle.dwz_law_layout.specs.Beside.{Beside}
use Rattle.dwz_law_layout.specs.Facts.{AreFacts, HasFile, RunFacts, docs, files_written, move, units, units_written, written}
use Rattle.dwz_law_layout.specs.Listed.{AreListed, AreRows, TextsAt}
use Rattle.dwz_law_layout.specs.Named.{keys}
use Rattle.dwz_law_layout.specs.Settled.{IsSettled}
use Rattle.dwz_law_layout.specs.Unfitted.{KnowCommon, before_files, before_forms, common_keyed_forms, file_keyed_forms, unfitted_file}
use Rattle.dwz_law_layout.specs.ShownKept.{AreWrittenFrom}
use Rattle.dwz_law_layout.specs.Laid.{FilesKnownLaw, FilesTexts, NoneKnownLaw, RunKnownLaw, TextsKnown}
use Rattle.dwz_law_layout.proofs.FileKnown.{file_known, know_count}
use Rattle.dwz_law_layout.proofs.PartsKnown.{common_known, common_long}
use Rattle.dwz_law_layout.proofs.WrittenUnits.{written_units}

-- ---- files that were read have the same units

pub same_raw : (l : Limits) (number : ℕ) (bytes : List ℕ) (x y : File) → IsRead l number bytes x → IsRead l number bytes y → raw_units x.units ≡ raw_units y.units
same_raw l number bytes x y a b =
    ap (λ (p : List RawUnit × Doc ℕ). p.0) (ok_same (file_meaning l bytes) (raw_units x.units, a.doc) (raw_units y.units, b.doc) a.means b.means)

-- P or Q of one, from those of another
pub if_so : (b : Bool) (P Q P' Q' : Type 0) → (P → P') → (Q → Q') → IfSo b P Q → IfSo b P' Q'
if_so true P Q P' Q' first other h = first h
if_so false P Q P' Q' first other h = other h

pub first_file : (P P' : List UnitItems → Type 0) (Q Q' : List (List UnitItems) → Type 0) (orders : List (List UnitItems)) → ((order : List UnitItems) → P order → P' order)
    → ((some : List (List UnitItems)) → Q some → Q' some) → FirstFile P Q orders → FirstFile P' Q' orders
first_file P P' Q Q' [] one more h = h
first_file P P' Q Q' (order ∷ orders) one more h = (one order h.0, more orders h.1)

pub files_put : (s : Settled) (l : Limits) (n start : ℕ) (contents : List (List ℕ)) (xs ys : List File) (a b : Limits) → AreRead l n contents xs a → AreRead l n contents ys b
    → (is : List Index) (orders : List (List UnitItems)) → FilesPut s n start ys is orders → FilesPut s n start xs is orders
files_put s l n start [] [] [] a b p q is orders put = put
files_put s l n start [] (x ∷ xs) ys a b p q is orders put = absurd p
files_put s l n start [] [] (y ∷ ys) a b p q is orders put = absurd q
files_put s l n start (bytes ∷ contents) [] ys a b p q is orders put = absurd p
files_put s l n start (bytes ∷ contents) (x ∷ xs) [] a b p q is orders put = absurd q
files_put s l n start (bytes ∷ contents) (x ∷ xs) (y ∷ ys) a b p q [] orders put = absurd put
files_put s l n start (bytes ∷ contents) (x ∷ xs) (y ∷ ys) a b p q (index ∷ is) orders put =
    let same = same_raw l n bytes x y p.0 q.0 in
    let behind = subst (λ (w : List RawUnit). AreRead (limits_after l bytes w) (suc n) contents ys b) (sym same) q.1 in
    let rest : (some : List (List UnitItems)) → FilesPut s (suc n) (start + length index.steps) ys is some → FilesPut s (suc n) (start + length index.steps) xs is some =
    λ some h. files_put s (limits_after l bytes (raw_units x.units)) (suc n) (start + length index.steps) contents xs ys a b p.1 behind is some h in
    if_so (flag_at s.files.now n) (FirstFile (FilePut s (raw_units y.units) (from_index n start index) (next_index index)) (FilesPut s (suc n) (start + length index.steps) ys is) orders)
    (FilesPut s (suc n) (start + length index.steps) ys is orders)
    (FirstFile (FilePut s (raw_units x.units) (from_index n start index) (next_index index)) (FilesPut s (suc n) (start + length index.steps) xs is) orders)
    (FilesPut s (suc n) (start + length index.steps) xs is orders)
    (first_file (FilePut s (raw_units y.units) (from_index n start index) (next_index index)) (FilePut s (raw_units x.units) (from_index n start index) (next_index index))
    (FilesPut s (suc n) (start + length index.steps) ys is) (FilesPut s (suc n) (start + length index.steps) xs is) orders
    (λ order h. subst (λ (w : List RawUnit). FilePut s w (from_index n start index) (next_index index) order) (sym same) h) rest)
    (rest orders) put

-- ---- numbers of files

pub flag_is : (g : ℕ → Bool) (s : ℕ) (said : List (Doc ℕ)) (n : ℕ) → n < length said → slice_index_or (map g (file_numbers s said)) n false ≡ g (s + n)
unfolding file_numbers
flag_is g s [] n lt = absurd (omega (arith, lt))
flag_is g s (doc ∷ said) zero lt = ap g (let z : s ≡ s + 0 = omega arith in z)
flag_is g s (doc ∷ said) (suc n) lt = flag_is g (suc s) said n (omega (arith, lt)) ∙ ap g (let z : suc s + n ≡ s + suc n = omega arith in z)

pub indexed_long : (s : Starts) (said : List (Doc ℕ)) (is : List Index) (end : Starts) → AreIndexed s said is end → length said ≡ length is
indexed_long s [] [] end are = refl
indexed_long s [] (x ∷ is) end are = absurd are
indexed_long s (doc ∷ said) [] end are = absurd are
indexed_long s (doc ∷ said) (x ∷ is) end are = ap suc (indexed_long (starts_behind s doc x) said is end are.1)

module _ {beside : Beside} (f : RunFacts beside) (t : TextsAt) (k : EntryTable) (facts : AreFacts f) (listed : AreListed f t k) (s : Settled) (settled : IsSettled f s) (numbers : ℕ → NewNumbers) where
  abbrev some_of : ℕ → List (Doc ℕ) → List ℕ
  some_of n said = filter (changes (move f) (units f)) (file_numbers n said)

  abbrev Has : ℕ → List File → List Index → Type 0
  Has n xs is = (j : ℕ) (x : File) (index : Index) → slice_get xs j ≡ Some x → slice_get is j ≡ Some index → (bytes : List ℕ) × HasFile f (n + j) bytes x index

  abbrev Start : ℕ → ℕ → List Index → Type 0
  Start n start is = (j c : ℕ) → slice_get (starts_from start is) j ≡ Some c → slice_get (starts_from 0 f.indexes) (n + j) ≡ Some c

  abbrev Flags : ℕ → List (Doc ℕ) → Type 0
  Flags n said = (j : ℕ) → j < length said → slice_index_or (written f) (n + j) false ≡ changes (move f) (units f) (n + j)

  abbrev AllKnown : ℕ → List ℕ → List (List UnitItems) → Type 0
  AllKnown here files orders = KnowFiles (keys f) k here orders (map (unfitted_file f numbers) files)

  abbrev AreThere : ℕ → List ℕ → Type 0
  AreThere here files = AreWrittenFrom f here (file_units (move f) (units f) files)

  known_from : (n start here : ℕ) (said : List (Doc ℕ)) (xs : List File) (is : List Index) (orders : List (List UnitItems)) → length said ≡ length is → Has n xs is → Start n start is → Flags n said
      → FilesPut s n start xs is orders → AreThere here (some_of n said) → FilesTexts f k numbers (some_of n said) orders → AllKnown here (some_of n said) orders
  unfolding file_numbers starts_from file_units
  known_from n start here [] [] [] orders long has starts flags put there texts = subst (λ (w : List (List UnitItems)). KnowFiles (keys f) k here w []) (sym put) tt
  known_from n start here [] (x ∷ xs) [] orders long has starts flags put there texts = absurd put
  known_from n start here [] xs (index ∷ is) orders long has starts flags put there texts = absurd (omega (arith, long))
  known_from n start here (doc ∷ said) xs [] orders long has starts flags put there texts = absurd (omega (arith, long))
  known_from n start here (doc ∷ said) [] (index ∷ is) orders long has starts flags put there texts = absurd put
  known_from n start here (doc ∷ said) (x ∷ xs) (index ∷ is) orders long has starts flags put there texts =
      let none : n + 0 ≡ n = omega arith in
      let flag : slice_index_or (written f) n false ≡ changes (move f) (units f) n =
      subst (λ (q : ℕ). slice_index_or (written f) q false ≡ changes (move f) (units f) q) none (flags 0 (omega arith)) in
      let settled_flag : flag_at s.files.now n ≡ changes (move f) (units f) n = ap (λ (w : List Bool). slice_index_or w n false) settled.files ∙ flag in
      by (changes (move f) (units f) n) flag orders
      (subst (λ (b : Bool). IfSo b (FirstFile (FilePut s (raw_units x.units) (from_index n start index) (next_index index)) (FilesPut s (suc n) (start + length index.steps) xs is) orders)
      (FilesPut s (suc n) (start + length index.steps) xs is orders)) settled_flag put) there texts
      (λ later some put there texts. known_from (suc n) (start + length index.steps) later said xs is some (omega (arith, long))
      (λ j y i e g. (let next : n + suc j ≡ suc n + j = omega arith in let o = has (suc j) y i e g in (o.0, subst (λ (q : ℕ). HasFile f q o.0 y i) next o.1)))
      (λ j c e. (let next : suc n + j ≡ n + suc j = omega arith in ap (slice_get (starts_from 0 f.indexes)) next ∙ starts (suc j) c e))
      (λ j lt. (let next : n + suc j ≡ suc n + j = omega arith in
      subst (λ (q : ℕ). slice_index_or (written f) q false ≡ changes (move f) (units f) q) next (flags (suc j) (omega (arith, lt))))) put there texts)
    where
      by : (b : Bool) → slice_index_or (written f) n false ≡ b → (orders : List (List UnitItems))
          → IfSo b (FirstFile (FilePut s (raw_units x.units) (from_index n start index) (next_index index)) (FilesPut s (suc n) (start + length index.steps) xs is) orders)
          (FilesPut s (suc n) (start + length index.steps) xs is orders)
          → AreThere here (cond b (n ∷ some_of (suc n) said) (some_of (suc n) said)) → FilesTexts f k numbers (cond b (n ∷ some_of (suc n) said) (some_of (suc n) said)) orders
          → ((later : ℕ) (some : List (List UnitItems)) → FilesPut s (suc n) (start + length index.steps) xs is some → AreThere later (some_of (suc n) said)
          → FilesTexts f k numbers (some_of (suc n) said) some → AllKnown later (some_of (suc n) said) some)
          → AllKnown here (cond b (n ∷ some_of (suc n) said) (some_of (suc n) said)) orders
      by true w [] put there texts rest = absurd put
      by true w (order ∷ orders) put there texts rest =
          let none : n + 0 ≡ n = omega arith in
          let o = has 0 x index refl refl in
          let own = out_units (move f) (units f) n in
          let others = file_units (move f) (units f) (some_of (suc n) said) in
          let at = ap (slice_get (starts_from 0 f.indexes)) (sym none) ∙ starts 0 start refl in
          let first = file_known f t k facts listed s settled n o.0 x index (subst (λ (q : ℕ). HasFile f q o.0 x index) none o.1) w start at (numbers n) here order put.0
          (λ j u e. there j u (get_first own others j u e)) texts.0 in
          let long = know_count (keys f) k (file_keyed_forms f n) (numbers n) here order own first in (
            first,
            rest (here + length order) orders put.1
                (λ j u e. (let far : here + (length own + j) ≡ (here + length order) + j = omega (arith, long) in
                subst (λ (q : ℕ). slice_get (units_written f) q ≡ Some u) far (there (length own + j) u (get_later own others j u e)))) texts.1,
          )
      by false w orders put there texts rest = rest here orders put there texts

-- ---- as many files as were read

rows_long : {beside : Beside} (f : RunFacts beside) (xs : List File) (is : List Index) (starts : List ℕ) (texts : List (List TextAt)) (rows : List FileRows) → AreRows f xs is starts texts rows → length xs ≡ length is
rows_long f [] [] starts texts rows h = refl
rows_long f [] (index ∷ is) starts texts rows h = absurd h
rows_long f (x ∷ xs) [] starts texts rows h = absurd h
rows_long f (x ∷ xs) (index ∷ is) [] texts rows h = absurd h
rows_long f (x ∷ xs) (index ∷ is) (c ∷ starts) [] rows h = absurd h
rows_long f (x ∷ xs) (index ∷ is) (c ∷ starts) (t ∷ texts) [] h = absurd h
rows_long f (x ∷ xs) (index ∷ is) (c ∷ starts) (t ∷ texts) (r ∷ rows) h = ap suc (rows_long f xs is starts texts rows h.1)

module _ {beside : Beside} (f : RunFacts beside) (t : TextsAt) (k : EntryTable) (facts : AreFacts f) (listed : AreListed f t k) where
  indexes_long : length (docs f) ≡ length f.indexes
  indexes_long = indexed_long first_starts (docs f) f.indexes facts.indexed.end facts.indexed.are

  -- the number of the common file among those that are put in order is that of the files
  as_read : (s : Settled) (orders : List (List UnitItems)) (put : AreOrders f.contents f.indexes s orders) → length put.files ≡ length (docs f)
  as_read s orders put =
      let many = as_many no_files_before 0 f.contents put.files put.kept.end put.kept.are in
      let mine = as_many no_files_before 0 f.contents f.files facts.kept.end facts.kept.are in
      let rows = rows_long f f.files f.indexes (starts_from 0 f.indexes) t.files k.files.items listed.rows in
      omega (arith, many, mine, rows, indexes_long)

  common_put : (s : Settled) (orders : List (List UnitItems)) (put : AreOrders f.contents f.indexes s orders) → PartsPut s (length (docs f)) 0 s.plan.now.partials put.common
  common_put s orders put = subst (λ (n : ℕ). PartsPut s n 0 s.plan.now.partials put.common) (as_read s orders put) put.common_put

-- ---- all that is written

pub all_files_known : FilesKnownLaw
all_files_known beside f t k s facts listed settled files kept orders put numbers texts =
    let first : (n : ℕ) → 0 + n ≡ n = λ n. omega arith in
    let units_common = common_units (move f) in
    let units_others = file_units (move f) (units f) (files_written f) in
    known_from f t k facts listed s settled numbers 0 0 (length units_common) (docs f) f.files f.indexes orders (indexes_long f t k facts listed)
    (λ j x index e g. (let o = is_among f.contents f.files f.indexes j x index facts.kept facts.indexed e g in
    (o.bytes, subst (λ (q : ℕ). HasFile f q o.bytes x index) (sym (first j)) (record { file = e; index_is = g; read = o.is.kept }))))
    (λ j c e. ap (slice_get (starts_from 0 f.indexes)) (first j) ∙ e)
    (λ j lt. ap (λ (q : ℕ). slice_index_or (written f) q false) (first j) ∙ flag_is (changes (move f) (units f)) 0 (docs f) j lt)
    (files_put s no_files_before 0 0 f.contents f.files files facts.kept.end kept.end facts.kept.are kept.are f.indexes orders put)
    (λ j u e. ap (λ (w : List (DwUnit EntryName)). slice_get w (length units_common + j)) (written_units f) ∙ get_later units_common units_others j u e)
    texts

pub run_known : RunKnownLaw
run_known f t k s facts listed settled orders put numbers texts =
    let told = subst (TextsKnown f k numbers) put.orders_are texts in
    let common = common_known f t k s facts listed settled put.common (common_put f t k facts listed s orders put) told.0 in
    let long = know_count (keys f) k (common_keyed_forms f) None 0 put.common (common_units (move f)) common in
    let others = all_files_known _ f t k s facts listed settled put.files put.kept put.others put.files_put numbers told.1 in
    let at : length (common_units (move f)) ≡ 0 + length put.common = omega (arith, long) in
    subst (λ (w : List (List UnitItems)). KnowFiles (keys f) k 0 w (before_forms f numbers)) (sym put.orders_are)
    (common, subst (λ (n : ℕ). KnowFiles (keys f) k n put.others (before_files f numbers)) at others)

-- ---- nothing in the common file

no_orders : (order : List UnitItems) → length order ≡ 0 → order ≡ []
no_orders [] e = refl
no_orders (o ∷ order) e = absurd (omega (arith, e))

pub none_known : NoneKnownLaw
none_known beside f t k s facts listed settled none common others put =
    let long = common_long f t k s facts listed settled put.common (common_put f t k facts listed s (common ∷ others) put) in
    let no = no_orders put.common (long ∙ ap (λ (w : List (DwUnit EntryName)). length w) none) in
    let both : common ∷ others ≡ put.common ∷ put.others = put.orders_are in
    let same : common ≡ put.common = cc in
    subst (λ (w : List UnitItems). KnowCommon f k w (common_units (move f))) (sym (same ∙ no))
    (subst (λ (us : List (DwUnit EntryName)). KnowCommon f k [] us) (sym none) tt)
