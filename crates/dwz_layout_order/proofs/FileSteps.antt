-- File by file: what was appended, and what is left.
use Rattle.std.proofs.Common.{◌≡◌, ℕ, zero, suc, ◌+◌, ◌<◌, ◌≤◌, Bool, true, false, List, [], ◌∷◌, ◌++◌, Some, length, drop, get_or, slice_get, refl, sym, ap, subst, ◌∙◌, arith}
use Rattle.std.proofs.lemmas.List.{append-nil, append_assoc, drop_all, length-append}
use Rattle.dwz_def_reading.specs.Files.{no_files_before}
use Rattle.dwz_def_reading.specs.Units.{entries_in}
use Rattle.dwz_def_reading.proofs.ListFacts.{item_got}
use Rattle.dwz_def_tops.specs.Spots.{EntryName, FileUnit, units_of}
use Rattle.dwz_graph.specs.declared.file.File.{File}
use Rattle.dwz_graph.specs.Files.{AreKept, docs_of}
use Rattle.dwz_graph.specs.Index.{Index}
use Rattle.dwz_graph.specs.Indexed.{AreIndexes}
use Rattle.dwz_graph.proofs.GraphLemmas.{as_many}
use Rattle.dwz_graph.proofs.IndexRoom.{many_units}
use Rattle.dwz_def_reading.specs.Meanings.{IfSo}
use Rattle.dwz_layout.specs.declared.order.UnitItems.{UnitItems}
use Rattle.dwz_unit.specs.Rows.{units_of as raw_units}
use Rattle.dwz_graph.specs.Across.{file_units}
use Rattle.dwz_graph.proofs.FileCounts.{are_many}
use Rattle.dwz_graph.proofs.FileEntries.{all_entries}
use Rattle.dwz_graph.proofs.FileWalk.{is_among}
use Rattle.dwz_graph.proofs.TopRows.{units_long}
use Rattle.dwz_graph.specs.EntryCounts.{starts_from}
use Rattle.dwz_graph.specs.Few.{HasSmallNumbers}
use Rattle.dwz_graph.proofs.FilesFew.{file_small}
use Rattle.dwz_layout_order.specs.Marks.{flag_at}
use Rattle.dwz_layout_order.specs.declared.orders.Settled.{Settled}
use Rattle.dwz_layout_order.specs.Ordered.{AreOrders, AreOrdersBehind, FilePut, FilesPut, FirstFile, PartsPut, from_index, next_index}
use Rattle.dwz_layout_order.specs.Steps.{PutsFile}

abbrev pub IsPut : Settled → (number start : ℕ) → File → Index → List UnitItems → Type 0
IsPut s number start f x = FilePut s (raw_units f.units) (from_index number start x) (next_index x)

-- so many files were written, where the next one has that number and its first entry that one, and whatever is right of the others makes
-- all right
pub record Going (s : Settled) (files : List File) (indexes : List Index) (common : List UnitItems) (number start : ℕ) (orders : List (List UnitItems)) : Type 0 where
  pub before : List ℕ
  pub long : length before ≡ number
  pub begin : starts_from 0 indexes ≡ before ++ starts_from start (drop number indexes)
  pub others : List (List UnitItems)
  pub orders_are : orders ≡ common ∷ others
  pub all : (rest : List (List UnitItems)) → FilesPut s number start (drop number files) (drop number indexes) rest → FilesPut s 0 0 files indexes (others ++ rest)

-- what a file appends
more_of : (P : List UnitItems → Type 0) (written : Bool) (old new : List (List UnitItems)) → PutsFile P written old new
    → (more : List (List UnitItems)) × (new ≡ old ++ more) × ((Q : List (List UnitItems) → Type 0) (rest : List (List UnitItems)) → Q rest
    → IfSo written (FirstFile P Q (more ++ rest)) (Q (more ++ rest)))
more_of P true old new h = (h.0 ∷ [], h.1, λ Q rest q. (h.2, q))
more_of P false old new h = ([], h ∙ sym (append-nil old), λ Q rest q. q)

get_behind : (before : List ℕ) (start : ℕ) (rest : List ℕ) → slice_get (before ++ start ∷ rest) (length before) ≡ Some start
get_behind [] start rest = refl
get_behind (x ∷ before) start rest = get_behind before start rest

drop_there : {X : Type 0} (xs : List X) (i : ℕ) (x : X) → slice_get xs i ≡ Some x → drop i xs ≡ x ∷ drop (suc i) xs
drop_there [] i x e = absurd cc
drop_there (y ∷ xs) zero x e = ap (λ w. w ∷ xs) (let same : y ≡ x = cc in same)
drop_there (y ∷ xs) (suc i) x e = drop_there xs i x e

-- as many files as there are contents, and each has an index
pub many : (contents : List (List ℕ)) (files : List File) (indexes : List Index) → AreKept contents files → AreIndexes (docs_of contents) indexes
    → (length contents ≡ length files) × (length indexes ≡ length files)
many contents files indexes kept are = let m = are_many contents files indexes kept are in (m.2 ∙ sym m.0, m.1 ∙ sym m.0)

module _ (contents : List (List ℕ)) (files : List File) (indexes : List Index) (kept : AreKept contents files) (are : AreIndexes (docs_of contents) indexes) (s : Settled)
    (common : List UnitItems) where
  pub begins : Going s files indexes common 0 0 (common ∷ [])
  begins = record { before = []; long = refl; begin = refl; others = []; orders_are = refl; all = λ rest h. h }

  module _ (number start : ℕ) (orders : List (List UnitItems)) (g : Going s files indexes common number start orders) (f : File) (x : Index) (got : slice_get files number ≡ Some f)
      (x_got : slice_get indexes number ≡ Some x) where
    start_there : slice_get (starts_from 0 indexes) number ≡ Some start
    unfolding starts_from
    start_there =
        ap (λ (w : List ℕ). slice_get w number) (g.begin ∙ ap (λ (xs : List Index). g.before ++ starts_from start xs) (drop_there indexes number x x_got))
        ∙ ap (slice_get (g.before ++ start ∷ starts_from (start + length x.steps) (drop (suc number) indexes))) (sym g.long)
        ∙ get_behind g.before start (starts_from (start + length x.steps) (drop (suc number) indexes))

    pub small : HasSmallNumbers x.starts start (entries_in (raw_units f.units)) × (length (raw_units f.units) ≤ entries_in (raw_units f.units))
    small = file_small contents files indexes number start f x kept are got x_got start_there

    -- its units are among those of all
    pub within : x.starts.unit + length (raw_units f.units) ≤ length (units_of (docs_of contents))
    within =
        let a = is_among contents files indexes number f x kept are got x_got in
        let p = a.is.units in
        let own = units_long x.starts number a.is.kept.read.doc in
        let same = many_units a.is.kept.limits a.bytes (raw_units f.units) a.is.kept.read.doc a.is.kept.read.means in
        let many = p.many in
        let all = ap (λ (w : List (FileUnit EntryName)). length w) p.all_are in
        let both = length-append p.front (file_units x.starts number a.is.kept.read.doc ++ p.back) in
        let behind = length-append (file_units x.starts number a.is.kept.read.doc) p.back in
        omega arith

    -- its index has as many steps as it has entries
    pub steps : length x.steps ≡ entries_in (raw_units f.units)
    steps = let a = is_among contents files indexes number f x kept are got x_got in all_entries contents number a.bytes f x a.is

    pub goes_on : (new : List (List UnitItems)) (next : ℕ) → next ≡ start + length x.steps → PutsFile (IsPut s number start f x) (flag_at s.files.now number) orders new
        → Going s files indexes common (number + 1) next new
    unfolding starts_from
    goes_on new next e put =
        let one : suc number ≡ number + 1 = omega arith in
        let m = more_of (IsPut s number start f x) (flag_at s.files.now number) orders new put in
        let here = drop_there files number f got in
        let x_here = drop_there indexes number x x_got in
        let end = start + length x.steps in
        let P : ℕ → ℕ → Type 0 = λ n k. Going s files indexes common n k new in
        subst (λ (n : ℕ). P n next) one (subst (λ (k : ℕ). P (suc number) k) (sym e) (record {
          before = g.before ++ start ∷ [];
          long = (let long = length-append g.before (start ∷ []) in let is = g.long in omega arith);
          begin = g.begin ∙ ap (λ (xs : List Index). g.before ++ starts_from start xs) x_here ∙ sym (append_assoc g.before (start ∷ []) (starts_from end (drop (suc number) indexes)));
          others = g.others ++ m.0;
          orders_are = m.1 ∙ ap (λ (w : List (List UnitItems)). w ++ m.0) g.orders_are;
          all = λ rest h. (
              let both : FilesPut s number start (f ∷ drop (suc number) files) (x ∷ drop (suc number) indexes) (m.0 ++ rest) =
              m.2 (FilesPut s (suc number) end (drop (suc number) files) (drop (suc number) indexes)) rest h in
              let mine : FilesPut s number start (drop number files) (drop number indexes) (m.0 ++ rest) =
              subst (λ (xs : List Index). FilesPut s number start (drop number files) xs (m.0 ++ rest)) (sym x_here)
              (subst (λ (fs : List File). FilesPut s number start fs (x ∷ drop (suc number) indexes) (m.0 ++ rest)) (sym here) both) in
              subst (FilesPut s 0 0 files indexes) (sym (append_assoc g.others m.0 rest)) (g.all (m.0 ++ rest) mine)
              );
        }))

  pub ends : (number start : ℕ) (orders : List (List UnitItems)) → length files ≤ number → (g : Going s files indexes common number start orders) → FilesPut s 0 0 files indexes g.others
  ends number start orders le g =
      let m = are_many contents files indexes kept are in
      let a = m.0 in
      let b = m.1 in
      let none = drop_all number files le in
      let x_none = drop_all number indexes (omega arith) in
      let nothing : FilesPut s number start (drop number files) (drop number indexes) [] =
      subst (λ (xs : List Index). FilesPut s number start (drop number files) xs []) (sym x_none)
      (subst (λ (fs : List File). FilesPut s number start fs [] []) (sym none) refl) in
      subst (FilesPut s 0 0 files indexes) (append-nil g.others) (g.all [] nothing)

-- ---- with the items of lists

module _ (contents : List (List ℕ)) (files : List File) (indexes : List Index) (kept : AreKept contents files) (are : AreIndexes (docs_of contents) indexes) (s : Settled)
    (common : List UnitItems) where
  pub starts : (orders : List (List UnitItems)) → orders ≡ common ∷ [] → Going s files indexes common 0 0 orders
  starts orders e = subst (Going s files indexes common 0 0) (sym e) (begins contents files indexes kept are s common)

  module _ (number start : ℕ) (orders : List (List UnitItems)) (g : Going s files indexes common number start orders) (f : File) (x : Index) (lt : number < length files) (f_is : f ≡ get_or files number f)
      (x_is : x ≡ get_or indexes number x) where
    x_lt : number < length indexes
    x_lt = let m = many contents files indexes kept are in let b = m.1 in omega arith

    f_got : slice_get files number ≡ Some f
    f_got = item_got files number f lt f_is

    x_got : slice_get indexes number ≡ Some x
    x_got = item_got indexes number x x_lt x_is

    pub file_is_small : HasSmallNumbers x.starts start (entries_in (raw_units f.units)) × (length (raw_units f.units) ≤ entries_in (raw_units f.units))
    file_is_small = small contents files indexes kept are s common number start orders g f x f_got x_got

    pub units_within : x.starts.unit + length (raw_units f.units) ≤ length (units_of (docs_of contents))
    units_within = within contents files indexes kept are s common number start orders g f x f_got x_got

    pub steps_many : length x.steps ≡ entries_in (raw_units f.units)
    steps_many = steps contents files indexes kept are s common number start orders g f x f_got x_got

    pub one_more : (new : List (List UnitItems)) (next : ℕ) → next ≡ start + length x.steps → PutsFile (IsPut s number start f x) (flag_at s.files.now number) orders new
        → Going s files indexes common (number + 1) next new
    one_more new next e put = goes_on contents files indexes kept are s common number start orders g f x f_got x_got new next e put

  pub all_put : (number start : ℕ) (orders : List (List UnitItems)) → length files ≤ number → Going s files indexes common number start orders → AreOrdersBehind common contents indexes s orders
  all_put number start orders le g = record {
    files = files;
    kept = kept;
    others = g.others;
    orders_are = g.orders_are;
    files_put = ends contents files indexes kept are s common number start orders le g;
  }

-- ---- with the common file

-- so many files
pub files_long : (contents : List (List ℕ)) (files : List File) → AreKept contents files → length contents ≡ length files
files_long contents files kept = sym (as_many no_files_before 0 contents files kept.end kept.are)

pub with_common : (contents : List (List ℕ)) (indexes : List Index) (s : Settled) (common : List UnitItems) (orders : List (List UnitItems))
    → PartsPut s (length contents) 0 s.plan.now.partials common → AreOrdersBehind common contents indexes s orders → AreOrders contents indexes s orders
with_common contents indexes s common orders put b = record {
  files = b.files;
  kept = b.kept;
  common = common;
  others = b.others;
  orders_are = b.orders_are;
  common_put = subst (λ (n : ℕ). PartsPut s n 0 s.plan.now.partials common) (files_long contents b.files b.kept) put;
  files_put = b.files_put;
}
