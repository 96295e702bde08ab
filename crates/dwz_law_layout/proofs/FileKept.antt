-- The units of a file among those of all, in step with what is written of them: their order, what their items stand for, and their roots.
use Rattle.std.proofs.Common.{◌≡◌, ℕ, zero, suc, ◌+◌, Bool, true, false, List, [], ◌∷◌, map, Some, slice_get, refl, sym, ap, subst, ◌∙◌, arith}
use Rattle.std.specs.Prelude.{slice_index_or}
use Rattle.dwz_def_reading.specs.Documents.{Doc}
use Rattle.dwz_def_reading.specs.Files.{around_of}
use Rattle.dwz_def_reading.proofs.FileLemmas.{file_agrees}
use Rattle.dwz_def_tops.specs.Spots.{file_numbers}
use Rattle.dwz_def_images.specs.Plan.{imports}
use Rattle.dwz_plan.specs.Planned.{Planned}
use Rattle.dwz_plan.specs.Shows.{import_row}
use Rattle.dwz_def_images.specs.Units.{changes}
use Rattle.dwz_unit.specs.Rows.{units_of as raw_units}
use Rattle.dwz_graph.specs.declared.file.File.{File}
use Rattle.dwz_graph.specs.Index.{Index}
use Rattle.dwz_graph.specs.Names.{names_from}
use Rattle.dwz_graph.proofs.TopNameLemmas.{read_whole}
use Rattle.dwz_graph.specs.Across.{IsFileAmong, name_at}
use Rattle.dwz_graph.proofs.FileEntries.{names_entries}
use Rattle.dwz_graph.specs.EntryCounts.{starts_from}
use Rattle.dwz_layout_order.specs.Kept.{AreKept, imports_at}
use Rattle.dwz_layout_order.specs.Orders.{Entered, KeptShown}
use Rattle.dwz_layout_order.specs.Shown.{IsFile, ShowsImports}
use Rattle.dwz_layout_order.proofs.AllShown.{all_kept}
use Rattle.dwz_layout_order.specs.declared.orders.Settled.{Settled}
use Rattle.dwz_layout_order.specs.Ordered.{from_index, next_index}
use Rattle.dwz_law_layout.specs.Old.{EachOld, OldNames}
use Rattle.dwz_law_layout.proofs.OldItems.{old_items}
use Rattle.dwz_layout.specs.declared.known.EntryTable.{EntryTable}
use Rattle.dwz_layout.specs.declared.order.UnitItems.{UnitItems}
use Rattle.dwz_law_layout.specs.Beside.{Beside}
use Rattle.dwz_law_layout.specs.Facts.{AreFacts, HasFile, RunFacts, docs, move, units, written}
use Rattle.dwz_law_layout.specs.Listed.{AreListed, TextsAt}
use Rattle.dwz_law_layout.specs.Settled.{IsSettled}
use Rattle.dwz_law_layout.specs.Roots.{UnitShown}
use Rattle.dwz_law_layout.proofs.FilesFound.{among_of, others}
use Rattle.dwz_law_layout.proofs.OldUnits.{units_shown}
use Rattle.dwz_law_layout.proofs.FileStarts.{next_behind}

-- ---- what moves, and what is imported

flag_of : (g : ℕ → Bool) (s : ℕ) (said : List (Doc ℕ)) (n : ℕ) → slice_index_or (map g (file_numbers s said)) n false ≡ true → g (s + n) ≡ true
unfolding file_numbers
flag_of g s [] zero e = absurd cc
flag_of g s [] (suc n) e = absurd cc
flag_of g s (doc ∷ said) zero e = (let same : s ≡ s + 0 = omega arith in subst (λ (w : ℕ). g w ≡ true) same e)
flag_of g s (doc ∷ said) (suc n) e = (let same : suc s + n ≡ s + suc n = omega arith in subst (λ (w : ℕ). g w ≡ true) same (flag_of g (suc s) said n e))

-- something moves of a file that is written
pub file_changes : {beside : Beside} (f : RunFacts beside) (n : ℕ) → slice_index_or (written f) n false ≡ true → changes (move f) (units f) n ≡ true
file_changes f n e =
    let same : 0 + n ≡ n = omega arith in
    subst (λ (w : ℕ). changes (move f) (units f) w ≡ true) same (flag_of (changes (move f) (units f)) 0 (docs f) n e)

imports_shown : {beside : Beside} (f : RunFacts beside) → AreFacts f → (plan : Planned) → plan ≡ f.planned → ShowsImports (move f) (units f) (imports_at plan)
imports_shown f facts plan same i lt =
    facts.shows.imports i lt
    ∙ ap (λ (w : Planned). import_row i (imports_at w i)) (sym same)

-- ---- a file

module _ {beside : Beside} (f : RunFacts beside) (facts : AreFacts f) (n : ℕ) (bytes : List ℕ) (x : File) (index : Index) (h : HasFile f n bytes x index) where
  abbrev among : IsFileAmong f.contents n bytes x index
  among = among_of f facts n bytes x index h

  -- what its entries are called; those of no other file are asked for
  abbrev pub entered : ℕ → Entered
  entered start = record { names = λ file. names_from index.starts.unit index.starts.top (among_of f facts n bytes x index h).kept.read.doc.units; start = λ file. start }

  file_is : (start : ℕ) → IsFile (entered start) (units f) (raw_units x.units) (from_index n start index) (next_index index)
  file_is start =
      let is = among_of f facts n bytes x index h in
      let doc = is.kept.read.doc in
      record {
        around = around_of bytes (raw_units x.units);
        plain = λ p. refl;
        said = doc.units;
        name = name_at index.starts doc;
        before = is.units.front;
        after = is.units.back;
        units_are = is.units.all_are;
        others = others _ f facts n bytes x index h is;
        number = sym is.units.many;
        next_is = next_behind f facts n bytes x index h is;
        means = (((file_agrees is.kept.limits bytes).ok (raw_units x.units, doc)).0 is.kept.read.means).means;
        whole = read_whole is.kept.limits bytes (raw_units x.units) doc is.kept.read.means;
        top = index.starts.top;
        names = record {
          begins = refl;
          rest = ap (λ (w : ℕ). names_from w index.starts.top doc.units) (sym is.units.many);
          each = λ entry lt. names_entries f.contents n bytes x index is entry lt;
        };
      }

  -- they are written so, where the first entry of the file has that number among all
  abbrev ArePut : Settled → ℕ → List UnitItems → Type 0
  ArePut s start order = AreKept (raw_units x.units) s.marks (imports_at s.plan.now) (from_index n start index) (next_index index) (raw_units x.units) order

  module _ (t : TextsAt) (k : EntryTable) (s : Settled) (listed : AreListed f t k) (settled : IsSettled f s) (start : ℕ) (order : List UnitItems) (kept : ArePut s start order) where
    pub in_order : slice_index_or (written f) n false ≡ true → KeptShown (entered start) (move f) (units f) n 0 (units f) order
    in_order w =
        all_kept (entered start) (move f) (units f) s.marks (imports_at s.plan.now) (raw_units x.units) (from_index n start index) (next_index index) order (file_is start) settled.marks
        (file_changes f n w) (imports_shown f facts s.plan.now settled.plan) kept

    pub stand_for : EachOld (λ i u o. OldNames (move f) (units f) i u.unit.kind o.items) n 0 (units f) order
    stand_for =
        old_items (entered start) (move f) (units f) s.marks (imports_at s.plan.now) (raw_units x.units) (from_index n start index) (next_index index) order (file_is start) settled.marks
        (imports_shown f facts s.plan.now settled.plan) kept

    pub are_shown : slice_get (starts_from 0 f.indexes) n ≡ Some start → EachOld (λ i u o. UnitShown f n bytes x u.unit o.sort) n 0 (units f) order
    are_shown at =
        units_shown _ f t k facts listed n bytes x index h start at s.marks (imports_at s.plan.now) (from_index n start index) (next_index index) order refl refl refl kept
