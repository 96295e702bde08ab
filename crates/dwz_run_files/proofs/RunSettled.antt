-- Files that were planned and settled, by what was said of each step.
use Rattle.std.proofs.Common.{[], ◌∙◌, ◌≡◌, ◌+◌, ◌≤◌, Bool, Err, IfOk, List, Ok, Result, ℕ, ap, length, map, refl, subst, sym}
use Rattle.std.specs.Prelude.{All}
use Rattle.std.proofs.lemmas.List.{length-map}
use Rattle.dwz_def_tops.specs.Spots.{file_numbers}
use Rattle.dwz_def_tops.proofs.FileNumbers.{numbers_long}
use Rattle.dwz_def_images.specs.Units.{changes}
use Rattle.dwz_def_readback.specs.Files.{imports_common}
use Rattle.dwz_def_output.specs.Written.{stored_of}
use Rattle.dwz_graph.specs.declared.file.File.{File}
use Rattle.dwz_graph.specs.Files.{AreKept, docs_of}
use Rattle.dwz_graph.specs.Index.{Index}
use Rattle.dwz_graph.specs.Indexed.{AreIndexes}
use Rattle.dwz_plan.specs.declared.plan.Partial.{Partial}
use Rattle.dwz_plan.specs.declared.plan.Scope.{Scope}
use Rattle.dwz_plan.specs.Planned.{Planned}
use Rattle.dwz_layout_input.specs.declared.planned.PlannedFiles.{PlannedFiles}
use Rattle.dwz_layout_input.specs.Rules.{rule_by}
use Rattle.dwz_layout_numbers.specs.declared.numbers.UnitNumbers.{UnitNumbers}
use Rattle.dwz_layout.specs.declared.known.EntryTable.{EntryTable}
use Rattle.dwz_law_layout.specs.Beside.{Alone}
use Rattle.dwz_law_layout.specs.Facts.{RunFacts, docs, move, units, written}
use Rattle.dwz_law_layout.specs.Listed.{AreListed, TextsAt}
use Rattle.dwz_layout_order.specs.declared.orders.Settled.{Settled}
use Rattle.dwz_layout_order.specs.Ordered.{AreSettled}
use Rattle.dwz_law_layout.specs.Settled.{IsSettled}
use Rattle.dwz_layout_input.specs.Settled.{AreFactsOf, ArePlanned, Lends}
use Rattle.dwz_layout_input.specs.Needs.{AreMade}
use Rattle.dwz_encode_texts.specs.Files.{texts_in_file}
use Rattle.dwz_encode_texts.specs.Names.{HaveNames}
use Rattle.dwz_run_files.specs.Numbered.{AreNumbersOf}
use Rattle.dwz_run_files.proofs.FactsNumbered.{flags_are}
use Rattle.dwz_run_files.specs.declared.settled.SettledRun.{SettledRun}
use Rattle.dwz_run_files.specs.SettledRun.{IsSettledRun, AreListedAsRead, AreTheirs}

-- ---- what is settled

-- P holds of what is settled where it holds of the indexes, the scope and the plan that it was made of
settled_so : (P : List Index → Scope → PlannedFiles → Type 0) (a : SettledRun) (xs : List Index) (sharing : Scope) (p : PlannedFiles)
    → xs ≡ a.indexes.now → a.settled.scope ≡ sharing → a.settled.planned ≡ p → P xs sharing p
    → P a.indexes.now a.settled.scope a.settled.planned
settled_so P a xs sharing p indexes scope planned holds =
    subst (λ (q : PlannedFiles). P a.indexes.now a.settled.scope q) (sym planned)
    (subst (λ (w : Scope). P a.indexes.now w p) (sym scope) (subst (λ (ys : List Index). P ys sharing p) indexes holds))

abbrev Settles : List (List ℕ) → SettledRun → List Index → Scope → PlannedFiles → Type 0
Settles contents a xs sharing p =
    (f : RunFacts Alone) (s : Settled) → AreFactsOf contents xs sharing p f → Lends a.settled s → IsSettled f s

abbrev Imports : List (List ℕ) → SettledRun → List Index → Scope → PlannedFiles → Type 0
Imports contents a xs sharing p =
    (f : RunFacts Alone) → AreFactsOf contents xs sharing p f
    → a.settled.importing.items ≡ map (imports_common (move f) (units f)) (file_numbers 0 (docs f))

pub run_settled : (contents : List (List ℕ)) (files : List File) (a : SettledRun) (xs : List Index) (sharing : Scope) (p : PlannedFiles)
    → AreKept contents files
    → xs ≡ a.indexes.now → a.settled.scope ≡ sharing → a.settled.planned ≡ p → AreIndexes (docs_of contents) a.indexes.now
    → ArePlanned sharing (docs_of contents) p → Settles contents a xs sharing p → Imports contents a xs sharing p
    → ((s : Settled) → Lends a.settled s → AreSettled (length contents + 1) s) → (s : Settled) → Lends a.settled s → IsSettledRun contents a
run_settled contents files a xs sharing p kept indexes scope planned indexed are settles imports fits s lends =
    let settled = settled_so (Settles contents a) a xs sharing p indexes scope planned settles in
    record {
      indexed = indexed;
      planned = settled_so (λ ys w q. ArePlanned w (docs_of contents) q) a xs sharing p indexes scope planned are;
      settled = settled;
      fits = fits;
      flags = flags_are contents files a.indexes.now a.settled.scope a.settled.planned a.settled s kept lends settled;
      importing = settled_so (Imports contents a) a xs sharing p indexes scope planned imports;
    }

pub docs_many : (contents : List (List ℕ)) (a : SettledRun) → IsSettledRun contents a → length (docs_of contents) ≡ length contents
docs_many contents a is =
    let f : RunFacts Alone = record {
      contents = contents;
      files = [];
      indexes = a.indexes.now;
      rule = rule_by a.settled.scope (docs_of contents);
      input = stored_of contents [];
      planned = a.settled.planned.plan;
      commons = 0;
      parts = [];
      olds = [];
    } in
    let theirs : AreTheirs contents a f = record { contents_are = refl; indexes_are = refl; rule_is = refl; plan_is = refl } in
    sym (numbers_long 0 (docs f))
    ∙ sym (length-map (file_numbers 0 (docs f)) (changes (move f) (units f)))
    ∙ sym (ap length (is.flags.are f theirs))
    ∙ is.flags.many

-- the partial units of what is lent are each of a file or of the common one
pub parts_within : (contents : List (List ℕ)) (a : SettledRun) (s : Settled) → IsSettledRun contents a → Lends a.settled s
    → All (λ part. part.file ≤ length contents) s.plan.now.partials
parts_within contents a s is lends =
    subst (λ (parts : List Partial). All (λ part. part.file ≤ length contents) parts) (sym (ap (λ (q : Planned). q.partials) lends.plan))
    (subst (λ (n : ℕ). All (λ part. part.file ≤ n) a.settled.planned.plan.partials)
    (docs_many contents a is) is.planned.fits.parts_of_files)

-- ---- lists

-- lists that were made of the files by these steps
pub all_listed : {E : Type 0} (contents : List (List ℕ)) (files : List File) (a : SettledRun) (xs : List Index) (flags : List Bool)
    (numbers : UnitNumbers)
    (t : TextsAt) (r : Result EntryTable E) → xs ≡ a.indexes.now → flags ≡ a.settled.written.items
    → AreNumbersOf (docs_of contents) a.settled.planned.plan flags numbers → t.files ≡ map texts_in_file files
    → HaveNames contents xs t.spaces
    → ((f : RunFacts Alone) → AreMade f files xs a.settled.planned.plan numbers → IfOk r (λ k. AreListed f t k))
    → IfOk r (AreListedAsRead contents files a)
all_listed contents files a xs flags numbers t (Ok k) indexes written numbered texts names listed = record {
  numbers = numbers;
  numbered = subst (λ (ws : List Bool). AreNumbersOf (docs_of contents) a.settled.planned.plan ws numbers) written numbered;
  texts = t;
  texts_are = texts;
  names = subst (λ (ys : List Index). HaveNames contents ys t.spaces) indexes names;
  listed = subst (λ (ys : List Index). (f : RunFacts Alone) → AreMade f files ys a.settled.planned.plan numbers → AreListed f t k) indexes listed;
}
all_listed contents files a xs flags numbers t (Err e) indexes written numbered texts names listed = tt
