-- Files that were planned and settled over a finished common file, by what was said of each step.
use Rattle.std.proofs.Common.{◌≡◌, ◌≤◌, ◌<◌, ◌^◌, ◌+◌, ℕ, Bool, List, [], Result, Ok, Err, IfOk, length, map, refl, sym, ap, subst, ◌∙◌, arith}
use Rattle.std.specs.Prelude.{All}
use Rattle.std.proofs.lemmas.List.Elements.{All-append, All-weaker}
use Rattle.std.proofs.lemmas.List.{length-append}
use Rattle.dwz_def_tops.specs.Spots.{file_numbers, units_of}
use Rattle.dwz_def_images.specs.Units.{changes}
use Rattle.dwz_def_readback.specs.Files.{imports_common}
use Rattle.dwz_def_taken.specs.Beside.{reused_of}
use Rattle.dwz_def_taken.specs.Laws.{ArePlacedOver}
use Rattle.dwz_def_taken.specs.Takes.{IsFixed, free_rule}
use Rattle.dwz_graph.specs.declared.file.File.{File}
use Rattle.dwz_graph.specs.Files.{AreKept, docs_of}
use Rattle.dwz_graph.proofs.IndexRoom.{units_same}
use Rattle.dwz_unit.specs.Rows.{units_of as raw_units}
use Rattle.dwz_unit.proofs.ShownLemmas.{units_few}
use Rattle.dwz_def_reading.proofs.MeaningUnits.{units_agree}
use Rattle.dwz_graph.specs.Indexed.{AreIndexes}
use Rattle.dwz_plan.specs.declared.plan.Partial.{Partial}
use Rattle.dwz_plan.specs.Planned.{Planned}
use Rattle.dwz_layout_input.specs.PlannedOver.{ArePlannedOver}
use Rattle.dwz_layout_input.specs.declared.planned.PlannedFiles.{PlannedFiles}
use Rattle.dwz_layout_numbers.specs.declared.numbers.UnitNumbers.{UnitNumbers}
use Rattle.dwz_layout.specs.declared.known.EntryTable.{EntryTable}
use Rattle.dwz_law_layout.specs.Beside.{Over, Standing}
use Rattle.dwz_law_layout.specs.Facts.{RunFacts, docs, move, units, written}
use Rattle.dwz_law_layout.specs.Listed.{AreListed, TextsAt}
use Rattle.dwz_law_layout.specs.Settled.{IsSettled}
use Rattle.dwz_layout_order.specs.declared.orders.Settled.{Settled}
use Rattle.dwz_layout_order.specs.Ordered.{AreSettled}
use Rattle.dwz_layout_input.specs.Needs.{AreMade}
use Rattle.dwz_layout_input.specs.Settled.{Lends}
use Rattle.dwz_layout_input.specs.SettledOver.{AreFactsOver}
use Rattle.dwz_encode_texts.specs.Files.{texts_in_file}
use Rattle.dwz_encode_texts.specs.Names.{HaveNames}
use Rattle.dwz_run_files.specs.Numbered.{AreNumbersOf}
use Rattle.dwz_run_files.specs.OverRun.{AreListedOver, AreTheirsOver, IsSettledOver, IsStanding}
use Rattle.dwz_run_files.specs.declared.settled.SettledRun.{SettledRun}
use Rattle.dwz_run_files.specs.declared.standing.StandingCommon.{StandingCommon}
use Rattle.dwz_run_files.proofs.FactsNumbered.{nothing_stored}
use Rattle.dwz_run_files.proofs.FilesStored.{as_many}
use Rattle.dwz_run_files.proofs.UnitsFew.{tops_room, units_room}
use Rattle.dwz_run_files.proofs.WrittenFiles.{flags_many}

-- ---- what is settled

abbrev SettlesOver : Standing → List (List ℕ) → SettledRun → PlannedFiles → Type 0
SettlesOver s contents a p =
    (f : RunFacts (Over s)) (t : Settled) → AreFactsOver contents a.indexes.now p s f → Lends a.settled t → IsSettled f t

abbrev ImportsOver : Standing → List (List ℕ) → SettledRun → PlannedFiles → Type 0
ImportsOver s contents a p =
    (f : RunFacts (Over s)) → AreFactsOver contents a.indexes.now p s f
    → a.settled.importing.items ≡ map (imports_common (move f) (units f)) (file_numbers 0 (docs f))

module _ (s : Standing) (contents : List (List ℕ)) (files : List File) (a : SettledRun) where
  -- some facts of these files
  abbrev some_facts : RunFacts (Over s)
  some_facts = record {
    contents = contents;
    files = files;
    indexes = a.indexes.now;
    rule = free_rule (reused_of (docs_of contents) s.doc) s.fixed;
    input = nothing_stored;
    planned = a.settled.planned.plan;
    commons = 0;
    parts = [];
    olds = [];
  }

  pub settled_over : AreKept contents files → (p : PlannedFiles) → a.settled.planned ≡ p → AreIndexes (docs_of contents) a.indexes.now
      → ArePlacedOver (docs_of contents) s.doc → IsFixed (reused_of (docs_of contents) s.doc) s.fixed
      → ArePlannedOver (docs_of contents) s.doc s.fixed p → SettlesOver s contents a p → ImportsOver s contents a p
      → ((t : Settled) → Lends a.settled t → AreSettled (length contents) t) → (t : Settled) → Lends a.settled t → IsSettledOver s contents a
  settled_over kept p same indexed placed fixed planned settles imports fits lent lends =
      let planned_are : ArePlannedOver (docs_of contents) s.doc s.fixed a.settled.planned =
      subst (ArePlannedOver (docs_of contents) s.doc s.fixed) (sym same) planned in
      let settled : SettlesOver s contents a a.settled.planned = subst (SettlesOver s contents a) (sym same) settles in
      let f = some_facts in
      let theirs : AreTheirsOver contents a s f = record {
        contents_are = refl;
        indexes_are = refl;
        rule_is = refl;
        plan_is = refl;
        placed = placed;
        fixed = fixed;
        planned = planned_are;
      } in
      record {
        indexed = indexed;
        placed = placed;
        fixed = fixed;
        planned = planned_are;
        settled = settled;
        fits = fits;
        many =
            ap (λ (w : List Bool). length w) (sym lends.files ∙ (settled f lent theirs lends).files)
            ∙ flags_many (changes (move f) (units f)) (docs_of contents) ∙ (as_many contents files kept).0;
        importing = subst (ImportsOver s contents a) (sym same) imports;
      }

module _ (s : Standing) (contents : List (List ℕ)) (a : SettledRun) (is : IsSettledOver s contents a) where
  docs_many : (t : Settled) → Lends a.settled t → length (docs_of contents) ≡ length contents
  docs_many t lends =
      let f = some_facts s contents [] a in
      let theirs : AreTheirsOver contents a s f = record {
        contents_are = refl;
        indexes_are = refl;
        rule_is = refl;
        plan_is = refl;
        placed = is.placed;
        fixed = is.fixed;
        planned = is.planned;
      } in
      sym (flags_many (changes (move f) (units f)) (docs_of contents))
      ∙ sym (ap (λ (w : List Bool). length w) (sym lends.files ∙ (is.settled f t theirs lends).files))
      ∙ is.many

  -- the partial units of what is lent are each of a file or of the common one
  pub parts_over : (t : Settled) → Lends a.settled t → All (λ part. part.file ≤ length contents) t.plan.now.partials
  parts_over t lends =
      let fits = is.planned.fits in
      let many = docs_many t lends in
      let common = All-weaker (λ (part : Partial). part.file ≡ length (docs_of contents)) (λ part. part.file ≤ length contents)
      (λ part e. omega (arith, e, many)) fits.standing fits.of_common in
      let own = All-weaker (λ (part : Partial). part.file < length (docs_of contents)) (λ part. part.file ≤ length contents)
      (λ part less. omega (arith, less, many)) fits.local fits.of_files in
      subst (λ (parts : List Partial). All (λ part. part.file ≤ length contents) parts)
      (sym (ap (λ (q : Planned). q.partials) lends.plan ∙ fits.parts))
      (All-append (λ (part : Partial). part.file ≤ length contents) fits.standing fits.local common own)

  -- there is a row of imports for each unit of the files
  pub imports_over : (t : Settled) → Lends a.settled t → length (units_of (docs_of contents)) ≤ length t.plan.now.imports
  imports_over t lends =
      let fits = is.planned.fits in
      let imports = fits.imports in
      let both = length-append (units_of (docs_of contents)) (reused_of (docs_of contents) s.doc).commons in
      let lent = ap (λ (q : Planned). length q.imports) lends.plan in
      omega (arith, imports, both, lent)

  -- the common file has no more units than entries
  standing_room : (b : StandingCommon) → IsStanding s (docs_of contents) b → length s.doc.units ≤ 2 ^ 28
  standing_room b standing =
      let taken = standing.taken in
      let raw = raw_units b.common.now.units in
      let few = units_few raw in
      let same = units_same taken.around raw s.doc.units (((units_agree taken.around raw).ok s.doc.units).0 taken.means) in
      let entries = taken.few in
      omega (arith, few, same, entries)

  -- few units have numbers
  pub room_over : (files : List File) → AreKept contents files → (b : StandingCommon) → IsStanding s (docs_of contents) b
      → length a.settled.planned.plan.partials + length (units_of (docs_of contents)) < 2 ^ 32
  room_over files kept b standing =
      let fits = is.planned.fits in
      let parts = ap (λ (ps : List Partial). length ps) fits.parts in
      let both = length-append fits.standing fits.local in
      let many = fits.many_standing in
      let own = fits.many_local in
      let tops = tops_room contents files kept in
      let units = units_room contents files kept in
      let common = standing_room b standing in
      omega (arith, parts, both, many, own, tops, units, common)

-- ---- lists

-- lists that were made of the files by these steps
pub listed_over : {E : Type 0} (s : Standing) (contents : List (List ℕ)) (files : List File) (a : SettledRun) (flags : List Bool)
    (numbers : UnitNumbers) (t : TextsAt) (r : Result EntryTable E) → flags ≡ a.settled.written.items
    → AreNumbersOf (docs_of contents) a.settled.planned.plan flags numbers → t.files ≡ map texts_in_file files
    → HaveNames contents a.indexes.now t.spaces
    → ((f : RunFacts (Over s)) → f.contents ≡ contents → AreMade f files a.indexes.now a.settled.planned.plan numbers
    → IfOk r (λ k. AreListed f t k))
    → IfOk r (AreListedOver s contents files a)
listed_over s contents files a flags numbers t (Ok k) written numbered texts names listed = record {
  numbers = numbers;
  numbered = subst (λ (ws : List Bool). AreNumbersOf (docs_of contents) a.settled.planned.plan ws numbers) written numbered;
  texts = t;
  texts_are = texts;
  names = names;
  listed = listed;
}
listed_over s contents files a flags numbers t (Err e) written numbered texts names listed = tt
