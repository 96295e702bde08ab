-- What each step of a file gives, by what is known of the file.
use Rattle.std.proofs.Common.{◌≡◌, ◌<◌, ℕ, List, length, get_or, map, Option, Ok, Err, Result, IfOk, Vec, Global, sym}
use Rattle.std.proofs.Common.{ap, subst, ◌∙◌}
use Rattle.std.specs.Prelude.{slice_index}
use Rattle.dwz_def_reading.specs.Units.{RawUnit}
use Rattle.dwz_def_reading.proofs.ListFacts.{got_below, item_got, same_got}
use Rattle.dwz_def_reading.proofs.CaseFacts.{if_ok}
use Rattle.dwz_def_reading.specs.Documents.{Doc, DwUnit}
use Rattle.dwz_def_reading.specs.Files.{sources_of}
use Rattle.dwz_def_reading.specs.Meanings.{Sources, alone}
use Rattle.dwz_def_reading.specs.Meant.{units_meaning}
use Rattle.dwz_def_reading.specs.Shared.{ListOperand}
use Rattle.dwz_def_tops.specs.Spots.{EntryName}
use Rattle.dwz_def_images.specs.Moves.{Move}
use Rattle.dwz_layout_numbers.specs.Images.{IsFile, IsPlanned}
use Rattle.dwz_layout.specs.declared.known.FileRows.{FileRows}
use Rattle.dwz_encode_operands.specs.Narrow.{FirstPlace, after_in_by, number_by}
use Rattle.dwz_def_output.specs.Contents.{listed, lists_after_by, ranges_after_by}
use Rattle.dwz_def_output.specs.Refusals.{operands_of_units, spoken}
use Rattle.dwz_graph.specs.ListOperand.{ListOperand as OperandOfCode}
use Rattle.dwz_graph.specs.ListRows.{operand_view}
use Rattle.dwz_graph.specs.Named.{units_refs}
use Rattle.dwz_encode_sections.specs.Ranges.{AreMoved}
use Rattle.dwz_law_layout.specs.Beside.{Beside}
use Rattle.dwz_law_layout.specs.Facts.{RunFacts, common, every, move, run}
use Rattle.dwz_encode_operands.specs.Operands.{AreNewNumbers, HasNewNumbers}
use Rattle.dwz_run_files.specs.Spots.{unit_places_from}
use Rattle.dwz_run_files.specs.declared.moved.FileAfter.{FileAfter}
use Rattle.dwz_run_files.specs.declared.work.LaidRun.{LaidRun}
use Rattle.dwz_run_files.specs.Works.{HaveUnitPlaces, IsMoved}
use Rattle.dwz_run_files.proofs.FileFacts.{file_here, is_planned, lists_are, operands, plan, ranges_are, raw, units_begin, x}
use Rattle.dwz_run_files.proofs.FirstNarrow.{begin_after, listed_first, numbers_new, spoken_first, targets_are, units_mean}
use Rattle.dwz_run_files.proofs.LowBytes.{low}

module _ {beside : Beside} (f : RunFacts beside) (w : LaidRun) (m : FileAfter) (is : IsMoved f w m) where
  abbrev us : List RawUnit
  us = raw f w m is

  abbrev after : ℕ → ℕ
  after = after_in_by (common f) (run f) m.number

  -- where units begin
  pub places_found : {E : Type 0} (r : Result (Vec ℕ Global) E) (at : List ℕ) → at ≡ w.layout.now.places
      → IfOk r (λ v. v.items ≡ unit_places_from m.start at us) → IfOk r (λ v. HaveUnitPlaces f m v.items)
  places_found (Ok v) at same are =
      subst (HaveUnitPlaces f m) (sym (are ∙ ap (λ (ps : List ℕ). unit_places_from m.start ps us) same)) (units_begin f w m is)
  places_found (Err e) at same are = tt

  -- the rows of the file in the lists
  pub rows_below : m.number < length w.prepared.now.known.files.items
  rows_below = got_below w.prepared.now.known.files.items m.number (file_here f w m is).rows (file_here f w m is).rows_are

  rows_same : (rows : FileRows) → rows ≡ get_or w.prepared.now.known.files.items m.number rows → rows ≡ (file_here f w m is).rows
  rows_same rows there =
      same_got w.prepared.now.known.files.items m.number rows (file_here f w m is).rows
      (item_got w.prepared.now.known.files.items m.number rows rows_below there) (file_here f w m is).rows_are

  module _ (units_at : List ℕ) (begin : HaveUnitPlaces f m units_at) where
    pub spoken_found : {E : Type 0} (many : length units_at ≡ length us) (rows : FileRows) (at refs targets ts : List ℕ) (r : Result
        (Option ℕ) E)
        → rows ≡ get_or w.prepared.now.known.files.items m.number rows → at ≡ w.layout.now.places → refs ≡ rows.references.items
        → targets ≡ map (λ i. slice_index at i) refs → ts ≡ targets
        → ((sources : Sources) (said : List (DwUnit ℕ)) (to : ℕ → ℕ) → units_meaning (alone sources us) us ≡ Ok said
        → ts ≡ map to (units_refs said)
        → units_at ≡ map (λ (u : RawUnit). to u.at) us → IfOk r (FirstPlace (number_by to) (operands_of_units (alone sources us) us)))
        → IfOk r (FirstPlace (number_by after) (spoken (run f) m.number))
    spoken_found many rows at refs targets ts r there places references are same finds =
        let own = references ∙ ap (λ (o : FileRows). o.references.items) (rows_same rows there) in
        let found = finds (sources_of is.bytes) is.has.read.read.doc.units after (units_mean f w m is units_at begin)
        (same ∙ targets_are f w m is units_at begin refs targets own (are ∙ ap (λ (ps : List ℕ). map (λ i. slice_index ps i) refs) places))
        (begin_after f w m is units_at begin many) in
        if_ok r (FirstPlace (number_by after) (operands_of_units (alone (sources_of is.bytes) us) us)) (FirstPlace (number_by after)
        (spoken (run f) m.number))
        (λ first h. spoken_first f w m is units_at begin first h) found

    pub listed_found : (ops : List OperandOfCode) (at numbers ns : List ℕ) (first : Option ℕ) → ops ≡ operands f w m is
        → at ≡ w.layout.now.places → ns ≡ numbers
        → ((ds : List (Doc ℕ)) (by : Move) (names : List EntryName) → IsPlanned ds by (plan f w m is) w.tops.now
        → IsFile ds names m.index.now m.start
        → AreNewNumbers ds by names at units_at ops numbers)
        → ((us : List RawUnit) (number : ListOperand → ℕ) → ns ≡ map (λ o. number (operand_view us o)) ops
        → FirstPlace number (map (operand_view us) ops) first)
        → FirstPlace (number_by after) (listed (run f) m.number) first
    listed_found ops at numbers ns first same places are news finds =
        let have : (names : List EntryName) → IsFile (every f) names m.index.now m.start
        → AreNewNumbers (every f) (move f) names w.layout.now.places units_at (operands f w m is) numbers =
        λ names of. subst (λ (ps : List ℕ). AreNewNumbers (every f) (move f) names ps units_at (operands f w m is) numbers) places
        (subst (λ (os : List OperandOfCode). AreNewNumbers (every f) (move f) names at units_at os numbers) same (news (every f)
        (move f) names (is_planned f w m is) of)) in
        let new = numbers_new f w m is units_at begin numbers have in
        let found = finds us (number_by after) (are ∙ new ∙ ap (λ (os : List OperandOfCode). map (λ o. number_by after
        (operand_view us o)) os) (sym same)) in
        listed_first f w m is units_at begin first (subst (λ (os : List OperandOfCode). FirstPlace (number_by after) (map
        (operand_view us) os) first) same found)

    pub lists_found : {E : Type 0} (ops : List OperandOfCode) (at : List ℕ) (r : Result (Vec ℕ Global) E) → ops ≡ operands f w m is
        → at ≡ w.layout.now.places
        → ((ds : List (Doc ℕ)) (by : Move) (names : List EntryName) → IsPlanned ds by (plan f w m is) w.tops.now
        → IsFile ds names m.index.now m.start
        → IfOk r (λ out. HasNewNumbers ds by names at units_at ops (x f w m is).sections.lists.now out.items))
        → IfOk r (λ out. out.items ≡ lists_after_by (common f) (run f) m.number)
    lists_found ops at (Ok out) same places news =
        lists_are f w m is units_at begin out.items (λ names of.
        subst (λ (ps : List ℕ). HasNewNumbers (every f) (move f) names ps units_at (operands f w m is)
        (x f w m is).sections.lists.now out.items) places
        (subst (λ (os : List OperandOfCode). HasNewNumbers (every f) (move f) names at units_at os
        (x f w m is).sections.lists.now out.items) same
        (news (every f) (move f) names (is_planned f w m is) of)))
    lists_found ops at (Err e) same places news = tt

    pub ranges_found : {E : Type 0} (starts lows : List ℕ) (r : Result (Vec ℕ Global) E) → length units_at ≡ length us
        → starts ≡ map (λ (u : RawUnit). u.at) us → lows ≡ map low units_at
        → IfOk r (λ out. AreMoved starts lows (x f w m is).sections.aranges.now out.items)
        → IfOk r (λ out. out.items ≡ ranges_after_by (common f) (run f) m.number)
    ranges_found starts lows (Ok out) many begins low_is moved =
        ranges_are f w m is units_at begin out.items many
        (subst (λ (ls : List ℕ). AreMoved (map (λ (u : RawUnit). u.at) us) ls (x f w m is).sections.aranges.now out.items) low_is
        (subst (λ (ss : List ℕ). AreMoved ss lows (x f w m is).sections.aranges.now out.items) begins moved))
    ranges_found starts lows (Err e) many begins low_is moved = tt
