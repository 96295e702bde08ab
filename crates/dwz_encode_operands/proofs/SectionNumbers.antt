-- Sections with these numbers are those that are written: rows stand for all operands at their places, and there is just one such section.
use Rattle.std.proofs.Common.{◌≡◌, ℕ, Bool, true, false, cond, eqb, List, [], ◌∷◌, map, refl, sym, ap, ◌∙◌, inl, inr, ⊎_elim}
use Rattle.std.proofs.lemmas.List.{length-map}
use Rattle.dwz_def_reading.specs.Lists.{In}
use Rattle.dwz_def_reading.specs.Units.{CompileUnit, PartialUnit, RawKind, RawUnit, TypeUnit}
use Rattle.dwz_def_reading.proofs.ListFacts.{in_cases}
use Rattle.dwz_def_reading.specs.Files.{HaveGoodRanges, around_of, debug_aranges, is_place_of, place_if_whole, unit_places}
use Rattle.dwz_def_reading.specs.PatchedLists.{IsPatched, number_for_place}
use Rattle.dwz_def_reading.specs.Shared.{AreRows, ListOperand, NoneShared, operands_in_lists}
use Rattle.dwz_def_reading.proofs.MeaningLemmas.{has_in}
use Rattle.dwz_graph.specs.ListOperand.{ListOperand as Row}
use Rattle.dwz_graph.specs.ListRows.{operand_view}
use Rattle.dwz_encode_sections.specs.Numbers.{spots, with_numbers}
use Rattle.dwz_encode_sections.specs.Ranges.{AreMoved}
use Rattle.dwz_encode_sections.proofs.ListLemmas.{all_patched}
use Rattle.dwz_encode_sections.proofs.RangeSetLemmas.{ranges_law}
use Rattle.dwz_def_readback.specs.Files.{CommonFile, Run, lists_named, name_after, places_by, sources}
use Rattle.dwz_def_output.specs.Contents.{lists_after_by, operand_number_after_by, ranges_after_by}
use Rattle.dwz_def_output.proofs.ListsStand.{all_stand}
use Rattle.dwz_def_output.proofs.ListsWritten.{AllStand, number_for, number_own, one_patched, patched}
use Rattle.dwz_def_over.proofs.SectionsOver.{gives_one, ranges_one}

-- the number for a place, by rows
by_rows : (raw : List RawUnit) (new : ListOperand → ℕ) (place : ℕ) (rows : List Row)
    → number_for_place (spots rows) (map (λ o. new (operand_view raw o)) rows) place ≡ number_for new (map (operand_view raw) rows) place
unfolding number_for_place number_for
by_rows raw new place [] = refl
by_rows raw new place (o ∷ rows) = by (eqb o.at place) (by_rows raw new place rows) where
  by : (b : Bool) → number_for_place (spots rows) (map (λ p. new (operand_view raw p)) rows) place ≡ number_for new (map (operand_view raw) rows) place
      → cond b (new (operand_view raw o)) (number_for_place (spots rows) (map (λ p. new (operand_view raw p)) rows) place)
      ≡ elim b as (λ _. ℕ) [ true ↦ new (operand_view raw o) | false ↦ number_for new (map (operand_view raw) rows) place ]
  by true e = refl
  by false e = e

module _ (cf : CommonFile) (r : Run) (file : ℕ) (rows : List Row) (are : AreRows (lists_named r file) (map (operand_view (r.input.raw file)) rows)) (none : NoneShared (lists_named r file)) where
  abbrev raw : List RawUnit
  raw = r.input.raw file

  abbrev section : List ℕ
  section = (sources r file).lists

  abbrev all : List ListOperand
  all = operands_in_lists (lists_named r file)

  abbrev new : ListOperand → ℕ
  new = operand_number_after_by cf r file

  abbrev numbers : List ℕ
  numbers = map (λ o. operand_number_after_by cf r file (operand_view (r.input.raw file) o)) rows

  stand : AllStand (lists_named r file) section
  stand = all_stand (around_of (r.input.bytes file) (r.input.raw file)) (r.input.raw file)

  ours : IsPatched (lists_named r file) (number_for_place (spots rows) numbers) section (with_numbers rows numbers section)
  ours = all_patched (around_of (r.input.bytes file) (r.input.raw file)) (r.input.raw file) rows numbers are none (length-map rows (λ o. operand_number_after_by cf r file (operand_view (r.input.raw file)
      o)))

  theirs : IsPatched (lists_named r file) (number_for new all) section (lists_after_by cf r file)
  unfolding lists_after_by
  theirs = patched (lists_named r file) section none stand new (gives_one cf r file)

  same : (o : ListOperand) → In o all → number_for_place (spots rows) numbers o.operand.at ≡ number_for new all o.operand.at
  same o there =
      let kept = are.all o there in
      let v = kept.0 in
      let at : v.operand.at ≡ o.operand.at = kept.2.at in
      by_rows raw new o.operand.at rows
      ∙ ap (number_for new (map (operand_view raw) rows)) (sym at)
      ∙ number_own (lists_named r file) section none stand new (gives_one cf r file) (map (operand_view raw) rows) are.from v kept.1
      ∙ sym (number_own (lists_named r file) section none stand new (gives_one cf r file) all (λ p p_in. p_in) v (are.from v kept.1))
      ∙ ap (number_for new all) at

  pub lists_are : with_numbers rows numbers section ≡ lists_after_by cf r file
  lists_are = one_patched (lists_named r file) (number_for_place (spots rows) numbers) (number_for new all) section (with_numbers rows numbers section) (lists_after_by cf r file) same ours theirs

-- ---- address ranges

in_starts : (us : List RawUnit) (m : ℕ) → In m (unit_places us) → In m (map (λ (u : RawUnit). u.at) us)
unfolding unit_places
in_starts [] m there = absurd there
in_starts (u ∷ us) m there = ⊎_elim (λ own. inl (one u.kind own)) (λ later. inr (in_starts us m later)) (in_cases m (place_if_whole u.kind u.at) (unit_places us) there) where
  one : (k : RawKind) → In m (place_if_whole k u.at) → u.at ≡ m
  one CompileUnit (inl e) = e
  one CompileUnit (inr never) = absurd never
  one (TypeUnit signature type_offset) (inl e) = e
  one (TypeUnit signature type_offset) (inr never) = absurd never
  one PartialUnit never = absurd never

module _ (cf : CommonFile) (r : Run) (file : ℕ) (good : HaveGoodRanges (r.input.bytes file) (r.input.raw file)) where
  abbrev starts : List ℕ
  starts = map (λ (u : RawUnit). u.at) (r.input.raw file)

  abbrev after : ℕ → ℕ
  after p = (places_by cf r).place (name_after r file p)

  pub ranges_are : (out : List ℕ) → AreMoved starts (map after starts) (debug_aranges (r.input.bytes file)) out → out ≡ ranges_after_by cf r file
  ranges_are out moved = ranges_one cf r file good out (record {
    sets = good.sets;
    spelled = good.spelled;
    are = ranges_law (is_place_of (r.input.raw file)) after starts (debug_aranges (r.input.bytes file)) out good.sets good.spelled
        (λ m e. in_starts (r.input.raw file) m (has_in m (unit_places (r.input.raw file)) e)) moved;
  })
