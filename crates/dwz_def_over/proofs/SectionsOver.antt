-- Numbers that are changed in place: what is asked of `.debug_loclists` and of `.debug_aranges` holds of the bytes that are written, and of
-- no others.
use Rattle.std.proofs.Common.{◌≡◌, ℕ, ◌+◌, ◌-◌, List, [], ◌∷◌, length, map, refl, sym, ap, subst, ◌∙◌}
use Rattle.dwz_def_reading.specs.Input.{input}
use Rattle.dwz_def_reading.specs.Spelling.{le_bytes}
use Rattle.dwz_def_reading.specs.Lists.{In}
use Rattle.dwz_def_reading.specs.Base.{Base}
use Rattle.dwz_def_reading.specs.Documents.{Doc}
use Rattle.dwz_def_reading.specs.Files.{HaveGoodRanges, around_of, debug_aranges, is_place_of}
use Rattle.dwz_def_reading.specs.Patching.{with_units, written_at}
use Rattle.dwz_def_reading.specs.Ranges.{RangeSet, SpellsSets}
use Rattle.dwz_def_reading.specs.Shared.{ListOperand, NoneShared, of_unit}
use Rattle.dwz_def_reading.proofs.PassLemmas.{own_in}
use Rattle.dwz_def_reading.proofs.RangeLemmas.{sets_agree}
use Rattle.dwz_def_reading.proofs.WriteOver.{written_len}
use Rattle.dwz_def_encoding.specs.Meant.{AreRenumbered, place_counted}
use Rattle.dwz_def_encoding.specs.Writing.{base_place}
use Rattle.dwz_def_readback.specs.AllFiles.{FileReads}
use Rattle.dwz_def_readback.specs.Files.{Run, lists_named, name_after, sources, AreRangedBy, CommonFile, places_by, tells_by}
use Rattle.dwz_def_output.specs.Contents.{lists_after_by, ranges_after_by, listed, sets_in, sets_of, new_offset_by, operand_after_by, operand_number_after_by}
use Rattle.dwz_def_output.proofs.ListsStand.{all_stand}
use Rattle.dwz_def_output.proofs.ListsWritten.{GivesOne, number_for, number_own, one_patched, over_len, owner, patched}

-- ---- location lists

pub gives_one : (cf : CommonFile) (r : Run) (file : ℕ) → GivesOne (operand_number_after_by cf r file)
gives_one cf r file o p unit base number =
    let by : ℕ → Base → ℕ → ℕ = λ u b n. (places_by cf r).place (name_after r file (place_counted b u n)) - base_place ((places_by cf r).place (name_after r file u)) b in
    ap (λ (u : ℕ). by u o.operand.base o.operand.number) unit ∙ ap (λ (b : Base). by p.unit b o.operand.number) base ∙ ap (by p.unit p.operand.base) number

pub lists_len : (cf : CommonFile) (r : Run) (file : ℕ) → length (lists_after_by cf r file) ≡ length (sources r file).lists
unfolding lists_after_by
lists_len cf r file = over_len (map (operand_after_by cf r file) (listed r file)) (sources r file).lists

module _ (cf : CommonFile) (r : Run) (file : ℕ) (doc : Doc ℕ) (read : FileReads (r.input.bytes file) (r.input.raw file) (r.input.prunes file) doc) where
  none : NoneShared (lists_named r file)
  none = read.reads.lists

  pub lists_made : AreRenumbered (places_by cf r) (tells_by cf r file) (lists_after_by cf r file)
  unfolding lists_after_by
  lists_made =
      let stand = all_stand (around_of (r.input.bytes file) (r.input.raw file)) (r.input.raw file) in
      record {
        number = number_for (operand_number_after_by cf r file) (listed r file);
        are = λ l there o own.
            number_own (lists_named r file) (sources r file).lists none stand (operand_number_after_by cf r file) (gives_one cf r file) (listed r file) (λ p p_in. p_in) (of_unit l.unit o) (own_in l o
            (lists_named r file) there own);
        patched = patched (lists_named r file) (sources r file).lists none stand (operand_number_after_by cf r file) (gives_one cf r file);
      }

  pub lists_one : (new : List ℕ) → AreRenumbered (places_by cf r) (tells_by cf r file) new → new ≡ lists_after_by cf r file
  lists_one new are =
      one_patched (lists_named r file) are.number lists_made.number (sources r file).lists new (lists_after_by cf r file)
      (λ o there. same o there) are.patched lists_made.patched where
        same : (o : ListOperand) → In o (listed r file) → are.number o.operand.at ≡ lists_made.number o.operand.at
        same o there = (let w = owner (lists_named r file) o there in are.are w.list w.there o.operand w.own ∙ sym (lists_made.are w.list w.there o.operand w.own))

-- ---- address ranges

pub units_len : (sets : List RangeSet) (numbers : List ℕ) (bytes : List ℕ) → length (with_units sets numbers bytes) ≡ length bytes
unfolding with_units
units_len [] numbers bytes = refl
units_len (s ∷ sets) [] bytes = refl
units_len (s ∷ sets) (n ∷ numbers) bytes = units_len sets numbers (written_at (s.at + 6) (le_bytes 4 n) bytes) ∙ written_len (s.at + 6) (le_bytes 4 n) bytes

pub ranges_len : (cf : CommonFile) (r : Run) (file : ℕ) → length (ranges_after_by cf r file) ≡ length (debug_aranges (r.input.bytes file))
unfolding ranges_after_by
ranges_len cf r file = units_len (sets_of r file) (map (new_offset_by cf r file) (sets_of r file)) (debug_aranges (r.input.bytes file))

module _ (cf : CommonFile) (r : Run) (file : ℕ) (good : HaveGoodRanges (r.input.bytes file) (r.input.raw file)) where
  abbrev SetsAre : List RangeSet → Type 0
  SetsAre sets = SpellsSets (is_place_of (r.input.raw file)) sets 0 (debug_aranges (r.input.bytes file))

  said : (sets : List RangeSet) → SetsAre sets → sets_of r file ≡ sets
  said sets spelled = ap sets_in (((sets_agree (is_place_of (r.input.raw file)) (input (debug_aranges (r.input.bytes file)) 0)).ok sets).1 spelled)

  pub ranges_made : AreRangedBy cf r file (ranges_after_by cf r file)
  unfolding ranges_after_by
  ranges_made = record { sets = sets_of r file; spelled = subst SetsAre (sym (said good.sets good.spelled)) good.spelled; are = refl }

  pub ranges_one : (new : List ℕ) → AreRangedBy cf r file new → new ≡ ranges_after_by cf r file
  unfolding ranges_after_by
  ranges_one new are = are.are ∙ ap (λ (sets : List RangeSet). with_units sets (map (new_offset_by cf r file) sets) (debug_aranges (r.input.bytes file))) (sym (said are.sets are.spelled))
