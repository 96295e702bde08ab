-- What is written over a finished common file is whole: no name stands twice, each reference names an entry of its file or of the common
-- one, and all units are sound and say what they said.
use Rattle.std.proofs.Common.{◌≡◌, ℕ, ◌<◌, ◌^◌, Bool, true, false, List, [], ◌∷◌, ◌++◌, length, map, refl, sym, ap, subst, ◌∙◌, inl, inr}
use Rattle.dwz_def_reading.specs.Documents.{Doc, DwUnit}
use Rattle.dwz_def_reading.specs.Files.{section_of}
use Rattle.dwz_def_reading.specs.Lists.{Each, In}
use Rattle.dwz_def_reading.specs.Meanings.{Sources}
use Rattle.dwz_def_reading.proofs.ListFacts.{in_cases, in_left, in_map, in_right}
use Rattle.dwz_def_tops.specs.Lists.{NoneTwice, Nth}
use Rattle.dwz_def_tops.specs.Shown.{keys, units_keys}
use Rattle.dwz_def_tops.proofs.MainLemmas.{keys_map}
use Rattle.dwz_def_tops.proofs.Members.{in_map_from}
use Rattle.dwz_def_tops.proofs.OnceLemmas.{none_both, none_right}
use Rattle.dwz_def_tops.proofs.Tops.{unit_of}
use Rattle.dwz_def_tops.specs.Spots.{EntryName, FileUnit, Import, InChain, InType, PartialOf, PartialRoot, RootOf, SpaceAt, UnitOf, Within, file_numbers}
use Rattle.dwz_def_images.specs.Homes.{Local}
use Rattle.dwz_def_images.specs.Moves.{Move}
use Rattle.dwz_def_images.specs.After.{AreOld}
use Rattle.dwz_def_images.specs.Units.{all_units, common_units, file_units, kept_unit, kept_units, out_units, partial_units}
use Rattle.dwz_def_tops.proofs.UnitKeys.{keys_joined}
use Rattle.dwz_def_images.proofs.FileLemmas.{files_are}
use Rattle.dwz_def_encoding.specs.Carried.{ClosedIn, OfFile}
use Rattle.dwz_def_encoding.specs.Meant.{UnitsSay, all_entry_keys, entry_keys}
use Rattle.dwz_def_encoding.specs.Placing.{FileOut, files_keys}
use Rattle.dwz_def_encoding.specs.Sound.{SoundUnit}
use Rattle.dwz_def_encoding.proofs.Chosen.{units_good}
use Rattle.dwz_def_encoding.proofs.Rising.{entries_are_keys}
use Rattle.dwz_def_encoding.proofs.SameLemmas.{spots_same}
use Rattle.dwz_def_readback.specs.AllFiles.{AreRead}
use Rattle.dwz_def_readback.specs.Back.{run_by}
use Rattle.dwz_def_readback.specs.Files.{CommonFile, Finished, Run, Stands, Stored, file_forms_by, file_out_by, fitted_by, fitted_if_by, formed_by, imports_common, sources, tells_by, uses_by}
use Rattle.dwz_def_readback.proofs.FewTexts.{read_few}
use Rattle.dwz_def_readback.proofs.HomeLemmas.{kept_from, parts_from}
use Rattle.dwz_def_readback.proofs.NewNumbers.{new_sound}
use Rattle.dwz_def_readback.proofs.NameLemmas.{file_names_by, file_once, fitted_entries_by, fitted_names_by, in_file_keys}
use Rattle.dwz_def_readback.proofs.StillPlaces.{number_nth}
use Rattle.dwz_def_readback.proofs.WithinLemmas.{closed_at, entries_append, kept_to}
use Rattle.dwz_def_taken.specs.declared.fixed.Fixed.{Fixed}
use Rattle.dwz_def_taken.specs.Beside.{Reused, reused_of}
use Rattle.dwz_def_taken.specs.Laws.{ArePlacedOver}
use Rattle.dwz_def_taken.specs.Over.{as_part, move_over, standing_unit}
use Rattle.dwz_def_taken.specs.Takes.{IsFixed}
use Rattle.dwz_def_taken.proofs.CommonUnits.{common_stands}
use Rattle.dwz_def_taken.proofs.FilesOver.{files_over}
use Rattle.dwz_def_taken.proofs.KeptOwn.{over_apart}
use Rattle.dwz_def_taken.proofs.NamesOver.{named_over}
use Rattle.dwz_def_over.proofs.CanOver.{file_bases, file_carried_over, file_operands}
use Rattle.dwz_def_over.proofs.LocalParts.{local_part, tops_there}
use Rattle.dwz_def_over.proofs.TextsOver.{shared_few}
use Rattle.dwz_def_over.proofs.WithinOver.{refs_within_over}
use Rattle.dwz_law_layout.specs.Whole.{AreWhole}
use Rattle.dwz_law_layout.proofs.NoUnits.{apart}

-- no name of a partial unit that stands is an old unit's
part_no : (first : ℕ) (s : EntryName) → as_part first s ≡ UnitOf 0 → ⊥
part_no first (UnitOf i) e = absurd cc
part_no first (RootOf i) e = absurd cc
part_no first (Within t path) e = absurd cc
part_no first (SpaceAt i path) e = absurd cc
part_no first (InType i path) e = absurd cc
part_no first (PartialOf i) e = absurd cc
part_no first (PartialRoot i) e = absurd cc
part_no first (InChain i j k) e = absurd cc
part_no first (Import i j) e = absurd cc

first_of : {X : Type 0} (xs : List X) (i : ℕ) (x : X) → Nth 0 xs i x → (y : X) × Nth 0 xs 0 y
first_of [] i x nth = absurd nth
first_of (y ∷ xs) i x nth = (y, inl (refl, refl))

module _ (docs : List (Doc ℕ)) (common : Doc ℕ) (fixed : Fixed) (p : ArePlacedOver docs common) (fx : IsFixed (reused_of docs common) fixed) (input : Stored) (c : Finished) where
  abbrev ru : Reused
  ru = reused_of docs common

  abbrev us : List (FileUnit EntryName)
  us = (reused_of docs common).units

  abbrev m : Move
  m = move_over (reused_of docs common) fixed (file_numbers 0 docs)

  abbrev r : Run
  r = run_by (move_over (reused_of docs common) fixed (file_numbers 0 docs)) docs input

  abbrev cf : CommonFile
  cf = Stands c

  abbrev shared_units : List (DwUnit EntryName)
  shared_units = common_units m

  abbrev others : List (DwUnit EntryName)
  others = file_units m us (file_numbers 0 docs)

  old : AreOld us
  old = (named_over docs common p).own

  once_all : NoneTwice (units_keys (all_units m us (file_numbers 0 docs)))
  once_all = over_apart docs common fixed p fx

  -- ---- no entry is a unit

  abbrev HasUnit : Type 0
  HasUnit = (u : FileUnit EntryName) × Nth 0 us 0 u

  out_in : (files : List ℕ) (n : ℕ) (v : DwUnit EntryName) → In n files → In v (out_units m us n) → In v (file_units m us files)
  unfolding file_units
  out_in [] n v there is = absurd there
  out_in (file ∷ files) n v (inl e) is = in_left v (out_units m us file) (file_units m us files) (subst (λ (w : ℕ). In v (out_units m us w)) (sym e) is)
  out_in (file ∷ files) n v (inr later) is = in_right v (out_units m us file) (file_units m us files) (out_in files n v later is)

  out_some : (n : ℕ) (v : DwUnit EntryName) → In v (out_units m us n) → HasUnit
  unfolding out_units
  out_some n v is = elim (in_cases v (partial_units m (Local n) 0 m.parts) (kept_units m us n 0 us) is) [
    | inl a ↦
        (let o = parts_from m (Local n) 0 m.parts v a in
        let l = local_part docs common fixed p fx n o.number o.part o.nth o.home_is in
        let there = tops_there docs common fixed p fx o.number o.part l l.is.some.0 l.is.some.1 in
        let u = unit_of us l.is.some.0 there in
        first_of us l.is.some.0.unit u.unit u.nth)
    | inr b ↦ (let o = kept_from m us n 0 us v b in first_of us o.number o.unit o.nth)
  ]

  files_some : (files : List ℕ) (v : DwUnit EntryName) → In v (file_units m us files) → HasUnit
  unfolding file_units
  files_some [] v is = absurd is
  files_some (n ∷ files) v is = elim (in_cases v (out_units m us n) (file_units m us files) is) [
    | inl a ↦ out_some n v a
    | inr b ↦ files_some files v b
  ]

  first_kept : (u : FileUnit EntryName) → Nth 0 us 0 u → In (kept_unit m us 0 u) (all_units m us (file_numbers 0 docs))
  unfolding out_units
  first_kept u nth =
      in_right (kept_unit m us 0 u) shared_units others (out_in (file_numbers 0 docs) u.file (kept_unit m us 0 u) (files_are docs 0 u nth)
      (in_right (kept_unit m us 0 u) (partial_units m (Local u.file) 0 m.parts) (kept_units m us u.file 0 us) (kept_to m us u.file 0 us 0 u nth refl)))

  file_no : (v : DwUnit EntryName) (s : EntryName) → In v others → In s (entry_keys v) → s ≡ UnitOf 0 → ⊥
  file_no v s there key e =
      let u = files_some (file_numbers 0 docs) v there in
      let at : u.0.unit.at ≡ UnitOf 0 = (old.units_named 0 u.0 u.1).unit in
      apart (all_units m us (file_numbers 0 docs)) (kept_unit m us 0 u.0) v once_all (first_kept u.0 u.1) (in_right v shared_units others there)
      (subst (λ (w : EntryName). In w (entry_keys v)) (e ∙ sym at) key)

  standing_no : (f : FileUnit EntryName) (s : EntryName) → In s (entry_keys (standing_unit ru f)) → s ≡ UnitOf 0 → ⊥
  standing_no f s (inl is) e = part_no (length us) f.unit.root.at (is ∙ e)
  standing_no f s (inr there) e =
      let o = in_map_from (as_part (length us)) s (keys f.unit.below) (subst (In s) (keys_map (as_part (length us)) f.unit.below) there) in
      part_no (length us) o.source (o.is ∙ e)

  shared_no : (v : DwUnit EntryName) (s : EntryName) → In v shared_units → In s (entry_keys v) → s ≡ UnitOf 0 → ⊥
  shared_no v s there key e =
      let o = in_map_from (standing_unit ru) v ru.commons (subst (In v) (common_stands docs common fixed p fx) there) in
      standing_no o.source s (subst (λ (w : DwUnit EntryName). In s (entry_keys w)) (sym o.is) key) e

  entries_no : (v : DwUnit EntryName) (s : EntryName) → In v (all_units m us (file_numbers 0 docs)) → In s (entry_keys v) → s ≡ UnitOf 0 → ⊥
  entries_no v s there key e = elim (in_cases v shared_units others there) [
    | inl a ↦ shared_no v s a key e
    | inr b ↦ file_no v s b key e
  ]

  module _ (same : c.units ≡ common_units m) where
    -- ---- what is named

    pub closed : (file : ℕ) → ClosedIn (tells_by cf r file) (out_units m us file)
    closed file e a k there attr ref =
        let found = refs_within_over docs common fixed p fx file (closed_at file 0 0 0 docs p.each) e a k there attr ref in
        elim (in_cases k (all_entry_keys shared_units) (all_entry_keys (out_units m us file)) (subst (In k) (entries_append shared_units (out_units m us file)) found)) [
          | inl shared_key ↦ inr (subst (λ (w : List (DwUnit EntryName)). In k (all_entry_keys w)) (sym same) shared_key)
          | inr own ↦ inl (subst (In k) (sym (fitted_entries_by cf r file)) own)
        ]

    -- ---- names of files

    abbrev outs : List (FileOut EntryName)
    outs = map (file_out_by cf r) (file_numbers 0 docs)

    both : NoneTwice (units_keys shared_units ++ units_keys others)
    both = subst NoneTwice (keys_joined shared_units others) once_all

    once_files : NoneTwice (files_keys outs)
    once_files = subst NoneTwice (sym (file_names_by cf r (file_numbers 0 docs))) (none_right (units_keys shared_units) (units_keys others) both)

    once : (file : ℕ) → In file (file_numbers 0 docs) → NoneTwice (units_keys (fitted_by cf r file))
    once file there = file_once outs once_files (file_out_by cf r file) (in_map (file_out_by cf r) file (file_numbers 0 docs) there)

    not_shared : (file : ℕ) → In file (file_numbers 0 docs) → (s : EntryName) → In s (units_keys c.units) → In s (units_keys (fitted_by cf r file)) → ⊥
    not_shared file there s shared own =
        none_both (units_keys shared_units) (units_keys others) both s (subst (λ (w : List (DwUnit EntryName)). In s (units_keys w)) same shared)
        (subst (In s) (file_names_by cf r (file_numbers 0 docs)) (in_file_keys outs (file_out_by cf r file) s (in_map (file_out_by cf r) file (file_numbers 0 docs) there) own))

    -- ---- the units of a file

    module _ (are : AreRead input docs) (few : length (section_of c.bytes 3) < 2 ^ 32) (file : ℕ) (there : In file (file_numbers 0 docs)) where
      file_few : length (sources r file).strs < 2 ^ 32
      file_few = (let o = number_nth 0 docs file there in let read = are file o.0 o.1 in read_few read.limits (input.bytes file) (input.raw file) o.0 read.reads 3)

      good : Each SoundUnit (formed_by cf r file) × UnitsSay (tells_by cf r file) (formed_by cf r file)
      unfolding formed_by
      good =
          let names = fitted_names_by cf r file in
          let carried = file_carried_over docs common fixed p fx input are cf file in
          units_good (file_forms_by cf r file) spots_same (OfFile (sources r file)) (tells_by cf r file) (out_units m us file) (fitted_entries_by cf r file)
          (subst NoneTwice names (once file there)) carried (closed file)
          (λ k shared own. not_shared file there k (entries_are_keys c.units k shared) (subst (In k) (sym names) own)) (
            file_few,
            λ s a is. record {
              strs = ap (λ (x : Sources). x.strs) (sym is);
              line_strs = ap (λ (x : Sources). x.line_strs) (sym is);
              offsets = ap (λ (x : Sources). x.offsets) (sym is);
              line = ap (λ (x : Sources). x.line) (sym is);
              slots = ap (λ (x : Sources). x.offsets) (sym is);
            },
            record { strs = refl; few = shared_few (section_of c.bytes 3) few (imports_common m us file) },
          ) (file_bases docs common fixed p fx input are cf file) (file_operands docs common fixed p fx input are cf file carried)

      sound : Each SoundUnit (fitted_by cf r file)
      unfolding fitted_by
      sound = by (input.prunes file) where
        by : (b : Bool) → Each SoundUnit (fitted_if_by b cf r file)
        by true = new_sound (sources r file).strs (uses_by cf r file) file_few (formed_by cf r file) good.0
        by false = good.0

    pub over_whole : AreWhole cf docs r
    over_whole = record {
      apart = once_all;
      entries = entries_no;
      mains = (files_over docs common fixed p fx).mains;
      shared = ap all_entry_keys same;
      closed = closed;
      common = tt;
      common_sound = λ are few. tt;
      sound = sound;
      say = λ are few file there. (good are few file there).1;
    }
