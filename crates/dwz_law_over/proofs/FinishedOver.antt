-- A file before a run over a finished common file and after it are read, and mean the same.
use Rattle.std.proofs.Common.{◌≡◌, ℕ, Bool, true, false, List, [], ◌∷◌, Option, Some, None, map, refl, ap, subst, ◌∙◌, arith}
use Rattle.dwz_def_reading.specs.Documents.{Doc, DwUnit, unit_map}
use Rattle.dwz_def_reading.specs.ElfReading.{elf_of}
use Rattle.dwz_def_reading.specs.Entries.{given}
use Rattle.dwz_def_reading.specs.Files.{Limits, ReadsBy, debug_abbrev, debug_info, limits_after, machine_of, no_files_before}
use Rattle.dwz_def_reading.specs.Finished.{FinishedDocs, GivenCommon, ReadFinished, given_by, has_sup, rule_of_back, rule_of_common}
use Rattle.dwz_def_reading.specs.Lists.{Each, In, Nth}
use Rattle.dwz_def_reading.specs.Meanings.{Common}
use Rattle.dwz_def_reading.specs.Places.{Place, at_file}
use Rattle.dwz_def_reading.specs.Texts.{NoZero}
use Rattle.dwz_def_reading.specs.Values.{AreBytes}
use Rattle.dwz_def_reading.specs.declared.elf.FileHeader.{FileHeader}
use Rattle.dwz_def_tops.specs.Spots.{EntryName}
use Rattle.dwz_def_images.specs.Units.{changes}
use Rattle.dwz_def_encoding.specs.Meant.{placed_units}
use Rattle.dwz_def_encoding.specs.Writing.{Numbering}
use Rattle.dwz_def_readback.specs.AllFiles.{FileReads}
use Rattle.dwz_def_readback.specs.Back.{SaysUnits}
use Rattle.dwz_def_readback.specs.Files.{Run, fitted_by, imports_common, places_by}
use Rattle.dwz_def_readback.proofs.ReadMode.{units_again, wider}
use Rattle.dwz_def_readback.proofs.StillPlaces.{nth_number}
use Rattle.dwz_def_output.specs.FilesAfter.{bytes_by, changes_after_by, file_after_by, order_of}
use Rattle.dwz_def_output.proofs.FilesRead.{content_bytes}
use Rattle.dwz_def_output.proofs.MadeLemmas.{same_file}
use Rattle.dwz_def_over.specs.Over.{AreOverFiles, OverFiles, limits_over, run_over, stands}
use Rattle.dwz_def_over.specs.Written.{CanBeWrittenOver, IsAnew, ReadBackOver, file_over, given_over}
use Rattle.dwz_def_over.proofs.AllOver as all
use Rattle.dwz_def_over.proofs.FilesOver.{can_be_made}
use Rattle.dwz_def_limits.specs.Within.{AreWithinLimits, StoresUnits}
use Rattle.dwz_law_cross.specs.FinishedLaws.{SaidSame, SaidSameAlone}
use Rattle.dwz_law_cross.specs.ReadLaws.{HasRoom, doc_in}
use Rattle.dwz_law_cross.proofs.ByItself.{by_itself}
use Rattle.dwz_law_cross.proofs.CheckLemmas.{moved_to}
use Rattle.dwz_law_cross.proofs.FinishedLemmas.{stores, three_rooms, two_rooms}
use Rattle.dwz_law_cross.proofs.Machines.{all_machine}
use Rattle.dwz_law_cross.proofs.ReadLemmas.{by_none, given_reads}
use Rattle.dwz_law_cross.proofs.RenumberLemmas.{placed_then, says_renumbered}
use Rattle.dwz_law_cross.proofs.StandLemmas.{written_reads}
use Rattle.dwz_law_over.specs.FinishedOverLaws.{AloneOverLaw, FinishedOverLaw}
use Rattle.dwz_law_over.specs.StandOverLaws.{StandSoOver}
use Rattle.dwz_law_over.specs.SupOverLaws.{AreGoodOver, bytes_over}
use Rattle.dwz_law_over.proofs.AloneOver.{moved_alone_over, still_alone_over}
use Rattle.dwz_law_over.proofs.CheckOver.{common_says, say_moved, still_same}
use Rattle.dwz_law_over.proofs.StandOver.{stand_over}
use Rattle.dwz_law_over.proofs.SupOver.{names_over, sup_over_good}

module _ (name : List ℕ) (o : OverFiles) (are : Each AreBytes o.contents) (w : CanBeWrittenOver name o) (file : ℕ) (doc : Doc ℕ) (nth : Nth 0 o.said.docs file doc) where
  abbrev r : Run
  r = run_over o

  abbrev n : Numbering EntryName
  n = places_by (stands o) (run_over o)

  abbrev was : List ℕ
  was = (run_over o).input.bytes file

  abbrev now : List ℕ
  now = file_over name o file

  abbrev common : List ℕ
  common = o.common

  is : AreOverFiles o
  is = w.read

  there : In file r.files
  there = nth_number 0 o.said.docs file doc nth

  back : ReadBackOver o (file_over name o)
  back = all.read_back_over name o are w

  stand_so : StandSoOver name o
  stand_so = stand_over name o are w

  own : FileReads was (r.input.raw file) (r.input.prunes file) doc
  own = all.read name o are w file doc nth

  -- as it is stored
  own_stores : StoresUnits was (r.input.raw file)
  own_stores = record {
    mode = wider (given own.limits.entries);
    whole = refl;
    partial = refl;
    forms = refl;
    spelled = units_again (debug_abbrev was) (given own.limits.entries) refl (r.input.raw file) 0 0 (debug_info was) own.reads.spelled;
  }

  -- it is read with any number, beside a common file or without one
  was_reads : (c : Option GivenCommon) (number : ℕ) (l : Limits) → HasRoom l was (r.input.raw file) → ReadsBy (rule_of_back c number) l was (r.input.raw file) (doc_in number doc)
  was_reads c number l room = given_reads c number own.limits l was (r.input.raw file) doc own.reads room

  from_common : machine_of was ≡ machine_of common
  from_common = all_machine (machine_of common) (limits_over o) refl o.contents o.said.docs is.files 0 file file doc nth (omega arith)

  new_machine : IsAnew o file → machine_of now ≡ machine_of was
  unfolding file_after_by
  new_machine anew =
      let d = all.changed name o are w file anew.1 in
      let made = can_be_made name (stands o) r file d.doc d.read (content_bytes o.contents are file) d.some anew.1 (all.sections_free name o are w file anew.0) (all.file_free name o are w file anew.0) in
      ap (λ (h : FileHeader). h.machine) (same_file was (changes_after_by (stands o) name r file) (order_of (elf_of was)) made)

  -- ---- beside the common file

  abbrev With : List ℕ → Type 0
  With new = (said : FinishedDocs) × ReadFinished (Some common) (was ∷ new ∷ []) said × SaidSame said

  abbrev shared : List (DwUnit Place)
  shared = map (unit_map (moved_to file 1 2)) o.said.common.units

  abbrev common_doc : Doc Place
  common_doc = record { machine = machine_of common; units = shared }

  says : SaysUnits None 2 common o.raw shared
  says = common_says name o are w (file_over name o) back file doc nth 1 2 (λ e. cc)

  common_stores : StoresUnits common o.raw
  common_stores = stores says

  -- the common file reads with another number too
  common_read : ReadsBy (rule_of_common 2) no_files_before common o.raw common_doc
  common_read = record {
    size = is.common.size;
    elf = is.common.elf;
    same_machine = is.common.same_machine;
    sup = is.common.sup;
    spelled = is.common.spelled;
    means = says.means;
    machine = refl;
    ranges = is.common.ranges;
    lists = says.lists;
  }

  abbrev given_common : GivenCommon
  given_common = record { number = 2; bytes = o.common; units = o.raw }

  moved_with : AreGoodOver name o → IsAnew o file → AreWithinLimits (common ∷ was ∷ now ∷ []) → With now
  moved_with good anew within =
      let same = say_moved name o are w (file_over name o) back file doc nth 1 2 (λ e. cc) 0 (λ e. cc) anew in
      let rooms = three_rooms common was now o.raw (r.input.raw file) same.new_raw within common_stores own_stores (stores same.new_says) from_common (new_machine anew) in
      let l = limits_after no_files_before common o.raw in
      let beside = Some given_common in
      let new_doc : Doc Place = record { machine = machine_of now; units = same.new_units } in (
        record { common = Some common_doc; docs = doc_in 0 doc ∷ new_doc ∷ [] },
        (
          o.raw,
          common_doc,
          refl,
          common_read,
          (
            r.input.raw file,
            was_reads beside 0 l rooms.more.first,
            (
              same.new_raw,
              written_reads beside 1 (limits_after l was (r.input.raw file)) now same.new_raw same.new_units same.new_says rooms.more.second (good file anew)
                  (stand_so.file file anew (Some (given_by 2 common o.raw)) 1 same.new_raw same.new_units same.new_says),
              tt,
            ),
          ),
        ),
        record { common = common_doc; old = doc_in 0 doc; new = new_doc; are = refl; same = same.same },
      )

  still_with : changes r.move r.units file ≡ false → AreWithinLimits (common ∷ was ∷ was ∷ []) → With was
  still_with stays within =
      let rooms = three_rooms common was was o.raw (r.input.raw file) (r.input.raw file) within common_stores own_stores own_stores from_common refl in
      let l = limits_after no_files_before common o.raw in
      let beside = Some given_common in (
        record { common = Some common_doc; docs = doc_in 0 doc ∷ doc_in 1 doc ∷ [] },
        (
          o.raw,
          common_doc,
          refl,
          common_read,
          (
            r.input.raw file,
            was_reads beside 0 l rooms.more.first,
            (r.input.raw file, was_reads beside 1 (limits_after l was (r.input.raw file)) rooms.more.second, tt),
          ),
        ),
        record { common = common_doc; old = doc_in 0 doc; new = doc_in 1 doc; are = refl; same = still_same name o are w (file_over name o) back file doc nth 1 2 (λ e. cc) 0 (λ e. cc) stays },
      )

  with_it : NoZero name → AreWithinLimits (common ∷ was ∷ bytes_over name o file ∷ []) → With (bytes_over name o file)
  with_it no_zero within = by (changes r.move r.units file) refl within where
    by : (b : Bool) → changes r.move r.units file ≡ b → AreWithinLimits (common ∷ was ∷ bytes_by b was now ∷ []) → With (bytes_by b was now)
    by true e l = moved_with (sup_over_good name o are w no_zero) (there, e) l
    by false e l = still_with e l

  -- ---- without it

  abbrev Alone : List ℕ → Type 0
  Alone new = (said : FinishedDocs) × ReadFinished None (was ∷ new ∷ []) said × SaidSameAlone said

  module _ (imports : imports_common r.move r.units file ≡ false) where
    abbrev to : Place → Place
    to q = at_file 1 q.at

    no_sup : IsAnew o file → has_sup now ≡ false
    no_sup anew =
        subst (λ (b : Bool). has_sup (bytes_by b was now) ≡ imports_common r.move r.units file) anew.1 (names_over name o are w file doc nth).1 ∙ imports

    moved_by_itself : IsAnew o file → AreWithinLimits (was ∷ now ∷ []) → Alone now
    moved_by_itself anew within =
        let g = back.place in
        let fitted = fitted_by (stands o) r file in
        let beside : Option (Common Place) = Some (given_over o) in
        let placed = back.back.file file anew in
        let own_says = by_itself beside file now placed.raw (placed_units n g fitted) placed.says
        (stand_so.alone file anew imports beside file placed.raw (placed_units n g fitted) placed.says) in
        let new_units : List (DwUnit Place) = placed_units n (λ k. to (g k)) fitted in
        let new_says = subst (λ (us : List (DwUnit Place)). SaysUnits None 1 now placed.raw us) (placed_then n g to fitted)
        (says_renumbered to None None file 1 now placed.raw (placed_units n g fitted) (λ x. refl) tt own_says) in
        let rooms = two_rooms was now (r.input.raw file) placed.raw within own_stores (stores new_says) (new_machine anew) in
        let new_doc : Doc Place = record { machine = machine_of now; units = new_units } in (
          record { common = None; docs = doc_in 0 doc ∷ new_doc ∷ [] },
          (
            refl,
            (
              r.input.raw file,
              was_reads None 0 no_files_before rooms.first,
              (
                placed.raw,
                written_reads None 1 (limits_after no_files_before was (r.input.raw file)) now placed.raw new_units new_says rooms.second (by_none None now (no_sup anew))
                    (stand_so.alone file anew imports None 1 placed.raw new_units new_says),
                tt,
              ),
            ),
          ),
          record { old = doc_in 0 doc; new = new_doc; are = refl; same = moved_alone_over name o are w (file_over name o) back file doc nth imports 0 1 anew },
        )

    still_by_itself : changes r.move r.units file ≡ false → AreWithinLimits (was ∷ was ∷ []) → Alone was
    still_by_itself stays within =
        let rooms = two_rooms was was (r.input.raw file) (r.input.raw file) within own_stores own_stores refl in (
          record { common = None; docs = doc_in 0 doc ∷ doc_in 1 doc ∷ [] },
          (
            refl,
            (
              r.input.raw file,
              was_reads None 0 no_files_before rooms.first,
              (r.input.raw file, was_reads None 1 (limits_after no_files_before was (r.input.raw file)) rooms.second, tt),
            ),
          ),
          record { old = doc_in 0 doc; new = doc_in 1 doc; are = refl; same = still_alone_over name o are w (file_over name o) back file doc nth imports 0 1 stays },
        )

    without_it : AreWithinLimits (was ∷ bytes_over name o file ∷ []) → Alone (bytes_over name o file)
    without_it within = by (changes r.move r.units file) refl within where
      by : (b : Bool) → changes r.move r.units file ≡ b → AreWithinLimits (was ∷ bytes_by b was now ∷ []) → Alone (bytes_by b was now)
      by true e l = moved_by_itself (there, e) l
      by false e l = still_by_itself e l

pub finished_over : FinishedOverLaw
finished_over name o are w no_zero file doc nth within = with_it name o are w file doc nth no_zero within

pub finished_over_alone : AloneOverLaw
finished_over_alone name o are w file doc nth imports within = without_it name o are w file doc nth imports within
