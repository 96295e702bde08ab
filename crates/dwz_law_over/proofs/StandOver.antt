-- The entries of all that was written over a finished common file may stand as they do.
use Rattle.std.proofs.Common.{◌≡◌, ℕ, suc, ◌<◌, ◌≤◌, ◌^◌, Bool, true, false, List, length, arith}
use Rattle.dwz_def_reading.specs.Documents.{Doc}
use Rattle.dwz_def_reading.specs.Lists.{Each, Nth}
use Rattle.dwz_def_reading.specs.Values.{AreBytes}
use Rattle.dwz_def_reading.specs.Files.{section_of}
use Rattle.dwz_def_tops.specs.Spots.{file_numbers, units_of}
use Rattle.dwz_def_images.specs.Homes.{Local}
use Rattle.dwz_def_images.specs.Moves.{Move}
use Rattle.dwz_def_images.specs.Plan.{PartialUnit}
use Rattle.dwz_def_images.specs.Units.{partial_unit}
use Rattle.dwz_def_encoding.specs.Fitting.{EachAttr, depth}
use Rattle.dwz_def_encoding.specs.Placing.{FitsSections, texts_bytes}
use Rattle.dwz_def_readback.specs.AllFiles.{AreRead}
use Rattle.dwz_def_readback.specs.Back.{CanWriteBy}
use Rattle.dwz_def_readback.specs.Files.{CommonFile, HasSectionsBy, Run, Stored, imports_common, sections_by, shared_if, texts_by}
use Rattle.dwz_def_readback.proofs.Standing.{files_stand}
use Rattle.dwz_def_output.specs.Written.{stored_behind}
use Rattle.dwz_def_output.proofs.FilesRead.{content_bytes}
use Rattle.dwz_def_taken.specs.declared.fixed.Fixed.{Fixed}
use Rattle.dwz_def_taken.specs.Beside.{offsets_doc, reused_of}
use Rattle.dwz_def_taken.specs.Laws.{ArePlacedOver}
use Rattle.dwz_def_taken.specs.Over.{move_over}
use Rattle.dwz_def_taken.specs.Takes.{IsFixed}
use Rattle.dwz_def_taken.proofs.NamesOver.{named_over}
use Rattle.dwz_def_over.specs.Over.{OverFiles, limits_over, run_over, standing_file, stands}
use Rattle.dwz_def_over.specs.Written.{CanBeWrittenOver, IsAnew, file_over}
use Rattle.dwz_def_over.proofs.AllOver.{can, changed, file_free, read, sections_free}
use Rattle.dwz_def_over.proofs.CommonOver.{entry_low, texts_short}
use Rattle.dwz_def_over.proofs.FilesOver.{has_sections, sections_fit}
use Rattle.dwz_def_over.proofs.LocalParts.{free_moves, local_kinds, local_part, top_moves, tops_there}
use Rattle.dwz_def_over.proofs.PlacedOver.{placed_over}
use Rattle.dwz_def_over.proofs.TextsOver.{shared_few}
use Rattle.dwz_law_cross.specs.ReadLaws.{IsFormOfBack}
use Rattle.dwz_law_cross.specs.StandLaws.{StandAs}
use Rattle.dwz_law_cross.proofs.ChosenForms.{IsUnbound}
use Rattle.dwz_law_cross.proofs.Depths.{held_deep}
use Rattle.dwz_law_cross.proofs.FileStand.{read_deep, stands_alone, stands_beside, top_read}
use Rattle.dwz_law_cross.proofs.FreeForms.{held_free}
use Rattle.dwz_law_over.specs.StandOverLaws.{OwnOverLaw, StandOverLaw}
use Rattle.dwz_law_over.proofs.OwnOver.{closed_own}

-- ---- partial units of a file

module _ (docs : List (Doc ℕ)) (common : Doc ℕ) (fixed : Fixed) (p : ArePlacedOver docs common) (fx : IsFixed (reused_of docs common) fixed) (input : Stored) (are : AreRead input docs)
    (file n : ℕ) (part : PartialUnit) where
  abbrev m : Move
  m = move_over (reused_of docs common) fixed (file_numbers 0 docs)

  local_deep : Nth 0 m.parts n part → part.home ≡ Local file → suc (depth (partial_unit m n).below) ≤ 256
  local_deep nth home =
      let l = local_part docs common fixed p fx file n part nth home in
      held_deep (units_of docs) m 256 (read_deep docs input are) (omega arith) n part (local_kinds docs common fixed p fx n part l) l.rows (tops_there docs common fixed p fx n part l)

  local_free : Nth 0 m.parts n part → part.home ≡ Local file → EachAttr IsUnbound (partial_unit m n).below
  local_free nth home =
      let l = local_part docs common fixed p fx file n part nth home in
      held_free (units_of docs) m n part (local_kinds docs common fixed p fx n part l) l.rows
      (λ t in_tops. (tops_there docs common fixed p fx n part l t in_tops, free_moves docs common fixed p fx t (top_moves docs common fixed p fx n part l t in_tops)))
      (λ t in_tops. top_read docs input are t (tops_there docs common fixed p fx n part l t in_tops))

-- ---- files that nothing refuses

module _ (name : List ℕ) (o : OverFiles) (are : Each AreBytes o.contents) (w : CanBeWrittenOver name o) where
  abbrev r : Run
  r = run_over o

  abbrev cf : CommonFile
  cf = stands o

  abbrev input : Stored
  input = stored_behind (limits_over o) o.contents o.prunes

  abbrev docs : List (Doc ℕ)
  docs = o.said.docs

  abbrev common : Doc ℕ
  common = offsets_doc o.said.common

  p : ArePlacedOver docs common
  p = placed_over o are w.read

  abbrev fx : IsFixed (reused_of docs common) o.fixed
  fx = w.read.taken.lists

  was : AreRead input docs
  was = read name o are w

  can_be : CanWriteBy cf r
  can_be = can name o are w

  few : (b : Bool) → length (texts_bytes (shared_if b (texts_by cf r))) < 2 ^ 32
  few = shared_few (section_of o.common 3) (texts_short o are w.read)

  module _ (file : ℕ) (c : IsAnew o file) where
    has : HasSectionsBy cf r file (file_over name o file)
    has =
        let d = changed name o are w file c.1 in
        has_sections name cf r file d.doc d.read (content_bytes o.contents are file) d.some c.1 (sections_free name o are w file c.0) (file_free name o are w file c.0)

    fits : FitsSections (sections_by cf r file)
    fits =
        let d = changed name o are w file c.1 in
        sections_fit name cf r file d.doc d.read (content_bytes o.contents are file) d.some c.1 (sections_free name o are w file c.0) (file_free name o are w file c.0)

    abbrev AsBeside : Type 0
    AsBeside = StandAs (IsFormOfBack true) (file_over name o file)

    abbrev AsAlone : Type 0
    AsAlone = StandAs (IsFormOfBack false) (file_over name o file)

    file_stands : AsBeside
    file_stands =
        stands_beside cf r can_be (files_stand (standing_file o) r can_be) (named_over docs common p).own (read_deep docs input was) few (entry_low o are w.read) file c.0 c.1
        (local_deep docs common o.fixed p fx input was file) (local_free docs common o.fixed p fx input was file) (file_over name o file) has fits

    -- one that imports nothing from the common file
    own_stands : imports_common r.move r.units file ≡ false → AsAlone
    own_stands imports =
        stands_alone cf r can_be (files_stand (standing_file o) r can_be) (named_over docs common p).own (read_deep docs input was) few (entry_low o are w.read) file c.0 c.1
        (local_deep docs common o.fixed p fx input was file) (local_free docs common o.fixed p fx input was file) (file_over name o file) has fits imports
        (closed_own docs common o.fixed p fx file imports)

pub stand_over : StandOverLaw
stand_over name o are w = record { file = file_stands name o are w; alone = own_stands name o are w }

pub own_over : OwnOverLaw
own_over o are is file imports = closed_own o.said.docs (offsets_doc o.said.common) o.fixed (placed_over o are is) is.taken.lists file imports
