-- What is planned of files over a common file is so as it is asked for.
use Rattle.std.proofs.Common.{ℕ, List, length, sym, subst}
use Rattle.std.specs.List.{range_with_len}
use Rattle.dwz_def_reading.specs.Documents.{Doc}
use Rattle.dwz_def_tops.specs.Spots.{EntryName, FileUnit, file_numbers, tops_of}
use Rattle.dwz_def_reading.specs.Lists.{In}
use Rattle.dwz_def_taken.specs.declared.fixed.Fixed.{Fixed}
use Rattle.dwz_def_taken.specs.Beside.{Reused, reused_of}
use Rattle.dwz_def_taken.specs.Over.{move_over}
use Rattle.dwz_def_taken.proofs.NamesOver.{together_is}
use Rattle.dwz_plan.specs.Over.{IsPlanOver}
use Rattle.dwz_plan.specs.OverLaws.{ShowsAllOver}
use Rattle.dwz_plan.proofs.BridgeLemmas.{file_numbers_are}
use Rattle.dwz_plan.proofs.ShownOver.{shows_over}
use Rattle.dwz_layout_input.specs.declared.planned.PlannedFiles.{PlannedFiles}
use Rattle.dwz_layout_input.specs.PlannedOver.{ArePlannedOver}
use Rattle.dwz_layout_input.proofs.OverMade.{IsMadeOver, reused_is, shown}
use Rattle.dwz_layout_input.proofs.OverParts.{fits_over}

module _ (docs : List (Doc ℕ)) (doc : Doc ℕ) (fixed : Fixed) (p : PlannedFiles) (found least : List ℕ) (made : IsMadeOver docs doc fixed p.tops found least)
    (is : IsPlanOver p.tops least fixed p.plan) where
  abbrev r : Reused
  r = reused_of docs doc

  shows : ShowsAllOver (reused_of docs doc) (move_over (reused_of docs doc) fixed (file_numbers 0 docs)) (length docs) p.plan
  shows =
      subst (λ (fs : List ℕ). ShowsAllOver r (move_over r fixed fs) (length docs) p.plan) (sym (file_numbers_are 0 docs))
      (subst (λ (n : ℕ). ShowsAllOver r (move_over r fixed (range_with_len 0 n)) n p.plan) made.outline.files
      (shows_over r fixed p.tops least (reused_is docs doc fixed p.tops found least made) made.fixed_is (shown docs doc fixed p.tops found least made) is.0 is.1 p.plan is.2))

  pub planned_is : ArePlannedOver docs doc fixed p
  planned_is = record {
    outline = made.outline;
    shows = shows;
    stand_ins = λ t there. shows.stand_ins t (subst (λ (us : List (FileUnit EntryName)). In t (tops_of us)) (sym (together_is docs doc)) there);
    fits = fits_over docs doc fixed p.tops found least made p.plan is;
  }
