-- What is written of files over a finished common file is said to mean the same.
use Rattle.std.proofs.Common.{◌≡◌, false, ℕ, List, Option, Some, None, refl, sym, ◌∙◌}
use Rattle.dwz_def_reading.specs.Lists.{Each, Nth}
use Rattle.dwz_def_reading.specs.Documents.{Doc}
use Rattle.dwz_def_reading.specs.Texts.{NoZero}
use Rattle.dwz_def_reading.specs.Values.{AreBytes}
use Rattle.dwz_def_readback.specs.Files.{imports_common}
use Rattle.dwz_def_limits.specs.Within.{AreWithinLimits}
use Rattle.dwz_def_check.specs.declared.same.Same.TheVariants.{Yes}
use Rattle.dwz_def_over.specs.Over.{OverFiles, run_over}
use Rattle.dwz_def_over.specs.Written.{CanBeWrittenOver}
use Rattle.dwz_def_run.specs.Compares.{ComparesTwo, answer_on, common_in, two_in}
use Rattle.dwz_law_over.proofs.FinishedOver.{finished_over, finished_over_alone}
use Rattle.dwz_law_over.proofs.SupOver.{names_over}
use Rattle.dwz_law_run.specs.SameOverLaws.{NamesStanding, SameOverLaw, compared_over}
use Rattle.dwz_law_run.proofs.SameLemmas.{alone_of, same_of}
use Rattle.dwz_run_course.specs.Outcome.{writes}

module _ (name : List ℕ) (x : OverFiles) (bytes : Each AreBytes x.contents) (can : CanBeWrittenOver name x) (no_zero : NoZero name) (file : ℕ) (doc : Doc ℕ)
    (nth : Nth 0 x.said.docs file doc) where
  imports_none : NamesStanding name x file None → imports_common (run_over x).move (run_over x).units file ≡ false
  imports_none named = sym (names_over name x bytes can file doc nth).1 ∙ named.1

  abbrev Said : Option (List ℕ) → Type 0
  Said sup = ComparesTwo (common_in sup (compared_over name x file sup)) (two_in sup (compared_over name x file sup)) (writes (answer_on Yes))

  by_sup : (sup : Option (List ℕ)) → NamesStanding name x file sup → AreWithinLimits (compared_over name x file sup) → Said sup
  by_sup None named within =
      let s = finished_over_alone name x bytes can file doc nth (imports_none named) within in
      (s.0, s.1, Yes, alone_of s.0 s.2, refl)
  by_sup (Some sup) named within =
      let s = finished_over name x bytes can no_zero file doc nth within in
      (s.0, s.1, Yes, same_of s.0 s.2, refl)

pub same_over : SameOverLaw
same_over name check x bytes can no_zero file doc nth named within = by_sup name x bytes can no_zero file doc nth check.sup named within
