-- What is written of files is said to mean the same.
use Rattle.std.proofs.Common.{◌≡◌, false, Bool, ℕ, List, Option, Some, None, refl, sym, subst, ◌∙◌}
use Rattle.dwz_def_reading.specs.Lists.{Each, Nth}
use Rattle.dwz_def_reading.specs.Documents.{Doc}
use Rattle.dwz_def_reading.specs.Finished.{FinishedDocs}
use Rattle.dwz_def_reading.specs.Texts.{NoZero}
use Rattle.dwz_def_reading.specs.Values.{AreBytes}
use Rattle.dwz_def_readback.specs.Files.{Run, imports_common}
use Rattle.dwz_def_limits.specs.Within.{AreWithinLimits}
use Rattle.dwz_def_check.specs.Answer.{IsSameOf}
use Rattle.dwz_def_check.specs.declared.same.Same.TheVariants.{Yes}
use Rattle.dwz_def_run.specs.Compares.{ComparesTwo, answer_on, common_in, two_in}
use Rattle.dwz_def_run.specs.Out.{IsWritten, run_for, sup_name, top_scope_of}
use Rattle.dwz_law_cross.specs.FinishedLaws.{SaidSame, SaidSameAlone}
use Rattle.dwz_law_cross.proofs.FinishedLemmas.{finished, finished_alone}
use Rattle.dwz_law_run.specs.SameLaws.{NamesCommon, SameLaw, compared_of}
use Rattle.dwz_run_course.specs.Outcome.{writes}
use Rattle.dwz_words.specs.declared.options.Options.{Options}
pub use Rattle.dwz_law_cross.proofs.FinishedLemmas.{names_sup}

pub same_of : (said : FinishedDocs) → SaidSame said → IsSameOf said Yes
same_of said s = subst (λ (d : FinishedDocs). IsSameOf d Yes) (sym s.are) s.same

pub alone_of : (said : FinishedDocs) → SaidSameAlone said → IsSameOf said Yes
alone_of said s = subst (λ (d : FinishedDocs). IsSameOf d Yes) (sym s.are) s.same

module _ (o : Options) (contents : List (List ℕ)) (docs : List (Doc ℕ)) (prunes : List Bool) (bytes : Each AreBytes contents) (written : IsWritten o contents docs prunes)
    (no_zero : NoZero (sup_name o)) (file : ℕ) (doc : Doc ℕ) (nth : Nth 0 docs file doc) where
  abbrev r : Run
  r = run_for o contents docs prunes

  imports_none : NamesCommon o r file None → imports_common r.move r.units file ≡ false
  imports_none named = sym (names_sup (top_scope_of o) (sup_name o) contents docs prunes bytes written file doc nth).1 ∙ named.1

  abbrev Said : Option (List ℕ) → Type 0
  Said sup = ComparesTwo (common_in sup (compared_of o r file sup)) (two_in sup (compared_of o r file sup)) (writes (answer_on Yes))

  by_sup : (sup : Option (List ℕ)) → NamesCommon o r file sup → AreWithinLimits (compared_of o r file sup) → Said sup
  by_sup None named within =
      let s = finished_alone (top_scope_of o) (sup_name o) contents docs prunes bytes written file doc nth (imports_none named) within in
      (s.0, s.1, Yes, alone_of s.0 s.2, refl)
  by_sup (Some name) named within =
      let s = finished (top_scope_of o) (sup_name o) contents docs prunes bytes written no_zero named file doc nth within in
      (s.0, s.1, Yes, same_of s.0 s.2, refl)

pub same_said : SameLaw
same_said o check contents docs prunes bytes written no_zero file doc nth named within = by_sup o contents docs prunes bytes written no_zero file doc nth check.sup named within
