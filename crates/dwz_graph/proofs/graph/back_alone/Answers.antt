use Rattle.std.proofs.Common.{ℕ, false, List, [], map, None, refl, subst}
use Rattle.std.proofs.lemmas.Result.{err_from_is_err_and}
use Rattle.dwz_def_reading.specs.Files.{Limits, no_files_before}
use Rattle.dwz_def_reading.specs.Finished.{files_meaning_by}
use Rattle.dwz_graph.specs.ByRule.{back_rule}
use Rattle.dwz_graph.specs.Files.{AreReadFromBy, FilesFail}
use Rattle.dwz_unit.specs.declared.mode.FileKind.TheVariants.{Back}
use Rattle.dwz_graph.proofs.BesideLemmas.{alone_fails, alone_says}
use Rattle.dwz_graph.proofs.ContentLemmas.{content}
use Rattle.dwz_graph.proofs.GraphLemmas.{by_read}
use Rattle.dwz_graph.proofs.KeptLemmas.{none_indexed, none_kept}
use Rattle.dwz_graph.proofs.graph.back_alone.Goals as goal

pub returns-in_err-back-clause-answers : goal.returns-in_err-back-clause-answers
returns-in_err-back-clause-answers c =
    let p = err_from_is_err_and c.from_residual.result c.from_residual.ensures.1 in
    let files : List (List ℕ) = map content c.args.files.now in
    let e = c.in_err-back.field-0.0 in
    rw (p.1, p.2) (alone_fails e files (subst (λ (l : Limits). FilesFail e (files_meaning_by (λ (k : ℕ). back_rule None) l 0 files)) c.all_left.ensures c.in_err-back.ensures))

pub invariant_of-result : goal.invariant_of-result
invariant_of-result c =
    let files : List (List ℕ) = map content c.args.files.now in
    record {
      common_is = tt;
      given_are = none_kept [] c.new.result.items refl c.new.ensures.items;
      back_are = subst (λ (l : Limits). AreReadFromBy (back_rule None) (Back false) l files c.in_ok-back.back.items) c.all_left.ensures c.in_ok-back.ensures;
      indexes_are = none_indexed [] c.new-2.result.items refl c.new-2.ensures.items;
    }

pub returns-clause-answers : goal.returns-clause-answers
returns-clause-answers c =
    let files : List (List ℕ) = map content c.args.files.now in
    let back : AreReadFromBy (back_rule None) (Back false) no_files_before files c.in_ok-back.back.items =
    subst (λ (l : Limits). AreReadFromBy (back_rule None) (Back false) l files c.in_ok-back.back.items) c.all_left.ensures c.in_ok-back.ensures in
    let d = by_read (back_rule None) (Back false) no_files_before files c.in_ok-back.back.items back.end back.are in
    alone_says files d.0 d.1
