use Rattle.std.proofs.Common.{◌≡◌, ℕ, true, List, [], length, map, Some, Ok, refl, sym, ap, subst, ◌∙◌, arith}
use Rattle.std.proofs.lemmas.List.{length-map}
use Rattle.std.proofs.lemmas.Result.{err_from_is_err_and}
use Rattle.dwz_def_reading.specs.Files.{Limits, file_meaning_by, limits_after, no_files_before, refused_in}
use Rattle.dwz_def_reading.specs.Finished.{files_meaning_by, sum_of}
use Rattle.dwz_def_reading.specs.Rules.{ReadingRule}
use Rattle.dwz_graph.specs.ByRule.{IsReadBy, back_rule, common_rule}
use Rattle.dwz_graph.specs.Files.{AreBack, AreReadFromBy, CommonRead, FilesFail, Leaves, limits_view, said_finished}
use Rattle.dwz_unit.specs.declared.mode.FileKind.TheVariants.{Back, Common}
use Rattle.dwz_unit.specs.Rows.{units_of}
use Rattle.dwz_graph.proofs.BesideLemmas.{common_fails, common_says, finished_common_fails, finished_files_fail, finished_says}
use Rattle.dwz_graph.proofs.ContentLemmas.{content}
use Rattle.dwz_graph.proofs.GraphLemmas.{by_read}
use Rattle.dwz_graph.proofs.KeptLemmas.{IsSeen, common_known, leaves_by, none_indexed, none_kept, seen_rule}
use Rattle.dwz_graph.proofs.graph.back_beside.Goals as goal

pub returns-in_err-common-clause-answers : goal.returns-in_err-common-clause-answers
returns-in_err-common-clause-answers c =
    let p = err_from_is_err_and c.from_residual.result c.from_residual.ensures.1 in
    let files : List (List ℕ) = map content c.args.files.now in
    let bytes : List ℕ = c.args.bytes.now in
    let e = c.in_err-common.field-0.0 in
    rw (p.1, p.2) (finished_common_fails e files bytes (common_fails e files bytes
    (subst (λ (n : ℕ). FilesFail e (refused_in n (file_meaning_by common_rule no_files_before bytes))) (sym (length-map c.args.files.now content)) c.in_err-common.ensures)))

pub files_by-requires-clause-rule : goal.files_by-requires-clause-rule
files_by-requires-clause-rule c =
    let files : List (List ℕ) = map content c.args.files.now in
    let n = length c.args.files.now in
    let bytes : List ℕ = c.args.bytes.now in
    let part = c.beside.ensures.part in
    let f = part.0 in
    let raw = units_of f.units in
    let r : IsReadBy common_rule Common no_files_before n bytes f = subst (λ (s : CommonRead). IsReadBy common_rule Common no_files_before s.number s.bytes f) c.in_ok-common.ensures part.1 in
    let seen : IsSeen bytes f c.beside.result = record { bytes_are = c.beside.ensures.bytes ∙ ap (λ (s : CommonRead). s.bytes) c.in_ok-common.ensures; units = part.2; strs = part.3 } in
    record { sum = c.beside.ensures.sum ∙ ap (λ (w : List ℕ). sum_of w) (sym c.beside.ensures.bytes); few = common_known n bytes f c.beside.result seen r }

pub returns-in_err-back-clause-answers : goal.returns-in_err-back-clause-answers
returns-in_err-back-clause-answers c =
    let p = err_from_is_err_and c.from_residual-in_err-back.result c.from_residual-in_err-back.ensures.1 in
    let files : List (List ℕ) = map content c.args.files.now in
    let n = length c.args.files.now in
    let bytes : List ℕ = c.args.bytes.now in
    let part = c.beside.ensures.part in
    let f = part.0 in
    let raw = units_of f.units in
    let r : IsReadBy common_rule Common no_files_before n bytes f = subst (λ (s : CommonRead). IsReadBy common_rule Common no_files_before s.number s.bytes f) c.in_ok-common.ensures part.1 in
    let seen : IsSeen bytes f c.beside.result = record { bytes_are = c.beside.ensures.bytes ∙ ap (λ (s : CommonRead). s.bytes) c.in_ok-common.ensures; units = part.2; strs = part.3 } in
    let next : limits_view c.left-left.result ≡ limits_after no_files_before bytes raw =
    leaves_by (limits_view c.left-left.result) bytes raw r.doc (subst (λ (s : CommonRead). Leaves s.bytes (limits_view c.left-left.result)) c.in_ok-common.ensures c.left-left.ensures) r.means in
    let e = c.in_err-back.field-0.0 in
    rw (p.1, p.2) (finished_files_fail files bytes raw _ c.beside.result (seen_rule n bytes f c.beside.result files seen r) (common_says files bytes raw r.doc r.means) e
    (subst (λ (l : Limits). FilesFail e (files_meaning_by (λ (k : ℕ). back_rule (Some c.beside.result)) l 0 files)) next c.in_err-back.ensures))

pub invariant_of-result : goal.invariant_of-result
invariant_of-result c =
    let files : List (List ℕ) = map content c.args.files.now in
    let n = length c.args.files.now in
    let bytes : List ℕ = c.args.bytes.now in
    let part = c.beside.ensures.part in
    let f = part.0 in
    let raw = units_of f.units in
    let r : IsReadBy common_rule Common no_files_before n bytes f = subst (λ (s : CommonRead). IsReadBy common_rule Common no_files_before s.number s.bytes f) c.in_ok-common.ensures part.1 in
    let seen : IsSeen bytes f c.beside.result = record { bytes_are = c.beside.ensures.bytes ∙ ap (λ (s : CommonRead). s.bytes) c.in_ok-common.ensures; units = part.2; strs = part.3 } in
    let next : limits_view c.left-left.result ≡ limits_after no_files_before bytes raw =
    leaves_by (limits_view c.left-left.result) bytes raw r.doc (subst (λ (s : CommonRead). Leaves s.bytes (limits_view c.left-left.result)) c.in_ok-common.ensures c.left-left.ensures) r.means in
    let items = c.in_ok-back.back.items in
    let number : c.in_ok-common.common.number ≡ n = ap (λ (s : CommonRead). s.number) c.in_ok-common.ensures in
    let contents : c.in_ok-common.common.bytes ≡ bytes = ap (λ (s : CommonRead). s.bytes) c.in_ok-common.ensures in
    let back : AreReadFromBy (back_rule (Some c.beside.result)) (Back true) (limits_after no_files_before bytes raw) files items =
    subst (λ (l : Limits). AreReadFromBy (back_rule (Some c.beside.result)) (Back true) l files items) next c.in_ok-back.ensures in
    let placed = subst (λ (w : ReadingRule ℕ). AreReadFromBy w (Back true) (limits_after no_files_before bytes raw) files items) (sym (seen_rule n bytes f c.beside.result files seen r 0)) back in
    record {
      common_is = omega (arith, number, length-map c.args.files.now content);
      given_are = none_kept [] c.new.result.items refl c.new.ensures.items;
      back_are = subst (λ (w : List ℕ). AreBack (Some w) files items) (sym contents) (raw, r.doc, r.means, placed);
      indexes_are = none_indexed [] c.new-2.result.items refl c.new-2.ensures.items;
    }

pub returns-clause-answers : goal.returns-clause-answers
returns-clause-answers c =
    let files : List (List ℕ) = map content c.args.files.now in
    let n = length c.args.files.now in
    let bytes : List ℕ = c.args.bytes.now in
    let part = c.beside.ensures.part in
    let f = part.0 in
    let raw = units_of f.units in
    let r : IsReadBy common_rule Common no_files_before n bytes f = subst (λ (s : CommonRead). IsReadBy common_rule Common no_files_before s.number s.bytes f) c.in_ok-common.ensures part.1 in
    let seen : IsSeen bytes f c.beside.result = record { bytes_are = c.beside.ensures.bytes ∙ ap (λ (s : CommonRead). s.bytes) c.in_ok-common.ensures; units = part.2; strs = part.3 } in
    let next : limits_view c.left-left.result ≡ limits_after no_files_before bytes raw =
    leaves_by (limits_view c.left-left.result) bytes raw r.doc (subst (λ (s : CommonRead). Leaves s.bytes (limits_view c.left-left.result)) c.in_ok-common.ensures c.left-left.ensures) r.means in
    let items = c.in_ok-back.back.items in
    let back : AreReadFromBy (back_rule (Some c.beside.result)) (Back true) (limits_after no_files_before bytes raw) files items =
    subst (λ (l : Limits). AreReadFromBy (back_rule (Some c.beside.result)) (Back true) l files items) next c.in_ok-back.ensures in
    let d = by_read (back_rule (Some c.beside.result)) (Back true) (limits_after no_files_before bytes raw) files items back.end back.are in
    finished_says files bytes raw _ c.beside.result (seen_rule n bytes f c.beside.result files seen r) (common_says files bytes raw r.doc r.means) d.0 d.1
    ∙ ap (λ (w : List ℕ). Ok (said_finished (record { common = Some w; given = []; back = files }))) (sym (ap (λ (s : CommonRead). s.bytes) c.in_ok-common.ensures))
