use Rattle.std.proofs.Common.{◌≡◌, ℕ, suc, ◌+◌, ◌++◌, ◌∷◌, [], List, length, map, take, drop, refl, sym, ap, subst, ◌∙◌, arith}
use Rattle.std.proofs.lemmas.List.{length-map, length-take, take_all}
use Rattle.dwz_model.specs.declared.fault.GraphErr.{GraphErr}
use Rattle.dwz_def_reading.specs.Files.{file_meaning_by, limits_after}
use Rattle.dwz_def_reading.specs.Finished.{files_meaning_by}
use Rattle.dwz_def_reading.specs.ElfReading.{elf_of}
use Rattle.dwz_def_reading.specs.Faults.{Fails}
use Rattle.dwz_graph.specs.declared.file.File.{File}
use Rattle.dwz_graph.specs.ByRule.{AreReadBy, IsReadBy, kind_of, rule_view}
use Rattle.dwz_graph.specs.Files.{FilesFail, limits_view}
use Rattle.dwz_unit.specs.Rows.{units_of}
use Rattle.dwz_graph.proofs.ContentLemmas.{Content, content, one_more, parted}
use Rattle.dwz_graph.proofs.GraphLemmas.{by_fail}
use Rattle.dwz_graph.proofs.OneAfter.{are_more}
use Rattle.dwz_graph.proofs.readings.files_by.Goals as goal

pub loop-number-init : goal.loop-number-init
loop-number-init c =
    subst (λ (fs : List File). AreReadBy (rule_view c.args.rule.now) (kind_of c.args.rule.now) (limits_view c.args.all.now) 0 [] fs (limits_view c.args.all.now)) (sym c.new-kept.ensures.items) refl

pub loop-number-preserved : goal.loop-number-preserved
loop-number-preserved c =
    let files : List Content = c.args.files.now in
    let rule = rule_view c.args.rule.now in
    let kind = kind_of c.args.rule.now in
    let first = limits_view c.args.all.now in
    let i = c.loop-number.number in
    let x = c.index-files-number.result in
    let l = limits_view c.loop-number.left in
    let f : File = c.in-Ok.file in
    let read : IsReadBy rule kind l i x.items f = subst (λ (b : List ℕ). IsReadBy rule kind l i b f) c.as_slice.ensures.value c.in-Ok.ensures in
    let next : limits_view c.behind-left.result ≡ limits_after l x.items (units_of f.units) =
    c.behind-left.ensures (read.elf ∙ ap elf_of (sym c.as_slice-in-Ok.ensures.value)) ∙ ap (λ (b : List ℕ). limits_after l b (units_of f.units)) c.as_slice-in-Ok.ensures.value in
    let many : i ≡ 0 + length (map content (take i files)) = omega (arith, length-map (take i files) content, length-take i files) in
    subst (λ (cs : List (List ℕ)). AreReadBy rule kind first 0 cs c.push.new.self.items (limits_view c.behind-left.result)) (sym (one_more files i x (omega arith) c.index-files-number.is))
    (subst (λ (fs : List File). AreReadBy rule kind first 0 (map content (take i files) ++ x.items ∷ []) fs (limits_view c.behind-left.result)) (sym c.in_ok-push-in-Ok.ensures.items)
    (are_more (IsReadBy rule kind) first 0 (map content (take i files)) c.loop-number.kept.items l (limits_view c.behind-left.result) x.items f c.loop-number.invariant
    (subst (λ (n : ℕ). IsReadBy rule kind l n x.items f) many read) (sym next)))

pub returns-in-Err : goal.returns-in-Err
returns-in-Err c =
    let files : List Content = c.args.files.now in
    let rule = rule_view c.args.rule.now in
    let i = c.loop-number.number in
    let x = c.index-files-number.result in
    let l = limits_view c.loop-number.left in
    let many : length (map content (take i files)) ≡ i = omega (arith, length-map (take i files) content, length-take i files) in
    subst (λ (e : GraphErr). FilesFail e (files_meaning_by (λ (k : ℕ). rule) (limits_view c.args.all.now) 0 (map content files))) (sym c.in_file.ensures)
    (by_fail rule (kind_of c.args.rule.now) c.in-Err.error (limits_view c.args.all.now) (map content files) (map content (take i files)) c.loop-number.kept.items l i x.items
    (map content (drop (suc i) files))
    (parted files i x (omega arith) c.index-files-number.is) many c.loop-number.invariant
    (subst (λ (b : List ℕ). Fails c.in-Err.error (file_meaning_by rule l b)) c.as_slice.ensures.value c.in-Err.ensures))

pub returns : goal.returns
returns c =
    let files : List Content = c.args.files.now in
    let all : take c.loop-number.number files ≡ files = take_all c.loop-number.number files (omega arith) in
    record {
      end = limits_view c.loop-number.left;
      are = subst (λ (w : List Content). AreReadBy (rule_view c.args.rule.now) (kind_of c.args.rule.now) (limits_view c.args.all.now) 0 (map content w) c.loop-number.kept.items
          (limits_view c.loop-number.left)) all c.loop-number.invariant;
    }
