use Rattle.std.proofs.Common.{Option, ◌≡◌, ℕ, suc, ◌+◌, ◌++◌, ◌∷◌, [], List, length, map, take, drop, refl, sym, ap, subst, ◌∙◌, arith}
use Rattle.std.specs.Option.{option_map}
use Rattle.std.specs.Prelude.{IfSome}
use Rattle.std.proofs.Math.ListN.{length-set, set}
use Rattle.std.proofs.lemmas.Option.{slice_get-map}
use Rattle.std.proofs.lemmas.List.{length-map, length-take, take_all}
use Rattle.dwz_model.specs.declared.fault.GraphErr.{GraphErr}
use Rattle.dwz_def_reading.specs.Files.{file_meaning, files_meaning, limits_after}
use Rattle.dwz_def_reading.specs.ElfReading.{elf_of}
use Rattle.dwz_def_reading.specs.Faults.{Fails}
use Rattle.dwz_def_reading.proofs.ListFacts.{item_got}
use Rattle.dwz_graph.specs.Ahead.{AreAhead, IsAhead}
use Rattle.dwz_graph.specs.declared.file.File.{File}
use Rattle.dwz_graph.specs.Files.{AreRead, FilesFail, IsRead, limits_view}
use Rattle.dwz_unit.specs.Rows.{units_of}
use Rattle.dwz_graph.proofs.AheadLemmas.{here, taken}
use Rattle.dwz_graph.proofs.ContentLemmas.{Content, content, one_more, parted}
use Rattle.dwz_graph.proofs.GraphLemmas.{files_fail}
use Rattle.dwz_graph.proofs.OneAfter.{are_more}
use Rattle.dwz_graph.proofs.readings.given_files.Goals as goal

pub loop-number-init : goal.loop-number-init
loop-number-init g c = record {
  read = subst (λ (fs : List File). AreRead (limits_view c.args.all.now) 0 [] fs (limits_view c.args.all.now)) (sym c.new-kept.ensures.items) refl;
  len = c.in_ok-ahead.ensures.len;
  ahead = c.in_ok-ahead.ensures.ahead;
}

pub loop-number-preserved : goal.loop-number-preserved
loop-number-preserved g c =
    let files : List Content = c.args.files.now in
    let first = limits_view c.args.all.now in
    let i = c.loop-number.number in
    let x = c.index-files-number.result in
    let l = limits_view c.loop-number.left in
    let read : IsRead l i x.items c.in-Ok.file = subst (λ (b : List ℕ). IsRead l i b c.in-Ok.file) c.as_slice.ensures.value c.in-Ok.ensures in
    let next : limits_view c.behind-left.result ≡ limits_after l x.items (units_of c.in-Ok.file.units) =
    c.behind-left.ensures (read.elf ∙ ap elf_of (sym c.as_slice-in-Ok.ensures.value)) ∙ ap (λ (b : List ℕ). limits_after l b (units_of c.in-Ok.file.units)) c.as_slice-in-Ok.ensures.value in
    let many : i ≡ 0 + length (map content (take i files)) = omega (arith, length-map (take i files) content, length-take i files) in
    record {
      read =
          subst (λ (cs : List (List ℕ)). AreRead first 0 cs c.push.new.self.items (limits_view c.behind-left.result)) (sym (one_more files i x (omega arith) c.index-files-number.is))
          (subst (λ (fs : List File). AreRead first 0 (map content (take i files) ++ x.items ∷ []) fs (limits_view c.behind-left.result)) (sym c.in_ok-push-in-Ok.ensures.items)
          (are_more IsRead first 0 (map content (take i files)) c.loop-number.kept.items l (limits_view c.behind-left.result) x.items c.in-Ok.file c.loop-number.invariant.read
          (subst (λ (n : ℕ). IsRead l n x.items c.in-Ok.file) many read) (sym next)));
      len = length-set c.loop-number.ahead.items i c.take-done.new.self ∙ c.loop-number.invariant.len;
      ahead = subst (λ (o : Option File). AreAhead (map content files) (set c.loop-number.ahead.items i o)) (sym c.take-done.ensures.after)
          (let len = c.loop-number.invariant.len in taken (map content files) c.loop-number.ahead.items i (omega arith) c.loop-number.invariant.ahead);
    }

pub returns-in-Err : goal.returns-in-Err
returns-in-Err g c =
    let files : List Content = c.args.files.now in
    let i = c.loop-number.number in
    let x = c.index-files-number.result in
    let l = limits_view c.loop-number.left in
    let many : length (map content (take i files)) ≡ i = omega (arith, length-map (take i files) content, length-take i files) in
    subst (λ (e : GraphErr). FilesFail e (files_meaning (limits_view c.args.all.now) 0 (map content files))) (sym c.in_file.ensures)
    (files_fail c.in-Err.error (limits_view c.args.all.now) (map content files) (map content (take i files)) c.loop-number.kept.items l i x.items (map content (drop (suc i) files))
    (parted files i x (omega arith) c.index-files-number.is) many c.loop-number.invariant.read
    (subst (λ (b : List ℕ). Fails c.in-Err.error (file_meaning l b)) c.as_slice.ensures.value c.in-Err.ensures))

pub returns : goal.returns
returns g c =
    let files : List Content = c.args.files.now in
    let all : take c.loop-number.number files ≡ files = take_all c.loop-number.number files (omega arith) in
    record {
      end = limits_view c.loop-number.left;
      are = subst (λ (w : List Content). AreRead (limits_view c.args.all.now) 0 (map content w) c.loop-number.kept.items (limits_view c.loop-number.left)) all c.loop-number.invariant.read;
    }

pub file_behind-requires : goal.file_behind-requires
file_behind-requires g c =
    let files : List Content = c.args.files.now in
    let i = c.loop-number.number in
    let x = c.index-files-number.result in
    let slots : List (Option File) = c.loop-number.ahead.items in
    let len = c.loop-number.invariant.len in
    let is = slice_get-map content files i ∙ ap (option_map content) (item_got files i x (omega arith) c.index-files-number.is) in (
      c.type_bounds.sync-R,
      subst (λ (b : List ℕ). IfSome c.take-done.result (IsAhead i b)) (sym c.as_slice.ensures.value)
          (here (map content files) slots i x.items c.take-done.result _ (omega arith) (c.take-done.ensures.value ∙ c.index_mut.ensures.value) is c.loop-number.invariant.ahead),
    )
