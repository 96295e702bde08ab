use Rattle.std.proofs.Common.{◌≡◌, ◌++◌, ◌∷◌, [], List, ℕ, false, ap, arith, length, refl, slice_get, sym, ◌∙◌}
use Rattle.std.specs.Prelude.{slice_index_or}
use Rattle.std.proofs.lemmas.List.{length-append}
use Rattle.dwz_def_tops.specs.Spots.{tops_of, units_of}
use Rattle.dwz_graph.specs.Files.{docs_of}
use Rattle.dwz_label_marks.specs.Marks.{marks_of}
use Rattle.dwz_label_files.proofs.MarkedLemmas.{adds_alone, flag_of, from_kept, from_more, still_names, top_there}
use Rattle.dwz_label_words.proofs.AttrLemmas.{stays_both, stays_same}
use Rattle.dwz_label_files.proofs.stretch.put_labels.Goals as goal

pub loop-n-init : goal.loop-n-init
loop-n-init c = record { from = omega arith; stays = stays_same c.args.names.now; len = refl; place = tt; told = λ from flags at h. h }

pub put_nth-requires-clause-there : goal.put_nth-requires-clause-there
put_nth-requires-clause-there c = c.requires.there c.loop-n.n c.loop-n.invariant.from c.loop-n-test.true

pub put_nth-requires-clause-names : goal.put_nth-requires-clause-names
put_nth-requires-clause-names c = still_names c.args.run.now.files.now c.args.file c.args.names.now c.loop-n.names c.loop-n.invariant.stays c.requires.names

pub loop-n-preserved : goal.loop-n-preserved
loop-n-preserved c =
    let i = c.loop-n.invariant in
    let new = c.put_nth.new.names in
    let units = units_of (docs_of c.args.run.now.graph.now.given) in
    let grown = c.in_ok-push.ensures.ok in
    let label = c.put_nth.new.out.items in
    record {
      from = (let from = i.from in omega arith);
      stays = stays_both c.args.names.now c.loop-n.names new i.stays c.in_ok-put_nth.ensures.stays;
      len = (let long = ap (λ (w : List (List ℕ)). length w) grown ∙ length-append c.loop-n.labels (c.as_slice.result.now ∷ []) in let before = i.len in omega arith);
      place = c.in_ok-put_nth.ensures.place;
      told = λ from flags at h. from_more units new.names from c.loop-n.labels c.push.new.self label (grown ∙ ap (λ (w : List ℕ). c.loop-n.labels ++ w ∷ []) c.as_slice.ensures.value)
          (from_kept units c.loop-n.names.names new.names from c.loop-n.labels c.in_ok-put_nth.ensures.stays.kept (i.told from flags at h))
          (λ t there free number. (
          let n : t.number ≡ c.loop-n.n = (let len = i.len in omega arith) in
          let got = ap (slice_get (tops_of units)) (sym n) ∙ top_there units t there in
          let flag = ap (λ (k : ℕ). slice_index_or c.args.movable.now k false) (sym n) ∙ flag_of units c.args.movable.now t flags there free in
          adds_alone new.names (marks_of t) _ label c.clear.ensures.items (c.in_ok-put_nth.ensures.told t got free flag)));
    }

pub returns-clause-len : goal.returns-clause-len
returns-clause-len c = (let len = c.loop-n.invariant.len in omega arith)
