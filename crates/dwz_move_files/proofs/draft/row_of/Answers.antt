use Rattle.std.proofs.Common.{ℕ, ◌<◌, List, length, refl, sym, ap, subst, ◌∙◌, arith}
use Rattle.std.specs.Prelude.{slice_index_or, Bool, false}
use Rattle.dwz_def_tops.specs.Spots.{tops_of, units_of}
use Rattle.dwz_graph.specs.Files.{docs_of}
use Rattle.dwz_def_reading.specs.Files.{around_of}
use Rattle.dwz_def_plan.specs.Plan.{is_pinned}
use Rattle.dwz_move.specs.Known.{KnowsRefs, tops_of_refs}
use Rattle.dwz_graph.specs.Standing.{StandsAt}
use Rattle.dwz_unit.specs.Rows.{Source, units_of as raw_units}
use Rattle.dwz_graph.specs.Across.{name_at}
use Rattle.dwz_move_files.proofs.DraftSteps.{knows_own, number_low, place_named, stands_end, weighs}
use Rattle.dwz_move_files.proofs.draft.row_of.Goals as goal

pub returns : goal.returns
returns c = λ contents bytes x is k t top_is at ends named. (
    let f = c.args.file.now in
    let raw = raw_units f.units in
    let number = c.args.number in
    let top = c.args.top in
    let doc = is.kept.read.doc in
    let name : ℕ → _ = name_at x.starts doc in
    let r = c.entry.result in
    let shown = c.entry.ensures.entry in
    let refs : List ℕ = f.resolved.refs.items in
    let starts : List ℕ = f.resolved.starts.items in
    let low = number_low contents number bytes f x is k top t top_is in
    let here : c.args.n < length (tops_of (units_of (docs_of contents))) = omega arith in
    record {
      file = sym top_is.file_is;
      place = place_named contents number bytes f x is k top t top_is r shown;
      unit = sym top_is.unit;
      weight = weighs contents number bytes f x is k top t top_is r c.top_weight.result shown
          (c.top_weight.ensures (around_of bytes raw) refs starts (tops_of_refs name raw refs) name doc.units number x.starts.unit t
          (subst (λ (w : Source). KnowsRefs (around_of bytes raw) (raw_units w) name refs starts (tops_of_refs name raw refs)) (sym c.requires.weights) (knows_own contents number bytes f x is))
          (subst (λ (w : Source). StandsAt (around_of bytes raw) name (raw_units w) doc.units number x.starts.unit t top.entry c.args.end) (sym c.requires.weights)
          (stands_end contents number bytes f x is k top t top_is c.args.end ends)));
      still = refl;
      pinned = c.flag.ensures ∙ ap (λ (w : List Bool). slice_index_or w c.args.n false) c.as_slice.ensures.value ∙ named.uleb.each c.args.n here ∙ ap (is_pinned (units_of (docs_of contents))) at;
    })
