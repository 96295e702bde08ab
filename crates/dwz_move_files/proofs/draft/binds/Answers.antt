use Rattle.std.proofs.Common.{◌≡◌, ℕ, ◌<◌, List, length, sym, ap, subst, ◌∙◌, arith}
use Rattle.std.specs.Prelude.{slice_index_or, Bool, false, true}
use Rattle.dwz_def_reading.proofs.CaseFacts.{if_ok}
use Rattle.dwz_def_tops.specs.Alike.{is_named}
use Rattle.dwz_def_tops.specs.Spots.{tops_of, units_of}
use Rattle.dwz_graph.specs.Files.{docs_of}
use Rattle.dwz_def_reading.specs.Files.{around_of}
use Rattle.dwz_graph.specs.Standing.{StandsAt}
use Rattle.dwz_move.specs.Known.{KnowsRefs}
use Rattle.dwz_unit.specs.Rows.{Source, units_of as raw_units}
use Rattle.dwz_graph.specs.Across.{name_at}
use Rattle.dwz_move_files.proofs.DraftSteps.{binds_named, binds_so, knows_at, number_low, stands_end}
use Rattle.dwz_move_files.proofs.draft.binds.Goals as goal

pub returns-then-flag : goal.returns-then-flag
returns-then-flag c = λ contents number bytes x is k t top_is at ends into own named. (
    let f = c.args.file.now in
    let top = c.args.top in
    let low = number_low contents number bytes f x is k top t top_is in
    let here : c.args.n < length (tops_of (units_of (docs_of contents))) = omega arith in
    let flag : slice_index_or c.args.named.now.by_any.items c.args.n false ≡ true = ap (λ (w : List Bool). slice_index_or w c.args.n false) (sym c.as_slice.ensures.value) ∙ sym c.flag.ensures
    ∙ c.if-flag.true in
    binds_named contents number bytes f x is k top t top_is (ap (is_named (units_of (docs_of contents))) (sym at) ∙ sym (named.any.each c.args.n here) ∙ flag))

pub returns : goal.returns
returns c = λ contents number bytes x is k t top_is at ends into own named. (
    let f = c.args.file.now in
    let raw = raw_units f.units in
    let top = c.args.top in
    let doc = is.kept.read.doc in
    let low = number_low contents number bytes f x is k top t top_is in
    let here : c.args.n < length (tops_of (units_of (docs_of contents))) = omega arith in
    let flag : slice_index_or c.args.named.now.by_any.items c.args.n false ≡ false = ap (λ (w : List Bool). slice_index_or w c.args.n false) (sym c.as_slice.ensures.value) ∙ sym c.flag.ensures
    ∙ c.if-flag.false in
    let none : is_named (units_of (docs_of contents)) t.number ≡ false = ap (is_named (units_of (docs_of contents))) (sym at) ∙ sym (named.any.each c.args.n here) ∙ flag in
    let refs : List ℕ = f.resolved.refs.items in
    if_ok c.top_binds.result _ _ (λ b e. binds_so contents number bytes f x is k top t top_is b e none)
    (c.top_binds.ensures (around_of bytes raw) refs (name_at x.starts doc) doc.units number x.starts.unit (tops_of (units_of (docs_of contents))) t
    (subst (λ (w : Source). KnowsRefs (around_of bytes raw) (raw_units w) (name_at x.starts doc) refs c.as_slice-starts.result.now c.args.into.now) (sym c.requires.binds)
    (knows_at contents number bytes f x is c.args.into.now into c.as_slice-starts.result.now c.as_slice-starts.ensures.value))
    (subst (λ (w : Source). StandsAt (around_of bytes raw) (name_at x.starts doc) (raw_units w) doc.units number x.starts.unit t top.entry c.args.end) (sym c.requires.binds)
    (stands_end contents number bytes f x is k top t top_is c.args.end ends)) own))
