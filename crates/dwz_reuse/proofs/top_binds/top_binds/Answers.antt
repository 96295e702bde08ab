use Rattle.std.proofs.Common.{◌≡◌, ℕ, Bool, drop, sym, subst}
use Rattle.std.specs.Prelude.{IfOk, slice_index}
use Rattle.dwz_check_index.specs.Index.{ListedEntry}
use Rattle.dwz_check_labels.proofs.EntryLemmas.{shown_row}
use Rattle.dwz_def_tops.specs.Alike.{entry_binds}
use Rattle.dwz_move.proofs.TreeBinds.{any_whole}
use Rattle.dwz_unit.specs.Rows.{units_of}
use Rattle.dwz_reuse.proofs.TopRows.{ds, h, rows, s, top_into, top_meant}
use Rattle.dwz_reuse.proofs.top_binds.top_binds.Goals as goal

pub entries_bind-requires : goal.entries_bind-requires
entries_bind-requires c = (shown_row (units_of c.args.units.now) c.args.top.now.entry c.entry-end.result c.entry-end.ensures.entry).1

pub returns : goal.returns
returns c = λ around refs name said tops unit names n t knows means has is. (
    let raw = units_of c.args.units.now in
    let i = c.args.top.now.entry in
    let starts = c.args.starts.now in
    let into = c.args.into.now in
    let d : ListedEntry ℕ = (t.node, t.below) in
    let x = c.entry-end.result in
    let shown = c.entry-end.ensures.entry in
    let m = top_meant around raw name refs starts into knows said means i d is.found x shown in
    let k = top_into around raw name refs starts into knows said means i d is.found x shown in
    let here = h around raw name refs starts into knows said means i d is.found x shown in
    subst (λ (b : Bool). IfOk c.entries_bind.result (λ r. r ≡ b)) (sym (any_whole (entry_binds tops unit) name t.node t.below))
    (c.entries_bind.ensures (s around raw name refs starts into knows said means i d is.found x shown) (drop (slice_index starts i) refs)
    (rows around raw name refs starts into knows said means i d is.found x shown) here.after (ds around raw name refs starts into knows said means i d is.found x shown) tops unit name has m k))
