use Rattle.std.proofs.Common.{◌≡◌, Bool, List, length, sym, ap, ◌∙◌, arith}
use Rattle.std.proofs.lemmas.List.{with_items_is}
use Rattle.std.specs.Vec.{with_items}
use Rattle.dwz_graph.specs.Files.{docs_of}
use Rattle.dwz_groups.specs.declared.tops.TopRow.{TopRow}
use Rattle.dwz_move_files.specs.Rows.{with_flags}
use Rattle.dwz_move_files.proofs.OutlineLemmas.{are_movable, inside, keys_within, long, outline_is, seeds_many}
use Rattle.dwz_move_files.proofs.outline.outline_files.Goals as goal

pub targets_of-requires : goal.targets_of-requires
targets_of-requires g c = keys_within (docs_of c.args.graph.now.given) c.in_ok-draft.draft c.in_ok-draft.ensures.draft

pub movable_by-requires-clause-few : goal.movable_by-requires-clause-few
movable_by-requires-clause-few g c =
    let d = c.in_ok-draft.ensures.draft in
    let few = c.in_ok-draft.ensures.few in
    let many = long (docs_of c.args.graph.now.given) c.in_ok-draft.draft d c.in_ok-targets.targets c.in_ok-targets.ensures in
    let rows = d.rows_len in
    omega arith

pub movable_by-requires-clause-len : goal.movable_by-requires-clause-len
movable_by-requires-clause-len g c =
    seeds_many (docs_of c.args.graph.now.given) c.in_ok-draft.draft c.in_ok-draft.ensures.draft c.in_ok-targets.targets c.in_ok-targets.ensures c.as_slice.result.now c.as_slice.ensures.value

pub movable_by-requires-clause-inside : goal.movable_by-requires-clause-inside
movable_by-requires-clause-inside g c = inside (docs_of c.args.graph.now.given) c.in_ok-draft.draft c.in_ok-draft.ensures.draft c.in_ok-targets.targets c.in_ok-targets.ensures

pub set_movable-requires : goal.set_movable-requires
set_movable-requires g c =
    let d = c.in_ok-draft.ensures.draft in
    let moves = are_movable (docs_of c.args.graph.now.given) c.in_ok-draft.draft d c.in_ok-targets.targets c.in_ok-targets.ensures c.as_slice.result.now c.as_slice.ensures.value c.in_ok-movable.movable
    c.in_ok-movable.ensures in
    ap (λ (w : List Bool). length w) c.as_slice-2.ensures ∙ moves.len ∙ sym d.rows_len ∙ ap (λ (w : List TopRow). length w) (sym c.as_mut_slice.ensures.value)

pub returns : goal.returns
returns g c =
    let docs = docs_of c.args.graph.now.given in
    let draft = c.in_ok-draft.draft in
    let d = c.in_ok-draft.ensures.draft in
    let flags = c.in_ok-movable.movable in
    let moves = are_movable docs draft d c.in_ok-targets.targets c.in_ok-targets.ensures c.as_slice.result.now c.as_slice.ensures.value flags c.in_ok-movable.ensures in
    let rows : (with_items draft.rows c.set_movable.new.rows).items ≡ with_flags draft.rows.items flags =
    with_items_is draft.rows c.set_movable.new.rows (omega (arith, c.in_ok-draft.draft.rows.ok.0, ap (λ (w : List TopRow). length w) c.as_mut_slice.ensures.value, c.set_movable.auto.rows))
    ∙ c.set_movable.ensures ∙ (λ i. with_flags (c.as_mut_slice.ensures.value i) (c.as_slice-2.ensures i)) in
    record {
      tops = outline_is docs draft d c.in_ok-targets.targets c.in_ok-targets.ensures flags moves c.in_ok-tops.tops
          (c.in_ok-tops.ensures.rows ∙ rows) c.in_ok-tops.ensures.targets c.in_ok-tops.ensures.units c.in_ok-tops.ensures.files;
    }
