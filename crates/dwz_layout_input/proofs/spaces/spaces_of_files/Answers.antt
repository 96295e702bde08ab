use Rattle.std.proofs.Common.{◌≡◌, ◌∙◌, ℕ, List, map, length, sym, ap, subst, arith}
use Rattle.dwz_graph.specs.Files.{docs_of}
use Rattle.dwz_graph.specs.Index.{Index}
use Rattle.dwz_graph.proofs.IndexesThere.{of_indexes}
use Rattle.dwz_layout_items.specs.declared.partial.SpaceRow.{SpaceRow}
use Rattle.dwz_layout_items.specs.Chains.{IsRising}
use Rattle.dwz_layout_order.specs.Lists.{AreLists, all_spaces, all_tops, rows_from, spaces_at}
use Rattle.dwz_layout_order.proofs.ChainShown.{rows_long}
use Rattle.dwz_layout_input.specs.Known.{AreSpaces}
use Rattle.dwz_layout_input.proofs.SpaceLeads.{all_known, rows_rise}
use Rattle.dwz_layout_input.proofs.spaces.spaces_of_files.Goals as goal

pub space_rows-requires : goal.space_rows-requires
space_rows-requires c = (let few = (c.in_ok-texts.ensures.few c.indexes-indexes.result.now c.indexes-indexes.ensures) in omega arith)

pub number_lists-requires : goal.number_lists-requires
number_lists-requires c =
    let xs = c.indexes-indexes.result.now in
    let few = (c.in_ok-texts.ensures.few c.indexes-indexes.result.now c.indexes-indexes.ensures) in
    let rows : c.as_slice.result.now ≡ rows_from 0 (all_spaces xs) = c.as_slice.ensures.value ∙ c.in_ok-rows.ensures in
    let long = ap (λ (w : List SpaceRow). length w) rows ∙ rows_long 0 (all_spaces xs) in
    let texts = ap (λ (w : List ℕ). length w) c.as_slice-2.ensures.value ∙ (c.in_ok-texts.ensures.len c.indexes-indexes.result.now c.indexes-indexes.ensures) in
    record { many = texts ∙ sym long; few = omega arith; rising = subst IsRising (sym rows) (rows_rise (docs_of c.args.graph.now.given) xs c.indexes-indexes.ensures) }

pub returns : goal.returns
returns c =
    let docs = docs_of c.args.graph.now.given in
    let xs = c.indexes-indexes.result.now in
    of_indexes docs (λ (ys : List Index). AreSpaces docs ys (record { rows = c.in_ok-rows.rows; of_tops = c.in_ok-of_tops.of_tops })) xs c.indexes-indexes.ensures
    (all_known docs xs c.indexes-indexes.ensures _ c.in_ok-texts.texts.items c.in_ok-lists.lists.items c.in_ok-rows.ensures
    (c.in_ok-of_tops.ensures ∙ ap (λ (w : List ℕ). map (spaces_at w) (all_tops xs)) c.as_slice-3.ensures.value) (c.in_ok-texts.ensures.few c.indexes-indexes.result.now c.indexes-indexes.ensures) (c.in_ok-texts.ensures.numbers c.indexes-indexes.result.now c.indexes-indexes.ensures)
    (subst (λ (w : List ℕ). AreLists c.in_ok-rows.rows.items w c.in_ok-lists.lists.items) c.as_slice-2.ensures.value
    (subst (λ (w : List SpaceRow). AreLists w c.as_slice-2.result.now c.in_ok-lists.lists.items) c.as_slice.ensures.value c.in_ok-lists.ensures)))
