use Rattle.std.proofs.Common.{◌≡◌, ◌<◌, ◌+◌, ℕ, All, List, None, length, sym, ap, subst, ◌∙◌, arith}
use Rattle.dwz_def_reading.specs.Units.{entries_in}
use Rattle.dwz_def_tops.specs.Spots.{units_of}
use Rattle.dwz_check_index.specs.Both.{from_top}
use Rattle.dwz_check_labels.specs.FilesSaid.{around_given}
use Rattle.dwz_check_sides.proofs.NameTexts.{steps_long}
use Rattle.dwz_graph.specs.Files.{docs_of}
use Rattle.dwz_graph.specs.declared.file.File.{File}
use Rattle.dwz_groups.specs.declared.groups.Edge.{Edge}
use Rattle.dwz_groups.specs.Groups.{grouped}
use Rattle.dwz_groups.proofs.MarkLemmas.{grouped_length}
use Rattle.dwz_graph.proofs.FilesFew.{all_few}
use Rattle.dwz_unit.proofs.ShownLemmas.{units_few}
use Rattle.dwz_unit.specs.Rows.{units_of as raw_units}
use Rattle.dwz_takes.specs.Takes.{AreBelow}
use Rattle.dwz_reuse.specs.Spaces.{PutsSpaces}
use Rattle.dwz_reuse.proofs.CommonSpaces.{common_side, common_spaces, file_keys, file_tells, lists_low, names_shown, part_keys, part_tells, raw_long, spaces_keep}
use Rattle.dwz_reuse.proofs.names.space_names.Goals as goal

pub put_spaces-requires-clause-said : goal.put_spaces-requires-clause-said
put_spaces-requires-clause-said c =
    let contents = c.args.graph.now.given in
    let files = c.files-files.result.now in
    let kept = c.files-files.ensures in
    let f = c.args.common.now in
    let doc = c.requires.said.0 in
    let said = c.requires.said.1 in
    let s = c.side_of-side.result in
    let e = c.side_of-side.ensures in
    let side = common_side f doc.units said c.in_ok-index.index (c.in_ok-index.ensures.names (around_given f None) doc.units said.means) s e.0 e.1 e.2 in
    (doc.units, from_top 0, side)

pub put_spaces-requires-clause-room : goal.put_spaces-requires-clause-room
put_spaces-requires-clause-room c =
    let contents = c.args.graph.now.given in
    let files = c.files-files.result.now in
    let kept = c.files-files.ensures in
    let f = c.args.common.now in
    let doc = c.requires.said.0 in
    let said = c.requires.said.1 in
    let s = c.side_of-side.result in
    let e = c.side_of-side.ensures in
    let side = common_side f doc.units said c.in_ok-index.index (c.in_ok-index.ensures.names (around_given f None) doc.units said.means) s e.0 e.1 e.2 in
    let steps = steps_long s doc.units (from_top 0) side in
    let same = ap (λ (w : File). entries_in (raw_units w.units)) e.0 in
    let few = all_few contents files kept in
    let next = c.in_ok-next.ensures.next in
    let low = said.few in
    omega (arith, steps, same, few, next, low)

pub put_spaces-requires-clause-units : goal.put_spaces-requires-clause-units
put_spaces-requires-clause-units c =
    let contents = c.args.graph.now.given in
    let files = c.files-files.result.now in
    let kept = c.files-files.ensures in
    let f = c.args.common.now in
    let doc = c.requires.said.0 in
    let said = c.requires.said.1 in
    let s = c.side_of-side.result in
    let e = c.side_of-side.ensures in
    let side = common_side f doc.units said c.in_ok-index.index (c.in_ok-index.ensures.names (around_given f None) doc.units said.means) s e.0 e.1 e.2 in
    let same = ap (λ (w : File). length (raw_units w.units)) e.0 in
    let low = said.few in
    let units = units_few (raw_units f.units) in
    omega (arith, same, low, units)

pub group-requires : goal.group-requires
group-requires c =
    let contents = c.args.graph.now.given in
    let files = c.files-files.result.now in
    let kept = c.files-files.ensures in
    let f = c.args.common.now in
    let doc = c.requires.said.0 in
    let said = c.requires.said.1 in
    let s = c.side_of-side.result in
    let e = c.side_of-side.ensures in
    let side = common_side f doc.units said c.in_ok-index.index (c.in_ok-index.ensures.names (around_given f None) doc.units said.means) s e.0 e.1 e.2 in
    let edges = c.put_file_spaces.new.edges.items in
    let spaces = c.in_ok-next.ensures.spaces contents c.indexes.result.now kept c.indexes.ensures c.new-known.ensures c.new-edges.ensures.items in
    let units = units_of (docs_of contents) in
    subst (λ (w : List Edge). All (λ e. e.key < c.args.count) w) (sym c.as_slice-2.ensures.value)
    (file_keys c.put_file_spaces.new.known units (length units) edges spaces c.args.count c.requires.count)

pub group-requires-2 : goal.group-requires-2
group-requires-2 c =
    let contents = c.args.graph.now.given in
    let files = c.files-files.result.now in
    let kept = c.files-files.ensures in
    let f = c.args.common.now in
    let doc = c.requires.said.0 in
    let said = c.requires.said.1 in
    let s = c.side_of-side.result in
    let e = c.side_of-side.ensures in
    let side = common_side f doc.units said c.in_ok-index.index (c.in_ok-index.ensures.names (around_given f None) doc.units said.means) s e.0 e.1 e.2 in
    let more = c.put_spaces.new.edges.items in
    let apart = c.in_ok-next.ensures.apart c.new-known.ensures in
    let put = c.in_ok-put_spaces.ensures.edges doc.units (from_top 0) side apart in
    let long = raw_long f doc.units said in
    let room = c.requires.parts in
    subst (λ (w : List Edge). All (λ e. e.key < c.args.parts) w) (sym c.as_slice-3.ensures.value)
    (part_keys c.put_spaces.new.known doc.units more (subst (λ (w : List Edge). PutsSpaces c.put_spaces.new.known 0 doc.units w more) c.new-more.ensures.items put) c.args.parts (omega (arith, long, room)))

pub returns-clause-len : goal.returns-clause-len
returns-clause-len c = (
  ap (λ (w : List (List ℕ)). length w) c.in_ok-group.ensures ∙ grouped_length c.args.count c.as_slice-2.result.now,
  ap (λ (w : List (List ℕ)). length w) c.in_ok-group-2.ensures ∙ grouped_length c.args.parts c.as_slice-3.result.now,
)

pub returns-clause-names : goal.returns-clause-names
returns-clause-names c = λ doc said partial. (
    let contents = c.args.graph.now.given in
    let files = c.files-files.result.now in
    let kept = c.files-files.ensures in
    let f = c.args.common.now in
    let s = c.side_of-side.result in
    let e = c.side_of-side.ensures in
    let side = common_side f doc.units said c.in_ok-index.index (c.in_ok-index.ensures.names (around_given f None) doc.units said.means) s e.0 e.1 e.2 in
    let steps = steps_long s doc.units (from_top 0) side in
    let same = ap (λ (w : File). entries_in (raw_units w.units)) e.0 in
    let few = all_few contents files kept in
    let next = c.in_ok-next.ensures.next in
    let low = said.few in
    let long = raw_long f doc.units said in
    let room = c.requires.parts in
    let docs = docs_of contents in
    let units = units_of docs in
    let law = c.list_number_laws.ensures in
    let first = c.put_file_spaces.new.known in
    let known = c.put_spaces.new.known in
    let edges = c.put_file_spaces.new.edges.items in
    let more = c.put_spaces.new.edges.items in
    let apart = c.in_ok-next.ensures.apart c.new-known.ensures in
    let put = c.in_ok-put_spaces.ensures.edges doc.units (from_top 0) side apart in
    let spaces = c.in_ok-next.ensures.spaces contents c.indexes.result.now kept c.indexes.ensures c.new-known.ensures c.new-edges.ensures.items in
    names_shown docs doc partial law.one known (c.in_ok-next.next + length s.index.now.steps) (omega (arith, steps, same, few, next, low)) (c.in_ok-put_spaces.ensures.apart apart) edges more
    (spaces_keep law.kept first known c.in_ok-put_spaces.ensures.kept units (length units) edges spaces)
    (common_spaces docs doc partial law.kept known more (subst (λ (w : List Edge). PutsSpaces known 0 doc.units w more) c.new-more.ensures.items put)) c.args.count c.args.parts c.requires.count
    (omega (arith, long, room)) c.in_ok-group.field-0 c.in_ok-group-2.field-0 (c.in_ok-group.ensures ∙ ap (grouped c.args.count) c.as_slice-2.ensures.value)
    (c.in_ok-group-2.ensures ∙ ap (grouped c.args.parts) c.as_slice-3.ensures.value))

pub returns-clause-below : goal.returns-clause-below
returns-clause-below c =
    let doc = c.requires.said.0 in
    let said = c.requires.said.1 in
    let contents = c.args.graph.now.given in
    let files = c.files-files.result.now in
    let kept = c.files-files.ensures in
    let f = c.args.common.now in
    let s = c.side_of-side.result in
    let e = c.side_of-side.ensures in
    let side = common_side f doc.units said c.in_ok-index.index (c.in_ok-index.ensures.names (around_given f None) doc.units said.means) s e.0 e.1 e.2 in
    let steps = steps_long s doc.units (from_top 0) side in
    let same = ap (λ (w : File). entries_in (raw_units w.units)) e.0 in
    let few = all_few contents files kept in
    let next = c.in_ok-next.ensures.next in
    let low = said.few in
    let long = raw_long f doc.units said in
    let room = c.requires.parts in
    let docs = docs_of contents in
    let units = units_of docs in
    let law = c.list_number_laws.ensures in
    let first = c.put_file_spaces.new.known in
    let known = c.put_spaces.new.known in
    let edges = c.put_file_spaces.new.edges.items in
    let more = c.put_spaces.new.edges.items in
    let apart = c.in_ok-next.ensures.apart c.new-known.ensures in
    let put = c.in_ok-put_spaces.ensures.edges doc.units (from_top 0) side apart in
    let spaces = c.in_ok-next.ensures.spaces contents c.indexes.result.now kept c.indexes.ensures c.new-known.ensures c.new-edges.ensures.items in
    let many = c.entries.ensures in
    let bound = c.in_ok-next.next + length s.index.now.steps in
    let ends : bound ≡ c.in_ok-next.next + c.entries.result = omega (arith, steps, same, many) in
    let all = c.in_ok-put_spaces.ensures.apart apart in
    let some : 0 < bound = omega (arith, next) in
    let kept_spaces = spaces_keep law.kept first known c.in_ok-put_spaces.ensures.kept units (length units) edges spaces in
    let here = subst (λ (w : List Edge). PutsSpaces known 0 doc.units w more) c.new-more.ensures.items put in (
      subst (λ (n : ℕ). AreBelow n c.in_ok-group.field-0) ends
          (lists_low known bound some all edges (file_tells known units (length units) edges kept_spaces) c.args.count c.in_ok-group.field-0 (c.in_ok-group.ensures ∙ ap (grouped c.args.count) c.as_slice-2.ensures.value)),
      subst (λ (n : ℕ). AreBelow n c.in_ok-group-2.field-0) ends
          (lists_low known bound some all more (part_tells known doc.units more here) c.args.parts c.in_ok-group-2.field-0 (c.in_ok-group-2.ensures ∙ ap (grouped c.args.parts) c.as_slice-3.ensures.value)),
    )

pub overflow_add-result : goal.overflow_add-result
overflow_add-result c =
    let doc = c.requires.said.0 in
    let said = c.requires.said.1 in
    let contents = c.args.graph.now.given in
    let files = c.files-files.result.now in
    let kept = c.files-files.ensures in
    let f = c.args.common.now in
    let s = c.side_of-side.result in
    let e = c.side_of-side.ensures in
    let side = common_side f doc.units said c.in_ok-index.index (c.in_ok-index.ensures.names (around_given f None) doc.units said.means) s e.0 e.1 e.2 in
    let steps = steps_long s doc.units (from_top 0) side in
    let same = ap (λ (w : File). entries_in (raw_units w.units)) e.0 in
    let few = all_few contents files kept in
    let next = c.in_ok-next.ensures.next in
    let low = said.few in
    let many = c.entries.ensures in
    omega (arith, few, next, low, many)
