use Rattle.std.proofs.Common.{◌≡◌, ℕ, List, Option, None, length, ap, subst, sym, ◌∙◌, arith}
use Rattle.std.specs.Prelude.{IfSome, slice_index_or}
use Rattle.std.proofs.lemmas.List.{with_items_is}
use Rattle.dwz_def_tops.specs.Spots.{tops_of, units_of}
use Rattle.dwz_graph.specs.Files.{docs_of}
use Rattle.dwz_graph.proofs.FileLemmas.{files_few}
use Rattle.dwz_graph.proofs.IndexesThere.{indexes_there}
use Rattle.dwz_graph.specs.Across.{starts_at}
use Rattle.dwz_graph.proofs.FileCounts.{all_ends, are_many}
use Rattle.dwz_move_files.specs.declared.draft.Draft.{Draft}
use Rattle.dwz_move_files.specs.Drafts.{AreParts, IsFileDraft}
use Rattle.dwz_move_files.proofs.PartSteps.{file_parts}
use Rattle.dwz_move_files.proofs.parts.parts_of.Goals as goal

pub fill_slots-requires-clause-len : goal.fill_slots-requires-clause-len
fill_slots-requires-clause-len g c κs within =
    let many = files_few c.args.graph.now.given c.files.result.now c.files.ensures in
    omega (arith, many, c.in_ok-slots.ensures, c.in_ok-slots.slots.ok.0, ap (λ (w : List (Option Draft)). length w) c.as_mut_slice.ensures.value)

pub returns : goal.returns
returns g c = λ named. (
    let contents = c.args.graph.now.given in
    let docs = docs_of contents in
    let files = c.files.result.now in
    let there = indexes_there contents files c.files.ensures in
    let indexes = there.indexes in
    let many = are_many contents files indexes c.files.ensures there.are in
    let files_are = many.0 in
    let indexes_are = many.1 in
    let new : List (Option Draft) = c.fill_slots.new.slots in
    let len : length new ≡ length c.as_mut_slice.result.now = c.fill_slots.auto.slots in
    let slots = ap (λ (w : List (Option Draft)). length w) c.as_mut_slice.ensures.value in
    let asked = c.in_ok-slots.ensures in
    let kept = c.in_ok-slots.slots.ok.0 in
    let all : length new ≡ length indexes = omega arith in
    let each = c.fill_slots.ensures indexes there.are named in
    subst (λ (parts : List (Option Draft)). AreParts docs 0 (length (tops_of (units_of docs))) parts)
    (sym (with_items_is c.in_ok-slots.slots new (omega arith)))
    (file_parts docs indexes new (length (tops_of (units_of docs))) (ap (λ (n : ℕ). (starts_at docs indexes n).top) all ∙ (all_ends contents indexes there.are).1)
    (λ i n lt e. (
    let at : i ≡ n = omega arith in
    subst (λ (k : ℕ). IfSome (slice_index_or new i None) (IsFileDraft docs indexes k)) at (each i None (omega arith))))))
