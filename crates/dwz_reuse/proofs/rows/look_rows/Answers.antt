use Rattle.std.proofs.Common.{◌≡◌, ◌↔◌, ℕ, List, length, sym, ap, subst, ◌∙◌, arith}
use Rattle.std.proofs.lemmas.List.{length-map}
use Rattle.dwz_model.specs.Lists.{In}
use Rattle.dwz_model.proofs.Members.{in_map_from}
use Rattle.dwz_def_taken.specs.Beside.{look_units, reused_of}
use Rattle.dwz_def_taken.proofs.LookTops.{own_unit}
use Rattle.dwz_def_taken.proofs.NamesOver.{named_over}
use Rattle.dwz_def_taken.proofs.PlaceLemmas.{whole}
use Rattle.dwz_def_tops.specs.Spots.{Top, tops_of, units_of}
use Rattle.dwz_graph.specs.Files.{docs_of}
use Rattle.dwz_graph.proofs.FilesFew.{all_small}
use Rattle.dwz_match.specs.RowLaws.{HaveTops}
use Rattle.dwz_match.specs.Units.{MovesIn}
use Rattle.dwz_reuse.proofs.LeastLow.{least_low}
use Rattle.dwz_reuse.proofs.TopFiles.{rows_many}
use Rattle.dwz_takes.specs.declared.rows.Rows.{Rows}
use Rattle.dwz_takes.specs.Takes.{AreBelow, list_at}
use Rattle.dwz_match.specs.Parts.{HavePartTops}
use Rattle.dwz_reuse.proofs.LookSizes.{classes_many, cross_few, parts_low, parts_many, raw_few, units_many}
use Rattle.dwz_reuse.proofs.SpaceRows.{spaces_law}
use Rattle.dwz_reuse.proofs.rows.look_rows.Goals as goal

pub unit_tops-requires-clause-movable : goal.unit_tops-requires-clause-movable
unit_tops-requires-clause-movable c =
    let tops = tops_of (units_of (docs_of c.args.graph.now.given)) in
    let made = c.as_slice.ensures.value ∙ c.in_ok-of_tops.ensures (docs_of c.args.graph.now.given) c.requires.tops.shows in
    c.requires.flags.len ∙ sym (ap (λ (w : List ℕ). length w) made ∙ length-map tops (λ (t : Top). t.unit))

pub unit_tops-requires-clause-few : goal.unit_tops-requires-clause-few
unit_tops-requires-clause-few c =
    let tops = tops_of (units_of (docs_of c.args.graph.now.given)) in
    let made = c.as_slice.ensures.value ∙ c.in_ok-of_tops.ensures (docs_of c.args.graph.now.given) c.requires.tops.shows in
    let long = ap (λ (w : List ℕ). length w) made ∙ length-map tops (λ (t : Top). t.unit) in
    let small = (all_small c.args.graph.now.given c.files.result.now c.indexes.result.now c.files.ensures c.indexes.ensures).tops in
    omega (arith, long, small)

pub unit_tops-requires-clause-units : goal.unit_tops-requires-clause-units
unit_tops-requires-clause-units c = λ u i. (
    let docs = docs_of c.args.graph.now.given in
    let tops = tops_of (units_of docs) in
    let doc = c.requires.beside.0 in
    let b = c.requires.beside.1 in
    let r = reused_of docs doc in
    let made = c.as_slice.ensures.value ∙ c.in_ok-of_tops.ensures docs c.requires.tops.shows in
    let o = in_map_from (λ (t : Top). t.unit) u tops (subst (λ (w : List ℕ). In u w) made i) in
    let low = own_unit r (whole r (named_over docs doc b.placed)) o.source o.there in
    let same : o.source.unit ≡ u = o.is in
    let many = ap (λ (w : List ℕ). length w) c.requires.tops.shows.files_of_units ∙ length-map (units_of docs) (λ f. f.file) in
    let len = c.len.ensures in
    omega (arith, low, same, many, len))

pub space_names-requires-clause-said : goal.space_names-requires-clause-said
space_names-requires-clause-said c = (c.requires.beside.0, c.requires.beside.1.read.said)

pub tops_of_parts-requires-clause-said : goal.tops_of_parts-requires-clause-said
tops_of_parts-requires-clause-said c = (c.requires.beside.0, c.requires.beside.1.read)

pub part_targets-requires-clause-said : goal.part_targets-requires-clause-said
part_targets-requires-clause-said c = (c.requires.beside.0, c.requires.beside.1.read)

pub overflow_add-units : goal.overflow_add-units
overflow_add-units c =
    let docs = docs_of c.args.graph.now.given in
    let small = (all_small c.args.graph.now.given c.files.result.now c.indexes.result.now c.files.ensures c.indexes.ensures).units in
    let many = ap (λ (w : List ℕ). length w) c.requires.tops.shows.files_of_units ∙ length-map (units_of docs) (λ f. f.file) in
    let raw = raw_few c.args.graph.now.given c.args.common.now c.requires.beside.0 c.requires.beside.1 in
    let a = c.len.ensures in
    let b = c.len-parts.ensures in
    omega (arith, small, many, raw, a, b)

pub overflow_cast-len : goal.overflow_cast-len
overflow_cast-len c =
    let docs = docs_of c.args.graph.now.given in
    let small = (all_small c.args.graph.now.given c.files.result.now c.indexes.result.now c.files.ensures c.indexes.ensures).tops in
    let many = rows_many docs (units_of docs) c.args.tops.now.rows (tops_of (units_of docs)) c.requires.tops.shows.rows in
    let len = c.len-2.ensures in
    omega (arith, small, many, len)

pub tops_of_parts-requires-clause-few : goal.tops_of_parts-requires-clause-few
tops_of_parts-requires-clause-few c =
    let docs = docs_of c.args.graph.now.given in
    let small = (all_small c.args.graph.now.given c.files.result.now c.indexes.result.now c.files.ensures c.indexes.ensures).tops in
    let many = rows_many docs (units_of docs) c.args.tops.now.rows (tops_of (units_of docs)) c.requires.tops.shows.rows in
    let len = c.len-2.ensures in
    omega (arith, small, many, len)

pub returns-clause-rows : goal.returns-clause-rows
returns-clause-rows c =
    let contents = c.args.graph.now.given in
    let docs = docs_of contents in
    let f = c.args.common.now in
    let doc = c.requires.beside.0 in
    let b = c.requires.beside.1 in
    let least = c.requires.beside.2 in
    let r = reused_of docs doc in
    let classes = c.args.classes in
    let tops = tops_of (units_of docs) in
    let made = c.as_slice.ensures.value ∙ c.in_ok-of_tops.ensures docs c.requires.tops.shows in
    let long = ap (λ (w : List ℕ). length w) made ∙ length-map tops (λ (t : Top). t.unit) in
    let small = all_small contents c.files.result.now c.indexes.result.now c.files.ensures c.indexes.ensures in
    let few_units = small.units in
    let few_tops = small.tops in
    let many = classes_many contents f doc b classes least in
    let cross = cross_few contents f doc b in
    let raw = raw_few contents f doc b in
    let parts = parts_many contents f doc b in
    let rows = rows_many docs (units_of docs) c.args.tops.now.rows tops c.requires.tops.shows.rows in
    let len = c.len-2.ensures in
    let part_tops : HavePartTops r c.in_ok-part_tops.part_tops = c.in_ok-part_tops.ensures docs doc b.read (omega (arith, rows, len)) in
    let parts_long = part_tops.len in
    let own = c.len-parts.ensures in
    let stored : c.len-parts.result ≡ length c.in_ok-part_tops.part_tops = omega (arith, own, parts, parts_long) in
    let files = ap (λ (w : List ℕ). length w) c.requires.tops.shows.files_of_units ∙ length-map (units_of docs) (λ x. x.file) in
    let units = c.len.ensures in
    let unit_tops = c.in_ok-unit_tops.ensures.len in
    record {
      classes = least_low (look_units r) classes least;
      unit_tops = λ u t i. (let m = ((c.in_ok-unit_tops.ensures.each u t).0 i).there in omega (arith, m, long, many));
      unit_names = c.in_ok-names.ensures.below.0;
      part_tops = parts_low contents f doc b classes least c.in_ok-part_tops.part_tops part_tops;
      part_names = c.in_ok-names.ensures.below.1;
      part_targets = subst (λ (n : ℕ). AreBelow n c.in_ok-part_targets.part_targets) stored c.in_ok-part_targets.ensures.below;
      units = c.in_ok-names.ensures.len.0 ∙ sym unit_tops;
      names = c.in_ok-names.ensures.len.1 ∙ stored;
      targets = c.in_ok-part_targets.ensures.len ∙ stored;
      few_tops = omega (arith, many, cross, few_tops);
      few_units = omega (arith, unit_tops, units, files, few_units, own, raw);
      few_parts = omega (arith, stored, own, raw);
    }

pub returns-clause-apart : goal.returns-clause-apart
returns-clause-apart c = λ u v t i j. sym ((c.in_ok-unit_tops.ensures.each u t).0 i).unit ∙ ((c.in_ok-unit_tops.ensures.each v t).0 j).unit

pub returns-clause-shown : goal.returns-clause-shown
returns-clause-shown c = λ doc b least. (
    let contents = c.args.graph.now.given in
    let docs = docs_of contents in
    let f = c.args.common.now in
    let r = reused_of docs doc in
    let movable = c.args.movable.now in
    let tops = tops_of (units_of docs) in
    let made = c.as_slice.ensures.value ∙ c.in_ok-of_tops.ensures docs c.requires.tops.shows in
    let many = rows_many docs (units_of docs) c.args.tops.now.rows tops c.requires.tops.shows.rows in
    let len = c.len-2.ensures in
    let rows : Rows = record {
      classes = c.args.classes;
      unit_tops = c.in_ok-unit_tops.unit_tops;
      unit_names = c.in_ok-names.names.units;
      part_tops = c.in_ok-part_tops.part_tops;
      part_names = c.in_ok-names.names.parts;
      part_targets = c.in_ok-part_targets.part_targets;
      names = c.in_ok-names.names.names;
    } in
    let names = c.in_ok-names.ensures.names doc b.read.said b.read.partial in
    let have : HaveTops docs doc movable rows = record {
      flags = c.requires.flags;
      classes = least;
      unit_tops = λ u t. subst (λ (w : List ℕ). In t (list_at c.in_ok-unit_tops.unit_tops u) ↔ MovesIn w movable u t) made (c.in_ok-unit_tops.ensures.each u t);
      part_tops = c.in_ok-part_tops.ensures docs doc b.read (omega (arith, many, len));
    } in
    let files = ap (λ (w : List ℕ). length w) c.requires.tops.shows.files_of_units ∙ length-map (units_of docs) (λ x. x.file) in
    let units = c.len.ensures in
    let own = c.len-parts.ensures in
    let all = units_many contents f doc b in
    let unit_tops = c.in_ok-unit_tops.ensures.len in
    record {
      name = names.name;
      tops = have;
      spaces = spaces_law docs doc movable rows names have (c.in_ok-part_targets.ensures.refers docs doc b.read);
      units = omega (arith, files, units, own, all, unit_tops);
    })
