use Rattle.std.proofs.Common.{◌+◌, ℕ, length, refl, sym, subst, ◌∙◌, arith}
use Rattle.dwz_def_check.specs.CrossNames.{cross_tops}
use Rattle.dwz_check_sides.specs.Names.{AreApart}
use Rattle.dwz_check_columns.proofs.FileSides.{file_long}
use Rattle.dwz_check_columns.proofs.NonePut.{index_behind}
use Rattle.dwz_check_columns.proofs.ThreeFiles.{behind, common_side, common_top, new_file, new_lone_low, old_file, old_lone_low, second_top, units_low}
use Rattle.dwz_check_columns.proofs.columns.draft_of.Goals as goal

pub overflow_add-behind : goal.overflow_add-behind
overflow_add-behind c =
    let r = c.requires.said in
    let low = units_low c.args.old.now c.args.new.now c.args.common c.args.indexes.now r.0 r.1 r.2 r.3 c.requires.old c.requires.new c.requires.common in
    let m = c.len.ensures in
    let n = c.len-2.ensures in
    omega (arith, low, m, n)

pub put_file-requires : goal.put_file-requires
put_file-requires c =
    let r = c.requires.said in
    let low = units_low c.args.old.now c.args.new.now c.args.common c.args.indexes.now r.0 r.1 r.2 r.3 c.requires.old c.requires.new c.requires.common in
    let m = c.len.ensures in
    let n = c.len-2.ensures in
    let next = c.new-nodes.ensures.next in
    record {
      said = (
        r.0,
        r.2,
        0,
        omega arith,
        old_file c.args.old.now c.args.new.now c.args.common c.args.indexes.now r.0 r.1 r.2 r.3 c.requires.old c.requires.new c.requires.common c.args.old _ refl refl,
      );
      some = omega (arith, next);
      next = omega (arith, next);
      unit = omega arith;
      lone = old_lone_low c.args.old.now c.args.new.now c.args.common c.args.indexes.now r.0 r.1 r.2 r.3 c.requires.old c.requires.new c.requires.common;
      common = omega (arith, low, m, n);
    }

pub put_file-requires-2 : goal.put_file-requires-2
put_file-requires-2 c =
    let r = c.requires.said in
    let low = units_low c.args.old.now c.args.new.now c.args.common c.args.indexes.now r.0 r.1 r.2 r.3 c.requires.old c.requires.new c.requires.common in
    let m = c.len.ensures in
    let n = c.len-2.ensures in
    let k = c.len-3.ensures in
    let first = c.new-nodes.ensures.next in
    let next = c.in_ok-put_file.ensures.next in
    record {
      said = (
        r.1,
        r.2,
        length (cross_tops r.0),
        second_top c.args.old.now c.args.new.now c.args.common c.args.indexes.now r.0 r.1 r.2 r.3 c.requires.old c.requires.new c.requires.common,
        new_file c.args.old.now c.args.new.now c.args.common c.args.indexes.now r.0 r.1 r.2 r.3 c.requires.old c.requires.new c.requires.common c.args.new _ refl refl,
      );
      some = omega (arith, first, next);
      next = omega (arith, first, next);
      unit = omega (arith, low, m, n, k);
      lone = new_lone_low c.args.old.now c.args.new.now c.args.common c.args.indexes.now r.0 r.1 r.2 r.3 c.requires.old c.requires.new c.requires.common;
      common = omega (arith, low, m, n);
    }

pub put_common-requires : goal.put_common-requires
put_common-requires c =
    let r = c.requires.said in
    let low = units_low c.args.old.now c.args.new.now c.args.common c.args.indexes.now r.0 r.1 r.2 r.3 c.requires.old c.requires.new c.requires.common in
    let m = c.len.ensures in
    let n = c.len-2.ensures in
    let first = c.new-nodes.ensures.next in
    let next = c.in_ok-put_file.ensures.next in
    let more = c.in_ok-put_file-2.ensures.next in
    record {
      said = (
        r.2,
        length (cross_tops r.0) + length (cross_tops r.1),
        common_top c.args.old.now c.args.new.now c.args.common c.args.indexes.now r.0 r.1 r.2 r.3 c.requires.old c.requires.new c.requires.common,
        common_side c.args.old.now c.args.new.now c.args.common c.args.indexes.now r.0 r.1 r.2 r.3 c.requires.old c.requires.new c.requires.common (index_behind c.as_ref-index.result) c.as_ref-index.ensures.value,
      );
      few = c.requires.common;
      some = omega (arith, first, next, more);
      next = omega (arith, first, next, more);
      unit = omega (arith, low, m, n);
      lone = omega arith;
      common = omega (arith, low, m, n);
    }

pub returns-clause-apart : goal.returns-clause-apart
returns-clause-apart c =
    c.in_ok-put_common.ensures.apart (c.in_ok-put_file-2.ensures.apart (c.in_ok-put_file.ensures.apart
    (subst (λ (n : ℕ). AreApart c.new-nodes.result.lists n) (sym c.new-nodes.ensures.next) c.new-nodes.ensures.lists)))

pub returns-clause-few : goal.returns-clause-few
returns-clause-few c =
    let first = c.new-nodes.ensures.next in
    let next = c.in_ok-put_file.ensures.next in
    let more = c.in_ok-put_file-2.ensures.next in
    let last = c.in_ok-put_common.ensures.next in
    omega (arith, first, next, more, last)

pub returns-clause-three : goal.returns-clause-three
returns-clause-three c = λ a b d t. (
    let shared = common_side c.args.old.now c.args.new.now c.args.common c.args.indexes.now a b d t c.requires.old c.requires.new c.requires.common (index_behind c.as_ref-index.result) c.as_ref-index.ensures.value in
    let top = length (cross_tops a) + length (cross_tops b) in
    let many = file_long c.args.old.now (behind c.args.common) a t.old_says in
    let more = file_long c.args.new.now (behind c.args.common) b t.new_says in
    record {
      n0 = c.new-nodes.result;
      n1 = c.put_file.new.nodes;
      n2 = c.put_file-2.new.nodes;
      none_tops = c.new-nodes.ensures.tops;
      none_plain = c.new-nodes.ensures.plain;
      none_lone = c.new-nodes.ensures.lone;
      old_nodes = c.in_ok-put_file.ensures.nodes a d 0 (old_file c.args.old.now c.args.new.now c.args.common c.args.indexes.now a b d t c.requires.old c.requires.new c.requires.common c.args.old _ refl refl);
      new_nodes = c.in_ok-put_file-2.ensures.nodes b d (length (cross_tops a))
          (new_file c.args.old.now c.args.new.now c.args.common c.args.indexes.now a b d t c.requires.old c.requires.new c.requires.common c.args.new _ refl refl);
      common_nodes = c.in_ok-put_common.ensures.nodes d top shared;
      behind = c.len.result + c.len-2.result;
      behind_is = (λ i. (c.len.ensures ∙ many) i + (c.len-2.ensures ∙ more) i);
      from = c.len-3.result;
      from_is = c.len-3.ensures ∙ many;
      old_lone = c.args.indexes.now.old_lone;
      old_lone_is = t.indexed.old_lone;
      new_lone = c.args.indexes.now.new_lone;
      new_lone_is = t.indexed.new_lone;
      u0 = c.new-units.result;
      u1 = c.put_file.new.units;
      u2 = c.put_file-2.new.units;
      none_units = c.new-units.ensures.units;
      none_paths = c.new-units.ensures.paths;
      none_imports = c.new-units.ensures.imports;
      old_units = c.in_ok-put_file.ensures.units a d 0 (old_file c.args.old.now c.args.new.now c.args.common c.args.indexes.now a b d t c.requires.old c.requires.new c.requires.common c.args.old _ refl refl);
      new_units = c.in_ok-put_file-2.ensures.units b d (length (cross_tops a))
          (new_file c.args.old.now c.args.new.now c.args.common c.args.indexes.now a b d t c.requires.old c.requires.new c.requires.common c.args.new _ refl refl);
      common_units = c.in_ok-put_common.ensures.units d top shared;
    })
