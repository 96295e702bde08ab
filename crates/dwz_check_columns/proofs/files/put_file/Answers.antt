use Rattle.std.proofs.Common.{◌++◌, ℕ, ap, ◌∙◌, arith}
use Rattle.dwz_check_index.specs.Both.{from_top}
use Rattle.dwz_def_cross.specs.Tops.{units_with_common}
use Rattle.dwz_imports.specs.Stored.{edges_of}
use Rattle.dwz_check_columns.specs.Drawn.{imports_among}
use Rattle.dwz_check_columns.specs.Shows.{beside}
use Rattle.dwz_check_columns.proofs.FileSides.{flags_long, keys_room, lone_room, no_lone, parts_room, said_long, says, steps_few, tops_room, units_room}
use Rattle.dwz_check_columns.proofs.files.put_file.Goals as goal

pub imports_of-requires : goal.imports_of-requires
imports_of-requires c = let r = c.requires.said in record { own = r.4.side.few; common = r.4.few }

pub put_nodes-requires : goal.put_nodes-requires
put_nodes-requires c =
    let r = c.requires.said in
    let s = c.args.side.now in
    let few = steps_few s r.0 r.1 r.2 r.4 in
    let next = c.requires.next in
    record {
      said = (r.0, from_top r.2, r.4.side);
      some = c.requires.some;
      room = omega (arith, few, next);
      flags = flags_long s r.0 r.1 r.2 r.4 c.as_slice.result.now (c.as_slice.ensures ∙ c.in_ok-imports.ensures.importing (beside r.0 r.1) (says s r.0 r.1 r.2 r.4));
    }

pub put_all-requires : goal.put_all-requires
put_all-requires c =
    let r = c.requires.said in
    let s = c.args.side.now in
    let are = c.in_ok-imports.ensures.units (beside r.0 r.1) (says s r.0 r.1 r.2 r.4) in
    record {
      said = (r.0, from_top r.2, r.4.side);
      none = no_lone s r.0 r.1 r.2 r.4;
      lone = lone_room s r.0 r.1 r.2 r.4 c.args.first.lone c.requires.lone;
      tops = tops_room s r.0 r.1 r.2 r.4 r.3;
      units = units_room s r.0 r.1 r.2 r.4 c.args.first.unit c.requires.unit;
      keys = keys_room s r.0 r.1 r.2 r.4 c.in_ok-imports.imports.units c.args.first.unit are c.requires.unit;
      own_parts = parts_room s r.0 r.1 r.2 r.4 c.in_ok-imports.imports.units c.args.first.unit are c.requires.unit;
      common_parts = parts_room s r.0 r.1 r.2 r.4 c.in_ok-imports.imports.units c.args.first.common are c.requires.common;
    }

pub returns : goal.returns
returns c = record {
  apart = c.in_ok-put_nodes.ensures.apart;
  next =
      (let r = c.requires.said in
      let few = steps_few c.args.side.now r.0 r.1 r.2 r.4 in
      let next = c.in_ok-put_nodes.ensures.next in
      (omega (arith, few, next), omega (arith, few, next)));
  nodes = λ said common top h. record {
    kept = c.in_ok-put_nodes.ensures.kept;
    tops = c.in_ok-put_nodes.ensures.tops said (from_top top) h.side;
    plain = c.in_ok-put_nodes.ensures.plain said (units_with_common (beside said common)) (from_top top) h.side
        (c.as_slice.ensures ∙ c.in_ok-imports.ensures.importing (beside said common) (says c.args.side.now said common top h));
    lone = c.in_ok-put_nodes.ensures.lone said (from_top top) h.side;
  };
  units = λ said common top h. record {
    units = c.in_ok-put_all.ensures.units said (from_top top) h.side;
    paths = c.in_ok-put_all.ensures.paths said (from_top top) h.side;
    imports = (
      c.in_ok-imports.imports.units,
      c.in_ok-imports.ensures.units (beside said common) (says c.args.side.now said common top h),
      c.in_ok-put_all.ensures.imports
          ∙ ap (λ (n : ℕ). c.args.units.now.imports.items ++ edges_of c.args.first.unit (imports_among n c.args.first.unit c.args.first.common c.in_ok-imports.imports.units)) (said_long c.args.side.now said (from_top top) h.side),
    );
  };
}
