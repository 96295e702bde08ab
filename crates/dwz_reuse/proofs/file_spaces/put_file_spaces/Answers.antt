use Rattle.std.proofs.Common.{◌≡◌, ◌+◌, ℕ, length, sym, ap, subst, ◌∙◌, arith}
use Rattle.dwz_def_reading.specs.Units.{entries_in}
use Rattle.dwz_def_reading.proofs.ListFacts.{item_got}
use Rattle.dwz_def_tops.specs.Spots.{units_of}
use Rattle.dwz_check_index.specs.Both.{from_top}
use Rattle.dwz_check_sides.specs.Names.{AreApart}
use Rattle.dwz_check_sides.proofs.NameTexts.{steps_long}
use Rattle.dwz_graph.specs.Files.{docs_of}
use Rattle.dwz_graph.specs.declared.file.File.{File}
use Rattle.dwz_graph.proofs.FilesFew.{all_few}
use Rattle.dwz_graph.specs.Across.{starts_at}
use Rattle.dwz_unit.specs.Rows.{units_of as raw_units}
use Rattle.dwz_reuse.specs.FileSpaces.{AreUnitSpaces}
use Rattle.dwz_reuse.proofs.SpaceFiles.{doc, file_next, files_end, none_entries, none_yet, room_at, side_is, taken_more, unit_next, unit_zero, units_low}
use Rattle.dwz_reuse.proofs.file_spaces.put_file_spaces.Goals as goal

pub loop-number-init : goal.loop-number-init
loop-number-init c = record {
  next_is = none_entries c.args.files.now;
  first_low = omega arith;
  first_is = λ contents all kept is. sym (unit_zero (docs_of contents) all);
  apart = λ a. a;
  spaces = λ contents all kept is a none. none_yet c.args.known.now (units_of (docs_of contents)) (starts_at (docs_of contents) all 0).unit c.args.edges.now.items (unit_zero (docs_of contents) all) none;
}

pub put_spaces-requires-clause-said : goal.put_spaces-requires-clause-said
put_spaces-requires-clause-said c =
    let r = c.requires in
    let k = c.loop-number.number in
    let files = c.args.files.now in
    let f = c.index-files-number.result in
    let fe = item_got files k f c.loop-number-test.true c.index-files-number.is in
    let xe = item_got c.args.indexes.now k c.index-indexes-number.result (let long = r.4.long in omega (arith, long)) c.index-indexes-number.is in
    let s = c.side_of-side.result in
    let e = c.side_of-side.ensures in
    let side = side_is r.0 files r.1 r.2 r.3 k f fe c.args.indexes.now c.index-indexes-number.result r.4 xe s e.0 e.1 e.2 in
    ((doc r.0 files r.1 r.2 r.3 k f fe).units, from_top 0, side)

pub put_spaces-requires-clause-room : goal.put_spaces-requires-clause-room
put_spaces-requires-clause-room c =
    let r = c.requires in
    let k = c.loop-number.number in
    let files = c.args.files.now in
    let f = c.index-files-number.result in
    let fe = item_got files k f c.loop-number-test.true c.index-files-number.is in
    let xe = item_got c.args.indexes.now k c.index-indexes-number.result (let long = r.4.long in omega (arith, long)) c.index-indexes-number.is in
    let s = c.side_of-side.result in
    let e = c.side_of-side.ensures in
    let side = side_is r.0 files r.1 r.2 r.3 k f fe c.args.indexes.now c.index-indexes-number.result r.4 xe s e.0 e.1 e.2 in
    let steps = steps_long s (doc r.0 files r.1 r.2 r.3 k f fe).units (from_top 0) side in
    let same = ap (λ (w : File). entries_in (raw_units w.units)) e.0 in
    let fits = room_at files k f fe (all_few r.0 files r.2) in
    let now = c.loop-number.invariant.next_is in
    omega (arith, steps, same, fits, now)

pub put_spaces-requires-clause-units : goal.put_spaces-requires-clause-units
put_spaces-requires-clause-units c =
    let r = c.requires in
    let k = c.loop-number.number in
    let files = c.args.files.now in
    let f = c.index-files-number.result in
    let fe = item_got files k f c.loop-number-test.true c.index-files-number.is in
    let same = ap (λ (w : File). length (raw_units w.units)) c.side_of-side.ensures.0 in
    let fits = room_at files k f fe (all_few r.0 files r.2) in
    let units = units_low files k f fe (all_few r.0 files r.2) in
    let now = c.loop-number.invariant.first_low in
    omega (arith, same, fits, units, now)

pub overflow_add-next : goal.overflow_add-next
overflow_add-next c =
    let r = c.requires in
    let k = c.loop-number.number in
    let files = c.args.files.now in
    let f = c.index-files-number.result in
    let fe = item_got files k f c.loop-number-test.true c.index-files-number.is in
    let fits = room_at files k f fe (all_few r.0 files r.2) in
    let now = c.loop-number.invariant.next_is in
    let many = c.entries-next.ensures in
    omega (arith, fits, now, many)

pub overflow_add-first : goal.overflow_add-first
overflow_add-first c =
    let r = c.requires in
    let k = c.loop-number.number in
    let files = c.args.files.now in
    let f = c.index-files-number.result in
    let fe = item_got files k f c.loop-number-test.true c.index-files-number.is in
    let fits = room_at files k f fe (all_few r.0 files r.2) in
    let units = units_low files k f fe (all_few r.0 files r.2) in
    let now = c.loop-number.invariant.first_low in
    let many = c.len-first.ensures in
    omega (arith, fits, units, now, many)

pub loop-number-preserved : goal.loop-number-preserved
loop-number-preserved c =
    let r = c.requires in
    let k = c.loop-number.number in
    let files = c.args.files.now in
    let f = c.index-files-number.result in
    let fe = item_got files k f c.loop-number-test.true c.index-files-number.is in
    let xe = item_got c.args.indexes.now k c.index-indexes-number.result (let long = r.4.long in omega (arith, long)) c.index-indexes-number.is in
    let s = c.side_of-side.result in
    let e = c.side_of-side.ensures in
    let side = side_is r.0 files r.1 r.2 r.3 k f fe c.args.indexes.now c.index-indexes-number.result r.4 xe s e.0 e.1 e.2 in
    let steps = steps_long s (doc r.0 files r.1 r.2 r.3 k f fe).units (from_top 0) side ∙ ap (λ (w : File). entries_in (raw_units w.units)) e.0 in
    let units = units_low files k f fe (all_few r.0 files r.2) in
    let more = taken_more files k f fe in
    let now = c.loop-number.invariant in
    let next = now.next_is in
    let low = now.first_low in
    let entries = c.entries-next.ensures in
    let many = c.len-first.ensures in
    let put = c.in_ok-put_spaces.ensures in
    record {
      next_is = omega (arith, next, more, entries);
      first_low = omega (arith, low, more, units, many);
      first_is = λ contents all kept is. (
          let here = now.first_is contents all kept is in
          let later = unit_next contents files all kept is k f fe in
          omega (arith, here, later, many));
      apart = λ a. (
          let high : c.loop-number.next + length s.index.now.steps ≡ c.loop-number.next + c.entries-next.result = omega (arith, steps, entries) in
          subst (λ (n : ℕ). AreApart c.put_spaces.new.known n) high (put.apart (now.apart a)));
      spaces = λ contents all kept is a none. (
          let xs = c.args.indexes.now in
          let own = side_is contents files all kept is k f fe xs c.index-indexes-number.result r.4 xe s e.0 e.1 e.2 in
          file_next contents files all kept is k f fe c.list_number_laws.ensures.kept c.loop-number.known c.put_spaces.new.known put.kept c.loop-number.first (now.first_is contents all kept is)
          c.loop-number.edges.items c.put_spaces.new.edges.items (now.spaces contents all kept is a none)
          (put.edges (doc contents files all kept is k f fe).units (from_top 0) own (now.apart a)));
    }

pub returns-clause-spaces : goal.returns-clause-spaces
returns-clause-spaces c = λ contents all kept is a none. (
    let files = c.args.files.now in
    let k = c.loop-number.number in
    subst (λ (n : ℕ). AreUnitSpaces c.loop-number.known (units_of (docs_of contents)) n c.loop-number.edges.items) (files_end contents files all k kept is (omega arith) (omega arith))
    (c.loop-number.invariant.spaces contents all kept is a none))
