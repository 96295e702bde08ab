use Rattle.std.proofs.Common.{◌<◌, length, arith}
use Rattle.std.proofs.lemmas.Option.{slice_get-get_or}
use Rattle.dwz_def_reading.specs.Meanings.{text_sections_of}
use Rattle.dwz_unit.specs.Rows.{units_of}
use Rattle.dwz_def_encoding.specs.Pruned.{UnitStays}
use Rattle.dwz_graph_pruning.proofs.UnitLemmas.{left_all, left_fails, left_more, left_none}
use Rattle.dwz_graph_pruning.proofs.units.units_stay.Goals as goal

pub loop-n-init : goal.loop-n-init
loop-n-init c = λ around said means lines. left_all (UnitStays (text_sections_of around.sources) around.sources.line c.args.slots.now) around (units_of c.args.units.now) said means

pub bounds-lines-n : goal.bounds-lines-n
bounds-lines-n c = let many = c.requires.lines in let lt = c.loop-n-test.true in let count = c.len-n-end.ensures in omega (arith, many, lt, count)

pub returns-then-not-unit_stays : goal.returns-then-not-unit_stays
returns-then-not-unit_stays c = λ around said means lines. (
    let raw = units_of c.args.units.now in
    let lt : c.loop-n.n < length raw = (let a = c.loop-n-test.true in let b = c.len-n-end.ensures in omega (arith, a, b)) in
    let within : c.loop-n.n < length c.args.lines.now = (let many = c.requires.lines in omega (arith, many, lt)) in
    left_fails (UnitStays (text_sections_of around.sources) around.sources.line c.args.slots.now) around raw said means c.loop-n.n lt (c.loop-n.invariant around said means lines) c.unit_stays.result
    (λ u v is m. c.unit_stays.ensures around u v is m (lines.line c.loop-n.n u _ is (slice_get-get_or c.args.lines.now c.loop-n.n _ within))) c.if-not-unit_stays.true)

pub loop-n-preserved : goal.loop-n-preserved
loop-n-preserved c = λ around said means lines. (
    let raw = units_of c.args.units.now in
    let lt : c.loop-n.n < length raw = (let a = c.loop-n-test.true in let b = c.len-n-end.ensures in omega (arith, a, b)) in
    let within : c.loop-n.n < length c.args.lines.now = (let many = c.requires.lines in omega (arith, many, lt)) in
    left_more (UnitStays (text_sections_of around.sources) around.sources.line c.args.slots.now) around raw said means c.loop-n.n lt (c.loop-n.invariant around said means lines) c.unit_stays.result
    (λ u v is m. c.unit_stays.ensures around u v is m (lines.line c.loop-n.n u _ is (slice_get-get_or c.args.lines.now c.loop-n.n _ within))) c.if-not-unit_stays.false)

pub returns : goal.returns
returns c = λ around said means lines.
    left_none (UnitStays (text_sections_of around.sources) around.sources.line c.args.slots.now) around (units_of c.args.units.now) said means c.loop-n.n
    (let a = c.loop-n-test.false in let b = c.len-n-end.ensures in omega (arith, a, b))
    (c.loop-n.invariant around said means lines)
