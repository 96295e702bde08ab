use Rattle.std.proofs.Common.{refl}
use Rattle.dwz_expand_passes.proofs.KindLemmas.{compile_shows, raw_unit, type_shows}
use Rattle.dwz_expand_passes.proofs.kinds.kind_of.Goals as goal
use Rattle.dwz_expand_passes.specs.Files.{common_of, around_beside, raw_in}
use Rattle.dwz_graph.proofs.UnitBuilding.{kind_is}

pub returns-then-read-eq-DW_UT_COMPILE : goal.returns-then-read-eq-DW_UT_COMPILE
returns-then-read-eq-DW_UT_COMPILE c = λ w stands u says found whole. (
    let f = c.args.file.now in
    let raw = raw_in f.own in
    let around = around_beside f.own (common_of f.common) in
    let r = raw_unit w raw around says.own.means refl c.args.unit u c.requires.unit found in
    compile_shows w around r.0 u c.args.copies.now.unit c.unit-read.result (kind_is raw c.args.unit c.unit-read.result r.0 c.unit-read.ensures r.1) c.if-read-eq-DW_UT_COMPILE.true r.2)

pub returns : goal.returns
returns c = λ w stands u says found whole. (
    let f = c.args.file.now in
    let raw = raw_in f.own in
    let around = around_beside f.own (common_of f.common) in
    let r = raw_unit w raw around says.own.means refl c.args.unit u c.requires.unit found in
    type_shows w says.apart around refl r.0 u c.args.copies.now.unit c.unit-read.result c.main_copy.result (kind_is raw c.args.unit c.unit-read.result r.0 c.unit-read.ensures r.1)
    c.if-read-eq-DW_UT_COMPILE.false r.2 whole (λ signature k is there. c.main_copy.ensures w stands u signature k says found is there))
