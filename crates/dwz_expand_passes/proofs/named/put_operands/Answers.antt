use Rattle.std.proofs.Common.{ℕ, List, false, get_or, length, ap, arith}
use Rattle.std.proofs.lemmas.List.{length-append, length-map}
use Rattle.std.proofs.lemmas.Result.{err_from_is_err_and}
use Rattle.dwz_def_reading.specs.declared.exprs.Operand.{Operand}
use Rattle.dwz_model.specs.declared.place.Base.TheVariants.{Unit as FromUnit}
use Rattle.dwz_expand_passes.specs.Known.{place_named, raw_of}
use Rattle.dwz_expand_passes.proofs.OperandLemmas.{adds_err, added_all, added_next, got_or_default, ref_stands}
use Rattle.dwz_expand_passes.proofs.named.put_operands.Goals as goal

pub returns-in_err-put_operand : goal.returns-in_err-put_operand
returns-in_err-put_operand c = λ q places others fits among named many. (
    let d : Operand = record { at = 0; width = 0; uleb = false; base = FromUnit; number = 0 } in
    let x = c.args.x.now in
    let k = c.loop-k.k in
    let lt = c.loop-k-test.true in
    let min = c.min-count.ensures in
    let found = got_or_default c.args.read.now k d (omega (arith, lt, min)) in
    let j = get_or c.args.refs.now k 0 in
    let p = ref_stands x q c.args.refs.now places others k j fits among named (got_or_default c.args.refs.now k 0 (omega (arith, lt, min))) (omega (arith, lt, min, many)) in
    let e = err_from_is_err_and c.from_residual.result c.from_residual.ensures.1 in
    rw (e.1, e.2) (adds_err q c.args.read.now places k (get_or c.args.read.now k d) p.0 c.loop-k.operands.items c.put_operand.new.operands.items c.args.operands.now.items
    c.put_operand.new.operands.items c.in_err-put_operand.field-0.0 found p.1 (c.loop-k.invariant q places others fits among named many).1 (c.in_err-put_operand.ensures q p.0 fits p.2)))

pub loop-k-preserved : goal.loop-k-preserved
loop-k-preserved c = λ q places others fits among named many. (
    let d : Operand = record { at = 0; width = 0; uleb = false; base = FromUnit; number = 0 } in
    let x = c.args.x.now in
    let k = c.loop-k.k in
    let lt = c.loop-k-test.true in
    let min = c.min-count.ensures in
    let found = got_or_default c.args.read.now k d (omega (arith, lt, min)) in
    let j = get_or c.args.refs.now k 0 in
    let p = ref_stands x q c.args.refs.now places others k j fits among named (got_or_default c.args.refs.now k 0 (omega (arith, lt, min))) (omega (arith, lt, min, many)) in
    added_next q c.args.read.now places k (get_or c.args.read.now k d) p.0 c.args.operands.now.items c.loop-k.operands.items c.put_operand.new.operands.items found p.1
    (c.loop-k.invariant q places others fits among named many) (c.in_ok-put_operand.ensures q p.0 fits p.2))

pub returns : goal.returns
returns c = λ q places others fits among named many. (
    let le = c.loop-k-test.false in
    let min = c.min-count.ensures in
    let total = ap (λ (w : List ℕ). length w) named in
    let one = length-map c.args.refs.now (place_named q (raw_of c.args.x.now)) in
    let two = length-append places others in
    added_all q c.args.read.now places c.loop-k.k c.args.operands.now.items c.loop-k.operands.items (omega (arith, le, min, total, one, two, many)) many
    (c.loop-k.invariant q places others fits among named many))
