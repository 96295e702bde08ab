use Rattle.dwz_expand.specs.OneKnown.{stands_of}
use Rattle.dwz_expand_layout.specs.Laid.{layout_view}
use Rattle.dwz_expand.proofs.OneKept.{laid_of, never, refused_so}
use Rattle.dwz_expand.proofs.units.laid.Goals as goal

pub unreachable-requires : goal.unreachable-requires
unreachable-requires c =
    let f = c.requires.copied.0 in
    let k = c.requires.copied.1 in
    never c.fault_laws.ensures.faults c.fault_laws.ensures.files f c.args.file.now k c.requires.copied.2 c.in-Err-Refused.field-0-0
    (refused_so c.args.file.now c.lay.result c.in-Err-Refused.field-0 c.in-Err-Refused.field-0-0 c.in-Err-Refused.is c.in-Err-Refused.field-0-is c.lay.ensures.refused k.w (stands_of f k.place) k.says)

pub returns-in-Ok : goal.returns-in-Ok
returns-in-Ok c = λ f k. laid_of c.file_laws.ensures f c.args.file.now k (layout_view c.in-Ok.layout) c.in-Ok.ensures.lays
