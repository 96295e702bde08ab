use Rattle.dwz_expand.specs.OneKnown.{stands_of}
use Rattle.dwz_expand_layout.specs.Laid.{layout_view}
use Rattle.dwz_expand.proofs.OneKept.{never, refused_so}
use Rattle.dwz_expand.proofs.SpokenTold.{first_of}
use Rattle.dwz_expand.proofs.narrow.first_narrow_copied.Goals as goal

pub unreachable-requires : goal.unreachable-requires
unreachable-requires c =
    let f = c.requires.copied.0 in
    let k = c.requires.copied.1 in
    never c.fault_laws.ensures.faults c.fault_laws.ensures.files f c.args.file.now k c.requires.copied.2 c.in-Err-Refused.field-0-0
    (refused_so c.args.file.now c.first_told.result c.in-Err-Refused.field-0 c.in-Err-Refused.field-0-0 c.in-Err-Refused.is c.in-Err-Refused.field-0-is c.first_told.ensures.refused k.w
    (stands_of f k.place) k.says)

pub returns-in-Ok : goal.returns-in-Ok
returns-in-Ok c = λ f k l. (let h = c.in-Ok.ensures.places in first_of f c.args.file.now k (layout_view c.args.layout.now) l h.0 h.1 c.in-Ok.places h.2)
