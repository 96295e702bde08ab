use Rattle.std.proofs.Common.{◌-◌, length}
use Rattle.dwz_expr.specs.Gathering.{added}
use Rattle.dwz_layout.proofs.PartLemmas.{refused_parts}
use Rattle.dwz_layout.proofs.exprs.read_operands.Goals as goal

pub returns-in-Err-Refused : goal.returns-in-Err-Refused
returns-in-Err-Refused c =
    refused_parts (c.args.end - length c.args.bytes.now) c.args.bytes.now c.saturating_sub-at.result c.saturating_sub-at.ensures c.in-Err-Refused.field-0-0 c.in-Err-Refused.field-0
    c.in-Err-Refused.field-0-is
    (added c.clear.new.self.items c.read_into.new.operands.items) c.in-Err-Refused.ensures.found c.clear-in-Err-Refused.new.self.items c.clear-in-Err-Refused.ensures.items
