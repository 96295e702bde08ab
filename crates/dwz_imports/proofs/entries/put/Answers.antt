use Rattle.dwz_imports.proofs.NamedParts.{put_some}
use Rattle.dwz_imports.proofs.entries.put.Goals as goal

pub returns-in_ok-push : goal.returns-in_ok-push
returns-in_ok-push c = put_some c.args.parts.now.items c.push.new.self.items c.in-Some.part c.args.part c.in-Some.is c.in_ok-push.ensures.items
