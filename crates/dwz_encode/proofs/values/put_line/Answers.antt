use Rattle.dwz_encode.proofs.ValueLemmas.{put_line, put_mapped, put_none}
use Rattle.dwz_encode.proofs.values.put_line.Goals as goal

pub returns-in-None : goal.returns-in-None
returns-in-None c = λ n. rw c.in-None.is (put_none n c.args.out.now.items)

pub returns-in-Some : goal.returns-in-Some
returns-in-Some c = λ n. rw c.in-Some.is (put_mapped c.put_four.result (put_line n c.in-Some.line c.args.out.now.items c.put_four.new.out.items) c.put_four.ensures)
