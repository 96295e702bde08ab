use Rattle.dwz_forms.proofs.ReadingLemmas.{first_text}
use Rattle.dwz_forms.proofs.reading.text_len.Goals as goal

pub returns-clause-text : goal.returns-clause-text
returns-clause-text c = first_text c.args.bytes.now c.memchr.result c.memchr.ensures
