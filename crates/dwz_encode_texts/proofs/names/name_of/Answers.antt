use Rattle.std.proofs.Common.{◌∙◌, ap}
use Rattle.dwz_encode_texts.specs.Names.{named_text}
use Rattle.dwz_encode_texts.proofs.names.name_of.Goals as goal

pub returns-in-Some : goal.returns-in-Some
returns-in-Some c = λ row found. c.own_text.ensures ∙ ap (named_text c.args.offsets.now c.args.base) (c.in-Some.ensures.first row found)

pub returns-in-None : goal.returns-in-None
returns-in-None c = λ row found. ap (named_text c.args.offsets.now c.args.base) (c.in-None.ensures.first row found)
