use Rattle.dwz_encode_texts.proofs.MovedUses.{entry_moved, text_moved}
use Rattle.dwz_encode_texts.proofs.MovedNames.{name_moved}
use Rattle.dwz_encode_texts.proofs.NamedUses.{after_uses, named_uses}
use Rattle.dwz_encode_texts.proofs.ShownUses.{shown_uses}
use Rattle.dwz_encode_texts.proofs.SlotUses.{slot_uses}
use Rattle.dwz_encode_texts.proofs.text_uses.use_laws.Goals as goal

pub returns-clause-shown : goal.returns-clause-shown
returns-clause-shown c = shown_uses

pub returns-clause-named : goal.returns-clause-named
returns-clause-named c = named_uses

pub returns-clause-after : goal.returns-clause-after
returns-clause-after c = after_uses

pub returns-clause-text : goal.returns-clause-text
returns-clause-text c = text_moved

pub returns-clause-entry : goal.returns-clause-entry
returns-clause-entry c = entry_moved

pub returns-clause-slot : goal.returns-clause-slot
returns-clause-slot c = slot_uses

pub returns-clause-name : goal.returns-clause-name
returns-clause-name c = name_moved
