use Rattle.dwz_def_encoding.proofs.RawHeaders.{unit_len}
use Rattle.dwz_def_encoding.proofs.WriteLengths.{attrs_len, kind_len, node_len, size_len, sound_entries, sound_fixed, sound_unit, spelled_len, tree_len}
use Rattle.dwz_def_encoding.proofs.writing.length_laws.Goals as goal

pub returns-clause-attrs : goal.returns-clause-attrs
returns-clause-attrs c attrs sound m n p q = attrs_len m n p q attrs (sound_fixed attrs sound)

pub returns-clause-entry : goal.returns-clause-entry
returns-clause-entry c table e children sound m n p q = node_len m n p q table e children (sound_fixed e.attrs sound.attrs)

pub returns-clause-entries : goal.returns-clause-entries
returns-clause-entries c table entries sound m n p q = spelled_len m n p q table entries (sound_entries entries sound)

pub returns-clause-tree : goal.returns-clause-tree
returns-clause-tree c u sound m n p q = tree_len m n p q u (sound_unit u sound)

pub returns-clause-kind : goal.returns-clause-kind
returns-clause-kind c kind m n p q = kind_len m n p q kind

pub returns-clause-unit : goal.returns-clause-unit
returns-clause-unit c u sound m n p q = size_len m n p q u (sound_unit u sound)

pub returns-clause-size : goal.returns-clause-size
returns-clause-size c n unit offset u = unit_len n unit offset u
