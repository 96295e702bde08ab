use Rattle.dwz_check_index.specs.Index.{names_in}
use Rattle.dwz_check_labels.proofs.SpaceNames.{turned_round}
use Rattle.dwz_check_labels.proofs.space_names.spaces_to.Goals as goal

pub returns : goal.returns
returns c = λ names entries name shows found.
    turned_round entries c.clear.new.self.items c.put_spaces.new.spaces.items c.reverse.new.self.items (names_in name.1) c.clear.ensures.items c.reverse.ensures.items
    (c.in_ok-put_spaces.ensures names entries name shows found)
