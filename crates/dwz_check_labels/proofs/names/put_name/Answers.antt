use Rattle.std.proofs.Common.{sym}
use Rattle.dwz_check_index.specs.Index.{listed_units}
use Rattle.dwz_check_labels.proofs.NameLemmas.{in_top, part_root, part_space, whole_root, whole_space}
use Rattle.dwz_check_labels.proofs.names.put_name.Goals as goal

pub returns-in_ok-push-in-InTop : goal.returns-in_ok-push-in-InTop
returns-in_ok-push-in-InTop c = λ around said names name says shown found.
    in_top name.1 c.in-InTop.top _ _ _ _ (sym (c.in-InTop.ensures names (listed_units said) name shown found)) (c.in_ok-put_path-in-InTop.ensures names (listed_units said) name shown found)
    c.in_ok-push-in-InTop.ensures.items

pub returns-in_ok-put_number-in-UnitRoot : goal.returns-in_ok-put_number-in-UnitRoot
returns-in_ok-put_number-in-UnitRoot c = λ around said names name says shown found.
    whole_root name.1 c.in-UnitRoot.unit _ _ _ _ (sym (c.in-UnitRoot.ensures names (listed_units said) name shown found)) c.in_ok-push-in-UnitRoot.ensures.items
    c.in_ok-put_number-in-UnitRoot.ensures

pub returns-in_ok-put_spaces_to-in-UnitSpace : goal.returns-in_ok-put_spaces_to-in-UnitSpace
returns-in_ok-put_spaces_to-in-UnitSpace c = λ around said names name says shown found.
    whole_space name.1 c.in-UnitSpace.unit _ _ _ _ _ (sym (c.in-UnitSpace.ensures names (listed_units said) name shown found)) c.in_ok-push-in-UnitSpace.ensures.items
    c.in_ok-put_number-in-UnitSpace.ensures (c.in_ok-put_spaces_to-in-UnitSpace.ensures around said names name says shown found)

pub returns-in_ok-push-in-PartialRoot : goal.returns-in_ok-push-in-PartialRoot
returns-in_ok-push-in-PartialRoot c = λ around said names name says shown found.
    part_root name.1 _ _ _ (sym (c.in-PartialRoot.ensures names (listed_units said) name shown found)) c.in_ok-push-in-PartialRoot.ensures.items

pub returns-in_ok-put_spaces_to-in-PartialSpace : goal.returns-in_ok-put_spaces_to-in-PartialSpace
returns-in_ok-put_spaces_to-in-PartialSpace c = λ around said names name says shown found.
    part_space name.1 _ _ _ _ (sym (c.in-PartialSpace.ensures names (listed_units said) name shown found)) c.in_ok-push-in-PartialSpace.ensures.items
    (c.in_ok-put_spaces_to-in-PartialSpace.ensures around said names name says shown found)
