use Rattle.std.proofs.Common.{List, subst, sym, ℕ}
use Rattle.dwz_check_index.specs.Index.{AreSpacesOf, listed_units, names_in}
use Rattle.dwz_check_labels.proofs.names.put_spaces_to.Goals as goal

pub returns : goal.returns
returns c = λ around said names name says shows found.
    c.put_space_names.ensures around said (names_in name.1) says
    (subst (λ (w : List ℕ). AreSpacesOf (listed_units said) w (names_in name.1)) (sym c.deref.ensures.value) (c.in_ok-spaces_to.ensures names (listed_units said) name shows found))
