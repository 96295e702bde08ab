-- Operands that are found, in two parts and in named lists.
use Rattle.std.proofs.Common.{◌≡◌, Bool, List, [], ◌∷◌, ◌++◌, refl, ap, ◌∙◌, map, sym, subst, inl, inr}
use Rattle.std.specs.Prelude.{◌||◌}
use Rattle.dwz_def_reading.proofs.CaseFacts.{or_assoc}
use Rattle.dwz_model.specs.Lists.{In}
use Rattle.dwz_model.proofs.ListFacts.{in_left, in_right}
use Rattle.dwz_def_reading.specs.Exprs.{AnAddress, FieldItem, Holds, Names, any_address}
use Rattle.dwz_def_reading.specs.Shared.{ListOperand, NamedList, of_unit, operands_in_lists, own_operands}

pub address_append : (a b : List FieldItem) → any_address (a ++ b) ≡ (any_address a || any_address b)
unfolding any_address
address_append [] b = refl
address_append (Names o ∷ a) b = address_append a b
address_append (AnAddress ∷ a) b = refl
address_append (Holds e ∷ a) b = ap (λ (t : Bool). e.address || t) (address_append a b) ∙ or_assoc e.address (any_address a) (any_address b)

pub lists_in : (named : List NamedList) (l : NamedList) (x : ListOperand) → In l named → In x (map (of_unit l.unit) (own_operands l)) → In x (operands_in_lists named)
unfolding operands_in_lists
lists_in [] l x is there = absurd is
lists_in (m ∷ named) l x (inl e) there = in_left x (map (of_unit m.unit) (own_operands m)) (operands_in_lists named)
    (subst (λ (w : NamedList). In x (map (of_unit w.unit) (own_operands w))) (sym e) there)
lists_in (m ∷ named) l x (inr later) there = in_right x (map (of_unit m.unit) (own_operands m)) (operands_in_lists named) (lists_in named l x later there)
