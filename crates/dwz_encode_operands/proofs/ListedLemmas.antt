-- Operands of location lists that are the same have one number, so those that stand once have the first place of all.
use Rattle.std.proofs.Common.{◌≡◌, ℕ, ◌-◌, List, Option, Some, None, Bool, sym, ap, subst, ◌∙◌, arith}
use Rattle.dwz_def_reading.specs.Lists.{In}
use Rattle.dwz_def_reading.specs.Units.{RawUnit}
use Rattle.dwz_def_reading.specs.Meanings.{Around}
use Rattle.dwz_def_reading.specs.NamedLists.{lists_of_units}
use Rattle.dwz_def_reading.specs.Shared.{AreRows, IsSame, ListOperand, NamedList, NoneShared, operands_in_lists}
use Rattle.dwz_encode_operands.specs.Narrow.{FirstPlace, NeedsMore, number_by}
use Rattle.dwz_def_output.specs.Refusals.{IsOver}
use Rattle.dwz_def_output.proofs.ListsStand.{all_stand}
use Rattle.dwz_def_output.proofs.ListsWritten.{GivesOne, number_for, number_own}
use Rattle.dwz_def_encoding.specs.Meant.{place_counted}
use Rattle.dwz_def_encoding.specs.Writing.{base_place}

-- the number depends on the unit, the base and the number before alone
gives_one : (after : ℕ → ℕ) → GivesOne (number_by after)
gives_one after o p unit base number = λ i. after (place_counted (base i) (unit i) (number i)) - base_place (after (unit i)) (base i)

module _ (around : Around ℕ) (raw : List RawUnit) (after : ℕ → ℕ) (rows : List ListOperand) (none : NoneShared (lists_of_units around raw)) (are : AreRows (lists_of_units around raw) rows) where
  abbrev lists : List NamedList
  lists = lists_of_units around raw

  abbrev all : List ListOperand
  all = operands_in_lists lists

  own : (o : ListOperand) → In o all → number_for (number_by after) all o.operand.at ≡ number_by after o
  own o there = number_own lists around.sources.lists none (all_stand around raw) (number_by after) (gives_one after) all (λ p p_in. p_in) o there

  -- what is the same as a narrow one is narrow
  narrow_too : (r o : ListOperand) → In r all → In o all → IsSame r o → NeedsMore (number_by after) o → NeedsMore (number_by after) r
  narrow_too r o r_in o_in same narrow =
      let number : number_by after o ≡ number_by after r = sym (own o o_in) ∙ ap (number_for (number_by after) all) (sym same.at) ∙ own r r_in in
      subst (λ (n : ℕ). IsOver r.operand.uleb r.operand.width n) number
      (subst (λ (w : ℕ). IsOver r.operand.uleb w (number_by after o)) (sym same.width) (subst (λ (b : Bool). IsOver b o.operand.width (number_by after o)) (sym same.uleb) narrow))

  pub listed : (first : Option ℕ) → FirstPlace (number_by after) rows first → FirstPlace (number_by after) all first
  listed None h = λ o there narrow. (let r = are.all o there in h r.0 r.1 (narrow_too r.0 o (are.from r.0 r.1) there r.2 narrow))
  listed (Some at) h = record {
    operand = h.operand;
    there = are.from h.operand h.there;
    narrow = h.narrow;
    least = λ o there narrow. (let r = are.all o there in let le = h.least r.0 r.1 (narrow_too r.0 o (are.from r.0 r.1) there r.2 narrow) in let same = r.2.at in omega (arith, le, same));
    stands = h.stands;
  }
