-- Gets, one by one.
use Rattle.std.proofs.Common.{◌≡◌, ℕ, ◌+◌, ◌<◌, ◌≤◌, ◌^◌, List, [], ◌∷◌, ◌++◌, Bool, true, false, Option, Some, None, length, map, drop, get_or, refl, sym, ap, subst, ◌∙◌, append_assoc, add-one, drop-cons, arith}
use Rattle.std.specs.Prelude.{IfSome, option_map, nat_lt, ◌||◌, if◌then◌else◌}
use Rattle.std.specs.Borrow.{Bor}
use Rattle.std.proofs.lemmas.Bool.Decides.{nat_tests}
use Rattle.std.proofs.lemmas.List.{get_or-map, length-map}
use Rattle.dwz_outside.specs.Store.{Store, got}
use Rattle.dwz_outside.specs.Told.{FilesSeen, LeavesPuts}
use Rattle.dwz_run_course.specs.Gets.{gets_by, is_longer_than}
use Rattle.dwz_run_course.specs.Ungot.{GotSoFar}

front : (longest behind : ℕ) (store : Store) (before : ℕ) (name content : List ℕ) (names : List (List ℕ)) (ends : Bool) → got store name ≡ Some content → ends ≡ is_longer_than longest before content
    → gets_by longest behind store before (name ∷ names) ≡ (if ends then Some (content ∷ []) else option_map (λ rest. content ∷ rest) (gets_by behind behind store (before + length content) names))
front longest behind store before name content names ends is e = rw (is, e) refl

pushed : (contents : List (List ℕ)) (content : List ℕ) (o : Option (List (List ℕ)))
    → option_map (λ rest. contents ++ rest) (option_map (λ rest. content ∷ rest) o) ≡ option_map (λ rest. (contents ++ content ∷ []) ++ rest) o
pushed contents content None = refl
pushed contents content (Some rest) = ap (λ (cs : List (List ℕ)). Some cs) (sym (append_assoc contents (content ∷ []) rest))

after : (old mid new : FilesSeen) → LeavesPuts old mid → LeavesPuts mid new → LeavesPuts old new
after old mid new a b = record { held = b.held ∙ a.held; stored = b.stored ∙ a.stored; faults = b.faults ∙ a.faults; last = b.last ∙ a.last }

got_more : (first longest behind : ℕ) (old mid : Option Store) (names rest : List (List ℕ)) (name content : List ℕ) (contents : List (List ℕ)) (before : ℕ) (ends : Bool) → mid ≡ old
    → IfSome old (λ store. gets_by first behind store 0 names ≡ option_map (λ more. contents ++ more) (gets_by longest behind store before (name ∷ rest)))
    → IfSome mid (λ store. got store name ≡ Some content) → ends ≡ is_longer_than longest before content
    → IfSome old (λ store. gets_by first behind store 0 names ≡ option_map (λ more. contents ++ more)
    (if ends then Some (content ∷ []) else option_map (λ more. content ∷ more) (gets_by behind behind store (before + length content) rest)))
got_more first longest behind None mid names rest name content contents before ends same so is e = tt
got_more first longest behind (Some store) mid names rest name content contents before ends same so is e =
    let there : got store name ≡ Some content = subst (λ (o : Option Store). IfSome o (λ s. got s name ≡ Some content)) same is in
    so ∙ ap (option_map (λ more. contents ++ more)) (front longest behind store before name content rest ends there e)

-- the names from one on are this one, and those behind it
at : (names : List (Bor (List ℕ))) (i : ℕ) (d : Bor (List ℕ)) → i < length names
    → drop i (map (λ name. name.now) names) ≡ (get_or names i d).now ∷ drop (i + 1) (map (λ name. name.now) names)
at names i d below =
    let below' : i < length (map (λ name. name.now) names) = rw length-map below in
    rw (add-one, drop-cons (map (λ name. name.now) names) i [], get_or-map (λ name. name.now) names i d [] below) refl

got_one : (first longest behind : ℕ) (old mid : FilesSeen) (names : List (Bor (List ℕ))) (i : ℕ) (d : Bor (List ℕ)) (contents : List (List ℕ)) (content : List ℕ) (before : ℕ) (ends : Bool) → i < length names
    → GotSoFar old mid first longest behind (map (λ name. name.now) names) i contents before → IfSome mid.held (λ store. got store (get_or names i d).now ≡ Some content) → ends ≡ is_longer_than longest before content
    → IfSome old.held (λ store. gets_by first behind store 0 (map (λ name. name.now) names) ≡ option_map (λ more. contents ++ more)
    (if ends then Some (content ∷ []) else option_map (λ more. content ∷ more) (gets_by behind behind store (before + length content) (drop (i + 1) (map (λ name. name.now) names)))))
got_one first longest behind old mid names i d contents content before ends below so is e =
    let all = map (λ (name : Bor (List ℕ)). name.now) names in
    got_more first longest behind old.held mid.held all (drop (i + 1) all) (get_or names i d).now content contents before ends so.leaves.held
    (subst (λ (ns : List (List ℕ)). IfSome old.held (λ store. gets_by first behind store 0 all ≡ option_map (λ more. contents ++ more) (gets_by longest behind store before ns))) (at names i d below) so.got) is e

-- one more is got, and is the last
pub got_last : (first longest behind : ℕ) (old mid : FilesSeen) (names : List (Bor (List ℕ))) (i : ℕ) (d : Bor (List ℕ)) (contents : List (List ℕ)) (content : List ℕ) (before : ℕ) → i < length names
    → GotSoFar old mid first longest behind (map (λ name. name.now) names) i contents before → IfSome mid.held (λ store. got store (get_or names i d).now ≡ Some content) → true ≡ is_longer_than longest before content
    → IfSome old.held (λ store. gets_by first behind store 0 (map (λ name. name.now) names) ≡ Some (contents ++ content ∷ []))
got_last first longest behind old mid names i d contents content before below so is e = got_one first longest behind old mid names i d contents content before true below so is e

few : (longest before n : ℕ) → false ≡ (nat_lt longest n || nat_lt (2 ^ 29) (before + n)) → before + n ≤ 2 ^ 29
few longest before n e = grind (arith, nat_tests)

with_one : (first behind : ℕ) (o : Option Store) (names rest contents : List (List ℕ)) (content : List ℕ) (before : ℕ)
    → IfSome o (λ store. gets_by first behind store 0 names ≡ option_map (λ more. contents ++ more) (option_map (λ more. content ∷ more) (gets_by behind behind store before rest)))
    → IfSome o (λ store. gets_by first behind store 0 names ≡ option_map (λ more. (contents ++ content ∷ []) ++ more) (gets_by behind behind store before rest))
with_one first behind None names rest contents content before is = tt
with_one first behind (Some store) names rest contents content before is = is ∙ pushed contents content (gets_by behind behind store before rest)

-- one more is got, and those behind it are left
pub got_next : (first longest behind : ℕ) (old mid new : FilesSeen) (names : List (Bor (List ℕ))) (i : ℕ) (d : Bor (List ℕ)) (contents : List (List ℕ)) (content : List ℕ) (before : ℕ) → i < length names
    → GotSoFar old mid first longest behind (map (λ name. name.now) names) i contents before → IfSome mid.held (λ store. got store (get_or names i d).now ≡ Some content) → false ≡ is_longer_than longest before content
    → LeavesPuts mid new → mid.read_faults ≤ new.read_faults
    → GotSoFar old new first behind behind (map (λ name. name.now) names) (i + 1) (contents ++ content ∷ []) (before + length content)
got_next first longest behind old mid new names i d contents content before below so is e leaves rises = record {
  got = with_one first behind old.held (map (λ name. name.now) names) (drop (i + 1) (map (λ name. name.now) names)) contents content (before + length content)
      (got_one first longest behind old mid names i d contents content before false below so is e);
  leaves = after old mid new so.leaves leaves;
  few = few longest before (length content) e;
  rises = omega (arith, so.rises, rises);
}
