-- Names and the zero bytes that end them.
use Rattle.std.proofs.Common.{◌≡◌, ◌≢◌, ℕ, zero, suc, ◌+◌, ◌-◌, ◌<◌, ◌≤◌, List, [], ◌∷◌, length, take, drop, get_or, Option, Some, None, Bool, true, false, ◌&&◌, eqb, refl, sym, ap, subst, ◌∙◌, arith}
use Rattle.std.proofs.Common.{lit<, lit≤, length-drop}
use Rattle.std.specs.Prelude.{is_some, IfSome, nat_lt, nat_eq, codes, if◌then◌else◌}
use Rattle.std.specs.Option.{option_map}
use Rattle.std.specs.List.{list_any, starts_with}
use Rattle.std.specs.Str.{bytes_eq}
use borrow.Author.Tests.{ltb-true, ltb-false}
use Rattle.std.proofs.lemmas.Bool.{ne_eqb, eq-eqb}
use Rattle.std.proofs.lemmas.Bool.Decides.{nat_tests}
use Rattle.std.proofs.lemmas.Grind.{common_steps}
use Rattle.dwz_def_reading.specs.declared.elf.Section.{Section}
use Rattle.dwz_def_reading.specs.ElfNames.{name_at, section_name_in, known_name, code_of, index_names, section_named}
use Rattle.dwz_elf.specs.Names.{IsNamesEnd, is_called}

pub no_name : (bytes : List ℕ) → ((k : ℕ) → k < length bytes → get_or bytes k 0 ≢ 0) → section_name_in bytes ≡ None
unfolding section_name_in
no_name [] none = refl
no_name (b ∷ bs) none =
    let test : eqb b 0 ≡ false = ne_eqb b 0 (none 0 (omega arith)) in
    let rest : section_name_in bs ≡ None = no_name bs (λ k less. none (suc k) (omega (arith, less))) in
    rw (test, rest) refl

pub name_to : (bytes : List ℕ) (i : ℕ) → i < length bytes → get_or bytes i 0 ≡ 0 → ((k : ℕ) → k < i → get_or bytes k 0 ≢ 0) → section_name_in bytes ≡ Some (take i bytes)
unfolding section_name_in
name_to [] i less is none = absurd (omega (arith, less))
name_to (b ∷ bs) zero less is none = rw (eq-eqb b 0 is) refl
name_to (b ∷ bs) (suc i) less is none =
    let test : eqb b 0 ≡ false = ne_eqb b 0 (none 0 (omega arith)) in
    let rest : section_name_in bs ≡ Some (take i bs) = name_to bs i (omega (arith, less)) is (λ k more. none (suc k) (omega (arith, more))) in
    rw (test, rest) refl

some_of : (b : ℕ) (name : Option (List ℕ)) → is_some (option_map (λ n. b ∷ n) name) ≡ is_some name
some_of b None = refl
some_of b (Some n) = refl

pub some_name : (bytes : List ℕ) (i : ℕ) → i < length bytes → get_or bytes i 0 ≡ 0 → is_some (section_name_in bytes) ≡ true
unfolding section_name_in
some_name [] i less is = absurd (omega (arith, less))
some_name (b ∷ bs) zero less is = rw (eq-eqb b 0 is) refl
some_name (b ∷ bs) (suc i) less is =
    let rest : is_some (section_name_in bs) ≡ true = some_name bs i (omega (arith, less)) is in
    elim (eqb b 0) as (λ t. is_some (if t then Some [] else option_map (λ n. b ∷ n) (section_name_in bs)) ≡ true) [ true ↦ refl | false ↦ some_of b (section_name_in bs) ∙ rest ]

mapped : (b : ℕ) (o : Option (List ℕ)) (name : List ℕ) → option_map (λ n. b ∷ n) o ≡ Some name → (n : List ℕ) × (o ≡ Some n) × (name ≡ b ∷ n)
mapped b None name is = absurd (cc)
mapped b (Some n) name is = (n, refl, cc)

-- the first bytes of a name
front : (bytes name : List ℕ) (i : ℕ) → i ≤ length bytes → ((k : ℕ) → k < i → get_or bytes k 0 ≢ 0) → section_name_in bytes ≡ Some name → take i bytes ≡ take i name
unfolding section_name_in
front bytes name zero within none is = refl
front [] name (suc i) within none is = absurd (omega (arith, within))
front (b ∷ bs) name (suc i) within none is =
    let test : eqb b 0 ≡ false = ne_eqb b 0 (none 0 (omega arith)) in
    let more = mapped b (section_name_in bs) name (rw test at is) in
    let rest : take i bs ≡ take i more.0 = front bs more.0 i (omega (arith, within)) (λ k less. none (suc k) (omega (arith, less))) more.1 in
    rw (more.2, rest) refl

if_some : {X : Type 0} (o : Option X) (P : X → Type 0) → ((x : X) → o ≡ Some x → P x) → IfSome o P
if_some None P each = tt
if_some (Some x) P each = each x refl

take_more : (m k : ℕ) (xs : List ℕ) → m ≤ k → take k (take m xs) ≡ take m xs
take_more m k xs le = grind (arith, common_steps)

-- ---- the first bytes of a name, by the first zero byte

pub front_none : (bytes : List ℕ) (i : ℕ) → length bytes ≤ i → ((k : ℕ) → k < i → get_or bytes k 0 ≢ 0) → IfSome (section_name_in bytes) (λ name. bytes ≡ take 24 name)
front_none bytes i all none = if_some (section_name_in bytes) _ (λ name is. let no : section_name_in bytes ≡ None = no_name bytes (λ k less. none k (omega (arith, less, all))) in absurd (cc))

pub front_short : (bytes : List ℕ) (i : ℕ) → i < 24 → i < length bytes → get_or bytes i 0 ≡ 0 → ((k : ℕ) → k < i → get_or bytes k 0 ≢ 0)
    → IfSome (section_name_in bytes) (λ name. take i bytes ≡ take 24 name)
front_short bytes i few less is none = if_some (section_name_in bytes) _ (λ name found.
    let here : section_name_in bytes ≡ Some (take i bytes) = name_to bytes i less is none in
    let same : name ≡ take i bytes = cc in
    rw same (sym (take_more i 24 bytes (omega (arith, few)))))

pub front_long : (bytes : List ℕ) → 24 ≤ length bytes → ((k : ℕ) → k < 24 → get_or bytes k 0 ≢ 0) → IfSome (section_name_in bytes) (λ name. take 24 bytes ≡ take 24 name)
front_long bytes long none = if_some (section_name_in bytes) _ (λ name found. front bytes name 24 long none found)

-- ---- where the last name ends

pub get_drop : (at k : ℕ) (xs : List ℕ) → get_or (drop at xs) k 0 ≡ get_or xs (at + k) 0
get_drop at k xs = grind (arith, common_steps)

is_none : (o : Option (List ℕ)) → o ≡ None → is_some o ≡ false
is_none o is = rw is refl

-- no name begins where only other bytes follow
past_end : (table : List ℕ) (end at : ℕ) → end ≤ at → ((k : ℕ) → end ≤ k → k < length table → get_or table k 0 ≢ 0) → is_some (name_at table at) ≡ false
past_end table end at past none =
    is_none (section_name_in (drop at table)) (no_name (drop at table) (λ k less is.
    let more : at + k < length table = omega (arith, length-drop at table, less) in
    none (at + k) (omega (arith, past)) more (sym (get_drop at k table) ∙ is)))

pub ends_here : (table : List ℕ) (end last : ℕ) → end ≡ last + 1 → end ≤ length table → get_or table last 0 ≡ 0 → ((k : ℕ) → end ≤ k → k < length table → get_or table k 0 ≢ 0) → IsNamesEnd table end
ends_here table end last is within ends none = record {
  within = within;
  ends = λ at. elim (nat_lt at end) as (λ t. nat_lt at end ≡ t → is_some (name_at table at) ≡ t) [
    | true ↦ λ test.
        let less : at < end = ltb-true at end test in
        let inside : last - at < length (drop at table) = omega (arith, length-drop at table, less, is, within) in
        let place : at + (last - at) ≡ last = omega (arith, less, is) in
        some_name (drop at table) (last - at) inside (get_drop at (last - at) table ∙ (ap (λ k. get_or table k 0) place ∙ ends))
    | false ↦ λ test. past_end table end at (ltb-false at end test) none
  ] refl;
}

lt_none : (a b : ℕ) → b ≤ a → nat_lt a b ≡ false
lt_none a b le = grind (arith, nat_tests)

lt_true : (a b : ℕ) → a < b → nat_lt a b ≡ true
lt_true a b less = grind (arith, nat_tests)

pub ends_nowhere : (table : List ℕ) (end : ℕ) → end ≡ 0 → ((k : ℕ) → end ≤ k → k < length table → get_or table k 0 ≢ 0) → IsNamesEnd table end
ends_nowhere table end is none = record {
  within = omega (arith, is);
  ends = λ at. past_end table end at (omega (arith, is)) none ∙ sym (lt_none at end (omega (arith, is)));
}

pub take_take : (m k : ℕ) (xs : List ℕ) → m ≤ k → take m (take k xs) ≡ take m xs
take_take m k xs le = grind (arith, common_steps)

-- ---- what a name says, by its first bytes

-- a short text equals a list exactly where it equals the list's first bytes
short_same : (p n : List ℕ) (k : ℕ) → length p < k → bytes_eq (take k n) p ≡ bytes_eq n p
short_same p n zero less = absurd (omega (arith, less))
short_same [] [] (suc k) less = refl
short_same [] (x ∷ n) (suc k) less = refl
short_same (c ∷ p) [] (suc k) less = refl
short_same (c ∷ p) (x ∷ n) (suc k) less =
    let rest : bytes_eq (take k n) p ≡ bytes_eq n p = short_same p n k (omega (arith, less)) in
    rw rest refl

Same : List ℕ → List ℕ → Type 0
Same m n = (p : List ℕ) → length p < 24 → bytes_eq m p ≡ bytes_eq n p

same_code : (m n : List ℕ) → Same m n → code_of m ≡ code_of n
unfolding Same
same_code m n same =
    rw (
      same (codes ".debug_info") (lit< tt),
      same (codes ".debug_abbrev") (lit< tt),
      same (codes ".debug_str") (lit< tt),
      same (codes ".debug_line_str") (lit< tt),
      same (codes ".debug_str_offsets") (lit< tt),
      same (codes ".debug_line") (lit< tt),
      same (codes ".debug_loclists") (lit< tt),
      same (codes ".debug_aranges") (lit< tt),
      same (codes ".debug_sup") (lit< tt),
    ) refl

-- texts that are all short
AreShort : List (List ℕ) → Type 0
AreShort [] = Unit {0}
AreShort (p ∷ ps) = (length p < 24) × AreShort ps

same_any : (m n : List ℕ) → Same m n → (ps : List (List ℕ)) → AreShort ps → list_any (bytes_eq m) ps ≡ list_any (bytes_eq n) ps
unfolding Same AreShort
same_any m n same [] short = refl
same_any m n same (p ∷ ps) short =
    let rest : list_any (bytes_eq m) ps ≡ list_any (bytes_eq n) ps = same_any m n same ps short.1 in
    rw (same p short.0, rest) refl

same_index : (m n : List ℕ) → Same m n → list_any (bytes_eq m) index_names ≡ list_any (bytes_eq n) index_names
unfolding AreShort
same_index m n same = same_any m n same index_names (lit< tt, (lit< tt, (lit< tt, (lit< tt, (lit< tt, (lit< tt, (lit< tt, (lit< tt, (lit< tt, (lit< tt, (lit< tt, tt)))))))))))

pub known : (name : Option (List ℕ)) (front : List ℕ) → is_some name ≡ true → IfSome name (λ n. front ≡ take 24 n)
    → record { ends = true; code = code_of front; is_debug = starts_with nat_eq front (codes ".debug_"); is_index = list_any (bytes_eq front) index_names } ≡ known_name name
unfolding Same
known None front is first = absurd (cc)
known (Some n) front is first =
    let same : Same front n = λ p less. ap (λ m. bytes_eq m p) first ∙ short_same p n 24 less in
    let code : code_of front ≡ code_of n = same_code front n same in
    let index : list_any (bytes_eq front) index_names ≡ list_any (bytes_eq n) index_names = same_index front n same in
    let debug : take 7 front ≡ take 7 n = ap (take 7) first ∙ take_take 7 24 n (lit≤ tt) in
    rw (code, index, debug) refl

at_name : (table : List ℕ) (end at : ℕ) → IsNamesEnd table end → at < end → is_some (name_at table at) ≡ true
at_name table end at ends less = ends.ends at ∙ lt_true at end less

pub named : (table rest front : List ℕ) (end at code : ℕ) (debug index : Bool) → rest ≡ drop at table → IsNamesEnd table end → at < end → IfSome (section_name_in rest) (λ n. front ≡ take 24 n)
    → code ≡ code_of front → debug ≡ starts_with nat_eq front (codes ".debug_") → index ≡ list_any (bytes_eq front) index_names
    → record { ends = true; code = code; is_debug = debug; is_index = index } ≡ known_name (name_at table at)
named table rest front end at code debug index is ends less first code_is debug_is index_is =
    let found : IfSome (name_at table at) (λ n. front ≡ take 24 n) = subst (λ (r : List ℕ). IfSome (section_name_in r) (λ n. front ≡ take 24 n)) is first in
    rw (code_is, debug_is, index_is) (known (name_at table at) front (at_name table end at ends less) found)

-- ---- a given name

-- behind the table no name begins
pub no_rest : (table name : List ℕ) (at : ℕ) → drop at table ≡ [] → false ≡ is_called name (name_at table at)
unfolding section_name_in
no_rest table name at none = ap (λ (bytes : List ℕ). is_called name (section_name_in bytes)) (sym none)

called_as : (found : Option (List ℕ)) (name front : List ℕ) (ends : Bool) → ends ≡ (known_name found).ends → IfSome found (λ n. front ≡ take 24 n) → length name < 24
    → (ends && bytes_eq front name) ≡ is_called name found
called_as None name front ends is first less = ap (λ (b : Bool). b && bytes_eq front name) is
called_as (Some n) name front ends is first less = ap (λ (b : Bool). b && bytes_eq front name) is ∙ ap (λ (m : List ℕ). bytes_eq m name) first ∙ short_same name n 24 less

not_ended_as : (found : Option (List ℕ)) (name : List ℕ) → (known_name found).ends ≡ false → false ≡ is_called name found
not_ended_as None name none = refl
not_ended_as (Some n) name none = absurd cc

pub not_ended : (table name : List ℕ) (s : Section) → s ≡ section_named table s.header → s.name.ends ≡ false → false ≡ is_called name (name_at table s.header.name)
not_ended table name s is none = not_ended_as (name_at table s.header.name) name (sym (ap (λ (x : Section). x.name.ends) is) ∙ none)

pub called : (table rest name front : List ℕ) (s : Section) → s ≡ section_named table s.header → rest ≡ drop s.header.name table → IfSome (section_name_in rest) (λ n. front ≡ take 24 n)
    → length name < 24
    → (s.name.ends && bytes_eq front name) ≡ is_called name (name_at table s.header.name)
called table rest name front s is same first less =
    called_as (name_at table s.header.name) name front s.name.ends (ap (λ (x : Section). x.name.ends) is) (subst (λ (r : List ℕ). IfSome (section_name_in r) (λ n. front ≡ take 24 n)) same first) less
