-- Lists of sorted keys, one behind the other.
use Rattle.std.proofs.Common.{◌≡◌, ◌⊎◌, ℕ, zero, suc, ◌+◌, ◌<◌, List, [], ◌∷◌, ◌++◌, length, get_or, map, take, refl, sym, ap, subst, ◌∙◌, inl, inr, arith, length-append}
use Rattle.std.specs.List.{flat_map}
use Rattle.std.proofs.lemmas.Bool.{cases_lt}
use Rattle.std.proofs.lemmas.List.{flat_map_more, map-append, take_more}
use Rattle.dwz_model.specs.Lists.{Each, In}
use Rattle.dwz_model.proofs.ListFacts.{in_cases, in_left, in_right}
use Rattle.dwz_model.proofs.Members.{each_in}
use Rattle.dwz_groups.specs.Parts.{parts_of}
use Rattle.dwz_groups.proofs.PartLemmas.{Parted, parted-more, parted-none}
use Rattle.dwz_check_rows.specs.Keys.{IsInOrder}

-- lists for the first so many, each of which holds these numbers in order
pub record Listed (numbers : ℕ → List ℕ) (count : ℕ) (ends keys : List ℕ) : Type 0 where
  pub lists : List (List ℕ)
  pub parted : Parted lists ends keys
  pub long : length lists ≡ count
  pub each : (x : ℕ) → x < count → IsInOrder (numbers x) (get_or lists x [])

pub listed-none : (numbers : ℕ → List ℕ) (ends keys : List ℕ) → ends ≡ [] → keys ≡ [] → Listed numbers 0 ends keys
listed-none numbers ends keys e k = record {
  lists = [];
  parted = (subst (λ (xs : List ℕ). Parted [] xs keys) (sym e) (subst (λ (xs : List ℕ). Parted [] [] xs) (sym k) parted-none));
  long = refl;
  each = λ x l. absurd (omega arith);
}

at_front : (xs : List (List ℕ)) (y : List ℕ) (x : ℕ) → x < length xs → get_or (xs ++ y ∷ []) x [] ≡ get_or xs x []
at_front [] y x l = absurd (omega arith)
at_front (z ∷ xs) y zero l = refl
at_front (z ∷ xs) y (suc x) l = at_front xs y x (omega arith)

at_end : (xs : List (List ℕ)) (y : List ℕ) (x : ℕ) → x ≡ length xs → get_or (xs ++ y ∷ []) x [] ≡ y
at_end [] y zero e = refl
at_end [] y (suc x) e = absurd (omega arith)
at_end (z ∷ xs) y zero e = absurd (omega arith)
at_end (z ∷ xs) y (suc x) e = at_end xs y x (omega arith)

pub listed-more : (numbers : ℕ → List ℕ) (count : ℕ) (ends keys ends' keys' sorted : List ℕ) (end : ℕ) → keys' ≡ keys ++ sorted → end ≡ length keys' → ends' ≡ ends ++ end ∷ []
    → IsInOrder (numbers count) sorted → Listed numbers count ends keys → Listed numbers (count + 1) ends' keys'
listed-more numbers count ends keys ends' keys' sorted end items len more is h =
    let long = h.long in
    record {
      lists = h.lists ++ sorted ∷ [];
      parted = parted-more h.lists ends keys ends' keys' sorted end items len more h.parted;
      long = omega (arith, long, length-append h.lists (sorted ∷ []));
      each = λ x l. elim (cases_at x count l) as (λ _. IsInOrder (numbers x) (get_or (h.lists ++ sorted ∷ []) x [])) [
        | inl low ↦ subst (IsInOrder (numbers x)) (sym (at_front h.lists sorted x (omega (arith, long, low)))) (h.each x low)
        | inr here ↦ subst (λ (xs : List ℕ). IsInOrder (numbers x) xs) (sym (at_end h.lists sorted x (omega (arith, long, here)))) (subst (λ k. IsInOrder (numbers k) sorted) (sym here) is)
      ];
    }
  where
    cases_at : (x n : ℕ) → x < n + 1 → (x < n) ⊎ (x ≡ n)
    cases_at x n l = elim (cases_lt x n) [ inl low ↦ inl low | inr high ↦ inr (omega (arith, l, high)) ]

-- what one more of them adds
pub flat_more : (f : ℕ → List ℕ) (n : ℕ) (ns : List ℕ) (i : ℕ) (old new : List ℕ) → i < length ns → old ≡ flat_map f (n ∷ take i ns) → new ≡ old ++ f (get_or ns i 0)
    → new ≡ flat_map f (n ∷ take (i + 1) ns)
flat_more f n ns i old new l was is =
    is ∙ (ap (λ xs. xs ++ f (get_or ns i 0)) was ∙ (flat_map_more f (f n) (take i ns) (get_or ns i 0) ∙ ap (λ xs. f n ++ flat_map f xs) (sym (take_more ns i 0 l))))

-- an item is one of them
pub item_in : {X : Type 0} (xs : List X) (k : ℕ) (d : X) → k < length xs → In (get_or xs k d) xs
item_in [] k d l = absurd (omega arith)
item_in (x ∷ xs) zero d l = inl refl
item_in (x ∷ xs) (suc k) d l = inr (item_in xs k d (omega arith))

-- what holds of each item, and of the other one, holds of an item or that
pub each_or : {X : Type 0} (P : X → Type 0) (xs : List X) (k : ℕ) (d : X) → Each P xs → P d → P (get_or xs k d)
each_or P [] k d h other = other
each_or P (x ∷ xs) zero d h other = h.0
each_or P (x ∷ xs) (suc k) d h other = each_or P xs k d h.1 other

in_flat : {X : Type 0} (f g : X → List ℕ) (ns : List X) → ((n : X) → In n ns → (x : ℕ) → In x (f n) → In x (g n)) → (x : ℕ) → In x (flat_map f ns) → In x (flat_map g ns)
in_flat f g [] h x is = is
in_flat f g (n ∷ ns) h x is = elim (in_cases x (f n) (flat_map f ns) is) [
  | inl here ↦ in_left x (g n) (flat_map g ns) (h n (inl refl) x here)
  | inr later ↦ in_right x (g n) (flat_map g ns) (in_flat f g ns (λ m there. h m (inr there)) x later)
]

map_flat : {X : Type 0} (k : ℕ → ℕ) (f : X → List ℕ) (ns : List X) → map k (flat_map f ns) ≡ flat_map (λ n. map k (f n)) ns
map_flat k f [] = refl
map_flat k f (n ∷ ns) = map-append k (f n) (flat_map f ns) ∙ ap (λ xs. map k (f n) ++ xs) (map_flat k f ns)

-- lists that are in order, joined and put in order, are all numbers in order
pub joined_order : (key : ℕ → ℕ) (nodes lists : ℕ → List ℕ) (ns : List ℕ) (sorted : List ℕ) → ((n : ℕ) → In n ns → IsInOrder (map key (nodes n)) (lists n))
    → IsInOrder (flat_map lists ns) sorted → IsInOrder (map key (flat_map nodes ns)) sorted
joined_order key nodes lists ns sorted parts all = record {
  rises = all.rises;
  same = λ x. (
    λ h. (all.same x).0 (in_flat (λ n. map key (nodes n)) lists ns (λ n there y. ((parts n there).same y).0) x (subst (In x) (map_flat key nodes ns) h)),
    λ h. subst (In x) (sym (map_flat key nodes ns)) (in_flat lists (λ n. map key (nodes n)) ns (λ n there y. ((parts n there).same y).1) x ((all.same x).1 h)),
  );
}

pub listed-all : (numbers : ℕ → List ℕ) (count : ℕ) (ends keys : List ℕ) → Listed numbers count ends keys → (length (parts_of 0 ends keys) ≡ count) × ((x : ℕ) → x < count → IsInOrder (numbers x) (get_or (parts_of 0 ends keys) x []))
listed-all numbers count ends keys h =
    (ap (λ (ls : List (List ℕ)). length ls) h.parted.parts ∙ h.long, λ x l. subst (λ (ls : List (List ℕ)). IsInOrder (numbers x) (get_or ls x [])) (sym h.parted.parts) (h.each x l))

-- what a unit imports is there, as it is itself
pub imports_in : (imports : List (List ℕ)) (count x : ℕ) → Each (Each (λ y. y < count)) imports → x < count → (y : ℕ) → In y (x ∷ get_or imports x []) → y < count
imports_in imports count x each l y (inl e) = omega (arith, l, e)
imports_in imports count x each l y (inr there) = each_in (λ y. y < count) y (get_or imports x []) (each_or (Each (λ y. y < count)) imports x [] each tt) there
