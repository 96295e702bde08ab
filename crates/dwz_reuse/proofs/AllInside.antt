-- Targets of files and of a common file, behind each other.
use Rattle.std.proofs.Common.{◌≡◌, ◌<◌, ◌+◌, ℕ, zero, suc, All, List, [], ◌∷◌, ◌++◌, length, sym, subst, arith}
use Rattle.std.proofs.lemmas.List.{length-append}

all_both : {X : Type 0} (P : X → Type 0) (xs ys : List X) → All P xs → All P ys → All P (xs ++ ys)
all_both P [] ys h k n d l = k n d l
all_both P (x ∷ xs) ys h k zero d l = h 0 d (omega arith)
all_both P (x ∷ xs) ys h k (suc n) d l = all_both P xs ys (λ i e m. h (suc i) e (omega (arith, m))) k n d (omega (arith, l))

all_more : {X : Type 0} (P Q : X → Type 0) (xs : List X) → ((x : X) → P x → Q x) → All P xs → All Q xs
all_more P Q xs more h n d l = more _ (h n d l)

pub joined_inside : (own others all : List (List ℕ)) (first : ℕ) → length own ≡ first → all ≡ own ++ others → All (λ ts. All (λ t. t < length own) ts) own
    → All (λ ts. All (λ t. t < first + length others) ts) others → All (λ ts. All (λ t. t < length all) ts) all
joined_inside own others all first same is h k =
    let long = length-append own others in
    subst (λ (w : List (List ℕ)). All (λ ts. All (λ t. t < length w) ts) w) (sym is)
    (all_both (λ ts. All (λ t. t < length (own ++ others)) ts) own others
    (all_more (λ ts. All (λ t. t < length own) ts) (λ ts. All (λ t. t < length (own ++ others)) ts) own
    (λ ts l. all_more (λ t. t < length own) (λ t. t < length (own ++ others)) ts (λ t m. omega (arith, m, long)) l) h)
    (all_more (λ ts. All (λ t. t < first + length others) ts) (λ ts. All (λ t. t < length (own ++ others)) ts) others
    (λ ts l. all_more (λ t. t < first + length others) (λ t. t < length (own ++ others)) ts (λ t m. omega (arith, m, long, same)) l) k))
