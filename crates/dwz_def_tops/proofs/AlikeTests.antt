-- The tests of equal values are true exactly where the values are equal.
use Rattle.std.proofs.Common.{◌≡◌, ℕ, ℤ, pos, negsuc, Bool, true, false, List, [], ◌∷◌, Some, None, Decides, ◌==◌, refl}
use Rattle.std.proofs.lemmas.Bool.{false≢true}
use Rattle.std.proofs.lemmas.Bool.Decides.{Decides-eqb, Decides-like}
use Rattle.dwz_def_reading.specs.Base.{Base}
use Rattle.dwz_def_reading.specs.Base.TheVariants.{Unit as FromUnit, Info as FromInfo}
use Rattle.dwz_def_reading.specs.Documents.{Addr, Block, Expr, File, Flag, Index, Loc, Num, Operand, Part, Plain, Ref, Same, Sec, Sig, Text}
use Rattle.dwz_def_tops.specs.Deciding.{same_bool, same_by, same_int, same_option, same_part, same_plain}
use Rattle.dwz_def_reading.specs.Shared.{same_base}
use Rattle.dwz_def_tops.specs.Spots.{same_numbers}

-- a test that is false, where nothing holds
pub Decides-none : {P : Type 0} → (P → ⊥) → Decides false P
Decides-none f = (λ e. absurd (false≢true e), λ p. absurd (f p))

pub Decides-any : {P : Type 0} → P → Decides true P
Decides-any p = (λ e. p, λ q. refl)

-- one test, and where it is true another
pub Decides-both : {P Q : Type 0} (a b : Bool) → Decides a P → Decides b Q → Decides (elim a as (λ _. Bool) [ true ↦ b | false ↦ false ]) (P × Q)
Decides-both true b f g = (λ e. (f.0 refl, g.0 e), λ p. g.1 p.1)
Decides-both false b f g = (λ e. absurd (false≢true e), λ p. f.1 p.0)

pub numbers_decide : (xs ys : List ℕ) → Decides (same_numbers xs ys) (xs ≡ ys)
unfolding same_numbers
numbers_decide [] [] = Decides-any refl
numbers_decide (x ∷ xs) (y ∷ ys) = Decides-like _ (λ p. (let e = p.0 in let f = p.1 in cc)) (λ e. (cc, cc)) (Decides-both (x == y) (same_numbers xs ys) (Decides-eqb x y) (numbers_decide xs ys))
numbers_decide [] (y ∷ ys) = Decides-none (λ e. cc)
numbers_decide (x ∷ xs) [] = Decides-none (λ e. cc)

pub int_decides : (x y : ℤ) → Decides (same_int x y) (x ≡ y)
unfolding same_int
int_decides (pos m) (pos n) = Decides-like _ (λ e. cc) (λ e. cc) (Decides-eqb m n)
int_decides (negsuc m) (negsuc n) = Decides-like _ (λ e. cc) (λ e. cc) (Decides-eqb m n)
int_decides (pos m) (negsuc n) = Decides-none (λ e. cc)
int_decides (negsuc m) (pos n) = Decides-none (λ e. cc)

pub bool_decides : (a b : Bool) → Decides (same_bool a b) (a ≡ b)
bool_decides true true = Decides-any refl
bool_decides true false = Decides-none (λ e. cc)
bool_decides false true = Decides-none (λ e. cc)
bool_decides false false = Decides-any refl

pub base_decides : (a b : Base) → Decides (same_base a b) (a ≡ b)
base_decides FromUnit FromUnit = Decides-any refl
base_decides FromUnit FromInfo = Decides-none (λ e. cc)
base_decides FromInfo FromUnit = Decides-none (λ e. cc)
base_decides FromInfo FromInfo = Decides-any refl

pub part_decides : (x y : Part) → Decides (same_part x y) (x ≡ y)
unfolding same_part
part_decides (Same a) (Same b) = Decides-like _ (λ e. cc) (λ e. cc) (numbers_decide a b)
part_decides (Operand w u b) (Operand v t c) = Decides-like _ (λ p. (let e = p.0 in let f = p.1.0 in let g = p.1.1 in cc)) (λ e. (cc, (cc, cc)))
    (Decides-both (w == v) _ (Decides-eqb w v) (Decides-both (same_bool u t) (same_base b c) (bool_decides u t) (base_decides b c)))
part_decides (Same a) (Operand v t c) = Decides-none (λ e. cc)
part_decides (Operand w u b) (Same a) = Decides-none (λ e. cc)

-- a test of two things is true exactly where they are equal
abbrev pub Tells : {X : Type 0} → (X → X → Bool) → Type 0
Tells {X} same = (x y : X) → Decides (same x y) (x ≡ y)

pub by_decides : {X : Type 0} (same : X → X → Bool) → Tells same → Tells (same_by same)
unfolding same_by
by_decides same tells [] [] = Decides-any refl
by_decides same tells (x ∷ xs) (y ∷ ys) = Decides-like _ (λ p. (let e = p.0 in let f = p.1 in cc)) (λ e. (cc, cc))
    (Decides-both (same x y) (same_by same xs ys) (tells x y) (by_decides same tells xs ys))
by_decides same tells [] (y ∷ ys) = Decides-none (λ e. cc)
by_decides same tells (x ∷ xs) [] = Decides-none (λ e. cc)

pub option_decides : {X : Type 0} (same : X → X → Bool) → Tells same → Tells (same_option same)
option_decides same tells None None = Decides-any refl
option_decides same tells (Some x) (Some y) = Decides-like _ (λ e. cc) (λ e. cc) (tells x y)
option_decides same tells None (Some y) = Decides-none (λ e. cc)
option_decides same tells (Some x) None = Decides-none (λ e. cc)

pub plain_decides : (x y : Plain) → Decides (same_plain x y) (x ≡ y)
unfolding same_plain
plain_decides (Num w m) (Num v n) = Decides-like _ (λ p. (let e = p.0 in let f = p.1 in cc)) (λ e. (cc, cc)) (Decides-both (w == v) (same_int m n) (Decides-eqb w v) (int_decides m n))
plain_decides (Flag a) (Flag b) = Decides-like _ (λ e. cc) (λ e. cc) (bool_decides a b)
plain_decides (Block a) (Block b) = Decides-like _ (λ e. cc) (λ e. cc) (numbers_decide a b)
plain_decides (Text a) (Text b) = Decides-like _ (λ e. cc) (λ e. cc) (numbers_decide a b)
plain_decides (File a) (File b) = Decides-like _ (λ e. cc) (λ e. cc) (option_decides same_numbers numbers_decide a b)
plain_decides Ref Ref = Decides-any refl
plain_decides (Sig m) (Sig n) = Decides-like _ (λ e. cc) (λ e. cc) (Decides-eqb m n)
plain_decides (Addr m) (Addr n) = Decides-like _ (λ e. cc) (λ e. cc) (Decides-eqb m n)
plain_decides (Index m) (Index n) = Decides-like _ (λ e. cc) (λ e. cc) (Decides-eqb m n)
plain_decides (Sec m) (Sec n) = Decides-like _ (λ e. cc) (λ e. cc) (Decides-eqb m n)
plain_decides (Expr a) (Expr b) = Decides-like _ (λ e. cc) (λ e. cc) (by_decides same_part part_decides a b)
plain_decides (Loc a) (Loc b) = Decides-like _ (λ e. cc) (λ e. cc) (by_decides (same_by same_part) (by_decides same_part part_decides) a b)
plain_decides _ _ = Decides-none (λ e. cc)
