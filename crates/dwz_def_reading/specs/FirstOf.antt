-- The first that holds, of two and of a list: what it is that holds, and what is computed.
use Rattle.std.specs.Prelude.{◌⊎◌, List, [], ◌∷◌, Option, Some, None}

-- ---- what holds

-- the one holds, or it holds of nothing and the other does
abbrev pub OrElse : {X : Type 0} → (X → Type 0) → (X → Type 0) → X → Type 0
OrElse {X} First Then x = First x ⊎ (((y : X) → ¬ First y) × Then x)

-- that of the first of a list that has one
abbrev pub OfFirst : {X Y : Type 0} → (Y → X → Type 0) → List Y → X → Type 0
OfFirst Has [] x = ⊥
OfFirst Has (y ∷ ys) x = OrElse (Has y) (OfFirst Has ys) x

-- ---- what is computed

-- the one, or where there is none the other
infixr 5 ◌or◌
abbrev pub ◌or◌ : {X : Type 0} → Option X → Option X → Option X
(Some x) or other = Some x
None or other = other

-- that of the first of a list that has one
abbrev pub of_first : {X Y : Type 0} → (Y → Option X) → List Y → Option X
of_first one [] = None
of_first one (y ∷ ys) = one y or of_first one ys
