-- Which top of a finished common file each top of a unit is taken as.
use Rattle.std.specs.Prelude.{◌≡◌, ◌⊎◌, ℕ, ◌≤◌, List, Option, None, MatchOption, length, slice_index, slice_index_or}
use Rattle.dwz_model.specs.Lists.{In}
use Rattle.dwz_takes.specs.declared.rows.Rows.{Rows}
use Rattle.dwz_takes.specs.Takes.{TakesPart, class_of, list_at}

abbrev pub choice_at : List (Option ℕ) → ℕ → Option ℕ
choice_at choices n = slice_index_or choices n None

-- the top c stands in a partial unit that the unit takes, and has that class
pub record StandsFor (rows : Rows) (u k c : ℕ) : Type 0 where
  pub part : ℕ
  pub takes : TakesPart rows u part
  pub there : In c (list_at rows.part_tops part)
  pub alike : class_of rows c ≡ k

-- the first of those
pub record IsImageOf (rows : Rows) (u k n : ℕ) : Type 0 where
  pub stands : StandsFor rows u k n
  pub least : (c : ℕ) → StandsFor rows u k c → n ≤ c

-- a top that may move is of one unit
abbrev pub AreApart : Rows → Type 0
AreApart rows = (u v t : ℕ) → In t (list_at rows.unit_tops u) → In t (list_at rows.unit_tops v) → u ≡ v

-- Of each top of a unit that may move its image, if there is one; of no other top one.
pub record AreImages (rows : Rows) (images : List (Option ℕ)) : Type 0 where
  pub len : length images ≡ length rows.classes
  pub each : (u t : ℕ) → In t (list_at rows.unit_tops u)
      → MatchOption (choice_at images t) ((c : ℕ) → StandsFor rows u (class_of rows t) c → ⊥) (IsImageOf rows u (class_of rows t))
  pub none : (t : ℕ) → ((u : ℕ) → In t (list_at rows.unit_tops u) → ⊥) → choice_at images t ≡ None

-- ---- the steps

-- the least of these tops that has the class
pub record IsLeastIn (classes seen : List ℕ) (k n : ℕ) : Type 0 where
  pub there : In n seen
  pub alike : slice_index classes n ≡ k
  pub least : (c : ℕ) → In c seen → slice_index classes c ≡ k → n ≤ c

-- under each class the least of these tops that has it
abbrev pub AreLeast : List ℕ → List ℕ → List (Option ℕ) → Type 0
AreLeast classes seen firsts = (k : ℕ) → MatchOption (choice_at firsts k) ((c : ℕ) → In c seen → slice_index classes c ≡ k → ⊥) (IsLeastIn classes seen k)

abbrev pub AreNone : List (Option ℕ) → Type 0
AreNone choices = (n : ℕ) → choice_at choices n ≡ None

-- the lesser of a number, if there is one, and another
abbrev pub IsLesser : Option ℕ → ℕ → ℕ → Type 0
IsLesser first t n = MatchOption first (n ≡ t) (λ m. (n ≤ m) × (n ≤ t) × ((n ≡ m) ⊎ (n ≡ t)))

-- each of the tops has what stands under its class, and all others have what they had
pub record ArePut (classes tops : List ℕ) (firsts old new : List (Option ℕ)) : Type 0 where
  pub put : (t : ℕ) → In t tops → choice_at new t ≡ choice_at firsts (slice_index classes t)
  pub kept : (t : ℕ) → (In t tops → ⊥) → choice_at new t ≡ choice_at old t

-- the images of a unit's tops
abbrev pub AreImagesOf : Rows → ℕ → List (Option ℕ) → Type 0
AreImagesOf rows u images = (t : ℕ) → In t (list_at rows.unit_tops u)
    → MatchOption (choice_at images t) ((c : ℕ) → StandsFor rows u (class_of rows t) c → ⊥) (IsImageOf rows u (class_of rows t))
