-- For each top the first one of its kin: alike tops of one file.
use Rattle.std.specs.Prelude.{◌≡◌, ℕ, ◌<◌, ◌≤◌, List, Option, Some, None, length, slice_index}

-- the files of tops, which stand file by file
abbrev pub Rise : List ℕ → Type 0
Rise files = (m n : ℕ) → m ≤ n → n < length files → slice_index files m ≤ slice_index files n

-- m is of the same file as n, and of the same class
pub record AreOfKin (least files : List ℕ) (n m : ℕ) : Type 0 where
  pub class : slice_index least m ≡ slice_index least n
  pub file : slice_index files m ≡ slice_index files n

-- m is the first of the kin of n
pub record IsFirstKin (least files : List ℕ) (n m : ℕ) : Type 0 where
  pub there : m ≤ n
  pub kin : AreOfKin least files n m
  pub first : (k : ℕ) → k < length least → AreOfKin least files n k → m ≤ k

-- so it is of each top of the files, of so many; those behind stand for themselves
pub record AreKinBy (least files : List ℕ) (count : ℕ) (kin : List ℕ) : Type 0 where
  pub len : length kin ≡ count
  pub own : (n : ℕ) → n < length least → IsFirstKin least files n (slice_index kin n)
  pub behind : (n : ℕ) → length least ≤ n → n < count → slice_index kin n ≡ n

-- ---- the steps

-- the one that was seen, if it is of the file of n, or else n itself
abbrev pub IsFirst : List ℕ → Option ℕ → ℕ → ℕ → Type 0
IsFirst files None n m = m ≡ n
IsFirst files (Some k) n m = (slice_index files k ≡ slice_index files n → m ≡ k) × ((slice_index files k ≡ slice_index files n → ⊥) → m ≡ n)

-- of those before n that have this class, the first in the last of their files
pub record IsSeen (least files : List ℕ) (n class m : ℕ) : Type 0 where
  pub there : m < n
  pub class_is : slice_index least m ≡ class
  pub last : (k : ℕ) → k < n → slice_index least k ≡ class → slice_index files k ≤ slice_index files m
  pub first : (k : ℕ) → k < n → slice_index least k ≡ class → slice_index files k ≡ slice_index files m → m ≤ k

abbrev pub SeenIn : List ℕ → List ℕ → ℕ → ℕ → Option ℕ → Type 0
SeenIn least files n class None = (k : ℕ) → k < n → slice_index least k ≡ class → ⊥
SeenIn least files n class (Some m) = IsSeen least files n class m
