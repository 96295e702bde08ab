-- Inner: numbers under keys, and the least number under each. No public clause cites it.
use Rattle.std.specs.Prelude.{◌≡◌, ℕ, suc, ◌-◌, ◌<◌, ◌≤◌, Bool, true, false, Contains, List, length, slice_index, slice_index_or}
use Rattle.std.specs.declared.cmp.Ordering.{Ordering}
use Rattle.std.specs.declared.cmp.Ordering.TheVariants.{Equal}
use Rattle.dwz_label.specs.declared.equal.Keyed.{Keyed}

abbrev pub Order : Type 0 → Type 0
Order K = K → K → Ordering

-- m is the least number of a row under that key
pub record IsLeastUnder {K : Type 0} (cmp : Order K) (rows : List (Keyed K)) (key : K) (m : ℕ) : Type 0 where
  pub row : Keyed K
  pub there : Contains rows row
  pub under : cmp key row.key ≡ Equal
  pub number : row.number ≡ m
  pub least : (r : Keyed K) → Contains rows r → cmp key r.key ≡ Equal → m ≤ r.number

-- rows of one number are under one key
abbrev pub AreOneKey : {K : Type 0} → Order K → List (Keyed K) → Type 0
AreOneKey {K} cmp rows = (r s : Keyed K) → Contains rows r → Contains rows s → r.number ≡ s.number → cmp r.key s.key ≡ Equal

-- at the number of each row stands the least under its key, and at each other number what stood there
pub record AreLeastPut {K : Type 0} (cmp : Order K) (rows : List (Keyed K)) (old new : List ℕ) : Type 0 where
  pub len : length new ≡ length old
  pub put : (r : Keyed K) → Contains rows r → IsLeastUnder cmp rows r.key (slice_index new r.number)
  pub other : (n : ℕ) → ((r : Keyed K) → Contains rows r → r.number ≡ n → ⊥) → slice_index new n ≡ slice_index old n

-- the key and the number of the row at i
abbrev pub row_key : {K : Type 0} → List (Keyed K) → ℕ → Keyed K → K
row_key rows i d = (slice_index_or rows i d).key

abbrev pub row_number : {K : Type 0} → List (Keyed K) → ℕ → Keyed K → ℕ
row_number rows i d = (slice_index_or rows i d).number

-- whether the row at i is under another key than the row before it
pub record IsNewKey {K : Type 0} (cmp : Order K) (rows : List (Keyed K)) (is_new : Bool) (i : ℕ) : Type 0 where
  pub new : is_new ≡ true → (j : ℕ) → i ≡ suc j → (d : Keyed K) → cmp (row_key rows j d) (row_key rows i d) ≡ Equal → ⊥
  pub again : is_new ≡ false → (j : ℕ) × (i ≡ suc j) × ((d : Keyed K) → cmp (row_key rows j d) (row_key rows i d) ≡ Equal)

-- the same of the first rows alone; and the number that was written last is the least under the key of the last of these
pub record ArePutTo {K : Type 0} (cmp : Order K) (rows : List (Keyed K)) (old : List ℕ) (k : ℕ) (new : List ℕ) (first : ℕ) : Type 0 where
  pub len : length new ≡ length old
  pub put : (i : ℕ) (d : Keyed K) → i < k → IsLeastUnder cmp rows (row_key rows i d) (slice_index new (row_number rows i d))
  pub last : (d : Keyed K) → 0 < k → IsLeastUnder cmp rows (row_key rows (k - 1) d) first
  pub other : (n : ℕ) → ((i : ℕ) (d : Keyed K) → i < k → row_number rows i d ≡ n → ⊥) → slice_index new n ≡ slice_index old n

-- one row or more for each picked number below count, under its key
pub record AreKeyed {K : Type 0} (Picked : ℕ → Type 0) (IsKey : ℕ → K → Type 0) (count : ℕ) (rows : List (Keyed K)) : Type 0 where
  pub inside : (r : Keyed K) → Contains rows r → (r.number < count) × Picked r.number × IsKey r.number r.key
  pub all : (n : ℕ) → n < count → Picked n → (r : Keyed K) × Contains rows r × (r.number ≡ n)
