-- Numbers that are read group by group.
use Rattle.std.proofs.Common.{◌≡◌, ℕ, zero, suc, min, ◌+◌, ◌*◌, ◌/◌, ◌%◌, ◌^◌, ◌-◌, ◌<◌, ◌≤◌, List, [], ◌∷◌, ◌++◌, length, Some, slice_get, drop, refl, sym, ap, ◌∙◌, ⊎_elim, arith}
use Rattle.std.proofs.lemmas.Bool.{cases_lt}
use Rattle.std.proofs.lemmas.List.{append_assoc}
use Rattle.std.specs.Prelude.{slice_index_or}
use Rattle.dwz_model.proofs.ListFacts.{drop_first, got_below, got_index_or, got_there}
use Rattle.dwz_label.specs.Labels.{number}
use Rattle.dwz_label.proofs.NumberLemmas.{number_last, number_more}

pub group_got : (label : List ℕ) (at : ℕ) → at < length label → slice_get label at ≡ Some (slice_index_or label at 0)
group_got label at low = let x = got_there label at low in x.1 ∙ ap (λ (k : ℕ). Some k) (sym (got_index_or label at x.0 0 x.1))

-- a number stands at a place; this is its first group
pub record Group (label : List ℕ) (at : ℕ) (rest : List ℕ) (n group : ℕ) : Type 0 where
  pub end : group < 128 → (n < 128) × (group ≡ n) × (drop (at + 1) label ≡ rest)
  pub more : 128 ≤ group → (128 ≤ n) × (group ≡ n % 128 + 128) × (drop (at + 1) label ≡ number (n / 128) ++ rest)

pub group_at : (label : List ℕ) (at : ℕ) (rest : List ℕ) (n : ℕ) → drop at label ≡ number n ++ rest → at < length label → Group label at rest n (slice_index_or label at 0)
group_at label at rest n e inside = ⊎_elim short long (cases_lt n 128) where
  short : n < 128 → Group label at rest n (slice_index_or label at 0)
  short lt =
      let x = drop_first label at n rest (e ∙ ap (λ (w : List ℕ). w ++ rest) (number_last n lt)) in
      let both : Some (slice_index_or label at 0) ≡ Some n = sym (group_got label at inside) ∙ x.0 in
      let same : slice_index_or label at 0 ≡ n = cc in
      record { end = λ low. (lt, same, x.1); more = λ high. absurd (omega arith) }

  long : 128 ≤ n → Group label at rest n (slice_index_or label at 0)
  long ge =
      let x = drop_first label at (n % 128 + 128) (number (n / 128) ++ rest) (e ∙ ap (λ (w : List ℕ). w ++ rest) (number_more n ge)) in
      let both : Some (slice_index_or label at 0) ≡ Some (n % 128 + 128) = sym (group_got label at inside) ∙ x.0 in
      let same : slice_index_or label at 0 ≡ n % 128 + 128 = cc in
      record { end = λ low. absurd (omega arith); more = λ high. (ge, same, x.1) }

-- a number has a group
pub no_group : (label : List ℕ) (at : ℕ) (rest : List ℕ) (n : ℕ) → drop at label ≡ number n ++ rest → length label ≤ at → ⊥
no_group label at rest n e le = ⊎_elim short long (cases_lt n 128) where
  short : n < 128 → ⊥
  short lt =
      let x = drop_first label at n rest (e ∙ ap (λ (w : List ℕ). w ++ rest) (number_last n lt)) in
      let low = got_below label at n x.0 in
      omega arith

  long : 128 ≤ n → ⊥
  long ge =
      let x = drop_first label at (n % 128 + 128) (number (n / 128) ++ rest) (e ∙ ap (λ (w : List ℕ). w ++ rest) (number_more n ge)) in
      let low = got_below label at (n % 128 + 128) x.0 in
      omega arith

-- its first group tells whether it is even
pub parity : (label : List ℕ) (at : ℕ) (rest : List ℕ) (n : ℕ) → drop at label ≡ number n ++ rest → at < length label → slice_index_or label at 0 % 2 ≡ n % 2
parity label at rest n e inside = ⊎_elim low high (cases_lt (slice_index_or label at 0) 128) where
  low : slice_index_or label at 0 < 128 → slice_index_or label at 0 % 2 ≡ n % 2
  low lt = ap (λ (k : ℕ). k % 2) ((group_at label at rest n e inside).end lt).1

  high : 128 ≤ slice_index_or label at 0 → slice_index_or label at 0 % 2 ≡ n % 2
  high ge = let group = ((group_at label at rest n e inside).more ge).1 in omega arith

-- ---- a number that is copied

-- of a number groups are left
pub record SameLeft (label : List ℕ) (at : ℕ) (rest : List ℕ) (word : ℕ) (old out : List ℕ) : Type 0 where
  pub left : ℕ
  pub stands : drop at label ≡ number left ++ rest
  pub whole : out ++ number left ≡ old ++ number word

pub same_begins : (label : List ℕ) (at : ℕ) (rest : List ℕ) (word : ℕ) (old : List ℕ) → drop at label ≡ number word ++ rest → SameLeft label at rest word old old
same_begins label at rest word old e = record { left = word; stands = e; whole = refl }

pub same_more : (label : List ℕ) (at : ℕ) (rest : List ℕ) (word : ℕ) (old out new : List ℕ) → SameLeft label at rest word old out → at < length label → 128 ≤ slice_index_or label at 0
    → new ≡ out ++ slice_index_or label at 0 ∷ [] → SameLeft label (at + 1) rest word old new
same_more label at rest word old out new h inside high e =
    let m = (group_at label at rest h.left h.stands inside).more high in
    record {
      left = h.left / 128;
      stands = m.2;
      whole = ap (λ (w : List ℕ). w ++ number (h.left / 128)) e ∙ append_assoc out (slice_index_or label at 0 ∷ []) (number (h.left / 128))
          ∙ ap (λ (k : ℕ). out ++ k ∷ number (h.left / 128)) m.1 ∙ ap (λ (w : List ℕ). out ++ w) (sym (number_more h.left m.0)) ∙ h.whole;
    }

pub same_ends : (label : List ℕ) (at : ℕ) (rest : List ℕ) (word : ℕ) (old out new : List ℕ) → SameLeft label at rest word old out → at < length label → slice_index_or label at 0 < 128
    → new ≡ out ++ slice_index_or label at 0 ∷ [] → (drop (at + 1) label ≡ rest) × (new ≡ old ++ number word)
same_ends label at rest word old out new h inside low e =
    let m = (group_at label at rest h.left h.stands inside).end low in
    (m.2, e ∙ ap (λ (k : ℕ). out ++ k ∷ []) m.1 ∙ ap (λ (w : List ℕ). out ++ w) (sym (number_last h.left m.0)) ∙ h.whole)

-- ---- a number that is read

-- groups are left of a number, and those before it were read
pub record ReadLeft (label : List ℕ) (at : ℕ) (rest : List ℕ) (word read scale : ℕ) : Type 0 where
  pub left : ℕ
  pub stands : drop at label ≡ number left ++ rest
  pub sum : read + scale * left ≡ word

pub read_begins : (label : List ℕ) (at : ℕ) (rest : List ℕ) (word : ℕ) → drop at label ≡ number word ++ rest → ReadLeft label at rest word 0 1
read_begins label at rest word e = record { left = word; stands = e; sum = (let z : 0 + 1 * word ≡ word = omega arith in z) }

le_times : (a b : ℕ) → 1 ≤ b → a ≤ a * b
le_times a zero l = absurd (omega arith)
le_times a (suc b) l = (let e : a * suc b ≡ a + a * b = omega arith in omega arith)

in_parts : (a b d : ℕ) → a * (128 * b + d) ≡ a * 128 * b + a * d
in_parts a b d = omega arith

-- the next group is read; nothing is cut, where the whole number isn't
pub read_more : (label : List ℕ) (at : ℕ) (rest : List ℕ) (word read scale part sum next : ℕ) → ReadLeft label at rest word read scale → word < 2 ^ 64 → at < length label
    → 128 ≤ slice_index_or label at 0 → part ≡ min (scale * (slice_index_or label at 0 % 128)) (2 ^ 64 - 1) → sum ≡ min (read + part) (2 ^ 64 - 1) → next ≡ min (scale * 128) (2 ^ 64 - 1)
    → ReadLeft label (at + 1) rest word sum next
read_more label at rest word read scale part sum next h fits inside high part_is sum_is next_is =
    let m = (group_at label at rest h.left h.stands inside).more high in
    let q = h.left / 128 in
    let r = h.left % 128 in
    let wide = m.0 in
    let group = m.1 in
    let parts : h.left ≡ 128 * q + r = omega arith in
    let some : 1 ≤ q = omega arith in
    let up = le_times (scale * 128) q some in
    let split = in_parts scale q r in
    let whole : read + scale * (128 * q + r) ≡ word = ap (λ (k : ℕ). read + scale * k) (sym parts) ∙ h.sum in
    let low : slice_index_or label at 0 % 128 ≡ r = omega arith in
    let own : part ≡ min (scale * r) (2 ^ 64 - 1) = part_is ∙ ap (λ (k : ℕ). min (scale * k) (2 ^ 64 - 1)) low in
    let next_same : next ≡ scale * 128 = omega arith in
    let sum_same : sum ≡ read + scale * r = omega arith in
    let all : read + scale * r + scale * 128 * q ≡ word = omega arith in
    record { left = q; stands = m.2; sum = ap (λ (k : ℕ). sum + k * q) next_same ∙ ap (λ (k : ℕ). k + scale * 128 * q) sum_same ∙ all }

-- the last group is read
pub read_ends : (label : List ℕ) (at : ℕ) (rest : List ℕ) (word read scale part sum : ℕ) → ReadLeft label at rest word read scale → word < 2 ^ 64 → at < length label
    → slice_index_or label at 0 < 128 → part ≡ min (scale * (slice_index_or label at 0 % 128)) (2 ^ 64 - 1) → sum ≡ min (read + part) (2 ^ 64 - 1) → (drop (at + 1) label ≡ rest) × (sum ≡ word)
read_ends label at rest word read scale part sum h fits inside low part_is sum_is =
    let m = (group_at label at rest h.left h.stands inside).end low in
    let few = m.0 in
    let group = m.1 in
    let same : slice_index_or label at 0 % 128 ≡ h.left = omega arith in
    let own : part ≡ min (scale * h.left) (2 ^ 64 - 1) = part_is ∙ ap (λ (k : ℕ). min (scale * k) (2 ^ 64 - 1)) same in
    let all = h.sum in
    (m.2, (let z : sum ≡ word = omega arith in z))
