-- With at most one file there are too many bytes, and not before; and with one there are, unless all files together don't have too many.
use Rattle.std.proofs.Common.{◌≡◌, ◌⊎◌, ℕ, zero, suc, ◌+◌, ◌<◌, ◌≤◌, List, [], ◌∷◌, length, take, refl, ap, inl, inr, arith}
use Rattle.std.specs.List.{sum_by}
use Rattle.std.proofs.lemmas.List.Sums.{sum_by-cons, sum_by-take-le}
use Rattle.dwz_def_reading.specs.Files.{longest_files}
use Rattle.dwz_def_run.specs.Batches.{FileGot, IsPast, bytes_together}

abbrev size : FileGot → ℕ
size file = length file.content

abbrev sizes : List FileGot → ℕ
sizes files = sum_by size files

-- more files have no fewer bytes
rises : (m n : ℕ) (files : List FileGot) → m ≤ n → sizes (take m files) ≤ sizes (take n files)
rises zero n files le = omega (arith)
rises (suc m) zero files le = absurd (omega (arith, le))
rises (suc m) (suc n) [] le = omega (arith)
rises (suc m) (suc n) (f ∷ files) le =
    let a = sum_by-cons size f (take m files) in
    let b = sum_by-cons size f (take n files) in
    let more = rises m n files (omega (arith, le)) in
    omega (arith, a, b, more)

pub one_past : (common : List ℕ) (files : List FileGot) (m n : ℕ) → IsPast common files m → IsPast common files n → m ≡ n
one_past common files m n a b =
    let early = a.past in
    let late = b.past in
    let first = a.before in
    let second = b.before in
    elim (cases m n) [
      | inl e ↦ e
      | inr (inl lt) ↦ absurd (let more = rises (suc m) n files lt in omega (arith, early, second, more))
      | inr (inr lt) ↦ absurd (let more = rises (suc n) m files lt in omega (arith, late, first, more))
    ] where
      cases : (m n : ℕ) → (m ≡ n) ⊎ ((suc m ≤ n) ⊎ (suc n ≤ m))
      cases zero zero = inl refl
      cases zero (suc n) = inr (inl (omega (arith)))
      cases (suc m) zero = inr (inr (omega (arith)))
      cases (suc m) (suc n) = elim (cases m n) [
        | inl e ↦ inl (ap suc e)
        | inr (inl lt) ↦ inr (inl (omega (arith, lt)))
        | inr (inr lt) ↦ inr (inr (omega (arith, lt)))
      ]

pub not_past : (common : List ℕ) (files : List FileGot) (n : ℕ) → bytes_together common files ≤ longest_files → IsPast common files n → ⊥
not_past common files n few past =
    let beyond = past.past in
    let part = sum_by-take-le size files (suc n) in
    omega (arith, few, beyond, part)

-- so many bytes come before these files
record Passes (before : ℕ) (files : List FileGot) (number : ℕ) : Type 0 where
  few : before + sizes (take number files) ≤ longest_files
  many : longest_files < before + sizes (take (suc number) files)

passes : (before : ℕ) (files : List FileGot) → before ≤ longest_files → (before + sizes files ≤ longest_files) ⊎ ((n : ℕ) × Passes before files n)
passes before [] le = inl (omega (arith, le))
passes before (f ∷ files) le = elim (total (before + size f) longest_files) [
  | inr more ↦ inr (0, record { few = omega (arith, le); many = let a = sum_by-cons size f [] in omega (arith, a, more) })
  | inl fits ↦ elim (passes (before + size f) files fits) [
    | inl few ↦ inl (let a = sum_by-cons size f files in omega (arith, a, few))
    | inr p ↦ inr (
      suc p.0,
      (
          let few = p.1.few in
          let many = p.1.many in
          let a = sum_by-cons size f (take p.0 files) in
          let b = sum_by-cons size f (take (suc p.0) files) in
          record { few = omega (arith, a, few); many = omega (arith, b, many) }),
    )
  ]
] where
  total : (a b : ℕ) → (a ≤ b) ⊎ (b < a)
  total zero b = inl (omega (arith))
  total (suc a) zero = inr (omega (arith))
  total (suc a) (suc b) = elim (total a b) [ inl le ↦ inl (omega (arith, le)) | inr lt ↦ inr (omega (arith, lt)) ]

pub either_past : (common : List ℕ) (files : List FileGot) → length common ≤ longest_files
    → (bytes_together common files ≤ longest_files) ⊎ ((n : ℕ) × IsPast common files n)
either_past common files le = elim (passes (length common) files le) [
  | inl few ↦ inl few
  | inr p ↦ inr (p.0, record { before = p.1.few; past = p.1.many })
]
