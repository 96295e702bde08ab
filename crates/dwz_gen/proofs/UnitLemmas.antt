-- A unit is its constant bytes with two numbers between them, and the units of a file come one behind the other.
use Rattle.std.proofs.Common.{◌≡◌, ℕ, suc, ◌+◌, List, [], ◌∷◌, ◌++◌, refl, sym, ap, ◌∙◌, arith, append_assoc, append-nil}
use Rattle.std.specs.List.{flat_map, range_with_len}
use Rattle.std.proofs.lemmas.Grind.{flat_map-append}
use Rattle.dwz_bytes.specs.Spelling.{groups_in, le_bytes, padded}
use Rattle.dwz_def_reading.specs.Abbrevs.{pairs_bytes, table_bytes}
use Rattle.dwz_def_reading.proofs.ListFacts.{numbers_more}
use Rattle.dwz_gen.specs.declared.unit.TheConstants.{ABBREVS, FRONT, NAMED}
use Rattle.dwz_gen.specs.Demo.{demo_info, demo_table, demo_unit_bytes}

-- ---- the constant bytes

pub abbrevs_written : ABBREVS.now ≡ table_bytes demo_table
unfolding table_bytes pairs_bytes padded groups_in
abbrevs_written = refl

unit_parts : (own shared : ℕ) → FRONT.now ++ (le_bytes 4 own ++ (NAMED.now ++ (le_bytes 4 shared ++ 0 ∷ []))) ≡ demo_unit_bytes own shared
unfolding demo_unit_bytes le_bytes
unit_parts own shared = refl

pub unit_joined : (own shared : ℕ) (out a b c d e : List ℕ) → a ≡ out ++ FRONT.now → b ≡ a ++ le_bytes 4 own → c ≡ b ++ NAMED.now
    → d ≡ c ++ le_bytes 4 shared → e ≡ d ++ 0 ∷ [] → e ≡ out ++ demo_unit_bytes own shared
unit_joined own shared out a b c d e first second third fourth fifth =
    rw (fifth, fourth, third, second, first, ← unit_parts own shared)
    (six out FRONT.now (le_bytes 4 own) NAMED.now (le_bytes 4 shared) (0 ∷ []))
  where
    six : (p q r s t u : List ℕ) → ((((p ++ q) ++ r) ++ s) ++ t) ++ u ≡ p ++ (q ++ (r ++ (s ++ (t ++ u))))
    six p q r s t u = simp append_assoc

-- ---- the units of a file

range_next : (n : ℕ) → range_with_len 0 (n + 1) ≡ range_with_len 0 n ++ n ∷ []
range_next n =
    let next : n + 1 ≡ suc n = omega arith in
    let none : 0 + n ≡ n = omega arith in
    rw next (numbers_more 0 n ∙ ap (λ (k : ℕ). range_with_len 0 n ++ k ∷ []) none)

units_more : (n first : ℕ) → demo_info (n + 1) first ≡ demo_info n first ++ demo_unit_bytes (first + n) n
units_more n first =
    let unit : ℕ → List ℕ = λ u. demo_unit_bytes (first + u) u in
    ap (flat_map unit) (range_next n)
    ∙ flat_map-append unit (range_with_len 0 n) (n ∷ [])
    ∙ ap (λ (w : List ℕ). demo_info n first ++ w) (append-nil (unit n))

pub one_more_unit : (n first : ℕ) (old new : List ℕ) → new ≡ old ++ demo_unit_bytes (first + n) n → old ≡ demo_info n first
    → new ≡ demo_info (n + 1) first
one_more_unit n first old new is so_far = rw (is, so_far) (sym (units_more n first))
