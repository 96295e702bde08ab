-- How long a file is that is made from another.
use Rattle.std.proofs.Common.{◌≡◌, ℕ, ◌+◌, ◌*◌, ◌≤◌, List, length, Option, Some, None, ap, subst, ◌∙◌, arith}
use Rattle.std.specs.Int.{next_multiple_of}
use Rattle.dwz_def_reading.specs.ElfLayout.{Changes, added_bytes, content_at, keep_end, laid_file, new_count, new_headers_at, placed_end, placed_from, placed_of, rebuilt, rebuilt_length, too_large}
use Rattle.dwz_def_reading.specs.ElfReading.{ElfView}
use Rattle.dwz_def_reading.proofs.PlacedLemmas.{placed_end-least, up_le}
use Rattle.dwz_elf.specs.declared.layout.Places.{Places}
use Rattle.dwz_elf.specs.Places.{ArePlaced}

-- the file is at least as long as the place where the sections end
end_within : (e : ElfView) (changes : Changes) (input : List ℕ) (order : List (ℕ × ℕ)) → placed_end (keep_end e) (placed_of e changes input order)
    + length (added_bytes changes) ≤ rebuilt_length e changes input order
unfolding rebuilt_length
end_within e changes input order =
    let up = up_le (placed_end (keep_end e) (placed_of e changes input order) + length (added_bytes changes)) 8 in
    omega (arith, up)

pub kept_too_long : (e : ElfView) (changes : Changes) (input : List ℕ) (order : List (ℕ × ℕ)) (keep : ℕ) → keep ≡ keep_end e → too_large ≤ keep → too_large ≤ rebuilt_length e changes input order
kept_too_long e changes input order keep is large =
    let more : keep_end e ≤ placed_end (keep_end e) (placed_of e changes input order) = placed_end-least e (content_at e changes input) (keep_end e) order in
    omega (arith, more, is, large, end_within e changes input order)

pub placed_too_far : (e : ElfView) (changes : Changes) (input : List ℕ) (order : List (ℕ × ℕ)) (keep : ℕ) (places : Option Places) → keep ≡ keep_end e
    → ArePlaced e (content_at e changes input) keep order places → places ≡ None → too_large ≤ rebuilt_length e changes input order
placed_too_far e changes input order keep (Some p) is placed none = absurd (cc)
placed_too_far e changes input order keep None is placed none =
    let same : placed_end keep (placed_from e (content_at e changes input) keep order) ≡ placed_end (keep_end e) (placed_of e changes input order) =
    ap (λ k. placed_end k (placed_from e (content_at e changes input) k order)) is in
    omega (arith, placed, same, end_within e changes input order)

-- the places are those of the definition
pub record IsPlaced (e : ElfView) (changes : Changes) (input : List ℕ) (order : List (ℕ × ℕ)) (p : Places) : Type 0 where
  pub moved : p.moved.items ≡ placed_of e changes input order
  pub end : p.end ≡ placed_end (keep_end e) (placed_of e changes input order)

pub the_places : (e : ElfView) (changes : Changes) (input : List ℕ) (order : List (ℕ × ℕ)) (keep : ℕ) (places : Option Places) (p : Places) → keep ≡ keep_end e
    → ArePlaced e (content_at e changes input) keep order places → places ≡ Some p → IsPlaced e changes input order p
the_places e changes input order keep None p is placed some = absurd (cc)
the_places e changes input order keep (Some q) p is placed some =
    let same : q ≡ p = cc in
    let at_keep : placed_end keep (placed_from e (content_at e changes input) keep order) ≡ placed_end (keep_end e) (placed_of e changes input order) =
    ap (λ k. placed_end k (placed_from e (content_at e changes input) k order)) is in
    subst (λ (r : Places). IsPlaced e changes input order r) same (record {
      moved = placed.0 ∙ ap (λ k. placed_from e (content_at e changes input) k order) is;
      end = placed.1 ∙ at_keep;
    })

pub sup_too_long : (e : ElfView) (changes : Changes) (input sup : List ℕ) (order : List (ℕ × ℕ)) (p : Places) → IsPlaced e changes input order p → sup ≡ added_bytes changes
    → too_large ≤ p.end + length sup → too_large ≤ rebuilt_length e changes input order
sup_too_long e changes input sup order p placed is large =
    let same : length sup ≡ length (added_bytes changes) = ap length is in
    omega (arith, placed.end, same, large, end_within e changes input order)

pub the_length : (e : ElfView) (changes : Changes) (input sup : List ℕ) (order : List (ℕ × ℕ)) (p : Places) (headers_at count : ℕ) → IsPlaced e changes input order p → sup ≡ added_bytes changes
    → headers_at ≡ next_multiple_of (p.end + length sup) 8 → count ≡ new_count e changes → headers_at + 64 * count ≡ rebuilt_length e changes input order
unfolding rebuilt_length
the_length e changes input sup order p headers_at count placed is at_is count_is =
    let place : headers_at ≡ new_headers_at changes (placed_end (keep_end e) (placed_of e changes input order)) =
    at_is ∙ (ap (λ s. next_multiple_of (p.end + length s) 8) is ∙ ap (new_headers_at changes) placed.end) in
    let at_count : 64 * count ≡ 64 * new_count e changes = ap (λ n. 64 * n) count_is in
    let joined : headers_at + 64 * count ≡ new_headers_at changes (placed_end (keep_end e) (placed_of e changes input order)) + 64 * new_count e changes = cc in
    joined

pub the_bytes : (e : ElfView) (changes : Changes) (input out : List ℕ) (order : List (ℕ × ℕ)) (p : Places) → IsPlaced e changes input order p → out ≡ laid_file e changes input p.moved.items
    → out ≡ rebuilt e changes input order
unfolding rebuilt
the_bytes e changes input out order p placed is = is ∙ ap (laid_file e changes input) placed.moved
