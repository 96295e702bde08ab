-- What is appended, part by part: headers and entries.
use Rattle.std.proofs.Common.{◌≡◌, ℕ, ◌-◌, List, [], ◌∷◌, ◌++◌, refl, sym, ap, ◌∙◌, append_assoc}
use Rattle.dwz_bytes.specs.Spelling.{le_bytes}
use Rattle.dwz_encode.proofs.ByteLemmas.{two_parts}
use Rattle.dwz_layout.specs.Attributes.{Numbers}
use Rattle.dwz_expand_layout.specs.declared.entries.NewKind.{NewKind}
use Rattle.dwz_expand_layout.specs.declared.layout.LaidUnit.{LaidUnit}
use Rattle.dwz_expand_layout.specs.Written.{header_page, kind_byte, kind_page}

five : le_bytes 2 5 ≡ 5 ∷ 0 ∷ []
unfolding le_bytes
five = refl

pub header_put : (n : Numbers) (kind : NewKind) (o : LaidUnit) (old one two three last : List ℕ) (size type : ℕ) → size ≡ o.end - o.at - 4 → type ≡ kind_byte kind
    → one ≡ old ++ le_bytes 4 size → two ≡ one ++ (5 ∷ 0 ∷ type ∷ 8 ∷ []) → three ≡ two ++ le_bytes 4 o.table → last ≡ three ++ kind_page n kind → last ≡ old ++ header_page n kind o
header_put n kind o old one two three last size type s t p q r e =
    let rest = kind_page n kind in
    let front : two ≡ old ++ (le_bytes 4 size ++ (5 ∷ 0 ∷ type ∷ 8 ∷ [])) = two_parts old one two _ _ p q in
    let back : last ≡ two ++ (le_bytes 4 o.table ++ rest) = two_parts two three last _ rest r e in
    back
    ∙ ap (λ (w : List ℕ). w ++ (le_bytes 4 o.table ++ rest)) front
    ∙ append_assoc old (le_bytes 4 size ++ (5 ∷ 0 ∷ type ∷ 8 ∷ [])) (le_bytes 4 o.table ++ rest)
    ∙ ap (λ (w : List ℕ). old ++ w) (append_assoc (le_bytes 4 size) (5 ∷ 0 ∷ type ∷ 8 ∷ []) (le_bytes 4 o.table ++ rest))
    ∙ (λ i. old ++ (le_bytes 4 (s i) ++ (5 ∷ 0 ∷ t i ∷ 8 ∷ (le_bytes 4 o.table ++ rest))))
    ∙ ap (λ (w : List ℕ). old ++ (le_bytes 4 (o.end - o.at - 4) ++ (w ++ (kind_byte kind ∷ 8 ∷ (le_bytes 4 o.table ++ rest))))) (sym five)
