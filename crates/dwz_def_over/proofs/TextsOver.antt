-- The texts of a common file that stands, which files may share.
use Rattle.std.proofs.Common.{◌≡◌, ℕ, ◌+◌, ◌<◌, ◌^◌, Bool, true, false, eqb, eqb-true, List, [], ◌∷◌, ◌++◌, length, refl, sym, ap, ◌∙◌, arith, append_assoc, append-nil, length-append}
use Rattle.dwz_def_reading.specs.Texts.{IsTextAt}
use Rattle.dwz_def_encoding.specs.Placing.{texts_bytes}
use Rattle.dwz_def_readback.specs.Files.{shared_if, texts_from}

-- ---- the texts of a section, one behind the other, are its front

IsFront : List ℕ → List (List ℕ) → Type 0
IsFront bytes texts = (tail : List ℕ) × (bytes ≡ texts_bytes texts ++ tail)

step : (found bytes : List ℕ) (b : ℕ) (t : Bool) → eqb b 0 ≡ t → IsFront bytes (texts_from [] bytes) → IsFront ((found ++ b ∷ []) ++ bytes) (texts_from (found ++ b ∷ []) bytes)
    → IsFront (found ++ b ∷ bytes) (elim t as (λ _. List (List ℕ)) [ true ↦ found ∷ texts_from [] bytes | false ↦ texts_from (found ++ b ∷ []) bytes ])
unfolding IsFront texts_bytes
step found bytes b true e r more = (
  r.0,
  ap (λ (c : ℕ). found ++ c ∷ bytes) (eqb-true b 0 e) ∙ ap (λ (l : List ℕ). found ++ 0 ∷ l) r.1 ∙ sym (append_assoc found (0 ∷ texts_bytes (texts_from [] bytes)) r.0),
)
step found bytes b false e r more = (more.0, sym (append_assoc found (b ∷ []) bytes) ∙ more.1)

front : (found bytes : List ℕ) → IsFront (found ++ bytes) (texts_from found bytes)
unfolding IsFront texts_from texts_bytes
front found [] = (found, append-nil found)
front found (b ∷ bytes) = step found bytes b (eqb b 0) refl (front [] bytes) (front (found ++ b ∷ []) bytes)

text_there : (bytes : List ℕ) (at : ℕ) (text : List ℕ) → IsTextAt (texts_bytes (texts_from [] bytes)) at text → IsTextAt bytes at text
unfolding IsFront
text_there bytes at text stands =
    let r = front [] bytes in
    record {
      before = stands.before;
      front = stands.front;
      after = stands.after ++ r.0;
      length_before = stands.length_before;
      spelled = stands.spelled;
      parts = r.1 ∙ ap (λ (l : List ℕ). l ++ r.0) stands.parts ∙ append_assoc stands.before (stands.front ++ stands.after) r.0
          ∙ ap (λ (l : List ℕ). stands.before ++ l) (append_assoc stands.front stands.after r.0);
    }

texts_len : (bytes : List ℕ) → length (texts_bytes (texts_from [] bytes)) < length bytes + 1
unfolding IsFront
texts_len bytes = let r = front [] bytes in let l = ap length r.1 in omega (arith, length-append (texts_bytes (texts_from [] bytes)) r.0)

no_text : (at : ℕ) (text : List ℕ) → IsTextAt [] at text → ⊥
no_text at text stands =
    omega (
      arith,
      ap length stands.parts,
      ap length stands.spelled.parts,
      length-append stands.before (stands.front ++ stands.after),
      length-append stands.front stands.after,
      length-append text (0 ∷ []),
    )

pub shared_few : (bytes : List ℕ) → length bytes < 2 ^ 32 → (b : Bool) → length (texts_bytes (shared_if b (texts_from [] bytes))) < 2 ^ 32
unfolding texts_bytes
shared_few bytes small true = let l = texts_len bytes in omega arith
shared_few bytes small false = omega arith

pub shared_there : (bytes : List ℕ) (b : Bool) (at : ℕ) (text : List ℕ) → IsTextAt (texts_bytes (shared_if b (texts_from [] bytes))) at text → IsTextAt bytes at text
unfolding texts_bytes
shared_there bytes true at text stands = text_there bytes at text stands
shared_there bytes false at text stands = absurd (no_text at text stands)
