-- The names of attributes, one by one.
use Rattle.std.proofs.Common.{◌≡◌, ℕ, pos, ◌+◌, ◌<◌, ◌≤◌, Bool, true, false, List, [], ◌∷◌, ◌++◌, drop, get_or, length, sym, ap, ◌∙◌, refl}
use Rattle.std.specs.Prelude.{◌==◌, ◌≢◌, if◌then◌else◌}
use Rattle.std.proofs.lemmas.Bool.{cond-false, cond-true, eq-eqb, ne_eqb}
use Rattle.std.proofs.lemmas.List.{append-nil, append_assoc, drop_all}
use Rattle.dwz_def_reading.proofs.ListFacts.{drop_pairs}
use Rattle.dwz_label.specs.Labels.{number}
use Rattle.dwz_label_words.specs.Shapes.{pair_names}
use Rattle.dwz_model.specs.declared.place.Pair.{Pair}

abbrev pub no_pair : Pair
no_pair = record { name = 0; form = 0; constant = pos 0 }

pub sibling_name : (p : Pair) (out : List ℕ) → p.name ≡ 0x01 → out ≡ out ++ pair_names (p ∷ [])
unfolding pair_names
sibling_name p out e = sym (append-nil out) ∙ ap (λ (w : List ℕ). out ++ w) (sym (cond-true (p.name == 0x01) [] (number p.name ++ []) (eq-eqb p.name 0x01 e)))

pub other_name : (p : Pair) → p.name ≢ 0x01 → number p.name ≡ pair_names (p ∷ [])
unfolding pair_names
other_name p ne = sym (append-nil (number p.name)) ∙ sym (cond-false (p.name == 0x01) [] (number p.name ++ []) (ne_eqb p.name 0x01 ne))

names_step : (p : Pair) (pairs : List Pair) → pair_names (p ∷ pairs) ≡ pair_names (p ∷ []) ++ pair_names pairs
unfolding pair_names
names_step p pairs = go (p.name == 0x01) where
  go : (b : Bool) → (if b then pair_names pairs else (number p.name ++ pair_names pairs)) ≡ (if b then [] else (number p.name ++ [])) ++ pair_names pairs
  go true = refl
  go false = ap (λ (w : List ℕ). w ++ pair_names pairs) (sym (append-nil (number p.name)))

-- one more was appended
pub next_name : (pairs : List Pair) (j : ℕ) (out new all : List ℕ) → j < length pairs → new ≡ out ++ pair_names (get_or pairs j no_pair ∷ [])
    → out ++ pair_names (drop j pairs) ≡ all → new ++ pair_names (drop (j + 1) pairs) ≡ all
next_name pairs j out new all l is h =
    let p = get_or pairs j no_pair in
    let rest = pair_names (drop (j + 1) pairs) in
    ap (λ (w : List ℕ). w ++ rest) is ∙ append_assoc out (pair_names (p ∷ [])) rest
    ∙ ap (λ (w : List ℕ). out ++ w) (sym (names_step p (drop (j + 1) pairs)) ∙ ap pair_names (sym (drop_pairs pairs j no_pair l))) ∙ h

pub no_names : (pairs : List Pair) (j : ℕ) (out all : List ℕ) → length pairs ≤ j → out ++ pair_names (drop j pairs) ≡ all → out ≡ all
unfolding pair_names
no_names pairs j out all l h = sym (append-nil out) ∙ ap (λ (w : List Pair). out ++ pair_names w) (sym (drop_all j pairs l)) ∙ h
