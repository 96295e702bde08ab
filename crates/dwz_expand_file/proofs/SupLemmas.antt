-- The name of `.debug_sup` in a name table.
use Rattle.std.proofs.Common.{◌≡◌, ℕ, Bool, true, false, cond, eqb, List, [], ◌∷◌, ◌++◌, drop, Option, Some, None, refl, sym, ap, ◌∙◌, codes}
use Rattle.std.specs.Prelude.{◌&&◌, nat_eq}
use Rattle.std.specs.List.{starts_with}
use Rattle.std.specs.Option.{option_map}
use Rattle.std.specs.Str.{bytes_eq}
use Rattle.std.proofs.lemmas.Bool.{eqb-false, eqb-true, ne_eqb}
use Rattle.std.proofs.lemmas.Slice.Eq.{bytes_eq-Decides}
use Rattle.dwz_def_reading.specs.ElfNames.{code_of, known_name, name_at, section_name_in}
use Rattle.dwz_elf.specs.Names.{is_called}
use Rattle.dwz_law_expand.proofs.DropPieces.{and_none}

same_eq : (a b : ℕ) → eqb a b ≡ eqb b a
same_eq a b = by (eqb a b) refl where
  by : (t : Bool) → eqb a b ≡ t → eqb a b ≡ eqb b a
  by true e = let s = eqb-true a b e in λ j. eqb (s j) (sym s j)
  by false e = e ∙ sym (ne_eqb b a (λ (h : b ≡ a). eqb-false a b e (sym h)))

-- no byte is 0
abbrev HasNoZero : List ℕ → Type 0
HasNoZero [] = Unit {0}
HasNoZero (c ∷ cs) = (eqb c 0 ≡ false) × HasNoZero cs

-- bytes begin with a name and a zero byte exactly where that is the name that stands there
begins : (name rest : List ℕ) → HasNoZero name → starts_with nat_eq rest (name ++ 0 ∷ []) ≡ is_called name (section_name_in rest)
unfolding section_name_in
begins [] [] some = refl
begins [] (b ∷ bs) some = by (eqb b 0) refl (section_name_in bs) where
  by : (t : Bool) → eqb b 0 ≡ t → (o : Option (List ℕ)) → (eqb 0 b && true) ≡ is_called [] (cond t (Some []) (option_map (λ n. b ∷ n) o))
  by true e o = ap (λ (t : Bool). t && true) (same_eq 0 b ∙ e)
  by false e None = ap (λ (t : Bool). t && true) (same_eq 0 b ∙ e)
  by false e (Some n) = ap (λ (t : Bool). t && true) (same_eq 0 b ∙ e)
begins (c ∷ cs) [] some = refl
begins (c ∷ cs) (b ∷ bs) some = ap (λ (t : Bool). eqb c b && t) (begins cs bs some.1) ∙ by (eqb b 0) refl (section_name_in bs) where
  by : (t : Bool) → eqb b 0 ≡ t → (o : Option (List ℕ)) → (eqb c b && is_called cs o) ≡ is_called (c ∷ cs) (cond t (Some []) (option_map (λ n. b ∷ n) o))
  by true e o = ap (λ (t : Bool). t && is_called cs o) (ap (eqb c) (eqb-true b 0 e) ∙ some.0)
  by false e None = and_none (eqb c b)
  by false e (Some n) = ap (λ (t : Bool). t && bytes_eq n cs) (same_eq c b)

-- ---- the code

small : (a b c d e f g h i : Bool) → i ≡ false
    → eqb (cond a 1 (cond b 2 (cond c 3 (cond d 4 (cond e 5 (cond f 6 (cond g 7 (cond h 8 (cond i 9 0))))))))) 9 ≡ false
small true b c d e f g h i off = refl
small false true c d e f g h i off = refl
small false false true d e f g h i off = refl
small false false false true e f g h i off = refl
small false false false false true f g h i off = refl
small false false false false false true g h i off = refl
small false false false false false false true h i off = refl
small false false false false false false false true i off = refl
small false false false false false false false false i off = ap (λ (t : Bool). eqb (cond t 9 0) 9) off

is_nine : (found : List ℕ) → eqb (code_of found) 9 ≡ bytes_eq found (codes ".debug_sup")
is_nine found = by (bytes_eq found (codes ".debug_sup")) refl where
  by : (t : Bool) → bytes_eq found (codes ".debug_sup") ≡ t → eqb (code_of found) 9 ≡ bytes_eq found (codes ".debug_sup")
  by true e =
      let is : found ≡ codes ".debug_sup" = (bytes_eq-Decides found (codes ".debug_sup")).0 e in
      let nine : eqb (code_of (codes ".debug_sup")) 9 ≡ true = refl in
      ap (λ (n : List ℕ). eqb (code_of n) 9) is ∙ (nine ∙ sym e)
  by false e =
      small (bytes_eq found (codes ".debug_info")) (bytes_eq found (codes ".debug_abbrev")) (bytes_eq found (codes ".debug_str")) (bytes_eq found (codes ".debug_line_str"))
      (bytes_eq found (codes ".debug_str_offsets")) (bytes_eq found (codes ".debug_line")) (bytes_eq found (codes ".debug_loclists")) (bytes_eq found (codes ".debug_aranges"))
      (bytes_eq found (codes ".debug_sup")) e ∙ sym e

named_nine : (o : Option (List ℕ)) → eqb (known_name o).code 9 ≡ is_called (codes ".debug_sup") o
named_nine None = refl
named_nine (Some found) = is_nine found

no_zero : HasNoZero (codes ".debug_sup")
no_zero = (refl, (refl, (refl, (refl, (refl, (refl, (refl, (refl, (refl, (refl, tt))))))))))

pub is_sup_name : (rest : List ℕ) → starts_with nat_eq rest (codes ".debug_sup" ++ 0 ∷ []) ≡ eqb (known_name (section_name_in rest)).code 9
is_sup_name rest = begins (codes ".debug_sup") rest no_zero ∙ sym (named_nine (section_name_in rest))

pub none_named : (table : List ℕ) (at : ℕ) → drop at table ≡ [] → false ≡ eqb (known_name (name_at table at)).code 9
unfolding section_name_in
none_named table at none = ap (λ (rest : List ℕ). eqb (known_name (section_name_in rest)).code 9) (sym none)
