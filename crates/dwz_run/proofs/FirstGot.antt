-- What the first of several gets gave, and that the first file is held whole where it isn't too long, however long those behind it may be.
use Rattle.std.proofs.Common.{◌≡◌, ℕ, ◌+◌, Bool, true, false, cond, List, [], ◌∷◌, length, get_or, Option, Some, None, refl, sym, ap, ◌∙◌}
use Rattle.std.specs.Prelude.{option_and_then, option_map, if◌then◌else◌}
use Rattle.dwz_def_reading.specs.Files.{IsNotTooLong, no_files_before}
use Rattle.dwz_outside.specs.Store.{Store, got}
use Rattle.dwz_run_course.specs.Gets.{gets_by, is_longer_than}
use Rattle.dwz_def_run.proofs.ReusesGotten.{all_got, short}

module _ (store : Store) (longest behind before : ℕ) (name : List ℕ) (names contents : List (List ℕ)) where
  -- it comes first, and those behind it were got unless it is too long
  pub record Next : Type 0 where
    pub first : List ℕ
    pub rest : List (List ℕ)
    pub got_is : got store name ≡ Some first
    pub contents_are : contents ≡ first ∷ rest
    pub later : is_longer_than longest before first ≡ false → gets_by behind behind store (before + length first) names ≡ Some rest

  pub next : gets_by longest behind store before (name ∷ names) ≡ Some contents → Next
  next is = of_get (got store name) refl is where
    of_rest : (c : List ℕ) → got store name ≡ Some c → (b : Bool) (g : Option (List (List ℕ))) → is_longer_than longest before c ≡ b
        → gets_by behind behind store (before + length c) names ≡ g → cond b (Some (c ∷ [])) (option_map (λ rest. c ∷ rest) g) ≡ Some contents → Next
    of_rest c e true g long more same = record {
      first = c;
      rest = [];
      got_is = e;
      contents_are = let z : contents ≡ c ∷ [] = cc in z;
      later = λ short. absurd (let z : true ≡ false = sym long ∙ short in cc);
    }
    of_rest c e false None long more same = absurd cc
    of_rest c e false (Some rest) long more same = record {
      first = c;
      rest = rest;
      got_is = e;
      contents_are = let z : contents ≡ c ∷ rest = cc in z;
      later = λ short. more;
    }

    of_get : (o : Option (List ℕ)) → got store name ≡ o
        → option_and_then (λ content.
        if is_longer_than longest before content
        then Some (content ∷ [])
        else option_map (λ rest. content ∷ rest) (gets_by behind behind store (before + length content) names)) o ≡ Some contents
        → Next
    of_get None e given = absurd cc
    of_get (Some c) e given = of_rest c e (is_longer_than longest before c) (gets_by behind behind store (before + length c) names) refl refl given

  -- the content of that number
  pub first_got : gets_by longest behind store before (name ∷ names) ≡ Some contents → got store name ≡ Some (get_or contents 0 [])
  first_got is = let n = next is in n.got_is ∙ ap (λ (w : List ℕ). Some w) (sym (ap (λ (cs : List (List ℕ)). get_or cs 0 []) n.contents_are))

  pub first_held : gets_by longest behind store before (name ∷ names) ≡ Some contents → IsNotTooLong no_files_before (get_or contents 0 [])
      → store name ≡ Some (get_or contents 0 [])
  first_held is size = let file = size.file in all_got (store name) (get_or contents 0 []) (short file) (first_got is)
