-- The names of spaces, one behind the other.
use Rattle.std.proofs.Common.{◌≡◌, ℕ, suc, List, [], ◌∷◌, ◌++◌, length, Some, slice_get, refl, sym, ap, subst, ◌∙◌}
use Rattle.std.specs.Prelude.{reverse}
use Rattle.std.specs.List.{flat_map}
use Rattle.std.proofs.lemmas.List.{append-nil, append_assoc, reverse-append, reverse-reverse}
use Rattle.dwz_label.specs.Labels.{counted, each_counted, number}
use Rattle.dwz_def_tops.specs.Spaces.{space_text}
use Rattle.dwz_check_index.specs.Index.{AddsSpaces, AreSpacesOf, ListedEntry}

module _ (entries : List (ListedEntry ℕ)) where
  many_spaces : (spaces : List ℕ) (names : List (List ℕ)) → AreSpacesOf entries spaces names → length spaces ≡ length names
  many_spaces [] [] h = refl
  many_spaces [] (text ∷ names) h = absurd h
  many_spaces (i ∷ spaces) [] h = absurd h
  many_spaces (i ∷ spaces) (text ∷ names) h = ap suc (many_spaces spaces names h.1)

  -- the names of the spaces that are left
  pub record NamesLeft (spaces out all : List ℕ) : Type 0 where
    pub names : List (List ℕ)
    pub are : AreSpacesOf entries spaces names
    pub bytes : out ++ flat_map counted names ≡ all

  pub names_all : (spaces : List ℕ) (names : List (List ℕ)) (old out : List ℕ) → AreSpacesOf entries spaces names → out ≡ old ++ number (length spaces)
      → NamesLeft spaces out (old ++ each_counted counted names)
  names_all spaces names old out h is = record {
    names = names;
    are = h;
    bytes = ap (λ (w : List ℕ). w ++ flat_map counted names) (is ∙ ap (λ (n : ℕ). old ++ number n) (many_spaces spaces names h))
        ∙ append_assoc old (number (length names)) (flat_map counted names);
  }

  abbrev pub NextSpace : ℕ → List ℕ → List ℕ → List ℕ → Type 0
  NextSpace i spaces out all =
      (d : ListedEntry ℕ) × (text : List ℕ) × (slice_get entries i ≡ Some d) × (space_text d.0 ≡ Some text) × ((new : List ℕ) → new ≡ out ++ counted text → NamesLeft spaces new all)

  of_names : (i : ℕ) (spaces : List ℕ) (names : List (List ℕ)) (out all : List ℕ) → AreSpacesOf entries (i ∷ spaces) names → out ++ flat_map counted names ≡ all → NextSpace i spaces out all
  of_names i spaces [] out all h bytes = absurd h
  of_names i spaces (text ∷ names) out all h bytes = (
    h.0.0,
    text,
    h.0.1,
    h.0.2,
    λ new is. record {
      names = names;
      are = h.1;
      bytes = ap (λ (w : List ℕ). w ++ flat_map counted names) is ∙ append_assoc out (counted text) (flat_map counted names) ∙ bytes;
    },
  )

  pub next_space : (left : List ℕ) (i : ℕ) (spaces out all : List ℕ) → left ≡ i ∷ spaces → NamesLeft left out all → NextSpace i spaces out all
  next_space left i spaces out all is h = of_names i spaces h.names out all (subst (λ (w : List ℕ). AreSpacesOf entries w h.names) is h.are) h.bytes

  none_of : (names : List (List ℕ)) (out all : List ℕ) → AreSpacesOf entries [] names → out ++ flat_map counted names ≡ all → out ≡ all
  none_of [] out all h bytes = sym (append-nil out) ∙ bytes
  none_of (text ∷ names) out all h bytes = absurd h

  pub no_space : (left out all : List ℕ) → left ≡ [] → NamesLeft left out all → out ≡ all
  no_space left out all is h = none_of h.names out all (subst (λ (w : List ℕ). AreSpacesOf entries w h.names) is h.are) h.bytes

  -- ---- the other way round

  behind_both : (is js : List ℕ) (xs ys : List (List ℕ)) → AreSpacesOf entries is xs → AreSpacesOf entries js ys → AreSpacesOf entries (is ++ js) (xs ++ ys)
  behind_both [] js [] ys h k = k
  behind_both [] js (x ∷ xs) ys h k = absurd h
  behind_both (i ∷ is) js [] ys h k = absurd h
  behind_both (i ∷ is) js (x ∷ xs) ys h k = (h.0, behind_both is js xs ys h.1 k)

  turned : (is : List ℕ) (xs : List (List ℕ)) → AreSpacesOf entries is xs → AreSpacesOf entries (reverse is) (reverse xs)
  turned [] [] h = h
  turned [] (x ∷ xs) h = absurd h
  turned (i ∷ is) [] h = absurd h
  turned (i ∷ is) (x ∷ xs) h =
      subst (λ (w : List (List ℕ)). AreSpacesOf entries (reverse (i ∷ is)) w) (sym (reverse-append (x ∷ []) xs))
      (subst (λ (w : List ℕ). AreSpacesOf entries w (reverse xs ++ x ∷ [])) (sym (reverse-append (i ∷ []) is)) (behind_both (reverse is) (i ∷ []) (reverse xs) (x ∷ []) (turned is xs h.1) (h.0, tt)))

  -- what is put into an empty row and turned round
  pub turned_round : (old new out : List ℕ) (names : List (List ℕ)) → old ≡ [] → out ≡ reverse new → AddsSpaces entries old new names → AreSpacesOf entries out names
  turned_round old new out names none is h =
      let put : new ≡ h.put = h.new_are ∙ ap (λ (w : List ℕ). w ++ h.put) none in
      let one = turned h.put (reverse names) h.are in
      let two = subst (λ (w : List (List ℕ)). AreSpacesOf entries (reverse h.put) w) (reverse-reverse names) one in
      subst (λ (w : List ℕ). AreSpacesOf entries w names) (ap reverse (sym put) ∙ sym is) two
