-- What is written of a partial unit shows the unit after.
use Rattle.std.proofs.Common.{◌≡◌, ℕ, zero, suc, ◌+◌, ◌<◌, Bool, true, false, List, [], ◌∷◌, map, ◌==◌, Some, slice_get, slice_index_or, inl, inr, refl, sym, ap, subst, ◌∙◌, arith}
use Rattle.std.proofs.lemmas.Bool.{eq-eqb, eqb-true}
use Rattle.dwz_def_reading.specs.Lists.{Each, In}
use Rattle.dwz_def_tops.specs.Spots.{EntryName, FileUnit, SpaceName, Top, tops_of}
use Rattle.dwz_def_tops.proofs.TopNumbers.{Numbered, tops_numbers}
use Rattle.dwz_graph.specs.declared.index.TopEntry.{TopEntry}
use Rattle.dwz_layout_items.specs.declared.order.Item.{Item}
use Rattle.dwz_layout_items.specs.declared.partial.SpaceRow.{SpaceRow}
use Rattle.dwz_layout_items.specs.declared.partial.TopSpaces.{TopSpaces}
use Rattle.dwz_layout_items.specs.Chains.{NamesPartial, ShowsSpaced, Up, down, inner_at, names_at, no_spaces}
use Rattle.dwz_layout_items.specs.Order.{Names, ShowsUnit}
use Rattle.dwz_layout_items.proofs.KeptLemmas.{partial_is}
use Rattle.dwz_def_images.specs.Moves.{Move, image_in}
use Rattle.dwz_def_images.specs.Plan.{PartialUnit, part_row}
use Rattle.dwz_def_images.specs.Units.{partial_unit}
use Rattle.dwz_layout_order.specs.Lists.{AreLists, list_above, spaces_at}
use Rattle.dwz_layout_order.specs.Named.{NamesAll, NamesTop}
use Rattle.dwz_layout_order.specs.Parts.{IsPart}
use Rattle.dwz_layout_order.specs.Shown.{AreOwn, LeadsUp, NumbersTexts, Pairs}
use Rattle.dwz_layout_order.specs.Spaces.{said_of}
use Rattle.dwz_layout_order.proofs.NameLists.{names_numbered, root_numbered}

each_at : {X : Type 0} (P : X → Type 0) (xs : List X) (x : X) → Each P xs → In x xs → P x
each_at P [] x h i = absurd i
each_at P (y ∷ xs) x h (inl e) = subst P e h.0
each_at P (y ∷ xs) x h (inr i) = each_at P xs x h.1 i

-- ---- the spaces of a top by its number

module _ (rows : List SpaceRow) (said : ℕ → SpaceName) where
  -- of tops, the first of which has that number
  pub ups_from : (n : ℕ) (xs : List TopEntry) (ts : List Top) → Pairs (LeadsUp rows said) xs ts → ℕ → List ℕ
  ups_from n [] [] h m = []
  ups_from n [] (t ∷ ts) h m = []
  ups_from n (x ∷ xs) [] h m = []
  ups_from n (x ∷ xs) (t ∷ ts) h m = elim (n == m) as (λ _. List ℕ) [ true ↦ h.0.ups | false ↦ ups_from (suc n) xs ts h.1 m ]

  -- what is kept of the top with its number, and where that leads
  pub record AtTop (n : ℕ) (xs : List TopEntry) (ups : ℕ → List ℕ) (t : Top) : Type 0 where
    pub k : ℕ
    pub x : TopEntry
    pub found : slice_get xs k ≡ Some x
    pub number : t.number ≡ n + k
    pub up : Up rows x.inner (ups t.number)
    pub spaces : t.spaces ≡ map said (down (ups t.number))

  pub at_top : (n : ℕ) (xs : List TopEntry) (ts : List Top) (h : Pairs (LeadsUp rows said) xs ts) → Numbered n ts → (t : Top) → In t ts → AtTop n xs (ups_from n xs ts h) t
  unfolding ups_from
  at_top n [] [] h numbers t i = absurd i
  at_top n [] (u ∷ ts) h numbers t i = absurd h
  at_top n (x ∷ xs) [] h numbers t i = absurd h
  at_top n (x ∷ xs) (u ∷ ts) h numbers t (inl e) =
      let number : t.number ≡ n = ap (λ (w : Top). w.number) (sym e) ∙ numbers.0 in
      let first : ups_from n (x ∷ xs) (u ∷ ts) h t.number ≡ h.0.ups = here (n == t.number) (eq-eqb _ _ (sym number)) in
      record {
        k = 0;
        x = x;
        found = refl;
        number = omega arith;
        up = subst (Up rows x.inner) (sym first) h.0.up;
        spaces = ap (λ (w : Top). w.spaces) (sym e) ∙ h.0.spaces ∙ ap (λ (w : List ℕ). map said (down w)) (sym first);
      }
    where
      here : (b : Bool) → b ≡ true → (elim b as (λ _. List ℕ) [ true ↦ h.0.ups | false ↦ ups_from (suc n) xs ts h.1 t.number ]) ≡ h.0.ups
      here true q = refl
      here false q = absurd cc
  at_top n (x ∷ xs) (u ∷ ts) h numbers t (inr i) =
      let r = at_top (suc n) xs ts h.1 numbers.1 t i in
      let number = r.number in
      let later : ups_from n (x ∷ xs) (u ∷ ts) h t.number ≡ ups_from (suc n) xs ts h.1 t.number = there (n == t.number) (other (n == t.number) refl (omega arith)) in
      record {
        k = suc r.k;
        x = r.x;
        found = r.found;
        number = omega arith;
        up = subst (Up rows r.x.inner) (sym later) r.up;
        spaces = r.spaces ∙ ap (λ (w : List ℕ). map said (down w)) (sym later);
      }
    where
      other : (b : Bool) → (n == t.number) ≡ b → n < t.number → b ≡ false
      other false q lt = refl
      other true q lt = absurd (let same = eqb-true n t.number q in omega arith)

      there : (b : Bool) → b ≡ false → (elim b as (λ _. List ℕ) [ true ↦ h.0.ups | false ↦ ups_from (suc n) xs ts h.1 t.number ]) ≡ ups_from (suc n) xs ts h.1 t.number
      there false q = refl
      there true q = absurd cc

-- ---- what is kept of tops by their numbers

at_number : (lists : List ℕ) (xs : List TopEntry) (k : ℕ) (x : TopEntry) → slice_get xs k ≡ Some x → slice_index_or (map (spaces_at lists) xs) k no_spaces ≡ spaces_at lists x
at_number lists [] k x e = absurd cc
at_number lists (y ∷ xs) zero x e = (let same : y ≡ x = cc in ap (spaces_at lists) same)
at_number lists (y ∷ xs) (suc k) x e = at_number lists xs k x e

module _ (units : List (FileUnit EntryName)) (rows : List SpaceRow) (texts lists : List ℕ) (xs : List TopEntry) (own : AreOwn rows) (numbers : NumbersTexts rows (said_of units) texts)
    (are : AreLists rows texts lists)
    (pairs : Pairs (LeadsUp rows (said_of units)) xs (tops_of units)) where
  abbrev of_tops : List TopSpaces
  of_tops = map (spaces_at lists) xs

  abbrev ups : ℕ → List ℕ
  ups = ups_from rows (said_of units) 0 xs (tops_of units) pairs

  there : (t : Top) → In t (tops_of units) → AtTop rows (said_of units) 0 xs ups t
  there t i = at_top rows (said_of units) 0 xs (tops_of units) pairs (tops_numbers units) t i

  kept_at : (t : Top) (a : AtTop rows (said_of units) 0 xs ups t) → slice_index_or of_tops t.number no_spaces ≡ spaces_at lists a.x
  kept_at t a = (let same : t.number ≡ a.k = a.number ∙ omega arith in ap (λ (n : ℕ). slice_index_or of_tops n no_spaces) same ∙ at_number lists xs a.k a.x a.found)

  names_there : (t : Top) (a : AtTop rows (said_of units) 0 xs ups t) → names_at of_tops t.number ≡ list_above lists a.x.inner
  names_there t a = ap (λ (w : TopSpaces). w.names) (kept_at t a)

  pub spaced : (f : EntryName → EntryName) (n : Names EntryName) (tops : List Top) → ((t : Top) → In t tops → In t (tops_of units)) → NamesAll f units n
      → ShowsSpaced f (said_of units) n (λ t. down (ups t)) (names_at of_tops) tops
  spaced f n tops among names = record {
    node = λ t i. (each_at (NamesTop f n) (tops_of units) t names.tops (among t i)).node;
    below = λ t i. (each_at (NamesTop f n) (tops_of units) t names.tops (among t i)).below;
    spaces = λ t i. (there t (among t i)).spaces;
    root = λ t i. (let a = there t (among t i) in
        root_numbered rows (said_of units) texts lists own numbers are t (ups t.number) a.x.inner a.up a.spaces ∙ ap (λ (k : ℕ). k == 0) (sym (names_there t a)));
    same = λ t u i j. (let a = there t (among t i) in let b = there u (among u j) in
        names_numbered rows (said_of units) texts lists own numbers are t u (ups t.number) (ups u.number) a.x.inner b.x.inner a.up b.up a.spaces b.spaces
        ∙ (λ k. sym (names_there t a) k == sym (names_there u b) k));
  }

  number_in : (tops : List Top) (m : ℕ) → In m (map (λ t. t.number) tops) → (t : Top) × In t tops × (t.number ≡ m)
  number_in [] m i = absurd i
  number_in (t ∷ tops) m (inl e) = (t, inl refl, e)
  number_in (t ∷ tops) m (inr i) = (let r = number_in tops m i in (r.0, inr r.1, r.2))

  pub part_shown : (m : Move) (k : ℕ) (part : PartialUnit) (items : List Item) → m.rows k ≡ part_row k part → ((t : Top) → In t part.tops → In t (tops_of units))
      → IsPart rows of_tops (map (λ t. t.number) part.tops) items
      → (n : Names EntryName) → NamesAll (image_in m) units n → NamesPartial m k (said_of units) n → ShowsUnit n items (partial_unit m k)
  part_shown m k part items row among put n names mine =
      put n ups (λ j i. (let r = number_in part.tops j i in let a = there r.0 (among r.0 r.1) in
      subst (λ (w : ℕ). Up rows (inner_at of_tops w) (ups w)) r.2 (subst (λ (w : ℕ). Up rows w (ups r.0.number)) (sym (ap (λ (w : TopSpaces). w.inner) (kept_at r.0 a))) a.up)))
      ∙ partial_is m k part (said_of units) n (λ t. down (ups t)) (names_at of_tops) mine (spaced (image_in m) n part.tops among names) row
