-- The units that are written, one by one: their keys, what their roots say, and where what a copy names stands.
use Rattle.std.proofs.Common.{◌≡◌, ℕ, pos, suc, ◌==◌, Bool, true, false, List, [], ◌∷◌, ◌++◌, cond, eqb, eqb-true, map, if◌then◌else◌, Option, Some, None, refl, sym, ap, subst, ◌∙◌, arith, inl, inr}
use Rattle.std.specs.Prelude.{unwrap_or, get_or}
use Rattle.dwz_def_reading.specs.Lists.{Each, In, NoneTwice, Nth}
use Rattle.dwz_def_reading.proofs.ListFacts.{in_left, in_map, in_right}
use Rattle.dwz_def_reading.proofs.Members.{nth_in, nth_one}
use Rattle.dwz_def_reading.specs.Classes.{Class, OfAddress, OfBlock, OfCommonEntry, OfCommonText, OfConstant, OfExpression, OfFlag, OfIndex, OfInfoEntry, OfListIndex, OfOffset, OfSignature, OfText, OfTextBySlot, OfTextInLineStr, OfTextInStr, OfUnitEntry, Unread, class_of, names_file}
use Rattle.dwz_def_reading.specs.Documents.{Attr, DwUnit, Entries, first_named, unit_map}
use Rattle.dwz_def_reading.specs.Spelling.{reach}
use Rattle.dwz_def_reading.specs.Trees.{End, Entry}
use Rattle.dwz_def_tops.specs.Shown.{keys, units_keys}
use Rattle.dwz_def_tops.proofs.MainLemmas.{keys_map}
use Rattle.dwz_def_encoding.specs.Bases.{bases_in, offset_in}
use Rattle.dwz_def_encoding.specs.Meant.{Tells, all_entry_keys, entry_keys, own_of}
use Rattle.dwz_def_encoding.specs.Placing.{CommonUnit, NewUnit, OldUnit, UnitRole, with_form}
use Rattle.dwz_def_encoding.proofs.ReadAgain.{same_bases}
use Rattle.dwz_def_encoding.proofs.StoredClasses.{offset_class}
use Rattle.dwz_def_readback.proofs.OriginLemmas.{bases_mapped}
use Rattle.dwz_def_cross.specs.Tops.{WithCommon, units_with_common}
use Rattle.dwz_def_expand.specs.Chosen.{Choice, chosen_as, chosen_attr, chosen_entries, chosen_unit, copied_constant, copied_entry, copied_file, copied_slot, copied_text}
use Rattle.dwz_def_expand.specs.ExpandLaws.{IsTest}
use Rattle.dwz_def_expand.specs.Refusals.{IsLost}
use Rattle.dwz_def_expand.specs.Source.{Copy, copies, copy, copy_for, source_places, source_units, unit_for}
use Rattle.dwz_def_expand.specs.Written.{written}
use Rattle.dwz_def_expand.proofs.WholeLemmas.{alone, nth_places, nth_source, own_copy, same_map, unit_at, unit_copy}
use Rattle.dwz_law_expand.proofs.GoodLemmas.{StandsThere}

-- ---- forms change no key, and no offset in a root

pub chosen_keys : {P : Type 0} (c : Choice P) (f : Entries (Copy P)) → keys (chosen_entries c f) ≡ keys f
unfolding chosen_entries keys
chosen_keys c End = refl
chosen_keys {P} c (Entry e f g) =
    ap (λ (w : List (Copy P)). e.at ∷ (w ++ keys (chosen_entries c g))) (chosen_keys c f) ∙ ap (λ (w : List (Copy P)). e.at ∷ (keys f ++ w)) (chosen_keys c g)

pub chosen_entry_keys : {P : Type 0} (c : Choice P) (u : DwUnit (Copy P)) → entry_keys (chosen_unit c u) ≡ entry_keys u
chosen_entry_keys {P} c u = ap (λ (w : List (Copy P)). u.root.at ∷ w) (chosen_keys c u.below)

other_offset : {P : Type 0} (c : Choice P) (n : ℕ) (source : P) (a : Attr (Copy P)) (k : Class) → eqb a.form 0x17 ≡ false → offset_in (Some (with_form a (chosen_as k c n source a))) ≡ None
other_offset {P} c n source a k other = by k where
  kept : cond (eqb a.form 0x17) (Some (reach a.raw)) None ≡ None
  kept = ap (λ (b : Bool). cond b (Some (reach a.raw)) None) other

  entry : (refs : List (Copy P)) → offset_in (Some (with_form a (copied_entry n refs))) ≡ None
  entry [] = refl
  entry (q ∷ refs) = one (q.unit == n) where
    one : (b : Bool) → offset_in (Some (with_form a (record { form = if b then 0x13 else 0x10; raw = pos 0 }))) ≡ None
    one true = refl
    one false = refl

  text : (h : UnitRole) → offset_in (Some (with_form a (copied_text h a))) ≡ None
  text CommonUnit = refl
  text OldUnit = kept
  text NewUnit = kept

  slots : (h : UnitRole) → offset_in (Some (with_form a (copied_slot h c.offsets (c.slots source) a))) ≡ None
  slots CommonUnit = refl
  slots OldUnit = kept
  slots NewUnit = refl

  files : (h : UnitRole) → offset_in (Some (with_form a (copied_file h (c.paths n) a))) ≡ None
  files CommonUnit = refl
  files OldUnit = kept
  files NewUnit = refl

  constants : (b : Bool) → offset_in (Some (with_form a (copied_constant b (c.role source) (c.paths n) a))) ≡ None
  constants true = files (c.role source)
  constants false = kept

  by : (d : Class) → offset_in (Some (with_form a (chosen_as d c n source a))) ≡ None
  by OfConstant = constants (names_file a.name)
  by OfUnitEntry = entry a.value.refs
  by OfInfoEntry = entry a.value.refs
  by OfCommonEntry = entry a.value.refs
  by OfCommonText = refl
  by OfTextInStr = text (c.role source)
  by OfTextInLineStr = text (c.role source)
  by OfTextBySlot = slots (c.role source)
  by OfAddress = kept
  by OfBlock = kept
  by OfFlag = kept
  by OfText = kept
  by OfSignature = kept
  by OfOffset = kept
  by OfExpression = kept
  by OfListIndex = kept
  by OfIndex = kept
  by Unread = kept

chosen_offset : {P : Type 0} (c : Choice P) (k : Copy P) (a : Attr (Copy P)) → offset_in (Some (chosen_attr c k a)) ≡ offset_in (Some a)
chosen_offset c k a = by (eqb a.form 0x17) refl where
  by : (b : Bool) → eqb a.form 0x17 ≡ b → offset_in (Some (chosen_attr c k a)) ≡ offset_in (Some a)
  by true e = ap (λ (d : Class). offset_in (Some (with_form a (chosen_as d c k.unit k.source a)))) (ap class_of (eqb-true a.form 0x17 e) ∙ offset_class)
  by false e = other_offset c k.unit k.source a (class_of a.form) e ∙ ap (λ (b : Bool). cond b (Some (reach a.raw)) None) (sym e)

first_chosen : {P : Type 0} (c : Choice P) (k : Copy P) (name : ℕ) (attrs : List (Attr (Copy P))) → offset_in (first_named name (map (chosen_attr c k) attrs)) ≡ offset_in (first_named name attrs)
unfolding first_named
first_chosen c k name [] = refl
first_chosen c k name (a ∷ attrs) = by (first_chosen c k name attrs) (eqb a.name name) where
  by : offset_in (first_named name (map (chosen_attr c k) attrs)) ≡ offset_in (first_named name attrs) → (b : Bool) → offset_in (cond b (Some (chosen_attr c k a)) (first_named name (map (chosen_attr c k) attrs)))
      ≡ offset_in (cond b (Some a) (first_named name attrs))
  by rest true = chosen_offset c k a
  by rest false = rest

chosen_bases : {P : Type 0} (c : Choice P) (u : DwUnit (Copy P)) → bases_in (chosen_unit c u) ≡ bases_in u
chosen_bases c u = same_bases _ _ _ _ _ _ (first_chosen c u.root.at 0x72 u.root.attrs) (first_chosen c u.root.at 0x10 u.root.attrs) (first_chosen c u.root.at 0x8c u.root.attrs)

-- ---- the units that are written

in_all : {K : Type 0} (units : List (DwUnit K)) (v : DwUnit K) → In v units → (k : K) → In k (entry_keys v) → In k (all_entry_keys units)
unfolding all_entry_keys
in_all [] v there k h = absurd there
in_all (x ∷ units) v (inl e) k h = in_left k (entry_keys x) (all_entry_keys units) (subst (λ (w : DwUnit _). In k (entry_keys w)) (sym e) h)
in_all (x ∷ units) v (inr r) k h = in_right k (entry_keys x) (all_entry_keys units) (in_all units v r k h)

pub nth_map : {X Y : Type 0} (f : X → Y) (s : ℕ) (xs : List X) (n : ℕ) (y : Y) → Nth s (map f xs) n y → (x : X) × Nth s xs n x × (f x ≡ y)
nth_map f s [] n y h = absurd h
nth_map f s (x ∷ xs) n y (inl e) = (x, inl (e.0, refl), e.1)
nth_map f s (x ∷ xs) n y (inr r) = let o = nth_map f (suc s) xs n y r in (o.0, inr o.1, o.2)

module _ {P : Type 0} (same : P → P → Bool) (test : IsTest same) (w : WithCommon P) (apart : NoneTwice (units_keys (units_with_common w))) (c : Choice P) where
  abbrev pub sources : List (DwUnit P)
  sources = source_units same w

  abbrev pub places : List (List P)
  places = source_places same w

  -- what is written of the n-th unit
  abbrev pub new_unit : ℕ → DwUnit P → DwUnit (Copy P)
  new_unit n u = chosen_unit c (unit_map (copy_for same places n) u)

  each_from : (Q : DwUnit (Copy P) → Type 0) (s : ℕ) (some : List (DwUnit P)) → ((n : ℕ) (u : DwUnit P) → Nth s some n u → Q (new_unit n u)) → Each Q (map (chosen_unit c) (copies same places s some))
  unfolding copies
  each_from Q s [] all = tt
  each_from Q s (u ∷ some) all = (all s u (inl (refl, refl)), each_from Q (suc s) some (λ n v h. all n v (inr h)))

  pub each_written : (Q : DwUnit (Copy P) → Type 0) → ((n : ℕ) (u : DwUnit P) → Nth 0 sources n u → Q (new_unit n u)) → Each Q (written same c w)
  unfolding written
  each_written Q all = each_from Q 0 sources all

  in_from : (s : ℕ) (some : List (DwUnit P)) (n : ℕ) (u : DwUnit P) → Nth s some n u → In (new_unit n u) (map (chosen_unit c) (copies same places s some))
  unfolding copies
  in_from s [] n u h = absurd h
  in_from s (x ∷ some) n u (inl e) = inl (ap (λ (k : ℕ). new_unit k x) e.0 ∙ ap (λ (v : DwUnit P). new_unit n v) e.1)
  in_from s (x ∷ some) n u (inr r) = inr (in_from (suc s) some n u r)

  pub in_written : (n : ℕ) (u : DwUnit P) → Nth 0 sources n u → In (new_unit n u) (written same c w)
  unfolding written
  in_written n u nth = in_from 0 sources n u nth

  listed : (n : ℕ) (u : DwUnit P) → Nth 0 sources n u → get_or places n [] ≡ entry_keys u
  listed n u nth = nth_places same test sources 0 sources n u n nth (omega arith)

  -- a unit's own entries have copies there
  pub new_keys : (n : ℕ) (u : DwUnit P) → Nth 0 sources n u → entry_keys (new_unit n u) ≡ map (copy n) (entry_keys u)
  new_keys n u nth =
      chosen_entry_keys c (unit_map (copy_for same places n) u) ∙ ap (λ (w : List (Copy P)). copy_for same places n u.root.at ∷ w) (keys_map (copy_for same places n) u.below)
      ∙ same_map same test sources (copy_for same places n) (copy n) (entry_keys u) (λ p there. own_copy same test sources n p (subst (λ (w : List P). In p w) (sym (listed n u nth)) there))

  -- what stands for a place of its own
  pub own_copied : (n : ℕ) (u : DwUnit P) → Nth 0 sources n u → (p : P) → In p (entry_keys u) → copy_for same places n p ≡ copy n p
  own_copied n u nth p there = own_copy same test sources n p (subst (λ (ks : List P). In p ks) (sym (listed n u nth)) there)

  -- it begins at its own place
  pub new_at : (n : ℕ) (u : DwUnit P) → Nth 0 sources n u → copy_for same places n u.at ≡ copy n u.at
  new_at n u nth = unit_copy same test sources n u.at (alone same test w apart u (nth_in 0 sources n u nth))

  pub new_bases : (n : ℕ) (u : DwUnit P) → bases_in (new_unit n u) ≡ bases_in u
  new_bases n u = chosen_bases c (unit_map (copy_for same places n) u) ∙ bases_mapped (copy_for same places n) u

  -- ---- what stands for a place

  -- a unit has it, with its own number
  pub record CopiedTo (n : ℕ) (p : P) : Type 0 where
    pub number : ℕ
    pub unit : DwUnit P
    pub nth : Nth 0 sources number unit
    pub key : In p (entry_keys unit)
    pub is : copy_for same places n p ≡ copy number p

  pub copied_to : (n : ℕ) (p : P) → ¬ IsLost same places n p → CopiedTo n p
  copied_to n p kept = by (unit_for same places n p) refl where
    by : (o : Option ℕ) → unit_for same places n p ≡ o → CopiedTo n p
    by None e = absurd (kept e)
    by (Some m) e =
        let o = unit_at same test places n p m e in
        let u = nth_source same test sources 0 sources m o.list o.nth in
        record { number = m; unit = u.0; nth = u.1; key = subst (λ (w : List P). In p w) (sym u.2) o.there; is = ap (λ (w : Option ℕ). copy (unwrap_or w n) p) e }

  copy_there : (m : ℕ) (u : DwUnit P) → Nth 0 sources m u → (p : P) → In p (entry_keys u) → In (copy m p) (entry_keys (new_unit m u))
  copy_there m u nth p key = subst (λ (w : List (Copy P)). In (copy m p) w) (sym (new_keys m u nth)) (in_map (copy m) p (entry_keys u) key)

  pub in_file : (n : ℕ) (p : P) → ¬ IsLost same places n p → In (copy_for same places n p) (all_entry_keys (written same c w))
  in_file n p kept =
      let o = copied_to n p kept in
      subst (λ (k : Copy P). In k (all_entry_keys (written same c w))) (sym o.is)
      (in_all (written same c w) (new_unit o.number o.unit) (in_written o.number o.unit o.nth) (copy o.number p) (copy_there o.number o.unit o.nth p o.key))

  -- in the unit with that number
  pub in_unit : (n : ℕ) (u : DwUnit P) → Nth 0 sources n u → (p : P) → In p (entry_keys u) → In (copy_for same places n p) (entry_keys (new_unit n u))
  in_unit n u nth p key =
      subst (λ (k : Copy P). In k (entry_keys (new_unit n u))) (sym (own_copy same test sources n p (subst (λ (w : List P). In p w) (sym (listed n u nth)) key))) (copy_there n u nth p key)

  pub stands_there : (t : Tells (Copy P)) → t.all ≡ all_entry_keys (written same c w) → (n : ℕ) (u : DwUnit P) → Nth 0 sources n u → (p : P) → ¬ IsLost same places n p
      → StandsThere n t (own_of (new_unit n u)) (copy_for same places n p)
  stands_there t all n u nth p kept =
      let o = copied_to n p kept in
      record {
        in_file = subst (λ (w : List (Copy P)). In (copy_for same places n p) w) (sym all) (in_file n p kept);
        in_unit = λ e.
            (let number : o.number ≡ n = ap (λ (k : Copy P). k.unit) (sym o.is) ∙ e in
            let here : Nth 0 sources n o.unit = subst (λ (m : ℕ). Nth 0 sources m o.unit) number o.nth in
            in_unit n u nth p (subst (λ (v : DwUnit P). In p (entry_keys v)) (nth_one 0 sources n o.unit u here nth) o.key));
      }
