-- The partial units by a rule, with others of the common file before them, are in order; and a file of which nothing moves has none.
use Rattle.std.proofs.Common.{◌≡◌, ℕ, zero, suc, ◌+◌, ◌<◌, ◌≤◌, Bool, true, false, List, [], ◌∷◌, ◌++◌, map, cond, refl, sym, ap, subst, ◌∙◌, inl, inr, arith}
use Rattle.std.specs.List.{filter, range_with_len}
use Rattle.std.proofs.lemmas.Bool.{cases_lt}
use Rattle.std.proofs.lemmas.List.{append-nil}
use Rattle.std.proofs.lemmas.List.Elements.{filter-append}
use Rattle.dwz_def_reading.specs.Lists.{Each, In}
use Rattle.dwz_def_reading.proofs.ListFacts.{in_cases, in_right}
use Rattle.dwz_def_tops.proofs.Members.{each_append, each_in, each_more, each_of, in_map_from}
use Rattle.dwz_def_tops.specs.Spots.{EntryName, FileUnit, Top, name_list, tops_of}
use Rattle.dwz_def_tops.proofs.Tops.{one_top}
use Rattle.dwz_def_images.specs.Homes.{Common, Home, Local, Rule, home, is_home, moves, same_home, users}
use Rattle.dwz_def_images.specs.IsPlan.{BelongsTo, Has, IsHome, IsPart, OfTop}
use Rattle.dwz_def_images.specs.Moves.{Move}
use Rattle.dwz_def_images.specs.Plan.{PartialUnit, distinct, local_partials, part_row, partial_with, partials, partials_at, representatives, users_of}
use Rattle.dwz_def_images.proofs.HomeLemmas.{file_of_top, home_is}
use Rattle.dwz_def_images.proofs.PartRows.{part_is}
use Rattle.dwz_def_images.proofs.PlanLemmas.{are_parts}
use Rattle.dwz_def_images.proofs.UserLemmas.{Fair, moves_self, moving, used}
use Rattle.dwz_def_images.specs.Units.{changes}
use Rattle.dwz_def_images.proofs.EntryLemmas.{top_changes}
use Rattle.dwz_layout_numbers.specs.Numbering.{AreInOrder, parts_at, parts_of_files}
use Rattle.dwz_layout_numbers.proofs.NumberingLemmas.{IsLater, later_common, other_home, own_home}

-- ---- those of one home

abbrev pub with_home : Home → List PartialUnit → List PartialUnit
with_home h xs = filter (λ p. same_home p.home h) xs

all_at : (h : Home) (xs : List PartialUnit) → Each (λ p. p.home ≡ h) xs → with_home h xs ≡ xs
all_at h [] all = refl
all_at h (p ∷ xs) all =
    ap (λ (b : Bool). cond b (p ∷ with_home h xs) (with_home h xs)) (ap (λ (g : Home). same_home g h) all.0 ∙ own_home h)
    ∙ ap (λ (w : List PartialUnit). p ∷ w) (all_at h xs all.1)

pub none_at : (h : Home) (xs : List PartialUnit) → Each (λ p. p.home ≡ h → ⊥) xs → with_home h xs ≡ []
none_at h [] none = refl
none_at h (p ∷ xs) none = ap (λ (b : Bool). cond b (p ∷ with_home h xs) (with_home h xs)) (other_home p.home h none.0) ∙ none_at h xs none.1

-- ---- by a rule

module _ (rule : Rule) (units : List (FileUnit EntryName)) where
  pub home_at : (h : Home) → Each (λ p. p.home ≡ h) (partials_at rule units h)
  unfolding partials_at
  home_at h = each_of (λ (p : PartialUnit). p.home ≡ h) (map (partial_with rule units h) (distinct (map (users_of rule.alike units) (representatives rule units h))))
      (λ p is. (let o = in_map_from (partial_with rule units h) p (distinct (map (users_of rule.alike units) (representatives rule units h))) is in ap (λ (w : PartialUnit). w.home) (sym o.is)))

  pub local_later : (low n high : ℕ) → low + n ≤ high → Each (IsLater low high) (local_partials rule units (range_with_len low n))
  unfolding local_partials
  local_later low zero high le = tt
  local_later low (suc n) high le =
      each_append (IsLater low high) (partials_at rule units (Local low)) (local_partials rule units (range_with_len (low + 1) n))
      (each_more (λ (p : PartialUnit). p.home ≡ Local low) (IsLater low high) (partials_at rule units (Local low)) (λ p e. (low, e, omega arith, omega arith)) (home_at (Local low)))
      (each_more (IsLater (low + 1) high) (IsLater low high) (local_partials rule units (range_with_len (low + 1) n)) (λ p h. (let l = h.2 in (h.0, h.1, omega arith, h.3)))
      (local_later (low + 1) n high (omega arith)))

  not_later : (low high file : ℕ) (xs : List PartialUnit) → file < low → Each (IsLater low high) xs → Each (λ p. p.home ≡ Local file → ⊥) xs
  not_later low high file xs lt h = each_more (IsLater low high) (λ (p : PartialUnit). p.home ≡ Local file
      → ⊥) xs (λ p l e. (let le = l.2 in let same : Local l.0 ≡ Local file = sym l.1 ∙ e in let number : l.0 ≡ file = cc in omega (arith, le, lt, number))) h

  -- those of one file among those of files
  picked : (low n file : ℕ) → low ≤ file → file < low + n → with_home (Local file) (local_partials rule units (range_with_len low n)) ≡ partials_at rule units (Local file)
  unfolding local_partials
  picked low zero file le lt = absurd (omega (arith, le, lt))
  picked low (suc n) file le lt =
      let own = partials_at rule units (Local low) in
      let rest = local_partials rule units (range_with_len (low + 1) n) in
      filter-append (λ (p : PartialUnit). same_home p.home (Local file)) own rest
      ∙ elim (cases_lt low file) [
        | inl less ↦ (λ j. none_at (Local file) own (each_more (λ (p : PartialUnit). p.home ≡ Local low) (λ (p : PartialUnit). p.home ≡ Local file → ⊥) own
            (λ p e e'. (let same : Local low ≡ Local file = sym e ∙ e' in let number : low ≡ file = cc in omega (arith, less, number))) (home_at (Local low))) j
            ++ picked (low + 1) n file (omega (arith, less)) (omega (arith, lt)) j)
        | inr more ↦
            let e : low ≡ file = omega (arith, le, more) in
            subst (λ (f : ℕ). with_home (Local f) own ++ with_home (Local f) rest ≡ partials_at rule units (Local f)) e
            ((λ j. all_at (Local low) own (home_at (Local low)) j
            ++ none_at (Local low) rest (not_later (low + 1) (low + 1 + n) low rest (omega arith) (local_later (low + 1) n (low + 1 + n) (omega arith))) j) ∙ append-nil own)
      ]

  -- a partial unit of a file has a top of it that moves
  pub local_moves : Fair units rule → (files : List ℕ) (part : PartialUnit) → In part (partials rule units files) → (file : ℕ) → part.home ≡ Local file
      → (t : Top) × In t (tops_of units) × (moves rule units t.number ≡ true) × (t.file ≡ file)
  local_moves fair files part there file e =
      let fits = each_in (IsPart rule units) part (partials rule units files) (are_parts rule units files) there in
      let t = fits.some.0 in
      let belongs = (fits.tops t).0 fits.some.1 in
      let at : home rule units t.number ≡ Local file = belongs.home ∙ e in
      let mv : moves rule units t.number ≡ true = ap is_home at in
      let self = moves_self units rule fair t.number mv in
      let h : IsHome units (users rule.alike units t.number) (Local file) = subst (IsHome units (users rule.alike units t.number)) (sym (moving units rule t.number mv).at_home ∙ at)
      (home_is rule.alike units t.number) in
      (t, belongs.there, mv, sym (file_of_top units t belongs.there) ∙ h.5 t.unit (used rule.alike units t.number t belongs.there self))

  -- a top whose number is among those of a partial unit stands in its row
  pub row_holds : (files : List ℕ) (n : ℕ) (part : PartialUnit) → In part (partials rule units files) → (t : Top) → In t (tops_of units)
      → In t.number (map (λ (x : Top). x.number) part.tops) → Has (name_list t) (OfTop t) (part_row n part)
  row_holds files n part there t is holds =
      let o = in_map_from (λ (w : Top). w.number) t.number part.tops holds in
      let fits = each_in (IsPart rule units) part (partials rule units files) (are_parts rule units files) there in
      let b : BelongsTo rule units part o.source = (fits.tops o.source).0 o.there in
      let same : o.source ≡ t = one_top units o.source t b.there is o.is in
      ((part_is n part).tops_are (name_list t) t).1 (subst (λ (w : Top). In w part.tops) same o.there, refl)

-- ---- of a move that has them, behind others of the common file

module _ (m : Move) (rule : Rule) (units : List (FileUnit EntryName)) (firsts : List PartialUnit) (n : ℕ) (are : m.parts ≡ firsts ++ local_partials rule units (range_with_len 0 n))
    (commons : Each (λ p. p.home ≡ Common) firsts) where
  abbrev locals : List PartialUnit
  locals = local_partials rule units (range_with_len 0 n)

  at_home : (h : Home) → parts_at m h ≡ with_home h firsts ++ with_home h locals
  at_home h = ap (with_home h) are ∙ filter-append (λ (p : PartialUnit). same_home p.home h) firsts locals

  at_common : parts_at m Common ≡ firsts
  at_common = at_home Common ∙ (λ j. all_at Common firsts commons j ++ none_at Common locals (later_common 0 n locals (local_later rule units 0 n n (omega arith))) j) ∙ append-nil firsts

  no_firsts : (file : ℕ) → Each (λ p. p.home ≡ Local file → ⊥) firsts
  no_firsts file = each_more (λ (p : PartialUnit). p.home ≡ Common) (λ (p : PartialUnit). p.home ≡ Local file → ⊥) firsts (λ p e e'. (let z : Common ≡ Local file = sym e ∙ e' in cc)) commons

  at_file : (file : ℕ) → file < n → parts_at m (Local file) ≡ partials_at rule units (Local file)
  at_file file lt = at_home (Local file) ∙ (λ j. none_at (Local file) firsts (no_firsts file) j ++ picked rule units 0 n file (omega arith) (omega (arith, lt)) j)

  at_files : (low k : ℕ) → low + k ≤ n → parts_of_files m (range_with_len low k) ≡ local_partials rule units (range_with_len low k)
  unfolding parts_of_files local_partials
  at_files low zero le = refl
  at_files low (suc k) le = (λ j. at_file low (omega (arith, le)) j ++ at_files (low + 1) k (omega (arith, le)) j)

  pub in_order : AreInOrder m n
  in_order = are ∙ sym (λ j. at_common j ++ at_files 0 n (omega arith) j)

  pub none_still : Fair units rule → ((k : ℕ) → moves rule units k ≡ true → m.gone k ≡ true) → (file : ℕ) → changes m units file ≡ false → parts_at m (Local file) ≡ []
  unfolding partials
  none_still fair gone file c = none_at (Local file) m.parts (each_of (λ (p : PartialUnit). p.home ≡ Local file → ⊥) m.parts none) where
    none : (part : PartialUnit) → In part m.parts → part.home ≡ Local file → ⊥
    none part there e = elim (in_cases part firsts locals (subst (In part) are there)) [
      | inl a ↦ each_in (λ (p : PartialUnit). p.home ≡ Local file → ⊥) part firsts (no_firsts file) a e
      | inr b ↦
          let o = local_moves rule units fair (range_with_len 0 n) part (in_right part (partials_at rule units Common) locals b) file e in
          let moved : changes m units file ≡ true = ap (changes m units) (sym o.3) ∙ top_changes m units o.0 o.1 (gone o.0.number o.2) in
          let z : true ≡ false = sym moved ∙ c in
          cc
    ]
