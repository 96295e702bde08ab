-- Over a finished common file what has one copy is seen the same, and stands in tops with one name list.
use Rattle.std.proofs.Common.{◌≡◌, ◌⊎◌, ℕ, ◌+◌, ◌≤◌, true, List, [], ◌∷◌, ◌++◌, length, map, refl, sym, ap, subst, ◌∙◌, inl, inr, arith}
use Rattle.std.proofs.lemmas.List.{length-append}
use Rattle.dwz_def_reading.specs.Documents.{Compile, Doc, DwUnit, Kind, entries_map, language, unit_map}
use Rattle.dwz_def_reading.specs.Lists.{In, NoneTwice}
use Rattle.dwz_def_reading.proofs.ListFacts.{in_cases, in_left, in_map}
use Rattle.dwz_def_reading.proofs.Members.{in_map_from}
use Rattle.dwz_def_reading.proofs.OnceLemmas.{none_both, none_left, none_right}
use Rattle.dwz_def_tops.specs.Lists.{Nth}
use Rattle.dwz_def_tops.specs.Seen.{Seen, all_seen, seen, seen_below, seen_map, seen_roots}
use Rattle.dwz_def_tops.specs.Shown.{keys, unit_keys, units_keys}
use Rattle.dwz_def_tops.specs.Spots.{EntryName, FileUnit, Import, InChain, InType, LabelledTop, PartialOf, PartialRoot, RootOf, SpaceAt, Top, UnitOf, Within, file_numbers, name_list, rows_of_root, tops_of}
use Rattle.dwz_def_tops.specs.UnitNames.{IsNamedBelow}
use Rattle.dwz_def_tops.proofs.RowLemmas.{unit_row}
use Rattle.dwz_def_tops.proofs.SeenLemmas.{root_from, seen_entries, seen_from}
use Rattle.dwz_def_tops.proofs.ShownLemmas.{all_shown, map_shown, root_key, seen_key, seen_then, unit_key}
use Rattle.dwz_def_tops.proofs.Tops.{one_top, row_top}
use Rattle.dwz_def_images.specs.After.{IsKeptUnit, IsNewUnit}
use Rattle.dwz_def_images.specs.Moves.{Move, seen_top}
use Rattle.dwz_def_images.specs.Units.{partial_unit}
use Rattle.dwz_def_images.proofs.ApartOwn.{UnitNumber}
use Rattle.dwz_def_images.proofs.ApartTrees.{Behind, behind, none_below, within_path}
use Rattle.dwz_def_images.proofs.OldLemmas.{top_at}
use Rattle.dwz_def_images.proofs.OldRows.{InTop, IsSpaceSeen, Origin, raw_top, seen_origin, space_place}
use Rattle.dwz_def_images.proofs.TreeLemmas.{seen_top_map}
use Rattle.dwz_def_taken.specs.declared.fixed.Fixed.{Fixed}
use Rattle.dwz_def_taken.specs.Beside.{CommonAlike, Copies, Reused, own_tops, reused_of, together}
use Rattle.dwz_def_taken.specs.Laws.{ArePlacedOver, IsReused}
use Rattle.dwz_def_taken.specs.Over.{as_part, copy, copy_of, move_over, standing_unit}
use Rattle.dwz_def_taken.specs.Takes.{IsFixed}
use Rattle.dwz_def_taken.proofs.CommonLemmas.{alike_names, copy_same, look, look_is, trees_seen}
use Rattle.dwz_def_taken.proofs.CommonUnits.{stands_as}
use Rattle.dwz_def_taken.proofs.Copies.{copies_law}
use Rattle.dwz_def_taken.proofs.LookTops.{own_number, part_look, part_number, part_together, part_tops, together_cases}
use Rattle.dwz_def_taken.proofs.NamesOver.{named_over}
use Rattle.dwz_def_taken.proofs.PlaceLemmas.{PartTop, part_inside, part_nth, whole}
use Rattle.dwz_def_taken.proofs.StandingUnits.{standing}
use Rattle.dwz_def_cross.proofs.OneEntry.{one_below, one_root}
use Rattle.dwz_law_over.proofs.OverParts.{InCommon, KnownTop, Numbered, known_top, stands_common}

-- ---- where no name stands twice, what is seen at a name is one

root_or_below : {K : Type 0} (units : List (DwUnit K)) → NoneTwice (units_keys units) → (d e : Seen K) → In d (seen_roots units) → In e (seen_below units) → d.at ≡ e.at → ⊥
unfolding seen_roots seen_below units_keys unit_keys
root_or_below [] none d e i j same = i
root_or_below {K} (u ∷ units) none d e (inl a) j same = elim (in_cases e (seen u.below) (seen_below units) j) [
  | inl x ↦ (none_left (unit_keys u) (units_keys units) none).1.0 (subst (λ (k : K). In k (keys u.below)) (sym same ∙ sym (ap (λ (w : Seen K). w.at) a)) (seen_key u.below e x))
  | inr y ↦
      let o = seen_from units e y in
      none_both (unit_keys u) (units_keys units) none u.root.at (inr (inl refl))
      (subst (λ (k : K). In k (units_keys units)) (sym same ∙ sym (ap (λ (w : Seen K). w.at) a)) (unit_key units o.unit e.at o.there (inr (inr (seen_key o.unit.below e o.is)))))
]
root_or_below {K} (u ∷ units) none d e (inr r) j same = elim (in_cases e (seen u.below) (seen_below units) j) [
  | inl x ↦
      let o = root_from units d r in
      none_both (unit_keys u) (units_keys units) none e.at (inr (inr (seen_key u.below e x)))
      (subst (λ (k : K). In k (units_keys units)) (ap (λ (w : Seen K). w.at) o.is ∙ same) (root_key units o.unit o.there))
  | inr y ↦ root_or_below units (none_right (unit_keys u) (units_keys units) none) d e r y same
]

pub one_all : {K : Type 0} (units : List (DwUnit K)) → NoneTwice (units_keys units) → (d e : Seen K) → In d (all_seen units) → In e (all_seen units) → d.at ≡ e.at → d ≡ e
one_all units none d e i j same = elim (in_cases d (seen_roots units) (seen_below units) i) [
  | inl a ↦ elim (in_cases e (seen_roots units) (seen_below units) j) [
    | inl b ↦ one_root units none d e a b same
    | inr b ↦ absurd (root_or_below units none d e a b same)
  ]
  | inr a ↦ elim (in_cases e (seen_roots units) (seen_below units) j) [
    | inl b ↦ absurd (root_or_below units none e d b a (sym same))
    | inr b ↦ one_below units none d e a b same
  ]
]

-- so in a top at its own names
abbrev top_unit : Top → DwUnit EntryName
top_unit t = record { at = UnitOf 0; kind = Compile; root = t.node; below = t.below }

top_once : (t : Top) → LabelledTop t → NoneTwice (units_keys (top_unit t ∷ []))
unfolding units_keys unit_keys
top_once t label = go (keys t.below ++ []) (nil (keys t.below)) where
  nil : (xs : List EntryName) → xs ≡ xs ++ []
  nil [] = refl
  nil (x ∷ xs) = ap (λ (w : List EntryName). x ∷ w) (nil xs)

  within : (k : EntryName) → In k (keys t.below) → Behind (Within t.number) [] 0 k
  within k is = behind (Within t.number) [] 0 t.below label.1 k is

  no_unit : In (UnitOf 0) (keys t.below) → ⊥
  no_unit is = let b = within (UnitOf 0) is in let z = b.is in cc

  no_root : In t.node.at (keys t.below) → ⊥
  no_root is =
      let b = within t.node.at is in
      let same : [] ≡ b.first ++ b.index ∷ [] = within_path t.number [] (b.first ++ b.index ∷ []) (sym label.0 ∙ b.is) in
      let l : 0 ≡ length (b.first ++ b.index ∷ []) = ap length same in
      absurd (omega (arith, l, length-append b.first (b.index ∷ [])))

  go : (xs : List EntryName) → keys t.below ≡ xs → NoneTwice (UnitOf 0 ∷ t.node.at ∷ xs)
  go xs e = subst (λ (w : List EntryName). NoneTwice (UnitOf 0 ∷ t.node.at ∷ w)) e (
    (λ is. elim is [ inl x ↦ (let z = sym x ∙ label.0 in cc) | inr y ↦ no_unit y ]),
    (no_root, none_below (Within t.number) (within_path t.number) [] 0 t.below label.1),
  )

raw_once : (t : Top) → LabelledTop t → (d e : Seen EntryName) → In d (raw_top t) → In e (raw_top t) → d.at ≡ e.at → d ≡ e
unfolding seen_roots seen_below
raw_once t label d e i j same = one_all (top_unit t ∷ []) (top_once t label) d e (there d i) (there e j) same where
  there : (x : Seen EntryName) → In x (raw_top t) → In x (all_seen (top_unit t ∷ []))
  there x (inl a) = inl a
  there x (inr b) = inr (in_left x (seen t.below) [] b)

-- ---- over a common file

module _ (docs : List (Doc ℕ)) (common : Doc ℕ) (fixed : Fixed) (p : ArePlacedOver docs common) (fx : IsFixed (reused_of docs common) fixed) where
  abbrev r : Reused
  r = reused_of docs common

  abbrev m : Move
  m = move_over (reused_of docs common) fixed (file_numbers 0 docs)

  abbrev parts : List Top
  parts = part_tops r (whole r (named_over docs common p))

  abbrev cp : EntryName → EntryName
  cp = copy_of (reused_of docs common)

  abbrev first : ℕ
  first = length (reused_of docs common).units

  abbrev re : IsReused (reused_of docs common)
  re = named_over docs common p

  -- alike tops of the common file are seen the same, where copies are one
  alike_seen : (a b : Top) → In a parts → In b parts → CommonAlike r a.number b.number → seen_top cp a ≡ seen_top cp b
  alike_seen a b x y h =
      let w = whole r re in
      trees_seen r (copy r) (PartTop r re) (PartTop r re) step a b (part_look r w a x) (part_look r w b y) h.alike (part_inside r re a x h.alike.first) (part_inside r re b y h.alike.second)
      (copy_same r a.number b.number (part_number r w a x) h) (re.all.tops_named a (there a x)) (re.all.tops_named b (there b y))
    where
      there : (t : Top) → In t parts → In t (tops_of (together r))
      there t is = part_together r (whole r re) t is

      step : (k n : ℕ) → PartTop r re k → PartTop r re n → look r k n ≡ true → copy r k ≡ copy r n
      step k n s t e =
          let low = subst (λ (i : ℕ). own_tops r ≤ i) s.number (part_number r (whole r re) s.top s.there) in
          let high = subst (λ (i : ℕ). own_tops r ≤ i) t.number (part_number r (whole r re) t.top t.there) in
          copy_same r k n low (record { common = high; alike = (look_is r).decides k n e })

  part_in : (t : Top) → In t (tops_of (together r)) → own_tops r ≤ t.number → In t parts
  part_in t is low = elim (together_cases r (whole r re) t is) [ inl a ↦ absurd (let high = own_number r (whole r re) t a in omega (arith, low, high)) | inr b ↦ b ]

  -- an entry of the common file is one of a top there, with names for units and roots
  record OfCommon (number : ℕ) (path : List ℕ) (d : Seen EntryName) : Type 0 where
    top : Top
    there : In top parts
    number_is : top.number ≡ number
    raw : Seen EntryName
    raw_there : In raw (raw_top top)
    raw_at : raw.at ≡ Within number path
    is : seen_map (as_part first) raw ≡ d

  as_part_within : (s : EntryName) (n : ℕ) (path : List ℕ) → as_part first s ≡ Within n path → s ≡ Within n path
  as_part_within (Within t q) n path e = e
  as_part_within (UnitOf i) n path e = absurd cc
  as_part_within (RootOf i) n path e = absurd cc
  as_part_within (SpaceAt i q) n path e = e
  as_part_within (InType i q) n path e = e
  as_part_within (PartialOf i) n path e = e
  as_part_within (PartialRoot i) n path e = e
  as_part_within (InChain a b c) n path e = e
  as_part_within (Import i j) n path e = e

  -- in either order
  commute : (s : EntryName) → cp (as_part first s) ≡ as_part first (cp s)
  commute (Within t q) = refl
  commute (UnitOf i) = refl
  commute (RootOf i) = refl
  commute (SpaceAt i q) = refl
  commute (InType i q) = refl
  commute (PartialOf i) = refl
  commute (PartialRoot i) = refl
  commute (InChain a b c) = refl
  commute (Import i j) = refl

  turned_round : (d : Seen EntryName) → seen_map cp (seen_map (as_part first) d) ≡ seen_map (as_part first) (seen_map cp d)
  turned_round d =
      seen_then (as_part first) cp d
      ∙ ap (λ (g : EntryName → EntryName). seen_map g d) (λ i s. commute s i)
      ∙ sym (seen_then cp (as_part first) d)

  module _ (outs : List (DwUnit EntryName)) (from : (v : DwUnit EntryName) → In v outs → IsNewUnit m v ⊎ IsKeptUnit m r.units v) (none : NoneTwice (units_keys outs)) where
    of_common : (number : ℕ) (path : List ℕ) (d : Seen EntryName) → In d (all_seen outs) → d.at ≡ Within number path → own_tops r ≤ number → OfCommon number path d
    of_common number path d is name low = go k.unit k.numbered (stands_common docs common fixed p fx k.unit k.after.top k.after.stands_is (subst (λ (i : ℕ). own_tops r ≤ i) (sym k.number_is) low)) where
      k : KnownTop docs common fixed p fx outs number path d
      k = known_top docs common fixed p fx outs from number path d is name

      in_unit : (n : ℕ) (f : FileUnit EntryName) → Nth 0 r.commons n f → Nth 0 (together r) (first + n) f → In d (seen (entries_map (as_part first) f.unit.below)) → OfCommon number path d
      in_unit n f nth here i =
          let o = in_map_from (seen_map (as_part first)) d (seen f.unit.below) (subst (In d) (seen_entries (as_part first) f.unit.below) i) in
          let kind = re.whole n f nth in
          let row = unit_row (together r) (first + n) f here kind in
          let named = subst (λ (w : Kind EntryName). IsNamedBelow (first + n) w (rows_of_root (together r) (first + n)) f.unit.below) kind (re.all.units_named (first + n) f here).below in
          let raw_at : o.source.at ≡ Within number path = as_part_within o.source.at number path (ap (λ (w : Seen EntryName). w.at) o.is ∙ name) in
          by o.source o.is raw_at named (seen_origin f.file (first + n) (language f.unit) [] row.first (rows_of_root (together r) (first + n)) f.unit.below row.is o.source o.there)
        where
          by : (raw : Seen EntryName) → seen_map (as_part first) raw ≡ d → raw.at ≡ Within number path → IsNamedBelow (first + n) Compile (rows_of_root (together r) (first + n)) f.unit.below
              → Origin f.file (first + n) (language f.unit) (rows_of_root (together r) (first + n)) f.unit.below raw → OfCommon number path d
          by raw same at named (InTop t a b) =
              let there = (row_top (together r) (first + n) t a).0 in
              let l = top_at t (re.all.tops_named t there) raw b in
              let number_is : t.number ≡ number = (let z = sym l.is ∙ at in cc) in
              record {
                top = t;
                there = part_in t there (subst (λ (i : ℕ). own_tops r ≤ i) (sym number_is) low);
                number_is = number_is;
                raw = raw;
                raw_there = b;
                raw_at = at;
                is = same;
              }
          by raw same at named (IsSpaceSeen names e a b) =
              absurd (let l = space_place (first + n) [] 0 (rows_of_root (together r) (first + n)) named names e a in let z = sym (b ∙ l.1) ∙ at in cc)

      go : (w : UnitNumber) → Numbered docs common fixed p fx w k.holder → InCommon docs common fixed p fx w k.after.top → OfCommon number path d
      go w numbered o =
          let n = part_nth r re o.number k.after.top o.in_part_is in
          let here : Nth 0 (together r) (first + o.number) n.0 = subst (λ (i : ℕ). Nth 0 (together r) i n.0) o.in_part_is.1 n.2 in
          let unit : partial_unit m o.number ≡ k.holder = subst (λ (x : UnitNumber). Numbered docs common fixed p fx x k.holder) o.is numbered in
          let stands : partial_unit m o.number ≡ standing_unit r n.0 = standing r fixed (file_numbers 0 docs) o.number n.0 (stands_as docs common fixed p fx o.number n.0 n.1) in
          in_unit o.number n.0 n.1 here (subst (λ (u : DwUnit EntryName). In d (seen u.below)) (sym unit ∙ stands) k.seen_in_it)

    -- copies are seen the same
    pub copied_once : (d e : Seen EntryName) → In d (all_seen outs) → In e (all_seen outs) → cp d.at ≡ cp e.at → seen_map cp d ≡ seen_map cp e
    copied_once d e i j same = by d.at e.at refl refl ((copies_law r d.at e.at).0 same) where
      equal : d.at ≡ e.at → seen_map cp d ≡ seen_map cp e
      equal s = ap (seen_map cp) (one_all outs none d e i j s)

      alike : (a b : ℕ) (q : List ℕ) → d.at ≡ Within a q → e.at ≡ Within b q → own_tops r ≤ a → CommonAlike r a b → seen_map cp d ≡ seen_map cp e
      alike a b q x y low like =
          let dc = of_common a q d i x low in
          let ec = of_common b q e j y like.common in
          let tops : CommonAlike r dc.top.number ec.top.number =
          subst (λ (n : ℕ). CommonAlike r n ec.top.number) (sym dc.number_is) (subst (λ (n : ℕ). CommonAlike r a n) (sym ec.number_is) like) in
          let trees = alike_seen dc.top ec.top dc.there ec.there tops in
          let label_d = re.all.tops_named dc.top (part_together r (whole r re) dc.top dc.there) in
          let label_e = re.all.tops_named ec.top (part_together r (whole r re) ec.top ec.there) in
          let there : In (seen_map cp ec.raw) (map (seen_map cp) (raw_top dc.top)) =
          subst (λ (w : List (Seen EntryName)). In (seen_map cp ec.raw) w) (sym (seen_top_map cp ec.top) ∙ sym trees ∙ seen_top_map cp dc.top) (in_map (seen_map cp) ec.raw (raw_top ec.top) ec.raw_there) in
          let o = in_map_from (seen_map cp) (seen_map cp ec.raw) (raw_top dc.top) there in
          let l = top_at dc.top label_d o.source o.there in
          let both : Within (copy r dc.top.number) l.path ≡ Within (copy r b) q = sym (ap cp l.is) ∙ ap (λ (s : Seen EntryName). s.at) o.is ∙ ap cp ec.raw_at in
          let paths : l.path ≡ q = (let z = both in cc) in
          let at : dc.raw.at ≡ o.source.at = dc.raw_at ∙ ap (λ (n : ℕ). Within n q) (sym dc.number_is) ∙ ap (Within dc.top.number) (sym paths) ∙ sym l.is in
          let raws : seen_map cp dc.raw ≡ seen_map cp ec.raw = ap (seen_map cp) (raw_once dc.top label_d dc.raw o.source dc.raw_there o.there at) ∙ o.is in
          sym (ap (seen_map cp) dc.is) ∙ turned_round dc.raw ∙ ap (seen_map (as_part first)) raws ∙ sym (turned_round ec.raw) ∙ ap (seen_map cp) ec.is

      by : (s t : EntryName) → d.at ≡ s → e.at ≡ t → Copies r s t → seen_map cp d ≡ seen_map cp e
      by (Within a q) (Within b w) x y (inl z, u) = equal (x ∙ (λ k. Within (z k) (u k)) ∙ sym y)
      by (Within a q) (Within b w) x y (inr (low, like), u) = alike a b q x (y ∙ ap (Within b) (sym u)) low like
      by s t x y z = equal (x ∙ z ∙ sym y)

    -- so among the units where copies are one each name is of one entry
    pub mids_once : (a b : Seen EntryName) → In a (all_seen (map (unit_map (copy_of (reused_of docs common))) outs)) → In b (all_seen (map (unit_map (copy_of (reused_of docs common))) outs))
        → a.at ≡ b.at → a ≡ b
    mids_once a b i j same =
        let all = all_shown cp outs (map (unit_map cp) outs) (map_shown cp outs) in
        let x = in_map_from (seen_map cp) a (all_seen outs) (subst (In a) all i) in
        let y = in_map_from (seen_map cp) b (all_seen outs) (subst (In b) all j) in
        sym x.is ∙ copied_once x.source y.source x.there y.there (ap (λ (s : Seen EntryName). s.at) x.is ∙ same ∙ sym (ap (λ (s : Seen EntryName). s.at) y.is)) ∙ y.is

  -- tops with one copy stand in spaces with the same names
  pub copied_names : (a b : Top) → In a (tops_of (together r)) → In b (tops_of (together r)) → copy r a.number ≡ copy r b.number → name_list a ≡ name_list b
  copied_names a b i j same = by ((copies_law r (Within a.number []) (Within b.number [])).0 (ap (λ (n : ℕ). Within n []) same)).0 where
    by : (a.number ≡ b.number) ⊎ ((own_tops r ≤ a.number) × CommonAlike r a.number b.number) → name_list a ≡ name_list b
    by (inl s) = ap name_list (one_top (together r) a b i j s)
    by (inr (low, like)) = alike_names r a b (part_look r (whole r re) a (part_in a i low)) (part_look r (whole r re) b (part_in b j like.common)) like.alike
