-- There is one row of new units that has the copies of a plan's sources.
use Rattle.std.proofs.Common.{◌≡◌, ℕ, zero, suc, ◌+◌, ◌<◌, ◌≤◌, List, [], ◌∷◌, get_or, length, map, refl, sym, ap, subst, ◌∙◌, arith, inl, inr}
use Rattle.dwz_def_cross.specs.CrossSame.{EachTwo}
use Rattle.dwz_def_cross.specs.Tops.{WithCommon, units_with_common, whole_units}
use Rattle.dwz_def_encoding.specs.Meant.{entry_keys}
use Rattle.dwz_def_expand.proofs.SourceLemmas.{source_none}
use Rattle.dwz_def_expand.proofs.WholeLemmas.{in_all}
use Rattle.dwz_def_expand.specs.Chosen.{Choice}
use Rattle.dwz_def_expand.specs.Source.{Copy, copy, source_places, source_unit}
use Rattle.dwz_def_reading.specs.Documents.{DwUnit, Kind, kind_map}
use Rattle.dwz_def_reading.specs.Documents as document
use Rattle.dwz_def_tops.specs.Shown.{unit_keys, units_keys}
use Rattle.dwz_expand_sources.specs.Imports.{same}
use Rattle.dwz_model.proofs.ListFacts.{in_cases, same_got}
use Rattle.dwz_model.proofs.Members.{in_map_from}
use Rattle.dwz_model.proofs.OnceLemmas.{none_append, none_map}
use Rattle.dwz_model.specs.Lists.{Each, In, NoneTwice}
use Rattle.dwz_expand_layout.specs.Attributes.{Content, OfEntry, OfParts, OfRoot, OutAttr, Read}
use Rattle.dwz_expand_layout.specs.Depths.{DeepLine, with_ends}
use Rattle.dwz_expand_layout.specs.Entries.{UnitLines}
use Rattle.dwz_expand_layout.specs.Lines.{Line}
use Rattle.dwz_expand_layout.specs.Shown.{AttrRefers, ContentRefers, HeldAttr, KindRefers, KindShows, attr_held, content_held, keys_of}
use Rattle.dwz_expand_layout.specs.declared.entries.NewKind.{NewKind}
use Rattle.dwz_expand_layout.specs.declared.entries.NewKind.TheVariants.{Compile, OfType}
use Rattle.dwz_expand_sources.specs.declared.sources.NewUnit.{NewUnit}
use Rattle.dwz_expand_sources.specs.Sources.{Sources, in_range, ranges_of}
use Rattle.std.specs.List.{flat_map}
use Rattle.std.proofs.lemmas.List.{length-map}
use Rattle.dwz_def_expand.specs.Refusals.{Where}
use Rattle.dwz_expand_passes.specs.Passes.{AreNew, Says, forms_in}
use Rattle.dwz_expand_passes.specs.declared.new_file.NewFile.{NewFile}
use Rattle.dwz_expand_passes.proofs.NumberLemmas.{copies_many, lengths}
use Rattle.dwz_expand_passes.proofs.ReferLemmas.{copy_refers, kind_refers}
use Rattle.dwz_expand_passes.proofs.StandLemmas.{same_test}
use Rattle.dwz_expand_passes.specs.CopiesOf.{HasCopies, HaveCopies, IsCopyOf, NamesNoRoot, named_copy}
use Rattle.dwz_expand_passes.specs.Lined.{all_lines}
use Rattle.dwz_expand_passes.specs.Numbered.{copies_from, key_in}

-- ---- keys

in_got : {X : Type 0} (xs : List X) (i : ℕ) (d : X) → i < length xs → In (get_or xs i d) xs
in_got [] i d lt = absurd (omega (arith, lt))
in_got (x ∷ xs) zero d lt = inl refl
in_got (x ∷ xs) (suc i) d lt = inr (in_got xs i d (omega (arith, lt)))

one_index : {X : Type 0} (xs : List X) (d : X) → NoneTwice xs → (i j : ℕ) → i < length xs → j < length xs → get_or xs i d ≡ get_or xs j d → i ≡ j
one_index [] d once i j low inside e = absurd (omega (arith, low))
one_index (x ∷ xs) d once zero zero low inside e = refl
one_index {X} (x ∷ xs) d once zero (suc j) low inside e = absurd (once.0 (subst (λ (k : X). In k xs) (sym e) (in_got xs j d (omega (arith, inside)))))
one_index {X} (x ∷ xs) d once (suc i) zero low inside e = absurd (once.0 (subst (λ (k : X). In k xs) e (in_got xs i d (omega (arith, low)))))
one_index (x ∷ xs) d once (suc i) (suc j) low inside e = ap suc (one_index xs d once.1 i j (omega (arith, low)) (omega (arith, inside)) e)

copies_above : (n : ℕ) (units : List (List ℕ)) (k : Copy ℕ) → In k (copies_from n units) → n ≤ k.unit
unfolding copies_from
copies_above n [] k is = absurd is
copies_above n (places ∷ units) k is = elim (in_cases k (map (copy n) places) (copies_from (suc n) units) is) [
  | inl here ↦ (let o = in_map_from (copy n) k places here in let at : n ≡ k.unit = ap (λ (x : Copy ℕ). x.unit) o.is in omega (arith, at))
  | inr later ↦ (let le = copies_above (suc n) units k later in omega (arith, le))
]

copies_once : (n : ℕ) (units : List (List ℕ)) → Each NoneTwice units → NoneTwice (copies_from n units)
unfolding copies_from
copies_once n [] once = tt
copies_once n (places ∷ units) once =
    none_append (map (copy n) places) (copies_from (suc n) units) (none_map (copy n) (λ p q e. ap (λ (x : Copy ℕ). x.source) e) places once.0) (copies_once (suc n) units once.1)
    (λ k a b. (
    let o = in_map_from (copy n) k places a in
    let at : n ≡ k.unit = ap (λ (x : Copy ℕ). x.unit) o.is in
    let le = copies_above (suc n) units k b in
    absurd (omega (arith, at, le))))

module _ (w : WithCommon ℕ) (apart : NoneTwice (units_keys (units_with_common w))) where
  each_once : (some : List (DwUnit ℕ)) → ((u : DwUnit ℕ) → In u some → In u (whole_units w.own)) → Each NoneTwice (map entry_keys (map (source_unit same (units_with_common w)) some))
  unfolding unit_keys
  each_once [] into = tt
  each_once (u ∷ some) into =
      let o = in_all same same_test w apart u (into u (inl refl)) in
      ((source_none same same_test (units_with_common w) apart u o.0 o.1).1, each_once some (λ v is. into v (inr is)))

  abbrev Count : ℕ
  Count = lengths (source_places same w)

  one_key : (i j : ℕ) → i < Count → j < Count → key_in w i ≡ key_in w j → i ≡ j
  one_key i j low inside e =
      let all = copies_from 0 (source_places same w) in
      let many = copies_many 0 (source_places same w) in
      one_index all (copy (length (source_places same w)) 0) (copies_once 0 (source_places same w) (each_once (whole_units w.own) (λ u is. is))) i j (omega (arith, low, many))
      (omega (arith, inside, many)) e

  keys_one : (xs ys : List ℕ) → map (key_in w) xs ≡ map (key_in w) ys → Each (λ n. n < Count) xs → Each (λ n. n < Count) ys → xs ≡ ys
  keys_one [] [] e a b = refl
  keys_one [] (y ∷ ys) e a b = absurd cc
  keys_one (x ∷ xs) [] e a b = absurd cc
  keys_one (x ∷ xs) (y ∷ ys) e a b =
      let first : key_in w x ≡ key_in w y = cc in
      let rest : map (key_in w) xs ≡ map (key_in w) ys = cc in
      (λ i. one_key x y a.0 b.0 first i ∷ keys_one xs ys rest a.1 b.1 i)

  -- ---- what is stored

  one_content : (a b : Content) → content_held (keys_of (key_in w)) a ≡ content_held (keys_of (key_in w)) b → ContentRefers Count a → ContentRefers Count b → a ≡ b
  one_content (OfRoot unit) b e x y = absurd x
  one_content (Read raw) (OfRoot unit) e x y = absurd y
  one_content (OfEntry n) (OfRoot unit) e x y = absurd y
  one_content (OfParts parts ns) (OfRoot unit) e x y = absurd y
  one_content (Read raw) (Read other) e x y = (let is : raw ≡ other = cc in ap (λ (r : _). Read r) is)
  one_content (Read raw) (OfEntry n) e x y = absurd cc
  one_content (Read raw) (OfParts parts ns) e x y = absurd cc
  one_content (OfEntry n) (Read raw) e x y = absurd cc
  one_content (OfEntry n) (OfEntry m) e x y = (let is : key_in w n ≡ key_in w m = cc in ap (λ (k : ℕ). OfEntry k) (one_key n m x y is))
  one_content (OfEntry n) (OfParts parts ns) e x y = absurd cc
  one_content (OfParts parts ns) (Read raw) e x y = absurd cc
  one_content (OfParts parts ns) (OfEntry n) e x y = absurd cc
  one_content (OfParts parts ns) (OfParts others ms) e x y =
      let same_parts : parts ≡ others = cc in
      let keys : map (key_in w) ns ≡ map (key_in w) ms = cc in
      (λ i. OfParts (same_parts i) (keys_one ns ms keys x y i))

  one_attrs : (cs bs : List OutAttr) → map (attr_held (keys_of (key_in w))) cs ≡ map (attr_held (keys_of (key_in w))) bs → Each (AttrRefers Count) cs → Each (AttrRefers Count) bs → cs ≡ bs
  one_attrs [] [] e x y = refl
  one_attrs [] (b ∷ bs) e x y = absurd cc
  one_attrs (a ∷ cs) [] e x y = absurd cc
  one_attrs (a ∷ cs) (b ∷ bs) e x y =
      let first : attr_held (keys_of (key_in w)) a ≡ attr_held (keys_of (key_in w)) b = cc in
      let rest : map (attr_held (keys_of (key_in w))) cs ≡ map (attr_held (keys_of (key_in w))) bs = cc in
      let pair = ap (λ (h : HeldAttr (Copy ℕ)). h.pair) first in
      let content = one_content a.content b.content (ap (λ (h : HeldAttr (Copy ℕ)). h.held) first) x.0 y.0 in
      (λ i. record { pair = pair i; content = content i } ∷ one_attrs cs bs rest x.1 y.1 i)

  one_deep : (c : Choice ℕ) (n : ℕ) → n < length (source_places same w) → (ds es : List DeepLine) (ls : List (Line ℕ)) → EachTwo (IsCopyOf w c n) ds ls → EachTwo (IsCopyOf w c n) es ls
      → Each (λ d. Each NamesNoRoot d.attrs) ds → Each (λ d. Each NamesNoRoot d.attrs) es → ds ≡ es
  one_deep c n lt [] [] ls a b x y = refl
  one_deep c n lt [] (e ∷ es) [] a b x y = absurd b
  one_deep c n lt [] (e ∷ es) (l ∷ ls) a b x y = absurd a
  one_deep c n lt (d ∷ ds) es [] a b x y = absurd a
  one_deep c n lt (d ∷ ds) [] (l ∷ ls) a b x y = absurd b
  one_deep c n lt (d ∷ ds) (e ∷ es) (l ∷ ls) a b x y =
      let depth = a.0.depth ∙ sym b.0.depth in
      let tag = a.0.tag ∙ sym b.0.tag in
      let attrs = one_attrs d.attrs e.attrs (a.0.attrs ∙ sym b.0.attrs) (copy_refers w n lt c l.node.at d.attrs l.node.attrs a.0.attrs x.0)
      (copy_refers w n lt c l.node.at e.attrs l.node.attrs b.0.attrs y.0) in
      (λ i. record { depth = depth i; tag = tag i; attrs = attrs i } ∷ one_deep c n lt ds es ls a.1 b.1 x.1 y.1 i)

  one_kind : (s t : NewKind) (k : Kind (Copy ℕ)) → KindShows (key_in w) s k → KindShows (key_in w) t k → KindRefers Count s → KindRefers Count t → s ≡ t
  one_kind Compile Compile k a b x y = refl
  one_kind Compile (OfType s m) document.Compile a b x y = absurd b
  one_kind Compile (OfType s m) (document.OfType t p) a b x y = absurd a
  one_kind Compile (OfType s m) document.Partial a b x y = absurd a
  one_kind (OfType s m) Compile document.Compile a b x y = absurd a
  one_kind (OfType s m) Compile (document.OfType t p) a b x y = absurd b
  one_kind (OfType s m) Compile document.Partial a b x y = absurd a
  one_kind (OfType s m) (OfType t n) document.Compile a b x y = absurd a
  one_kind (OfType s m) (OfType t n) document.Partial a b x y = absurd a
  one_kind (OfType s m) (OfType t n) (document.OfType u p) a b x y =
      let sign : s ≡ t = a.0 ∙ sym b.0 in
      let main = one_key m n x y (a.1 ∙ sym b.1) in
      (λ i. OfType (sign i) (main i))

  module _ (s : Sources) (c : Choice ℕ) where
    one_unit : (n : ℕ) → n < length (source_places same w) → (x : NewUnit) (u : DwUnit ℕ) (o p : UnitLines) → HasCopies w s c n x u o → HasCopies w s c n x u p → o ≡ p
    one_unit n lt x u o p a b =
        let root : a.root ≡ b.root = same_got (all_lines w) x.root a.root b.root a.is_root b.is_root in
        let below = flat_map (in_range (all_lines w)) (ranges_of s.ranges x) in
        let mine = subst (λ (l : Line ℕ). EachTwo (IsCopyOf w c n) a.deep (l ∷ below)) root a.copies in
        let deep = one_deep c n lt a.deep b.deep (b.root ∷ below) mine b.copies a.no_roots b.no_roots in
        let kind = one_kind o.kind p.kind (kind_map (named_copy w n) u.kind) a.kind b.kind (kind_refers w n lt o.kind u.kind a.kind) (kind_refers w n lt p.kind u.kind b.kind) in
        let lines = a.lines ∙ ap (λ (ds : List DeepLine). with_ends ds) deep ∙ sym b.lines in
        (λ i. record { kind = kind i; lines = lines i })

    pub one_order : (n : ℕ) (xs : List NewUnit) (us : List (DwUnit ℕ)) (os ps : List UnitLines) → n + length us ≤ length (source_places same w) → HaveCopies w s c n xs us os
        → HaveCopies w s c n xs us ps → os ≡ ps
    one_order n [] [] [] [] le a b = refl
    one_order n [] [] [] (p ∷ ps) le a b = absurd b
    one_order n [] [] (o ∷ os) ps le a b = absurd a
    one_order n [] (u ∷ us) os ps le a b = absurd a
    one_order n (x ∷ xs) [] os ps le a b = absurd a
    one_order n (x ∷ xs) (u ∷ us) [] ps le a b = absurd a
    one_order n (x ∷ xs) (u ∷ us) (o ∷ os) [] le a b = absurd b
    one_order n (x ∷ xs) (u ∷ us) (o ∷ os) (p ∷ ps) le a b =
        (λ i. one_unit n (omega (arith, le)) x u o p a.0 b.0 i ∷ one_order (suc n) xs us os ps (omega (arith, le)) a.1 b.1 i)

pub same_order : (x : NewFile) (w : WithCommon ℕ) (stands : Where ℕ) (a b : List UnitLines) → Says x w stands → AreNew x a → AreNew x b → a ≡ b
same_order x w stands a b says first second =
    let source = source_unit same (units_with_common w) in
    let many : length (source_places same w) ≡ length (whole_units w.own) =
    length-map (map source (whole_units w.own)) (λ (v : DwUnit ℕ). entry_keys v) ∙ length-map (whole_units w.own) source in
    one_order w says.apart x.sources.now (forms_in x w) 0 x.sources.now.units (whole_units w.own) a b (omega (arith, many)) (first.copies w stands says) (second.copies w stands says)
