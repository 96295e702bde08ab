-- Units, spaces and tops of the new file mean what those of the old one meant.
use Rattle.std.proofs.Common.{◌≡◌, ℕ, suc, Bool, true, false, List, [], ◌∷◌, map, refl, sym, ap, subst, ◌∙◌, inl, inr}
use Rattle.dwz_def_reading.specs.Lists.{In, NoneTwice, Nth}
use Rattle.dwz_def_reading.proofs.Members.{nth_one}
use Rattle.dwz_def_reading.specs.Documents.{Compile, DwUnit, Entries, Kind, Node, OfType, Partial, kind_map, ref}
use Rattle.dwz_def_tops.specs.Seen.{InCompile, IsImport, IsPartial, IsShown, named_map, see}
use Rattle.dwz_def_tops.specs.Shown.{AreShown, keys, unit_keys, units_keys}
use Rattle.dwz_def_tops.specs.Spaces.{IsSpace}
use Rattle.dwz_def_tops.proofs.ShownLemmas.{space_from as shown_from, space_to}
use Rattle.dwz_def_tops.proofs.SpaceLemmas.{under_seen}
use Rattle.dwz_def_encoding.specs.Meant.{entry_keys}
use Rattle.dwz_def_cross.specs.CrossLook.{CrossAlike, CrossNode}
use Rattle.dwz_def_cross.specs.CrossSame.{CrossSame, EachTwo, OneKind, SpacesAlike, TypesAlike, UnitsAlike}
use Rattle.dwz_def_cross.specs.Tops.{CrossTop, IsExpanded, StandsUnder, WithCommon, type_top, units_with_common, whole_units}
use Rattle.dwz_def_cross.proofs.TopPlaces.{along_shown, key_along, path_to, top_seen}
use Rattle.dwz_def_expand.specs.ExpandLaws.{IsTest}
use Rattle.dwz_def_expand.specs.Source.{copy_for, is_partial, source_places, source_unit, source_units, sources_below}
use Rattle.dwz_def_expand.proofs.SourceLemmas.{unit_none, unit_one}
use Rattle.dwz_law_expand.proofs.CopyLemmas.{copied_to}
use Rattle.dwz_law_expand.proofs.SameLemmas.{AllShown, Numbered, ShownAt, Shows, alike_node, back_image, image, kind_of, new_whole, no_part, numbered, pair_alike, shown, source_kept, type_pair}
use Rattle.dwz_law_expand.proofs.SiteLemmas.{key_from}
use Rattle.dwz_law_expand.proofs.TopLemmas.{space_from, space_in, top_from, top_in}

nth_mapped : {X Y : Type 0} (h : X → Y) (s : ℕ) (xs : List X) (n : ℕ) (x : X) → Nth s xs n x → Nth s (map h xs) n (h x)
nth_mapped h s [] n x nth = absurd nth
nth_mapped h s (y ∷ xs) n x (inl e) = inl (e.0, ap h e.1)
nth_mapped h s (y ∷ xs) n x (inr r) = inr (nth_mapped h (suc s) xs n x r)

module _ {P Q : Type 0} (input : Shows P Q) where
  abbrev same : P → P → Bool
  same = input.same

  abbrev test : IsTest input.same
  test = input.test

  abbrev w : WithCommon P
  w = input.w

  abbrev all : List (DwUnit P)
  all = units_with_common input.w

  abbrev apart : NoneTwice (units_keys (units_with_common input.w))
  apart = input.apart

  abbrev us : List (DwUnit P)
  us = source_units input.same input.w

  abbrev g : ℕ → P → Q
  g n p = input.place (copy_for input.same (source_places input.same input.w) n p)

  abbrev v' : WithCommon Q
  v' = record { own = input.xs; common = [] }

  abbrev Alike : CrossTop P → CrossTop Q → Type 0
  Alike = CrossAlike input.w v'

  -- ---- units

  one_kind : (n : ℕ) (su : DwUnit P) (nth : Nth 0 us n su) → (k : Kind P) → (numbered input n su nth).unit.kind ≡ k → OneKind (numbered input n su nth).unit (shown input n su nth).unit k (shown input n su nth).unit.kind
  one_kind n su nth Compile e =
      subst (λ (k : Kind Q). OneKind (numbered input n su nth).unit (shown input n su nth).unit Compile k) (sym ((shown input n su nth).shown.kind ∙ ap (kind_map (g n)) (kind_of input n su nth ∙ e))) tt
  one_kind n su nth Partial e = absurd (let at = numbered input n su nth in let both : true ≡ false = sym (ap is_partial e) ∙ at.whole in cc)
  one_kind n su nth (OfType signature main) e =
      let x = shown input n su nth in
      let at = numbered input n su nth in
      let there = input.mains at.unit at.own signature main e in
      let a = path_to at.unit.root at.unit.below main (elim there [ inl r ↦ inl r | inr b ↦ inr (key_along at.unit.below main b) ]) in
      let root : su.root ≡ at.unit.root = ap (λ (y : DwUnit P). y.root) (sym at.is) in
      let below : su.below ≡ at.unit.below = ap (λ (y : DwUnit P). y.below) (sym at.is) ∙ ap (λ (k : Kind P). sources_below same all k at.unit.below) e in
      let node : IsShown (g n) at.unit.root x.unit.root = subst (λ (d : Node P). IsShown (g n) d x.unit.root) root x.shown.root in
      let entries : AreShown (g n) at.unit.below x.unit.below = subst (λ (f : Entries P). AreShown (g n) f x.unit.below) below x.shown.below in
      subst (λ (k : Kind Q). OneKind at.unit x.unit (OfType signature main) k) (sym (x.shown.kind ∙ ap (kind_map (g n)) (kind_of input n su nth ∙ e)))
      (refl, (a.0, a.1, along_shown (g n) a.0 at.unit.root at.unit.below x.unit.root x.unit.below main node entries a.1))

  types_alike : (n : ℕ) (su : DwUnit P) (nth : Nth 0 us n su) → (k : Kind P) → (numbered input n su nth).unit.kind ≡ k → TypesAlike w v' (numbered input n su nth).unit (shown input n su nth).unit k
  types_alike n su nth Compile e = tt
  types_alike n su nth Partial e = tt
  types_alike n su nth (OfType signature main) e =
      let at = numbered input n su nth in
      let top : type_top su ≡ type_top at.unit = λ i. record {
        names = [];
        node = (sym at.is i).root;
        below =
            (ap (λ (y : DwUnit P). y.below) (sym at.is) ∙ ap (λ (k : Kind P). sources_below same all k at.unit.below) e) i;
      } in
      subst (λ (t : CrossTop P). CrossAlike w v' t (type_top (shown input n su nth).unit)) top (pair_alike input (type_top su) (type_top (shown input n su nth).unit) (type_pair input n su nth signature main (kind_of input n su nth ∙ e)))

  -- ---- no source imports a partial unit

  root_lost : (v : DwUnit P) → In v all → IsPartial v.kind → (m : ℕ) (su : DwUnit P) → Nth 0 us m su → In v.root.at (entry_keys su) → ⊥
  unfolding unit_keys
  root_lost v there part m su nth key =
      let at = numbered input m su nth in
      elim (key_from same test all apart at.unit v.root.at (subst (λ (y : DwUnit P). In v.root.at (entry_keys y)) (sym at.is) key)) [
        | inl own ↦
            let e = unit_one all apart at.unit v at.there there v.root.at (inr own) (inr (inl refl)) in
            not_both (subst (λ (y : DwUnit P). is_partial y.kind ≡ false) e at.whole)
        | inr x ↦
            let e = unit_one all apart x.0 v x.1.there there v.root.at (inr (inr x.2)) (inr (inl refl)) in
            (unit_none all apart v there).1.0 (subst (λ (y : DwUnit P). In v.root.at (keys y.below)) e x.2)
      ]
    where
      by : (k : Kind P) → IsPartial k → is_partial k ≡ true
      by Compile h = absurd h
      by (OfType s t) h = absurd h
      by Partial h = refl

      not_both : is_partial v.kind ≡ false → ⊥
      not_both e = (let both : true ≡ false = sym (by v.kind part) ∙ e in cc)

  no_import : (n : ℕ) (su : DwUnit P) → Nth 0 us n su → (t : CrossTop P) → StandsUnder t.names t su.below → (v : DwUnit P) → ¬ IsImport all t.node v
  no_import n su nth t stands v i =
      let s = top_seen t.names t su.below stands in
      let kept = source_kept input n su nth (see t.node t.below) (inr s.0) (record { name = 0x18; value = ref v.root.at }) i.names v.root.at (inl refl) in
      let o = copied_to same test w apart input.c n v.root.at kept in
      root_lost v i.unit i.partial o.number o.unit o.nth o.key

  -- ---- what stands in a compile unit

  module _ (n : ℕ) (su : DwUnit P) (nth : Nth 0 us n su) (compile : (numbered input n su nth).unit.kind ≡ Compile) where
    abbrev at : Numbered input n su
    at = numbered input n su nth

    abbrev x : ShownAt g 0 n su input.xs
    x = shown input n su nth

    source_kind : su.kind ≡ Compile
    source_kind = kind_of input n su nth ∙ compile

    expanded : (t : CrossTop P) → StandsUnder t.names t su.below → IsExpanded all at.unit t
    expanded t stands = elim (top_from same test all apart at.unit compile t (subst (λ (y : DwUnit P). StandsUnder t.names t y.below) (sym at.is) stands)) [
      | inl a ↦ inl (a, no_import n su nth t stands)
      | inr b ↦ inr (b.1.entry, b.0, b.1.child, b.1.import, (b.2, no_import n su nth t stands))
    ]

    spaces_alike : SpacesAlike w v' at.unit x.unit
    spaces_alike = record {
      spaces = λ names d s. (
          let there = subst (λ (y : DwUnit P). IsSpace names d y.below) at.is (space_in same test all apart at.unit compile names d s) in
          let e = space_to (g n) names su.below x.unit.below x.shown.below d there in
          let k = under_seen there.outer d su.below there.under in
          (e.0, e.1, alike_node input n su nth d e.0 (sym e.2.tag) e.2.attrs k.0 (inr k.1) k.2));
      no_more = λ names e s. (
          let d = shown_from (g n) names su.below x.unit.below x.shown.below e s in
          let k = under_seen d.1.outer d.0 su.below d.1.under in
          elim (space_from same test all apart at.unit compile names d.0 (subst (λ (y : DwUnit P). IsSpace names d.0 y.below) (sym at.is) d.1)) [
            | inl own ↦ (d.0, own, alike_node input n su nth d.0 e (sym d.2.tag) d.2.attrs k.0 (inr k.1) k.2)
            | inr part ↦
                let o = input.fit.inside at.unit part.0 part.1.entry at.own part.1.child part.1.import names d.0 part.2 in
                (o.0, o.1, alike_node input n su nth o.0 e (o.2 ∙ sym d.2.tag) (d.2.attrs ∙ ap (map (named_map (g n))) (sym o.3)) k.0 (inr k.1) (k.2 ∙ sym o.3))
          ]);
      tops = λ a ex. (
          let b = image input n su nth source_kind a (subst (λ (y : DwUnit P). StandsUnder a.names a y.below) at.is (top_in same test all apart at.unit compile a ex)) in
          (b.0, inl (b.1, no_part input b.0.node), b.2.names, pair_alike input a b.0 b.2));
      others = λ b ex. elim ex [
        | inl plain ↦ (let a = back_image input n su nth source_kind b plain.0 in (a.0, expanded a.0 a.1, a.2.names, pair_alike input a.0 b a.2))
        | inr import ↦ absurd (no_part input import.0 import.1 import.3)
      ];
    }

  inside_alike : (n : ℕ) (su : DwUnit P) (nth : Nth 0 us n su) → (k : Kind P) → (numbered input n su nth).unit.kind ≡ k → InCompile k (SpacesAlike w v' (numbered input n su nth).unit (shown input n su nth).unit)
  inside_alike n su nth Compile e = spaces_alike n su nth e
  inside_alike n su nth (OfType s m) e = tt
  inside_alike n su nth Partial e = tt

  units_alike : (n : ℕ) (su : DwUnit P) (nth : Nth 0 us n su) → UnitsAlike w v' (numbered input n su nth).unit (shown input n su nth).unit
  units_alike n su nth =
      let at = numbered input n su nth in
      let x = shown input n su nth in
      record {
        kind = one_kind n su nth at.unit.kind refl;
        root = subst (λ (y : DwUnit P). CrossNode Alike w v' y.root x.unit.root) (sym at.is)
            (alike_node input n su nth su.root x.unit.root (sym x.shown.root.tag) x.shown.root.attrs (see su.root su.below) (inl refl) refl);
        types = types_alike n su nth at.unit.kind refl;
        inside = inside_alike n su nth at.unit.kind refl;
      }

  two_from : (s : ℕ) (olds : List (DwUnit P)) (news : List (DwUnit Q)) → AllShown g s (map (source_unit same all) olds) news
      → ((n : ℕ) (u : DwUnit P) (x : DwUnit Q) → Nth s olds n u → Nth s news n x → UnitsAlike w v' u x) → EachTwo (UnitsAlike w v') olds news
  two_from s [] [] h each = tt
  two_from s [] (x ∷ news) h each = absurd h
  two_from s (u ∷ olds) [] h each = absurd h
  two_from s (u ∷ olds) (x ∷ news) h each = (each s u x (inl (refl, refl)) (inl (refl, refl)), two_from (suc s) olds news h.1 (λ n v y a b. each n v y (inr a) (inr b)))

  pub cross_same : CrossSame w v'
  cross_same =
      subst (λ (news : List (DwUnit Q)). EachTwo (UnitsAlike w v') (whole_units w.own) news) (sym (new_whole input))
      (two_from 0 (whole_units w.own) input.xs input.shows (λ n u y a b.
      (let su = source_unit same all u in
      let nth = nth_mapped (source_unit same all) 0 (whole_units w.own) n u a in
      let at = numbered input n su nth in
      let x = shown input n su nth in
      let first : at.unit ≡ u = nth_one 0 (whole_units w.own) n at.unit u at.whole_nth a in
      let second : x.unit ≡ y = nth_one 0 input.xs n x.unit y x.nth b in
      subst (λ (q : DwUnit Q). UnitsAlike w v' u q) second (subst (λ (q : DwUnit P). UnitsAlike w v' q x.unit) first (units_alike n su nth)))))
