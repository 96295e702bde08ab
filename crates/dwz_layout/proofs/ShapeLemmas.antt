-- A shape that is put behind the others, and its code.
use Rattle.std.proofs.Common.{◌≡◌, ℕ, zero, suc, ◌+◌, ◌<◌, ◌⊎◌, Bool, true, false, List, [], ◌∷◌, ◌++◌, get_or, length, Option, Some, None, refl, sym, ap, subst, ◌∙◌, arith}
use Rattle.std.proofs.Math.Logic.{inl, inr}
use Rattle.std.specs.Prelude.{slice_get}
use Rattle.std.specs.Option.{option_map}
use Rattle.std.proofs.lemmas.Option.{slice_get-map, slice_get_read}
use Rattle.std.specs.BTreeMap.{BTreeMap}
use Rattle.std.specs.Global.{Vec}
use Rattle.std.proofs.lemmas.List.{length-map}
use Rattle.dwz_model.specs.declared.place.Pair.{Pair}
use Rattle.dwz_abbrev.specs.declared.decl.Decl.{Decl}
use Rattle.dwz_abbrev.specs.Views.{decl_view, views}
use Rattle.dwz_def_reading.specs.Abbrevs.{Declaration, with_code}
use Rattle.dwz_def_encoding.specs.Writing.{DeclarationShape, code_in, same_shape, with_shape}
use Rattle.dwz_def_encoding.proofs.SameLemmas.{same_shape-true}
use Rattle.dwz_def_encoding.proofs.WriteCodes.{code_last}
use Rattle.dwz_layout.specs.Shapes.{shape_in, shape_of, shapes_in}
use Rattle.dwz_layout.specs.Slots.{AreFound}
use Rattle.dwz_layout.proofs.CodedLemmas.{entry_shape, shapes_grown, with_new}

abbrev picked : Bool → ℕ → Option ℕ → Option ℕ
picked test n o = elim test as (λ _. Option ℕ) [ true ↦ Some n | false ↦ o ]

-- the code of another shape stays
pub code_other : (n : ℕ) (shapes : List DeclarationShape) (s t : DeclarationShape) → (s ≡ t → ⊥) → code_in n (shapes ++ s ∷ []) t ≡ code_in n shapes t
unfolding code_in
code_other n [] s t other = go (same_shape s t) refl where
  go : (test : Bool) → same_shape s t ≡ test → picked test n None ≡ None
  go true e = absurd (other (same_shape-true s t e))
  go false e = refl
code_other n (u ∷ shapes) s t other = ap (picked (same_shape u t) n) (code_other (suc n) shapes s t other)

-- what stands at a place where one is behind the others
pub placed : (shapes : List DeclarationShape) (s : DeclarationShape) (place : ℕ) (t : DeclarationShape) → slice_get (shapes ++ s ∷ []) place ≡ Some t
    → (slice_get shapes place ≡ Some t) ⊎ ((place ≡ length shapes) × (s ≡ t))
placed [] s zero t is = inr (refl, cc)
placed [] s (suc place) t is = absurd cc
placed (u ∷ shapes) s zero t is = inl is
placed (u ∷ shapes) s (suc place) t is = elim (placed shapes s place t is) [ inl before ↦ inl before | inr last ↦ inr (ap suc last.0, last.1) ]

-- it is put behind the others
module _ (table new : List Declaration) (s : DeclarationShape) (code : ℕ) (none : code_in 1 (shapes_in table) s ≡ None) (next : code ≡ length table + 1)
    (grown : new ≡ table ++ with_code (entry_shape s) code ∷ []) where
  abbrev behind : shapes_in new ≡ shapes_in table ++ s ∷ []
  behind = shapes_grown table new s code next grown

  pub code_after : code_in 1 (shapes_in new) s ≡ Some code
  code_after =
      let count : 1 + length (shapes_in table) ≡ code = omega (arith, next, length-map table shape_in) in
      ap (λ (t : List DeclarationShape). code_in 1 t s) behind ∙ code_last 1 (shapes_in table) s none ∙ ap (λ (n : ℕ). Some n) count

  pub shapes_after : shapes_in new ≡ with_shape (shapes_in table) s
  shapes_after = behind ∙ sym (with_new (shapes_in table) s none)

  pub found_behind : (codes : BTreeMap (Vec ℕ) ℕ) (slots : List ℕ) → AreFound codes slots (shapes_in table ++ s ∷ []) → AreFound codes slots (shapes_in new)
  found_behind codes slots are = subst (AreFound codes slots) (sym behind) are

-- the shape of the declaration at a place stands there
pub shape_at : (decls : List Decl) (table : List Declaration) (place : ℕ) (d : Decl) (s : DeclarationShape) → views decls ≡ table → place < length decls → d ≡ get_or decls place d
    → shape_in (decl_view d) ≡ s → slice_get (shapes_in table) place ≡ Some s
shape_at decls table place d s same lt is shape =
    let at : slice_get decls place ≡ Some d = slice_get_read decls (length decls) place d refl lt is in
    ap (λ (t : List Declaration). slice_get (shapes_in t) place) (sym same)
    ∙ slice_get-map shape_in (views decls) place
    ∙ ap (option_map shape_in) (slice_get-map decl_view decls place ∙ ap (option_map decl_view) at)
    ∙ ap (λ (t : DeclarationShape). Some t) shape

-- ---- a declaration that is compared with a shape

pub decl_shape : (d : Decl) (tag : ℕ) (children : Bool) (pairs : List Pair) → d.tag ≡ tag → d.children ≡ children → d.pairs ≡ pairs → shape_in (decl_view d) ≡ shape_of tag children pairs
decl_shape d tag children pairs a b e = (λ i. shape_of (a i) (b i) (e i))
