-- What copies name is there: one of all copies.
use Rattle.std.proofs.Common.{◌≡◌, ℕ, ◌<◌, List, [], ◌∷◌, length, map, refl, sym, ap, subst}
use Rattle.dwz_def_cross.specs.Tops.{WithCommon}
use Rattle.dwz_def_expand.specs.Chosen.{Choice}
use Rattle.dwz_def_expand.specs.Source.{Copy, source_places}
use Rattle.dwz_def_reading.specs.Classes.{Class, OfCommonEntry, OfExpression, OfInfoEntry, OfUnitEntry, class_of}
use Rattle.dwz_def_reading.specs.Documents.{Attr, Expr, Kind, Plain, attr_map, kind_map}
use Rattle.dwz_def_reading.specs.Documents as document
use Rattle.dwz_def_reading.specs.Lists.{Each}
use Rattle.dwz_expand_layout.specs.Shown.{HeldAttr, Key, Parts, attr_held, content_held, expr_held, first_held, held_as, held_of}
use Rattle.dwz_expand_layout.specs.declared.entries.NewKind.{NewKind}
use Rattle.dwz_expand_layout.specs.declared.entries.NewKind.TheVariants.{Compile, OfType}
use Rattle.dwz_expand_layout.specs.declared.entries.Content.{Content as ContentOfCode}
use Rattle.dwz_expand_layout.specs.declared.entries.Content.TheVariants.{Expression, OfCopy, Stored}
use Rattle.dwz_expand_layout.specs.declared.entries.NewAttr.{NewAttr}
use Rattle.dwz_expand_layout.specs.declared.entries.NewOperand.{NewOperand}
use Rattle.dwz_expand_layout.specs.Entries.{attr_view, content_view}
use Rattle.dwz_expand_layout.specs.Depths.{DeepLine, with_ends}
use Rattle.dwz_expand_layout.specs.Shown.{AttrRefers, ContentRefers, KindRefers, KindShows, LineRefers, keys_of}
use Rattle.dwz_expand_sources.specs.Imports.{same}
use Rattle.dwz_expand_layout.specs.Attributes.{Content, OfEntry, OfParts, OfRoot, OutAttr, Read}
use Rattle.dwz_expand_passes.proofs.NumberLemmas.{lengths, named_in, one_of_all}
use Rattle.dwz_expand_passes.specs.CopiesOf.{NamesNoRoot, copied_attrs, named_copy}
use Rattle.dwz_expand_passes.specs.Numbered.{key_in}

module _ (w : WithCommon ℕ) where
  abbrev IsIn : Copy ℕ → Type 0
  IsIn k = k.unit < length (source_places same w)

  abbrev All : ℕ
  All = lengths (source_places same w)

  is_one : (number : ℕ) (k : Copy ℕ) → key_in w number ≡ k → IsIn k → number < All
  is_one number k e there = one_of_all w number (subst IsIn (sym e) there)

  are_one : (numbers : List ℕ) (refs : List (Copy ℕ)) → map (key_in w) numbers ≡ refs → Each IsIn refs → Each (λ number. number < All) numbers
  are_one [] refs e there = tt
  are_one (x ∷ numbers) [] e there = absurd cc
  are_one (x ∷ numbers) (k ∷ refs) e there =
      let first : key_in w x ≡ k = cc in
      let rest : map (key_in w) numbers ≡ refs = cc in
      (is_one x k first there.0, are_one numbers refs rest there.1)

  -- ---- by what is stored

  first_key : (number : ℕ) (refs : List (Copy ℕ)) → Key (key_in w number) ≡ first_held refs → Each IsIn refs → number < All
  first_key number [] e there = absurd cc
  first_key number (k ∷ refs) e there = let one : key_in w number ≡ k = cc in is_one number k one there.0

  no_key : (number : ℕ) (plain : Plain) (refs : List (Copy ℕ)) → Key (key_in w number) ≡ expr_held plain refs → ⊥
  no_key number (Expr parts) refs e = cc
  no_key number _ refs e = cc

  entry_refers : (number : ℕ) (k : Class) (b : Attr (Copy ℕ)) → Key (key_in w number) ≡ held_as k b → Each IsIn b.value.refs → number < All
  entry_refers number OfUnitEntry b e there = first_key number b.value.refs e there
  entry_refers number OfInfoEntry b e there = first_key number b.value.refs e there
  entry_refers number OfCommonEntry b e there = first_key number b.value.refs e there
  entry_refers number OfExpression b e there = absurd (no_key number b.value.plain b.value.refs e)
  entry_refers number _ b e there = absurd cc

  no_parts : (parts : _) (numbers : List ℕ) (refs : List (Copy ℕ)) → Parts parts (map (key_in w) numbers) ≡ first_held refs → ⊥
  no_parts parts numbers [] e = cc
  no_parts parts numbers (k ∷ refs) e = cc

  expr_refers : (parts : _) (numbers : List ℕ) (plain : Plain) (refs : List (Copy ℕ)) → Parts parts (map (key_in w) numbers) ≡ expr_held plain refs → Each IsIn refs
      → Each (λ number. number < All) numbers
  expr_refers parts numbers (Expr others) refs e there = let same_keys : map (key_in w) numbers ≡ refs = cc in are_one numbers refs same_keys there
  expr_refers parts numbers _ refs e there = absurd cc

  parts_refer : (parts : _) (numbers : List ℕ) (k : Class) (b : Attr (Copy ℕ)) → Parts parts (map (key_in w) numbers) ≡ held_as k b → Each IsIn b.value.refs
      → Each (λ number. number < All) numbers
  parts_refer parts numbers OfUnitEntry b e there = absurd (no_parts parts numbers b.value.refs e)
  parts_refer parts numbers OfInfoEntry b e there = absurd (no_parts parts numbers b.value.refs e)
  parts_refer parts numbers OfCommonEntry b e there = absurd (no_parts parts numbers b.value.refs e)
  parts_refer parts numbers OfExpression b e there = expr_refers parts numbers b.value.plain b.value.refs e there
  parts_refer parts numbers _ b e there = absurd cc

  content_refers : (c : Content) (b : Attr (Copy ℕ)) → content_held (keys_of (key_in w)) c ≡ held_as (class_of b.form) b → Each IsIn b.value.refs → ((unit : ℕ) → c ≡ OfRoot unit → ⊥)
      → ContentRefers All c
  content_refers (Read raw) b e there no_root = tt
  content_refers (OfEntry number) b e there no_root = entry_refers number (class_of b.form) b e there
  content_refers (OfRoot unit) b e there no_root = absurd (no_root unit refl)
  content_refers (OfParts parts numbers) b e there no_root = parts_refer parts numbers (class_of b.form) b e there

  attrs_refer : (given : List OutAttr) (bs : List (Attr (Copy ℕ))) → map (attr_held (keys_of (key_in w))) given ≡ map held_of bs → Each (λ b. Each IsIn b.value.refs) bs → Each NamesNoRoot given
      → Each (AttrRefers All) given
  attrs_refer [] bs e there none = tt
  attrs_refer (a ∷ given) [] e there none = absurd cc
  attrs_refer (a ∷ given) (b ∷ bs) e there none =
      let first : attr_held (keys_of (key_in w)) a ≡ held_of b = cc in
      let rest : map (attr_held (keys_of (key_in w))) given ≡ map held_of bs = cc in
      (content_refers a.content b (ap (λ (h : HeldAttr (Copy ℕ)). h.held) first) there.0 none.0, attrs_refer given bs rest there.1 none.1)

  -- ---- of the n-th unit

  module _ (n : ℕ) (lt : n < length (source_places same w)) where
    refs_in : (refs : List ℕ) → Each IsIn (map (named_copy w n) refs)
    refs_in [] = tt
    refs_in (p ∷ refs) = (named_in w n p lt, refs_in refs)

    copied_in : (c : Choice ℕ) (place : ℕ) (attrs : List (Attr ℕ)) → Each (λ b. Each IsIn b.value.refs) (copied_attrs w c n place attrs)
    copied_in c place [] = tt
    copied_in c place (a ∷ attrs) = (refs_in a.value.refs, copied_in c place attrs)

    pub copy_refers : (c : Choice ℕ) (place : ℕ) (given : List OutAttr) (attrs : List (Attr ℕ))
        → map (attr_held (keys_of (key_in w))) given ≡ map held_of (copied_attrs w c n place attrs) → Each NamesNoRoot given → Each (AttrRefers All) given
    copy_refers c place given attrs e none = attrs_refer given (copied_attrs w c n place attrs) e (copied_in c place attrs) none

    pub kind_refers : (s : NewKind) (kind : Kind ℕ) → KindShows (key_in w) s (kind_map (named_copy w n) kind) → KindRefers All s
    kind_refers Compile kind show = tt
    kind_refers (OfType t main) document.Compile show = absurd show
    kind_refers (OfType t main) (document.OfType signature p) show = is_one main (named_copy w n p) show.1 (named_in w n p lt)
    kind_refers (OfType t main) document.Partial show = absurd show

-- the entries of a unit name what these name
pub lines_refer : (count : ℕ) (deep : List DeepLine) → Each (λ d. Each (AttrRefers count) d.attrs) deep → Each (LineRefers count) (with_ends deep)
unfolding with_ends
lines_refer count [] refer = tt
lines_refer count (d ∷ deep) refer = (refer.0, lines_refer count deep refer.1)

-- ---- what the layout sees of attributes names no root

no_root : (operands : List NewOperand) (a : NewAttr) → NamesNoRoot (attr_view operands a)
no_root operands a = by a.content where
  by : (content : ContentOfCode) → (unit : ℕ) → content_view operands content ≡ OfRoot unit → ⊥
  by (Stored raw) unit e = cc
  by (OfCopy number) unit e = cc
  by (Expression x) unit e = cc

pub no_roots : (operands : List NewOperand) (attrs : List NewAttr) → Each NamesNoRoot (map (attr_view operands) attrs)
no_roots operands [] = tt
no_roots operands (a ∷ attrs) = (no_root operands a, no_roots operands attrs)
