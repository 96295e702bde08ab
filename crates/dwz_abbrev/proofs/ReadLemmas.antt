-- A row of names and forms that grows: what was read of it before stays.
use Rattle.std.proofs.Common.{◌≡◌, ℕ, ◌+◌, ◌-◌, ◌≤◌, List, [], ◌∷◌, ◌++◌, drop, length, take, refl, sym, ap, subst, ◌∙◌, arith}
use Rattle.std.specs.Prelude.{All, slice_range}
use Rattle.std.proofs.lemmas.List.{drop-append-le, drop-take, length-take, map_push, take-append-le, take-take, take_all}
use Rattle.std.proofs.lemmas.List.Elements.{All-head, All-push, All-tail, All-weaker}
use Rattle.dwz_model.specs.declared.place.Pair.{Pair}
use Rattle.dwz_def_reading.specs.Abbrevs.{Declaration}
use Rattle.dwz_abbrev.specs.declared.read_decl.ReadDecl.{ReadDecl}
use Rattle.dwz_abbrev.specs.ReadViews.{IsInRow, read_view, read_views}
use Rattle.dwz_abbrev.specs.Written.{Begins}

pub begins_le : {X : Type 0} (old new : List X) → Begins old new → length old ≤ length new
begins_le old new begins = omega (arith, ap length begins, length-take (length old) new)

pub begins_same : {X : Type 0} (xs : List X) → Begins xs xs
begins_same xs = take_all (length xs) xs (omega arith)

pub begins_both : {X : Type 0} (old mid new : List X) → Begins old mid → Begins mid new → Begins old new
begins_both old mid new first second = sym (take-take (length old) (length mid) new (begins_le old mid first)) ∙ ap (take (length old)) second ∙ first

pub begins_push : {X : Type 0} (old mid new : List X) (x : X) → Begins old mid → new ≡ mid ++ x ∷ [] → Begins old new
begins_push old mid new x begins is = ap (take (length old)) is ∙ take-append-le (length old) mid (x ∷ []) (begins_le old mid begins) ∙ begins

-- what stands behind the old ones
pub behind_push : {X : Type 0} (old mid new : List X) (x : X) → Begins old mid → new ≡ mid ++ x ∷ [] → drop (length old) new ≡ drop (length old) mid ++ x ∷ []
behind_push old mid new x begins is = ap (drop (length old)) is ∙ drop-append-le (length old) mid (x ∷ []) (begins_le old mid begins)

-- ---- parts of a row

part_is : {X : Type 0} (xs : List X) (a n : ℕ) → slice_range xs a (a + n) ≡ drop a (take (a + n) xs)
part_is xs a n =
    let count : a + n - a ≡ n = omega arith in
    ap (λ (k : ℕ). take k (drop a xs)) count ∙ sym (drop-take a n xs)

pub part_kept : {X : Type 0} (old new : List X) (a n : ℕ) → Begins old new → a + n ≤ length old → slice_range new a (a + n) ≡ slice_range old a (a + n)
part_kept old new a n begins le =
    part_is new a n ∙ ap (drop a) (sym (take-take (a + n) (length old) new le) ∙ ap (take (a + n)) begins) ∙ sym (part_is old a n)

pub reads_kept : (old new : List Pair) (decls : List ReadDecl) → Begins old new → All (IsInRow old) decls → read_views new decls ≡ read_views old decls
reads_kept old new [] begins within = refl
reads_kept old new (d ∷ decls) begins within =
    ap (λ (ps : List Pair). record { code = d.code; tag = d.tag; children = d.children; pairs = ps } ∷ read_views new decls) (part_kept old new d.first d.count begins (All-head (IsInRow old) d decls within))
    ∙ ap (λ (w : List Declaration). read_view old d ∷ w) (reads_kept old new decls begins (All-tail (IsInRow old) d decls within))

pub within_kept : (old new : List Pair) (decls : List ReadDecl) → Begins old new → All (IsInRow old) decls → All (IsInRow new) decls
within_kept old new decls begins within = All-weaker (IsInRow old) (IsInRow new) (λ d le. omega (arith, le, begins_le old new begins)) decls within

-- the last part of a row
pub part_last : {X : Type 0} (xs : List X) (a n : ℕ) → a + n ≡ length xs → slice_range xs a (a + n) ≡ drop a xs
part_last xs a n is = part_is xs a n ∙ ap (drop a) (take_all (a + n) xs (omega (arith, is)))

-- ---- one declaration more

module _ (old new : List Pair) (decls all : List ReadDecl) (d : ReadDecl) (begins : Begins old new) (within : All (IsInRow old) decls) (is : all ≡ decls ++ d ∷ []) where
  pub reads_more : read_views new all ≡ read_views old decls ++ read_view new d ∷ []
  reads_more = ap (read_views new) is ∙ map_push (read_view new) decls d ∙ ap (λ (w : List Declaration). w ++ read_view new d ∷ []) (reads_kept old new decls begins within)

  pub within_more : IsInRow new d → All (IsInRow new) all
  within_more here = subst (All (IsInRow new)) (sym is) (All-push (IsInRow new) decls d (within_kept old new decls begins within) here)
