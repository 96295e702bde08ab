-- Which tops import no partial unit, by flags: of a file's own tops, and of those of the common file that were looked at by themselves.
use Rattle.std.proofs.Common.{◌≡◌, ℕ, ◌<◌, ◌^◌, Bool, true, false, List, [], ◌∷◌, ◌++◌, map, refl, sym, ap, subst, ◌∙◌, inl, inr, arith}
use Rattle.std.specs.Prelude.{◌⊎◌, not}
use Rattle.std.proofs.lemmas.List.{append-nil}
use Rattle.dwz_model.specs.Lists.{In}
use Rattle.dwz_model.proofs.ListFacts.{in_cases, in_map, in_right}
use Rattle.dwz_model.proofs.Members.{in_map_from}
use Rattle.dwz_def_reading.specs.Documents.{Compile, DwUnit, Kind, Node, OfType, Partial, kind_map, node_map, ref, unit_map}
use Rattle.dwz_def_tops.specs.Seen.{IsImport, IsPartial, Named, named_map, named_value}
use Rattle.dwz_def_tops.proofs.SeenLemmas.{names_map}
use Rattle.dwz_def_cross.specs.Tops.{CrossTop, units_with_common}
use Rattle.dwz_def_check.specs.CrossLabels.{cross_top_map}
use Rattle.dwz_def_check.specs.CrossLists.{KeepsPlain}
use Rattle.dwz_def_check.specs.CrossNames.{IsNthTop, Side, cross_tops}
use Rattle.dwz_graph.specs.Surroundings.{behind_own}
use Rattle.dwz_imports.specs.Imports.{imports_any}
use Rattle.dwz_imports.proofs.ImportRelations.{imports_none}
use Rattle.dwz_check_index.proofs.MapLemmas.{mapped}
use Rattle.dwz_check_columns.proofs.TwoLists.{Gives, gives_nth}

-- ---- places of the common file behind those of another one

abbrev naming : ℕ → Named ℕ
naming p = record { name = 0x18; value = ref p }

refs_from : (refs : List ℕ) (q : ℕ) → map behind_own refs ≡ q ∷ [] → (p : ℕ) × (refs ≡ p ∷ []) × (behind_own p ≡ q)
refs_from [] q e = absurd cc
refs_from (p ∷ []) q e = let same : behind_own p ≡ q = cc in (p, refl, same)
refs_from (p ∷ r ∷ refs) q e = absurd cc

named_from : (a : Named ℕ) (q : ℕ) → named_map behind_own a ≡ naming q → (p : ℕ) × (a ≡ naming p) × (behind_own p ≡ q)
named_from a q e =
    let o = refs_from a.value.refs q (λ j. (e j).value.refs) in
    let refs = o.1 in
    (o.0, (λ j. record { name = (e j).name; value = record { plain = (e j).value.plain; refs = refs j; address = (e j).value.address } }), o.2)

partial_to : (k : Kind ℕ) → IsPartial k → IsPartial (kind_map behind_own k)
partial_to Compile h = h
partial_to (OfType signature main) h = h
partial_to Partial h = h

pub partial_from : (k : Kind ℕ) → IsPartial (kind_map behind_own k) → IsPartial k
partial_from Compile h = h
partial_from (OfType signature main) h = h
partial_from Partial h = h

same_flag : (x y : Bool) → (x ≡ false → y ≡ false) → (y ≡ false → x ≡ false) → x ≡ y
same_flag true true h j = refl
same_flag false false h j = refl
same_flag true false h j = j refl
same_flag false true h j = sym (h refl)

-- whether a top imports no partial unit
abbrev pub is_plain : List (DwUnit ℕ) → CrossTop ℕ → Bool
is_plain units t = not (imports_any units t.node)

abbrev pub behind : List (DwUnit ℕ) → List (DwUnit ℕ)
behind units = map (unit_map behind_own) units

-- own units, whose roots are below 2^32, and the common ones
module _ (own common : List (DwUnit ℕ)) (low : (u : DwUnit ℕ) → In u own → u.root.at < 2 ^ 32) where
  import_to : (e : Node ℕ) (v : DwUnit ℕ) → IsImport (common ++ []) e v → IsImport (own ++ behind common) (node_map behind_own e) (unit_map behind_own v)
  import_to e v h = record {
    unit =
        in_right (unit_map behind_own v) own (behind common) (in_map (unit_map behind_own) v common (subst (λ (w : List (DwUnit ℕ)). In v w) (append-nil common) h.unit));
    partial = partial_to v.kind h.partial;
    tag = h.tag;
    names =
        subst (λ (w : List (Named ℕ)). In (naming (behind_own v.root.at)) w) (sym (names_map behind_own e.attrs))
        (in_map (named_map behind_own) (naming v.root.at) (map named_value e.attrs) h.names);
  }

  import_from : (e : Node ℕ) (x : DwUnit ℕ) → IsImport (own ++ behind common) (node_map behind_own e) x → (v : DwUnit ℕ) × IsImport (common ++ []) e v
  import_from e x h =
      let named = in_map_from (named_map behind_own) (naming x.root.at) (map named_value e.attrs)
      (subst (λ (w : List (Named ℕ)). In (naming x.root.at) w) (names_map behind_own e.attrs) h.names) in
      let p = named_from named.source x.root.at named.is in
      by p.0 p.2 (subst (λ (w : Named ℕ). In w (map named_value e.attrs)) p.1 named.there) (in_cases x own (behind common) h.unit)
    where
      by : (p : ℕ) → behind_own p ≡ x.root.at → In (naming p) (map named_value e.attrs) → In x own ⊎ In x (behind common) → (v : DwUnit ℕ) × IsImport (common ++ []) e v
      by p at there (inl is) = absurd (let less = low x is in omega (arith, less, at))
      by p at there (inr is) =
          let v = in_map_from (unit_map behind_own) x common is in
          let root : behind_own v.source.root.at ≡ x.root.at = ap (λ (w : DwUnit ℕ). w.root.at) v.is in
          let one : p ≡ v.source.root.at = omega (arith, at, root) in (
            v.source,
            record {
              unit = subst (λ (w : List (DwUnit ℕ)). In v.source w) (sym (append-nil common)) v.there;
              partial = partial_from v.source.kind (subst (λ (w : DwUnit ℕ). IsPartial w.kind) (sym v.is) h.partial);
              tag = h.tag;
              names = subst (λ (q : ℕ). In (naming q) (map named_value e.attrs)) one there;
            },
          )

  flag_same : (t : CrossTop ℕ) → is_plain (own ++ behind common) (cross_top_map behind_own t) ≡ is_plain (common ++ []) t
  flag_same t =
      let e = t.node in
      ap not (same_flag (imports_any (own ++ behind common) (node_map behind_own e)) (imports_any (common ++ []) e)
      (λ none. (imports_none (common ++ []) e).1 (λ v h. (imports_none (own ++ behind common) (node_map behind_own e)).0 none (unit_map behind_own v) (import_to e v h)))
      (λ none. (imports_none (own ++ behind common) (node_map behind_own e)).1 (λ x h. let v = import_from e x h in (imports_none (common ++ []) e).0 none v.0 v.1)))

  flags_of : (ts : List (CrossTop ℕ)) → map (is_plain (own ++ behind common)) (map (cross_top_map behind_own) ts) ≡ map (is_plain (common ++ [])) ts
  flags_of [] = refl
  flags_of (t ∷ ts) = let first = flag_same t in let rest = flags_of ts in (λ i. first i ∷ rest i)

  -- the flags of common tops are those that they have by themselves
  pub flags_same : map (is_plain (own ++ behind common)) (cross_tops (behind common)) ≡ map (is_plain (common ++ [])) (cross_tops common)
  flags_same = ap (map (is_plain (own ++ behind common))) ((mapped behind_own common).tops) ∙ flags_of (cross_tops common)

-- ---- flags by number

not_true : (b : Bool) → not b ≡ true → b ≡ false
not_true false e = refl
not_true true e = absurd cc

-- the test that gives each top's flag is passed by just those that import nothing
pub keeps_plain : (s : Side ℕ) (keeps : ℕ → Bool) → Gives keeps s.own (map (is_plain (units_with_common s.files)) (cross_tops s.files.own))
    → Gives keeps s.common (map (is_plain (units_with_common s.files)) (cross_tops s.files.common)) → KeepsPlain s keeps
keeps_plain s keeps own common n t h = (
  λ e. (imports_none (units_with_common s.files) t.node).0 (not_true (imports_any (units_with_common s.files) t.node) (sym (flag h) ∙ e)),
  λ none. flag h ∙ ap not ((imports_none (units_with_common s.files) t.node).1 none),
)
  where
    flag : IsNthTop s n t → keeps n ≡ is_plain (units_with_common s.files) t
    flag (inl o) = gives_nth keeps (is_plain (units_with_common s.files)) s.own n (cross_tops s.files.own) t own o
    flag (inr c) = gives_nth keeps (is_plain (units_with_common s.files)) s.common n (cross_tops s.files.common) t common c
