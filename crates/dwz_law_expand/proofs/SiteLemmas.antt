-- The values of sources are sites; and from which unit what stands in a new unit comes.
use Rattle.std.proofs.Common.{◌≡◌, ◌⊎◌, ℕ, suc, Bool, true, false, List, [], ◌∷◌, ◌++◌, if◌then◌else◌, Some, None, refl, sym, ap, subst, ◌∙◌, inl, inr}
use Rattle.dwz_def_reading.specs.Lists.{Each, In, NoneTwice, Nth}
use Rattle.dwz_def_reading.proofs.ListFacts.{in_cases, in_left, in_right}
use Rattle.dwz_def_reading.proofs.Members.{each_in}
use Rattle.dwz_def_reading.specs.Documents.{Attr, Compile, DwUnit, Entries, Kind, Node, OfType, Partial}
use Rattle.dwz_def_reading.specs.FirstOf.{◌or◌}
use Rattle.dwz_def_reading.specs.Trees.{End, Entry}
use Rattle.dwz_def_tops.specs.Shown.{keys, unit_keys, units_keys}
use Rattle.dwz_def_encoding.specs.Meant.{entry_keys}
use Rattle.dwz_def_encoding.specs.Placing.{has_key}
use Rattle.dwz_def_expand.specs.Chosen.{unit_with_entry}
use Rattle.dwz_def_expand.specs.ExpandLaws.{IsTest}
use Rattle.dwz_def_expand.specs.Refusals.{Site, nodes, sites_from, sites_in, sites_of}
use Rattle.dwz_def_expand.specs.Source.{followed_by, imported_by, imported_in, inside, is_partial, once, source_unit, sources_below, unless_import, without_imports}
use Rattle.dwz_def_expand.proofs.SourceLemmas.{Good, followed_keys, imports_good, once_good, unit_one}
use Rattle.dwz_def_expand.proofs.WholeLemmas.{has_in, is_there}

-- ---- sites

abbrev pub site : {P : Type 0} → ℕ → P → ℕ → Attr P → Site P
site n source i a = record { unit = n; source = source; index = i; attr = a }

site_of : {P : Type 0} (n : ℕ) (source : P) (s : ℕ) (attrs : List (Attr P)) (i : ℕ) (a : Attr P) → Nth s attrs i a → In (site n source i a) (sites_of n source s attrs)
site_of n source s [] i a h = absurd h
site_of n source s (x ∷ attrs) i a (inl e) = inl (λ j. site n source (e.0 j) (e.1 j))
site_of n source s (x ∷ attrs) i a (inr r) = inr (site_of n source (suc s) attrs i a r)

site_in : {P : Type 0} (n : ℕ) (ds : List (Node P)) (d : Node P) → In d ds → (i : ℕ) (a : Attr P) → Nth 0 d.attrs i a → In (site n d.at i a) (sites_in n ds)
unfolding sites_in
site_in n [] d there i a h = absurd there
site_in {P} n (x ∷ ds) d (inl e) i a h =
    in_left (site n d.at i a) (sites_of n x.at 0 x.attrs) (sites_in n ds) (subst (λ (y : Node P). In (site n d.at i a) (sites_of n y.at 0 y.attrs)) (sym e) (site_of n d.at 0 d.attrs i a h))
site_in n (x ∷ ds) d (inr r) i a h = in_right (site n d.at i a) (sites_of n x.at 0 x.attrs) (sites_in n ds) (site_in n ds d r i a h)

pub site_from : {P : Type 0} (s : ℕ) (units : List (DwUnit P)) (n : ℕ) (u : DwUnit P) → Nth s units n u → (d : Node P) → In d (u.root ∷ nodes u.below) → (i : ℕ) (a : Attr P) → Nth 0 d.attrs i a
    → In (site n d.at i a) (sites_from s units)
unfolding sites_from
site_from s [] n u h d there i a nth = absurd h
site_from {P} s (x ∷ units) n u (inl e) d there i a nth =
    in_left (site n d.at i a) (sites_in s (x.root ∷ nodes x.below)) (sites_from (suc s) units)
    (subst (λ (y : DwUnit P). In (site n d.at i a) (sites_in s (y.root ∷ nodes y.below))) (sym e.1)
    (subst (λ (k : ℕ). In (site n d.at i a) (sites_in k (u.root ∷ nodes u.below))) (sym e.0) (site_in n (u.root ∷ nodes u.below) d there i a nth)))
site_from s (x ∷ units) n u (inr r) d there i a nth = in_right (site n d.at i a) (sites_in s (x.root ∷ nodes x.below)) (sites_from (suc s) units) (site_from (suc s) units n u r d there i a nth)

-- ---- entries of a list

pub node_key : {P : Type 0} (f : Entries P) (d : Node P) → In d (nodes f) → In d.at (keys f)
unfolding nodes keys
node_key End d h = absurd h
node_key (Entry e c n) d (inl x) = inl (ap (λ (w : Node _). w.at) x)
node_key (Entry e c n) d (inr r) = inr (elim (in_cases d (nodes c) (nodes n) r) [ inl a ↦ in_left d.at (keys c) (keys n) (node_key c d a) | inr b ↦ in_right d.at (keys c) (keys n) (node_key n d b) ])

followed_nodes : {P : Type 0} (f last : Entries P) → nodes (followed_by f last) ≡ nodes f ++ nodes last
unfolding followed_by nodes
followed_nodes End last = refl
followed_nodes {P} (Entry e c n) last = ap (λ (w : List (Node P)). e ∷ w) (ap (λ (w : List (Node P)). nodes c ++ w) (followed_nodes n last) ∙ sym (assoc (nodes c) (nodes n) (nodes last))) where
  assoc : (xs ys zs : List (Node P)) → (xs ++ ys) ++ zs ≡ xs ++ (ys ++ zs)
  assoc [] ys zs = refl
  assoc (x ∷ xs) ys zs = ap (λ (w : List (Node P)). x ∷ w) (assoc xs ys zs)

module _ {P : Type 0} (same : P → P → Bool) (test : IsTest same) (units : List (DwUnit P)) (apart : NoneTwice (units_keys units)) where
  abbrev pub parts_of : DwUnit P → List (DwUnit P)
  parts_of u = once same (imported_in same units u.below)

  -- a partial unit that is imported
  pub record IsPart (u v : DwUnit P) : Type 0 where
    pub compile : u.kind ≡ Compile
    pub imported : In v (parts_of u)
    pub there : In v units
    pub partial : is_partial v.kind ≡ true

  parts_good : (u : DwUnit P) → Each (Good same test units apart) (parts_of u)
  parts_good u = once_good same test units apart (imported_in same units u.below) (imports_good same test units apart u.below)

  is_part : (u v : DwUnit P) → u.kind ≡ Compile → In v (parts_of u) → IsPart u v
  is_part u v compile there = (let o = each_in (Good same test units apart) v (parts_of u) (parts_good u) there in record { compile = compile; imported = there; there = o.0; partial = o.1 })

  -- ---- entries of the sources of a unit

  kept_nodes : (f : Entries P) (d : Node P) → In d (nodes (without_imports same units f)) → In d (nodes f)
  unfolding without_imports nodes
  kept_nodes End d h = h
  kept_nodes (Entry e c n) d h = by (imported_by same units e) h (kept_nodes n d) where
    by : (parts : List (DwUnit P)) → In d (nodes (unless_import parts e c (without_imports same units n))) → (In d (nodes (without_imports same units n)) → In d (nodes n)) → In d (e ∷ nodes c ++ nodes n)
    by [] (inl a) more = inl a
    by [] (inr r) more = elim (in_cases d (nodes c) (nodes (without_imports same units n)) r) [ inl a ↦ inr (in_left d (nodes c) (nodes n) a) | inr b ↦ inr (in_right d (nodes c) (nodes n) (more b)) ]
    by (v ∷ parts) r more = inr (in_right d (nodes c) (nodes n) (more r))

  inside_nodes : (parts : List (DwUnit P)) (d : Node P) → In d (nodes (inside parts)) → (v : DwUnit P) × In v parts × In d (nodes v.below)
  unfolding inside nodes
  inside_nodes [] d h = absurd h
  inside_nodes (v ∷ parts) d h = elim (in_cases d (nodes v.below) (nodes (inside parts)) (subst (λ (w : List (Node P)). In d w) (followed_nodes v.below (inside parts)) h)) [
    | inl a ↦ (v, inl refl, a)
    | inr b ↦ (let o = inside_nodes parts d b in (o.0, inr o.1, o.2))
  ]

  -- an entry of the unit itself, or of a partial unit that it imports
  abbrev pub NodeFrom : DwUnit P → Node P → Type 0
  NodeFrom u d = In d (nodes u.below) ⊎ ((v : DwUnit P) × IsPart u v × In d (nodes v.below))

  pub node_from : (u : DwUnit P) (d : Node P) → In d (nodes (source_unit same units u).below) → NodeFrom u d
  node_from u d h = by u.kind refl h where
    by : (k : Kind P) → u.kind ≡ k → In d (nodes (sources_below same units k u.below)) → NodeFrom u d
    by Compile e h =
        elim (in_cases d (nodes (without_imports same units u.below)) (nodes (inside (parts_of u)))
        (subst (λ (w : List (Node P)). In d w) (followed_nodes (without_imports same units u.below) (inside (parts_of u))) h)) [
          | inl a ↦ inl (kept_nodes u.below d a)
          | inr b ↦ (let o = inside_nodes (parts_of u) d b in inr (o.0, is_part u o.0 e o.1, o.2))
        ]
    by (OfType s t) e h = inl h
    by Partial e h = inl h

  -- ---- places of the sources of a unit

  kept_keys : (f : Entries P) (k : P) → In k (keys (without_imports same units f)) → In k (keys f)
  unfolding without_imports keys
  kept_keys End k h = h
  kept_keys (Entry e c n) k h = by (imported_by same units e) h (kept_keys n k) where
    by : (parts : List (DwUnit P)) → In k (keys (unless_import parts e c (without_imports same units n))) → (In k (keys (without_imports same units n)) → In k (keys n)) → In k (e.at ∷ keys c ++ keys n)
    by [] (inl a) more = inl a
    by [] (inr r) more = elim (in_cases k (keys c) (keys (without_imports same units n)) r) [ inl a ↦ inr (in_left k (keys c) (keys n) a) | inr b ↦ inr (in_right k (keys c) (keys n) (more b)) ]
    by (v ∷ parts) r more = inr (in_right k (keys c) (keys n) (more r))

  inside_keys : (parts : List (DwUnit P)) (k : P) → In k (keys (inside parts)) → (v : DwUnit P) × In v parts × In k (keys v.below)
  unfolding inside keys
  inside_keys [] k h = absurd h
  inside_keys (v ∷ parts) k h = elim (in_cases k (keys v.below) (keys (inside parts)) (subst (λ (w : List P). In k w) (followed_keys v.below (inside parts)) h)) [
    | inl a ↦ (v, inl refl, a)
    | inr b ↦ (let o = inside_keys parts k b in (o.0, inr o.1, o.2))
  ]

  all_inside : (parts : List (DwUnit P)) (v : DwUnit P) → In v parts → (k : P) → In k (keys v.below) → In k (keys (inside parts))
  unfolding inside
  all_inside [] v there k h = absurd there
  all_inside (x ∷ parts) v (inl e) k h =
      subst (λ (w : List P). In k w) (sym (followed_keys x.below (inside parts))) (in_left k (keys x.below) (keys (inside parts)) (subst (λ (w : DwUnit P). In k (keys w.below)) (sym e) h))
  all_inside (x ∷ parts) v (inr r) k h =
      subst (λ (w : List P). In k w) (sym (followed_keys x.below (inside parts))) (in_right k (keys x.below) (keys (inside parts)) (all_inside parts v r k h))

  abbrev pub KeyFrom : DwUnit P → P → Type 0
  KeyFrom u k = In k (entry_keys u) ⊎ ((v : DwUnit P) × IsPart u v × In k (keys v.below))

  pub key_from : (u : DwUnit P) (k : P) → In k (entry_keys (source_unit same units u)) → KeyFrom u k
  key_from u k (inl a) = inl (inl a)
  key_from u k (inr h) = by u.kind refl h where
    by : (kind : Kind P) → u.kind ≡ kind → In k (keys (sources_below same units kind u.below)) → KeyFrom u k
    by Compile e h =
        elim (in_cases k (keys (without_imports same units u.below)) (keys (inside (parts_of u)))
        (subst (λ (w : List P). In k w) (followed_keys (without_imports same units u.below) (inside (parts_of u))) h)) [
          | inl a ↦ inl (inr (kept_keys u.below k a))
          | inr b ↦ (let o = inside_keys (parts_of u) k b in inr (o.0, is_part u o.0 e o.1, o.2))
        ]
    by (OfType s t) e h = inl (inr h)
    by Partial e h = inl (inr h)

  part_keys : (u v : DwUnit P) → IsPart u v → (k : P) → In k (keys v.below) → In k (entry_keys (source_unit same units u))
  part_keys u v is k h =
      subst (λ (kind : Kind P). In k (u.root.at ∷ keys (sources_below same units kind u.below))) (sym is.compile)
      (inr (subst (λ (w : List P). In k w) (sym (followed_keys (without_imports same units u.below) (inside (parts_of u))))
      (in_right k (keys (without_imports same units u.below)) (keys (inside (parts_of u))) (all_inside (parts_of u) v is.imported k h))))

  -- ---- a place of a unit, or of a partial one that it imports, is in the new unit if it is in any

  one_unit : (u v : DwUnit P) → In u units → In v units → (k : P) → In k (entry_keys u) → In k (entry_keys v) → u ≡ v
  unfolding unit_keys
  one_unit u v a b k x y = unit_one units apart u v a b k (inr x) (inr y)

  whole_not : (u v : DwUnit P) → u ≡ v → is_partial u.kind ≡ false → is_partial v.kind ≡ true → ⊥
  whole_not u v e whole part = (let both : true ≡ false = sym part ∙ ap (λ (w : DwUnit P). is_partial w.kind) (sym e) ∙ whole in cc)

  pub own_here : (u : DwUnit P) → In u units → is_partial u.kind ≡ false → (k : P) → In k (entry_keys u) → (w : DwUnit P) → In w units → In k (entry_keys (source_unit same units w))
      → In k (entry_keys (source_unit same units u))
  own_here u is whole k h w there found = elim (key_from w k found) [
    | inl a ↦ (let e = one_unit w u there is k a h in subst (λ (x : DwUnit P). In k (entry_keys (source_unit same units x))) e found)
    | inr b ↦ absurd (whole_not u b.0 (one_unit u b.0 is b.1.there k h (inr b.2)) whole b.1.partial)
  ]

  pub part_here : (u v : DwUnit P) → IsPart u v → (k : P) → In k (entry_keys v) → (w : DwUnit P) → In w units → is_partial w.kind ≡ false → In k (entry_keys (source_unit same units w))
      → In k (entry_keys (source_unit same units u))
  part_here u v is k h w there whole found = elim (key_from w k found) [
    | inl a ↦ absurd (whole_not w v (one_unit w v there is.there k a h) whole is.partial)
    | inr b ↦ (let e = one_unit b.0 v b.1.there is.there k (inr b.2) h in part_keys u v is k (subst (λ (x : DwUnit P). In k (keys x.below)) e b.2))
  ]

  -- ---- the unit that has an entry

  pub owner_is : (v : DwUnit P) → In v units → (k : P) → In k (entry_keys v) → unit_with_entry same units k ≡ Some v
  owner_is v there k h = go units (λ w is. is) there where
    go : (some : List (DwUnit P)) → ((w : DwUnit P) → In w some → In w units) → In v some → unit_with_entry same some k ≡ Some v
    go [] into is = absurd is
    go (x ∷ some) into is = by (has_key same k (entry_keys x)) refl (λ r. go some (λ w y. into w (inr y)) r) is where
      by : (b : Bool) → has_key same k (entry_keys x) ≡ b → (In v some → unit_with_entry same some k ≡ Some v) → In v (x ∷ some)
          → ((if b then Some x else None) or unit_with_entry same some k) ≡ Some v
      by true e rest is = ap (λ (w : DwUnit P). Some w) (one_unit x v (into x (inl refl)) there k (has_in same test k (entry_keys x) e) h)
      by false e rest (inl y) = absurd (let yes = is_there same test k (entry_keys x) (subst (λ (w : DwUnit P). In k (entry_keys w)) (sym y) h) in cc)
      by false e rest (inr r) = rest r

-- where none has it
pub owner_none : {P : Type 0} (same : P → P → Bool) → IsTest same → (units : List (DwUnit P)) (k : P) → ((v : DwUnit P) → In v units → In k (entry_keys v) → ⊥) → unit_with_entry same units k ≡ None
owner_none same test [] k none = refl
owner_none {P} same test (x ∷ units) k none = by (has_key same k (entry_keys x)) refl (owner_none same test units k (λ v is. none v (inr is))) where
  by : (b : Bool) → has_key same k (entry_keys x) ≡ b → unit_with_entry same units k ≡ None → ((if b then Some x else None) or unit_with_entry same units k) ≡ None
  by true e rest = absurd (none x (inl refl) (has_in same test k (entry_keys x) e))
  by false e rest = rest
