-- What is written of pairs and declarations, one by one.
use Rattle.std.proofs.Common.{◌≡◌, ◌≢◌, ℕ, zero, suc, ◌+◌, ◌-◌, ◌<◌, ◌≤◌, Result, Ok, Err, List, [], ◌∷◌, ◌++◌, length, take, drop, get_or, refl, sym, ap, subst, ◌∙◌, Bool, true, false, ltb, cond}
use Rattle.std.proofs.Common.{arith, append_assoc}
use Rattle.std.specs.Prelude.{All, AllPairs, OnOk, is_ok}
use Rattle.std.specs.Borrow.{Bor}
use Rattle.std.specs.BTreeMap.{insert_entry}
use Rattle.std.specs.Map.{values_of}
use Rattle.std.specs.Ordering.{MatchOrdering, match_ordering, nat_cmp}
use Rattle.std.specs.declared.cmp.Ordering.{Ordering}
use Rattle.std.specs.declared.cmp.Ordering.TheVariants.{Equal, Greater, Less}
use Rattle.std.proofs.lemmas.Cmp.{ranked}
use Rattle.std.proofs.lemmas.List.Elements.{All-cons, All-head, All-nil, All-tail, All-weaker}
use Rattle.std.proofs.lemmas.Bool.{le-ltb, lt-ltb}
use Rattle.std.proofs.lemmas.List.{at_drop_all, at_drop_more, drop-map, drop_all, drop_more, length-take, take-take}
use Rattle.dwz_model.specs.declared.place.Pair.{Pair}
use Rattle.dwz_def_reading.specs.Abbrevs.{Declaration, by_code, declaration_bytes, insert_decl, pair_bytes, pairs_bytes, table_bytes}
use Rattle.dwz_def_reading.proofs.OrderLemmas.{All-by_code, AllPairs-behind, AllPairs-first}
use Rattle.dwz_abbrev.specs.declared.decl.Decl.{Decl}
use Rattle.dwz_abbrev.specs.Views.{decl_view, lent_views, views}
use Rattle.dwz_abbrev.specs.Written.{Begins, Differ}

-- what begins with the bytes that begin with others begins with those
pub begins_on : (old mid new : List ℕ) → Begins old mid → Begins mid new → Begins old new
begins_on old mid new first second =
    let le : length old ≤ length mid = omega (arith, ap length first, length-take (length old) mid) in
    sym (take-take (length old) (length mid) new le) ∙ ap (take (length old)) second ∙ first

-- a loop that writes one item after the other: what is written so far, and what is left
pub one_more : (out new old item rest all : List ℕ) → new ≡ out ++ item → out ++ (item ++ rest) ≡ old ++ all → new ++ rest ≡ old ++ all
one_more out new old item rest all is so_far = ap (λ (w : List ℕ). w ++ rest) is ∙ append_assoc out item rest ∙ so_far

-- a loop's last call, whose result is returned as it is
pub last_one : {T E : Type 0} (r : Result T E) (new out old rest all : List ℕ) → new ≡ cond (is_ok r) (out ++ rest) out → out ++ rest ≡ old ++ all → OnOk r (new ≡ old ++ all)
last_one (Ok x) new out old rest all is so_far = is ∙ so_far
last_one (Err e) new out old rest all is so_far = tt

pub end_one : {T E : Type 0} (r : Result T E) (new out old rest all : List ℕ) → OnOk r (new ≡ out ++ rest) → out ++ rest ≡ old ++ all → OnOk r (new ≡ old ++ all)
end_one (Ok x) new out old rest all is so_far = is ∙ so_far
end_one (Err e) new out old rest all is so_far = tt

pub pairs_more : (pairs : List Pair) (i : ℕ) (d : Pair) → i < length pairs → pairs_bytes (drop i pairs) ≡ pair_bytes (get_or pairs i d) ++ pairs_bytes (drop (i + 1) pairs)
unfolding pairs_bytes
pairs_more pairs i d lt = at_drop_more pairs_bytes pairs i d lt

pub pairs_all : (pairs : List Pair) (i : ℕ) → length pairs ≤ i → pairs_bytes (drop i pairs) ≡ 0 ∷ 0 ∷ []
unfolding pairs_bytes
pairs_all pairs i le = at_drop_all pairs_bytes pairs i le

pub table_more : (decls : List Decl) (i : ℕ) (d : Decl) → i < length decls → table_bytes (views (drop i decls)) ≡ declaration_bytes (decl_view (get_or decls i d))
    ++ table_bytes (views (drop (i + 1) decls))
unfolding table_bytes
table_more decls i d lt = at_drop_more (λ (ds : List Decl). table_bytes (views ds)) decls i d lt

pub table_all : (decls : List Decl) (i : ℕ) → length decls ≤ i → table_bytes (views (drop i decls)) ≡ 0 ∷ []
unfolding table_bytes
table_all decls i le = at_drop_all (λ (ds : List Decl). table_bytes (views ds)) decls i le

pub lent_more : (d : Bor Decl) (rest : List (Bor Decl)) → table_bytes (lent_views (d ∷ rest)) ≡ declaration_bytes (decl_view d.now) ++ table_bytes (lent_views rest)
unfolding table_bytes
lent_more d rest = refl

pub lent_all : table_bytes (lent_views []) ≡ 0 ∷ []
unfolding table_bytes
lent_all = refl

-- ---- declarations by ascending code

-- codes that ascend from each to the next
pub ascends_kept : (decls : List Decl) → ((k : ℕ) (d : Decl) → k + 1 < length decls → (get_or decls k d).code < (get_or decls (k + 1) d).code) → by_code (views decls) ≡ views decls
unfolding by_code
ascends_kept [] all = refl
ascends_kept (x ∷ []) all = refl
ascends_kept (x ∷ y ∷ decls) all =
    let next : (k : ℕ) → suc k + 1 ≡ suc (k + 1) = λ k. omega arith in
    let rest = ascends_kept (y ∷ decls) (λ k d lt. subst (λ (n : ℕ). (get_or (y ∷ decls) k d).code < (get_or (x ∷ y ∷ decls) n d).code) (next k) (all (suc k) d (omega (arith, lt)))) in
    let first : x.code < y.code = subst (λ (n : ℕ). x.code < (get_or (x ∷ y ∷ decls) n x).code) (let one : 0 + 1 ≡ suc 0 = omega arith in one) (all 0 x (omega arith)) in
    let no : ltb y.code x.code ≡ false = le-ltb y.code x.code (omega arith) in
    ap (insert_decl (decl_view x)) rest ∙ ap (λ (b : Bool). cond b (decl_view y ∷ insert_decl (decl_view x) (views decls)) (decl_view x ∷ decl_view y ∷ views decls)) no

abbrev Entries : Type 0
Entries = List (ℕ × Bor Decl)

abbrev Own : ℕ × Bor Decl → Type 0
Own e = e.0 ≡ e.1.now.code

abbrev Other : Decl → Declaration → Type 0
Other d e = e.code ≢ d.code

-- a declaration among those of a map
pub insert_lent : (es : Entries) (d : Bor Decl) → All Own es → All (Other d.now) (lent_views (values_of es)) → lent_views (values_of (insert_entry nat_cmp es d.now.code d))
    ≡ insert_decl (decl_view d.now) (lent_views (values_of es))
insert_lent [] d keys others = refl
insert_lent (e ∷ es) d keys others = go (insert_lent es d (All-tail Own e es keys) (All-tail (Other d.now) (decl_view e.1.now) rest others)) (nat_cmp d.now.code e.0)
    (ranked d.now.code e.0 (nat_cmp d.now.code e.0) refl) where
      rest : List Declaration
      rest = lent_views (values_of es)

      key : e.0 ≡ e.1.now.code
      key = All-head Own e es keys

      chosen : (test : Bool) → ltb e.1.now.code d.now.code ≡ test → insert_decl (decl_view d.now) (decl_view e.1.now ∷ lent_views (values_of es))
          ≡ cond test (decl_view e.1.now ∷ insert_decl (decl_view d.now) (lent_views (values_of es))) (decl_view d.now ∷ decl_view e.1.now ∷ lent_views (values_of es))
      chosen test is = ap (λ (b : Bool). cond b (decl_view e.1.now ∷ insert_decl (decl_view d.now) (lent_views (values_of es))) (decl_view d.now ∷ decl_view e.1.now ∷ lent_views (values_of es))) is

      go : lent_views (values_of (insert_entry nat_cmp es d.now.code d)) ≡ insert_decl (decl_view d.now) (lent_views (values_of es)) → (r : Ordering)
          → MatchOrdering r (d.now.code < e.0) (d.now.code ≡ e.0) (e.0 < d.now.code)
          → lent_views (values_of (match_ordering r ((d.now.code, d) ∷ e ∷ es) ((e.0, d) ∷ es) (e ∷ insert_entry nat_cmp es d.now.code d)))
          ≡ insert_decl (decl_view d.now) (lent_views (values_of (e ∷ es)))
      go below Less is = sym (chosen false (le-ltb e.1.now.code d.now.code (let k = key in omega arith)))
      go below Equal is = absurd (All-head (Other d.now) (decl_view e.1.now) (lent_views (values_of es)) others (sym key ∙ sym is))
      go below Greater is = ap (λ (t : List Declaration). decl_view e.1.now ∷ t) below ∙ sym (chosen true (lt-ltb e.1.now.code d.now.code (let k = key in omega arith)))

-- each entry stands under its own code
pub own_keys : (es : Entries) (d : Bor Decl) → All Own es → All Own (insert_entry nat_cmp es d.now.code d)
own_keys [] d keys = All-cons Own (d.now.code, d) [] refl keys
own_keys (e ∷ es) d keys = go (own_keys es d (All-tail Own e es keys)) (nat_cmp d.now.code e.0) (ranked d.now.code e.0 (nat_cmp d.now.code e.0) refl) where
  go : All Own (insert_entry nat_cmp es d.now.code d) → (r : Ordering) → MatchOrdering r (d.now.code < e.0) (d.now.code ≡ e.0) (e.0 < d.now.code)
      → All Own (match_ordering r ((d.now.code, d) ∷ e ∷ es) ((e.0, d) ∷ es) (e ∷ insert_entry nat_cmp es d.now.code d))
  go below Less is = All-cons Own (d.now.code, d) (e ∷ es) refl keys
  go below Equal is = All-cons Own (e.0, d) es (sym is) (All-tail Own e es keys)
  go below Greater is = All-cons Own e (insert_entry nat_cmp es d.now.code d) (All-head Own e es keys) below

AllPairs-drop : {X : Type 0} (R : X → X → Type 0) (n : ℕ) (xs : List X) → AllPairs R xs → AllPairs R (drop n xs)
AllPairs-drop R zero xs all = all
AllPairs-drop R (suc n) [] all = all
AllPairs-drop R (suc n) (x ∷ xs) all = AllPairs-drop R n xs (AllPairs-behind R x xs all)

-- no declaration
pub sorted_none : (decls : List Decl) (es : Entries) → es ≡ [] → (lent_views (values_of es) ≡ by_code (views (drop (length decls) decls))) × All Own es
unfolding by_code
sorted_none decls es none = (
  ap (λ (fs : Entries). lent_views (values_of fs)) none ∙ sym (ap (λ (ds : List Decl). by_code (views ds)) (drop_all (length decls) decls (omega arith))),
  subst (All Own) (sym none) (All-nil Own),
)

-- one declaration more, in front of those that are sorted
pub sorted_more : (decls : List Decl) (place : ℕ) (es new : Entries) (d : Bor Decl) → AllPairs Differ (views decls) → 0 < place → place ≤ length decls → d.now ≡ get_or decls (place - 1) d.now
    → lent_views (values_of es) ≡ by_code (views (drop place decls)) → All Own es → new ≡ insert_entry nat_cmp es d.now.code d → (lent_views (values_of new) ≡ by_code (views (drop (place - 1) decls)))
    × All Own new
unfolding by_code
sorted_more decls place es new d different some within item sorted keys is =
    let rest = views (drop place decls) in
    let front : drop (place - 1) decls ≡ d.now ∷ drop place decls =
    drop_more decls (place - 1) d.now (omega arith)
    ∙ ap (λ (x : Decl). x ∷ drop (place - 1 + 1) decls) (sym item)
    ∙ ap (λ (n : ℕ). d.now ∷ drop n decls) (let same : place - 1 + 1 ≡ place = omega arith in same) in
    let those : AllPairs Differ (decl_view d.now ∷ rest) = subst (AllPairs Differ) (drop-map decl_view (place - 1) decls ∙ ap views front) (AllPairs-drop Differ (place - 1) (views decls) different) in
    let others = All-by_code (Other d.now) rest (All-weaker (Differ (decl_view d.now)) (Other d.now) (λ e ne same. ne (sym same)) rest (AllPairs-first Differ (decl_view d.now) rest those)) in (
      ap (λ (fs : Entries). lent_views (values_of fs)) is
          ∙ insert_lent es d keys (subst (All (Other d.now)) (sym sorted) others)
          ∙ ap (insert_decl (decl_view d.now)) sorted
          ∙ sym (ap (λ (ds : List Decl). by_code (views ds)) front),
      subst (All Own) (sym is) (own_keys es d keys),
    )
