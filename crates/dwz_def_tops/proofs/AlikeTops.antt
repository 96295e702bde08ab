-- Equal bare trees, where a relation holds of the tops of their targets.
use Rattle.std.proofs.Common.{ℕ, List, [], ◌∷◌, Decides, ◌==◌, refl, sym, ◌∙◌}
use Rattle.std.proofs.lemmas.Bool.Decides.{Decides-eqb, Decides-like}
use Rattle.dwz_def_reading.specs.Documents.{Attr, Entries, Node, Value}
use Rattle.dwz_def_reading.specs.Trees.{End, Entry}
use Rattle.dwz_def_tops.specs.Alike.{SameAttrs, SameEntries, SameNode, SameRefs, SameTarget, SameTop, SameValue}
use Rattle.dwz_def_reading.specs.Lists.{Each}
use Rattle.dwz_def_tops.specs.Deciding.{Test, same_attr, same_by, same_entries, same_int, same_node, same_option, same_plain, same_target, same_top, same_value}
use Rattle.dwz_def_tops.specs.Spots.{EntryName, Top, Within, name_list, same_numbers}
use Rattle.dwz_def_tops.proofs.AlikeTests.{by_decides, Decides-any, Decides-both, Decides-none, int_decides, numbers_decide, option_decides, plain_decides}

-- ---- references into tops go into some of them

abbrev pub TargetIn : (ℕ → Type 0) → EntryName → Type 0
TargetIn Q (Within t path) = Q t
TargetIn Q _ = Unit {0}

abbrev pub RefsIn : (ℕ → Type 0) → List EntryName → Type 0
RefsIn Q refs = Each (TargetIn Q) refs

abbrev pub AttrsIn : (ℕ → Type 0) → List (Attr EntryName) → Type 0
AttrsIn Q attrs = Each (λ a. RefsIn Q a.value.refs) attrs

abbrev pub EntriesIn : (ℕ → Type 0) → Entries EntryName → Type 0
EntriesIn Q End = Unit {0}
EntriesIn Q (Entry e f g) = AttrsIn Q e.attrs × EntriesIn Q f × EntriesIn Q g

abbrev pub TopIn : (ℕ → Type 0) → Top → Type 0
TopIn Q t = AttrsIn Q t.node.attrs × EntriesIn Q t.below

-- ---- the tests, where one decides what is asked of targets

abbrev pub DecidesIn : (ℕ → Type 0) → Test → (ℕ → ℕ → Type 0) → Type 0
DecidesIn Q test R = (m n : ℕ) → Q m → Q n → Decides (test m n) (R m n)

target_decides : (Q : ℕ → Type 0) (test : Test) (R : ℕ → ℕ → Type 0) → DecidesIn Q test R → (a b : EntryName) → TargetIn Q a → TargetIn Q b → Decides (same_target test a b) (SameTarget R a b)
target_decides Q test R d (Within s p) (Within t q) u v = Decides-both (same_numbers p q) (test s t) (numbers_decide p q) (d s t u v)
target_decides Q test R d (Within s p) _ u v = Decides-none (λ h. h)
target_decides Q test R d _ (Within t q) u v = Decides-none (λ h. h)
target_decides Q test R d _ _ u v = Decides-any tt

refs_decide : (Q : ℕ → Type 0) (test : Test) (R : ℕ → ℕ → Type 0) → DecidesIn Q test R → (xs ys : List EntryName) → RefsIn Q xs → RefsIn Q ys
    → Decides (same_by (same_target test) xs ys) (SameRefs R xs ys)
unfolding same_by
refs_decide Q test R d [] [] u v = Decides-any tt
refs_decide Q test R d (x ∷ xs) (y ∷ ys) u v = Decides-both (same_target test x y) (same_by (same_target test) xs ys) (target_decides Q test R d x y u.0 v.0) (refs_decide Q test R d xs ys u.1 v.1)
refs_decide Q test R d [] (y ∷ ys) u v = Decides-none (λ h. h)
refs_decide Q test R d (x ∷ xs) [] u v = Decides-none (λ h. h)

value_decides : (Q : ℕ → Type 0) (test : Test) (R : ℕ → ℕ → Type 0) → DecidesIn Q test R → (a b : Value EntryName) → RefsIn Q a.refs → RefsIn Q b.refs → Decides (same_value test a b) (SameValue R a b)
value_decides Q test R d a b u v = Decides-both (same_plain a.plain b.plain) (same_by (same_target test) a.refs b.refs) (plain_decides a.plain b.plain) (refs_decide Q test R d a.refs b.refs u v)

attrs_decide : (Q : ℕ → Type 0) (test : Test) (R : ℕ → ℕ → Type 0) → DecidesIn Q test R → (xs ys : List (Attr EntryName)) → AttrsIn Q xs → AttrsIn Q ys
    → Decides (same_by (same_attr test) xs ys) (SameAttrs R xs ys)
unfolding same_by
attrs_decide Q test R d [] [] u v = Decides-any tt
attrs_decide Q test R d (x ∷ xs) (y ∷ ys) u v = Decides-like _ (λ p. (p.0.0, p.0.1, p.1)) (λ p. ((p.0, p.1), p.2))
    (Decides-both (same_attr test x y) (same_by (same_attr test) xs ys)
    (Decides-both (x.name == y.name) (same_value test x.value y.value) (Decides-eqb x.name y.name) (value_decides Q test R d x.value y.value u.0 v.0))
    (attrs_decide Q test R d xs ys u.1 v.1))
attrs_decide Q test R d [] (y ∷ ys) u v = Decides-none (λ h. h)
attrs_decide Q test R d (x ∷ xs) [] u v = Decides-none (λ h. h)

node_decides : (Q : ℕ → Type 0) (test : Test) (R : ℕ → ℕ → Type 0) → DecidesIn Q test R → (a b : Node EntryName) → AttrsIn Q a.attrs → AttrsIn Q b.attrs → Decides (same_node test a b) (SameNode R a b)
node_decides Q test R d a b u v = Decides-both (a.tag == b.tag) (same_by (same_attr test) a.attrs b.attrs) (Decides-eqb a.tag b.tag) (attrs_decide Q test R d a.attrs b.attrs u v)

entries_decide : (Q : ℕ → Type 0) (test : Test) (R : ℕ → ℕ → Type 0) → DecidesIn Q test R → (f g : Entries EntryName) → EntriesIn Q f → EntriesIn Q g
    → Decides (same_entries test f g) (SameEntries R f g)
unfolding same_entries
entries_decide Q test R d End End u v = Decides-any tt
entries_decide Q test R d (Entry a f g) (Entry b f' g') u v = Decides-like _ (λ p. (p.0, p.1.0, p.1.1)) (λ p. (p.0, (p.1, p.2)))
    (Decides-both (same_node test a b) _ (node_decides Q test R d a b u.0 v.0)
    (Decides-both (same_entries test f f') (same_entries test g g') (entries_decide Q test R d f f' u.1 v.1) (entries_decide Q test R d g g' u.2 v.2)))
entries_decide Q test R d End (Entry b f' g') u v = Decides-none (λ h. h)
entries_decide Q test R d (Entry a f g) End u v = Decides-none (λ h. h)

pub top_decides : (Q : ℕ → Type 0) (test : Test) (R : ℕ → ℕ → Type 0) → DecidesIn Q test R → (a b : Top) → TopIn Q a → TopIn Q b → Decides (same_top test a b) (SameTop R a b)
top_decides Q test R d a b u v = Decides-like _ (λ p. (p.0, p.1.0, p.1.1.0, p.1.1.1)) (λ p. (p.0, (p.1, (p.2, p.3))))
    (Decides-both (same_option same_int a.language b.language) _ (option_decides same_int int_decides a.language b.language)
    (Decides-both (same_by same_numbers (name_list a) (name_list b)) _ (by_decides same_numbers numbers_decide (name_list a) (name_list b))
    (Decides-both (same_node test a.node b.node) (same_entries test a.below b.below) (node_decides Q test R d a.node b.node u.0 v.0) (entries_decide Q test R d a.below b.below u.1 v.1))))

-- ---- a tree and itself

abbrev pub Holds : (ℕ → Type 0) → (ℕ → ℕ → Type 0) → Type 0
Holds Q R = (n : ℕ) → Q n → R n n

target_self : (Q : ℕ → Type 0) (R : ℕ → ℕ → Type 0) → Holds Q R → (a : EntryName) → TargetIn Q a → SameTarget R a a
target_self Q R f (Within s p) u = (refl, f s u)
target_self Q R f _ u = tt

refs_self : (Q : ℕ → Type 0) (R : ℕ → ℕ → Type 0) → Holds Q R → (xs : List EntryName) → RefsIn Q xs → SameRefs R xs xs
refs_self Q R f [] u = tt
refs_self Q R f (x ∷ xs) u = (target_self Q R f x u.0, refs_self Q R f xs u.1)

attrs_self : (Q : ℕ → Type 0) (R : ℕ → ℕ → Type 0) → Holds Q R → (xs : List (Attr EntryName)) → AttrsIn Q xs → SameAttrs R xs xs
attrs_self Q R f [] u = tt
attrs_self Q R f (x ∷ xs) u = (refl, (refl, refs_self Q R f x.value.refs u.0), attrs_self Q R f xs u.1)

entries_self : (Q : ℕ → Type 0) (R : ℕ → ℕ → Type 0) → Holds Q R → (f : Entries EntryName) → EntriesIn Q f → SameEntries R f f
entries_self Q R h End u = tt
entries_self Q R h (Entry e f g) u = ((refl, attrs_self Q R h e.attrs u.0), entries_self Q R h f u.1, entries_self Q R h g u.2)

pub top_self : (Q : ℕ → Type 0) (R : ℕ → ℕ → Type 0) → Holds Q R → (t : Top) → TopIn Q t → SameTop R t t
top_self Q R h t u = (refl, refl, (refl, attrs_self Q R h t.node.attrs u.0), entries_self Q R h t.below u.1)

-- ---- the other way round

abbrev pub Turns : (R S : ℕ → ℕ → Type 0) → Type 0
Turns R S = (m n : ℕ) → R m n → S n m

target_turns : (R S : ℕ → ℕ → Type 0) → Turns R S → (a b : EntryName) → SameTarget R a b → SameTarget S b a
target_turns R S f (Within s p) (Within t q) h = (sym h.0, f s t h.1)
target_turns R S f (Within s p) _ h = absurd h
target_turns R S f _ (Within t q) h = absurd h
target_turns R S f _ _ h = tt

refs_turn : (R S : ℕ → ℕ → Type 0) → Turns R S → (xs ys : List EntryName) → SameRefs R xs ys → SameRefs S ys xs
refs_turn R S f [] [] h = tt
refs_turn R S f (x ∷ xs) (y ∷ ys) h = (target_turns R S f x y h.0, refs_turn R S f xs ys h.1)
refs_turn R S f _ _ h = absurd h

attrs_turn : (R S : ℕ → ℕ → Type 0) → Turns R S → (xs ys : List (Attr EntryName)) → SameAttrs R xs ys → SameAttrs S ys xs
attrs_turn R S f [] [] h = tt
attrs_turn R S f (x ∷ xs) (y ∷ ys) h = (sym h.0, (sym h.1.0, refs_turn R S f x.value.refs y.value.refs h.1.1), attrs_turn R S f xs ys h.2)
attrs_turn R S f _ _ h = absurd h

entries_turn : (R S : ℕ → ℕ → Type 0) → Turns R S → (f g : Entries EntryName) → SameEntries R f g → SameEntries S g f
entries_turn R S t End End h = tt
entries_turn R S t (Entry a f g) (Entry b f' g') h = ((sym h.0.0, attrs_turn R S t a.attrs b.attrs h.0.1), entries_turn R S t f f' h.1, entries_turn R S t g g' h.2)
entries_turn R S t _ _ h = absurd h

pub top_turns : (R S : ℕ → ℕ → Type 0) → Turns R S → (a b : Top) → SameTop R a b → SameTop S b a
top_turns R S f a b h = (sym h.0, sym h.1, (sym h.2.0, attrs_turn R S f a.node.attrs b.node.attrs h.2.1), entries_turn R S f a.below b.below h.3)

-- ---- one after the other, where Q holds of the targets of the one in the middle

abbrev pub Joins : (Q : ℕ → Type 0) (R S T : ℕ → ℕ → Type 0) → Type 0
Joins Q R S T = (l m n : ℕ) → Q m → R l m → S m n → T l n

target_joins : (Q : ℕ → Type 0) (R S T : ℕ → ℕ → Type 0) → Joins Q R S T → (a b c : EntryName) → TargetIn Q b → SameTarget R a b → SameTarget S b c → SameTarget T a c
target_joins Q R S T f (Within s p) (Within t q) (Within u r) z x y = (x.0 ∙ y.0, f s t u z x.1 y.1)
target_joins Q R S T f (Within s p) (Within t q) _ z x y = absurd y
target_joins Q R S T f (Within s p) _ _ z x y = absurd x
target_joins Q R S T f _ (Within t q) _ z x y = absurd x
target_joins Q R S T f _ _ (Within u r) z x y = absurd y
target_joins Q R S T f _ _ _ z x y = tt

refs_join : (Q : ℕ → Type 0) (R S T : ℕ → ℕ → Type 0) → Joins Q R S T → (a b c : List EntryName) → RefsIn Q b → SameRefs R a b → SameRefs S b c → SameRefs T a c
refs_join Q R S T f [] [] [] z x y = tt
refs_join Q R S T f [] [] (c ∷ cs) z x y = absurd y
refs_join Q R S T f (a ∷ as') (b ∷ bs) (c ∷ cs) z x y = (target_joins Q R S T f a b c z.0 x.0 y.0, refs_join Q R S T f as' bs cs z.1 x.1 y.1)
refs_join Q R S T f (a ∷ as') (b ∷ bs) [] z x y = absurd y
refs_join Q R S T f _ _ _ z x y = absurd x

attrs_join : (Q : ℕ → Type 0) (R S T : ℕ → ℕ → Type 0) → Joins Q R S T → (a b c : List (Attr EntryName)) → AttrsIn Q b → SameAttrs R a b → SameAttrs S b c → SameAttrs T a c
attrs_join Q R S T f [] [] [] z x y = tt
attrs_join Q R S T f [] [] (c ∷ cs) z x y = absurd y
attrs_join Q R S T f (a ∷ as') (b ∷ bs) (c ∷ cs) z x y = (
  x.0 ∙ y.0,
  (x.1.0 ∙ y.1.0, refs_join Q R S T f a.value.refs b.value.refs c.value.refs z.0 x.1.1 y.1.1),
  attrs_join Q R S T f as' bs cs z.1 x.2 y.2,
)
attrs_join Q R S T f (a ∷ as') (b ∷ bs) [] z x y = absurd y
attrs_join Q R S T f _ _ _ z x y = absurd x

entries_join : (Q : ℕ → Type 0) (R S T : ℕ → ℕ → Type 0) → Joins Q R S T → (f g h : Entries EntryName) → EntriesIn Q g → SameEntries R f g → SameEntries S g h → SameEntries T f h
entries_join Q R S T j End End End z x y = tt
entries_join Q R S T j End End (Entry e f g) z x y = absurd y
entries_join Q R S T j (Entry a f g) (Entry b f' g') (Entry c f'' g'') z x y =
    ((x.0.0 ∙ y.0.0, attrs_join Q R S T j a.attrs b.attrs c.attrs z.0 x.0.1 y.0.1), entries_join Q R S T j f f' f'' z.1 x.1 y.1, entries_join Q R S T j g g' g'' z.2 x.2 y.2)
entries_join Q R S T j (Entry a f g) (Entry b f' g') End z x y = absurd y
entries_join Q R S T j _ _ _ z x y = absurd x

pub top_joins : (Q : ℕ → Type 0) (R S T : ℕ → ℕ → Type 0) → Joins Q R S T → (a b c : Top) → TopIn Q b → SameTop R a b → SameTop S b c → SameTop T a c
top_joins Q R S T j a b c z x y = (
  x.0 ∙ y.0,
  x.1 ∙ y.1,
  (x.2.0 ∙ y.2.0, attrs_join Q R S T j a.node.attrs b.node.attrs c.node.attrs z.0 x.2.1 y.2.1),
  entries_join Q R S T j a.below b.below c.below z.1 x.3 y.3,
)

-- ---- with another relation

abbrev pub Gives : (Q : ℕ → Type 0) (R S : ℕ → ℕ → Type 0) → Type 0
Gives Q R S = (m n : ℕ) → Q m → Q n → R m n → S m n

target_gives : (Q : ℕ → Type 0) (R S : ℕ → ℕ → Type 0) → Gives Q R S → (a b : EntryName) → TargetIn Q a → TargetIn Q b → SameTarget R a b → SameTarget S a b
target_gives Q R S f (Within s p) (Within t q) u v h = (h.0, f s t u v h.1)
target_gives Q R S f (Within s p) _ u v h = absurd h
target_gives Q R S f _ (Within t q) u v h = absurd h
target_gives Q R S f _ _ u v h = tt

refs_give : (Q : ℕ → Type 0) (R S : ℕ → ℕ → Type 0) → Gives Q R S → (xs ys : List EntryName) → RefsIn Q xs → RefsIn Q ys → SameRefs R xs ys → SameRefs S xs ys
refs_give Q R S f [] [] u v h = tt
refs_give Q R S f (x ∷ xs) (y ∷ ys) u v h = (target_gives Q R S f x y u.0 v.0 h.0, refs_give Q R S f xs ys u.1 v.1 h.1)
refs_give Q R S f _ _ u v h = absurd h

attrs_give : (Q : ℕ → Type 0) (R S : ℕ → ℕ → Type 0) → Gives Q R S → (xs ys : List (Attr EntryName)) → AttrsIn Q xs → AttrsIn Q ys → SameAttrs R xs ys → SameAttrs S xs ys
attrs_give Q R S f [] [] u v h = tt
attrs_give Q R S f (x ∷ xs) (y ∷ ys) u v h = (h.0, (h.1.0, refs_give Q R S f x.value.refs y.value.refs u.0 v.0 h.1.1), attrs_give Q R S f xs ys u.1 v.1 h.2)
attrs_give Q R S f _ _ u v h = absurd h

entries_give : (Q : ℕ → Type 0) (R S : ℕ → ℕ → Type 0) → Gives Q R S → (f g : Entries EntryName) → EntriesIn Q f → EntriesIn Q g → SameEntries R f g → SameEntries S f g
entries_give Q R S t End End u v h = tt
entries_give Q R S t (Entry a f g) (Entry b f' g') u v h = ((h.0.0, attrs_give Q R S t a.attrs b.attrs u.0 v.0 h.0.1), entries_give Q R S t f f' u.1 v.1 h.1, entries_give Q R S t g g' u.2 v.2 h.2)
entries_give Q R S t _ _ u v h = absurd h

pub top_gives : (Q : ℕ → Type 0) (R S : ℕ → ℕ → Type 0) → Gives Q R S → (a b : Top) → TopIn Q a → TopIn Q b → SameTop R a b → SameTop S a b
top_gives Q R S f a b u v h = (h.0, h.1, (h.2.0, attrs_give Q R S f a.node.attrs b.node.attrs u.0 v.0 h.2.1), entries_give Q R S f a.below b.below u.1 v.1 h.3)
