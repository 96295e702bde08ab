-- A pass over the nodes that point at pending ones leaves no more nodes to look at than those whose number it changed.
use Rattle.std.proofs.Common.{◌≡◌, ℕ, ◌+◌, ◌-◌, ◌*◌, ◌<◌, ◌≤◌, All, Bool, List, length, get_or, min, inl, inr, ⊎_elim, refl, sym, ap, subst, ◌∙◌, arith}
use Rattle.std.specs.Prelude.{slice_index}
use Rattle.dwz_nodes.specs.Graph.{Node, IsClosed}
use Rattle.dwz_nodes.specs.Uses.{AreUses, uses_at}
use Rattle.dwz_nodes.specs.declared.uses.Use.{Use}
use mathlib.Core.Logic.{dite}
use native.Mathlib.Decide.{dec_le}
use Rattle.dwz_nodes.specs.Mentions.{sources_of, part_key, AreMentions}
use Rattle.dwz_nodes.specs.declared.mentions.Mention.{Mention}
use Rattle.dwz_nodes.specs.Among.{Among}
use Rattle.dwz_rounds.specs.Marked.{IsMarked, AreMarked}
use Rattle.dwz_rounds.specs.Pending.{AreSame, AreWithWholes, IsPending, IsSplit}
use Rattle.dwz_rounds.specs.Split.{IsSplitting}
use Rattle.dwz_rounds.specs.declared.split.Part.{Part}
use Rattle.dwz_rounds.specs.declared.members.Range.{Range}
use Rattle.dwz_rounds.specs.Members.{AreMembers}
use Rattle.std.proofs.lemmas.List.{get_or_default}
use Rattle.dwz_rounds.proofs.Numberings.{among_or, split-pending}
use Rattle.std.proofs.lemmas.List.Elements.{Contains-get_or}
use Rattle.dwz_rounds.proofs.Mentioned.{is-visit, told-apart}

module _ (g : List Node) (part : ℕ → List ℕ) (numbers visit wholes nodes : List ℕ) (whole : List Bool) (parts : List Part) (count : ℕ) (next after : List ℕ) (number : ℕ)
    (same : AreSame visit nodes) (marked : AreMarked whole wholes) (inside : (a : ℕ) → Among visit a → a < length g) (below : (a : ℕ) → a < length g → slice_index numbers a < count)
    (room : count ≤ length whole)
    (len : length next ≡ length numbers) (s : IsSplitting part nodes numbers whole parts count (length nodes) next after number) where
  out : (a : ℕ) → ¬ (Among visit a) → slice_index next a ≡ slice_index numbers a
  out a not = s.other a (λ p l e. not (same.back a (p, l, e)))

  pub split-from : IsSplit g part numbers visit wholes count next after
  split-from = record {
    len = len;
    kept = λ a l not. out a not;
    same = λ a b ta tb e.
        let x = same.there a ta in
        let y = same.there b tb in
        ap (λ (k : ℕ). slice_index next k) (sym x.2) ∙ (s.same x.0 y.0 x.1 y.1 (ap part x.2 ∙ (e ∙ ap part (sym y.2))) ∙ ap (λ (k : ℕ). slice_index next k) y.2);
    apart = λ a b ta tb e.
        let x = same.there a ta in
        let y = same.there b tb in
        ap part (sym x.2) ∙ (s.apart x.0 y.0 x.1 y.1 (ap (λ (k : ℕ). slice_index next k) x.2 ∙ (e ∙ ap (λ (k : ℕ). slice_index next k) (sym y.2))) ∙ ap part y.2);
    old = λ a ta.
        let x = same.there a ta in
        let small = below a (inside a ta) in
        ⊎_elim
        (λ k. inl (
          ap (λ (n : ℕ). slice_index next n) (sym x.2) ∙ (k.is ∙ ap (λ (n : ℕ). slice_index numbers n) x.2),
          marked.all (slice_index numbers a) (omega arith) (subst (λ (n : ℕ). IsMarked whole (slice_index numbers n)) x.2 k.of_whole),
        ))
        (λ high. inr (subst (λ (n : ℕ). count ≤ slice_index next n) x.2 high))
        (s.each x.0 x.1);
    new = λ a h. let f = s.from a h in (inside a (same.back a (f.0, f.1, f.2)), f.3);
    all = λ a la high. ⊎_elim
        (λ there. let x = same.there a there in subst (λ (n : ℕ). Among after n) x.2 (s.all x.0 x.1 (subst (λ (n : ℕ). count ≤ slice_index next n) (sym x.2) high)))
        (λ not. let e = out a not in let b = below a la in absurd (omega arith))
        (among_or visit a);
  }

-- what a pass leaves is pending
pub pass-pending : (g : List Node) → IsClosed g → (rows : List (List Use)) → AreUses g rows → (numbers pending : List ℕ) → IsPending g numbers pending
    → (ms : List Mention) → AreMentions rows numbers pending ms → (visit wholes : List ℕ) → AreWithWholes numbers (sources_of ms) visit wholes → ((a : ℕ) → Among visit a → a < length g)
    → (count : ℕ) → ((a : ℕ) → a < length g → slice_index numbers a < count) → (next after : List ℕ) → IsSplit g (part_key numbers ms) numbers visit wholes count next after → IsPending g next after
pass-pending g closed rows uses numbers pending p ms m visit wholes with inside count below next after s =
    split-pending g closed numbers pending p visit wholes (is-visit g closed rows uses numbers pending p ms m visit wholes with inside)
    (part_key numbers ms) (told-apart g closed rows uses numbers pending p ms m) count below next after s

-- either there are more numbers, or nothing is pending
pub pass-less : (n count grown many left : ℕ) → count ≤ grown → grown ≤ n → (0 < left → count < grown) → 0 < many → 2 * (n - grown) + min 1 left < 2 * (n - count) + min 1 many
pass-less n count grown many left up few more some = dite (dec_le 1 left)
    (λ l. let m = more l in omega arith)
    (λ none. omega arith)

-- bounds
pub sources-below : (g : List Node) (rows : List (List Use)) (n : ℕ) → AreUses g rows → n ≡ length g → (t : ℕ) → t < length rows → All (λ u. u.source < n) (uses_at rows t)
sources-below g rows n uses is t l k d m =
    let s = (uses.each t (let e = uses.len in omega arith)).each (get_or (uses_at rows t) k d) (Contains-get_or (uses_at rows t) k d m) in let x = s.source in omega arith

pub all-below : (xs : List ℕ) (n : ℕ) → ((a : ℕ) → Among xs a → a < n) → All (λ a. a < n) xs
all-below xs n inside k d l = subst (λ (a : ℕ). a < n) (get_or_default xs k 0 d l) (inside (get_or xs k 0) (k, l, refl))

pub some-range : (numbers : List ℕ) (ranges : List Range) (members pending : List ℕ) (n : ℕ) → AreMembers numbers ranges members → n ≡ length numbers → ((a : ℕ) → Among pending a → a < n)
    → 0 < length pending → 0 < length ranges
some-range numbers ranges members pending n m is inside some = let a = inside (get_or pending 0 0) (0, some, refl) in let p = (m.each (get_or pending 0 0) (omega arith)).number in omega arith

pub listed-below : (marks : List Bool) (visit nodes : List ℕ) (n : ℕ) → length marks ≡ n → AreMarked marks visit → AreSame visit nodes → All (λ a. a < n) nodes
listed-below marks visit nodes n len m same = all-below nodes n (λ a h. let i = (m.inside a (same.back a h)).0 in omega arith)
