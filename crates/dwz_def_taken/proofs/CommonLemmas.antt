-- Alike tops across files and a finished common file: their trees are seen the same, and copies in the common file are one.
use Rattle.std.proofs.Common.{◌≡◌, ℕ, ◌≤◌, true, List, sym, subst}
use Rattle.std.proofs.lemmas.Bool.{and_from, and_parts, le-leb}
use Rattle.std.specs.Prelude.{nat_le}
use Rattle.dwz_def_tops.specs.Alike.{Alike, IsAlike, Together}
use Rattle.dwz_def_tops.specs.Deciding.{Test, alike_test}
use Rattle.dwz_def_tops.specs.Spots.{FileUnit, LabelledTop, EntryName, Top, name_list, tops_of}
use Rattle.dwz_def_tops.proofs.AlikeLaws.{alike_decides, alike_joins, alike_self, alike_turns}
use Rattle.dwz_def_tops.proofs.AlikePer.{IsPer, alike_per, alike_step}
use Rattle.dwz_def_tops.proofs.Relations.{step_top}
use Rattle.dwz_def_tops.proofs.Targets.{RefsOfTop, no_address}
use Rattle.dwz_def_images.specs.Moves.{seen_top}
use Rattle.dwz_def_images.specs.Plan.{image_by}
use Rattle.dwz_def_images.proofs.ImageLemmas.{top_same}
use Rattle.dwz_def_images.proofs.UserLemmas.{rep_same}
use Rattle.dwz_def_taken.specs.Beside.{CommonAlike, Reused, look_units, own_tops}
use Rattle.dwz_def_taken.specs.Over.{common_test, copy}
use Rattle.dwz_def_taken.proofs.LookTops.{LikeIn, as_like, like_there}

pub le_true : (m n : ℕ) → m ≤ n → nat_le m n ≡ true
le_true m n h = le-leb m n h

module _ (r : Reused) where
  abbrev world : List (FileUnit EntryName)
  world = look_units r

  abbrev pub look : Test
  look = alike_test Together (look_units r)

  pub look_is : IsAlike Together (look_units r) look
  look_is = alike_decides Together (look_units r)

  -- ---- the test and the relation

  alike_at : (m n m' n' : ℕ) → m ≡ m' → n ≡ n' → Alike world m n → Alike world m' n'
  alike_at m n m' n' p q h = subst (λ (i : ℕ). Alike world i n') p (subst (λ (i : ℕ). Alike world m i) q h)

  pub looks_true : (m n : ℕ) → Alike (look_units r) m n → look m n ≡ true
  looks_true m n h =
      let a = h.first.top in
      let b = h.second.top in
      let e : look a.number b.number ≡ true = look_is.decided a b h.first.is_top h.second.is_top tt (alike_at m n a.number b.number (sym h.first.number) (sym h.second.number) h) in
      subst (λ (i : ℕ). look i n ≡ true) h.first.number (subst (λ (i : ℕ). look a.number i ≡ true) h.second.number e)

  -- ---- trees

  -- where alike targets have one image, so have alike tops, and they are seen the same
  pub trees_seen : (stand : ℕ → ℕ) (P Q : ℕ → Type 0) → ((m n : ℕ) → P m → Q n → look m n ≡ true → stand m ≡ stand n) → (a b : Top) → LikeIn a (tops_of (look_units r)) → LikeIn b (tops_of (look_units r))
      → Alike (look_units r) a.number b.number → RefsOfTop P a → RefsOfTop Q b → stand a.number ≡ stand b.number → LabelledTop a → LabelledTop b
      → seen_top (image_by stand) a ≡ seen_top (image_by stand) b
  trees_seen stand P Q step a b x y h p q e l k =
      let a' = as_like a x.top.file x.top.unit x.top.language in
      let b' = as_like b y.top.file y.top.unit y.top.language in
      let there_a = like_there a (tops_of world) x in
      let there_b = like_there b (tops_of world) y in
      let same = alike_step Together world look look_is a' b' there_a there_b (looks_true a.number b.number h) in
      let stands = step_top P Q (λ m n. look m n ≡ true) (λ m n. stand m ≡ stand n) step a' b' p q same in
      top_same stand Q a' b' e l k (no_address world a' there_a h.first) (no_address world b' there_b h.second) q stands

  pub alike_names : (a b : Top) → LikeIn a (tops_of (look_units r)) → LikeIn b (tops_of (look_units r)) → Alike (look_units r) a.number b.number → name_list a ≡ name_list b
  alike_names a b x y h =
      let a' = as_like a x.top.file x.top.unit x.top.language in
      let b' = as_like b y.top.file y.top.unit y.top.language in
      (alike_step Together world look look_is a' b' (like_there a (tops_of world) x) (like_there b (tops_of world) y) (looks_true a.number b.number h)).1

  -- ---- copies

  pub common_per : IsPer (common_test r)
  common_per =
      let per = alike_per Together world look look_is in
      record {
        turns = λ m n e. (
            let p = and_parts (look m n) _ e in
            let q = and_parts (nat_le (own_tops r) m) (nat_le (own_tops r) n) p.1 in
            and_from (look n m) _ (per.turns m n p.0) (and_from (nat_le (own_tops r) n) (nat_le (own_tops r) m) q.1 q.0));
        joins = λ l m n e f. (
            let p = and_parts (look l m) _ e in
            let q = and_parts (nat_le (own_tops r) l) (nat_le (own_tops r) m) p.1 in
            let s = and_parts (look m n) _ f in
            let t = and_parts (nat_le (own_tops r) m) (nat_le (own_tops r) n) s.1 in
            and_from (look l n) _ (per.joins l m n p.0 s.0) (and_from (nat_le (own_tops r) l) (nat_le (own_tops r) n) q.0 t.1));
      }

  both_common : (m n : ℕ) → own_tops r ≤ m → own_tops r ≤ n → Alike (look_units r) m n → common_test r m n ≡ true
  both_common m n p q h = and_from (look m n) _ (looks_true m n h) (and_from (nat_le (own_tops r) m) (nat_le (own_tops r) n) (le_true (own_tops r) m p) (le_true (own_tops r) n q))

  -- alike tops of the common file have one copy
  pub copy_same : (m n : ℕ) → own_tops r ≤ m → CommonAlike r m n → copy r m ≡ copy r n
  copy_same m n low h =
      let a = h.alike.first in
      let self = both_common m m low low (alike_self world m a) in
      rep_same (common_test r) common_per world m n a.top a.is_top (subst (λ (i : ℕ). common_test r m i ≡ true) (sym a.number) self) (both_common m n low h.common h.alike)

  -- two tops of the common file to which one top is alike are alike
  pub common_between : (t m n : ℕ) → CommonAlike r t m → CommonAlike r t n → CommonAlike r m n
  common_between t m n a b = record { common = b.common; alike = alike_joins world m t n (alike_turns world t m a.alike) b.alike }
