-- Files that are written are counted in order, so that the rank of each is how many are written before it.
use Rattle.std.proofs.Common.{◌≡◌, ℕ, zero, suc, ◌+◌, ◌<◌, ◌≤◌, Bool, true, false, cond, List, [], ◌∷◌, ◌++◌, length, map, drop, get_or, Option, Some, None, slice_get, refl, sym, ap, subst, ◌∙◌}
use Rattle.std.proofs.Common.{arith}
use Rattle.std.specs.List.{filter}
use Rattle.std.proofs.lemmas.Bool.{false≢true}
use Rattle.std.proofs.lemmas.List.{append-nil, append_assoc, drop_all, get_or_default, length-map}
use Rattle.dwz_def_reading.proofs.ListFacts.{drop_next, got_below, got_there}
use Rattle.dwz_def_reading.specs.Documents.{Doc}
use Rattle.dwz_def_tops.specs.Spots.{file_numbers}
use Rattle.dwz_def_tops.proofs.FileNumbers.{numbers_long}
use Rattle.dwz_def_images.specs.Units.{changes}
use Rattle.dwz_law_layout.specs.Beside.{Beside}
use Rattle.dwz_law_layout.specs.Facts.{RunFacts, docs, files_written, move, units, written}
use Rattle.dwz_run_files.specs.Prepared.{AreRanks, IsRank}

-- the ranks of those whose flags are set, the first of which has that one
abbrev pub ranks_from : ℕ → List Bool → List (Option ℕ)
ranks_from next [] = []
ranks_from next (true ∷ flags) = Some next ∷ ranks_from (suc next) flags
ranks_from next (false ∷ flags) = None ∷ ranks_from next flags

-- ---- flag by flag

pub record Ranking (flags : List Bool) (i next : ℕ) (ranks : List (Option ℕ)) : Type 0 where
  pub found : ranks ++ ranks_from next (drop i flags) ≡ ranks_from 0 flags
  pub few : next ≤ i

pub ranking_first : (flags : List Bool) (ranks : List (Option ℕ)) → ranks ≡ [] → Ranking flags 0 0 ranks
ranking_first flags ranks none = record { found = ap (λ (w : List (Option ℕ)). w ++ ranks_from 0 flags) none; few = omega arith }

flag_next : (flags : List Bool) (i : ℕ) (d b : Bool) → i < length flags → get_or flags i d ≡ b → drop i flags ≡ b ∷ drop (i + 1) flags
flag_next flags i d b lt is = drop_next flags i b lt (sym is ∙ get_or_default flags i d b lt)

pub rank_put : (flags : List Bool) (i next : ℕ) (d : Bool) (old new : List (Option ℕ)) → i < length flags → get_or flags i d ≡ true
    → new ≡ old ++ Some next ∷ [] → Ranking flags i next old
    → Ranking flags (i + 1) (next + 1) new
rank_put flags i next d old new lt is put h =
    let one : next + 1 ≡ suc next = omega arith in
    let few = h.few in
    record {
      found =
          ap (λ (w : List (Option ℕ)). w ++ ranks_from (next + 1) (drop (i + 1) flags)) put
          ∙ append_assoc old (Some next ∷ []) (ranks_from (next + 1) (drop (i + 1) flags))
          ∙ ap (λ (n : ℕ). old ++ (Some next ∷ ranks_from n (drop (i + 1) flags))) one
          ∙ ap (λ (w : List Bool). old ++ ranks_from next w) (sym (flag_next flags i d true lt is))
          ∙ h.found;
      few = omega arith;
    }

pub none_put : (flags : List Bool) (i next : ℕ) (d : Bool) (old new : List (Option ℕ)) → i < length flags → get_or flags i d ≡ false
    → new ≡ old ++ None ∷ [] → Ranking flags i next old
    → Ranking flags (i + 1) next new
none_put flags i next d old new lt is put h =
    let few = h.few in
    record {
      found =
          ap (λ (w : List (Option ℕ)). w ++ ranks_from next (drop (i + 1) flags)) put
          ∙ append_assoc old (None ∷ []) (ranks_from next (drop (i + 1) flags))
          ∙ ap (λ (w : List Bool). old ++ ranks_from next w) (sym (flag_next flags i d false lt is))
          ∙ h.found;
      few = omega arith;
    }

pub ranking_end : (flags : List Bool) (i next : ℕ) (ranks : List (Option ℕ)) → length flags ≤ i → Ranking flags i next ranks
    → ranks ≡ ranks_from 0 flags
ranking_end flags i next ranks le h =
    sym (append-nil ranks) ∙ sym (ap (λ (w : List Bool). ranks ++ ranks_from next w) (drop_all i flags le)) ∙ h.found

pub ranks_many : (next : ℕ) (flags : List Bool) → length (ranks_from next flags) ≡ length flags
ranks_many next [] = refl
ranks_many next (true ∷ flags) = ap suc (ranks_many (suc next) flags)
ranks_many next (false ∷ flags) = ap suc (ranks_many next flags)

-- ---- numbers that pass a test, before which so many did

module _ (p : ℕ → Bool) where
  pub record KeptAt (kept : List ℕ) (before n rank : ℕ) : Type 0 where
    pub test : p n ≡ true
    pub place : ℕ
    pub rank_is : rank ≡ before + place
    pub there : slice_get kept place ≡ Some n

  abbrev pub IsRankIn : List ℕ → ℕ → ℕ → Option ℕ → Type 0
  IsRankIn kept before n None = p n ≡ false
  IsRankIn kept before n (Some rank) = KeptAt kept before n rank

  later : (kept : List ℕ) (m before n : ℕ) (o : Option ℕ) → IsRankIn kept (suc before) n o → IsRankIn (m ∷ kept) before n o
  later kept m before n None h = h
  later kept m before n (Some rank) h =
      record { test = h.test; place = suc h.place; rank_is = (let r = h.rank_is in omega arith); there = h.there }

  kept_here : (kept : List ℕ) (m before n : ℕ) (o : Option ℕ) → p m ≡ true → Some m ≡ Some n → Some (Some before) ≡ Some o
      → IsRankIn (m ∷ kept) before n o
  kept_here kept m before n o is here got =
      let same : m ≡ n = cc in
      let rank : Some before ≡ o = cc in
      subst (IsRankIn (m ∷ kept) before n) rank (record { test = ap p (sym same) ∙ is; place = 0; rank_is = omega arith; there = here })

  left_here : (kept : List ℕ) (m before n : ℕ) (o : Option ℕ) → p m ≡ false → Some m ≡ Some n
      → slice_get (ranks_from before (false ∷ [])) 0 ≡ Some o → IsRankIn kept before n o
  left_here kept m before n o is here got =
      let same : m ≡ n = cc in
      let rank : None ≡ o = cc in
      subst (IsRankIn kept before n) rank (ap p (sym same) ∙ is)

  pub rank_found : (ns : List ℕ) (before i n : ℕ) (o : Option ℕ) → slice_get ns i ≡ Some n
      → slice_get (ranks_from before (map p ns)) i ≡ Some o → IsRankIn (filter p ns) before n o
  rank_found [] before i n o here got = absurd cc
  rank_found (m ∷ ns) before i n o here got = by (λ some j here got. rank_found ns some j n o here got) (p m) refl i here got where
    by : ((some j : ℕ) → slice_get ns j ≡ Some n → slice_get (ranks_from some (map p ns)) j ≡ Some o → IsRankIn (filter p ns) some n o)
        → (b : Bool) → p m ≡ b → (j : ℕ)
        → slice_get (m ∷ ns) j ≡ Some n → slice_get (ranks_from before (b ∷ map p ns)) j ≡ Some o
        → IsRankIn (cond b (m ∷ filter p ns) (filter p ns)) before n o
    by rest true is zero here got = kept_here (filter p ns) m before n o is here got
    by rest true is (suc j) here got = later (filter p ns) m before n o (rest (suc before) j here got)
    by rest false is zero here got = left_here (filter p ns) m before n o is here got
    by rest false is (suc j) here got = rest before j here got

  -- where one of those that pass stands among all
  pub record StandsAt (ns : List ℕ) (before place n : ℕ) : Type 0 where
    pub at : ℕ
    pub there : slice_get ns at ≡ Some n
    pub test : p n ≡ true
    pub rank : slice_get (ranks_from before (map p ns)) at ≡ Some (Some (before + place))

  pub stands_at : (ns : List ℕ) (before place n : ℕ) → slice_get (filter p ns) place ≡ Some n → StandsAt ns before place n
  stands_at [] before place n e = absurd cc
  stands_at (m ∷ ns) before place n e = by (λ some j e. stands_at ns some j n e) (p m) refl place e where
    by : ((some j : ℕ) → slice_get (filter p ns) j ≡ Some n → StandsAt ns some j n) → (b : Bool) → p m ≡ b → (j : ℕ)
        → slice_get (cond b (m ∷ filter p ns) (filter p ns)) j ≡ Some n
        → StandsAt (m ∷ ns) before j n
    by rest true is zero e =
        let same : m ≡ n = cc in
        let none : before ≡ before + 0 = omega arith in
        record {
          at = 0;
          there = e;
          test = ap p (sym same) ∙ is;
          rank = ap (λ (b : Bool). slice_get (ranks_from before (b ∷ map p ns)) 0) is ∙ ap (λ (r : ℕ). Some (Some r)) none;
        }
    by rest true is (suc j) e =
        let r = rest (suc before) j e in
        let next : suc before + j ≡ before + suc j = omega arith in
        record {
          at = suc r.at;
          there = r.there;
          test = r.test;
          rank = ap (λ (b : Bool). slice_get (ranks_from before (b ∷ map p ns)) (suc r.at)) is ∙ r.rank
              ∙ ap (λ (w : ℕ). Some (Some w)) next;
        }
    by rest false is j e =
        let r = rest before j e in
        record {
          at = suc r.at;
          there = r.there;
          test = r.test;
          rank = ap (λ (b : Bool). slice_get (ranks_from before (b ∷ map p ns)) (suc r.at)) is ∙ r.rank;
        }

-- ---- numbers of files

number_at : (s : ℕ) (docs : List (Doc ℕ)) (i : ℕ) → i < length docs → slice_get (file_numbers s docs) i ≡ Some (s + i)
unfolding file_numbers
number_at s [] i lt = absurd (omega arith)
number_at s (d ∷ docs) zero lt = (let none : s ≡ s + 0 = omega arith in ap (λ (w : ℕ). Some w) none)
number_at s (d ∷ docs) (suc i) lt =
    (let next : suc s + i ≡ s + suc i = omega arith in number_at (suc s) docs i (omega arith) ∙ ap (λ (w : ℕ). Some w) next)

number_is : (s : ℕ) (docs : List (Doc ℕ)) (i n : ℕ) → slice_get (file_numbers s docs) i ≡ Some n → (n ≡ s + i) × (i < length docs)
unfolding file_numbers
number_is s [] i n e = absurd cc
number_is s (d ∷ docs) zero n e = (let same : s ≡ n = cc in omega arith, omega arith)
number_is s (d ∷ docs) (suc i) n e =
    let r = number_is (suc s) docs i n e in
    let is = r.0 in
    let low = r.1 in
    (omega arith, omega arith)

-- ---- the files of a run

module _ {beside : Beside} (f : RunFacts beside) where
  is_rank : (n : ℕ) (o : Option ℕ) → IsRankIn (changes (move f) (units f)) (files_written f) 0 n o → IsRank f n o
  is_rank n None h = h
  is_rank n (Some rank) h =
      (let is = h.rank_is in let same : h.place ≡ rank = omega arith in (h.test, ap (slice_get (files_written f)) (sym same) ∙ h.there))

  pub ranks_so : (flags : List Bool) (ranks : List (Option ℕ)) → flags ≡ written f → ranks ≡ ranks_from 0 flags → AreRanks f ranks
  ranks_so flags ranks is are =
      let p = changes (move f) (units f) in
      let ns = file_numbers 0 (docs f) in
      let so : ranks ≡ ranks_from 0 (map p ns) = are ∙ ap (ranks_from 0) is in
      let many : length (ranks_from 0 (map p ns)) ≡ length (docs f) = ranks_many 0 (map p ns) ∙ length-map ns p ∙ numbers_long 0 (docs f) in
      subst (AreRanks f) (sym so) (record {
        many = many;
        each = λ n o got. (
            let low = got_below (ranks_from 0 (map p ns)) n o got in
            let none : 0 + n ≡ n = omega arith in
            let here : slice_get ns n ≡ Some n = number_at 0 (docs f) n (omega (arith, low, many)) ∙ ap (λ (w : ℕ). Some w) none in
            is_rank n o (rank_found p ns 0 n n o here got));
      })

  same_rank : (n rank : ℕ) (o : Option ℕ) → IsRank f n o → slice_get (files_written f) rank ≡ Some n → o ≡ Some rank
  same_rank n rank None h e =
      absurd (false≢true (sym h ∙ (stands_at (changes (move f) (units f)) (file_numbers 0 (docs f)) 0 rank n e).test))
  same_rank n rank (Some other) h e =
      let p = changes (move f) (units f) in
      let ns = file_numbers 0 (docs f) in
      let a = stands_at p ns 0 rank n e in
      let b = stands_at p ns 0 other n h.1 in
      let ia = (number_is 0 (docs f) a.at n a.there).0 in
      let ib = (number_is 0 (docs f) b.at n b.there).0 in
      let same : b.at ≡ a.at = omega arith in
      let both : Some (Some (0 + other)) ≡ Some (Some (0 + rank)) = sym b.rank ∙ ap (slice_get (ranks_from 0 (map p ns))) same ∙ a.rank in
      let one : 0 + other ≡ 0 + rank = cc in
      let is : other ≡ rank = omega arith in
      ap (λ (w : ℕ). Some w) is

  -- a file that is written has its rank
  pub rank_of_written : (ranks : List (Option ℕ)) → AreRanks f ranks → (n rank : ℕ) → slice_get (files_written f) rank ≡ Some n
      → slice_get ranks n ≡ Some (Some rank)
  rank_of_written ranks are n rank e =
      let a = stands_at (changes (move f) (units f)) (file_numbers 0 (docs f)) 0 rank n e in
      let at = number_is 0 (docs f) a.at n a.there in
      let is = at.0 in
      let low = at.1 in
      let many = are.many in
      let r = got_there ranks n (omega arith) in
      r.1 ∙ ap (λ (w : Option ℕ). Some w) (same_rank n rank r.0 (are.each n r.0 r.1) e)
