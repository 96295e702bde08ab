-- Where copies are one, what is taken is seen as what it is taken as, and what moves as what stands for it.
use Rattle.std.proofs.Common.{◌≡◌, ◌≢◌, ℕ, suc, ◌<◌, ◌≤◌, ◌&&◌, not, Bool, true, false, List, length, Option, Some, None, refl, sym, ap, subst, ◌∙◌, inl, inr, arith}
use Rattle.std.specs.Prelude.{MatchOption, unwrap_or}
use Rattle.std.specs.Option.{is_some}
use Rattle.std.proofs.lemmas.Bool.{and_from, and_parts, cases_lt}
use Rattle.std.proofs.lemmas.List.{get_or_past}
use Rattle.dwz_def_reading.specs.Lists.{In}
use Rattle.dwz_def_tops.specs.Lists.{Nth}
use Rattle.dwz_def_tops.proofs.Members.{nth_below}
use Rattle.dwz_def_tops.specs.Alike.{Alike, Apart, IsAlike, Movable, refers_to}
use Rattle.dwz_def_tops.specs.Deciding.{Test, alike_test}
use Rattle.dwz_def_tops.specs.Spots.{FileUnit, EntryName, Top, tops_of}
use Rattle.dwz_def_tops.proofs.AlikeLaws.{alike_decides, alike_joins}
use Rattle.dwz_def_tops.proofs.AlikePer.{IsPer, alike_per, alike_step}
use Rattle.dwz_def_tops.proofs.Relations.{step_top, tells_top}
use Rattle.dwz_def_tops.proofs.TopNumbers.{top_at, tops_numbers}
use Rattle.dwz_def_tops.proofs.Targets.{Inside, RefsOfTop, StandsIn, inside, no_address, refers_one, targets_by}
use Rattle.dwz_def_images.specs.Homes.{IsChoice, Rule, candidate, is_home, moves}
use Rattle.dwz_def_images.specs.Moves.{seen_top}
use Rattle.dwz_def_images.specs.Plan.{image_by, stand_in}
use Rattle.dwz_def_images.proofs.GainLemmas.{gain_choice_by}
use Rattle.dwz_def_images.proofs.ImageLemmas.{top_same}
use Rattle.dwz_def_images.proofs.UserLemmas.{Fair, chosen_moves, moves_other, stands_same, two_candidate}
use Rattle.dwz_def_taken.specs.declared.fixed.Fixed.{Fixed}
use Rattle.dwz_def_taken.specs.Beside.{CommonAlike, Reused, look_units, own_tops, together}
use Rattle.dwz_def_taken.specs.Laws.{IsReused}
use Rattle.dwz_def_taken.specs.Over.{copy, move_over}
use Rattle.dwz_def_taken.specs.Takes.{Blocked, CanTakeAlong, InPart, IsFixed, IsImage, IsSplit, IsTaken, IsTakenAs, Takes, free_rule, free_test, image_at, is_blocked, is_free}
use Rattle.dwz_def_taken.proofs.CommonLemmas.{common_between, copy_same, look, look_is, trees_seen}
use Rattle.dwz_def_taken.proofs.LookTops.{own_look, own_number, own_together, part_look, part_number, part_unit_from, together_cases}
use Rattle.dwz_def_taken.proofs.PlaceLemmas.{PartTop, in_part, own_inside, part_inside, part_nth, part_of, part_refers, whole}
use Rattle.dwz_def_taken.proofs.WorldLemmas.{alike_across}

module _ (r : Reused) (fixed : Fixed) (files : List ℕ) (re : IsReused r) (fx : IsFixed r fixed) where
  abbrev pub rule : Rule
  rule = free_rule r fixed

  abbrev pub stand : ℕ → ℕ
  stand n = copy r ((move_over r fixed files).stand n)

  abbrev own : List Top
  own = tops_of r.units

  -- ---- what is taken

  pub image_of : (t : Top) → In t (tops_of r.units) → IsTaken r t → (c : ℕ) × (image_at fixed t.number ≡ Some c) × IsImage r t c
  image_of t there taken = go (image_at fixed t.number) refl (fx.images t (own_together r (whole r re) t there)) where
    go : (o : Option ℕ) → image_at fixed t.number ≡ o → MatchOption o (IsTaken r t → ⊥) (λ n. IsImage r t n) → (c : ℕ) × (image_at fixed t.number ≡ Some c) × IsImage r t c
    go None q none = absurd (none taken)
    go (Some c) q is = (c, q, is)

  pub image_is : (t : Top) → In t (tops_of r.units) → (c : ℕ) → image_at fixed t.number ≡ Some c → IsImage r t c
  image_is t there c e = go (image_at fixed t.number) e (fx.images t (own_together r (whole r re) t there)) where
    go : (o : Option ℕ) → o ≡ Some c → MatchOption o (IsTaken r t → ⊥) (λ n. IsImage r t n) → IsImage r t c
    go None q none = absurd cc
    go (Some d) q is = let same : d ≡ c = cc in subst (IsImage r t) same is

  pub none_taken : (t : Top) → In t (tops_of r.units) → image_at fixed t.number ≡ None → IsTaken r t → ⊥
  none_taken t there e = go (image_at fixed t.number) e (fx.images t (own_together r (whole r re) t there)) where
    go : (o : Option ℕ) → o ≡ None → MatchOption o (IsTaken r t → ⊥) (λ n. IsImage r t n) → IsTaken r t → ⊥
    go None q none = none
    go (Some d) q is = absurd cc

  pub stand_some : (n c : ℕ) → image_at fixed n ≡ Some c → stand n ≡ copy r c
  stand_some n c e = ap (λ (o : Option ℕ). copy r (unwrap_or o (stand_in rule r.units n))) e

  pub stand_none : (n : ℕ) → image_at fixed n ≡ None → stand n ≡ copy r (stand_in rule r.units n)
  stand_none n e = ap (λ (o : Option ℕ). copy r (unwrap_or o (stand_in rule r.units n))) e

  -- ---- what is free

  abbrev alike : Test
  alike = alike_test Apart r.units

  alike_is : IsAlike Apart r.units alike
  alike_is = alike_decides Apart r.units

  pub record FreeTwo (m n : ℕ) : Type 0 where
    pub alike_two : alike_test Apart r.units m n ≡ true
    pub first : is_free fixed m ≡ true
    pub second : is_free fixed n ≡ true

  pub free_two : (m n : ℕ) → free_test r fixed m n ≡ true → FreeTwo m n
  free_two m n e =
      let p = and_parts (alike m n) (is_free fixed m && is_free fixed n) e in
      let q = and_parts (is_free fixed m) (is_free fixed n) p.1 in
      record { alike_two = p.0; first = q.0; second = q.1 }

  pub two_free : (m n : ℕ) → alike_test Apart r.units m n ≡ true → is_free fixed m ≡ true → is_free fixed n ≡ true → free_test r fixed m n ≡ true
  two_free m n a b c = and_from (alike m n) (is_free fixed m && is_free fixed n) a (and_from (is_free fixed m) (is_free fixed n) b c)

  pub free_per : IsPer (free_test r fixed)
  free_per =
      let per = alike_per Apart r.units alike alike_is in
      record {
        turns = λ m n e. (let f = free_two m n e in two_free n m (per.turns m n f.alike_two) f.second f.first);
        joins = λ l m n e k. (let f = free_two l m e in let g = free_two m n k in two_free l n (per.joins l m n f.alike_two g.alike_two) f.first g.second);
      }

  -- what moves is free, and alike to itself
  moving_two : (t : Top) → moves rule r.units t.number ≡ true → (n : ℕ) × FreeTwo t.number n
  moving_two t mv = let o = moves_other r.units rule t.number 0 mv in (o.used_by.top.number, free_two t.number o.used_by.top.number o.used_by.alike_is)

  moving_movable : (t : Top) → moves rule r.units t.number ≡ true → Movable r.units t.number
  moving_movable t mv = let o = moving_two t mv in (alike_is.decides t.number o.0 o.1.alike_two).first

  pub choice : IsChoice r.units rule
  choice = gain_choice_by r.units (free_test r fixed) free_per (λ t there mv m refers.
      let i = refers_one (Inside r.units t.unit) t (inside r.units t there (moving_movable t mv)) m refers in
      (i.stands.top, i.stands.there, i.stands.number))

  pub fair : Fair r.units rule
  fair = record { per = free_per; choice = choice }

  -- the parts of being free
  not_true : (b : Bool) → not b ≡ true → b ≡ false
  not_true true e = absurd cc
  not_true false e = refl

  pub free_none : (n : ℕ) → is_free fixed n ≡ true → image_at fixed n ≡ None
  free_none n e = go (image_at fixed n) refl (not_true (is_some (image_at fixed n)) (and_parts (not (is_some (image_at fixed n))) _ e).0) where
    go : (o : Option ℕ) → image_at fixed n ≡ o → is_some (image_at fixed n) ≡ false → image_at fixed n ≡ None
    go None q h = q
    go (Some c) q h = let k : is_some (image_at fixed n) ≡ true = ap is_some q in absurd cc

  pub free_flag : (n : ℕ) → is_free fixed n ≡ true → is_blocked fixed n ≡ false
  free_flag n e = not_true (is_blocked fixed n) (and_parts (not (is_some (image_at fixed n))) _ e).1

  pub free_by : (n : ℕ) → image_at fixed n ≡ None → is_blocked fixed n ≡ false → is_free fixed n ≡ true
  free_by n p q = and_from (not (is_some (image_at fixed n))) _ (ap (λ (o : Option ℕ). not (is_some o)) p) (ap not q)

  not_blocked : (t : Top) → In t own → is_free fixed t.number ≡ true → (k : ℕ) → Blocked r k t.number → ⊥
  not_blocked t there e k b = let f = free_flag t.number e in let g = (fx.blocked t (own_together r (whole r re) t there)).1 (k, b) in absurd cc

  -- a target of a free top isn't blocked
  target_flag : (t : Top) → In t own → is_free fixed t.number ≡ true → (s : Top) → In s own → refers_to s.number t ≡ true → is_blocked fixed s.number ≡ false
  unfolding Blocked
  target_flag t there e s is refers = go (is_blocked fixed s.number) refl where
    go : (b : Bool) → is_blocked fixed s.number ≡ b → b ≡ false
    go true q = (let k = (fx.blocked s (own_together r (whole r re) s is)).0 q in absurd (not_blocked t there e (suc k.0) (inr (t, s.number, there, refl, refers, k.1))))
    go false q = refl

  pub flag_none : (s : Top) → In s own → is_blocked fixed s.number ≡ false → (k : ℕ) → Blocked r k s.number → ⊥
  flag_none s is e k b = let g = (fx.blocked s (own_together r (whole r re) s is)).1 (k, b) in absurd cc

  -- of two alike tops of one file that aren't blocked one isn't taken alone
  none_both : (a b : Top) → In a own → In b own → alike a.number b.number ≡ true → is_blocked fixed a.number ≡ false → image_at fixed a.number ≡ None
      → image_at fixed b.number ≡ None
  unfolding Blocked
  none_both a b x y e flag none = go (image_at fixed b.number) refl where
    go : (o : Option ℕ) → image_at fixed b.number ≡ o → image_at fixed b.number ≡ None
    go None q = q
    go (Some c) q =
        let d = alike_is.decides a.number b.number e in
        let per = alike_per Apart r.units alike alike_is in
        let self : alike a.number a.number ≡ true = per.joins a.number b.number a.number e (per.turns a.number b.number e) in
        let im = image_is b y c q in
        let split : IsSplit r a.number = record {
          top = a;
          there = x;
          number = refl;
          one = b;
          one_there = y;
          one_file = sym (alike_is.scoped a b x y e);
          one_alike = d;
          taken = (im.top, im.taken);
          other = a;
          other_there = x;
          other_file = refl;
          other_alike = alike_is.decides a.number a.number self;
          left = none_taken a x none;
        } in
        absurd (flag_none a x flag 0 split)

  -- ---- taken tops

  -- tops of the common file stay where they are
  pub moves_none : (n : ℕ) → own_tops r ≤ n → moves rule r.units n ≡ false
  moves_none n low = go (moves rule r.units n) refl where
    go : (b : Bool) → moves rule r.units n ≡ b → moves rule r.units n ≡ false
    go false q = q
    go true q =
        let o = moves_other r.units rule n 0 q in
        let f = free_two n o.used_by.top.number o.used_by.alike_is in
        let d = (alike_is.decides n o.used_by.top.number f.alike_two).first in
        let h = own_number r (whole r re) d.top d.is_top in
        absurd (omega (arith, d.number, h, low))

  -- and aren't taken
  pub common_image : (n : ℕ) → own_tops r ≤ n → image_at fixed n ≡ None
  common_image n low = elim (cases_lt n (length fixed.images)) [
    | inl less ↦ (
        let all = top_at 0 (tops_of (together r)) n (tops_numbers (together r)) (omega arith) (omega (arith, fx.tops, less)) in
        ap (image_at fixed) (sym all.2) ∙ go all.0 all.1 (elim (together_cases r (whole r re) all.0 all.1) [
          | inl a ↦ (let h = own_number r (whole r re) all.0 a in absurd (omega (arith, all.2)))
          | inr b ↦ part_unit_from r (whole r re) all.0 b
        ]) (image_at fixed (all.0).number) refl (fx.images all.0 all.1))
    | inr more ↦ get_or_past fixed.images n None more
  ]
    where
      go : (t : Top) → In t (tops_of (together r)) → length r.units ≤ t.unit → (o : Option ℕ) → image_at fixed t.number ≡ o → MatchOption o (IsTaken r t → ⊥) (IsImage r t)
          → image_at fixed t.number ≡ None
      go t is behind None q none = q
      go t is behind (Some c) q im = let below = im.taken.takes.unit in absurd (omega (arith, behind, below))

  pub common_stand : (n : ℕ) → own_tops r ≤ n → stand n ≡ copy r n
  unfolding stand_in
  common_stand n low = stand_none n (common_image n low) ∙ ap (copy r) (rw (moves_none n low, stand_in) refl)

  -- a taken top stands where the copy of what it is taken as does
  pub taken_stand : (t c : Top) → In t (tops_of r.units) → IsTakenAs r t c → stand t.number ≡ copy r c.number
  taken_stand t c there is =
      let o = image_of t there (c, is) in
      let im = o.2 in
      let between : CommonAlike r im.top.number c.number = common_between r t.number im.top.number c.number im.taken.alike is.alike in
      stand_some t.number o.0 o.1 ∙ ap (copy r) (sym im.number) ∙ copy_same r im.top.number c.number im.taken.alike.common between

  -- what a unit takes: the partial units of the targets of what it takes
  pub takes_on : (u p q : ℕ) (c d : Top) → Takes r u p → InPart r p c → InPart r q d → refers_to d.number c ≡ true → Movable (look_units r) c.number → Takes r u q
  unfolding CanTakeAlong
  takes_on u p q c d takes x y refers free =
      let n = part_nth r re q d y in
      record { unit = takes.unit; part = below n.0 n.1; fits = λ k. (takes.fits (suc k)).1 q (part_refers r re p q c d x y refers free) }
    where
      below : (f : FileUnit EntryName) → Nth 0 r.commons q f → q < length r.commons
      below f h = let l = nth_below 0 r.commons q f h in omega arith

  -- a top of the common file in a partial unit that the unit takes
  pub record TakenPart (unit n : ℕ) : Type 0 where
    pub part : ℕ
    pub takes : Takes r unit part
    pub top : Top
    pub in_part_is : InPart r part top
    pub number : top.number ≡ n

  pub taken_seen : (t c : Top) → In t (tops_of r.units) → IsTakenAs r t c → seen_top (image_by stand) t ≡ seen_top (image_by stand) c
  taken_seen t c there is =
      let w = whole r re in
      let common = in_part r re is.part c is.in_part in
      let own_like = (own_look r w t there).like in
      let part_like = part_look r w c common in
      let targets = targets_by (PartTop r re) (TakenPart t.unit) c
      (λ n refers pt. (let q = part_of r re pt.top pt.there in record {
        part = q.0;
        takes = takes_on t.unit is.part q.0 c pt.top is.takes is.in_part q.1 (subst (λ (i : ℕ). refers_to i c ≡ true) (sym pt.number) refers) is.alike.alike.second;
        top = pt.top;
        in_part_is = q.1;
        number = pt.number;
      }))
      (part_inside r re c common is.alike.alike.second) in
      trees_seen r stand (StandsIn own t.unit) (TakenPart t.unit) step t c own_like part_like is.alike.alike (own_inside r re t there is.alike.alike.first) targets
      (taken_stand t c there is ∙ sym (common_stand c.number is.alike.common)) (re.own.tops_named t there) (re.all.tops_named c is.in_part.0)
    where
      step : (m n : ℕ) → StandsIn own t.unit m → TakenPart t.unit n → look r m n ≡ true → stand m ≡ stand n
      step m n s d e =
          let low : own_tops r ≤ d.top.number = part_number r (whole r re) d.top (in_part r re d.part d.top d.in_part_is) in
          let both : Alike (look_units r) s.top.number d.top.number =
          subst (λ (i : ℕ). Alike (look_units r) i d.top.number) (sym s.number) (subst (Alike (look_units r) m) (sym d.number) ((look_is r).decides m n e)) in
          let as' : IsTakenAs r s.top d.top = record {
            part = d.part;
            takes = subst (λ (i : ℕ). Takes r i d.part) (sym s.unit_is) d.takes;
            in_part = d.in_part_is;
            alike = record { common = low; alike = both };
          } in
          ap stand (sym s.number) ∙ taken_stand s.top d.top s.there as' ∙ sym (common_stand d.top.number low) ∙ ap stand d.number

  -- ---- moving tops

  -- a target of a top, which is one of its unit and which it refers to
  abbrev Target : Top → ℕ → Type 0
  Target t m = Inside r.units t.unit m × (refers_to m t ≡ true)

  targets_of : (t : Top) → In t own → Movable r.units t.number → RefsOfTop (Target t) t
  targets_of t there free = targets_by (Inside r.units t.unit) (Target t) t (λ m refers i. (i, refers)) (inside r.units t there free)

  -- the targets of free tops that are alike: both are taken, or both are free
  pub data Both (m n : ℕ) : Type 0 where
    BothTaken : (a b : ℕ) → image_at fixed m ≡ Some a → image_at fixed n ≡ Some b → Both m n
    BothFree : image_at fixed m ≡ None → image_at fixed n ≡ None → free_test r fixed m n ≡ true → Both m n

  both_of : (t u : Top) → In t own → In u own → is_free fixed t.number ≡ true → is_free fixed u.number ≡ true → (m n : ℕ) → Target t m → Target u n → alike m n ≡ true → Both m n
  both_of t u x y free free' m n p q e =
      let a = p.0.stands.top in
      let b = q.0.stands.top in
      let ea : a.number ≡ m = p.0.stands.number in
      let eb : b.number ≡ n = q.0.stands.number in
      let flag_a = target_flag t x free a p.0.stands.there (subst (λ (i : ℕ). refers_to i t ≡ true) (sym ea) p.1) in
      let flag_b = target_flag u y free' b q.0.stands.there (subst (λ (i : ℕ). refers_to i u ≡ true) (sym eb) q.1) in
      let same : alike a.number b.number ≡ true = subst (λ (i : ℕ). alike i b.number ≡ true) (sym ea) (subst (λ (i : ℕ). alike m i ≡ true) (sym eb) e) in
      let turned = (alike_per Apart r.units alike alike_is).turns a.number b.number same in
      subst (λ (i : ℕ). Both i n) ea (subst (Both a.number) eb
      (go a b p.0.stands.there q.0.stands.there same turned flag_a flag_b (image_at fixed a.number) refl (image_at fixed b.number) refl))
    where
      go : (a b : Top) → In a own → In b own → alike a.number b.number ≡ true → alike b.number a.number ≡ true → is_blocked fixed a.number ≡ false
          → is_blocked fixed b.number ≡ false → (o : Option ℕ) → image_at fixed a.number ≡ o → (w : Option ℕ) → image_at fixed b.number ≡ w → Both a.number b.number
      go a b z v same turned fa fb (Some c) k (Some d) l = BothTaken c d k l
      go a b z v same turned fa fb None k w l =
          let other = none_both a b z v same fa k in
          BothFree k other (two_free a.number b.number same (free_by a.number k fa) (free_by b.number other fb))
      go a b z v same turned fa fb (Some c) k None l = let other = none_both b a v z turned fb l in absurd cc

  -- a target that is free has users in two units, so that it moves
  abbrev Goes : Top → ℕ → Type 0
  Goes t m = Inside r.units t.unit m × (image_at fixed m ≡ None → moves rule r.units m ≡ true)

  targets_go : (t : Top) → In t own → moves rule r.units t.number ≡ true → RefsOfTop (Goes t) t
  targets_go t there mv =
      let o = moves_other r.units rule t.number t.unit mv in
      let u = o.used_by.top in
      let f = free_two t.number u.number o.used_by.alike_is in
      let d = alike_is.decides t.number u.number f.alike_two in
      let apart : t.unit ≢ u.unit = λ same. o.apart (sym o.used_by.unit_is ∙ sym same) in
      let homes : RefsOfTop (λ m. Inside r.units t.unit m × (image_at fixed m ≡ None → is_home (candidate (free_test r fixed) r.units m) ≡ true)) t =
      tells_top (Target u) (λ m n. Inside r.units t.unit m × (image_at fixed m ≡ None → is_home (candidate (free_test r fixed) r.units m) ≡ true))
      (λ m. Inside r.units t.unit m × (image_at fixed m ≡ None → is_home (candidate (free_test r fixed) r.units m) ≡ true)) (λ m n h. h) t u (targets_of u o.used_by.there d.second)
      (step_top (Target t) (Target u) (λ m n. alike m n ≡ true) (λ m n. Inside r.units t.unit m × (image_at fixed m ≡ None → is_home (candidate (free_test r fixed) r.units m) ≡ true))
      (λ m n p q e. (p.0, (λ none. home_of m n p.0 q.0 apart none (both_of t u there o.used_by.there f.first f.second m n p q e))))
      t u (targets_of t there d.first) (targets_of u o.used_by.there d.second) (alike_step Apart r.units alike alike_is t u there o.used_by.there f.alike_two)) in
      targets_by (λ m. Inside r.units t.unit m × (image_at fixed m ≡ None → is_home (candidate (free_test r fixed) r.units m) ≡ true)) (Goes t) t
      (λ m refers h. (h.0, (λ none. chosen_moves r.units rule m (choice.targets t there mv m refers) (h.1 none)))) homes
    where
      home_of : (m n : ℕ) → {a b : ℕ} → Inside r.units a m → Inside r.units b n → a ≢ b → image_at fixed m ≡ None → Both m n → is_home (candidate (free_test r fixed) r.units m) ≡ true
      home_of m n i j ne none (BothTaken c d k l) = absurd cc
      home_of m n i j ne none (BothFree k l e) =
          let test = free_test r fixed in
          let self : test m m ≡ true = free_per.joins m n m e (free_per.turns m n e) in
          two_candidate test r.units m i.stands.top j.stands.top i.stands.there j.stands.there (ap (test m) i.stands.number ∙ self) (ap (test m) j.stands.number ∙ e)
          (λ same. ne (sym i.stands.unit_is ∙ same ∙ j.stands.unit_is))

  -- what moves is seen as what is alike to it and free
  pub moving_seen : (t u : Top) → In t (tops_of r.units) → In u (tops_of r.units) → moves (free_rule r fixed) r.units t.number ≡ true → free_test r fixed t.number u.number ≡ true
      → seen_top (image_by stand) t ≡ seen_top (image_by stand) u
  moving_seen t u x y mv e =
      let f = free_two t.number u.number e in
      let d = alike_is.decides t.number u.number f.alike_two in
      let P : ℕ → Type 0 = λ m. Target t m × Goes t m in
      let targets : RefsOfTop P t = targets_by (Goes t) P t (λ m refers g. ((g.0, refers), g)) (targets_go t x mv) in
      let stands = step_top P (Target u) (λ m n. alike m n ≡ true) (λ m n. stand m ≡ stand n)
      (λ m n p q same. one m n p.1.0 p.1.1 q.0 same (both_of t u x y f.first f.second m n p.0 q same))
      t u targets (targets_of u y d.second) (alike_step Apart r.units alike alike_is t u x y f.alike_two) in
      top_same stand (Target u) t u (moving_stand t u x mv e f) (re.own.tops_named t x) (re.own.tops_named u y) (no_address r.units t x d.first) (no_address r.units u y d.second) (targets_of u y d.second) stands
    where
      moving_stand : (t u : Top) → In t own → moves rule r.units t.number ≡ true → free_test r fixed t.number u.number ≡ true → FreeTwo t.number u.number → stand t.number ≡ stand u.number
      moving_stand t u x mv e f = stand_none t.number (free_none t.number f.first) ∙ ap (copy r) (stands_same r.units rule fair t.number u.number t x refl e mv)
          ∙ sym (stand_none u.number (free_none u.number f.second))

      one : (m n : ℕ) → {a b : ℕ} → Inside r.units a m → (image_at fixed m ≡ None → moves rule r.units m ≡ true) → Inside r.units b n → alike m n ≡ true → Both m n → stand m ≡ stand n
      one m n i go j same (BothFree k l e) =
          stand_none m k ∙ ap (copy r) (stands_same r.units rule fair m n i.stands.top i.stands.there i.stands.number e (go k)) ∙ sym (stand_none n l)
      one m n i go j same (BothTaken c d k l) =
          let a = i.stands.top in
          let b = j.stands.top in
          let ia = image_is a i.stands.there c (ap (image_at fixed) i.stands.number ∙ k) in
          let ib = image_is b j.stands.there d (ap (image_at fixed) j.stands.number ∙ l) in
          let ma : Movable (look_units r) m = subst (Movable (look_units r)) i.stands.number ia.taken.alike.alike.first in
          let mb : Movable (look_units r) n = subst (Movable (look_units r)) j.stands.number ib.taken.alike.alike.first in
          let across = alike_across r re m n (alike_is.decides m n same) ma mb in
          let ca : CommonAlike r m ia.top.number = subst (λ (w : ℕ). CommonAlike r w ia.top.number) i.stands.number ia.taken.alike in
          let cb : CommonAlike r n ib.top.number = subst (λ (w : ℕ). CommonAlike r w ib.top.number) j.stands.number ib.taken.alike in
          let to_b : CommonAlike r m ib.top.number = record { common = cb.common; alike = alike_joins (look_units r) m n ib.top.number across cb.alike } in
          stand_some m c k ∙ ap (copy r) (sym ia.number) ∙ copy_same r ia.top.number ib.top.number ca.common (common_between r m ia.top.number ib.top.number ca to_b)
          ∙ ap (copy r) ib.number ∙ sym (stand_some n d l)
