-- What moves refers only to what moves; so it is seen equal to what stands for it.
use Rattle.std.proofs.Common.{◌≡◌, ◌≢◌, ℕ, true, List, refl, sym, ap, subst, ◌∙◌}
use Rattle.dwz_def_reading.specs.Lists.{In}
use Rattle.dwz_def_tops.specs.Alike.{IsAlike, SameTop, TopScope, refers_to}
use Rattle.dwz_def_tops.specs.Deciding.{Test}
use Rattle.dwz_def_tops.specs.Spots.{EntryName, FileUnit, LabelledTop, Top, tops_of}
use Rattle.dwz_def_plan.specs.Homes.{IsChoice, Rule, candidate, is_home, moves, users}
use Rattle.dwz_def_plan.specs.Plan.{image_by, stand_in}
use Rattle.dwz_def_tops.proofs.AlikePer.{alike_per, alike_step}
use Rattle.dwz_def_tops.proofs.Relations.{step_top, tells_top}
use Rattle.dwz_def_tops.proofs.Targets.{Inside, RefsOfTop, inside, no_address, refers_one, targets_by}
use Rattle.dwz_def_plan.proofs.ImageLemmas.{seen_top, top_same}
use Rattle.dwz_def_plan.proofs.UserLemmas.{Fair, chosen_moves, moves_other, stands_same, two_candidate, used, used_by}

module _ (scope : TopScope) (units : List (FileUnit EntryName)) (alike : Test) (is : IsAlike scope units alike) where
  abbrev Target : ℕ → ℕ → Type 0
  Target unit m = Inside units unit m × (is_home (candidate alike units m) ≡ true)

  -- two alike trees, whose references stay in their units: targets have users in both
  both_move : (a b : Top) → In a (tops_of units) → In b (tops_of units) → alike a.number b.number ≡ true → a.unit ≢ b.unit → SameTop (λ m n. Target a.unit m) a b
  both_move a b x y e ne =
      let per = alike_per scope units alike is in
      let d = is.decides a.number b.number e in
      step_top (Inside units a.unit) (Inside units b.unit) (λ m n. alike m n ≡ true) (λ m n. Target a.unit m)
      (λ m n u v r. (
        u,
        (let self : alike m m ≡ true = per.joins m n m r (per.turns m n r) in
            two_candidate alike units m u.stands.top v.stands.top u.stands.there v.stands.there (ap (alike m) u.stands.number ∙ self) (ap (alike m) v.stands.number ∙ r)
            (λ same. ne (sym u.stands.unit_is ∙ same ∙ v.stands.unit_is))),
      ))
      a b (inside units a x d.first) (inside units b y d.second) (alike_step scope units alike is a b x y e)

  -- the targets of what has alike tops in two units have too
  pub targets_home : (a b : Top) → In a (tops_of units) → In b (tops_of units) → alike a.number b.number ≡ true → a.unit ≢ b.unit
      → RefsOfTop (λ m. Inside units a.unit m × (is_home (candidate alike units m) ≡ true)) a
  targets_home a b x y e ne =
      let d = is.decides a.number b.number e in
      tells_top (Inside units b.unit) (λ m n. Target a.unit m) (Target a.unit) (λ m n h. h) a b (inside units b y d.second) (both_move a b x y e ne)

  -- and have an alike top in each unit that has one of it
  pub targets_used : (a : Top) → In a (tops_of units) → (unit : ℕ) → In unit (users alike units a.number) → RefsOfTop (λ m. In unit (users alike units m)) a
  targets_used a x unit user =
      let u = used_by alike units a.number unit user in
      let d = is.decides a.number u.top.number u.alike_is in
      tells_top (Inside units u.top.unit) (λ m n. In unit (users alike units m)) (λ m. In unit (users alike units m)) (λ m n h. h) a u.top (inside units u.top u.there d.second)
      (step_top (Inside units a.unit) (Inside units u.top.unit) (λ m n. alike m n ≡ true) (λ m n. In unit (users alike units m))
      (λ m n p q r. subst (λ (w : ℕ). In w (users alike units m)) (q.stands.unit_is ∙ u.unit_is) (used alike units m q.stands.top q.stands.there (ap (alike m) q.stands.number ∙ r)))
      a u.top (inside units a x d.first) (inside units u.top u.there d.second) (alike_step scope units alike is a u.top x u.there u.alike_is))

  pub target_used : (t : Top) → In t (tops_of units) → (m : ℕ) → refers_to m t ≡ true → (unit : ℕ) → In unit (users alike units t.number) → In unit (users alike units m)
  target_used t there m refers unit user = refers_one (λ n. In unit (users alike units n)) t (targets_used t there unit user) m refers

-- what a moving top refers to has a home, and is a top of its unit
pub target_home : (scope : TopScope) (units : List (FileUnit EntryName)) (rule : Rule) → IsAlike scope units rule.alike → (a : Top) → In a (tops_of units) → moves rule units a.number ≡ true
    → RefsOfTop (λ m. Inside units a.unit m × (is_home (candidate rule.alike units m) ≡ true)) a
target_home scope units rule is a x mv =
    let o = moves_other units rule a.number a.unit mv in
    targets_home scope units rule.alike is a o.used_by.top x o.used_by.there o.used_by.alike_is (λ same. o.apart (sym o.used_by.unit_is ∙ sym same))

module _ (scope : TopScope) (units : List (FileUnit EntryName)) (rule : Rule) (is : IsAlike scope units rule.alike) (choice : IsChoice units rule) where
  pub fair : Fair units rule
  fair = record { per = alike_per scope units rule.alike is; choice = choice }

  abbrev Moves : ℕ → ℕ → Type 0
  Moves unit m = Inside units unit m × (moves rule units m ≡ true)

  -- the targets of what moves move
  pub targets_move : (a : Top) → In a (tops_of units) → moves rule units a.number ≡ true → RefsOfTop (λ m. Inside units a.unit m × (moves rule units m ≡ true)) a
  targets_move a x mv =
      targets_by (λ m. Inside units a.unit m × (is_home (candidate rule.alike units m) ≡ true)) (Moves a.unit) a
      (λ m refers h. (h.0, chosen_moves units rule m (choice.targets a x mv m refers) h.1)) (target_home scope units rule is a x mv)

  -- a top that moves is seen as one that is alike to it
  pub stand_seen : ((t : Top) → In t (tops_of units) → LabelledTop t) → (a r : Top) → In a (tops_of units) → In r (tops_of units) → moves rule units a.number ≡ true
      → rule.alike a.number r.number ≡ true
      → seen_top (image_by (stand_in rule units)) a ≡ seen_top (image_by (stand_in rule units)) r
  stand_seen labelled a r x y mv e =
      let d = is.decides a.number r.number e in
      let stand = stand_in rule units in
      let within = inside units r y d.second in
      let stands = step_top (Moves a.unit) (Inside units r.unit) (λ m n. rule.alike m n ≡ true) (λ m n. stand m ≡ stand n)
      (λ m n u v same. stands_same units rule fair m n u.0.stands.top u.0.stands.there u.0.stands.number same u.1)
      a r (targets_move a x mv) within (alike_step scope units rule.alike is a r x y e) in
      top_same stand (Inside units r.unit) a r (stands_same units rule fair a.number r.number a x refl e mv) (labelled a x) (labelled r y) (no_address units a x d.first)
      (no_address units r y d.second) within stands

  -- a reference of what moves
  pub target_moves : (t : Top) → In t (tops_of units) → moves rule units t.number ≡ true → (m : ℕ) → refers_to m t ≡ true
      → (moves rule units m ≡ true) × ((unit : ℕ) → In unit (users rule.alike units t.number) → In unit (users rule.alike units m))
  target_moves t there mv m refers = (
    (refers_one (Moves t.unit) t (targets_move t there mv) m refers).1,
    target_used scope units rule.alike is t there m refers,
  )
