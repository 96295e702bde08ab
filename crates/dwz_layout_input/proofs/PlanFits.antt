-- The plan of an outline shows that of the units, and fits the files.
use Rattle.std.proofs.Common.{◌≡◌, ℕ, ◌<◌, ◌^◌, All, List, length, subst, ◌∙◌, arith}
use Rattle.dwz_def_reading.specs.Documents.{Doc}
use Rattle.dwz_def_tops.specs.Alike.{IsAlike}
use Rattle.dwz_def_tops.specs.Deciding.{alike_test}
use Rattle.dwz_def_tops.specs.Spots.{units_of}
use Rattle.dwz_def_tops.proofs.AlikeLaws.{alike_decides}
use Rattle.dwz_def_images.specs.Homes.{IsChoice}
use Rattle.dwz_def_images.proofs.GainLemmas.{gain_choice}
use Rattle.dwz_groups.specs.declared.tops.Tops.{Tops}
use Rattle.dwz_plan.specs.declared.plan.Scope.{Scope}
use Rattle.dwz_plan.specs.declared.plan.Scope.TheVariants.{Each, Together as AllTogether}
use Rattle.dwz_plan.specs.Gained.{IsPlanOf}
use Rattle.dwz_plan.specs.Planned.{Planned}
use Rattle.dwz_plan.specs.Rows.{given}
use Rattle.dwz_plan.specs.Shows.{HaveLeast, ShowsPlan}
use Rattle.dwz_plan.proofs.GainedLemmas.{plan_gained}
use Rattle.dwz_plan.proofs.OnePlan.{whole_plan}
use Rattle.dwz_plan.proofs.RowLemmas.{length-rows_from}
use Rattle.dwz_label.specs.Nodes.{AreLeast}
use Rattle.dwz_label_files.proofs.PlanLemmas.{decides_apart, decides_together}
use Rattle.dwz_move_files.specs.Outlines.{IsOutline}
use Rattle.dwz_layout_input.specs.Fits.{FitsFiles, StayApart}
use Rattle.dwz_layout_input.specs.Rules.{alike_scope, rule_by}
use Rattle.dwz_layout_input.proofs.OutlineNeeds.{least_many, rows_many, units_many}
use Rattle.dwz_layout_input.proofs.PartHomes.{files_low, own_files}
use Rattle.dwz_layout_input.proofs.PartsFew.{parts_few, tops_low, users_low}

pub alike_is : (sharing : Scope) (docs : List (Doc ℕ)) → IsAlike (alike_scope sharing) (units_of docs) (rule_by sharing docs).alike
alike_is sharing docs = alike_decides (alike_scope sharing) (units_of docs)

pub choice_is : (sharing : Scope) (docs : List (Doc ℕ)) → IsChoice (units_of docs) (rule_by sharing docs)
choice_is sharing docs = gain_choice (alike_scope sharing) (units_of docs) (alike_test (alike_scope sharing) (units_of docs)) (alike_is sharing docs)

decides : (sharing : Scope) (docs : List (Doc ℕ)) (tops : Tops) (least : List ℕ) → IsOutline docs tops → AreLeast (units_of docs) least
    → HaveLeast sharing tops least (alike_test (alike_scope sharing) (units_of docs))
decides AllTogether docs tops least o are = decides_together (units_of docs) tops least o.shows o.movable are
decides Each docs tops least o are = decides_apart (units_of docs) tops least o.shows o.movable are

stay_apart : (sharing : Scope) (docs : List (Doc ℕ)) (plan : Planned) → ShowsPlan (rule_by sharing docs) (units_of docs) (length docs) plan → StayApart sharing (length docs) plan.partials
stay_apart AllTogether docs plan shows = tt
stay_apart Each docs plan shows = own_files (rule_by Each docs) (units_of docs) (length docs) plan (alike_is Each docs) shows

-- the plan is made of an outline with the number of files, and of least alike tops
pub record IsMade (sharing : Scope) (docs : List (Doc ℕ)) (tops : Tops) (least : List ℕ) (plan : Planned) : Type 0 where
  pub outline : IsOutline docs tops
  pub files : tops.files ≡ length docs
  pub few_rows : length tops.rows < 2 ^ 32
  pub few_units : length tops.files_of_units < 2 ^ 32
  pub are : AreLeast (units_of docs) least
  pub is_plan : IsPlanOf (given sharing tops least) plan

module _ (sharing : Scope) (docs : List (Doc ℕ)) (tops : Tops) (least : List ℕ) (plan : Planned) (made : IsMade sharing docs tops least plan) where
  pub plan_shows : ShowsPlan (rule_by sharing docs) (units_of docs) (length docs) plan
  plan_shows =
      let test = alike_test (alike_scope sharing) (units_of docs) in
      let is = made.is_plan in
      subst (λ (n : ℕ). ShowsPlan (rule_by sharing docs) (units_of docs) n plan) made.files
      (plan_gained (units_of docs) test sharing tops least made.outline.shows (decides sharing docs tops least made.outline made.are) is.0 is.1 plan is.2)

  pub plan_fits : FitsFiles sharing docs tops plan
  plan_fits =
      let is = made.is_plan in
      let many = rows_many docs tops made.outline in
      let len = least_many docs tops least made.outline made.are in
      let whole = whole_plan (given sharing tops least) plan is in
      let rows = length-rows_from tops.files_of_units 0 tops.rows least len in
      let all : length tops.files_of_units ≡ length (units_of docs) = units_many docs tops made.outline in
      let few = parts_few sharing tops least len plan is in
      record {
        rows = many;
        few_rows = made.few_rows;
        few_units = omega (arith, all, made.few_units);
        files = made.files;
        homes = whole.homes ∙ rows ∙ many;
        stand_ins = whole.stand_ins ∙ rows ∙ many;
        kept = whole.kept ∙ all;
        imports = whole.imports ∙ all;
        few_parts = few;
        parts_of_files = files_low (rule_by sharing docs) (units_of docs) (length docs) plan plan_shows;
        apart = stay_apart sharing docs plan plan_shows;
        users = subst (λ (n : ℕ). All (λ part. All (λ u. u < n) part.users) plan.partials) all (users_low sharing tops least len plan is);
        tops_held = subst (λ (n : ℕ). All (λ part. All (λ t. t < n) part.tops) plan.partials) many (tops_low sharing tops least len plan is);
      }
